-- Nodes by class: a node's key is its kind with its children's classes, its arrow and, for a witness, its own number.
use Rattle.std.specs.Prelude.{◌≡◌, ℕ, ◌^◌, ◌≤◌, ◌<◌, List, length, map, Option, Some, slice_get}
use Rattle.std.specs.List.{range_with_len, slice_index_or}
use Rattle.simplicity.specs.Nodes.{Node}
use Rattle.simplicity.specs.Nodes as node
use Rattle.simplicity.specs.Pruning.{renamed}
use Rattle.simplicity.specs.Widths.{level_of}
use Rattle.sharing.specs.Images.{images}
use Rattle.term_core.specs.declared.list_node.ListNode.{ListNode}
use Rattle.term_core.specs.declared.list_node.ListNode.TheVariants as code
use Rattle.term_core.specs.Nodes.{node_of}
use Rattle.infer_cells.specs.declared.typing.NodeArrow.{NodeArrow}
use Rattle.share_order.specs.declared.classes.NodeKey.{NodeKey}

pub record Key (A : Type 0) : Type 0 where
  pub node : Node
  pub arrow : A
  pub number : ℕ

-- the index of a witness, zero for any other node
abbrev pub number_for : Node → ℕ → ℕ
number_for node.Witness i = i
number_for _ i = 0

-- the place that the list has for an index
abbrev pub place_at : List ℕ → ℕ → ℕ
place_at places i = slice_index_or places i 0

-- the key of a node as it stands, and with its children's places changed
abbrev pub own_key : {A : Type 0} → ℕ → Node → A → Key A
own_key i n a = record { node = n; arrow = a; number = number_for n i }

abbrev pub key_for : {A : Type 0} → (ℕ → ℕ) → ℕ → Node → A → Key A
key_for f i n a = own_key i (renamed f n) a

-- a word's width is that of its level
abbrev pub IsWide : ListNode → Type 0
IsWide (code.Word w) = w.width ≡ 2 ^ level_of w.width
IsWide _ = Unit {0}

-- the key that the code's key is
abbrev pub key_of : NodeKey → Key (Option NodeArrow)
key_of k = record { node = node_of k.node; arrow = k.arrow; number = k.number }

abbrev pub keys_of : List NodeKey → List (Key (Option NodeArrow))
keys_of ks = map key_of ks

abbrev pub nodes_in : {A : Type 0} → List (Key A) → List Node
nodes_in ks = map (λ k. k.node) ks

abbrev pub arrows_in : {A : Type 0} → List (Key A) → List A
arrows_in ks = map (λ k. k.arrow) ks

-- no key stands twice
abbrev pub KeysDiffer : {A : Type 0} → List (Key A) → Type 0
KeysDiffer {A} ks = (i j : ℕ) (k : Key A) → i < j → slice_get ks i ≡ Some k → slice_get ks j ≡ Some k → ⊥

-- the classes of the first nodes of a list: each node's key is that of its class, and the classes come in their order
pub record Classes (A : Type 0) (ns : List Node) (arrows : List A) (keys : List (Key A)) (places : List ℕ) : Type 0 where
  pub within : length places ≤ length ns
  pub each : (i : ℕ) (n : Node) (a : A) → i < length places → slice_get ns i ≡ Some n → slice_get arrows i ≡ Some a →
      slice_get keys (place_at places i) ≡ Some (key_for (place_at places) i n a)
  pub plain : (j : ℕ) (k : Key A) → slice_get keys j ≡ Some k → (k.node ≡ node.Witness → ⊥) → k.number ≡ 0
  pub in_order : images (place_at places) (range_with_len 0 (length places)) ≡ range_with_len 0 (length keys)
