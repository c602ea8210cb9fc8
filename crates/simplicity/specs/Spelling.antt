-- The bits of a program (Simplicity Technical Report, "Serialization"; the padding is this project's own).
use Rattle.std.specs.Prelude.{◌≡◌, ℕ, zero, suc, ◌+◌, ◌-◌, ◌/◌, ◌^◌, ◌<◌, Bool, true, false, List, [], ◌∷◌, ◌++◌, length, replicate}
use Rattle.simplicity.specs.Types.{Kind, Value, AreOf, code, is_odd}
use Rattle.simplicity.specs.Nodes.{Node, IsPlaced, HasRoot}
use Rattle.simplicity.specs.Nodes as node
use Rattle.simplicity.specs.Carried.{AreCarried}

-- the last n bits of a number, the most significant first
abbrev pub number_bits : ℕ → ℕ → List Bool
number_bits zero x = []
number_bits (suc n) x = is_odd (x / 2 ^ n) ∷ number_bits n x

-- the n for which 2 ^ n ≤ x < 2 ^ (n + 1), by halving; 0 for 0
abbrev pub log2_next : (ℕ → ℕ) → ℕ → ℕ
log2_next log2 zero = 0
log2_next log2 (suc half) = suc (log2 (suc half))

abbrev pub log2_within : ℕ → ℕ → ℕ
log2_within zero x = 0
log2_within (suc turns) x = log2_next (log2_within turns) (x / 2)

abbrev pub log2 : ℕ → ℕ
log2 x = log2_within x x

-- the code of a natural from 1 up: of 1 it is 0; of 2 ^ n + m, with m below 2 ^ n, it is 1, the code of n, and m in n bits
abbrev pub natural_next : (ℕ → List Bool) → ℕ → ℕ → List Bool
natural_next code x zero = false ∷ []
natural_next code x (suc n) = true ∷ (code (suc n) ++ number_bits (suc n) (x - 2 ^ suc n))

abbrev pub natural_within : ℕ → ℕ → List Bool
natural_within zero x = []
natural_within (suc turns) x = natural_next (natural_within turns) x (log2 x)

abbrev pub natural : ℕ → List Bool
natural x = natural_within x x

-- the same code, as a relation by cases
pub data IsNatural : ℕ → List Bool → Type 0 where
  NaturalOne : IsNatural 1 (false ∷ [])
  NaturalPower : (x n m : ℕ) (code_of_n bits : List Bool) → 0 < n → m < 2 ^ n → x ≡ 2 ^ n + m → IsNatural n code_of_n →
      bits ≡ true ∷ (code_of_n ++ number_bits n m) → IsNatural x bits

-- the bits of bytes
abbrev pub byte_bits : List ℕ → List Bool
byte_bits [] = []
byte_bits (b ∷ bs) = number_bits 8 b ++ byte_bits bs

-- a node's bits at an index: its code, its children's distances, the bits that it carries
abbrev pub node_bits : ℕ → Node → List Bool
node_bits i (node.Comp l r) = number_bits 5 0 ++ (natural (i - l) ++ natural (i - r))
node_bits i (node.Case l r) = number_bits 5 1 ++ (natural (i - l) ++ natural (i - r))
node_bits i (node.Pair l r) = number_bits 5 2 ++ (natural (i - l) ++ natural (i - r))
node_bits i (node.Injl t) = number_bits 5 4 ++ natural (i - t)
node_bits i (node.Injr t) = number_bits 5 5 ++ natural (i - t)
node_bits i (node.Take t) = number_bits 5 6 ++ natural (i - t)
node_bits i (node.Drop t) = number_bits 5 7 ++ natural (i - t)
node_bits i node.Iden = number_bits 5 8
node_bits i node.UnitNode = number_bits 5 9
node_bits i (node.Fail e) = number_bits 5 10 ++ byte_bits e
node_bits i (node.Hidden h) = number_bits 4 6 ++ byte_bits h
node_bits i node.Witness = number_bits 4 7
node_bits i (node.Word k n) = number_bits 2 2 ++ (natural (k + 1) ++ number_bits (2 ^ k) n)

-- the bits of the nodes from an index on
abbrev pub nodes_bits : ℕ → List Node → List Bool
nodes_bits i [] = []
nodes_bits i (n ∷ ns) = node_bits i n ++ nodes_bits (i + 1) ns

-- the bits of a program: the number of its nodes, then the nodes
abbrev pub program_bits : List Node → List Bool
program_bits ns = natural (length ns) ++ nodes_bits 0 ns

-- the bits in whole bytes, with fewer than eight zeros after them
pub record IsPadded (bytes : List ℕ) (bits : List Bool) : Type 0 where
  pub zeros : ℕ
  pub few : zeros < 8
  pub same : byte_bits bytes ≡ bits ++ replicate zeros false

-- the bytes spell the list
pub record Spelled (bytes : List ℕ) (ns : List Node) : Type 0 where
  pub placed : IsPlaced ns
  pub rooted : HasRoot ns
  pub carried : AreCarried ns
  pub padded : IsPadded bytes (program_bits ns)

-- the compact codes of values, one after the other
abbrev pub codes_of : List Value → List Bool
codes_of [] = []
codes_of (v ∷ vs) = code v ++ codes_of vs

-- the bytes are the stream of these values, each of the type at its place
pub record IsStream (bytes : List ℕ) (types : List Kind) (values : List Value) : Type 0 where
  pub typed : AreOf values types
  pub padded : IsPadded bytes (codes_of values)
