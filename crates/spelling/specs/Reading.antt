-- Reading of a program's bits, from the first to the last, to a list of nodes or to a refusal with its place (this project's own).
use Rattle.std.specs.Prelude.{ℕ, zero, suc, ◌+◌, ◌-◌, ◌*◌, ◌/◌, ◌^◌, Bool, true, false, cond, ◌&&◌, ◌||◌, nat_lt, nat_le, List, [], ◌∷◌, ◌++◌, length, Option, Some, slice_get}
use Rattle.simplicity.specs.Nodes as node
use Rattle.simplicity.specs.Nodes.{Node, children}
use Rattle.simplicity.specs.Spelling.{byte_bits}
use Rattle.simplicity.specs.Limits.{most_nodes}

-- a refusal: at a bit, counted from the program's first, or at a node
pub data Refusal : Type 0 where
  EndOfBits : (at : ℕ) → Refusal
  NaturalTooLarge : (at : ℕ) → Refusal
  TooManyNodes : Refusal
  JetCode : (at : ℕ) → Refusal
  Disconnect : (at : ℕ) → Refusal
  Reserved : (at : ℕ) → Refusal
  BadDistance : (index : ℕ) → Refusal
  WordTooWide : (index : ℕ) → Refusal
  HiddenPlace : (index : ℕ) → Refusal
  BothHidden : (index : ℕ) → Refusal
  HiddenRoot : Refusal
  BadPadding : (at : ℕ) → Refusal

-- what a reading comes to: a value, with the number of bits read so far and the bits left, or a refusal
pub data Read (A : Type 0) : Type 0 where
  Got : (value : A) (at : ℕ) (rest : List Bool) → Read A
  Refused : (refusal : Refusal) → Read A

-- a reading, from the number of bits read before and the bits left
abbrev pub Reading : Type 0 → Type 0
Reading A = ℕ → List Bool → Read A

-- the first reading, then what its value calls for
abbrev pub then : {A B : Type 0} → Read A → (A → Reading B) → Read B
then (Got a at rest) f = f a at rest
then (Refused r) f = Refused r

-- nothing more is read
abbrev pub give : {A : Type 0} → A → Reading A
give a at bits = Got a at bits

-- the value where the test holds, or else the refusal
abbrev pub give_if : {A : Type 0} → Bool → Refusal → A → Reading A
give_if b r a at bits = cond b (Got a at bits) (Refused r)

-- a bit, and a number of n bits, the most significant first
abbrev pub one_bit : Reading Bool
one_bit at [] = Refused (EndOfBits at)
one_bit at (b ∷ bits) = Got b (suc at) bits

abbrev pub number : ℕ → Reading ℕ
number zero at bits = Got 0 at bits
number (suc n) at bits = then (one_bit at bits) (λ b at' bits'. then (number n at' bits') (λ m. give (cond b (2 ^ n) 0 + m)))

-- a natural: 0 is one; after 1 stands the natural n, and then m in n bits, of 2 ^ n + m; each n must be below 32
abbrev pub power : ℕ → ℕ → Reading ℕ
power start n at bits = then (give_if (nat_lt n 32) (NaturalTooLarge start) n at bits) (λ n' at' bits'. then (number n' at' bits') (λ m. give (2 ^ n' + m)))

abbrev pub natural_from : ℕ → Reading ℕ
natural_from start at [] = Refused (EndOfBits at)
natural_from start at (false ∷ bits) = Got 1 (suc at) bits
natural_from start at (true ∷ bits) = then (natural_from start (suc at) bits) (power start)

abbrev pub read_natural : Reading ℕ
read_natural at bits = natural_from at at bits

-- n bytes
abbrev pub read_bytes : ℕ → Reading (List ℕ)
read_bytes zero at bits = Got [] at bits
read_bytes (suc n) at bits = then (number 8 at bits) (λ b at' bits'. then (read_bytes n at' bits') (λ bs. give (b ∷ bs)))

-- 1. the number of nodes
abbrev pub read_count : Reading ℕ
read_count at bits = then (read_natural at bits) (λ n. give_if (nat_le n most_nodes) TooManyNodes n)

-- 3. a distance, from the node at an index to its child's
abbrev pub read_child : ℕ → Reading ℕ
read_child i at bits = then (read_natural at bits) (λ d. give_if (nat_le d i) (BadDistance i) (i - d))

abbrev pub one_child : ℕ → (ℕ → Node) → Reading Node
one_child i make at bits = then (read_child i at bits) (λ l. give (make l))

abbrev pub two_children : ℕ → (ℕ → ℕ → Node) → Reading Node
two_children i make at bits = then (read_child i at bits) (λ l at' bits'. then (read_child i at' bits') (λ r. give (make l r)))

-- 4. the n of a word, and the bits that a node carries
abbrev pub read_level : ℕ → Reading ℕ
read_level i at bits = then (read_natural at bits) (λ n. give_if (nat_le (n - 1) 8) (WordTooWide i) (n - 1))

abbrev pub read_word : ℕ → Reading Node
read_word i at bits = then (read_level i at bits) (λ k at' bits'. then (number (2 ^ k) at' bits') (λ n. give (node.Word k n)))

abbrev pub carried : ℕ → (List ℕ → Node) → Reading Node
carried n make at bits = then (read_bytes n at bits) (λ bs. give (make bs))

-- 2. a node's code, and then the rest of the node, at an index
abbrev pub read_node : ℕ → Reading Node
read_node i at (false ∷ false ∷ false ∷ false ∷ false ∷ bits) = two_children i node.Comp (at + 5) bits
read_node i at (false ∷ false ∷ false ∷ false ∷ true ∷ bits) = two_children i node.Case (at + 5) bits
read_node i at (false ∷ false ∷ false ∷ true ∷ false ∷ bits) = two_children i node.Pair (at + 5) bits
read_node i at (false ∷ false ∷ false ∷ true ∷ true ∷ bits) = Refused (Disconnect at)
read_node i at (false ∷ false ∷ true ∷ false ∷ false ∷ bits) = one_child i node.Injl (at + 5) bits
read_node i at (false ∷ false ∷ true ∷ false ∷ true ∷ bits) = one_child i node.Injr (at + 5) bits
read_node i at (false ∷ false ∷ true ∷ true ∷ false ∷ bits) = one_child i node.Take (at + 5) bits
read_node i at (false ∷ false ∷ true ∷ true ∷ true ∷ bits) = one_child i node.Drop (at + 5) bits
read_node i at (false ∷ true ∷ false ∷ false ∷ false ∷ bits) = Got node.Iden (at + 5) bits
read_node i at (false ∷ true ∷ false ∷ false ∷ true ∷ bits) = Got node.UnitNode (at + 5) bits
read_node i at (false ∷ true ∷ false ∷ true ∷ false ∷ bits) = carried 64 node.Fail (at + 5) bits
read_node i at (false ∷ true ∷ false ∷ true ∷ true ∷ bits) = Refused (Reserved at)
read_node i at (false ∷ true ∷ true ∷ false ∷ bits) = carried 32 node.Hidden (at + 4) bits
read_node i at (false ∷ true ∷ true ∷ true ∷ bits) = Got node.Witness (at + 4) bits
read_node i at (true ∷ false ∷ bits) = read_word i (at + 2) bits
read_node i at (true ∷ true ∷ bits) = Refused (JetCode at)
read_node i at short = Refused (EndOfBits (at + length short))

-- 5. hidden children: of a case alone, and never both
abbrev pub is_hidden : Option Node → Bool
is_hidden (Some (node.Hidden h)) = true
is_hidden _ = false

abbrev pub some_hidden : List Node → List ℕ → Bool
some_hidden ns [] = false
some_hidden ns (i ∷ is) = is_hidden (slice_get ns i) || some_hidden ns is

abbrev pub in_place : List Node → Node → Reading Node
in_place ns (node.Case l r) at bits = cond (is_hidden (slice_get ns l) && is_hidden (slice_get ns r)) (Refused (BothHidden (length ns))) (Got (node.Case l r) at bits)
in_place ns n at bits = cond (some_hidden ns (children n)) (Refused (HiddenPlace (length ns))) (Got n at bits)

-- so many nodes after these, one after the other
abbrev pub read_nodes : ℕ → List Node → Reading (List Node)
read_nodes zero ns at bits = Got ns at bits
read_nodes (suc more) ns at bits = then (read_node (length ns) at bits) (λ n at' bits'.
    then (in_place ns n at' bits') (λ n' at'' bits''. read_nodes more (ns ++ n' ∷ []) at'' bits''))

-- 6. the root, and the padding
abbrev pub shown_root : List Node → Reading (List Node)
shown_root ns at bits = cond (is_hidden (slice_get ns (length ns - 1))) (Refused HiddenRoot) (Got ns at bits)

abbrev pub padding_after : {A : Type 0} → ℕ → ℕ → A → Reading A
padding_after end seen a at [] = cond (nat_lt seen 8) (Got a at []) (Refused (BadPadding (8 * ((end + 7) / 8))))
padding_after end seen a at (true ∷ bits) = Refused (BadPadding at)
padding_after end seen a at (false ∷ bits) = padding_after end (suc seen) a (suc at) bits

abbrev pub padding : {A : Type 0} → A → Reading A
padding a at bits = padding_after at 0 a at bits

-- the whole, in this order
abbrev pub read_list : Reading (List Node)
read_list at bits = then (read_count at bits) (λ count at' bits'. then (read_nodes count [] at' bits') shown_root)

abbrev pub read_program : List ℕ → Read (List Node)
read_program bytes = then (read_list 0 (byte_bits bytes)) padding
