-- Bytes that spell no list.
use Rattle.std.proofs.Common.{◌≡◌, refl, ap, ℕ, zero, suc, ◌-◌, ◌^◌, ◌<◌, Bool, true, false, List, [], ◌∷◌, ◌++◌, length, replicate, arith}
use Rattle.simplicity.specs.Nodes as node
use Rattle.simplicity.specs.Nodes.{Node, CanFollow}
use Rattle.simplicity.specs.Spelling.{number_bits, natural, node_bits, program_bits, Spelled, log2}
use Rattle.simplicity.proofs.Naturals.{natural_step, log2_bounds}

-- the code of a number from 2 up begins with 1
log_positive : (x n : ℕ) → 1 < x → log2 x ≡ n → 0 < n
log_positive x zero h e =
    let bounds = log2_bounds x (omega arith) in
    let power : 2 ^ log2 x ≡ 1 = ap (λ k. 2 ^ k) e in
    omega (arith, bounds.1, power)
log_positive x (suc n) h e = omega arith

first_bit : (x : ℕ) → 1 < x → natural x ≡ true ∷ (natural (log2 x) ++ number_bits (log2 x) (x - 2 ^ log2 x))
first_bit x h =
    let bounds = log2_bounds x (omega arith) in
    natural_step x (log2 x) (log_positive x (log2 x) h refl) bounds.0 bounds.1

-- bits that begin with 0 are those of one node at most
one_node : (n m : Node) (ns : List Node) (us vs : List Bool) → false ∷ us ≡ program_bits (n ∷ m ∷ ns) ++ vs → ⊥
one_node n m ns us vs e =
    let count : 1 < length (n ∷ m ∷ ns) = omega arith in
    let begins = first_bit (length (n ∷ m ∷ ns)) count in
    absurd (cc)

-- 0010 0101 is one unit node, and then no padding
unit_tail : (zeros : ℕ) → false ∷ true ∷ [] ≡ replicate zeros false → ⊥
unit_tail zero e = absurd (cc)
unit_tail (suc zero) e = absurd (cc)
unit_tail (suc (suc n)) e = absurd (cc)

not_unit : (n : Node) (z : ℕ) → CanFollow [] n → false ∷ true ∷ false ∷ false ∷ true ∷ false ∷ true ∷ [] ≡ (node_bits 0 n ++ []) ++ replicate z false → ⊥
not_unit node.UnitNode z h e = unit_tail z cc
not_unit node.Iden z h e = absurd (cc)
not_unit (node.Injl i) z h e = elim h [ ]
not_unit (node.Injr i) z h e = elim h [ ]
not_unit (node.Take i) z h e = elim h [ ]
not_unit (node.Drop i) z h e = elim h [ ]
not_unit (node.Comp i j) z h e = elim h.0 [ ]
not_unit (node.Case i j) z h e = elim h [ ]
not_unit (node.Pair i j) z h e = elim h.0 [ ]
not_unit (node.Hidden b) z h e = absurd (cc)
not_unit (node.Fail b) z h e = absurd (cc)
not_unit node.Witness z h e = absurd (cc)
not_unit (node.Word k n) z h e = absurd (cc)

padded_wrong : (ns : List Node) → Spelled (0x25 ∷ []) ns → ⊥
padded_wrong [] s = absurd (let some : 0 < 0 = s.rooted.1 in omega arith)
padded_wrong (n ∷ []) s =
    let e : false ∷ false ∷ true ∷ false ∷ false ∷ true ∷ false ∷ true ∷ [] ≡ false ∷ ((node_bits 0 n ++ []) ++ replicate s.padded.zeros false) = s.padded.same in
    not_unit n s.padded.zeros s.placed.0 cc
padded_wrong (n ∷ m ∷ ns) s = one_node n m ns (false ∷ true ∷ false ∷ false ∷ true ∷ false ∷ true ∷ []) (replicate s.padded.zeros false) s.padded.same

-- 0110 0000 is one node with the code of a jet, which no node has
not_jet : (n : Node) (vs : List Bool) → true ∷ true ∷ false ∷ false ∷ false ∷ false ∷ false ∷ [] ≡ (node_bits 0 n ++ []) ++ vs → ⊥
not_jet node.Iden vs e = absurd (cc)
not_jet node.UnitNode vs e = absurd (cc)
not_jet (node.Injl i) vs e = absurd (cc)
not_jet (node.Injr i) vs e = absurd (cc)
not_jet (node.Take i) vs e = absurd (cc)
not_jet (node.Drop i) vs e = absurd (cc)
not_jet (node.Comp i j) vs e = absurd (cc)
not_jet (node.Case i j) vs e = absurd (cc)
not_jet (node.Pair i j) vs e = absurd (cc)
not_jet (node.Hidden b) vs e = absurd (cc)
not_jet (node.Fail b) vs e = absurd (cc)
not_jet node.Witness vs e = absurd (cc)
not_jet (node.Word k n) vs e = absurd (cc)

jet_refused : (ns : List Node) → Spelled (0x60 ∷ []) ns → ⊥
jet_refused [] s = absurd (let some : 0 < 0 = s.rooted.1 in omega arith)
jet_refused (n ∷ []) s =
    let e : false ∷ true ∷ true ∷ false ∷ false ∷ false ∷ false ∷ false ∷ [] ≡ false ∷ ((node_bits 0 n ++ []) ++ replicate s.padded.zeros false) = s.padded.same in
    not_jet n (replicate s.padded.zeros false) cc
jet_refused (n ∷ m ∷ ns) s = one_node n m ns (true ∷ true ∷ false ∷ false ∷ false ∷ false ∷ false ∷ []) (replicate s.padded.zeros false) s.padded.same

-- no bytes are no program
nothing_spelled : (ns : List Node) → Spelled [] ns → ⊥
nothing_spelled [] s = absurd (let some : 0 < 0 = s.rooted.1 in omega arith)
nothing_spelled (n ∷ []) s =
    let e : [] ≡ false ∷ ((node_bits 0 n ++ []) ++ replicate s.padded.zeros false) = s.padded.same in
    absurd (cc)
nothing_spelled (n ∷ m ∷ ns) s =
    let e : [] ≡ program_bits (n ∷ m ∷ ns) ++ replicate s.padded.zeros false = s.padded.same in
    let begins = first_bit (length (n ∷ m ∷ ns)) (omega arith) in
    absurd (cc)
