-- The worked programs spelled, ordered and unfolded, checked by computing.
use Rattle.std.proofs.Common.{◌≡◌, refl, ℕ, ◌<◌, List, [], ◌∷◌, ◌++◌, replicate, true, false, arith}
use Rattle.std.specs.List.{list_all}
use Rattle.simplicity.proofs.Carries.{carries, carried_by}
use Rattle.simplicity.specs.Types.{UnitValue, Inl, Inr, Pair, One, Sum, Product, word_kind, word_value, shrink}
use Rattle.simplicity.specs.Nodes.{Node, tree_of, IsPlaced, HasRoot}
use Rattle.simplicity.specs.Terms as term
use Rattle.simplicity.specs.Order.{IsOrdered, IsInPlace}
use Rattle.simplicity.specs.Spelling.{Spelled, IsStream, byte_bits, program_bits}
use Rattle.simplicity.proofs.Rows.{empty_nodes, empty_bytes, same_nodes, same_bytes, second_nodes, second_bytes, swap_nodes, swap_bytes, five_nodes, five_bytes, assert_nodes, assert_bytes, endless_nodes, endless_bytes, loose_nodes, loose_bytes, fail_root, byte}

-- bytes that hold a list's bits and so many zeros spell it
pub spells : (bytes : List ℕ) (ns : List Node) (zeros : ℕ) → IsPlaced ns → HasRoot ns → zeros < 8 →
    byte_bits bytes ≡ program_bits ns ++ replicate zeros false → list_all carries ns ≡ true → Spelled bytes ns
spells bytes ns zeros placed rooted few same fits = record { placed = placed; rooted = rooted; carried = carried_by ns fits; padded = record { zeros = zeros; few = few; same = same } }

pub empty_spelled : Spelled empty_bytes empty_nodes
empty_spelled = spells empty_bytes empty_nodes 2 (tt, tt) (tt, omega arith) (omega arith) refl refl

pub same_spelled : Spelled same_bytes same_nodes
same_spelled = spells same_bytes same_nodes 2 (tt, tt) (tt, omega arith) (omega arith) refl refl

pub second_spelled : Spelled second_bytes second_nodes
second_spelled = spells second_bytes second_nodes 2 (tt, (tt, tt)) (tt, omega arith) (omega arith) refl refl

pub swap_spelled : Spelled swap_bytes swap_nodes
swap_spelled = spells swap_bytes swap_nodes 6 (tt, (tt, (tt, ((tt, tt), tt)))) (tt, omega arith) (omega arith) refl refl

pub five_spelled : Spelled five_bytes five_nodes
five_spelled = spells five_bytes five_nodes 7 (tt, (tt, ((tt, tt), tt))) (tt, omega arith) (omega arith) refl refl

pub assert_spelled : Spelled assert_bytes assert_nodes
assert_spelled =
    spells assert_bytes assert_nodes 7
    (tt, (tt, ((tt, tt), (tt, (tt, (tt, ((tt, tt), ((tt, tt), (tt, (tt, ((tt, tt), tt)))))))))))
    (tt, omega arith) (omega arith) refl refl

pub endless_spelled : Spelled endless_bytes endless_nodes
endless_spelled = spells endless_bytes endless_nodes 1 (tt, (tt, ((tt, tt), tt))) (tt, omega arith) (omega arith) refl refl

pub loose_spelled : Spelled loose_bytes loose_nodes
loose_spelled = spells loose_bytes loose_nodes 3 (tt, (tt, tt)) (tt, omega arith) (omega arith) refl refl

-- each in its order, but the list whose first node isn't reached
pub empty_ordered : IsOrdered empty_nodes
empty_ordered = refl

pub same_ordered : IsOrdered same_nodes
same_ordered = refl

pub second_ordered : IsOrdered second_nodes
second_ordered = refl

pub swap_ordered : IsOrdered swap_nodes
swap_ordered = refl

pub five_ordered : IsOrdered five_nodes
five_ordered = refl

pub assert_ordered : IsOrdered assert_nodes
assert_ordered = refl

pub endless_ordered : IsOrdered endless_nodes
endless_ordered = refl

pub loose_unplaced : IsInPlace loose_nodes 0 → ⊥
loose_unplaced e = absurd (cc)

-- what some of them unfold to
swap_tree : tree_of swap_nodes ≡ term.PairTerm (term.Drop term.Iden) (term.Take term.Iden)
swap_tree = refl

assert_tree : tree_of assert_nodes ≡
    term.Comp
    (term.PairTerm
    (term.Comp (term.PairTerm (term.Injr term.UnitTerm) term.UnitTerm) (term.AssertR fail_root term.UnitTerm))
    term.UnitTerm)
    (term.Drop term.Iden)
assert_tree = refl

-- the stream of a witness that is a pair of bytes, of which the second isn't used
shrunk_pair : shrink (Pair (word_value 3 7) (word_value 4 9)) (Product byte One) ≡ Pair (word_value 3 7) UnitValue
shrunk_pair = refl

pub stream_of_pair : IsStream (0x07 ∷ []) (Product byte One ∷ []) (Pair (word_value 3 7) UnitValue ∷ [])
stream_of_pair = record { typed = (((((tt, tt), (tt, tt)), ((tt, tt), (tt, tt))), tt), tt); padded = record { zeros = 0; few = omega arith; same = refl } }

-- the streams of the left and the right zero
pub stream_of_left : IsStream (0 ∷ 0 ∷ []) (Sum byte (word_kind 4) ∷ []) (Inl (word_value 3 0) ∷ [])
stream_of_left = record { typed = ((((tt, tt), (tt, tt)), ((tt, tt), (tt, tt))), tt); padded = record { zeros = 7; few = omega arith; same = refl } }

pub stream_of_right : IsStream (0x80 ∷ 0 ∷ 0 ∷ []) (Sum byte (word_kind 4) ∷ []) (Inr (word_value 4 0) ∷ [])
stream_of_right = record {
  typed =
      (((((tt, tt), (tt, tt)), ((tt, tt), (tt, tt))), (((tt, tt), (tt, tt)), ((tt, tt), (tt, tt)))), tt);
  padded = record { zeros = 7; few = omega arith; same = refl };
}
