-- Laws of values: their cells, their codes, shrinking, and words.
use Rattle.std.proofs.Common.{◌≡◌, refl, ap, sym, ◌∙◌, ℕ, zero, suc, ◌/◌, ◌%◌, Bool, true, false, List, [], ◌++◌, length, arith, append_assoc, length-append}
use Rattle.std.proofs.lemmas.List.{length-replicate}
use Rattle.simplicity.specs.Types.{Kind, One, Sum, Product, Value, UnitValue, Inl, Inr, Pair, IsOf, size, code, IsBelow, shrink, word_kind, word_value, word_count, bit_value, is_odd}
use Rattle.simplicity.specs.Cells.{cells}

-- being of a type, as data
pub data Of : Kind → Value → Type 0 where
  OfOne : Of One UnitValue
  OfLeft : (a b : Kind) (u : Value) → Of a u → Of (Sum a b) (Inl u)
  OfRight : (a b : Kind) (v : Value) → Of b v → Of (Sum a b) (Inr v)
  OfPair : (a b : Kind) (u v : Value) → Of a u → Of b v → Of (Product a b) (Pair u v)

pub of_kind : (k : Kind) (v : Value) → IsOf v k → Of k v
of_kind One UnitValue h = OfOne
of_kind One (Inl u) h = elim h [ ]
of_kind One (Inr v) h = elim h [ ]
of_kind One (Pair u v) h = elim h [ ]
of_kind (Sum a b) UnitValue h = elim h [ ]
of_kind (Sum a b) (Inl u) h = OfLeft a b u (of_kind a u h)
of_kind (Sum a b) (Inr v) h = OfRight a b v (of_kind b v h)
of_kind (Sum a b) (Pair u v) h = elim h [ ]
of_kind (Product a b) UnitValue h = elim h [ ]
of_kind (Product a b) (Inl u) h = elim h [ ]
of_kind (Product a b) (Inr v) h = elim h [ ]
of_kind (Product a b) (Pair u v) h = OfPair a b u v (of_kind a u h.0) (of_kind b v h.1)

pub is_of : (k : Kind) (v : Value) → Of k v → IsOf v k
is_of _ _ OfOne = tt
is_of _ _ (OfLeft a b u h) = is_of a u h
is_of _ _ (OfRight a b v h) = is_of b v h
is_of _ _ (OfPair a b u v h g) = (is_of a u h, is_of b v g)

-- a value of a type has as many cells as the type's size
cells_length_of : (k : Kind) (v : Value) → Of k v → length (cells k v) ≡ size k
cells_length_of _ _ OfOne = refl
cells_length_of _ _ (OfLeft a b u h) = let rest = cells_length_of a u h in simp (length-append, length-replicate) (omega arith)
cells_length_of _ _ (OfRight a b v h) = let rest = cells_length_of b v h in simp (length-append, length-replicate) (omega arith)
cells_length_of _ _ (OfPair a b u v h g) =
    let left = cells_length_of a u h in
    let right = cells_length_of b v g in
    simp length-append (omega arith)

pub cells_length : (k : Kind) (v : Value) → IsOf v k → length (cells k v) ≡ size k
cells_length k v h = cells_length_of k v (of_kind k v h)

-- where two bit strings begin with the codes of values of one type, these are the same value, and what follows is the same
code_apart_of : (k : Kind) (u v : Value) (xs ys : List Bool) → Of k u → Of k v → code u ++ xs ≡ code v ++ ys → (u ≡ v) × (xs ≡ ys)
code_apart_of _ _ _ xs ys OfOne OfOne e = (refl, e)
code_apart_of _ _ _ xs ys (OfLeft a b u h) (OfLeft _ _ v g) e =
    let rest = code_apart_of a u v xs ys h g cc in
    (ap Inl rest.0, rest.1)
code_apart_of _ _ _ xs ys (OfLeft a b u h) (OfRight _ _ v g) e = absurd (cc)
code_apart_of _ _ _ xs ys (OfRight a b u h) (OfLeft _ _ v g) e = absurd (cc)
code_apart_of _ _ _ xs ys (OfRight a b u h) (OfRight _ _ v g) e =
    let rest = code_apart_of b u v xs ys h g cc in
    (ap Inr rest.0, rest.1)
code_apart_of _ _ _ xs ys (OfPair a b u v h g) (OfPair _ _ s t k l) e =
    let whole : code u ++ (code v ++ xs) ≡ code s ++ (code t ++ ys) = sym (append_assoc (code u) (code v) xs) ∙ e ∙ append_assoc (code s) (code t) ys in
    let left = code_apart_of a u s (code v ++ xs) (code t ++ ys) h k whole in
    let right = code_apart_of b v t xs ys g l left.1 in
    let first : u ≡ s = left.0 in
    let second : v ≡ t = right.0 in
    (cc, right.1)

pub code_apart : (k : Kind) (u v : Value) (xs ys : List Bool) → IsOf u k → IsOf v k → code u ++ xs ≡ code v ++ ys → (u ≡ v) × (xs ≡ ys)
code_apart k u v xs ys h g e = code_apart_of k u v xs ys (of_kind k u h) (of_kind k v g) e

pub code_injective : (k : Kind) (u v : Value) → IsOf u k → IsOf v k → code u ≡ code v → u ≡ v
code_injective k u v h g e = (code_apart k u v [] [] h g (ap (λ bits. bits ++ []) e)).0

-- a value shrunk to a type below its own is of that type
shrink_of_kind : (s t : Kind) (v : Value) → Of t v → IsBelow s t → IsOf (shrink v s) s
shrink_of_kind One t v h below = tt
shrink_of_kind (Sum a b) _ _ OfOne below = elim below [ ]
shrink_of_kind (Sum a b) _ _ (OfLeft c d u h) below = shrink_of_kind a c u h below.0
shrink_of_kind (Sum a b) _ _ (OfRight c d v h) below = shrink_of_kind b d v h below.1
shrink_of_kind (Sum a b) _ _ (OfPair c d u v h g) below = elim below [ ]
shrink_of_kind (Product a b) _ _ OfOne below = elim below [ ]
shrink_of_kind (Product a b) _ _ (OfLeft c d u h) below = elim below [ ]
shrink_of_kind (Product a b) _ _ (OfRight c d v h) below = elim below [ ]
shrink_of_kind (Product a b) _ _ (OfPair c d u v h g) below = (shrink_of_kind a c u h below.0, shrink_of_kind b d v g below.1)

pub shrink_of : (s t : Kind) (v : Value) → IsOf v t → IsBelow s t → IsOf (shrink v s) s
shrink_of s t v h below = shrink_of_kind s t v (of_kind t v h) below

-- shrinking a value to its own type leaves it
shrink_self_of : (k : Kind) (v : Value) → Of k v → shrink v k ≡ v
shrink_self_of _ _ OfOne = refl
shrink_self_of _ _ (OfLeft a b u h) = ap Inl (shrink_self_of a u h)
shrink_self_of _ _ (OfRight a b v h) = ap Inr (shrink_self_of b v h)
shrink_self_of _ _ (OfPair a b u v h g) =
    let left = shrink_self_of a u h in
    let right = shrink_self_of b v g in
    cc

pub shrink_self : (k : Kind) (v : Value) → IsOf v k → shrink v k ≡ v
shrink_self k v h = shrink_self_of k v (of_kind k v h)

-- a number's word is of the word type
bit_of : (b : Bool) → IsOf (bit_value b) (word_kind 0)
bit_of false = tt
bit_of true = tt

pub word_of : (k n : ℕ) → IsOf (word_value k n) (word_kind k)
word_of zero n = bit_of (is_odd n)
word_of (suc k) n = (word_of k (n / word_count k), word_of k (n % word_count k))
