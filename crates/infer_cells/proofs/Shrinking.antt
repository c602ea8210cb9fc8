-- A typed tree on shrunk values gives the shrunk value.
use Rattle.std.proofs.Common.{◌≡◌, refl, ap, sym, ◌∙◌, ℕ, zero, suc, ◌/◌, ◌%◌, Bool, true, false, List, [], ◌∷◌, Some, None, slice_get}
use Rattle.simplicity.specs.Types.{Kind, Sum, Product, Value, UnitValue, Inl, Inr, Pair, shrink, shrink_all, word_kind, word_value, word_count, bit_value, is_odd}
use Rattle.simplicity.specs.Terms.{Term, Answer, meaning, and_then, paired, on_tag, on_first, on_second}
use Rattle.simplicity.specs.Typing.{IsTyped}
use Rattle.simplicity.specs.Typing as row
use Rattle.infer_cells.specs.Shrunk.{shrunk}

-- what goes on from shrunk values as from the values, then shrunk, does so from a shrunk answer
after : (x y : Answer) (f g : Value → Answer) (b d : Kind) → y ≡ shrunk x b → ((u : Value) → g (shrink u b) ≡ shrunk (f u) d) → and_then y g ≡ shrunk (and_then x f) d
after None y f g b d e on = ap (λ z. and_then z g) e
after (Some u) y f g b d e on = ap (λ z. and_then z g) e ∙ on u

both : (x y p q : Answer) (b c : Kind) → p ≡ shrunk x b → q ≡ shrunk y c → paired p q ≡ shrunk (paired x y) (Product b c)
both x y p q b c e f =
    after x p (λ u. and_then y (λ v. Some (Pair u v))) (λ u. and_then q (λ v. Some (Pair u v))) b (Product b c) e
    (λ u. after y q (λ v. Some (Pair u v)) (λ v. Some (Pair (shrink u b) v)) c (Product b c) f (λ v. refl))

first_of_pair : (f g : Value → Answer) (a b d : Kind) (v : Value) → ((u : Value) → g (shrink u a) ≡ shrunk (f u) d) → on_first g (shrink v (Product a b)) ≡ shrunk (on_first f v) d
first_of_pair f g a b d UnitValue on = refl
first_of_pair f g a b d (Inl u) on = refl
first_of_pair f g a b d (Inr u) on = refl
first_of_pair f g a b d (Pair u v) on = on u

second_of_pair : (f g : Value → Answer) (a b d : Kind) (v : Value) → ((u : Value) → g (shrink u b) ≡ shrunk (f u) d) → on_second g (shrink v (Product a b)) ≡ shrunk (on_second f v) d
second_of_pair f g a b d UnitValue on = refl
second_of_pair f g a b d (Inl u) on = refl
second_of_pair f g a b d (Inr u) on = refl
second_of_pair f g a b d (Pair u v) on = on v

tag_of : (f f' g g' : Value → Answer) (a b c d : Kind) (v : Value) → ((u : Value) → f' (shrink u (Product a c)) ≡ shrunk (f u) d) →
    ((u : Value) → g' (shrink u (Product b c)) ≡ shrunk (g u) d) → on_tag f' g' (shrink v (Product (Sum a b) c)) ≡ shrunk (on_tag f g v) d
tag_of f f' g g' a b c d UnitValue left right = refl
tag_of f f' g g' a b c d (Inl u) left right = refl
tag_of f f' g g' a b c d (Inr u) left right = refl
tag_of f f' g g' a b c d (Pair UnitValue v) left right = refl
tag_of f f' g g' a b c d (Pair (Inl u) v) left right = left (Pair u v)
tag_of f f' g g' a b c d (Pair (Inr u) v) left right = right (Pair u v)
tag_of f f' g g' a b c d (Pair (Pair s t) v) left right = refl

-- the shrunk value at a place
value_at : (ks : List Kind) (w : List Value) (n : ℕ) (k : Kind) → slice_get ks n ≡ Some k → slice_get (shrink_all w ks) n ≡ shrunk (slice_get w n) k
value_at [] w n k is = absurd (cc)
value_at (l ∷ ks) [] n k is = refl
value_at (l ∷ ks) (v ∷ w) zero k is = let same : l ≡ k = cc in ap (λ m. Some (shrink v m)) same
value_at (l ∷ ks) (v ∷ w) (suc n) k is = value_at ks w n k is

-- a word is of its type
bit_same : (b : Bool) → shrink (bit_value b) (word_kind 0) ≡ bit_value b
bit_same false = refl
bit_same true = refl

word_same : (k n : ℕ) → shrink (word_value k n) (word_kind k) ≡ word_value k n
word_same zero n = bit_same (is_odd n)
word_same (suc k) n =
    let high = word_same k (n / word_count k) in
    let low = word_same k (n % word_count k) in
    cc

pub shrunk_meaning : (ks : List Kind) (w : List Value) (t : Term) (a b : Kind) (v : Value) → IsTyped ks t a b →
    meaning t (shrink_all w ks) (shrink v a) ≡ shrunk (meaning t w v) b
shrunk_meaning ks w _ _ _ v (row.TypedIden a) = refl
shrunk_meaning ks w _ _ _ v (row.TypedUnit a) = refl
shrunk_meaning ks w _ _ _ v (row.TypedInjl t a b c m) =
    after (meaning t w v) (meaning t (shrink_all w ks) (shrink v a)) (λ u. Some (Inl u)) (λ u. Some (Inl u)) b (Sum b c) (shrunk_meaning ks w t a b v m) (λ u. refl)
shrunk_meaning ks w _ _ _ v (row.TypedInjr t a b c m) =
    after (meaning t w v) (meaning t (shrink_all w ks) (shrink v a)) (λ u. Some (Inr u)) (λ u. Some (Inr u)) c (Sum b c) (shrunk_meaning ks w t a c v m) (λ u. refl)
shrunk_meaning ks w _ _ _ v (row.TypedTake t a b c m) =
    first_of_pair (meaning t w) (meaning t (shrink_all w ks)) a b c v (λ u. shrunk_meaning ks w t a c u m)
shrunk_meaning ks w _ _ _ v (row.TypedDrop t a b c m) =
    second_of_pair (meaning t w) (meaning t (shrink_all w ks)) a b c v (λ u. shrunk_meaning ks w t b c u m)
shrunk_meaning ks w _ _ _ v (row.TypedComp s t a b c m n) =
    after (meaning s w v) (meaning s (shrink_all w ks) (shrink v a)) (meaning t w) (meaning t (shrink_all w ks)) b c (shrunk_meaning ks w s a b v m)
    (λ u. shrunk_meaning ks w t b c u n)
shrunk_meaning ks w _ _ _ v (row.TypedCase s t a b c d m n) =
    tag_of (meaning s w) (meaning s (shrink_all w ks)) (meaning t w) (meaning t (shrink_all w ks)) a b c d v
    (λ u. shrunk_meaning ks w s (Product a c) d u m) (λ u. shrunk_meaning ks w t (Product b c) d u n)
shrunk_meaning ks w _ _ _ v (row.TypedAssertL s e a b c d m) =
    tag_of (meaning s w) (meaning s (shrink_all w ks)) (λ _. None) (λ _. None) a b c d v (λ u. shrunk_meaning ks w s (Product a c) d u m) (λ u. refl)
shrunk_meaning ks w _ _ _ v (row.TypedAssertR e t a b c d n) =
    tag_of (λ _. None) (λ _. None) (meaning t w) (meaning t (shrink_all w ks)) a b c d v (λ u. refl) (λ u. shrunk_meaning ks w t (Product b c) d u n)
shrunk_meaning ks w _ _ _ v (row.TypedPair s t a b c m n) =
    both (meaning s w v) (meaning t w v) (meaning s (shrink_all w ks) (shrink v a)) (meaning t (shrink_all w ks) (shrink v a)) b c
    (shrunk_meaning ks w s a b v m) (shrunk_meaning ks w t a c v n)
shrunk_meaning ks w _ _ _ v (row.TypedFail e a b) = refl
shrunk_meaning ks w _ _ _ v (row.TypedWitness n a b there) = value_at ks w n b there
shrunk_meaning ks w _ _ _ v (row.TypedWord k n) = ap Some (sym (word_same k n))
