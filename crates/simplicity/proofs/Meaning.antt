-- The meaning of a typed term on a value of its source is failure or a value of its target.
use Rattle.std.proofs.Common.{◌≡◌, subst, ℕ, zero, suc, List, [], ◌∷◌, Some, None}
use Rattle.std.specs.Prelude.{slice_get}
use Rattle.simplicity.specs.Types.{Kind, Sum, Product, Value, Inl, Inr, Pair, IsOf, AreOf}
use Rattle.simplicity.specs.Terms.{Term, Answer, meaning, and_then, paired, on_tag, on_first, on_second}
use Rattle.simplicity.specs.Typing.{IsTyped}
use Rattle.simplicity.specs.Typing as row
use Rattle.simplicity.specs.Laws.{IsAnswerOf}
use Rattle.simplicity.proofs.Values.{Of, OfLeft, OfRight, OfPair, of_kind, is_of, word_of}

-- what goes on with a value of the one type to an answer of the other keeps it
after : (x : Answer) (f : Value → Answer) (a b : Kind) → IsAnswerOf x a → ((v : Value) → IsOf v a → IsAnswerOf (f v) b) → IsAnswerOf (and_then x f) b
after None f a b h on = tt
after (Some v) f a b h on = on v h

both : (x y : Answer) (a b : Kind) → IsAnswerOf x a → IsAnswerOf y b → IsAnswerOf (paired x y) (Product a b)
both None y a b h g = tt
both (Some u) None a b h g = tt
both (Some u) (Some v) a b h g = (h, g)

tag_of : (f g : Value → Answer) (a b c d : Kind) (v : Value) → Of (Product (Sum a b) c) v →
    ((u : Value) → IsOf u (Product a c) → IsAnswerOf (f u) d) → ((u : Value) → IsOf u (Product b c) → IsAnswerOf (g u) d) → IsAnswerOf (on_tag f g v) d
tag_of f g a b c d _ (OfPair _ _ _ x (OfLeft _ _ u h) k) left right = left (Pair u x) (is_of a u h, is_of c x k)
tag_of f g a b c d _ (OfPair _ _ _ x (OfRight _ _ u h) k) left right = right (Pair u x) (is_of b u h, is_of c x k)

first_of_pair : (f : Value → Answer) (a b d : Kind) (v : Value) → Of (Product a b) v → ((u : Value) → IsOf u a → IsAnswerOf (f u) d) → IsAnswerOf (on_first f v) d
first_of_pair f a b d _ (OfPair _ _ u x h k) on = on u (is_of a u h)

second_of_pair : (f : Value → Answer) (a b d : Kind) (v : Value) → Of (Product a b) v → ((u : Value) → IsOf u b → IsAnswerOf (f u) d) → IsAnswerOf (on_second f v) d
second_of_pair f a b d _ (OfPair _ _ u x h k) on = on x (is_of b x k)

-- the value at a place is of the type there
pub value_at : (ks : List Kind) (w : List Value) (n : ℕ) (k : Kind) → AreOf w ks → slice_get ks n ≡ Some k → IsAnswerOf (slice_get w n) k
value_at ks [] n k h is = tt
value_at [] (v ∷ vs) n k h is = elim h [ ]
value_at (l ∷ ks) (v ∷ vs) zero k h is = let same : l ≡ k = cc in subst (IsOf v) same h.0
value_at (l ∷ ks) (v ∷ vs) (suc n) k h is = value_at ks vs n k h.1 is

pub meaning_keeps : (ks : List Kind) (w : List Value) (t : Term) (a b : Kind) (v : Value) → AreOf w ks → IsTyped ks t a b → IsOf v a → IsAnswerOf (meaning t w v) b
meaning_keeps ks w _ _ _ v h (row.TypedIden a) is = is
meaning_keeps ks w _ _ _ v h (row.TypedUnit a) is = tt
meaning_keeps ks w _ _ _ v h (row.TypedInjl t a b c m) is =
    after (meaning t w v) (λ u. Some (Inl u)) b (Sum b c) (meaning_keeps ks w t a b v h m is) (λ u k. k)
meaning_keeps ks w _ _ _ v h (row.TypedInjr t a b c m) is =
    after (meaning t w v) (λ u. Some (Inr u)) c (Sum b c) (meaning_keeps ks w t a c v h m is) (λ u k. k)
meaning_keeps ks w _ _ _ v h (row.TypedTake t a b c m) is =
    first_of_pair (meaning t w) a b c v (of_kind (Product a b) v is) (λ u k. meaning_keeps ks w t a c u h m k)
meaning_keeps ks w _ _ _ v h (row.TypedDrop t a b c m) is =
    second_of_pair (meaning t w) a b c v (of_kind (Product a b) v is) (λ u k. meaning_keeps ks w t b c u h m k)
meaning_keeps ks w _ _ _ v h (row.TypedComp s t a b c m n) is =
    after (meaning s w v) (meaning t w) b c (meaning_keeps ks w s a b v h m is) (λ u k. meaning_keeps ks w t b c u h n k)
meaning_keeps ks w _ _ _ v h (row.TypedCase s t a b c d m n) is =
    tag_of (meaning s w) (meaning t w) a b c d v (of_kind (Product (Sum a b) c) v is)
    (λ u k. meaning_keeps ks w s (Product a c) d u h m k) (λ u k. meaning_keeps ks w t (Product b c) d u h n k)
meaning_keeps ks w _ _ _ v h (row.TypedAssertL s e a b c d m) is =
    tag_of (meaning s w) (λ _. None) a b c d v (of_kind (Product (Sum a b) c) v is) (λ u k. meaning_keeps ks w s (Product a c) d u h m k) (λ u k. tt)
meaning_keeps ks w _ _ _ v h (row.TypedAssertR e t a b c d n) is =
    tag_of (λ _. None) (meaning t w) a b c d v (of_kind (Product (Sum a b) c) v is) (λ u k. tt) (λ u k. meaning_keeps ks w t (Product b c) d u h n k)
meaning_keeps ks w _ _ _ v h (row.TypedPair s t a b c m n) is =
    both (meaning s w v) (meaning t w v) b c (meaning_keeps ks w s a b v h m is) (meaning_keeps ks w t a c v h n is)
meaning_keeps ks w _ _ _ v h (row.TypedFail e a b) is = tt
meaning_keeps ks w _ _ _ v h (row.TypedWitness n a b there) is = value_at ks w n b h there
meaning_keeps ks w _ _ _ v h (row.TypedWord k n) is = word_of k n
