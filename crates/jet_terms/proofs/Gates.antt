-- What the gates compute.
use Rattle.std.proofs.Common.{◌≡◌, ℕ, zero, suc, List, Bool, refl, Some}
use Rattle.simplicity.specs.Types.{Value, Pair, bit_value}
use Rattle.simplicity.specs.Terms.{Term, meaning}
use Rattle.jet_terms.specs.Trees.{lift1, lift2, lift3}
use Rattle.simplicity.specs.Digits.{Digits, tree}

abbrev pub each1 : (Bool → Bool) → (k : ℕ) → Digits k → Digits k
each1 f zero b = f b
each1 f (suc k) d = (each1 f k d.0, each1 f k d.1)

pub meaning-lift1 : (t : Term) (f : Bool → Bool) (w : List Value) → ((b : Bool) → meaning t w (bit_value b) ≡ Some (bit_value (f b)))
    → (k : ℕ) (d : Digits k) → meaning (lift1 t k) w (tree k d) ≡ Some (tree k (each1 f k d))
meaning-lift1 t f w h zero b = h b
meaning-lift1 t f w h (suc k) d = rw (meaning-lift1 t f w h k d.0, meaning-lift1 t f w h k d.1) refl

abbrev pub each2 : (Bool → Bool → Bool) → (k : ℕ) → Digits k → Digits k → Digits k
each2 f zero a b = f a b
each2 f (suc k) a b = (each2 f k a.0 b.0, each2 f k a.1 b.1)

pub meaning-lift2 : (t : Term) (f : Bool → Bool → Bool) (w : List Value) → ((a b : Bool) → meaning t w (Pair (bit_value a) (bit_value b)) ≡ Some (bit_value (f a b)))
    → (k : ℕ) (a b : Digits k) → meaning (lift2 t k) w (Pair (tree k a) (tree k b)) ≡ Some (tree k (each2 f k a b))
meaning-lift2 t f w h zero a b = h a b
meaning-lift2 t f w h (suc k) a b = rw (meaning-lift2 t f w h k a.0 b.0, meaning-lift2 t f w h k a.1 b.1) refl

abbrev pub each3 : (Bool → Bool → Bool → Bool) → (k : ℕ) → Digits k → Digits k → Digits k → Digits k
each3 f zero a b c = f a b c
each3 f (suc k) a b c = (each3 f k a.0 b.0 c.0, each3 f k a.1 b.1 c.1)

pub meaning-lift3 : (t : Term) (f : Bool → Bool → Bool → Bool) (w : List Value) → ((a b c : Bool) → meaning t w (Pair (bit_value a) (Pair (bit_value b) (bit_value c))) ≡ Some (bit_value (f a b c)))
    → (k : ℕ) (a b c : Digits k) → meaning (lift3 t k) w (Pair (tree k a) (Pair (tree k b) (tree k c))) ≡ Some (tree k (each3 f k a b c))
meaning-lift3 t f w h zero a b c = h a b c
meaning-lift3 t f w h (suc k) a b c = rw (meaning-lift3 t f w h k a.0 b.0 c.0, meaning-lift3 t f w h k a.1 b.1 c.1) refl
