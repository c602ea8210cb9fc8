-- The widths in the lists of the jets.
use Rattle.std.proofs.Common.{ℕ, ◌≡◌, ◌*◌, Bool, true, false, nat_eq, nat_lt, nat_le, ◌&&◌, ◌||◌, List, [], ◌∷◌, refl, subst, arith, IsTrue}
use Rattle.std.specs.List.{list_any, list_all}
use Rattle.std.proofs.lemmas.Bool.Decides.{nat_tests}
use Rattle.jets.specs.Unsigned.{is_width}
use Rattle.jets.specs.Jet as jet
use Rattle.jets.specs.Jet.{Jet, is_jet, usual, usual_and_one, narrowed, widened}
use Rattle.word_math.specs.Widths.{IsNarrow, IsDoubled, IsWidened, IsSized}

abbrev pub is_narrow : ℕ → Bool
is_narrow n = nat_lt 0 n && (nat_le n 64 && is_width n)

pub both : (a b : Bool) → (a && b) ≡ true → (a ≡ true) × (b ≡ true)
both true b h = (refl, h)
both false b h = cc

either : (a b : Bool) (P : Type 0) → (a || b) ≡ true → (a ≡ true → P) → (b ≡ true → P) → P
either true b P h f g = f refl
either false b P h f g = g h

-- what holds at each pair of the list holds at the pair that it lists
at_listed : (q : ℕ × ℕ → Bool) (n w : ℕ) (xs : List (ℕ × ℕ)) → list_all q xs ≡ true
    → list_any (λ s. nat_eq s.0 n && nat_eq s.1 w) xs ≡ true → q (n, w) ≡ true
at_listed q n w [] all any = cc
at_listed q n w (s ∷ xs) all any =
    let p = both (q s) (list_all q xs) all in
    either (nat_eq s.0 n && nat_eq s.1 w) (list_any (λ s. nat_eq s.0 n && nat_eq s.1 w) xs) (q (n, w) ≡ true) any
    (λ h. at_pair q s n w (both (nat_eq s.0 n) (nat_eq s.1 w) h) p.0)
    (λ h. at_listed q n w xs p.1 h)
  where
    at_pair : (q : ℕ × ℕ → Bool) (s : ℕ × ℕ) (n w : ℕ) → (nat_eq s.0 n ≡ true) × (nat_eq s.1 w ≡ true) → q s ≡ true → q (n, w) ≡ true
    at_pair q s n w h e =
        let f : s.0 ≡ n = grind (arith, nat_tests, h.0) in
        let g : s.1 ≡ w = grind (arith, nat_tests, h.1) in
        subst (λ y. q (n, y) ≡ true) g (subst (λ x. q (x, s.1) ≡ true) f e)

narrow_of : (n : ℕ) → is_narrow n ≡ true → IsNarrow n
narrow_of n h =
    let p = both (nat_lt 0 n) (nat_le n 64 && is_width n) h in
    let r = both (nat_le n 64) (is_width n) p.1 in
    record { some = grind (arith, nat_tests, p.0); small = grind (arith, nat_tests, r.0); width = r.1 }

narrow_listed : (n w : ℕ) (xs : List (ℕ × ℕ)) → list_all (λ s. is_narrow s.0) xs ≡ true
    → list_any (λ s. nat_eq s.0 n && nat_eq s.1 w) xs ≡ true → IsNarrow n
narrow_listed n w xs all any = narrow_of n (at_listed (λ s. is_narrow s.0) n w xs all any)

doubled_listed : (n w : ℕ) → list_any (λ s. nat_eq s.0 n && nat_eq s.1 w) usual ≡ true → IsDoubled n
doubled_listed n w any = record {
  narrow = narrow_listed n w usual refl any;
  twice = at_listed (λ s. is_width (2 * s.0)) n w usual refl any;
}

widened_listed : (n w : ℕ) (xs : List (ℕ × ℕ)) → list_all (λ s. is_narrow s.0 && (is_narrow s.1 && nat_lt s.0 s.1)) xs ≡ true
    → list_any (λ s. nat_eq s.0 n && nat_eq s.1 w) xs ≡ true → IsWidened n w
widened_listed n w xs all any =
    let h = at_listed (λ s. is_narrow s.0 && (is_narrow s.1 && nat_lt s.0 s.1)) n w xs all any in
    let p = both (is_narrow n) (is_narrow w && nat_lt n w) h in
    let r = both (is_narrow w) (nat_lt n w) p.1 in
    record { narrow = narrow_of n p.0; wide = narrow_of w r.0; less = grind (arith, nat_tests, r.1) }

-- the widths of each jet suit it
pub sized : (j : Jet) (n w : ℕ) → IsTrue (is_jet j n w) → IsSized j n w
sized jet.Add n w h = narrow_listed n w usual refl h
sized jet.All n w h = narrow_listed n w usual refl h
sized jet.And n w h = narrow_listed n w usual_and_one refl h
sized jet.Ch n w h = narrow_listed n w usual_and_one refl h
sized jet.Complement n w h = narrow_listed n w usual_and_one refl h
sized jet.Decrement n w h = narrow_listed n w usual refl h
sized jet.DivMod n w h = narrow_listed n w usual refl h
sized jet.Divide n w h = narrow_listed n w usual refl h
sized jet.Divides n w h = narrow_listed n w usual refl h
sized jet.Eq n w h = tt
sized jet.FullAdd n w h = narrow_listed n w usual refl h
sized jet.FullDecrement n w h = narrow_listed n w usual refl h
sized jet.FullIncrement n w h = narrow_listed n w usual refl h
sized jet.FullMultiply n w h = doubled_listed n w h
sized jet.FullSubtract n w h = narrow_listed n w usual refl h
sized jet.High n w h = narrow_listed n w usual_and_one refl h
sized jet.Increment n w h = narrow_listed n w usual refl h
sized jet.IsOne n w h = narrow_listed n w usual refl h
sized jet.IsZero n w h = narrow_listed n w usual refl h
sized jet.Le n w h = narrow_listed n w usual refl h
sized jet.LeftExtend n w h = widened_listed n w widened refl h
sized jet.LeftPadHigh n w h = widened_listed n w widened refl h
sized jet.LeftPadLow n w h = widened_listed n w widened refl h
sized jet.LeftRotate n w h = narrow_listed n w usual refl h
sized jet.LeftShift n w h = narrow_listed n w usual refl h
sized jet.LeftShiftWith n w h = narrow_listed n w usual refl h
sized jet.Leftmost n w h = widened_listed n w narrowed refl h
sized jet.Low n w h = narrow_listed n w usual_and_one refl h
sized jet.Lt n w h = narrow_listed n w usual refl h
sized jet.Maj n w h = narrow_listed n w usual_and_one refl h
sized jet.Max n w h = narrow_listed n w usual refl h
sized jet.Median n w h = narrow_listed n w usual refl h
sized jet.Min n w h = narrow_listed n w usual refl h
sized jet.Modulo n w h = narrow_listed n w usual refl h
sized jet.Multiply n w h = doubled_listed n w h
sized jet.Negate n w h = narrow_listed n w usual refl h
sized jet.Or n w h = narrow_listed n w usual_and_one refl h
sized jet.RightExtend n w h = widened_listed n w widened refl h
sized jet.RightPadHigh n w h = widened_listed n w widened refl h
sized jet.RightPadLow n w h = widened_listed n w widened refl h
sized jet.RightRotate n w h = narrow_listed n w usual refl h
sized jet.RightShift n w h = narrow_listed n w usual refl h
sized jet.RightShiftWith n w h = narrow_listed n w usual refl h
sized jet.Rightmost n w h = widened_listed n w narrowed refl h
sized jet.Some n w h = narrow_listed n w usual_and_one refl h
sized jet.Subtract n w h = narrow_listed n w usual refl h
sized jet.Verify n w h = tt
sized jet.Xor n w h = narrow_listed n w usual_and_one refl h
sized jet.XorXor n w h = narrow_listed n w usual_and_one refl h
