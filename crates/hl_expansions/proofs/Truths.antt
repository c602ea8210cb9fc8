-- The truth values that a jet gives are 0 or 1, where its arguments fit their widths.
use Rattle.std.proofs.Common.{ℕ, ◌+◌, ◌*◌, ◌/◌, ◌^◌, ◌<◌, Bool, true, false, nat_eq, nat_lt, nat_le, List, [], ◌∷◌, Option, Some, None, if◌then◌else◌, arith}
use Rattle.std.specs.List.{AllZip}
use Rattle.std.proofs.lemmas.Nat.{pow_pos, div_below}
use Rattle.jets.specs.Jet as jet
use Rattle.jets.specs.Jet.{Jet, Kind, Truth, Number, argument_kinds, result_kinds}
use Rattle.jets.specs.Formula.{numbers, bit, ones, rest}
use Rattle.hl_jets.proofs.Bounds.{Fits}

abbrev pub IsTruth : ℕ → Kind → Type 0
IsTruth x Truth = x < 2
IsTruth x (Number n) = Unit {0}

abbrev pub TruthsFit : List Kind → Option (List ℕ) → Type 0
TruthsFit kinds None = Unit {0}
TruthsFit kinds (Some xs) = AllZip IsTruth xs kinds

bit_fits : (b : Bool) → bit b < 2
bit_fits true = omega arith
bit_fits false = omega arith

carry_fits : (n sum : ℕ) → sum < 2 * 2 ^ n → sum / 2 ^ n < 2
carry_fits n sum few = div_below sum (2 ^ n) 2 (pow_pos n) (omega (arith, few))

none_fit : (b : Bool) → TruthsFit [] (if b then None else Some [])
none_fit true = tt
none_fit false = tt

pub truths_fit : (j : Jet) (n w : ℕ) (xs : List ℕ) → AllZip Fits xs (argument_kinds j n w) → TruthsFit (result_kinds j n w) (numbers j n w xs)
truths_fit jet.Add n w (a ∷ b ∷ []) fit = (carry_fits n (a + b) (omega (arith, fit.0, fit.1.0)), (tt, tt))
truths_fit jet.FullAdd n w (c ∷ a ∷ b ∷ []) fit = (carry_fits n (a + b + c) (omega (arith, fit.0, fit.1.0, fit.1.1.0)), (tt, tt))
truths_fit jet.Subtract n w (a ∷ b ∷ []) fit = (bit_fits (nat_lt a b), (tt, tt))
truths_fit jet.FullSubtract n w (c ∷ a ∷ b ∷ []) fit = (bit_fits (nat_lt a (b + c)), (tt, tt))
truths_fit jet.Increment n w (a ∷ []) fit = (carry_fits n (a + 1) (omega (arith, fit.0, pow_pos n)), (tt, tt))
truths_fit jet.Decrement n w (a ∷ []) fit = (bit_fits (nat_lt a 1), (tt, tt))
truths_fit jet.FullIncrement n w (c ∷ a ∷ []) fit = (carry_fits n (a + c) (omega (arith, fit.0, fit.1.0, pow_pos n)), (tt, tt))
truths_fit jet.FullDecrement n w (c ∷ a ∷ []) fit = (bit_fits (nat_lt a c), (tt, tt))
truths_fit jet.Negate n w (a ∷ []) fit = (bit_fits (nat_lt 0 a), (tt, tt))
truths_fit jet.Multiply n w (a ∷ b ∷ []) fit = (tt, tt)
truths_fit jet.FullMultiply n w (a ∷ b ∷ c ∷ d ∷ []) fit = (tt, tt)
truths_fit jet.DivMod n w (a ∷ b ∷ []) fit = (tt, (tt, tt))
truths_fit jet.Divide n w (a ∷ b ∷ []) fit = (tt, tt)
truths_fit jet.Modulo n w (a ∷ b ∷ []) fit = (tt, tt)
truths_fit jet.Divides n w (a ∷ b ∷ []) fit = (bit_fits (nat_eq (rest b a) 0), tt)
truths_fit jet.IsZero n w (a ∷ []) fit = (bit_fits (nat_eq a 0), tt)
truths_fit jet.IsOne n w (a ∷ []) fit = (bit_fits (nat_eq a 1), tt)
truths_fit jet.Eq n w (a ∷ b ∷ []) fit = (bit_fits (nat_eq a b), tt)
truths_fit jet.Lt n w (a ∷ b ∷ []) fit = (bit_fits (nat_lt a b), tt)
truths_fit jet.Le n w (a ∷ b ∷ []) fit = (bit_fits (nat_le a b), tt)
truths_fit jet.Min n w (a ∷ b ∷ []) fit = (tt, tt)
truths_fit jet.Max n w (a ∷ b ∷ []) fit = (tt, tt)
truths_fit jet.Median n w (a ∷ b ∷ c ∷ []) fit = (tt, tt)
truths_fit jet.Low n w [] fit = (tt, tt)
truths_fit jet.High n w [] fit = (tt, tt)
truths_fit jet.Complement n w (a ∷ []) fit = (tt, tt)
truths_fit jet.And n w (a ∷ b ∷ []) fit = (tt, tt)
truths_fit jet.Or n w (a ∷ b ∷ []) fit = (tt, tt)
truths_fit jet.Xor n w (a ∷ b ∷ []) fit = (tt, tt)
truths_fit jet.Maj n w (a ∷ b ∷ c ∷ []) fit = (tt, tt)
truths_fit jet.XorXor n w (a ∷ b ∷ c ∷ []) fit = (tt, tt)
truths_fit jet.Ch n w (a ∷ b ∷ c ∷ []) fit = (tt, tt)
truths_fit jet.Some n w (a ∷ []) fit = (bit_fits (nat_lt 0 a), tt)
truths_fit jet.All n w (a ∷ []) fit = (bit_fits (nat_eq a (ones n)), tt)
truths_fit jet.LeftShift n w (s ∷ a ∷ []) fit = (tt, tt)
truths_fit jet.RightShift n w (s ∷ a ∷ []) fit = (tt, tt)
truths_fit jet.LeftShiftWith n w (f ∷ s ∷ a ∷ []) fit = (tt, tt)
truths_fit jet.RightShiftWith n w (f ∷ s ∷ a ∷ []) fit = (tt, tt)
truths_fit jet.LeftRotate n w (s ∷ a ∷ []) fit = (tt, tt)
truths_fit jet.RightRotate n w (s ∷ a ∷ []) fit = (tt, tt)
truths_fit jet.Verify n w (a ∷ []) fit = none_fit (nat_eq a 0)
truths_fit jet.Leftmost n w (a ∷ []) fit = (tt, tt)
truths_fit jet.Rightmost n w (a ∷ []) fit = (tt, tt)
truths_fit jet.LeftPadLow n w (a ∷ []) fit = (tt, tt)
truths_fit jet.LeftPadHigh n w (a ∷ []) fit = (tt, tt)
truths_fit jet.LeftExtend n w (a ∷ []) fit = (tt, tt)
truths_fit jet.RightPadLow n w (a ∷ []) fit = (tt, tt)
truths_fit jet.RightPadHigh n w (a ∷ []) fit = (tt, tt)
truths_fit jet.RightExtend n w (a ∷ []) fit = (tt, tt)
truths_fit _ n w _ fit = tt
