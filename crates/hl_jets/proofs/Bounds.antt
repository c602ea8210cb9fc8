-- What a jet gives fits the widths of its results, where its arguments fit theirs.
use Rattle.std.proofs.Common.{ℕ, zero, suc, ◌≡◌, ◌+◌, ◌-◌, ◌*◌, ◌/◌, ◌%◌, ◌^◌, ◌<◌, ◌≤◌, min, Bool, true, false, nat_eq, nat_lt, List, [], ◌∷◌, Option, Some, None, if◌then◌else◌, bit_and, bit_or, bit_xor, sym, subst, arith}
use Rattle.std.specs.List.{AllZip}
use Rattle.std.proofs.lemmas.Nat.{pow-add, pow_pos, or_lt, xor_lt, mul-lt, mul-le, mul-add-lt, mod_below, shl_below, shr_below}
use Rattle.std.proofs.Math.Nat.{div-le_self, mod-le}
use Rattle.jets.specs.Jet as jet
use Rattle.jets.specs.Jet.{Jet, Kind, Truth, Number, width_of, argument_kinds, result_kinds}
use Rattle.jets.specs.Formula.{numbers, ones, quotient, rest, shifted_right, zeros_before, zeros_after, ones_after, ones_before}
use Rattle.word_math.proofs.Fits.{and_lt_left}
use Rattle.word_math.proofs.Moved.{powers_grow, rotated_fits}

-- an argument as a number; a truth value is 0 or 1
abbrev pub Fits : ℕ → Kind → Type 0
Fits x k = x < 2 ^ width_of k

-- a result as a number; that of a truth value says by being 0 or not
abbrev pub ResultFits : ℕ → Kind → Type 0
ResultFits x Truth = Unit {0}
ResultFits x (Number n) = x < 2 ^ n

abbrev pub ResultsFit : List Kind → Option (List ℕ) → Type 0
ResultsFit kinds None = Unit {0}
ResultsFit kinds (Some xs) = AllZip ResultFits xs kinds

square : (n : ℕ) → 2 ^ n * 2 ^ n ≡ 2 ^ (2 * n)
square n =
    let twice : 2 * n ≡ n + n = omega arith in
    rw twice (sym (pow-add 2 n n))

sum_below : (m a b c d : ℕ) → a < m → b < m → c < m → d < m → a * b + c + d < m * m
sum_below zero a b c d f g h i = absurd (omega arith)
sum_below (suc k) a b c d f g h i =
    let p : a * b ≤ k * k = mul-le a b k k (omega arith) (omega arith) in
    omega arith

module _ (n : ℕ) where
  last_bits : (x : ℕ) → x % 2 ^ n < 2 ^ n
  last_bits x = mod_below x (2 ^ n) (pow_pos n)

  chosen : (b : Bool) (x y : ℕ) → x < 2 ^ n → y < 2 ^ n → (if b then x else y) < 2 ^ n
  chosen true x y p q = p
  chosen false x y p q = q

  product_fits : (a b : ℕ) → a < 2 ^ n → b < 2 ^ n → a * b < 2 ^ (2 * n)
  product_fits a b f g = omega (arith, square n, mul-lt a b (2 ^ n) (2 ^ n) f g)

  product_sum_fits : (a b c d : ℕ) → a < 2 ^ n → b < 2 ^ n → c < 2 ^ n → d < 2 ^ n → a * b + c + d < 2 ^ (2 * n)
  product_sum_fits a b c d f g h i = omega (arith, square n, sum_below (2 ^ n) a b c d f g h i)

  quotient_fits : (a b : ℕ) → a < 2 ^ n → quotient a b < 2 ^ n
  quotient_fits a b f = chosen (nat_eq b 0) 0 (a / b) (pow_pos n) (omega (arith, div-le_self a b))

  rest_fits : (a b : ℕ) → a < 2 ^ n → rest a b < 2 ^ n
  rest_fits a b f = chosen (nat_eq b 0) a (a % b) f (omega (arith, mod-le a b))

  majority_fits : (a b c : ℕ) → a < 2 ^ n → b < 2 ^ n → bit_or (bit_or (bit_and a b) (bit_and a c)) (bit_and b c) < 2 ^ n
  majority_fits a b c f g =
      or_lt n _ _ (or_lt n _ _ (and_lt_left n a b f) (and_lt_left n a c f)) (and_lt_left n b c g)

  choice_fits : (a b c : ℕ) → a < 2 ^ n → bit_or (bit_and a b) (bit_and (ones n - a) c) < 2 ^ n
  choice_fits a b c f = or_lt n _ _ (and_lt_left n a b f) (and_lt_left n (ones n - a) c (omega (arith, pow_pos n)))

  right_shift_fits : (s f a : ℕ) → f < 2 → a < 2 ^ n → shifted_right n f s a < 2 ^ n
  right_shift_fits s f a bit fits =
      let t = min s n in
      let e : n ≡ n - t + t = omega arith in
      let low : a / 2 ^ t < 2 ^ (n - t) = shr_below a (n - t) t (subst (λ k. a < 2 ^ k) e fits) in
      let high : f * (2 ^ n - 2 ^ (n - t)) ≤ 1 * (2 ^ n - 2 ^ (n - t)) = mul-le f (2 ^ n - 2 ^ (n - t)) 1 (2 ^ n - 2 ^ (n - t)) (omega arith) (omega arith) in
      omega (arith, powers_grow (n - t) n (omega arith))

-- at a lesser and a greater width
module _ (n w : ℕ) (within : n ≤ w) where
  apart : n + (w - n) ≡ w
  apart = omega arith

  first_fits : (a : ℕ) → a < 2 ^ w → a / 2 ^ (w - n) < 2 ^ n
  first_fits a f = shr_below a n (w - n) (subst (λ k. a < 2 ^ k) (sym apart) f)

  zeros_before_fit : (a : ℕ) → a < 2 ^ n → zeros_before n w a < 2 ^ w
  zeros_before_fit a f = omega (arith, powers_grow n w within)

  ones_before_fit : (a : ℕ) → a < 2 ^ n → ones_before n w a < 2 ^ w
  ones_before_fit a f = omega (arith, powers_grow n w within)

  zeros_after_fit : (a : ℕ) → a < 2 ^ n → zeros_after n w a < 2 ^ w
  zeros_after_fit a f = subst (λ k. a * 2 ^ (w - n) < 2 ^ k) apart (shl_below a n (w - n) f)

  ones_after_fit : (a : ℕ) → a < 2 ^ n → ones_after n w a < 2 ^ w
  ones_after_fit a f =
      let joined : w - n + n ≡ w = omega arith in
      let product : 2 ^ (w - n) * 2 ^ n ≡ 2 ^ w = subst (λ k. 2 ^ (w - n) * 2 ^ n ≡ 2 ^ k) joined (sym (pow-add 2 (w - n) n)) in
      omega (arith, mul-add-lt a (2 ^ (w - n)) (ones (w - n)) (2 ^ n) f (omega (arith, pow_pos (w - n))))

none_fit : (b : Bool) → ResultsFit [] (if b then None else Some [])
none_fit true = tt
none_fit false = tt

-- what a jet gives fits its results' types
pub jet_fits : (j : Jet) (n w : ℕ) → 0 < n → n ≤ w → (xs : List ℕ) → AllZip Fits xs (argument_kinds j n w) → ResultsFit (result_kinds j n w) (numbers j n w xs)
jet_fits jet.Add n w some within (a ∷ b ∷ []) fit = (tt, (last_bits n (a + b), tt))
jet_fits jet.FullAdd n w some within (c ∷ a ∷ b ∷ []) fit = (tt, (last_bits n (a + b + c), tt))
jet_fits jet.Subtract n w some within (a ∷ b ∷ []) fit = (tt, (last_bits n (2 ^ n + a - b), tt))
jet_fits jet.FullSubtract n w some within (c ∷ a ∷ b ∷ []) fit = (tt, (last_bits n (2 ^ n + a - (b + c)), tt))
jet_fits jet.Increment n w some within (a ∷ []) fit = (tt, (last_bits n (a + 1), tt))
jet_fits jet.Decrement n w some within (a ∷ []) fit = (tt, (last_bits n (2 ^ n + a - 1), tt))
jet_fits jet.FullIncrement n w some within (c ∷ a ∷ []) fit = (tt, (last_bits n (a + c), tt))
jet_fits jet.FullDecrement n w some within (c ∷ a ∷ []) fit = (tt, (last_bits n (2 ^ n + a - c), tt))
jet_fits jet.Negate n w some within (a ∷ []) fit = (tt, (last_bits n (2 ^ n + 0 - a), tt))
jet_fits jet.Multiply n w some within (a ∷ b ∷ []) fit = (product_fits n a b fit.0 fit.1.0, tt)
jet_fits jet.FullMultiply n w some within (a ∷ b ∷ c ∷ d ∷ []) fit = (product_sum_fits n a b c d fit.0 fit.1.0 fit.1.1.0 fit.1.1.1.0, tt)
jet_fits jet.DivMod n w some within (a ∷ b ∷ []) fit = (quotient_fits n a b fit.0, (rest_fits n a b fit.0, tt))
jet_fits jet.Divide n w some within (a ∷ b ∷ []) fit = (quotient_fits n a b fit.0, tt)
jet_fits jet.Modulo n w some within (a ∷ b ∷ []) fit = (rest_fits n a b fit.0, tt)
jet_fits jet.Divides n w some within (a ∷ b ∷ []) fit = (tt, tt)
jet_fits jet.IsZero n w some within (a ∷ []) fit = (tt, tt)
jet_fits jet.IsOne n w some within (a ∷ []) fit = (tt, tt)
jet_fits jet.Eq n w some within (a ∷ b ∷ []) fit = (tt, tt)
jet_fits jet.Lt n w some within (a ∷ b ∷ []) fit = (tt, tt)
jet_fits jet.Le n w some within (a ∷ b ∷ []) fit = (tt, tt)
jet_fits jet.Min n w some within (a ∷ b ∷ []) fit = (omega arith, tt)
jet_fits jet.Max n w some within (a ∷ b ∷ []) fit = (omega arith, tt)
jet_fits jet.Median n w some within (a ∷ b ∷ c ∷ []) fit = (omega arith, tt)
jet_fits jet.Low n w some within [] fit = (pow_pos n, tt)
jet_fits jet.High n w some within [] fit = (omega (arith, pow_pos n), tt)
jet_fits jet.Complement n w some within (a ∷ []) fit = (omega (arith, pow_pos n), tt)
jet_fits jet.And n w some within (a ∷ b ∷ []) fit = (and_lt_left n a b fit.0, tt)
jet_fits jet.Or n w some within (a ∷ b ∷ []) fit = (or_lt n a b fit.0 fit.1.0, tt)
jet_fits jet.Xor n w some within (a ∷ b ∷ []) fit = (xor_lt n a b fit.0 fit.1.0, tt)
jet_fits jet.Maj n w some within (a ∷ b ∷ c ∷ []) fit = (majority_fits n a b c fit.0 fit.1.0, tt)
jet_fits jet.XorXor n w some within (a ∷ b ∷ c ∷ []) fit = (xor_lt n (bit_xor a b) c (xor_lt n a b fit.0 fit.1.0) fit.1.1.0, tt)
jet_fits jet.Ch n w some within (a ∷ b ∷ c ∷ []) fit = (choice_fits n a b c fit.0, tt)
jet_fits jet.Some n w some within (a ∷ []) fit = (tt, tt)
jet_fits jet.All n w some within (a ∷ []) fit = (tt, tt)
jet_fits jet.LeftShift n w some within (s ∷ a ∷ []) fit = (last_bits n (a * 2 ^ min s n + 0 * ones (min s n)), tt)
jet_fits jet.RightShift n w some within (s ∷ a ∷ []) fit = (right_shift_fits n s 0 a (omega arith) fit.1.0, tt)
jet_fits jet.LeftShiftWith n w some within (f ∷ s ∷ a ∷ []) fit = (last_bits n (a * 2 ^ min s n + f * ones (min s n)), tt)
jet_fits jet.RightShiftWith n w some within (f ∷ s ∷ a ∷ []) fit = (right_shift_fits n s f a fit.0 fit.1.1.0, tt)
jet_fits jet.LeftRotate n w some within (s ∷ a ∷ []) fit = (rotated_fits n (s % n) a (omega arith) fit.1.0, tt)
jet_fits jet.RightRotate n w some within (s ∷ a ∷ []) fit = (rotated_fits n (n - s % n) a (omega arith) fit.1.0, tt)
jet_fits jet.Verify n w some within (a ∷ []) fit = none_fit (nat_eq a 0)
jet_fits jet.Leftmost n w some within (a ∷ []) fit = (first_fits n w within a fit.0, tt)
jet_fits jet.Rightmost n w some within (a ∷ []) fit = (last_bits n a, tt)
jet_fits jet.LeftPadLow n w some within (a ∷ []) fit = (zeros_before_fit n w within a fit.0, tt)
jet_fits jet.LeftPadHigh n w some within (a ∷ []) fit = (ones_before_fit n w within a fit.0, tt)
jet_fits jet.LeftExtend n w some within (a ∷ []) fit = (chosen w (nat_lt a (2 ^ (n - 1))) (zeros_before n w a) (ones_before n w a) (zeros_before_fit n w within a fit.0) (ones_before_fit n w within a fit.0), tt)
jet_fits jet.RightPadLow n w some within (a ∷ []) fit = (zeros_after_fit n w within a fit.0, tt)
jet_fits jet.RightPadHigh n w some within (a ∷ []) fit = (ones_after_fit n w within a fit.0, tt)
jet_fits jet.RightExtend n w some within (a ∷ []) fit = (chosen w (nat_eq (a % 2) 0) (zeros_after n w a) (ones_after n w a) (zeros_after_fit n w within a fit.0) (ones_after_fit n w within a fit.0), tt)
jet_fits _ n w some within _ fit = tt
