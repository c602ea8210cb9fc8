-- The numbers that digits spell, from left to right.
use Rattle.std.proofs.Common.{◌≡◌, refl, sym, ap, ◌∙◌, ℕ, zero, suc, ◌+◌, ◌-◌, ◌*◌, ◌/◌, ◌%◌, ◌^◌, ◌<◌, ◌≤◌, Bool, true, false, not, ◌&&◌, ◌||◌, ◌==◌, List, [], ◌∷◌, length, drop, arith, get_or}
use Rattle.std.specs.Prelude.{fold, filter}
use Rattle.std.specs.Char.{digit_value, is_ascii_digit}
use Rattle.std.proofs.lemmas.Bool.{lt-ltb, le-ltb}
use Rattle.std.proofs.lemmas.Bool.Decides.{nat_tests}
use Rattle.std.proofs.lemmas.List.{drop_more}
use Rattle.simplicityhl.specs.Tokens.{are_digits, decimal_value}
use Rattle.hl_meaning.specs.Literals.{based_value, literal_value}

-- the number when these bytes are read after a number
abbrev pub based_from : ℕ → ℕ → List ℕ → ℕ
based_from base value bytes = fold (λ n c. n * base + digit_value c) value (filter (λ c. not (c == 95)) bytes)

pub digit_read : (base value : ℕ) (bytes : List ℕ) (i d : ℕ) → i < length bytes → (get_or bytes i d == 95) ≡ false → based_from base value (drop i bytes) ≡ based_from base (value * base + digit_value (get_or bytes i d)) (drop (i + 1) bytes)
digit_read base value bytes i d short e = rw (drop_more bytes i d short) (rw e refl)

pub other_read : (base value : ℕ) (bytes : List ℕ) (i d : ℕ) → i < length bytes → (get_or bytes i d == 95) ≡ true → based_from base value (drop i bytes) ≡ based_from base value (drop (i + 1) bytes)
other_read base value bytes i d short e = rw (drop_more bytes i d short) (rw e refl)

-- numbers only grow
pub grows : (base value : ℕ) (digits : List ℕ) → 0 < base → value ≤ fold (λ n c. n * base + digit_value c) value digits
grows base value [] some = omega arith
grows base value (c ∷ digits) some =
    let more = grows base (value * base + digit_value c) digits some in
    let once = larger base value some in omega (arith, more, once)
  where
    larger : (base value : ℕ) → 0 < base → value ≤ value * base
    larger zero value some = absurd (omega arith)
    larger (suc base) value some = grind arith

-- A digit behind a number of two halves.

abbrev half : ℕ
half = 18446744073709551616

module _ (high low base digit first second : ℕ) (f : first ≡ low % 18446744073709551616 * base + digit) (s : second ≡ low / 18446744073709551616 * base + first / 18446744073709551616) where
  low_times : low * base ≡ low / 18446744073709551616 * base * 18446744073709551616 + low % 18446744073709551616 * base
  low_times = ap (λ x. x * base) whole ∙ spread (low / 18446744073709551616) (low % 18446744073709551616) base
    where
      whole : low ≡ low / 18446744073709551616 * 18446744073709551616 + low % 18446744073709551616
      whole = omega arith

      spread : (q r b : ℕ) → (q * 18446744073709551616 + r) * b ≡ q * b * 18446744073709551616 + r * b
      spread q r b = omega arith

  high_times : (high * 2 ^ 128 + low) * base ≡ high * base * 2 ^ 128 + low * base
  high_times = omega arith

  pub digit_joined : (high * base + second / 18446744073709551616) * 2 ^ 128 + (second % 18446744073709551616 * 18446744073709551616 + first % 18446744073709551616) ≡ (high * 2 ^ 128 + low) * base + digit
  digit_joined = omega (arith, low_times, high_times, f, s)

  pub digit_past : (high * base + second / 18446744073709551616 < 2 ^ 128 → ⊥) → 2 ^ 256 ≤ (high * 2 ^ 128 + low) * base + digit
  digit_past none = let more : 2 ^ 128 ≤ high * base + second / 18446744073709551616 = omega arith in omega (arith, digit_joined, more)

pub digit_found : (high low base digit b d first second mul next : ℕ) → b ≡ base → d ≡ digit → first ≡ low % 18446744073709551616 * b + d → second ≡ low / 18446744073709551616 * b + first / 18446744073709551616 → mul ≡ high * b →
    next ≡ mul + second / 18446744073709551616 → next * 2 ^ 128 + (second % 18446744073709551616 * 18446744073709551616 + first % 18446744073709551616) ≡ (high * 2 ^ 128 + low) * base + digit
digit_found high low base digit b d first second mul next base_is digit_is f s m n =
    ap (λ h. h * 2 ^ 128 + (second % 18446744073709551616 * 18446744073709551616 + first % 18446744073709551616)) (n ∙ ap (λ x. x + second / 18446744073709551616) m)
    ∙ digit_joined high low b d first second f s ∙ ap (λ x. (high * 2 ^ 128 + low) * x + d) base_is ∙ ap (λ x. (high * 2 ^ 128 + low) * base + x) digit_is

pub digit_none : (high low base digit b d first second mul : ℕ) → b ≡ base → d ≡ digit → first ≡ low % 18446744073709551616 * b + d → second ≡ low / 18446744073709551616 * b + first / 18446744073709551616 → mul ≡ high * b →
    (mul + second / 18446744073709551616 < 2 ^ 128 → ⊥) → 2 ^ 256 ≤ (high * 2 ^ 128 + low) * base + digit
digit_none high low base digit b d first second mul base_is digit_is f s m none =
    let past = digit_past high low b d first second f s (λ h. none (rw m h)) in
    rw (← base_is, ← digit_is) past

not_equal : (a b : ℕ) → (a ≡ b → ⊥) → (a == b) ≡ false
not_equal a b h = grind (arith, nat_tests)

-- a number that is too large already
pub past_read : (base value : ℕ) (bytes : List ℕ) (i d digit whole : ℕ) → 0 < base → i < length bytes → (get_or bytes i d ≡ 95 → ⊥) → digit ≡ digit_value (get_or bytes i d) → 2 ^ 256 ≤ value * base + digit →
    based_from base value (drop i bytes) ≡ whole → 2 ^ 256 ≤ whole
past_read base value bytes i d digit whole some short other is large e =
    let test : (get_or bytes i d == 95) ≡ false = not_equal (get_or bytes i d) 95 other in
    let read = digit_read base value bytes i d short test in
    let more = grows base (value * base + digit_value (get_or bytes i d)) (filter (λ c. not (c == 95)) (drop (i + 1) bytes)) some in
    let same : whole ≡ based_from base (value * base + digit_value (get_or bytes i d)) (drop (i + 1) bytes) = sym e ∙ read in
    omega (arith, large, more, same, is)

-- Decimals.

digit_bounds : (c : ℕ) → is_ascii_digit c ≡ true → (48 ≤ c) × (c ≤ 57)
digit_bounds c h = (grind (arith, nat_tests), grind (arith, nat_tests))

digit_of : (c : ℕ) → is_ascii_digit c ≡ true → digit_value c ≡ c - 48
digit_of c h =
    let b = digit_bounds c h in
    rw (le-ltb c 48 b.0, lt-ltb c 58 (omega arith)) refl

no_underscore : (c : ℕ) → is_ascii_digit c ≡ true → (c == 95) ≡ false
no_underscore c h = let b = digit_bounds c h in grind (arith, nat_tests)

decimal_based : (v : ℕ) (word : List ℕ) → are_digits is_ascii_digit word ≡ true → fold (λ n c. n * 10 + (c - 48)) v (filter is_ascii_digit word) ≡ based_from 10 v word
decimal_based v [] h = refl
decimal_based v (c ∷ word) h =
    let parts = both (is_ascii_digit c || c == 95) (are_digits is_ascii_digit word) h in
    elim (is_ascii_digit c) as (λ b. is_ascii_digit c ≡ b → fold (λ n c. n * 10 + (c - 48)) v (filter is_ascii_digit (c ∷ word)) ≡ based_from 10 v (c ∷ word)) [
      | true ↦ λ e. let u = no_underscore c e in let d = digit_of c e in rw (e, u) (ap (λ x. fold (λ n c. n * 10 + (c - 48)) x (filter is_ascii_digit word)) (ap (λ x. v * 10 + x) (sym d)) ∙ decimal_based (v * 10 + digit_value c) word parts.1)
      | false ↦ λ e. let u : (c == 95) ≡ true = rw e at parts.0 in rw (e, u) (decimal_based v word parts.1)
    ] refl
  where
    both : (a b : Bool) → (a && b) ≡ true → (a ≡ true) × (b ≡ true)
    both true b h = (refl, h)
    both false b h = cc

pub decimal_is_based : (word : List ℕ) → are_digits is_ascii_digit word ≡ true → decimal_value word ≡ based_value 10 word
decimal_is_based word h = decimal_based 0 word h

pub decimal_spelled : (word : List ℕ) → are_digits is_ascii_digit word ≡ true → literal_value word ≡ based_value 10 word
decimal_spelled word h = rw h (decimal_is_based word h)
