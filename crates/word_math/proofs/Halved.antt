-- Values of words by their halves.
use Rattle.std.proofs.Common.{ℕ, zero, suc, Option, Some, None, IfSome, ◌≡◌, ◌+◌, ◌-◌, ◌*◌, ◌/◌, ◌%◌, ◌^◌, ◌<◌, ◌≤◌, refl, ap, subst, ◌∙◌, arith}
use Rattle.std.proofs.lemmas.Nat.{pow-add, pow_pos, shr_high, mod_low, mul-add-lt}
use Rattle.simplicity.specs.Widths.{level_of}
use Rattle.jets.specs.Unsigned.{Unsigned}
use Rattle.simplicity.specs.Types.{Value, Pair, word_value, word_count}
use Rattle.word_math.specs.Values.{IsWordOf, IsNoWordOf}
use Rattle.word_math.proofs.Moved.{powers_grow}

whole_count : (k : ℕ) → word_count (suc k) ≡ word_count k * word_count k
whole_count k =
    let twice : 2 ^ suc k ≡ 2 ^ k + 2 ^ k = omega arith in
    ap (λ j. 2 ^ j) twice ∙ pow-add 2 (2 ^ k) (2 ^ k)

pub halves : (k h l : ℕ) (a b : Value) → IsWordOf k h a → IsWordOf k l b → IsWordOf (suc k) (h * word_count k + l) (Pair a b)
halves k h l a b first second = record {
  fits = rw (whole_count k) (mul-add-lt h (word_count k) l (word_count k) first.fits second.fits);
  is =
      let high : (h * word_count k + l) / word_count k ≡ h = shr_high h (2 ^ k) l second.fits in
      let low : (h * word_count k + l) % word_count k ≡ l = mod_low h (2 ^ k) l second.fits in
      rw (high, low) (rw (first.is, second.is) refl);
}

small_square : (k h : ℕ) → k ≤ 6 → h < word_count k → h * word_count k % 2 ^ 128 ≡ h * word_count k
small_square k h small fits =
    let e : word_count (suc k) ≤ 2 ^ 128 = powers_grow (2 ^ suc k) 128 (powers_grow (suc k) 7 (omega arith)) in
    let g : h * word_count k + 0 < word_count k * word_count k = mul-add-lt h (word_count k) 0 (word_count k) fits (pow_pos (2 ^ k)) in
    omega (arith, e, g, whole_count k)

pub joined : (level behind h l : ℕ) (a b : Value) → 0 < level → level ≤ 7 → behind ≡ 2 ^ (level - 1)
    → IsWordOf (level - 1) h a → IsWordOf (level - 1) l b → IsWordOf level (h * 2 ^ behind % 2 ^ 128 + l) (Pair a b)
joined zero behind h l a b some small e first second = absurd (omega arith)
joined (suc k) behind h l a b some small e first second =
    let p : suc k - 1 ≡ k = omega arith in
    let f : IsWordOf k h a = subst (λ j. IsWordOf j h a) p first in
    let s : IsWordOf k l b = subst (λ j. IsWordOf j l b) p second in
    let q : behind ≡ 2 ^ k = e ∙ ap (λ j. 2 ^ j) p in
    rw (q, small_square k h (omega arith) f.fits) (halves k h l a b f s)

pub no_second : (level : ℕ) (a b : Value) → 0 < level → IsNoWordOf (level - 1) b → IsNoWordOf level (Pair a b)
no_second zero a b some none = absurd (omega arith)
no_second (suc k) a b some none = λ n e.
    let p : suc k - 1 ≡ k = omega arith in
    let no : IsNoWordOf k b = subst (λ j. IsNoWordOf j b) p none in
    no (n % word_count k) (cc e)

-- a word of 256 bits that was made of its halves
pub widest : (r : Option Unsigned) (h l : ℕ) (v : Value) → IfSome r (λ w. w ≡ record { width = 256; number = h * 2 ^ 128 + l })
    → IsWordOf 8 (h * word_count 7 + l) v → IfSome r (λ w. v ≡ word_value (level_of w.width) w.number)
widest None h l v e word = tt
widest (Some w) h l v e word = rw e word.is
