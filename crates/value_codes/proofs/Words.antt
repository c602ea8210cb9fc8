-- Words, taken apart and put together.
use Rattle.std.proofs.Common.{◌≡◌, ℕ, zero, suc, ◌+◌, ◌*◌, ◌/◌, ◌%◌, ◌^◌, ◌<◌, Bool, true, false, ◌&&◌, Some, refl, ap, ◌∙◌, arith, IsTrue, eqb-true}
use Rattle.std.proofs.Math.Nat.{div-lt_iff_lt-mul}
use Rattle.std.proofs.lemmas.Nat.{pow-add, pow_pos, shr_high, mod_low, mul-add-lt}
use Rattle.simplicity.specs.Types.{Value, UnitValue, Inl, Inr, Pair, IsOf, word_kind, word_value, word_count}
use Rattle.simplicity.specs.Widths.{level_of}
use Rattle.simplicityhl.specs.Kinds.{is_width}
use Rattle.hl_meaning.specs.Values.{number_of}
use Rattle.value_codes.proofs.Codecs.{one_parts}

whole_count : (k : ℕ) → word_count (suc k) ≡ word_count k * word_count k
whole_count k =
    let twice : 2 ^ suc k ≡ 2 ^ k + 2 ^ k = omega arith in
    ap (λ j. 2 ^ j) twice ∙ pow-add 2 (2 ^ k) (2 ^ k)

quotient : (n w : ℕ) → 0 < w → n < w * w → n / w < w
quotient n w some h = (div-lt_iff_lt-mul {k = w} {x = n} {y = w} some).1 h

pub number_of-word : (k n : ℕ) → n < word_count k → number_of k (word_value k n) ≡ Some n
number_of-word zero zero h = refl
number_of-word zero (suc zero) h = refl
number_of-word zero (suc (suc n)) h = absurd (omega arith)
number_of-word (suc k) n h =
    let some : 0 < word_count k = pow_pos (2 ^ k) in
    let first = number_of-word k (n / word_count k) (quotient n (word_count k) some (omega (arith, whole_count k))) in
    let second = number_of-word k (n % word_count k) (omega arith) in
    let whole : n / word_count k * word_count k + n % word_count k ≡ n = omega arith in
    rw (first, second) (ap Some whole)

-- a core value of a word type is the word of its number
pub record WordBack (k : ℕ) (c : Value) : Type 0 where
  pub number : ℕ
  pub fits : number < word_count k
  pub read : number_of k c ≡ Some number
  pub is : word_value k number ≡ c

both : (k : ℕ) (a b : Value) → WordBack k a → WordBack k b → WordBack (suc k) (Pair a b)
both k a b x y =
    let high : (x.number * word_count k + y.number) / word_count k ≡ x.number = shr_high x.number (2 ^ k) y.number y.fits in
    let low : (x.number * word_count k + y.number) % word_count k ≡ y.number = mod_low x.number (2 ^ k) y.number y.fits in
    record {
      number = x.number * word_count k + y.number;
      fits = rw (whole_count k) (mul-add-lt x.number (word_count k) y.number (word_count k) x.fits y.fits);
      read = rw (x.read, y.read) refl;
      is = rw (high, low) (rw (x.is, y.is) refl);
    }

pub word_back : (k : ℕ) (c : Value) → IsOf c (word_kind k) → WordBack k c
word_back zero (Inl u) h = let e = one_parts u h in record { number = 0; fits = omega arith; read = rw e refl; is = rw e refl }
word_back zero (Inr u) h = let e = one_parts u h in record { number = 1; fits = omega arith; read = rw e refl; is = rw e refl }
word_back zero UnitValue h = absurd h
word_back zero (Pair a b) h = absurd h
word_back (suc k) (Pair a b) h = both k a b (word_back k a h.0) (word_back k b h.1)
word_back (suc k) UnitValue h = absurd h
word_back (suc k) (Inl a) h = absurd h
word_back (suc k) (Inr a) h = absurd h

both_true : (a b : Bool) → IsTrue (a && b) → IsTrue a × IsTrue b
both_true true b h = (refl, h)
both_true false b h = cc

-- a width and its level
pub width_count : (width : ℕ) → IsTrue (is_width width) → width ≡ 2 ^ level_of width
width_count width h = eqb-true width (2 ^ level_of width) (both_true _ _ h).1
