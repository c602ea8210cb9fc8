-- The bits of numbers, and the digits.
use Rattle.std.proofs.Common.{◌≡◌, ℕ, zero, suc, ◌+◌, ◌*◌, ◌^◌, Bool, true, false, refl, sym, ap, ◌∙◌}
use Rattle.std.specs.Prelude.{◌&&◌, ◌||◌, not, bit_and, bit_or, bit_xor}
use Rattle.std.proofs.lemmas.Nat.{and_block, or_block, xor_block}
use Rattle.simplicity.specs.Digits.{Digits, number}
use Rattle.simplicity.specs.Types.{word_count}
use Rattle.simplicity.proofs.Digits.{number_below}
use Rattle.jet_terms.proofs.Gates.{each1, each2, each3}

abbrev pub either_one : Bool → Bool → Bool
either_one false b = b
either_one true b = not b

pub number_and : (k : ℕ) (a b : Digits k) → number k (each2 ◌&&◌ k a b) ≡ bit_and (number k a) (number k b)
number_and zero false false = refl
number_and zero false true = refl
number_and zero true false = refl
number_and zero true true = refl
number_and (suc k) a b =
    ap (λ n. n * word_count k + number k (each2 ◌&&◌ k a.1 b.1)) (number_and k a.0 b.0) ∙ ap (λ n. bit_and (number k a.0) (number k b.0) * word_count k + n) (number_and k a.1 b.1)
    ∙ sym (and_block (2 ^ k) (number k a.0) (number k b.0) (number k a.1) (number k b.1) (number_below k a.1) (number_below k b.1))

pub number_or : (k : ℕ) (a b : Digits k) → number k (each2 ◌||◌ k a b) ≡ bit_or (number k a) (number k b)
number_or zero false false = refl
number_or zero false true = refl
number_or zero true false = refl
number_or zero true true = refl
number_or (suc k) a b =
    ap (λ n. n * word_count k + number k (each2 ◌||◌ k a.1 b.1)) (number_or k a.0 b.0) ∙ ap (λ n. bit_or (number k a.0) (number k b.0) * word_count k + n) (number_or k a.1 b.1)
    ∙ sym (or_block (2 ^ k) (number k a.0) (number k b.0) (number k a.1) (number k b.1) (number_below k a.1) (number_below k b.1))

pub number_xor : (k : ℕ) (a b : Digits k) → number k (each2 either_one k a b) ≡ bit_xor (number k a) (number k b)
number_xor zero false false = refl
number_xor zero false true = refl
number_xor zero true false = refl
number_xor zero true true = refl
number_xor (suc k) a b =
    ap (λ n. n * word_count k + number k (each2 either_one k a.1 b.1)) (number_xor k a.0 b.0) ∙ ap (λ n. bit_xor (number k a.0) (number k b.0) * word_count k + n) (number_xor k a.1 b.1)
    ∙ sym (xor_block (2 ^ k) (number k a.0) (number k b.0) (number k a.1) (number k b.1) (number_below k a.1) (number_below k b.1))

-- three words bit by bit, as steps on two
abbrev pub most : Bool → Bool → Bool → Bool
most a b c = ((a && b) || (a && c)) || (b && c)

abbrev pub odd : Bool → Bool → Bool → Bool
odd a b c = either_one (either_one a b) c

abbrev pub chosen : Bool → Bool → Bool → Bool
chosen a b c = (a && b) || (not a && c)

pub each_most : (k : ℕ) (a b c : Digits k) → each3 most k a b c ≡ each2 ◌||◌ k (each2 ◌||◌ k (each2 ◌&&◌ k a b) (each2 ◌&&◌ k a c)) (each2 ◌&&◌ k b c)
each_most zero a b c = refl
each_most (suc k) a b c = rw (each_most k a.0 b.0 c.0, each_most k a.1 b.1 c.1) refl

pub each_odd : (k : ℕ) (a b c : Digits k) → each3 odd k a b c ≡ each2 either_one k (each2 either_one k a b) c
each_odd zero a b c = refl
each_odd (suc k) a b c = rw (each_odd k a.0 b.0 c.0, each_odd k a.1 b.1 c.1) refl

pub each_chosen : (k : ℕ) (a b c : Digits k) → each3 chosen k a b c ≡ each2 ◌||◌ k (each2 ◌&&◌ k a b) (each2 ◌&&◌ k (each1 not k a) c)
each_chosen zero a b c = refl
each_chosen (suc k) a b c = rw (each_chosen k a.0 b.0 c.0, each_chosen k a.1 b.1 c.1) refl

pub number_most : (k : ℕ) (a b c : Digits k)
    → number k (each3 most k a b c) ≡ bit_or (bit_or (bit_and (number k a) (number k b)) (bit_and (number k a) (number k c))) (bit_and (number k b) (number k c))
number_most k a b c =
    rw (
      each_most k a b c,
      number_or k (each2 ◌||◌ k (each2 ◌&&◌ k a b) (each2 ◌&&◌ k a c)) (each2 ◌&&◌ k b c),
      number_or k (each2 ◌&&◌ k a b) (each2 ◌&&◌ k a c),
      number_and k a b,
      number_and k a c,
      number_and k b c,
    ) refl

pub number_odd : (k : ℕ) (a b c : Digits k) → number k (each3 odd k a b c) ≡ bit_xor (bit_xor (number k a) (number k b)) (number k c)
number_odd k a b c = rw (each_odd k a b c, number_xor k (each2 either_one k a b) c, number_xor k a b) refl

pub number_chosen : (k : ℕ) (a b c : Digits k)
    → number k (each3 chosen k a b c) ≡ bit_or (bit_and (number k a) (number k b)) (bit_and (number k (each1 not k a)) (number k c))
number_chosen k a b c =
    rw (each_chosen k a b c, number_or k (each2 ◌&&◌ k a b) (each2 ◌&&◌ k (each1 not k a) c), number_and k a b, number_and k (each1 not k a) c) refl
