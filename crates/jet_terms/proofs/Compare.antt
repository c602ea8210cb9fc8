-- Comparisons by halves.
use Rattle.std.proofs.Common.{◌≡◌, ◌≢◌, ℕ, zero, suc, ◌+◌, ◌*◌, ◌<◌, ◌≤◌, List, Bool, true, false, refl, ap, subst, arith, Some, ⊎_elim}
use Rattle.std.proofs.lemmas.Bool.{cases_lt}
use Rattle.std.proofs.lemmas.Nat.{mul-add-lt, same_from_place}
use Rattle.simplicity.specs.Types.{Value, Pair, bit_value, word_count}
use Rattle.simplicity.specs.Terms.{Term, meaning}
use Rattle.jet_terms.specs.Trees.{eq, lt, some_bit}
use Rattle.simplicity.specs.Digits.{Digits, number, tree}
use Rattle.simplicity.proofs.Digits.{number_below}

pub data Same (m n : ℕ) : Bool → Type 0 where
  equal : m ≡ n → Same m n true
  other : m ≢ n → Same m n false

pub data Less (m n : ℕ) : Bool → Type 0 where
  less : m < n → Less m n true
  more : n ≤ m → Less m n false

pub record Tests (t : Term) (w : List Value) (v : Value) (Law : Bool → Type 0) : Type 0 where
  pub answer : Bool
  pub gives : meaning t w v ≡ Some (bit_value answer)
  pub law : Law answer

pub high_less : (B ah al bh bl : ℕ) → al < B → ah < bh → ah * B + al < bh * B + bl
high_less B ah al bh bl s h = omega (arith, mul-add-lt ah B al bh h s)

abbrev Equals : (k : ℕ) → List Value → Digits k → Digits k → Type 0
Equals k w a b = Tests (eq k) w (Pair (tree k a) (tree k b)) (Same (number k a) (number k b))

equals_by : (k : ℕ) (w : List Value) (a b : Digits (suc k)) → Equals k w a.1 b.1
    → (r : Bool) → meaning (eq k) w (Pair (tree k a.0) (tree k b.0)) ≡ Some (bit_value r) → Same (number k a.0) (number k b.0) r → Equals (suc k) w a b
equals_by k w a b low true g (equal e) = record { answer = low.answer; gives = rw g (rw (low.gives) refl); law = lows low.answer low.law }
  where
    lows : (r : Bool) → Same (number k a.1) (number k b.1) r → Same (number (suc k) a) (number (suc k) b) r
    lows true (equal f) = equal (rw (e, f) refl)
    lows false (other f) = other (λ s. f (omega (arith, s, ap (λ x. x * word_count k) e)))
equals_by k w a b low false g (other f) = record { answer = false; gives = rw g refl; law = other (λ s. f ((same_from_place (number k a.0) (number k a.1) (number k b.0) (number k b.1) (word_count k) (number_below k a.1) (number_below k b.1) s).0)) }

pub equals : (k : ℕ) (w : List Value) (a b : Digits k) → Equals k w a b
equals zero w false false = record { answer = true; gives = refl; law = equal refl }
equals zero w false true = record { answer = false; gives = refl; law = other (λ e. omega (arith, e)) }
equals zero w true false = record { answer = false; gives = refl; law = other (λ e. omega (arith, e)) }
equals zero w true true = record { answer = true; gives = refl; law = equal refl }
equals (suc k) w a b = let high = equals k w a.0 b.0 in equals_by k w a b (equals k w a.1 b.1) high.answer high.gives high.law

abbrev Lesses : (k : ℕ) → List Value → Digits k → Digits k → Type 0
Lesses k w a b = Tests (lt k) w (Pair (tree k a) (tree k b)) (Less (number k a) (number k b))

lesses_by : (k : ℕ) (w : List Value) (a b : Digits (suc k)) → Lesses k w a.1 b.1 → Lesses k w a.0 b.0
    → (r : Bool) → meaning (eq k) w (Pair (tree k a.0) (tree k b.0)) ≡ Some (bit_value r) → Same (number k a.0) (number k b.0) r → Lesses (suc k) w a b
lesses_by k w a b low high true g (equal e) = record { answer = low.answer; gives = rw g (rw (low.gives) refl); law = lows low.answer low.law }
  where
    lows : (r : Bool) → Less (number k a.1) (number k b.1) r → Less (number (suc k) a) (number (suc k) b) r
    lows true (less f) = less (omega (arith, f, ap (λ x. x * word_count k) e))
    lows false (more f) = more (omega (arith, f, ap (λ x. x * word_count k) e))
lesses_by k w a b low high false g (other f) = record { answer = high.answer; gives = rw g (rw (high.gives) refl); law = highs high.answer high.law }
  where
    highs : (r : Bool) → Less (number k a.0) (number k b.0) r → Less (number (suc k) a) (number (suc k) b) r
    highs true (less h) = less (high_less (word_count k) (number k a.0) (number k a.1) (number k b.0) (number k b.1) (number_below k a.1) h)
    highs false (more h) = more (⊎_elim
        (λ (l : number k b.0 < number k a.0). let s = high_less (word_count k) (number k b.0) (number k b.1) (number k a.0) (number k a.1) (number_below k b.1) l in omega (arith, s))
        (λ (l : number k a.0 ≤ number k b.0). absurd (f (omega arith)))
        (cases_lt (number k b.0) (number k a.0)))

pub lesses : (k : ℕ) (w : List Value) (a b : Digits k) → Lesses k w a b
lesses zero w false false = record { answer = false; gives = refl; law = more (omega arith) }
lesses zero w false true = record { answer = true; gives = refl; law = less (omega arith) }
lesses zero w true false = record { answer = false; gives = refl; law = more (omega arith) }
lesses zero w true true = record { answer = false; gives = refl; law = more (omega arith) }
lesses (suc k) w a b = let high = equals k w a.0 b.0 in lesses_by k w a b (lesses k w a.1 b.1) (lesses k w a.0 b.0) high.answer high.gives high.law

abbrev Somes : (k : ℕ) → List Value → Digits k → Type 0
Somes k w a = Tests (some_bit k) w (tree k a) (Less 0 (number k a))

somes_by : (k : ℕ) (w : List Value) (a : Digits (suc k)) → Somes k w a.1 → (r : Bool) → meaning (some_bit k) w (tree k a.0) ≡ Some (bit_value r) → Less 0 (number k a.0) r → Somes (suc k) w a
somes_by k w a low true g (less h) = record { answer = true; gives = rw g refl; law = less (let s = high_less (word_count k) 0 0 (number k a.0) (number k a.1) (omega (arith, number_below k a.1)) h in omega (arith, s)) }
somes_by k w a low false g (more h) =
    let z : number k a.0 ≡ 0 = omega arith in
    record { answer = low.answer; gives = rw g (rw (low.gives) refl); law = subst (λ n. Less 0 n low.answer) (omega (arith, ap (λ x. x * word_count k) z)) low.law }

-- whether a word isn't zero
pub somes : (k : ℕ) (w : List Value) (a : Digits k) → Somes k w a
somes zero w false = record { answer = false; gives = refl; law = more (omega arith) }
somes zero w true = record { answer = true; gives = refl; law = less (omega arith) }
somes (suc k) w a = let high = somes k w a.0 in somes_by k w a (somes k w a.1) high.answer high.gives high.law
