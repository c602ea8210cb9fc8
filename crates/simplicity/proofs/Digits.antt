-- Digits are the numbers of their width, and the values of its type.
use Rattle.std.proofs.Common.{◌≡◌, ℕ, zero, suc, ◌+◌, ◌*◌, ◌/◌, ◌%◌, ◌^◌, ◌<◌, true, false, Some, refl, sym, ap, ◌∙◌, subst, arith}
use Rattle.std.proofs.lemmas.Nat.{div-mul-add, mod-mul-add, pow-add, mul-add-lt, div_below, mod_below}
use Rattle.std.proofs.Math.Nat.{div-add-mod}
use Rattle.std.proofs.Math.Pow.{pow_pos}
use Rattle.simplicity.specs.Types.{Value, UnitValue, Inl, Inr, Pair, IsOf, word_kind, word_value, word_count}
use Rattle.simplicity.specs.Digits.{Digits, number, tree}
use Rattle.simplicity.specs.TermLaws.{WordsAreDigits}

-- twice the bits are the square of the words
pub count_square : (k : ℕ) → word_count (suc k) ≡ word_count k * word_count k
count_square k = let e : 2 ^ suc k ≡ 2 ^ k + 2 ^ k = omega arith in ap (λ n. 2 ^ n) e ∙ pow-add 2 (2 ^ k) (2 ^ k)

pub count_pos : (k : ℕ) → 0 < word_count k
count_pos k = pow_pos (2 ^ k)

pub number_below : (k : ℕ) (d : Digits k) → number k d < word_count k
number_below zero false = omega arith
number_below zero true = omega arith
number_below (suc k) d =
    subst (λ n. number (suc k) d < n) (sym (count_square k))
    (mul-add-lt (number k d.0) (word_count k) (number k d.1) (word_count k) (number_below k d.0) (number_below k d.1))

-- the word of the number of digits is their tree
pub tree_word : (k : ℕ) (d : Digits k) → word_value k (number k d) ≡ tree k d
tree_word zero false = refl
tree_word zero true = refl
tree_word (suc k) d =
    rw (
      div-mul-add (number k d.0) (word_count k) (number k d.1) (number_below k d.1),
      mod-mul-add (number k d.0) (word_count k) (number k d.1) (number_below k d.1),
      tree_word k d.0,
      tree_word k d.1,
    ) refl

-- each number of the width has digits
pub digits : (k x : ℕ) → x < word_count k → (d : Digits k) × (number k d ≡ x)
digits zero zero h = (false, refl)
digits zero (suc x) h = (true, omega arith)
digits (suc k) x h =
    let small : x < word_count k * word_count k = subst (λ n. x < n) (count_square k) h in
    let front = digits k (x / word_count k) (div_below x (word_count k) (word_count k) (count_pos k) small) in
    let back = digits k (x % word_count k) (mod_below x (word_count k) (count_pos k)) in
    ((front.0, back.0), rw (front.1, back.1) (omega (arith, div-add-mod x (word_count k))))

-- and these are its word
pub word_digits : (k x : ℕ) → x < word_count k → (d : Digits k) × (number k d ≡ x) × (word_value k x ≡ tree k d)
word_digits k x h = let d = digits k x h in (d.0, d.1, ap (word_value k) (sym d.1) ∙ tree_word k d.0)

pub same_word : (k x : ℕ) (d : Digits k) → number k d ≡ x → Some (tree k d) ≡ Some (word_value k x)
same_word k x d e = ap Some (sym (tree_word k d) ∙ ap (word_value k) e)

-- each value of the type has digits
pub value_digits : (k : ℕ) (v : Value) → IsOf v (word_kind k) → (d : Digits k) × (v ≡ tree k d)
value_digits zero (Inl UnitValue) h = (false, refl)
value_digits zero (Inr UnitValue) h = (true, refl)
value_digits zero (Inl (Inl a)) h = absurd h
value_digits zero (Inl (Inr a)) h = absurd h
value_digits zero (Inl (Pair a b)) h = absurd h
value_digits zero (Inr (Inl a)) h = absurd h
value_digits zero (Inr (Inr a)) h = absurd h
value_digits zero (Inr (Pair a b)) h = absurd h
value_digits zero UnitValue h = absurd h
value_digits zero (Pair a b) h = absurd h
value_digits (suc k) (Pair a b) h =
    let front = value_digits k a h.0 in
    let back = value_digits k b h.1 in
    ((front.0, back.0), ap (λ c. Pair c b) front.1 ∙ ap (Pair (tree k front.0)) back.1)
value_digits (suc k) UnitValue h = absurd h
value_digits (suc k) (Inl a) h = absurd h
value_digits (suc k) (Inr a) h = absurd h

pub tree_of : (k : ℕ) (d : Digits k) → IsOf (tree k d) (word_kind k)
tree_of zero false = tt
tree_of zero true = tt
tree_of (suc k) d = (tree_of k d.0, tree_of k d.1)

pub words_are_digits : WordsAreDigits
words_are_digits = record { below = number_below; value = tree_word; of_number = word_digits; of_value = value_digits; is_of = tree_of }
