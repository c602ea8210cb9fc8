-- The differences and decrements compute their formulas.
use Rattle.std.proofs.Common.{◌≡◌, ℕ, ◌+◌, ◌-◌, ◌*◌, ◌%◌, ◌^◌, ◌<◌, List, Bool, true, false, refl, ap, ◌∙◌, arith, Some}
use Rattle.std.specs.Prelude.{nat_lt}
use Rattle.simplicity.specs.Types.{Value, Pair, word_value, bit_value, word_count}
use Rattle.simplicity.specs.Terms.{meaning}
use Rattle.simplicity.specs.Widths.{level_of}
use Rattle.jets.specs.Jet.{is_jet, sizes}
use Rattle.jet_terms.specs.Expansions.{source_of}
use Rattle.jet_terms.specs.Laws.{Gives, IsFormula}
use Rattle.simplicity.specs.Digits.{Digits, number, tree, bit_number}
use Rattle.simplicity.proofs.Digits.{count_pos, number_below, tree_word, word_digits}
use Rattle.std.proofs.lemmas.Bool.{lt-ltb, le-ltb}
use Rattle.std.proofs.lemmas.Nat.{mod-mul-add}
use Rattle.jet_terms.specs.Trees.{full_subtract, subtract, full_decrement, decrement, negate}
use Rattle.jet_terms.proofs.Division.{takes}
use Rattle.jet_terms.proofs.Frame.{usual_level, args1, args2, args3, at1, at2, at_bit1, at_bit2}
use Rattle.jets.specs.Jet as jet
use Rattle.jets.specs.Formula as formula

difference_law : (k : ℕ) (borrow : Bool) (rest : Digits k) (a b : ℕ) → number k rest + b ≡ a + bit_number borrow * word_count k
    → Some (Pair (bit_value borrow) (tree k rest)) ≡ Some (Pair (word_value 0 (formula.bit (nat_lt a (b)))) (word_value k ((word_count k + a - (b)) % word_count k)))
difference_law k false rest a b e =
    let small = number_below k rest in
    let d : word_count k + a - b ≡ 1 * word_count k + number k rest = omega (arith, e) in
    let low = ap (λ s. s % word_count k) d ∙ mod-mul-add 1 (word_count k) (number k rest) small in
    rw (low, le-ltb a b (omega (arith, e)), tree_word k rest) refl
difference_law k true rest a b e =
    let small = number_below k rest in
    let d : word_count k + a - b ≡ 0 * word_count k + number k rest = omega (arith, e) in
    let low = ap (λ s. s % word_count k) d ∙ mod-mul-add 0 (word_count k) (number k rest) small in
    rw (low, lt-ltb a b (omega (arith, e, small)), tree_word k rest) refl

pub full_differences : (k : ℕ) (ws : List Value) (c a b : ℕ) → c < word_count 0 → a < word_count k → b < word_count k →
    meaning (full_subtract k) ws (Pair (word_value 0 c) (Pair (word_value k a) (word_value k b))) ≡ Some (Pair (word_value 0 (formula.bit (nat_lt a (b + c)))) (word_value k ((word_count k + a - (b + c)) % word_count k)))
full_differences k ws c a b e f g =
    let z = word_digits 0 c e in
    let x = word_digits k a f in
    let y = word_digits k b g in
    let s = takes k ws z.0 x.0 y.0 in
    rw (z.2, x.2, y.2) (s.gives ∙ difference_law k s.borrow s.rest a (b + c) (omega (arith, s.law, x.1, y.1, z.1)))

again : (k a m n : ℕ) → m ≡ n → Some (Pair (word_value 0 (formula.bit (nat_lt a (m)))) (word_value k ((word_count k + a - (m)) % word_count k))) ≡ Some (Pair (word_value 0 (formula.bit (nat_lt a (n)))) (word_value k ((word_count k + a - (n)) % word_count k)))
again k a m n e = ap (λ b. Some (Pair (word_value 0 (formula.bit (nat_lt a (b)))) (word_value k ((word_count k + a - (b)) % word_count k)))) e

pub plain_differences : (k : ℕ) (ws : List Value) (a b : ℕ) → a < word_count k → b < word_count k → meaning (subtract k) ws (Pair (word_value k a) (word_value k b)) ≡ Some (Pair (word_value 0 (formula.bit (nat_lt a (b)))) (word_value k ((word_count k + a - (b)) % word_count k)))
plain_differences k ws a b f g = full_differences k ws 0 a b (omega arith) f g ∙ again k a (b + 0) b (omega arith)

pub full_decrements : (k : ℕ) (ws : List Value) (c a : ℕ) → c < word_count 0 → a < word_count k → meaning (full_decrement k) ws (Pair (word_value 0 c) (word_value k a)) ≡ Some (Pair (word_value 0 (formula.bit (nat_lt a (c)))) (word_value k ((word_count k + a - (c)) % word_count k)))
full_decrements k ws c a f g = full_differences k ws c a 0 f g (count_pos k) ∙ again k a (0 + c) c (omega arith)

pub decrements : (k : ℕ) (ws : List Value) (a : ℕ) → a < word_count k → meaning (decrement k) ws (word_value k a) ≡ Some (Pair (word_value 0 (formula.bit (nat_lt a (1)))) (word_value k ((word_count k + a - (1)) % word_count k)))
decrements k ws a f = full_decrements k ws 1 a (omega arith) f

pub negations : (k : ℕ) (ws : List Value) (a : ℕ) → a < word_count k → meaning (negate k) ws (word_value k a) ≡ Some (Pair (word_value 0 (formula.bit (nat_lt 0 (a)))) (word_value k ((word_count k + 0 - (a)) % word_count k)))
negations k ws a f = plain_differences k ws 0 a (count_pos k) f

pub full_subtract_law : IsFormula jet.FullSubtract
full_subtract_law n w is xs ws all =
    args3 jet.Truth (jet.Number n) (jet.Number n) (Gives jet.FullSubtract n w ws)
    (at_bit2 full_subtract (λ n k c a b. Some (Pair (word_value 0 (formula.bit (nat_lt a (b + c)))) (word_value k ((2 ^ n + a - (b + c)) % 2 ^ n)))) full_differences n (level_of n) (usual_level n w is) (source_of jet.FullSubtract n w) ws) xs all

pub subtract_law : IsFormula jet.Subtract
subtract_law n w is xs ws all =
    args2 (jet.Number n) (jet.Number n) (Gives jet.Subtract n w ws)
    (at2 subtract (λ n k a b. Some (Pair (word_value 0 (formula.bit (nat_lt a (b)))) (word_value k ((2 ^ n + a - (b)) % 2 ^ n)))) plain_differences n (level_of n) (usual_level n w is) (source_of jet.Subtract n w) ws) xs all

pub full_decrement_law : IsFormula jet.FullDecrement
full_decrement_law n w is xs ws all =
    args2 jet.Truth (jet.Number n) (Gives jet.FullDecrement n w ws)
    (at_bit1 full_decrement (λ n k c a. Some (Pair (word_value 0 (formula.bit (nat_lt a (c)))) (word_value k ((2 ^ n + a - (c)) % 2 ^ n)))) full_decrements n (level_of n) (usual_level n w is) (source_of jet.FullDecrement n w) ws) xs all

pub decrement_law : IsFormula jet.Decrement
decrement_law n w is xs ws all =
    args1 (jet.Number n) (Gives jet.Decrement n w ws)
    (at1 decrement (λ n k a. Some (Pair (word_value 0 (formula.bit (nat_lt a (1)))) (word_value k ((2 ^ n + a - (1)) % 2 ^ n)))) decrements n (level_of n) (usual_level n w is) (source_of jet.Decrement n w) ws) xs all

pub negate_law : IsFormula jet.Negate
negate_law n w is xs ws all =
    args1 (jet.Number n) (Gives jet.Negate n w ws)
    (at1 negate (λ n k a. Some (Pair (word_value 0 (formula.bit (nat_lt 0 (a)))) (word_value k ((2 ^ n + 0 - (a)) % 2 ^ n)))) negations n (level_of n) (usual_level n w is) (source_of jet.Negate n w) ws) xs all
