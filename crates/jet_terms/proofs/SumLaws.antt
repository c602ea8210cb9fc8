-- The sums and increments compute their formulas.
use Rattle.std.proofs.Common.{◌≡◌, ℕ, ◌+◌, ◌*◌, ◌/◌, ◌%◌, ◌^◌, ◌<◌, List, Bool, refl, sym, ap, ◌∙◌, arith, Some}
use Rattle.simplicity.specs.Types.{Value, Pair, word_value, bit_value, word_count}
use Rattle.simplicity.specs.Terms.{meaning}
use Rattle.simplicity.specs.Widths.{level_of}
use Rattle.jets.specs.Jet.{is_jet, sizes}
use Rattle.jet_terms.specs.Expansions.{source_of}
use Rattle.jet_terms.specs.Laws.{Gives, IsFormula}
use Rattle.simplicity.specs.Digits.{Digits, number, tree, bit_number}
use Rattle.simplicity.proofs.Digits.{count_pos, number_below, tree_word, word_digits}
use Rattle.std.proofs.lemmas.Nat.{div-mul-add, mod-mul-add}
use Rattle.jet_terms.specs.Trees.{full_add, add, full_increment, increment}
use Rattle.jet_terms.proofs.Sums.{adds}
use Rattle.jet_terms.proofs.Frame.{usual_level, args1, args2, args3, at1, at2, at_bit1, at_bit2}
use Rattle.jets.specs.Jet as jet

sum_law : (k : ℕ) (carry : Bool) (total : Digits k) (sum : ℕ) → bit_number carry * word_count k + number k total ≡ sum →
    Some (Pair (bit_value carry) (tree k total)) ≡ Some (Pair (word_value 0 (sum / word_count k)) (word_value k (sum % word_count k)))
sum_law k carry total sum e =
    let small = number_below k total in
    let high = ap (λ s. s / word_count k) (sym e) ∙ div-mul-add (bit_number carry) (word_count k) (number k total) small in
    let low = ap (λ s. s % word_count k) (sym e) ∙ mod-mul-add (bit_number carry) (word_count k) (number k total) small in
    rw (high, low, tree_word 0 carry, tree_word k total) refl

pub full_sums : (k : ℕ) (ws : List Value) (c a b : ℕ) → c < word_count 0 → a < word_count k → b < word_count k →
    meaning (full_add k) ws (Pair (word_value 0 c) (Pair (word_value k a) (word_value k b))) ≡ Some (Pair (word_value 0 ((a + b + c) / word_count k)) (word_value k ((a + b + c) % word_count k)))
full_sums k ws c a b e f g =
    let z = word_digits 0 c e in
    let x = word_digits k a f in
    let y = word_digits k b g in
    let s = adds k ws z.0 x.0 y.0 in
    rw (z.2, x.2, y.2) (s.gives ∙ sum_law k s.carry s.total (a + b + c) (omega (arith, s.law, x.1, y.1, z.1)))

pub plain_sums : (k : ℕ) (ws : List Value) (a b : ℕ) → a < word_count k → b < word_count k → meaning (add k) ws (Pair (word_value k a) (word_value k b)) ≡ Some (Pair (word_value 0 ((a + b) / word_count k)) (word_value k ((a + b) % word_count k)))
plain_sums k ws a b f g =
    full_sums k ws 0 a b (omega arith) f g ∙ ap (λ s. Some (Pair (word_value 0 (s / word_count k)) (word_value k (s % word_count k)))) (omega arith)

pub full_increments : (k : ℕ) (ws : List Value) (c a : ℕ) → c < word_count 0 → a < word_count k → meaning (full_increment k) ws (Pair (word_value 0 c) (word_value k a)) ≡ Some (Pair (word_value 0 ((a + c) / word_count k)) (word_value k ((a + c) % word_count k)))
full_increments k ws c a f g =
    full_sums k ws c a 0 f g (count_pos k) ∙ ap (λ s. Some (Pair (word_value 0 (s / word_count k)) (word_value k (s % word_count k)))) (omega arith)

pub increments : (k : ℕ) (ws : List Value) (a : ℕ) → a < word_count k → meaning (increment k) ws (word_value k a) ≡ Some (Pair (word_value 0 ((a + 1) / word_count k)) (word_value k ((a + 1) % word_count k)))
increments k ws a f = full_increments k ws 1 a (omega arith) f

pub full_add_law : IsFormula jet.FullAdd
full_add_law n w is xs ws all =
    args3 jet.Truth (jet.Number n) (jet.Number n) (Gives jet.FullAdd n w ws)
    (at_bit2 full_add (λ n k c a b. Some (Pair (word_value 0 ((a + b + c) / 2 ^ n)) (word_value k ((a + b + c) % 2 ^ n)))) full_sums n (level_of n) (usual_level n w is) (source_of jet.FullAdd n w) ws) xs all

pub add_law : IsFormula jet.Add
add_law n w is xs ws all =
    args2 (jet.Number n) (jet.Number n) (Gives jet.Add n w ws)
    (at2 add (λ n k a b. Some (Pair (word_value 0 ((a + b) / 2 ^ n)) (word_value k ((a + b) % 2 ^ n)))) plain_sums n (level_of n) (usual_level n w is) (source_of jet.Add n w) ws) xs all

pub full_increment_law : IsFormula jet.FullIncrement
full_increment_law n w is xs ws all =
    args2 jet.Truth (jet.Number n) (Gives jet.FullIncrement n w ws)
    (at_bit1 full_increment (λ n k c a. Some (Pair (word_value 0 ((a + c) / 2 ^ n)) (word_value k ((a + c) % 2 ^ n)))) full_increments n (level_of n) (usual_level n w is) (source_of jet.FullIncrement n w) ws) xs all

pub increment_law : IsFormula jet.Increment
increment_law n w is xs ws all =
    args1 (jet.Number n) (Gives jet.Increment n w ws)
    (at1 increment (λ n k a. Some (Pair (word_value 0 ((a + 1) / 2 ^ n)) (word_value k ((a + 1) % 2 ^ n)))) increments n (level_of n) (usual_level n w is) (source_of jet.Increment n w) ws) xs all
