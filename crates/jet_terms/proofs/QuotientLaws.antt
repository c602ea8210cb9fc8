-- The divisions compute their formulas.
use Rattle.std.proofs.Common.{◌≡◌, ℕ, suc, zero, ◌<◌, List, Bool, true, false, refl, ap, ◌∙◌, arith, Some}
use Rattle.std.specs.Prelude.{nat_eq}
use Rattle.simplicity.specs.Types.{Value, Pair, word_value, bit_value, word_count}
use Rattle.simplicity.specs.Terms.{Term, Answer, meaning, PairTerm}
use Rattle.simplicity.specs.Widths.{level_of}
use Rattle.jets.specs.Jet.{is_jet, sizes}
use Rattle.jet_terms.specs.Expansions.{source_of}
use Rattle.jet_terms.specs.Laws.{Gives, IsFormula}
use Rattle.simplicity.specs.Digits.{Digits, number, tree}
use Rattle.std.proofs.lemmas.Bool.{ne_eqb}
use Rattle.std.proofs.lemmas.Nat.{mod_below}
use Rattle.jet_terms.specs.Trees.{some_bit, is_zero, div_mod, divide, modulo, divides, ◌⨾◌, O, I, H}
use Rattle.jet_terms.proofs.Compare.{Less, less, more, somes}
use Rattle.jet_terms.proofs.Division.{div_mods}
use Rattle.jet_terms.proofs.GateLaws.{zero_tests}
use Rattle.jet_terms.proofs.Frame.{usual_level, args2, at2}
use Rattle.simplicity.proofs.Digits.{word_digits}
use Rattle.jets.specs.Jet as jet
use Rattle.jets.specs.Formula as formula

not_zero : (b : ℕ) → nat_eq (suc b) 0 ≡ false
not_zero b = ne_eqb (suc b) 0 (λ e. omega (arith, e))

none_by : (k : ℕ) (ws : List Value) (v : Value) (b : Digits k) (r : Bool) → meaning (some_bit k) ws (tree k b) ≡ Some (bit_value r) → Less 0 (number k b) r → number k b ≡ 0
    → meaning (div_mod k) ws (Pair v (tree k b)) ≡ Some (Pair (word_value k 0) v)
none_by k ws v b true g (less h) e = absurd (omega (arith, h, e))
none_by k ws v b false g (more h) e = rw g refl

pub quotients : (k : ℕ) (ws : List Value) (a b : ℕ) → a < word_count k → b < word_count k → meaning (div_mod k) ws (Pair (word_value k a) (word_value k b)) ≡ Some (Pair (word_value k (formula.quotient a b)) (word_value k (formula.rest a b)))
quotients k ws a zero f g =
    let y = word_digits k 0 g in
    let t = somes k ws y.0 in
    ap (λ v. meaning (div_mod k) ws (Pair (word_value k a) v)) (y.2) ∙ none_by k ws (word_value k a) y.0 t.answer t.gives t.law y.1
quotients k ws a (suc b) f g = rw (not_zero b) (div_mods k ws a (suc b) f g (omega arith))

first_part : (t : Term) (ws : List Value) (v p q : Value) → meaning t ws v ≡ Some (Pair p q) → meaning (t ⨾ O H) ws v ≡ Some p
first_part t ws v p q e = rw e refl

second_part : (t : Term) (ws : List Value) (v p q : Value) → meaning t ws v ≡ Some (Pair p q) → meaning (t ⨾ I H) ws v ≡ Some q
second_part t ws v p q e = rw e refl

pub divisions : (k : ℕ) (ws : List Value) (a b : ℕ) → a < word_count k → b < word_count k → meaning (divide k) ws (Pair (word_value k a) (word_value k b)) ≡ Some (word_value k (formula.quotient a b))
divisions k ws a b f g = first_part (div_mod k) ws (Pair (word_value k a) (word_value k b)) (word_value k (formula.quotient a b)) (word_value k (formula.rest a b)) (quotients k ws a b f g)

pub rests : (k : ℕ) (ws : List Value) (a b : ℕ) → a < word_count k → b < word_count k → meaning (modulo k) ws (Pair (word_value k a) (word_value k b)) ≡ Some (word_value k (formula.rest a b))
rests k ws a b f g = second_part (div_mod k) ws (Pair (word_value k a) (word_value k b)) (word_value k (formula.quotient a b)) (word_value k (formula.rest a b)) (quotients k ws a b f g)

rest_below : (m a b : ℕ) → a < m → b < m → formula.rest a b < m
rest_below m a zero f g = f
rest_below m a (suc b) f g = rw (not_zero b) (let r = mod_below a (suc b) (omega arith) in omega (arith, r, g))

swapped : (s t : Term) (ws : List Value) (a b u : Value) (r : Answer) → meaning s ws (Pair b a) ≡ Some u → meaning t ws u ≡ r → meaning (PairTerm (I H) (O H) ⨾ s ⨾ t) ws (Pair a b) ≡ r
swapped s t ws a b u r e f = rw e f

pub divide_tests : (k : ℕ) (ws : List Value) (a b : ℕ) → a < word_count k → b < word_count k → meaning (divides k) ws (Pair (word_value k a) (word_value k b)) ≡ Some (word_value 0 (formula.bit (nat_eq (formula.rest b a) 0)))
divide_tests k ws a b f g =
    swapped (modulo k) (is_zero k) ws (word_value k a) (word_value k b) (word_value k (formula.rest b a)) (Some (word_value 0 (formula.bit (nat_eq (formula.rest b a) 0))))
    (rests k ws b a g f) (zero_tests k ws (formula.rest b a) (rest_below (word_count k) b a g f))

pub div_mod_law : IsFormula jet.DivMod
div_mod_law n w is xs ws all =
    args2 (jet.Number n) (jet.Number n) (Gives jet.DivMod n w ws)
    (at2 div_mod (λ n k a b. Some (Pair (word_value k (formula.quotient a b)) (word_value k (formula.rest a b)))) quotients n (level_of n) (usual_level n w is) (source_of jet.DivMod n w) ws) xs all

pub divide_law : IsFormula jet.Divide
divide_law n w is xs ws all =
    args2 (jet.Number n) (jet.Number n) (Gives jet.Divide n w ws)
    (at2 divide (λ n k a b. Some (word_value k (formula.quotient a b))) divisions n (level_of n) (usual_level n w is) (source_of jet.Divide n w) ws) xs all

pub modulo_law : IsFormula jet.Modulo
modulo_law n w is xs ws all =
    args2 (jet.Number n) (jet.Number n) (Gives jet.Modulo n w ws)
    (at2 modulo (λ n k a b. Some (word_value k (formula.rest a b))) rests n (level_of n) (usual_level n w is) (source_of jet.Modulo n w) ws) xs all

pub divides_law : IsFormula jet.Divides
divides_law n w is xs ws all =
    args2 (jet.Number n) (jet.Number n) (Gives jet.Divides n w ws)
    (at2 divides (λ n k a b. Some (word_value 0 (formula.bit (nat_eq (formula.rest b a) 0)))) divide_tests n (level_of n) (usual_level n w is) (source_of jet.Divides n w) ws) xs all
