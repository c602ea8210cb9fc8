-- The products compute their formulas.
use Rattle.std.proofs.Common.{◌≡◌, ℕ, suc, ◌+◌, ◌*◌, ◌^◌, ◌<◌, List, refl, sym, ap, ◌∙◌, subst, arith, Some}
use Rattle.std.specs.Prelude.{IsTrue}
use Rattle.simplicity.specs.Types.{Value, Pair, word_value, word_count, Kind}
use Rattle.simplicity.specs.Terms.{Term, Answer, meaning}
use Rattle.simplicity.specs.Widths.{level_of}
use Rattle.jets.specs.Jet.{is_jet, sizes}
use Rattle.jet_terms.specs.Expansions.{source_of}
use Rattle.jet_terms.specs.Laws.{Gives, IsFormula}
use Rattle.simplicity.proofs.Digits.{count_pos, word_digits, same_word}
use Rattle.simplicity.specs.Canon.{erased}
use Rattle.jet_terms.specs.Trees.{full_multiply, multiply}
use Rattle.simplicity.specs.Flowed.{flowed}
use Rattle.jet_terms.proofs.Sums.{multiplies}
use Rattle.jet_terms.proofs.Frame.{sized, usual_level, args2, args4, with_arrows}
use Rattle.jets.specs.Jet as jet

pub full_products : (k : ℕ) (ws : List Value) (a b c d : ℕ) → a < word_count k → b < word_count k → c < word_count k → d < word_count k
    → meaning (full_multiply k) ws (Pair (Pair (word_value k a) (word_value k b)) (Pair (word_value k c) (word_value k d))) ≡ Some (word_value (suc k) (a * b + c + d))
full_products k ws a b c d e f g h =
    let x = word_digits k a e in
    let y = word_digits k b f in
    let u = word_digits k c g in
    let v = word_digits k d h in
    let m = multiplies k ws x.0 y.0 u.0 v.0 in
    rw (x.2, y.2, u.2, v.2) (m.gives ∙ same_word (suc k) (a * b + c + d) m.product (m.law ∙ rw (x.1, y.1, u.1, v.1) refl))

pub plain_products : (k : ℕ) (ws : List Value) (a b : ℕ) → a < word_count k → b < word_count k → meaning (multiply k) ws (Pair (word_value k a) (word_value k b)) ≡ Some (word_value (suc k) (a * b))
plain_products k ws a b f g = full_products k ws a b 0 0 f g (count_pos k) (count_pos k) ∙ ap (λ s. Some (word_value (suc k) s)) (omega arith)

pub doubled : (n w : ℕ) → IsTrue (is_jet jet.Multiply n w) → level_of (2 * n) ≡ suc (level_of n)
doubled n w is = sized (λ m v. level_of (2 * m) ≡ suc (level_of m)) (sizes jet.Multiply) (refl, (refl, (refl, (refl, tt)))) n w is

at4 : (t : ℕ → Term) (F : ℕ → ℕ → ℕ → ℕ → ℕ → Answer)
    → ((k : ℕ) (ws : List Value) (a b c d : ℕ) → a < word_count k → b < word_count k → c < word_count k → d < word_count k
    → meaning (t k) ws (Pair (Pair (word_value k a) (word_value k b)) (Pair (word_value k c) (word_value k d))) ≡ F (suc k) a b c d)
    → (n k l : ℕ) → n ≡ 2 ^ k → l ≡ suc k → (source : Kind) (ws : List Value) (a b c d : ℕ) → a < 2 ^ n → b < 2 ^ n → c < 2 ^ n → d < 2 ^ n
    → meaning (erased (flowed (t k) source)) ws (Pair (Pair (word_value k a) (word_value k b)) (Pair (word_value k c) (word_value k d))) ≡ F l a b c d
at4 t F law n k l e f source ws a b c d g h i j =
    with_arrows (t k) source ws (Pair (Pair (word_value k a) (word_value k b)) (Pair (word_value k c) (word_value k d))) (F l a b c d)
    (law k ws a b c d (subst (λ m. a < 2 ^ m) e g) (subst (λ m. b < 2 ^ m) e h) (subst (λ m. c < 2 ^ m) e i) (subst (λ m. d < 2 ^ m) e j) ∙ ap (λ m. F m a b c d) (sym f))

at2_doubled : (t : ℕ → Term) (F : ℕ → ℕ → ℕ → Answer)
    → ((k : ℕ) (ws : List Value) (a b : ℕ) → a < word_count k → b < word_count k → meaning (t k) ws (Pair (word_value k a) (word_value k b)) ≡ F (suc k) a b)
    → (n k l : ℕ) → n ≡ 2 ^ k → l ≡ suc k → (source : Kind) (ws : List Value) (a b : ℕ) → a < 2 ^ n → b < 2 ^ n
    → meaning (erased (flowed (t k) source)) ws (Pair (word_value k a) (word_value k b)) ≡ F l a b
at2_doubled t F law n k l e f source ws a b g h =
    with_arrows (t k) source ws (Pair (word_value k a) (word_value k b)) (F l a b)
    (law k ws a b (subst (λ m. a < 2 ^ m) e g) (subst (λ m. b < 2 ^ m) e h) ∙ ap (λ m. F m a b) (sym f))

pub full_multiply_law : IsFormula jet.FullMultiply
full_multiply_law n w is xs ws all =
    args4 (jet.Number n) (jet.Number n) (jet.Number n) (jet.Number n) (Gives jet.FullMultiply n w ws)
    (at4 full_multiply (λ l a b c d. Some (word_value l (a * b + c + d))) full_products n (level_of n) (level_of (2 * n)) (usual_level n w is) (doubled n w is) (source_of jet.FullMultiply n w) ws) xs all

pub multiply_law : IsFormula jet.Multiply
multiply_law n w is xs ws all =
    args2 (jet.Number n) (jet.Number n) (Gives jet.Multiply n w ws)
    (at2_doubled multiply (λ l a b. Some (word_value l (a * b))) plain_products n (level_of n) (level_of (2 * n)) (usual_level n w is) (doubled n w is) (source_of jet.Multiply n w) ws) xs all
