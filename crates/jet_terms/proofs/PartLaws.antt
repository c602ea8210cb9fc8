-- The parts of words compute their formulas.
use Rattle.std.proofs.Common.{◌≡◌, ℕ, suc, zero, ◌+◌, ◌-◌, ◌*◌, ◌/◌, ◌%◌, ◌^◌, ◌<◌, ◌≤◌, List, refl, sym, ap, ◌∙◌, subst, arith, Some}
use Rattle.std.specs.Prelude.{IsTrue}
use Rattle.simplicity.specs.Types.{Value, Pair, word_value, word_count, Kind}
use Rattle.simplicity.specs.Terms.{Term, Answer, meaning}
use Rattle.simplicity.specs.Widths.{level_of}
use Rattle.jets.specs.Jet.{is_jet, sizes}
use Rattle.jet_terms.specs.Expansions.{source_of}
use Rattle.jet_terms.specs.Laws.{Gives, IsFormula}
use Rattle.simplicity.proofs.Digits.{count_pos}
use Rattle.std.proofs.lemmas.Nat.{div-mul-add, mod-mul-add, pow_pos, pow-add, mul-le, shr-shr, mod-pow-add, mod_below}
use Rattle.simplicity.specs.Canon.{erased}
use Rattle.jet_terms.specs.Trees.{leftmost, rightmost}
use Rattle.simplicity.specs.Flowed.{flowed}
use Rattle.jet_terms.proofs.Frame.{sized, args1, with_arrows}
use Rattle.jets.specs.Jet as jet

-- so many levels up
abbrev pub up : ℕ → ℕ → ℕ
up k zero = k
up k (suc d) = suc (up k d)

pub up_is : (k d : ℕ) → k + d ≡ up k d
up_is k zero = omega arith
up_is k (suc d) = let e = up_is k d in omega (arith, e)

pub up_zero : (k : ℕ) → up 0 k ≡ k
up_zero zero = refl
up_zero (suc k) = ap (λ n. suc n) (up_zero k)

pub below_up : (k d : ℕ) → 2 ^ k ≤ 2 ^ up k d
below_up k zero = omega arith
below_up k (suc d) = let e = below_up k d in let q : 2 ^ suc (up k d) ≡ 2 ^ up k d + 2 ^ up k d = omega arith in omega (arith, e, q)

-- two to the bits that are added
abbrev pub gap : ℕ → ℕ → ℕ
gap k d = 2 ^ (2 ^ up k d - 2 ^ k)

pub gap_zero : (k : ℕ) → gap k zero ≡ 1
gap_zero k = let z : 2 ^ k - 2 ^ k ≡ 0 = omega arith in ap (λ n. 2 ^ n) z

pub gap_suc : (k d : ℕ) → gap k (suc d) ≡ gap k d * word_count (up k d)
gap_suc k d =
    let p = below_up k d in
    let q : 2 ^ suc (up k d) ≡ 2 ^ up k d + 2 ^ up k d = omega arith in
    let e : 2 ^ suc (up k d) - 2 ^ k ≡ (2 ^ up k d - 2 ^ k) + 2 ^ up k d = omega (arith, p, q) in
    ap (λ n. 2 ^ n) e ∙ pow-add 2 (2 ^ up k d - 2 ^ k) (2 ^ up k d)

pub gap_pos : (k d : ℕ) → 0 < gap k d
gap_pos k d = pow_pos (2 ^ up k d - 2 ^ k)

pub base_up : (k d : ℕ) → word_count (up k d) ≡ gap k d * word_count k
base_up k d = let p = below_up k d in let e : 2 ^ up k d ≡ (2 ^ up k d - 2 ^ k) + 2 ^ k = omega (arith, p) in ap (λ n. 2 ^ n) e ∙ pow-add 2 (2 ^ up k d - 2 ^ k) (2 ^ k)

pub base_below : (k d : ℕ) → word_count k ≤ word_count (up k d)
base_below k d = let e = base_up k d in let m = mul-le 1 (word_count k) (gap k d) (word_count k) (gap_pos k d) (omega arith) in omega (arith, e, m)

pub pair_word : (k h l : ℕ) → l < word_count k → Pair (word_value k h) (word_value k l) ≡ word_value (suc k) (h * word_count k + l)
pair_word k h l s = rw (div-mul-add h (word_count k) l s, mod-mul-add h (word_count k) l s) refl

pub pair_number : (k h l x : ℕ) → l < word_count k → h * word_count k + l ≡ x → Some (Pair (word_value k h) (word_value k l)) ≡ Some (word_value (suc k) x)
pair_number k h l x s e = ap Some (pair_word k h l s ∙ ap (word_value (suc k)) e)

-- both widths have levels, the greater so many above the lesser
abbrev pub Spread : ℕ → ℕ → Type 0
Spread n w = (n ≡ 2 ^ level_of n) × (w ≡ 2 ^ level_of w) × (level_of w ≡ up (level_of n) (level_of w - level_of n))

pub narrow : (t : ℕ → Term) (F : ℕ → ℕ → ℕ → ℕ → Answer)
    → ((k d : ℕ) (ws : List Value) (a : ℕ) → a < word_count (up k d) → meaning (t d) ws (word_value (up k d) a) ≡ F (2 ^ k) (2 ^ up k d) k a)
    → (n w k l d : ℕ) → n ≡ 2 ^ k → w ≡ 2 ^ l → l ≡ up k d → (source : Kind) (ws : List Value) (a : ℕ) → a < 2 ^ w
    → meaning (erased (flowed (t d) source)) ws (word_value l a) ≡ F n w k a
narrow t F law n w k l d e f g source ws a h =
    with_arrows (t d) source ws (word_value l a) (F n w k a)
    (subst (λ m. meaning (t d) ws (word_value m a) ≡ F (2 ^ k) (2 ^ m) k a) (sym g) (law k d ws a (subst (λ m. a < 2 ^ m) (f ∙ ap (λ m. 2 ^ m) g) h))
    ∙ ap (λ m. F m (2 ^ l) k a) (sym e) ∙ ap (λ m. F n m k a) (sym f))

pub widen : (t : ℕ → ℕ → Term) (F : ℕ → ℕ → ℕ → ℕ → Answer)
    → ((k d : ℕ) (ws : List Value) (a : ℕ) → a < word_count k → meaning (t k d) ws (word_value k a) ≡ F (2 ^ k) (2 ^ up k d) (up k d) a)
    → (n w k l d : ℕ) → n ≡ 2 ^ k → w ≡ 2 ^ l → l ≡ up k d → (source : Kind) (ws : List Value) (a : ℕ) → a < 2 ^ n
    → meaning (erased (flowed (t k d) source)) ws (word_value k a) ≡ F n w l a
widen t F law n w k l d e f g source ws a h =
    with_arrows (t k d) source ws (word_value k a) (F n w l a)
    (subst (λ m. meaning (t k d) ws (word_value k a) ≡ F (2 ^ k) (2 ^ m) m a) (sym g) (law k d ws a (subst (λ m. a < 2 ^ m) e h))
    ∙ ap (λ m. F m (2 ^ l) l a) (sym e) ∙ ap (λ m. F n m l a) (sym f))

mod_mod : (a i j : ℕ) → a % 2 ^ (i + j) % 2 ^ j ≡ a % 2 ^ j
mod_mod a i j = ap (λ x. x % 2 ^ j) (mod-pow-add a i j) ∙ mod-mul-add (a / 2 ^ j % 2 ^ i) (2 ^ j) (a % 2 ^ j) (mod_below a (2 ^ j) (pow_pos j))

pub leftmosts : (k d : ℕ) (ws : List Value) (a : ℕ) → meaning (leftmost d) ws (word_value (up k d) a) ≡ Some (word_value k (a / gap k d))
leftmosts k zero ws a = rw (gap_zero k) (ap (λ x. Some (word_value k x)) (let e : a ≡ a / 1 = omega arith in e))
leftmosts k (suc d) ws a =
    let p = below_up k d in
    let q : 2 ^ suc (up k d) ≡ 2 ^ up k d + 2 ^ up k d = omega arith in
    let e : 2 ^ up k d + (2 ^ up k d - 2 ^ k) ≡ 2 ^ suc (up k d) - 2 ^ k = omega (arith, p, q) in
    leftmosts k d ws (a / word_count (up k d)) ∙ ap (λ x. Some (word_value k x)) (shr-shr a (2 ^ up k d) (2 ^ up k d - 2 ^ k) ∙ ap (λ m. a / 2 ^ m) e)

pub rightmosts : (k d : ℕ) (ws : List Value) (a : ℕ) → a < word_count (up k d) → meaning (rightmost d) ws (word_value (up k d) a) ≡ Some (word_value k (a % word_count k))
rightmosts k zero ws a h =
    let e : a ≡ 0 * word_count k + a = omega arith in ap (λ x. Some (word_value k x)) (sym (ap (λ x. x % word_count k) e ∙ mod-mul-add 0 (word_count k) a h))
rightmosts k (suc d) ws a h =
    let p = below_up k d in
    let e : 2 ^ up k d ≡ (2 ^ up k d - 2 ^ k) + 2 ^ k = omega (arith, p) in
    rightmosts k d ws (a % word_count (up k d)) (mod_below a (word_count (up k d)) (count_pos (up k d)))
    ∙ ap (λ x. Some (word_value k x)) (ap (λ m. a % 2 ^ m % word_count k) e ∙ mod_mod a (2 ^ up k d - 2 ^ k) (2 ^ k))

pub narrowed_spread : (n w : ℕ) → IsTrue (is_jet jet.Leftmost n w) → Spread n w
narrowed_spread n w is = sized Spread (sizes jet.Leftmost) ((refl, refl, refl), ((refl, refl, refl), ((refl, refl, refl), ((refl, refl, refl), ((refl, refl, refl), ((refl, refl, refl), ((refl, refl, refl), ((refl, refl, refl), ((refl, refl, refl), ((refl, refl, refl), ((refl, refl, refl), ((refl, refl, refl), ((refl, refl, refl), ((refl, refl, refl), ((refl, refl, refl), ((refl, refl, refl), ((refl, refl, refl), ((refl, refl, refl), tt)))))))))))))))))) n w is

pub leftmost_law : IsFormula jet.Leftmost
leftmost_law n w is xs ws all =
    let s = narrowed_spread n w is in
    args1 (jet.Number w) (Gives jet.Leftmost n w ws) (narrow leftmost (λ n w k a. Some (word_value k (a / 2 ^ (w - n)))) (λ k d ws a h. leftmosts k d ws a) n w (level_of n) (level_of w) (level_of w - level_of n) s.0 s.1 s.2 (source_of jet.Leftmost n w) ws) xs all

pub rightmost_law : IsFormula jet.Rightmost
rightmost_law n w is xs ws all =
    let s = narrowed_spread n w is in
    args1 (jet.Number w) (Gives jet.Rightmost n w ws) (narrow rightmost (λ n w k a. Some (word_value k (a % 2 ^ n))) rightmosts n w (level_of n) (level_of w) (level_of w - level_of n) s.0 s.1 s.2 (source_of jet.Rightmost n w) ws) xs all
