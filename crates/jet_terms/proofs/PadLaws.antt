-- The pads and extensions compute their formulas.
use Rattle.std.proofs.Common.{◌≡◌, ℕ, suc, zero, ◌+◌, ◌-◌, ◌*◌, ◌/◌, ◌%◌, ◌^◌, ◌<◌, ◌≤◌, List, refl, sym, ap, ◌∙◌, subst, arith, Some, inl, inr}
use Rattle.std.specs.Prelude.{IsTrue, nat_eq, nat_lt, if◌then◌else◌}
use Rattle.simplicity.specs.Types.{Value, UnitValue, word_value, word_count, Inl, Inr}
use Rattle.simplicity.specs.Terms.{Term, Answer, meaning, PairTerm, UnitTerm, Word}
use Rattle.simplicity.specs.Widths.{level_of}
use Rattle.jets.specs.Jet.{is_jet, sizes}
use Rattle.jet_terms.specs.Expansions.{source_of}
use Rattle.jet_terms.specs.Laws.{Gives, IsFormula}
use Rattle.simplicity.proofs.Digits.{count_pos, count_square}
use Rattle.std.proofs.lemmas.Bool.{cases_lt, cases_eq, lt-ltb, le-ltb, eq-eqb, ne_eqb}
use Rattle.std.proofs.lemmas.Nat.{div-mul-add, pow_pos, pow-add, mul-le}
use Rattle.jet_terms.specs.Trees.{leftmost, rightmost, zeros, ones, cond, left_pad, right_pad, left_extend, right_extend, ◌⨾◌}
use Rattle.jet_terms.proofs.PartLaws.{up, up_is, up_zero, gap, gap_zero, gap_suc, gap_pos, base_below, pair_number, Spread, widen, leftmosts, rightmosts}
use Rattle.jet_terms.proofs.Frame.{sized, args1}
use Rattle.jets.specs.Jet as jet

pub pred_times : (p q : ℕ) → 0 < p → (p - 1) * q + q ≡ p * q
pred_times zero q h = absurd (omega (arith, h))
pred_times (suc p) q h = let e : suc p - 1 ≡ p = omega arith in rw e (omega arith)

left_ones_step : (a b s : ℕ) → s ≤ b → 0 < b → (b - 1) * b + (a + b - s) ≡ a + b * b - s
left_ones_step a b s h p = let e = pred_times b b p in let m = mul-le 1 b b b p (omega arith) in omega (arith, e, h, m)

right_ones_step : (a p b : ℕ) → 0 < p → 0 < b → (a * p + (p - 1)) * b + (b - 1) ≡ a * (p * b) + (p * b - 1)
right_ones_step a p b h i =
    let e = pred_times p b h in
    let m = mul-le 1 1 p b h i in
    let q : (a * p + (p - 1)) * b ≡ a * (p * b) + (p - 1) * b = omega arith in
    omega (arith, e, m, q, i)

-- a pair of a filled half and a word, over any term for the word
filled_left : (k d x : ℕ) (t : Term) (ws : List Value) (v : Value) (y z : ℕ) → meaning t ws v ≡ Some (word_value (up k d) y) → y < word_count (up k d) → x * word_count (up k d) + y ≡ z
    → meaning (PairTerm (UnitTerm ⨾ Word (up k d) x) t) ws v ≡ Some (word_value (suc (up k d)) z)
filled_left k d x t ws v y z g s e = rw g (pair_number (up k d) x y z s e)

filled_right : (k d x : ℕ) (t : Term) (ws : List Value) (v : Value) (y z : ℕ) → meaning t ws v ≡ Some (word_value (up k d) y) → x < word_count (up k d) → y * word_count (up k d) + x ≡ z
    → meaning (PairTerm t (UnitTerm ⨾ Word (up k d) x)) ws v ≡ Some (word_value (suc (up k d)) z)
filled_right k d x t ws v y z g s e = rw g (pair_number (up k d) y x z s e)

pub left_lows : (k d : ℕ) (ws : List Value) (a : ℕ) → a < word_count k → meaning (left_pad zeros k d) ws (word_value k a) ≡ Some (word_value (up k d) a)
left_lows k zero ws a h = refl
left_lows k (suc d) ws a h =
    let s = base_below k d in
    ap (λ m. meaning (PairTerm (zeros m) (left_pad zeros k d)) ws (word_value k a)) (up_is k d)
    ∙ filled_left k d 0 (left_pad zeros k d) ws (word_value k a) a a (left_lows k d ws a h) (omega (arith, s, h)) (omega arith)

pub left_highs : (k d : ℕ) (ws : List Value) (a : ℕ) → a < word_count k → meaning (left_pad ones k d) ws (word_value k a) ≡ Some (word_value (up k d) (a + word_count (up k d) - word_count k))
left_highs k zero ws a h = ap (λ x. Some (word_value k x)) (let e : a ≡ a + word_count k - word_count k = omega arith in e)
left_highs k (suc d) ws a h =
    let s = base_below k d in
    ap (λ m. meaning (PairTerm (ones m) (left_pad ones k d)) ws (word_value k a)) (up_is k d)
    ∙ filled_left k d (word_count (up k d) - 1) (left_pad ones k d) ws (word_value k a) (a + word_count (up k d) - word_count k) (a + word_count (suc (up k d)) - word_count k) (left_highs k d ws a h) (omega (arith, s, h))
    (left_ones_step a (word_count (up k d)) (word_count k) s (count_pos (up k d)) ∙ ap (λ m. a + m - word_count k) (sym (count_square (up k d))))

pub right_lows : (k d : ℕ) (ws : List Value) (a : ℕ) → a < word_count k → meaning (right_pad zeros k d) ws (word_value k a) ≡ Some (word_value (up k d) (a * gap k d))
right_lows k zero ws a h = rw (gap_zero k) (ap (λ x. Some (word_value k x)) (let e : a ≡ a * 1 = omega arith in e))
right_lows k (suc d) ws a h =
    ap (λ m. meaning (PairTerm (right_pad zeros k d) (zeros m)) ws (word_value k a)) (up_is k d)
    ∙ filled_right k d 0 (right_pad zeros k d) ws (word_value k a) (a * gap k d) (a * gap k (suc d)) (right_lows k d ws a h) (count_pos (up k d))
    (let e : a * gap k d * word_count (up k d) + 0 ≡ a * (gap k d * word_count (up k d)) = omega arith in e ∙ ap (λ m. a * m) (sym (gap_suc k d)))

pub right_highs : (k d : ℕ) (ws : List Value) (a : ℕ) → a < word_count k → meaning (right_pad ones k d) ws (word_value k a) ≡ Some (word_value (up k d) (a * gap k d + (gap k d - 1)))
right_highs k zero ws a h = rw (gap_zero k) (ap (λ x. Some (word_value k x)) (let e : a ≡ a * 1 + (1 - 1) = omega arith in e))
right_highs k (suc d) ws a h =
    let s = count_pos (up k d) in
    ap (λ m. meaning (PairTerm (right_pad ones k d) (ones m)) ws (word_value k a)) (up_is k d)
    ∙ filled_right k d (word_count (up k d) - 1) (right_pad ones k d) ws (word_value k a) (a * gap k d + (gap k d - 1)) (a * gap k (suc d) + (gap k (suc d) - 1)) (right_highs k d ws a h) (omega (arith, s))
    (right_ones_step a (gap k d) (word_count (up k d)) (gap_pos k d) s ∙ ap (λ m. a * m + (m - 1)) (sym (gap_suc k d)))

-- by a bit
pub on_false : (b l r : Term) (ws : List Value) (v : Value) (u : Answer) → meaning b ws v ≡ Some (Inl UnitValue) → meaning l ws v ≡ u → meaning (cond b l r) ws v ≡ u
on_false b l r ws v u e f = rw e f

pub on_true : (b l r : Term) (ws : List Value) (v : Value) (u : Answer) → meaning b ws v ≡ Some (Inr UnitValue) → meaning r ws v ≡ u → meaning (cond b l r) ws v ≡ u
on_true b l r ws v u e f = rw e f

half_base : (k : ℕ) → word_count k ≡ 2 ^ (2 ^ k - 1) * 2
half_base k = let p = pow_pos k in let e : 2 ^ k ≡ (2 ^ k - 1) + 1 = omega (arith, p) in ap (λ n. 2 ^ n) e ∙ pow-add 2 (2 ^ k - 1) 1

first_bit : (k : ℕ) (ws : List Value) (a : ℕ) → meaning (leftmost k) ws (word_value k a) ≡ Some (word_value 0 (a / 2 ^ (2 ^ k - 1)))
first_bit k ws a = subst (λ m. meaning (leftmost k) ws (word_value m a) ≡ Some (word_value 0 (a / 2 ^ (2 ^ m - 1)))) (up_zero k) (leftmosts 0 k ws a)

last_bit : (k : ℕ) (ws : List Value) (a : ℕ) → a < word_count k → meaning (rightmost k) ws (word_value k a) ≡ Some (word_value 0 (a % 2))
last_bit k ws a h = subst (λ m. meaning (rightmost k) ws (word_value m a) ≡ Some (word_value 0 (a % 2))) (up_zero k) (rightmosts 0 k ws a (subst (λ m. a < word_count m) (sym (up_zero k)) h))

pub left_extends : (k d : ℕ) (ws : List Value) (a : ℕ) → a < word_count k
    → meaning (left_extend k d) ws (word_value k a) ≡ Some (word_value (up k d) (if nat_lt a (2 ^ (2 ^ k - 1)) then a else (a + word_count (up k d) - word_count k)))
left_extends k d ws a h = elim (cases_lt a (2 ^ (2 ^ k - 1))) [ inl p ↦ low p | inr p ↦ high p ]
  where
    low : a < 2 ^ (2 ^ k - 1) → meaning (left_extend k d) ws (word_value k a) ≡ Some (word_value (up k d) (if nat_lt a (2 ^ (2 ^ k - 1)) then a else (a + word_count (up k d) - word_count k)))
    low p =
        let e : a ≡ 0 * 2 ^ (2 ^ k - 1) + a = omega arith in
        let q = ap (λ x. x / 2 ^ (2 ^ k - 1)) e ∙ div-mul-add 0 (2 ^ (2 ^ k - 1)) a p in
        rw (lt-ltb a (2 ^ (2 ^ k - 1)) p)
        (on_false (leftmost k) (left_pad zeros k d) (left_pad ones k d) ws (word_value k a) (Some (word_value (up k d) a)) (first_bit k ws a ∙ ap (λ x. Some (word_value 0 x)) q) (left_lows k d ws a h))

    high : 2 ^ (2 ^ k - 1) ≤ a → meaning (left_extend k d) ws (word_value k a) ≡ Some (word_value (up k d) (if nat_lt a (2 ^ (2 ^ k - 1)) then a else (a + word_count (up k d) - word_count k)))
    high p =
        let b = half_base k in
        let e : a ≡ 1 * 2 ^ (2 ^ k - 1) + (a - 2 ^ (2 ^ k - 1)) = omega (arith, p) in
        let q = ap (λ x. x / 2 ^ (2 ^ k - 1)) e ∙ div-mul-add 1 (2 ^ (2 ^ k - 1)) (a - 2 ^ (2 ^ k - 1)) (omega (arith, b, h, p)) in
        rw (le-ltb a (2 ^ (2 ^ k - 1)) p)
        (on_true (leftmost k) (left_pad zeros k d) (left_pad ones k d) ws (word_value k a) (Some (word_value (up k d) (a + word_count (up k d) - word_count k))) (first_bit k ws a ∙ ap (λ x. Some (word_value 0 x)) q) (left_highs k d ws a h))

pub right_extends : (k d : ℕ) (ws : List Value) (a : ℕ) → a < word_count k
    → meaning (right_extend k d) ws (word_value k a) ≡ Some (word_value (up k d) (if nat_eq (a % 2) 0 then (a * gap k d) else (a * gap k d + (gap k d - 1))))
right_extends k d ws a h = elim (cases_eq (a % 2) 0) [ inl p ↦ low p | inr p ↦ high p ]
  where
    low : a % 2 ≡ 0 → meaning (right_extend k d) ws (word_value k a) ≡ Some (word_value (up k d) (if nat_eq (a % 2) 0 then (a * gap k d) else (a * gap k d + (gap k d - 1))))
    low p =
        rw (eq-eqb (a % 2) 0 p)
        (on_false (rightmost k) (right_pad zeros k d) (right_pad ones k d) ws (word_value k a) (Some (word_value (up k d) (a * gap k d))) (last_bit k ws a h ∙ ap (λ x. Some (word_value 0 x)) p) (right_lows k d ws a h))

    high : (a % 2 ≡ 0 → ⊥) → meaning (right_extend k d) ws (word_value k a) ≡ Some (word_value (up k d) (if nat_eq (a % 2) 0 then (a * gap k d) else (a * gap k d + (gap k d - 1))))
    high p =
        let q : a % 2 ≡ 1 = omega (arith, p) in
        rw (ne_eqb (a % 2) 0 p)
        (on_true (rightmost k) (right_pad zeros k d) (right_pad ones k d) ws (word_value k a) (Some (word_value (up k d) (a * gap k d + (gap k d - 1)))) (last_bit k ws a h ∙ ap (λ x. Some (word_value 0 x)) q) (right_highs k d ws a h))

pub widened_spread : (n w : ℕ) → IsTrue (is_jet jet.LeftPadLow n w) → Spread n w
widened_spread n w is = sized Spread (sizes jet.LeftPadLow) ((refl, refl, refl), ((refl, refl, refl), ((refl, refl, refl), ((refl, refl, refl), ((refl, refl, refl), ((refl, refl, refl), ((refl, refl, refl), ((refl, refl, refl), ((refl, refl, refl), ((refl, refl, refl), tt)))))))))) n w is

pub left_pad_low_law : IsFormula jet.LeftPadLow
left_pad_low_law n w is xs ws all =
    let s = widened_spread n w is in
    args1 (jet.Number n) (Gives jet.LeftPadLow n w ws) (widen (left_pad zeros) (λ n w l a. Some (word_value l a)) left_lows n w (level_of n) (level_of w) (level_of w - level_of n) s.0 s.1 s.2 (source_of jet.LeftPadLow n w) ws) xs all

pub left_pad_high_law : IsFormula jet.LeftPadHigh
left_pad_high_law n w is xs ws all =
    let s = widened_spread n w is in
    args1 (jet.Number n) (Gives jet.LeftPadHigh n w ws) (widen (left_pad ones) (λ n w l a. Some (word_value l (a + 2 ^ w - 2 ^ n))) left_highs n w (level_of n) (level_of w) (level_of w - level_of n) s.0 s.1 s.2 (source_of jet.LeftPadHigh n w) ws) xs all

pub left_extend_law : IsFormula jet.LeftExtend
left_extend_law n w is xs ws all =
    let s = widened_spread n w is in
    args1 (jet.Number n) (Gives jet.LeftExtend n w ws) (widen left_extend (λ n w l a. Some (word_value l (if nat_lt a (2 ^ (n - 1)) then a else (a + 2 ^ w - 2 ^ n)))) left_extends n w (level_of n) (level_of w) (level_of w - level_of n) s.0 s.1 s.2 (source_of jet.LeftExtend n w) ws) xs all

pub right_pad_low_law : IsFormula jet.RightPadLow
right_pad_low_law n w is xs ws all =
    let s = widened_spread n w is in
    args1 (jet.Number n) (Gives jet.RightPadLow n w ws) (widen (right_pad zeros) (λ n w l a. Some (word_value l (a * 2 ^ (w - n)))) right_lows n w (level_of n) (level_of w) (level_of w - level_of n) s.0 s.1 s.2 (source_of jet.RightPadLow n w) ws) xs all

pub right_pad_high_law : IsFormula jet.RightPadHigh
right_pad_high_law n w is xs ws all =
    let s = widened_spread n w is in
    args1 (jet.Number n) (Gives jet.RightPadHigh n w ws) (widen (right_pad ones) (λ n w l a. Some (word_value l (a * 2 ^ (w - n) + (2 ^ (w - n) - 1)))) right_highs n w (level_of n) (level_of w) (level_of w - level_of n) s.0 s.1 s.2 (source_of jet.RightPadHigh n w) ws) xs all

pub right_extend_law : IsFormula jet.RightExtend
right_extend_law n w is xs ws all =
    let s = widened_spread n w is in
    args1 (jet.Number n) (Gives jet.RightExtend n w ws) (widen right_extend (λ n w l a. Some (word_value l (if nat_eq (a % 2) 0 then (a * 2 ^ (w - n)) else (a * 2 ^ (w - n) + (2 ^ (w - n) - 1))))) right_extends n w (level_of n) (level_of w) (level_of w - level_of n) s.0 s.1 s.2 (source_of jet.RightExtend n w) ws) xs all
