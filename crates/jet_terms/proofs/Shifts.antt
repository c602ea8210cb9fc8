-- Shifts by halves.
use Rattle.std.proofs.Common.{◌≡◌, ℕ, zero, suc, ◌+◌, ◌*◌, ◌/◌, ◌%◌, ◌^◌, ◌<◌, List, Bool, true, false, refl, sym, ap, ◌∙◌, arith, Some}
use Rattle.std.proofs.lemmas.Nat.{div-mul-add, mod-mul-add, mul-add-lt, mod_below, div-add-mod'}
use Rattle.simplicity.specs.Types.{Value, UnitValue, Pair, bit_value, word_count}
use Rattle.simplicity.specs.Terms.{Term, meaning}
use Rattle.jet_terms.specs.Trees.{shifted_left, shifted_right}
use Rattle.simplicity.specs.Digits.{Digits, number, tree, bit_number}
use Rattle.simplicity.proofs.Digits.{count_pos, count_square, number_below}

-- the bits of an amount, the highest first
abbrev pub Amount : ℕ → Type 0
Amount zero = Unit {0}
Amount (suc k) = Bool × Amount k

abbrev pub amount_tree : (k : ℕ) → Amount k → Value
amount_tree zero s = UnitValue
amount_tree (suc k) s = Pair (bit_value s.0) (amount_tree k s.1)

abbrev pub amount : (k : ℕ) → Amount k → ℕ
amount zero s = 0
amount (suc k) s = bit_number s.0 * 2 ^ k + amount k s.1

-- two to the amount, and the word_count over it
abbrev pub factor : (k : ℕ) → Amount k → ℕ
factor zero s = 1
factor (suc k) s = elim s.0 [ false ↦ factor k s.1 | true ↦ factor k s.1 * word_count k ]

abbrev pub cofactor : (k : ℕ) → Amount k → ℕ
cofactor zero s = 2
cofactor (suc k) s = elim s.0 [ false ↦ cofactor k s.1 * word_count k | true ↦ cofactor k s.1 ]

whole_step : (b : Bool) (B P Q : ℕ) → P * Q ≡ B → elim b [ false ↦ P | true ↦ P * B ] * elim b [ false ↦ Q * B | true ↦ Q ] ≡ B * B
whole_step false B P Q e = omega (arith, ap (λ x. x * B) e)
whole_step true B P Q e = omega (arith, ap (λ x. x * B) e)

pub whole : (k : ℕ) (s : Amount k) → factor k s * cofactor k s ≡ word_count k
whole zero s = refl
whole (suc k) s = whole_step s.0 (word_count k) (factor k s.1) (cofactor k s.1) (whole k s.1) ∙ sym (count_square k)

positive : (P Q B : ℕ) → P * Q ≡ B → 0 < B → (0 < P) × (0 < Q)
positive zero Q B e h = absurd (omega (arith, e))
positive (suc P) zero B e h = absurd (omega (arith, e))
positive (suc P) (suc Q) B e h = (omega arith, omega arith)

-- the lower digits of a front, and the upper ones of a back
keep_mod : (h l Q B : ℕ) → l < B → 0 < Q → (h * B + l) % (Q * B) ≡ h % Q * B + l
keep_mod h l Q B s p =
    let e : h * B + l ≡ h / Q * (Q * B) + (h % Q * B + l) = omega (arith, ap (λ x. x * B) (div-add-mod' h Q)) in
    ap (λ n. n % (Q * B)) e ∙ mod-mul-add (h / Q) (Q * B) (h % Q * B + l) (omega (arith, mul-add-lt (h % Q) B l Q (mod_below h Q p) s))

keep_div : (h l Q B : ℕ) → l < B → 0 < Q → (h * B + l) / (Q * B) ≡ h / Q
keep_div h l Q B s p =
    let e : h * B + l ≡ h / Q * (Q * B) + (h % Q * B + l) = omega (arith, ap (λ x. x * B) (div-add-mod' h Q)) in
    ap (λ n. n / (Q * B)) e ∙ div-mul-add (h / Q) (Q * B) (h % Q * B + l) (omega (arith, mul-add-lt (h % Q) B l Q (mod_below h Q p) s))

drop_mod : (h l P Q B : ℕ) → P * Q ≡ B → 0 < Q → (h * B + l) % Q ≡ l % Q
drop_mod h l P Q B w p =
    let e : h * B + l ≡ (h * P + l / Q) * Q + l % Q = omega (arith, ap (λ x. h * x) w, div-add-mod' l Q) in
    ap (λ n. n % Q) e ∙ mod-mul-add (h * P + l / Q) Q (l % Q) (mod_below l Q p)

drop_div : (h l P Q B : ℕ) → P * Q ≡ B → 0 < Q → (h * B + l) / Q ≡ h * P + l / Q
drop_div h l P Q B w p =
    let e : h * B + l ≡ (h * P + l / Q) * Q + l % Q = omega (arith, ap (λ x. h * x) w, div-add-mod' l Q) in
    ap (λ n. n / Q) e ∙ div-mul-add (h * P + l / Q) Q (l % Q) (mod_below l Q p)

early_step : (hh hl lh ll P Q B : ℕ) → P * Q ≡ B → 0 < Q → hl < B → ll < B
    → (hh % Q * P + hl / Q) * B + (hl % Q * P + lh / Q) ≡ (hh * B + hl) % (Q * B) * P + (lh * B + ll) / (Q * B)
early_step hh hl lh ll P Q B w p s t =
    let c : hl ≡ hl / Q * Q + hl % Q = sym (div-add-mod' hl Q) in
    rw (keep_mod hh hl Q B s p, keep_div lh ll Q B t p) (omega (arith, ap (λ x. x * P) c, ap (λ x. hl / Q * x) w))

late_step : (hh hl lh ll P Q B : ℕ) → P * Q ≡ B → 0 < Q
    → (hl % Q * P + lh / Q) * B + (lh % Q * P + ll / Q) ≡ (hh * B + hl) % Q * (P * B) + (lh * B + ll) / Q
late_step hh hl lh ll P Q B w p =
    let c : lh ≡ lh / Q * Q + lh % Q = sym (div-add-mod' lh Q) in
    rw (drop_mod hh hl P Q B w p, drop_div lh ll P Q B w p) (omega (arith, ap (λ x. x * P) c, ap (λ x. lh / Q * x) w))

pub record Shifts (k : ℕ) (t : Term) (w : List Value) (s : Amount k) (h l : Digits k) (P Q : ℕ) : Type 0 where
  pub result : Digits k
  pub gives : meaning t w (Pair (amount_tree k s) (Pair (tree k h) (tree k l))) ≡ Some (tree k result)
  pub law : number k result ≡ number k h % Q * P + number k l / Q

abbrev Lefts : (k : ℕ) → List Value → Amount k → Digits k → Digits k → Type 0
Lefts k w s h l = Shifts k (shifted_left k) w s h l (factor k s) (cofactor k s)

abbrev Rights : (k : ℕ) → List Value → Amount k → Digits k → Digits k → Type 0
Rights k w s h l = Shifts k (shifted_right k) w s h l (cofactor k s) (factor k s)

lefts_by : (k : ℕ) (w : List Value) (b : Bool) (s : Amount k) (h l : Digits (suc k)) → Lefts k w s h.0 h.1 → Lefts k w s h.1 l.0 → Lefts k w s l.0 l.1 → Lefts (suc k) w (b, s) h l
lefts_by k w false s h l p q r = record {
  result = (p.result, q.result);
  gives = rw (p.gives, q.gives) refl;
  law = rw (p.law, q.law) (early_step (number k h.0) (number k h.1) (number k l.0) (number k l.1) (factor k s) (cofactor k s) (word_count k) (whole k s) ((positive (factor k s) (cofactor k s) (word_count k) (whole k s) (count_pos k)).1) (number_below k h.1) (number_below k l.1));
}
lefts_by k w true s h l p q r = record {
  result = (q.result, r.result);
  gives = rw (q.gives, r.gives) refl;
  law = rw (q.law, r.law) (late_step (number k h.0) (number k h.1) (number k l.0) (number k l.1) (factor k s) (cofactor k s) (word_count k) (whole k s) ((positive (factor k s) (cofactor k s) (word_count k) (whole k s) (count_pos k)).1));
}

pub lefts : (k : ℕ) (w : List Value) (s : Amount k) (h l : Digits k) → Lefts k w s h l
lefts zero w s false false = record { result = false; gives = refl; law = refl }
lefts zero w s false true = record { result = false; gives = refl; law = refl }
lefts zero w s true false = record { result = true; gives = refl; law = refl }
lefts zero w s true true = record { result = true; gives = refl; law = refl }
lefts (suc k) w s h l = lefts_by k w s.0 s.1 h l (lefts k w s.1 h.0 h.1) (lefts k w s.1 h.1 l.0) (lefts k w s.1 l.0 l.1)

rights_by : (k : ℕ) (w : List Value) (b : Bool) (s : Amount k) (h l : Digits (suc k)) → Rights k w s h.0 h.1 → Rights k w s h.1 l.0 → Rights k w s l.0 l.1 → Rights (suc k) w (b, s) h l
rights_by k w false s h l p q r = record {
  result = (q.result, r.result);
  gives = rw (q.gives, r.gives) refl;
  law = rw (q.law, r.law) (late_step (number k h.0) (number k h.1) (number k l.0) (number k l.1) (cofactor k s) (factor k s) (word_count k) (turn k s) ((positive (factor k s) (cofactor k s) (word_count k) (whole k s) (count_pos k)).0));
}
  where
    turn : (k : ℕ) (s : Amount k) → cofactor k s * factor k s ≡ word_count k
    turn k s = omega (arith, whole k s)
rights_by k w true s h l p q r = record {
  result = (p.result, q.result);
  gives = rw (p.gives, q.gives) refl;
  law = rw (p.law, q.law) (early_step (number k h.0) (number k h.1) (number k l.0) (number k l.1) (cofactor k s) (factor k s) (word_count k) (turn k s) ((positive (factor k s) (cofactor k s) (word_count k) (whole k s) (count_pos k)).0) (number_below k h.1) (number_below k l.1));
}
  where
    turn : (k : ℕ) (s : Amount k) → cofactor k s * factor k s ≡ word_count k
    turn k s = omega (arith, whole k s)

pub rights : (k : ℕ) (w : List Value) (s : Amount k) (h l : Digits k) → Rights k w s h l
rights zero w s false false = record { result = false; gives = refl; law = refl }
rights zero w s false true = record { result = true; gives = refl; law = refl }
rights zero w s true false = record { result = false; gives = refl; law = refl }
rights zero w s true true = record { result = true; gives = refl; law = refl }
rights (suc k) w s h l = rights_by k w s.0 s.1 h l (rights k w s.1 h.0 h.1) (rights k w s.1 h.1 l.0) (rights k w s.1 l.0 l.1)
