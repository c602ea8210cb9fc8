-- The shifts and rotations compute their formulas.
use Rattle.std.proofs.Common.{◌≡◌, ℕ, suc, zero, ◌+◌, ◌-◌, ◌*◌, ◌/◌, ◌%◌, ◌^◌, ◌<◌, ◌≤◌, List, [], ◌∷◌, Bool, true, false, refl, sym, ap, ◌∙◌, subst, arith, Some, inl, inr}
use Rattle.std.specs.Prelude.{IsTrue, min, take}
use Rattle.simplicity.specs.Types.{Value, Pair, word_value, bit_value, word_count, Kind}
use Rattle.simplicity.specs.Terms.{Term, Answer, meaning, PairTerm}
use Rattle.simplicity.specs.Widths.{level_of}
use Rattle.jets.specs.Jet.{is_jet, sizes}
use Rattle.jet_terms.specs.Expansions.{source_of, amount_level}
use Rattle.jet_terms.specs.Laws.{Gives, IsFormula}
use Rattle.simplicity.specs.Digits.{tree, bit_number}
use Rattle.simplicity.proofs.Digits.{count_pos, word_digits, same_word}
use Rattle.std.proofs.lemmas.Bool.{cases_order}
use Rattle.std.proofs.lemmas.Nat.{div-mul-add, mod-mul-add, pow_pos, pow-add, mul-le, mul-add-lt, div-add-mod', mod_below}
use Rattle.simplicity.specs.Canon.{erased}
use Rattle.jet_terms.specs.Trees.{shifted_left, shifted_right, bit_paths, bits, any_of, fill, or_fill, left_shift_with, right_shift_with, left_shift, right_shift, left_rotate, right_rotate, ◌⨾◌, O, I, H}
use Rattle.simplicity.specs.Flowed.{flowed}
use Rattle.jet_terms.proofs.Compare.{Less, less, more}
use Rattle.jet_terms.proofs.Shifts.{Amount, amount_tree, amount, factor, cofactor, whole, lefts, rights}
use Rattle.jet_terms.proofs.Amounts.{Overs, split}
use Rattle.jet_terms.proofs.PadLaws.{pred_times, on_false, on_true}
use Rattle.jet_terms.proofs.Frame.{sized, args2, args3, with_arrows}
use Rattle.jets.specs.Jet as jet
use Rattle.jets.specs.Formula as formula

factor_by : (b : Bool) (B P t u : ℕ) → P ≡ 2 ^ t → B ≡ 2 ^ u → elim b [ false ↦ P | true ↦ P * B ] ≡ 2 ^ (bit_number b * u + t)
factor_by false B P t u e f = let z : 0 * u + t ≡ t = omega arith in rw z e
factor_by true B P t u e f = let z : 1 * u + t ≡ t + u = omega arith in rw (z, e, f) (sym (pow-add 2 t u))

-- two to the amount
factor_is : (k : ℕ) (s : Amount k) → factor k s ≡ 2 ^ amount k s
factor_is zero s = refl
factor_is (suc k) s = factor_by s.0 (word_count k) (factor k s.1) (amount k s.1) (2 ^ k) (factor_is k s.1) refl

-- the word_count over it: what is left of a power
cancelled : (P Q R B : ℕ) → 0 < P → P * Q ≡ B → P * R ≡ B → Q ≡ R
cancelled P Q R B h e f = elim (cases_order Q R) [
  | inl same ↦ same
  | inr differ ↦ elim differ [
    | inl below ↦ absurd (let m = mul-le P (suc Q) P R (omega arith) (omega (arith, below)) in omega (arith, m, e, f, h))
    | inr above ↦ absurd (let m = mul-le P (suc R) P Q (omega arith) (omega (arith, above)) in omega (arith, m, e, f, h))
  ]
]

cofactor_is : (k : ℕ) (s : Amount k) → amount k s < 2 ^ k → cofactor k s ≡ 2 ^ (2 ^ k - amount k s)
cofactor_is k s h =
    let e : 2 ^ k ≡ amount k s + (2 ^ k - amount k s) = omega (arith, h) in
    cancelled (factor k s) (cofactor k s) (2 ^ (2 ^ k - amount k s)) (word_count k) (subst (λ n. 0 < n) (sym (factor_is k s)) (pow_pos (amount k s))) (whole k s)
    (ap (λ n. n * 2 ^ (2 ^ k - amount k s)) (factor_is k s) ∙ sym (pow-add 2 (amount k s) (2 ^ k - amount k s)) ∙ sym (ap (λ n. 2 ^ n) e))

-- shifts of numbers
left_number : (k : ℕ) (ws : List Value) (s : Amount k) (x : Value) (h l t : ℕ) → amount k s ≡ t → amount k s < 2 ^ k → h < word_count k → l < word_count k → x ≡ amount_tree k s
    → meaning (shifted_left k) ws (Pair x (Pair (word_value k h) (word_value k l))) ≡ Some (word_value k (h % 2 ^ (2 ^ k - t) * 2 ^ t + l / 2 ^ (2 ^ k - t)))
left_number k ws s x h l t e small f g is =
    let u = word_digits k h f in
    let v = word_digits k l g in
    let r = lefts k ws s u.0 v.0 in
    let p = factor_is k s ∙ ap (λ n. 2 ^ n) e in
    let q = cofactor_is k s small ∙ ap (λ n. 2 ^ (2 ^ k - n)) e in
    rw (is, u.2, v.2) (r.gives ∙ same_word k (h % 2 ^ (2 ^ k - t) * 2 ^ t + l / 2 ^ (2 ^ k - t)) r.result (r.law ∙ rw (p, q, u.1, v.1) refl))

right_number : (k : ℕ) (ws : List Value) (s : Amount k) (x : Value) (h l t : ℕ) → amount k s ≡ t → amount k s < 2 ^ k → h < word_count k → l < word_count k → x ≡ amount_tree k s
    → meaning (shifted_right k) ws (Pair x (Pair (word_value k h) (word_value k l))) ≡ Some (word_value k (h % 2 ^ t * 2 ^ (2 ^ k - t) + l / 2 ^ t))
right_number k ws s x h l t e small f g is =
    let u = word_digits k h f in
    let v = word_digits k l g in
    let r = rights k ws s u.0 v.0 in
    let p = factor_is k s ∙ ap (λ n. 2 ^ n) e in
    let q = cofactor_is k s small ∙ ap (λ n. 2 ^ (2 ^ k - n)) e in
    rw (is, u.2, v.2) (r.gives ∙ same_word k (h % 2 ^ t * 2 ^ (2 ^ k - t) + l / 2 ^ t) r.result (r.law ∙ rw (p, q, u.1, v.1) refl))

-- rotations
rotate_of : (b g : Term) (ws : List Value) (s a x : Value) (r : Answer) → meaning b ws s ≡ Some x → meaning g ws (Pair x (Pair a a)) ≡ r → meaning (PairTerm (O H ⨾ b) (PairTerm (I H) (I H)) ⨾ g) ws (Pair s a) ≡ r
rotate_of b g ws s a x r e f = rw e f

rest_of : (m h l n : ℕ) → h * m + l ≡ n → l < m → l ≡ n % m
rest_of m h l n e s = sym (ap (λ x. x % m) (sym e) ∙ mod-mul-add h m l s)

pub left_rotations : (j k : ℕ) → k ≤ 2 ^ j → (ws : List Value) (s a : ℕ) → s < word_count j → a < word_count k
    → meaning (left_rotate j k) ws (Pair (word_value j s) (word_value k a)) ≡ Some (word_value k (formula.rotated (2 ^ k) (s % 2 ^ k) a))
left_rotations j k fits ws s a h i =
    let y = word_digits j s h in
    let p = split j k ws y.0 fits in
    ap (λ v. meaning (left_rotate j k) ws (Pair v (word_value k a))) (y.2)
    ∙ rotate_of (bits j k) (shifted_left k) ws (tree j y.0) (word_value k a) (amount_tree k p.low) (Some (word_value k (formula.rotated (2 ^ k) (s % 2 ^ k) a))) p.gives
    (left_number k ws p.low (amount_tree k p.low) a a (s % 2 ^ k) (rest_of (2 ^ k) p.high (amount k p.low) s (p.sum ∙ y.1) p.small) p.small i i refl)

turned_back : (n t : ℕ) → t < n → n - (n - t) ≡ t
turned_back n t h = omega (arith, h)

pub right_rotations : (j k : ℕ) → k ≤ 2 ^ j → (ws : List Value) (s a : ℕ) → s < word_count j → a < word_count k
    → meaning (right_rotate j k) ws (Pair (word_value j s) (word_value k a)) ≡ Some (word_value k (formula.rotated (2 ^ k) (2 ^ k - s % 2 ^ k) a))
right_rotations j k fits ws s a h i =
    let y = word_digits j s h in
    let p = split j k ws y.0 fits in
    let back = turned_back (2 ^ k) (s % 2 ^ k) (mod_below s (2 ^ k) (pow_pos k)) in
    ap (λ v. meaning (right_rotate j k) ws (Pair v (word_value k a))) (y.2)
    ∙ rotate_of (bits j k) (shifted_right k) ws (tree j y.0) (word_value k a) (amount_tree k p.low) (Some (word_value k (formula.rotated (2 ^ k) (2 ^ k - s % 2 ^ k) a))) p.gives
    (right_number k ws p.low (amount_tree k p.low) a a (s % 2 ^ k) (rest_of (2 ^ k) p.high (amount k p.low) s (p.sum ∙ y.1) p.small) p.small i i refl
    ∙ ap (λ t. Some (word_value k (a % 2 ^ t * 2 ^ (2 ^ k - s % 2 ^ k) + a / 2 ^ t))) (sym back))

-- the fill
fills : (k : ℕ) (ws : List Value) (f : Bool) (x : Value) → meaning (fill k) ws (Pair (bit_value f) x) ≡ Some (word_value k (bit_number f * (word_count k - 1)))
fills k ws false x = ap (λ n. Some (word_value k n)) (let e : 0 ≡ 0 * (word_count k - 1) = omega arith in e)
fills k ws true x = ap (λ n. Some (word_value k n)) (let e : word_count k - 1 ≡ 1 * (word_count k - 1) = omega arith in e)

fill_below : (f : Bool) (b : ℕ) → 0 < b → bit_number f * (b - 1) < b
fill_below false b h = omega (arith, h)
fill_below true b h = omega (arith, h)

fill_div : (f : Bool) (P Q : ℕ) → 0 < P → 0 < Q → bit_number f * (P * Q - 1) / Q ≡ bit_number f * (P - 1)
fill_div false P Q h i = ap (λ x. x / Q) (let e : 0 * (P * Q - 1) ≡ 0 * Q + 0 = omega arith in e) ∙ div-mul-add 0 Q 0 i ∙ (let e : 0 ≡ 0 * (P - 1) = omega arith in e)
fill_div true P Q h i =
    let q = pred_times P Q h in
    let e : 1 * (P * Q - 1) ≡ (P - 1) * Q + (Q - 1) = omega (arith, q, i) in
    ap (λ x. x / Q) e ∙ div-mul-add (P - 1) Q (Q - 1) (omega (arith, i)) ∙ (let e : P - 1 ≡ 1 * (P - 1) = omega arith in e)

fill_mod : (f : Bool) (P Q : ℕ) → 0 < P → 0 < Q → bit_number f * (P * Q - 1) % Q ≡ bit_number f * (Q - 1)
fill_mod false P Q h i = ap (λ x. x % Q) (let e : 0 * (P * Q - 1) ≡ 0 * Q + 0 = omega arith in e) ∙ mod-mul-add 0 Q 0 i ∙ (let e : 0 ≡ 0 * (Q - 1) = omega arith in e)
fill_mod true P Q h i =
    let q = pred_times P Q h in
    let e : 1 * (P * Q - 1) ≡ (P - 1) * Q + (Q - 1) = omega (arith, q, i) in
    ap (λ x. x % Q) e ∙ mod-mul-add (P - 1) Q (Q - 1) (omega (arith, i)) ∙ (let e : Q - 1 ≡ 1 * (Q - 1) = omega arith in e)

-- a front kept and a filled back
front_mod : (a g P Q : ℕ) → 0 < Q → g < P → (a * P + g) % (P * Q) ≡ a % Q * P + g
front_mod a g P Q h s =
    let e : a * P + g ≡ a / Q * (P * Q) + (a % Q * P + g) = omega (arith, ap (λ x. x * P) (div-add-mod' a Q)) in
    ap (λ n. n % (P * Q)) e ∙ mod-mul-add (a / Q) (P * Q) (a % Q * P + g) (let m = mul-add-lt (a % Q) P g Q (mod_below a Q h) s in omega (arith, m))

left_middle : (f : Bool) (a P Q : ℕ) → 0 < P → 0 < Q → a % Q * P + bit_number f * (P * Q - 1) / Q ≡ (a * P + bit_number f * (P - 1)) % (P * Q)
left_middle f a P Q h i = ap (λ x. a % Q * P + x) (fill_div f P Q h i) ∙ sym (front_mod a (bit_number f * (P - 1)) P Q i (fill_below f P h))

filled_number : (f : Bool) (P Q : ℕ) → 0 < P → 0 < Q → bit_number f * (P - 1) * Q ≡ bit_number f * (P * Q - Q)
filled_number false P Q h i = omega arith
filled_number true P Q h i = let q = pred_times P Q h in omega (arith, q)

right_middle : (f : Bool) (a P Q : ℕ) → 0 < P → 0 < Q → bit_number f * (P * Q - 1) % P * Q + a / P ≡ a / P + bit_number f * (P * Q - Q)
right_middle f a P Q h i =
    let c : P * Q ≡ Q * P = omega arith in
    let e = ap (λ m. bit_number f * (m - 1) % P) c ∙ fill_mod f Q P i h in
    let g = filled_number f P Q h i in
    ap (λ x. x * Q + a / P) e ∙ omega (arith, g)

-- by the bits over the last k
or_filled : (k : ℕ) (ps : List Term) (middle : Term) (ws : List Value) (f v a : Value) (h : ℕ) (r : Answer) → Overs ps ws v h
    → (h ≡ 0 → meaning middle ws (Pair f (Pair v a)) ≡ r) → (0 < h → meaning (fill k) ws (Pair f (Pair v a)) ≡ r) → meaning (or_fill k ps middle) ws (Pair f (Pair v a)) ≡ r
or_filled k [] middle ws f v a h r o low high = low o
or_filled k (p ∷ ps) middle ws f v a h r o low high = by o.answer o.gives o.law
  where
    by : (b : Bool) → meaning (any_of p ps) ws v ≡ Some (bit_value b) → Less 0 h b → meaning (or_fill k (p ∷ ps) middle) ws (Pair f (Pair v a)) ≡ r
    by true g (less s) = on_true (I (O H) ⨾ any_of p ps) middle (fill k) ws (Pair f (Pair v a)) r g (high s)
    by false g (more s) = on_false (I (O H) ⨾ any_of p ps) middle (fill k) ws (Pair f (Pair v a)) r g (low (omega (arith, s)))

left_of_bits : (b g c : Term) (ws : List Value) (f s a x l : Value) (r : Answer) → meaning b ws s ≡ Some x → meaning c ws (Pair f (Pair s a)) ≡ Some l → meaning g ws (Pair x (Pair a l)) ≡ r
    → meaning (PairTerm (I (O H) ⨾ b) (PairTerm (I (I H)) c) ⨾ g) ws (Pair f (Pair s a)) ≡ r
left_of_bits b g c ws f s a x l r e h i = rw e (rw h i)

right_of_bits : (b g c : Term) (ws : List Value) (f s a x l : Value) (r : Answer) → meaning b ws s ≡ Some x → meaning c ws (Pair f (Pair s a)) ≡ Some l → meaning g ws (Pair x (Pair l a)) ≡ r
    → meaning (PairTerm (I (O H) ⨾ b) (PairTerm c (I (I H))) ⨾ g) ws (Pair f (Pair s a)) ≡ r
right_of_bits b g c ws f s a x l r e h i = rw e (rw h i)

whole_base : (k t : ℕ) → t ≤ 2 ^ k → word_count k ≡ 2 ^ t * 2 ^ (2 ^ k - t)
whole_base k t h = let e : 2 ^ k ≡ t + (2 ^ k - t) = omega (arith, h) in ap (λ n. 2 ^ n) e ∙ pow-add 2 t (2 ^ k - t)

-- at one amount t
left_at : (k t : ℕ) (f : Bool) (a : ℕ) → t ≤ 2 ^ k → a % 2 ^ (2 ^ k - t) * 2 ^ t + bit_number f * (word_count k - 1) / 2 ^ (2 ^ k - t) ≡ (a * 2 ^ t + bit_number f * (2 ^ t - 1)) % word_count k
left_at k t f a h =
    let b = whole_base k t h in
    ap (λ m. a % 2 ^ (2 ^ k - t) * 2 ^ t + bit_number f * (m - 1) / 2 ^ (2 ^ k - t)) b ∙ left_middle f a (2 ^ t) (2 ^ (2 ^ k - t)) (pow_pos t) (pow_pos (2 ^ k - t))
    ∙ ap (λ m. (a * 2 ^ t + bit_number f * (2 ^ t - 1)) % m) (sym b)

right_at : (k t : ℕ) (f : Bool) (a : ℕ) → t ≤ 2 ^ k → bit_number f * (word_count k - 1) % 2 ^ t * 2 ^ (2 ^ k - t) + a / 2 ^ t ≡ a / 2 ^ t + bit_number f * (word_count k - 2 ^ (2 ^ k - t))
right_at k t f a h =
    let b = whole_base k t h in
    ap (λ m. bit_number f * (m - 1) % 2 ^ t * 2 ^ (2 ^ k - t) + a / 2 ^ t) b ∙ right_middle f a (2 ^ t) (2 ^ (2 ^ k - t)) (pow_pos t) (pow_pos (2 ^ k - t))
    ∙ ap (λ m. a / 2 ^ t + bit_number f * (m - 2 ^ (2 ^ k - t))) (sym b)

-- all the places
left_all : (f : Bool) (a b : ℕ) → 0 < b → bit_number f * (b - 1) ≡ (a * b + bit_number f * (b - 1)) % b
left_all f a b h = sym (mod-mul-add a b (bit_number f * (b - 1)) (fill_below f b h))

right_all : (f : Bool) (a b m : ℕ) → a < b → m ≡ 0 → bit_number f * (b - 1) ≡ a / b + bit_number f * (b - 2 ^ m)
right_all f a b m h z =
    let e : a ≡ 0 * b + a = omega arith in
    let q = ap (λ x. x / b) e ∙ div-mul-add 0 b a h in
    rw (z, q) (omega arith)

least_below : (h m l s : ℕ) → h * m + l ≡ s → l < m → h ≡ 0 → (min s m ≡ l)
least_below h m l s e small z = let y = ap (λ x. x * m) z in omega (arith, e, small, y)

least_above : (h m l s : ℕ) → h * m + l ≡ s → 0 < h → (min s m ≡ m)
least_above h m l s e p = let y = mul-le 1 m h m p (omega arith) in omega (arith, e, y)

pub left_shifts_with : (j k : ℕ) → k ≤ 2 ^ j → (ws : List Value) (f s a : ℕ) → f < word_count 0 → s < word_count j → a < word_count k
    → meaning (left_shift_with j k) ws (Pair (word_value 0 f) (Pair (word_value j s) (word_value k a))) ≡ Some (word_value k (formula.shifted_left (2 ^ k) f s a))
left_shifts_with j k fits ws f s a g h i =
    let z = word_digits 0 f g in
    let y = word_digits j s h in
    let p = split j k ws y.0 fits in
    let sum = p.sum ∙ y.1 in
    ap (λ u. meaning (left_shift_with j k) ws (Pair u (Pair (word_value j s) (word_value k a)))) (z.2)
    ∙ ap (λ v. meaning (left_shift_with j k) ws (Pair (bit_value z.0) (Pair v (word_value k a)))) (y.2)
    ∙ or_filled k (take (2 ^ j - k) (bit_paths j)) (PairTerm (I (O H) ⨾ bits j k) (PairTerm (I (I H)) (fill k)) ⨾ shifted_left k) ws (bit_value z.0) (tree j y.0) (word_value k a) p.high
    (Some (word_value k (shifted z.0 (min s (2 ^ k))))) p.over
    (λ none. let t = least_below p.high (2 ^ k) (amount k p.low) s sum p.small none in
    left_of_bits (bits j k) (shifted_left k) (fill k) ws (bit_value z.0) (tree j y.0) (word_value k a) (amount_tree k p.low) (word_value k (bit_number z.0 * (word_count k - 1))) (Some (word_value k (shifted z.0 (min s (2 ^ k)))))
    p.gives (fills k ws z.0 (Pair (tree j y.0) (word_value k a)))
    (left_number k ws p.low (amount_tree k p.low) a (bit_number z.0 * (word_count k - 1)) (amount k p.low) refl p.small i (fill_below z.0 (word_count k) (count_pos k)) refl
    ∙ ap (λ n. Some (word_value k n)) (left_at k (amount k p.low) z.0 a (omega (arith, p.small)) ∙ ap (λ m. shifted z.0 m) (sym t))))
    (λ some. let t = least_above p.high (2 ^ k) (amount k p.low) s sum some in
    fills k ws z.0 (Pair (tree j y.0) (word_value k a)) ∙ ap (λ n. Some (word_value k n)) (left_all z.0 a (word_count k) (count_pos k) ∙ ap (λ m. shifted z.0 m) (sym t)))
    ∙ ap (λ b. Some (word_value k ((a * 2 ^ min s (2 ^ k) + b * (2 ^ min s (2 ^ k) - 1)) % word_count k))) (z.1)
  where
    shifted : Bool → ℕ → ℕ
    shifted b t = (a * 2 ^ t + bit_number b * (2 ^ t - 1)) % word_count k

pub right_shifts_with : (j k : ℕ) → k ≤ 2 ^ j → (ws : List Value) (f s a : ℕ) → f < word_count 0 → s < word_count j → a < word_count k
    → meaning (right_shift_with j k) ws (Pair (word_value 0 f) (Pair (word_value j s) (word_value k a))) ≡ Some (word_value k (formula.shifted_right (2 ^ k) f s a))
right_shifts_with j k fits ws f s a g h i =
    let z = word_digits 0 f g in
    let y = word_digits j s h in
    let p = split j k ws y.0 fits in
    let sum = p.sum ∙ y.1 in
    ap (λ u. meaning (right_shift_with j k) ws (Pair u (Pair (word_value j s) (word_value k a)))) (z.2)
    ∙ ap (λ v. meaning (right_shift_with j k) ws (Pair (bit_value z.0) (Pair v (word_value k a)))) (y.2)
    ∙ or_filled k (take (2 ^ j - k) (bit_paths j)) (PairTerm (I (O H) ⨾ bits j k) (PairTerm (fill k) (I (I H))) ⨾ shifted_right k) ws (bit_value z.0) (tree j y.0) (word_value k a) p.high
    (Some (word_value k (shifted z.0 (min s (2 ^ k))))) p.over
    (λ none. let t = least_below p.high (2 ^ k) (amount k p.low) s sum p.small none in
    right_of_bits (bits j k) (shifted_right k) (fill k) ws (bit_value z.0) (tree j y.0) (word_value k a) (amount_tree k p.low) (word_value k (bit_number z.0 * (word_count k - 1))) (Some (word_value k (shifted z.0 (min s (2 ^ k)))))
    p.gives (fills k ws z.0 (Pair (tree j y.0) (word_value k a)))
    (right_number k ws p.low (amount_tree k p.low) (bit_number z.0 * (word_count k - 1)) a (amount k p.low) refl p.small (fill_below z.0 (word_count k) (count_pos k)) i refl
    ∙ ap (λ n. Some (word_value k n)) (right_at k (amount k p.low) z.0 a (omega (arith, p.small)) ∙ ap (λ m. shifted z.0 m) (sym t))))
    (λ some. let t = least_above p.high (2 ^ k) (amount k p.low) s sum some in
    fills k ws z.0 (Pair (tree j y.0) (word_value k a)) ∙ ap (λ n. Some (word_value k n)) (right_all z.0 a (word_count k) (2 ^ k - 2 ^ k) i (omega arith) ∙ ap (λ m. shifted z.0 m) (sym t)))
    ∙ ap (λ b. Some (word_value k (a / 2 ^ min s (2 ^ k) + b * (word_count k - 2 ^ (2 ^ k - min s (2 ^ k)))))) (z.1)
  where
    shifted : Bool → ℕ → ℕ
    shifted b t = a / 2 ^ t + bit_number b * (word_count k - 2 ^ (2 ^ k - t))

pub left_shifts : (j k : ℕ) → k ≤ 2 ^ j → (ws : List Value) (s a : ℕ) → s < word_count j → a < word_count k
    → meaning (left_shift j k) ws (Pair (word_value j s) (word_value k a)) ≡ Some (word_value k (formula.shifted_left (2 ^ k) 0 s a))
left_shifts j k fits ws s a h i = left_shifts_with j k fits ws 0 s a (omega arith) h i

pub right_shifts : (j k : ℕ) → k ≤ 2 ^ j → (ws : List Value) (s a : ℕ) → s < word_count j → a < word_count k
    → meaning (right_shift j k) ws (Pair (word_value j s) (word_value k a)) ≡ Some (word_value k (formula.shifted_right (2 ^ k) 0 s a))
right_shifts j k fits ws s a h i = right_shifts_with j k fits ws 0 s a (omega arith) h i

-- at the widths
abbrev pub Amounts : ℕ → ℕ → Type 0
Amounts n w = (n ≡ 2 ^ level_of n) × (jet.width_of (jet.amount n) ≡ 2 ^ amount_level n) × (level_of n ≤ 2 ^ amount_level n)

pub amounts : (n w : ℕ) → IsTrue (is_jet jet.LeftShift n w) → Amounts n w
amounts n w is = sized Amounts (sizes jet.LeftShift) ((refl, refl, omega arith), ((refl, refl, omega arith), ((refl, refl, omega arith), ((refl, refl, omega arith), tt)))) n w is

shift2 : (t : ℕ → ℕ → Term) (F : ℕ → ℕ → ℕ → ℕ → Answer)
    → ((j k : ℕ) → k ≤ 2 ^ j → (ws : List Value) (s a : ℕ) → s < word_count j → a < word_count k → meaning (t j k) ws (Pair (word_value j s) (word_value k a)) ≡ F (2 ^ k) k s a)
    → (n m j k : ℕ) → n ≡ 2 ^ k → m ≡ 2 ^ j → k ≤ 2 ^ j → (source : Kind) (ws : List Value) (s a : ℕ) → s < 2 ^ m → a < 2 ^ n
    → meaning (erased (flowed (t j k) source)) ws (Pair (word_value j s) (word_value k a)) ≡ F n k s a
shift2 t F law n m j k e f fits source ws s a g h =
    with_arrows (t j k) source ws (Pair (word_value j s) (word_value k a)) (F n k s a)
    (law j k fits ws s a (subst (λ x. s < 2 ^ x) f g) (subst (λ x. a < 2 ^ x) e h) ∙ ap (λ x. F x k s a) (sym e))

shift3 : (t : ℕ → ℕ → Term) (F : ℕ → ℕ → ℕ → ℕ → ℕ → Answer)
    → ((j k : ℕ) → k ≤ 2 ^ j → (ws : List Value) (c s a : ℕ) → c < word_count 0 → s < word_count j → a < word_count k → meaning (t j k) ws (Pair (word_value 0 c) (Pair (word_value j s) (word_value k a))) ≡ F (2 ^ k) k c s a)
    → (n m j k : ℕ) → n ≡ 2 ^ k → m ≡ 2 ^ j → k ≤ 2 ^ j → (source : Kind) (ws : List Value) (c s a : ℕ) → c < 2 ^ 1 → s < 2 ^ m → a < 2 ^ n
    → meaning (erased (flowed (t j k) source)) ws (Pair (word_value 0 c) (Pair (word_value j s) (word_value k a))) ≡ F n k c s a
shift3 t F law n m j k e f fits source ws c s a g h i =
    with_arrows (t j k) source ws (Pair (word_value 0 c) (Pair (word_value j s) (word_value k a))) (F n k c s a)
    (law j k fits ws c s a g (subst (λ x. s < 2 ^ x) f h) (subst (λ x. a < 2 ^ x) e i) ∙ ap (λ x. F x k c s a) (sym e))

pub left_shift_with_law : IsFormula jet.LeftShiftWith
left_shift_with_law n w is xs ws all =
    let s = amounts n w is in
    args3 jet.Truth (jet.amount n) (jet.Number n) (Gives jet.LeftShiftWith n w ws) (shift3 left_shift_with (λ n k f s a. Some (word_value k (formula.shifted_left n f s a))) left_shifts_with n (jet.width_of (jet.amount n)) (amount_level n) (level_of n) s.0 s.1 s.2 (source_of jet.LeftShiftWith n w) ws) xs all

pub right_shift_with_law : IsFormula jet.RightShiftWith
right_shift_with_law n w is xs ws all =
    let s = amounts n w is in
    args3 jet.Truth (jet.amount n) (jet.Number n) (Gives jet.RightShiftWith n w ws) (shift3 right_shift_with (λ n k f s a. Some (word_value k (formula.shifted_right n f s a))) right_shifts_with n (jet.width_of (jet.amount n)) (amount_level n) (level_of n) s.0 s.1 s.2 (source_of jet.RightShiftWith n w) ws) xs all

pub left_shift_law : IsFormula jet.LeftShift
left_shift_law n w is xs ws all =
    let s = amounts n w is in
    args2 (jet.amount n) (jet.Number n) (Gives jet.LeftShift n w ws) (shift2 left_shift (λ n k s a. Some (word_value k (formula.shifted_left n 0 s a))) left_shifts n (jet.width_of (jet.amount n)) (amount_level n) (level_of n) s.0 s.1 s.2 (source_of jet.LeftShift n w) ws) xs all

pub right_shift_law : IsFormula jet.RightShift
right_shift_law n w is xs ws all =
    let s = amounts n w is in
    args2 (jet.amount n) (jet.Number n) (Gives jet.RightShift n w ws) (shift2 right_shift (λ n k s a. Some (word_value k (formula.shifted_right n 0 s a))) right_shifts n (jet.width_of (jet.amount n)) (amount_level n) (level_of n) s.0 s.1 s.2 (source_of jet.RightShift n w) ws) xs all

pub left_rotate_law : IsFormula jet.LeftRotate
left_rotate_law n w is xs ws all =
    let s = amounts n w is in
    args2 (jet.amount n) (jet.Number n) (Gives jet.LeftRotate n w ws) (shift2 left_rotate (λ n k s a. Some (word_value k (formula.rotated n (s % n) a))) left_rotations n (jet.width_of (jet.amount n)) (amount_level n) (level_of n) s.0 s.1 s.2 (source_of jet.LeftRotate n w) ws) xs all

pub right_rotate_law : IsFormula jet.RightRotate
right_rotate_law n w is xs ws all =
    let s = amounts n w is in
    args2 (jet.amount n) (jet.Number n) (Gives jet.RightRotate n w ws) (shift2 right_rotate (λ n k s a. Some (word_value k (formula.rotated n (n - s % n) a))) right_rotations n (jet.width_of (jet.amount n)) (amount_level n) (level_of n) s.0 s.1 s.2 (source_of jet.RightRotate n w) ws) xs all
