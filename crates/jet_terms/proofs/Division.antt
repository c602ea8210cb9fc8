-- Differences and quotients.
use Rattle.std.proofs.Common.{◌≡◌, ℕ, zero, suc, ◌+◌, ◌*◌, ◌/◌, ◌%◌, ◌<◌, ◌≤◌, List, Bool, true, false, refl, sym, ap, ◌∙◌, arith, Some}
use Rattle.std.specs.Prelude.{not}
use Rattle.std.proofs.lemmas.Nat.{div-mul-add, mod-mul-add}
use Rattle.simplicity.specs.Types.{Value, UnitValue, Inr, Pair, word_value, bit_value, word_count}
use Rattle.simplicity.specs.Terms.{Term, meaning}
use Rattle.jet_terms.specs.Trees.{not_1, complement, full_add, full_subtract, subtract, division, div_mod}
use Rattle.simplicity.specs.Digits.{Digits, number, tree, bit_number}
use Rattle.simplicity.proofs.Digits.{count_square, number_below, tree_word, digits}
use Rattle.jet_terms.proofs.Gates.{each1, meaning-lift1}
use Rattle.jet_terms.proofs.Sums.{Adds, adds}
use Rattle.jet_terms.proofs.Compare.{Less, less, more, somes}

turned : (w : List Value) (b : Bool) → meaning not_1 w (bit_value b) ≡ Some (bit_value (not b))
turned w false = refl
turned w true = refl

pub meaning-complement : (k : ℕ) (w : List Value) (d : Digits k) → meaning (complement k) w (tree k d) ≡ Some (tree k (each1 not k d))
meaning-complement k w d = meaning-lift1 not_1 not w (turned w) k d

complement_step : (B a b c d : ℕ) → a + b + 1 ≡ B → c + d + 1 ≡ B → (a * B + c) + (b * B + d) + 1 ≡ B * B
complement_step B a b c d e f = omega (arith, f, ap (λ x. x * B) e)

pub complement_law : (k : ℕ) (d : Digits k) → number k (each1 not k d) + number k d + 1 ≡ word_count k
complement_law zero false = refl
complement_law zero true = refl
complement_law (suc k) d = complement_step (word_count k) (number k (each1 not k d.0)) (number k d.0) (number k (each1 not k d.1)) (number k d.1) (complement_law k d.0) (complement_law k d.1) ∙ sym (count_square k)

pub record Takes (k : ℕ) (t : Term) (w : List Value) (v : Value) (c : Bool) (a b : Digits k) : Type 0 where
  pub borrow : Bool
  pub rest : Digits k
  pub gives : meaning t w v ≡ Some (Pair (bit_value borrow) (tree k rest))
  pub law : number k rest + number k b + bit_number c ≡ number k a + bit_number borrow * word_count k

bit_not : (b : Bool) → bit_number (not b) + bit_number b ≡ 1
bit_not false = refl
bit_not true = refl

take_step : (B m m' c c' s a b b' : ℕ) → m * B + s ≡ c' + a + b' → c' + c ≡ 1 → m' + m ≡ 1 → b' + b + 1 ≡ B → s + b + c ≡ a + m' * B
take_step B m m' c c' s a b b' e f g h = omega (arith, e, f, h, ap (λ x. x * B) g)

pub takes : (k : ℕ) (w : List Value) (c : Bool) (a b : Digits k) → Takes k (full_subtract k) w (Pair (bit_value c) (Pair (tree k a) (tree k b))) c a b
takes k w c a b =
    let s = adds k w (not c) a (each1 not k b) in
    record {
      borrow = not s.carry;
      rest = s.total;
      gives = rw (turned w c) (rw (meaning-complement k w b) (rw (s.gives) (rw (turned w s.carry) refl)));
      law = take_step (word_count k) (bit_number s.carry) (bit_number (not s.carry)) (bit_number c) (bit_number (not c)) (number k s.total) (number k a) (number k b) (number k (each1 not k b)) s.law (bit_not c) (bit_not s.carry) (complement_law k b);
    }

pub takes_plain : (k : ℕ) (w : List Value) (a b : Digits k) → Takes k (subtract k) w (Pair (tree k a) (tree k b)) false a b
takes_plain k w a b = let s = takes k w false a b in record { borrow = s.borrow; rest = s.rest; gives = s.gives; law = s.law }

-- a number of 2 ^ j bits, brought down one after the other behind a rest
pub record Divides (j k : ℕ) (w : List Value) (x : Digits j) (r d : Digits k) : Type 0 where
  pub quotient : Digits j
  pub rest : Digits k
  pub gives : meaning (division j k) w (Pair (tree j x) (Pair (tree k r) (tree k d))) ≡ Some (Pair (tree j quotient) (tree k rest))
  pub law : number j quotient * number k d + number k rest ≡ number k r * word_count j + number j x
  pub small : number k rest < number k d

divide_step : (B q1 q0 d r r1 r0 x1 x0 : ℕ) → q1 * d + r1 ≡ r * B + x1 → q0 * d + r0 ≡ r1 * B + x0 → (q1 * B + q0) * d + r0 ≡ r * (B * B) + (x1 * B + x0)
divide_step B q1 q0 d r r1 r0 x1 x0 e f = omega (arith, f, ap (λ x. x * B) e)

at_most : (b : Bool) → bit_number b ≤ 1
at_most false = omega arith
at_most true = omega arith

one_step : (k : ℕ) (w : List Value) (x : Bool) (r d : Digits k) → number k r < number k d → Divides zero k w x r d
one_step k w x r d h = by (adds k w x r r)
  where
    last : (c : Bool) (s : Digits k) → meaning (full_add k) w (Pair (bit_value x) (Pair (tree k r) (tree k r))) ≡ Some (Pair (bit_value c) (tree k s))
        → bit_number c * word_count k + number k s ≡ bit_number x + number k r + number k r
        → (b : Bool) (e : Digits k) → meaning (subtract k) w (Pair (tree k s) (tree k d)) ≡ Some (Pair (bit_value b) (tree k e))
        → number k e + number k d + 0 ≡ number k s + bit_number b * word_count k → Divides zero k w x r d
    last false s g l false e g' l' = record { quotient = true; rest = e; gives = rw g (rw g' refl); law = omega (arith, l, l'); small = (let u : bit_number x ≤ 1 = at_most x in omega (arith, l, l', u)) }
    last false s g l true e g' l' = record { quotient = false; rest = s; gives = rw g (rw g' refl); law = omega (arith, l, l'); small = omega (arith, l', number_below k e) }
    last true s g l false e g' l' = absurd (let u : bit_number x ≤ 1 = at_most x in omega (arith, l, l', u, number_below k d))
    last true s g l true e g' l' = record { quotient = true; rest = e; gives = rw g (rw g' refl); law = omega (arith, l, l'); small = (let u : bit_number x ≤ 1 = at_most x in omega (arith, l, l', u)) }

    by : Adds k w x r r → Divides zero k w x r d
    by s = let t = takes_plain k w s.total d in last s.carry s.total s.gives s.law t.borrow t.rest t.gives t.law

pub divides : (j k : ℕ) (w : List Value) (x : Digits j) (r d : Digits k) → number k r < number k d → Divides j k w x r d
divides zero k w x r d h = one_step k w x r d h
divides (suc j) k w x r d h =
    let high = divides j k w x.0 r d h in
    let low = divides j k w x.1 high.rest d high.small in
    record {
      quotient = (high.quotient, low.quotient);
      rest = low.rest;
      gives = rw (high.gives) (rw (low.gives) refl);
      law = rw (count_square j) (divide_step (word_count j) (number j high.quotient) (number j low.quotient) (number k d) (number k r) (number k high.rest) (number k low.rest) (number j x.0) (number j x.1) high.law low.law);
      small = low.small;
    }

zero_word : (k : ℕ) → (d : Digits k) × (number k d ≡ 0) × (word_value k 0 ≡ tree k d)
zero_word k = let d = digits k 0 (omega (arith, number_below k (digits_zero k))) in (d.0, d.1, sym (ap (word_value k) d.1) ∙ tree_word k d.0)
  where
    digits_zero : (k : ℕ) → Digits k
    digits_zero zero = false
    digits_zero (suc k) = (digits_zero k, digits_zero k)

pub div_mods : (k : ℕ) (w : List Value) (x y : ℕ) → x < word_count k → y < word_count k → 0 < y
    → meaning (div_mod k) w (Pair (word_value k x) (word_value k y)) ≡ Some (Pair (word_value k (x / y)) (word_value k (x % y)))
div_mods k w x y hx hy some = by (digits k x hx) (digits k y hy) (zero_word k)
  where
    by : (d : Digits k) × (number k d ≡ x) → (d : Digits k) × (number k d ≡ y) → (d : Digits k) × (number k d ≡ 0) × (word_value k 0 ≡ tree k d)
        → meaning (div_mod k) w (Pair (word_value k x) (word_value k y)) ≡ Some (Pair (word_value k (x / y)) (word_value k (x % y)))
    by a b z =
        let s = somes k w b.0 in
        let v = divides k k w a.0 z.0 b.0 (omega (arith, z.1, b.1)) in
        let yes : bit_value s.answer ≡ Inr UnitValue = tested s.answer s.law in
        let e : number k v.quotient * y + number k v.rest ≡ x = ap (λ n. number k v.quotient * n + number k v.rest) (sym b.1) ∙ omega (arith, v.law, a.1, ap (λ n. n * word_count k) z.1) in
        let q : x / y ≡ number k v.quotient = sym (ap (λ n. n / y) e) ∙ div-mul-add (number k v.quotient) y (number k v.rest) (omega (arith, v.small, b.1)) in
        let r : x % y ≡ number k v.rest = sym (ap (λ n. n % y) e) ∙ mod-mul-add (number k v.quotient) y (number k v.rest) (omega (arith, v.small, b.1)) in
        rw (q, r, tree_word k v.quotient, tree_word k v.rest)
        (rw (sym (ap (word_value k) a.1) ∙ tree_word k a.0, sym (ap (word_value k) b.1) ∙ tree_word k b.0)
        (rw (s.gives) (rw yes (rw (z.2) (rw (v.gives) refl)))))
      where
        tested : (r : Bool) → Less 0 (number k b.0) r → bit_value r ≡ Inr UnitValue
        tested true (less h) = refl
        tested false (more h) = absurd (omega (arith, b.1))
