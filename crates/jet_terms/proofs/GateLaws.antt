-- The gates' terms compute their formulas.
use Rattle.std.proofs.Common.{◌≡◌, ℕ, suc, zero, ◌+◌, ◌-◌, ◌*◌, ◌^◌, ◌<◌, ◌≤◌, List, [], ◌∷◌, Bool, true, false, refl, sym, ap, ◌∙◌, subst, arith, Some, inl, inr}
use Rattle.std.specs.Prelude.{IsTrue, nat_eq, nat_lt, not, ◌&&◌, ◌||◌, bit_and, bit_or, bit_xor, option_map}
use Rattle.std.proofs.lemmas.Bool.{eq-eqb, ne_eqb, lt-ltb, le-ltb, cases_lt}
use Rattle.std.proofs.lemmas.Nat.{mul-le}
use Rattle.simplicity.specs.Types.{Value, Pair, word_value, bit_value, word_count}
use Rattle.simplicity.specs.Terms.{Term, meaning}
use Rattle.simplicity.specs.Tuples.{tuple_value}
use Rattle.simplicity.specs.Widths.{level_of}
use Rattle.jets.specs.Jet.{is_jet, sizes}
use Rattle.jets.specs.Formula.{numbers}
use Rattle.jet_terms.specs.Trees.{zeros, ones, lift2, lift3, and_1, or_1, xor_1, maj_1, xor_xor_1, ch_1, complement, verify, some_bit, all_bits, is_zero, is_one, eq}
use Rattle.jet_terms.specs.Expansions.{source_of}
use Rattle.jet_terms.specs.Laws.{values_of, Gives, IsFormula}
use Rattle.simplicity.specs.Makes.{fail_root}
use Rattle.simplicity.specs.Digits.{Digits, number, tree}
use Rattle.simplicity.proofs.Digits.{count_pos, count_square, number_below, word_digits, same_word}
use Rattle.jet_terms.proofs.Gates.{each1, each2, each3, meaning-lift2, meaning-lift3}
use Rattle.jet_terms.proofs.Bitwise.{either_one, most, odd, chosen, number_and, number_or, number_xor, number_most, number_odd, number_chosen}
use Rattle.jet_terms.proofs.Compare.{Same, equal, other, Less, less, more, Tests, equals, somes}
use Rattle.jet_terms.proofs.Division.{complement_law as complement_number, meaning-complement}
use Rattle.jet_terms.proofs.Frame.{sized, HasLevel, usual_level, gate_level, args0, args1, args2, args3, with_arrows, at0, at1, at2, at3}
use Rattle.jets.specs.Jet as jet
use Rattle.jets.specs.Formula as formula

-- a truth value as a word
pub bit_word : (b : Bool) → Some (bit_value b) ≡ Some (word_value 0 (formula.bit b))
bit_word false = refl
bit_word true = refl

same_test : (m n : ℕ) (r : Bool) → Same m n r → r ≡ nat_eq m n
same_test m n true (equal e) = sym (eq-eqb m n e)
same_test m n false (other f) = sym (ne_eqb m n f)

less_test : (m n : ℕ) (r : Bool) → Less m n r → r ≡ nat_lt m n
less_test m n true (less h) = sym (lt-ltb m n h)
less_test m n false (more h) = sym (le-ltb m n h)

pub same_gives : (t : Term) (ws : List Value) (v : Value) (p q m n : ℕ) → Tests t ws v (Same p q) → p ≡ m → q ≡ n → meaning t ws v ≡ Some (word_value 0 (formula.bit (nat_eq m n)))
same_gives t ws v p q m n x e f =
    x.gives ∙ bit_word x.answer ∙ ap (λ r. Some (word_value 0 (formula.bit r))) (same_test p q x.answer x.law ∙ rw (e, f) refl)

pub less_gives : (t : Term) (ws : List Value) (v : Value) (p q m n : ℕ) → Tests t ws v (Less p q) → p ≡ m → q ≡ n → meaning t ws v ≡ Some (word_value 0 (formula.bit (nat_lt m n)))
less_gives t ws v p q m n x e f =
    x.gives ∙ bit_word x.answer ∙ ap (λ r. Some (word_value 0 (formula.bit r))) (less_test p q x.answer x.law ∙ rw (e, f) refl)

-- words bit by bit
words2 : (t : Term) (f : Bool → Bool → Bool) (F : ℕ → ℕ → ℕ)
    → ((ws : List Value) (a b : Bool) → meaning t ws (Pair (bit_value a) (bit_value b)) ≡ Some (bit_value (f a b)))
    → ((k : ℕ) (a b : Digits k) → number k (each2 f k a b) ≡ F (number k a) (number k b))
    → (k : ℕ) (ws : List Value) (a b : ℕ) → a < word_count k → b < word_count k → meaning (lift2 t k) ws (Pair (word_value k a) (word_value k b)) ≡ Some (word_value k (F a b))
words2 t f F on_bits on_numbers k ws a b h i =
    let x = word_digits k a h in
    let y = word_digits k b i in
    rw (x.2, y.2) (meaning-lift2 t f ws (on_bits ws) k x.0 y.0 ∙ same_word k (F a b) (each2 f k x.0 y.0) (on_numbers k x.0 y.0 ∙ rw (x.1, y.1) refl))

words3 : (t : Term) (f : Bool → Bool → Bool → Bool) (F : ℕ → ℕ → ℕ → ℕ → ℕ)
    → ((ws : List Value) (a b c : Bool) → meaning t ws (Pair (bit_value a) (Pair (bit_value b) (bit_value c))) ≡ Some (bit_value (f a b c)))
    → ((k : ℕ) (a b c : Digits k) → number k (each3 f k a b c) ≡ F k (number k a) (number k b) (number k c))
    → (k : ℕ) (ws : List Value) (a b c : ℕ) → a < word_count k → b < word_count k → c < word_count k
    → meaning (lift3 t k) ws (Pair (word_value k a) (Pair (word_value k b) (word_value k c))) ≡ Some (word_value k (F k a b c))
words3 t f F on_bits on_numbers k ws a b c h i j =
    let x = word_digits k a h in
    let y = word_digits k b i in
    let z = word_digits k c j in
    rw (x.2, y.2, z.2) (meaning-lift3 t f ws (on_bits ws) k x.0 y.0 z.0 ∙ same_word k (F k a b c) (each3 f k x.0 y.0 z.0) (on_numbers k x.0 y.0 z.0 ∙ rw (x.1, y.1, z.1) refl))

pub and_bits : (ws : List Value) (a b : Bool) → meaning and_1 ws (Pair (bit_value a) (bit_value b)) ≡ Some (bit_value (◌&&◌ a b))
and_bits ws false false = refl
and_bits ws false true = refl
and_bits ws true false = refl
and_bits ws true true = refl

pub or_bits : (ws : List Value) (a b : Bool) → meaning or_1 ws (Pair (bit_value a) (bit_value b)) ≡ Some (bit_value (◌||◌ a b))
or_bits ws false false = refl
or_bits ws false true = refl
or_bits ws true false = refl
or_bits ws true true = refl

pub xor_bits : (ws : List Value) (a b : Bool) → meaning xor_1 ws (Pair (bit_value a) (bit_value b)) ≡ Some (bit_value (either_one a b))
xor_bits ws false false = refl
xor_bits ws false true = refl
xor_bits ws true false = refl
xor_bits ws true true = refl

maj_bits : (ws : List Value) (a b c : Bool) → meaning maj_1 ws (Pair (bit_value a) (Pair (bit_value b) (bit_value c))) ≡ Some (bit_value (most a b c))
maj_bits ws false false false = refl
maj_bits ws false false true = refl
maj_bits ws false true false = refl
maj_bits ws false true true = refl
maj_bits ws true false false = refl
maj_bits ws true false true = refl
maj_bits ws true true false = refl
maj_bits ws true true true = refl

xor_xor_bits : (ws : List Value) (a b c : Bool) → meaning xor_xor_1 ws (Pair (bit_value a) (Pair (bit_value b) (bit_value c))) ≡ Some (bit_value (odd a b c))
xor_xor_bits ws false false false = refl
xor_xor_bits ws false false true = refl
xor_xor_bits ws false true false = refl
xor_xor_bits ws false true true = refl
xor_xor_bits ws true false false = refl
xor_xor_bits ws true false true = refl
xor_xor_bits ws true true false = refl
xor_xor_bits ws true true true = refl

ch_bits : (ws : List Value) (a b c : Bool) → meaning ch_1 ws (Pair (bit_value a) (Pair (bit_value b) (bit_value c))) ≡ Some (bit_value (chosen a b c))
ch_bits ws false false false = refl
ch_bits ws false false true = refl
ch_bits ws false true false = refl
ch_bits ws false true true = refl
ch_bits ws true false false = refl
ch_bits ws true false true = refl
ch_bits ws true true false = refl
ch_bits ws true true true = refl

pub ands : (k : ℕ) (ws : List Value) (a b : ℕ) → a < word_count k → b < word_count k → meaning (lift2 and_1 k) ws (Pair (word_value k a) (word_value k b)) ≡ Some (word_value k (bit_and a b))
ands = words2 and_1 ◌&&◌ bit_and and_bits number_and

pub ors : (k : ℕ) (ws : List Value) (a b : ℕ) → a < word_count k → b < word_count k → meaning (lift2 or_1 k) ws (Pair (word_value k a) (word_value k b)) ≡ Some (word_value k (bit_or a b))
ors = words2 or_1 ◌||◌ bit_or or_bits number_or

pub xors : (k : ℕ) (ws : List Value) (a b : ℕ) → a < word_count k → b < word_count k → meaning (lift2 xor_1 k) ws (Pair (word_value k a) (word_value k b)) ≡ Some (word_value k (bit_xor a b))
xors = words2 xor_1 either_one bit_xor xor_bits number_xor

pub majs : (k : ℕ) (ws : List Value) (a b c : ℕ) → a < word_count k → b < word_count k → c < word_count k
    → meaning (lift3 maj_1 k) ws (Pair (word_value k a) (Pair (word_value k b) (word_value k c))) ≡ Some (word_value k (bit_or (bit_or (bit_and a b) (bit_and a c)) (bit_and b c)))
majs = words3 maj_1 most (λ k a b c. bit_or (bit_or (bit_and a b) (bit_and a c)) (bit_and b c)) maj_bits number_most

pub xor_xors : (k : ℕ) (ws : List Value) (a b c : ℕ) → a < word_count k → b < word_count k → c < word_count k
    → meaning (lift3 xor_xor_1 k) ws (Pair (word_value k a) (Pair (word_value k b) (word_value k c))) ≡ Some (word_value k (bit_xor (bit_xor a b) c))
xor_xors = words3 xor_xor_1 odd (λ k a b c. bit_xor (bit_xor a b) c) xor_xor_bits number_odd

pub complement_is : (k : ℕ) (d : Digits k) → number k (each1 not k d) ≡ word_count k - 1 - number k d
complement_is k d = let e = complement_number k d in omega (arith, e)

pub complements : (k : ℕ) (ws : List Value) (a : ℕ) → a < word_count k → meaning (complement k) ws (word_value k a) ≡ Some (word_value k (word_count k - 1 - a))
complements k ws a h =
    let x = word_digits k a h in
    rw (x.2) (meaning-complement k ws x.0 ∙ same_word k (word_count k - 1 - a) (each1 not k x.0) (complement_is k x.0 ∙ rw (x.1) refl))

number_ch : (k : ℕ) (a b c : Digits k)
    → number k (each3 chosen k a b c) ≡ bit_or (bit_and (number k a) (number k b)) (bit_and (word_count k - 1 - number k a) (number k c))
number_ch k a b c = number_chosen k a b c ∙ ap (λ m. bit_or (bit_and (number k a) (number k b)) (bit_and m (number k c))) (complement_is k a)

pub chs : (k : ℕ) (ws : List Value) (a b c : ℕ) → a < word_count k → b < word_count k → c < word_count k
    → meaning (lift3 ch_1 k) ws (Pair (word_value k a) (Pair (word_value k b) (word_value k c))) ≡ Some (word_value k (bit_or (bit_and a b) (bit_and (word_count k - 1 - a) c)))
chs = words3 ch_1 chosen (λ k a b c. bit_or (bit_and a b) (bit_and (word_count k - 1 - a) c)) ch_bits number_ch

-- whether all bits are set
abbrev pub Alls : (k : ℕ) → List Value → Digits k → Type 0
Alls k ws a = Tests (all_bits k) ws (tree k a) (Same (number k a + 1) (word_count k))

all_step : (B h l : ℕ) → l < B → h < B → h * B + l + 1 ≡ B * B → h + 1 ≡ B
all_step B h l s u e = elim (cases_lt (h + 1) B) [ inl p ↦ absurd (let m = mul-le (h + 2) B B B (omega (arith, p)) (omega arith) in omega (arith, m, e)) | inr p ↦ omega (arith, p, u) ]

alls_by : (k : ℕ) (ws : List Value) (a : Digits (suc k)) → Alls k ws a.1
    → (r : Bool) → meaning (all_bits k) ws (tree k a.0) ≡ Some (bit_value r) → Same (number k a.0 + 1) (word_count k) r → Alls (suc k) ws a
alls_by k ws a low true g (equal e) = record { answer = low.answer; gives = rw g (rw (low.gives) refl); law = lows low.answer low.law }
  where
    lows : (r : Bool) → Same (number k a.1 + 1) (word_count k) r → Same (number (suc k) a + 1) (word_count (suc k)) r
    lows true (equal f) = equal (let q = count_square k in omega (arith, q, f, ap (λ x. x * word_count k) e))
    lows false (other f) = other (λ s. f (let q = count_square k in omega (arith, q, s, ap (λ x. x * word_count k) e)))
alls_by k ws a low false g (other f) =
    record { answer = false; gives = rw g refl; law = other (λ s. f (all_step (word_count k) (number k a.0) (number k a.1) (number_below k a.1) (number_below k a.0) (s ∙ count_square k))) }

pub alls : (k : ℕ) (ws : List Value) (a : Digits k) → Alls k ws a
alls zero ws false = record { answer = false; gives = refl; law = other (λ e. omega (arith, e)) }
alls zero ws true = record { answer = true; gives = refl; law = equal refl }
alls (suc k) ws a = let high = alls k ws a.0 in alls_by k ws a (alls k ws a.1) high.answer high.gives high.law

moved : (m n : ℕ) (r : Bool) → 0 < n → Same (m + 1) n r → Same m (n - 1) r
moved m n true h (equal e) = equal (omega (arith, e))
moved m n false h (other f) = other (λ s. f (omega (arith, s, h)))

pub all_tests : (k : ℕ) (ws : List Value) (a : ℕ) → a < word_count k → meaning (all_bits k) ws (word_value k a) ≡ Some (word_value 0 (formula.bit (nat_eq a (word_count k - 1))))
all_tests k ws a h =
    let x = word_digits k a h in
    let t = alls k ws x.0 in
    rw (x.2) (same_gives (all_bits k) ws (tree k x.0) (number k x.0) (word_count k - 1) a (word_count k - 1)
    (record { answer = t.answer; gives = t.gives; law = moved (number k x.0) (word_count k) t.answer (count_pos k) t.law }) x.1 refl)

-- whether a word is zero, and one
zero_by : (k : ℕ) (ws : List Value) (a : Digits k) (r : Bool) → meaning (some_bit k) ws (tree k a) ≡ Some (bit_value r) → Less 0 (number k a) r
    → Tests (is_zero k) ws (tree k a) (Same (number k a) 0)
zero_by k ws a true g (less h) = record { answer = false; gives = rw g refl; law = other (λ e. omega (arith, e, h)) }
zero_by k ws a false g (more h) = record { answer = true; gives = rw g refl; law = equal (omega (arith, h)) }

pub zero_digits : (k : ℕ) (ws : List Value) (a : Digits k) → Tests (is_zero k) ws (tree k a) (Same (number k a) 0)
zero_digits k ws a = let t = somes k ws a in zero_by k ws a t.answer t.gives t.law

two_below : (k : ℕ) → 2 ≤ word_count k
two_below zero = omega arith
two_below (suc k) = let q = count_square k in let m = mul-le 2 2 (word_count k) (word_count k) (two_below k) (two_below k) in omega (arith, q, m)

abbrev pub Ones : (k : ℕ) → List Value → Digits k → Type 0
Ones k ws a = Tests (is_one k) ws (tree k a) (Same (number k a) 1)

one_step : (B h l : ℕ) → 0 < h → 2 ≤ B → h * B + l ≡ 1 → ⊥
one_step B h l s t e = let m = mul-le 1 B h B s (omega arith) in omega (arith, m, e, t)

ones_by : (k : ℕ) (ws : List Value) (a : Digits (suc k)) → Ones k ws a.1
    → (r : Bool) → meaning (some_bit k) ws (tree k a.0) ≡ Some (bit_value r) → Less 0 (number k a.0) r → Ones (suc k) ws a
ones_by k ws a low true g (less h) = record { answer = false; gives = rw g refl; law = other (λ e. one_step (word_count k) (number k a.0) (number k a.1) h (two_below k) e) }
ones_by k ws a low false g (more h) =
    let z : number k a.0 ≡ 0 = omega arith in
    record { answer = low.answer; gives = rw g (rw (low.gives) refl); law = subst (λ n. Same n 1 low.answer) (omega (arith, ap (λ x. x * word_count k) z)) low.law }

pub one_digits : (k : ℕ) (ws : List Value) (a : Digits k) → Ones k ws a
one_digits zero ws false = record { answer = false; gives = refl; law = other (λ e. omega (arith, e)) }
one_digits zero ws true = record { answer = true; gives = refl; law = equal refl }
one_digits (suc k) ws a = let high = somes k ws a.0 in ones_by k ws a (one_digits k ws a.1) high.answer high.gives high.law

pub some_tests : (k : ℕ) (ws : List Value) (a : ℕ) → a < word_count k → meaning (some_bit k) ws (word_value k a) ≡ Some (word_value 0 (formula.bit (nat_lt 0 a)))
some_tests k ws a h = let x = word_digits k a h in rw (x.2) (less_gives (some_bit k) ws (tree k x.0) 0 (number k x.0) 0 a (somes k ws x.0) refl x.1)

pub zero_tests : (k : ℕ) (ws : List Value) (a : ℕ) → a < word_count k → meaning (is_zero k) ws (word_value k a) ≡ Some (word_value 0 (formula.bit (nat_eq a 0)))
zero_tests k ws a h = let x = word_digits k a h in rw (x.2) (same_gives (is_zero k) ws (tree k x.0) (number k x.0) 0 a 0 (zero_digits k ws x.0) x.1 refl)

pub one_tests : (k : ℕ) (ws : List Value) (a : ℕ) → a < word_count k → meaning (is_one k) ws (word_value k a) ≡ Some (word_value 0 (formula.bit (nat_eq a 1)))
one_tests k ws a h = let x = word_digits k a h in rw (x.2) (same_gives (is_one k) ws (tree k x.0) (number k x.0) 1 a 1 (one_digits k ws x.0) x.1 refl)

pub eq_tests : (k : ℕ) (ws : List Value) (a b : ℕ) → a < word_count k → b < word_count k → meaning (eq k) ws (Pair (word_value k a) (word_value k b)) ≡ Some (word_value 0 (formula.bit (nat_eq a b)))
eq_tests k ws a b h i =
    let x = word_digits k a h in
    let y = word_digits k b i in
    rw (x.2, y.2) (same_gives (eq k) ws (Pair (tree k x.0) (tree k y.0)) (number k x.0) (number k y.0) a b (equals k ws x.0 y.0) x.1 y.1)

verified : (ws : List Value) (a : ℕ) → a < 2 → meaning (verify fail_root) ws (word_value 0 a) ≡ option_map (λ ys. tuple_value (values_of [] ys)) (numbers jet.Verify 1 1 (a ∷ []))
verified ws zero h = refl
verified ws (suc zero) h = refl
verified ws (suc (suc a)) h = absurd (omega (arith, h))

eq_level : (n w : ℕ) → IsTrue (is_jet jet.Eq n w) → n ≡ 2 ^ level_of n
eq_level n w is = sized HasLevel (sizes jet.Eq) (refl, (refl, (refl, (refl, (refl, (refl, tt)))))) n w is

pub low_law : IsFormula jet.Low
low_law n w is xs ws all =
    args0 (Gives jet.Low n w ws)
    (at0 zeros (λ n k. Some (word_value k (0))) (λ k ws. refl) n (level_of n) (gate_level n w is) (source_of jet.Low n w) ws) xs all

pub high_law : IsFormula jet.High
high_law n w is xs ws all =
    args0 (Gives jet.High n w ws)
    (at0 ones (λ n k. Some (word_value k (formula.ones n))) (λ k ws. refl) n (level_of n) (gate_level n w is) (source_of jet.High n w) ws) xs all

pub complement_law : IsFormula jet.Complement
complement_law n w is xs ws all =
    args1 (jet.Number n) (Gives jet.Complement n w ws)
    (at1 complement (λ n k a. Some (word_value k (formula.ones n - a))) complements n (level_of n) (gate_level n w is) (source_of jet.Complement n w) ws) xs all

pub and_law : IsFormula jet.And
and_law n w is xs ws all =
    args2 (jet.Number n) (jet.Number n) (Gives jet.And n w ws)
    (at2 (lift2 and_1) (λ n k a b. Some (word_value k (bit_and a b))) ands n (level_of n) (gate_level n w is) (source_of jet.And n w) ws) xs all

pub or_law : IsFormula jet.Or
or_law n w is xs ws all =
    args2 (jet.Number n) (jet.Number n) (Gives jet.Or n w ws)
    (at2 (lift2 or_1) (λ n k a b. Some (word_value k (bit_or a b))) ors n (level_of n) (gate_level n w is) (source_of jet.Or n w) ws) xs all

pub xor_law : IsFormula jet.Xor
xor_law n w is xs ws all =
    args2 (jet.Number n) (jet.Number n) (Gives jet.Xor n w ws)
    (at2 (lift2 xor_1) (λ n k a b. Some (word_value k (bit_xor a b))) xors n (level_of n) (gate_level n w is) (source_of jet.Xor n w) ws) xs all

pub maj_law : IsFormula jet.Maj
maj_law n w is xs ws all =
    args3 (jet.Number n) (jet.Number n) (jet.Number n) (Gives jet.Maj n w ws)
    (at3 (lift3 maj_1) (λ n k a b c. Some (word_value k (bit_or (bit_or (bit_and a b) (bit_and a c)) (bit_and b c)))) majs n (level_of n) (gate_level n w is) (source_of jet.Maj n w) ws) xs all

pub xor_xor_law : IsFormula jet.XorXor
xor_xor_law n w is xs ws all =
    args3 (jet.Number n) (jet.Number n) (jet.Number n) (Gives jet.XorXor n w ws)
    (at3 (lift3 xor_xor_1) (λ n k a b c. Some (word_value k (bit_xor (bit_xor a b) c))) xor_xors n (level_of n) (gate_level n w is) (source_of jet.XorXor n w) ws) xs all

pub ch_law : IsFormula jet.Ch
ch_law n w is xs ws all =
    args3 (jet.Number n) (jet.Number n) (jet.Number n) (Gives jet.Ch n w ws)
    (at3 (lift3 ch_1) (λ n k a b c. Some (word_value k (bit_or (bit_and a b) (bit_and (formula.ones n - a) c)))) chs n (level_of n) (gate_level n w is) (source_of jet.Ch n w) ws) xs all

pub some_law : IsFormula jet.Some
some_law n w is xs ws all =
    args1 (jet.Number n) (Gives jet.Some n w ws)
    (at1 some_bit (λ n k a. Some (word_value 0 (formula.bit (nat_lt 0 a)))) some_tests n (level_of n) (gate_level n w is) (source_of jet.Some n w) ws) xs all

pub all_law : IsFormula jet.All
all_law n w is xs ws all =
    args1 (jet.Number n) (Gives jet.All n w ws)
    (at1 all_bits (λ n k a. Some (word_value 0 (formula.bit (nat_eq a (formula.ones n))))) all_tests n (level_of n) (usual_level n w is) (source_of jet.All n w) ws) xs all

pub is_zero_law : IsFormula jet.IsZero
is_zero_law n w is xs ws all =
    args1 (jet.Number n) (Gives jet.IsZero n w ws)
    (at1 is_zero (λ n k a. Some (word_value 0 (formula.bit (nat_eq a 0)))) zero_tests n (level_of n) (usual_level n w is) (source_of jet.IsZero n w) ws) xs all

pub is_one_law : IsFormula jet.IsOne
is_one_law n w is xs ws all =
    args1 (jet.Number n) (Gives jet.IsOne n w ws)
    (at1 is_one (λ n k a. Some (word_value 0 (formula.bit (nat_eq a 1)))) one_tests n (level_of n) (usual_level n w is) (source_of jet.IsOne n w) ws) xs all

pub eq_law : IsFormula jet.Eq
eq_law n w is xs ws all =
    args2 (jet.Number n) (jet.Number n) (Gives jet.Eq n w ws)
    (at2 eq (λ n k a b. Some (word_value 0 (formula.bit (nat_eq a b)))) eq_tests n (level_of n) (eq_level n w is) (source_of jet.Eq n w) ws) xs all

pub verify_law : IsFormula jet.Verify
verify_law n w is xs ws all =
    args1 jet.Truth (Gives jet.Verify n w ws)
    (λ a h. with_arrows (verify fail_root) (source_of jet.Verify n w) ws (word_value 0 a) (option_map (λ ys. tuple_value (values_of [] ys)) (numbers jet.Verify 1 1 (a ∷ []))) (verified ws a h)) xs all
