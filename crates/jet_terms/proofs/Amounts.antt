-- The bits of a shift's amount, by their paths.
use Rattle.std.proofs.Common.{◌≡◌, ℕ, zero, suc, ◌+◌, ◌-◌, ◌*◌, ◌^◌, ◌<◌, ◌≤◌, List, [], ◌∷◌, Bool, true, false, refl, sym, ap, ◌∙◌, subst, arith, Some}
use Rattle.std.specs.Prelude.{◌++◌, map, length, take, drop, ◌||◌}
use Rattle.std.proofs.lemmas.List.{length-append, length-drop, take-append-drop}
use Rattle.std.proofs.lemmas.Nat.{pow_pos, pow-add}
use Rattle.simplicity.specs.Types.{Value, UnitValue, Pair, bit_value}
use Rattle.simplicity.specs.Terms.{Term, PairTerm, meaning}
use Rattle.jet_terms.specs.Trees.{O, I, or_1, ◌⨾◌, bit_paths, nested, bits, any_of}
use Rattle.simplicity.specs.Digits.{Digits, number, tree, bit_number}
use Rattle.jet_terms.proofs.Compare.{Less, less, more, Tests}
use Rattle.jet_terms.proofs.GateLaws.{or_bits}
use Rattle.jet_terms.proofs.Shifts.{Amount, amount_tree, amount}

-- each term gives its bit_number
abbrev pub GiveBits : List Value → Value → List Term → List Bool → Type 0
GiveBits ws v [] [] = Unit {0}
GiveBits ws v (p ∷ ps) (b ∷ bs) = (meaning p ws v ≡ Some (bit_value b)) × GiveBits ws v ps bs
GiveBits ws v [] (b ∷ bs) = ⊥
GiveBits ws v (p ∷ ps) [] = ⊥

give_first : (ws : List Value) (u v : Value) (ps : List Term) (bs : List Bool) → GiveBits ws u ps bs → GiveBits ws (Pair u v) (map O ps) bs
give_first ws u v [] [] h = tt
give_first ws u v [] (b ∷ bs) h = absurd h
give_first ws u v (p ∷ ps) [] h = absurd h
give_first ws u v (p ∷ ps) (b ∷ bs) h = (h.0, give_first ws u v ps bs h.1)

give_second : (ws : List Value) (u v : Value) (ps : List Term) (bs : List Bool) → GiveBits ws v ps bs → GiveBits ws (Pair u v) (map I ps) bs
give_second ws u v [] [] h = tt
give_second ws u v [] (b ∷ bs) h = absurd h
give_second ws u v (p ∷ ps) [] h = absurd h
give_second ws u v (p ∷ ps) (b ∷ bs) h = (h.0, give_second ws u v ps bs h.1)

give_both : (ws : List Value) (v : Value) (ps : List Term) (bs : List Bool) (qs : List Term) (cs : List Bool) → GiveBits ws v ps bs → GiveBits ws v qs cs → GiveBits ws v (ps ++ qs) (bs ++ cs)
give_both ws v [] [] qs cs h i = i
give_both ws v [] (b ∷ bs) qs cs h i = absurd h
give_both ws v (p ∷ ps) [] qs cs h i = absurd h
give_both ws v (p ∷ ps) (b ∷ bs) qs cs h i = (h.0, give_both ws v ps bs qs cs h.1 i)

give_taken : (ws : List Value) (v : Value) (e : ℕ) (ps : List Term) (bs : List Bool) → GiveBits ws v ps bs → GiveBits ws v (take e ps) (take e bs)
give_taken ws v zero ps bs h = tt
give_taken ws v (suc e) [] [] h = tt
give_taken ws v (suc e) [] (b ∷ bs) h = absurd h
give_taken ws v (suc e) (p ∷ ps) [] h = absurd h
give_taken ws v (suc e) (p ∷ ps) (b ∷ bs) h = (h.0, give_taken ws v e ps bs h.1)

give_dropped : (ws : List Value) (v : Value) (e : ℕ) (ps : List Term) (bs : List Bool) → GiveBits ws v ps bs → GiveBits ws v (drop e ps) (drop e bs)
give_dropped ws v zero ps bs h = h
give_dropped ws v (suc e) [] [] h = tt
give_dropped ws v (suc e) [] (b ∷ bs) h = absurd h
give_dropped ws v (suc e) (p ∷ ps) [] h = absurd h
give_dropped ws v (suc e) (p ∷ ps) (b ∷ bs) h = give_dropped ws v e ps bs h.1

-- the digits of a word as a list
abbrev pub bools : (j : ℕ) → Digits j → List Bool
bools zero b = b ∷ []
bools (suc j) s = bools j s.0 ++ bools j s.1

paths_give : (j : ℕ) (ws : List Value) (s : Digits j) → GiveBits ws (tree j s) (bit_paths j) (bools j s)
paths_give zero ws b = (refl, tt)
paths_give (suc j) ws s =
    give_both ws (tree (suc j) s) (map O (bit_paths j)) (bools j s.0) (map I (bit_paths j)) (bools j s.1)
    (give_first ws (tree j s.0) (tree j s.1) (bit_paths j) (bools j s.0) (paths_give j ws s.0))
    (give_second ws (tree j s.0) (tree j s.1) (bit_paths j) (bools j s.1) (paths_give j ws s.1))

abbrev pub value_of : List Bool → ℕ
value_of [] = 0
value_of (b ∷ bs) = bit_number b * 2 ^ length bs + value_of bs

value_step : (b p q m n : ℕ) (r : ℕ) → r ≡ p * q → b * r + (m * q + n) ≡ (b * p + m) * q + n
value_step b p q m n r e = omega (arith, ap (λ x. b * x) e)

value_append : (xs ys : List Bool) → value_of (xs ++ ys) ≡ value_of xs * 2 ^ length ys + value_of ys
value_append [] ys = omega arith
value_append (x ∷ xs) ys =
    ap (λ n. bit_number x * 2 ^ length (xs ++ ys) + n) (value_append xs ys)
    ∙ value_step (bit_number x) (2 ^ length xs) (2 ^ length ys) (value_of xs) (value_of ys) (2 ^ length (xs ++ ys)) (ap (λ n. 2 ^ n) (length-append xs ys) ∙ pow-add 2 (length xs) (length ys))

bools_length : (j : ℕ) (s : Digits j) → length (bools j s) ≡ 2 ^ j
bools_length zero b = refl
bools_length (suc j) s = length-append (bools j s.0) (bools j s.1) ∙ (let e = bools_length j s.0 in let f = bools_length j s.1 in let q : 2 ^ suc j ≡ 2 ^ j + 2 ^ j = omega arith in omega (arith, e, f, q))

bools_value : (j : ℕ) (s : Digits j) → value_of (bools j s) ≡ number j s
bools_value zero b = omega arith
bools_value (suc j) s = value_append (bools j s.0) (bools j s.1) ∙ rw (bools_value j s.0, bools_value j s.1, bools_length j s.1) refl

value_below : (bs : List Bool) → value_of bs < 2 ^ length bs
value_below [] = omega arith
value_below (b ∷ bs) = let h = value_below bs in let q : 2 ^ suc (length bs) ≡ 2 ^ length bs + 2 ^ length bs = omega arith in by b h q
  where
    by : (b : Bool) → value_of bs < 2 ^ length bs → 2 ^ suc (length bs) ≡ 2 ^ length bs + 2 ^ length bs → bit_number b * 2 ^ length bs + value_of bs < 2 ^ suc (length bs)
    by false h q = omega (arith, h, q)
    by true h q = omega (arith, h, q)

-- the bits as a nested list
abbrev pub list_tree : List Bool → Value
list_tree [] = UnitValue
list_tree (b ∷ bs) = Pair (bit_value b) (list_tree bs)

nested_gives : (ws : List Value) (v : Value) (ps : List Term) (bs : List Bool) → GiveBits ws v ps bs → meaning (nested ps) ws v ≡ Some (list_tree bs)
nested_gives ws v [] [] h = refl
nested_gives ws v [] (b ∷ bs) h = absurd h
nested_gives ws v (p ∷ ps) [] h = absurd h
nested_gives ws v (p ∷ ps) (b ∷ bs) h = rw (h.0) (rw (nested_gives ws v ps bs h.1) refl)

pub amount_from : (k : ℕ) (bs : List Bool) → length bs ≡ k → (s : Amount k) × (amount_tree k s ≡ list_tree bs) × (amount k s ≡ value_of bs)
amount_from zero [] h = (tt, refl, refl)
amount_from zero (b ∷ bs) h = absurd (omega (arith, h))
amount_from (suc k) [] h = absurd (omega (arith, h))
amount_from (suc k) (b ∷ bs) h =
    let e : length bs ≡ k = omega (arith, h) in
    let r = amount_from k bs e in
    ((b, r.0), ap (λ t. Pair (bit_value b) t) r.1, rw (r.2, e) refl)

-- whether a bit_number is set
abbrev pub any : Bool → List Bool → Bool
any b [] = b
any b (c ∷ bs) = any (b || c) bs

any_gives : (ws : List Value) (v : Value) (p : Term) (b : Bool) (ps : List Term) (bs : List Bool) → meaning p ws v ≡ Some (bit_value b) → GiveBits ws v ps bs → meaning (any_of p ps) ws v ≡ Some (bit_value (any b bs))
any_gives ws v p b [] [] g h = g
any_gives ws v p b [] (c ∷ bs) g h = absurd h
any_gives ws v p b (q ∷ ps) [] g h = absurd h
any_gives ws v p b (q ∷ ps) (c ∷ bs) g h = any_gives ws v (PairTerm p q ⨾ or_1) (b || c) ps bs (rw g (rw (h.0) (or_bits ws b c))) h.1

any_true : (bs : List Bool) → any true bs ≡ true
any_true [] = refl
any_true (c ∷ bs) = any_true bs

any_law : (b : Bool) (bs : List Bool) → Less 0 (value_of (b ∷ bs)) (any b bs)
any_law true bs = subst (λ r. Less 0 (value_of (true ∷ bs)) r) (sym (any_true bs)) (less (let p = pow_pos (length bs) in omega (arith, p)))
any_law false [] = more (omega arith)
any_law false (c ∷ bs) = subst (λ n. Less 0 n (any c bs)) (omega arith) (any_law c bs)

-- what the bits before the last say of the number over them
abbrev pub Overs : List Term → List Value → Value → ℕ → Type 0
Overs [] ws v h = h ≡ 0
Overs (p ∷ ps) ws v h = Tests (any_of p ps) ws v (Less 0 h)

overs : (ws : List Value) (v : Value) (ps : List Term) (bs : List Bool) → GiveBits ws v ps bs → Overs ps ws v (value_of bs)
overs ws v [] [] h = refl
overs ws v [] (b ∷ bs) h = absurd h
overs ws v (p ∷ ps) [] h = absurd h
overs ws v (p ∷ ps) (b ∷ bs) h = record { answer = any b bs; gives = any_gives ws v p b ps bs h.0 h.1; law = any_law b bs }

-- an amount of 2 ^ j bits as its last k bits and what stands before them
pub record Split (j k : ℕ) (ws : List Value) (v : Value) (n : ℕ) : Type 0 where
  pub high : ℕ
  pub low : Amount k
  pub gives : meaning (bits j k) ws v ≡ Some (amount_tree k low)
  pub sum : high * 2 ^ k + amount k low ≡ n
  pub small : amount k low < 2 ^ k
  pub over : Overs (take (2 ^ j - k) (bit_paths j)) ws v high

pub split : (j k : ℕ) (ws : List Value) (s : Digits j) → k ≤ 2 ^ j → Split j k ws (tree j s) (number j s)
split j k ws s h =
    let all = bools_length j s in
    let long : length (drop (2 ^ j - k) (bools j s)) ≡ k = length-drop (2 ^ j - k) (bools j s) ∙ omega (arith, all, h) in
    let a = amount_from k (drop (2 ^ j - k) (bools j s)) long in
    record {
      high = value_of (take (2 ^ j - k) (bools j s));
      low = a.0;
      gives = nested_gives ws (tree j s) (drop (2 ^ j - k) (bit_paths j)) (drop (2 ^ j - k) (bools j s)) (give_dropped ws (tree j s) (2 ^ j - k) (bit_paths j) (bools j s) (paths_give j ws s)) ∙ ap Some (sym a.1);
      sum = rw (a.2) (ap (λ n. value_of (take (2 ^ j - k) (bools j s)) * 2 ^ n + value_of (drop (2 ^ j - k) (bools j s))) (sym long)
          ∙ sym (value_append (take (2 ^ j - k) (bools j s)) (drop (2 ^ j - k) (bools j s))) ∙ ap value_of (take-append-drop (2 ^ j - k) (bools j s)) ∙ bools_value j s);
      small = subst (λ n. n < 2 ^ k) (sym a.2) (subst (λ n. value_of (drop (2 ^ j - k) (bools j s)) < 2 ^ n) long (value_below (drop (2 ^ j - k) (bools j s))));
      over = overs ws (tree j s) (take (2 ^ j - k) (bit_paths j)) (take (2 ^ j - k) (bools j s)) (give_taken ws (tree j s) (2 ^ j - k) (bit_paths j) (bools j s) (paths_give j ws s));
    }
