-- Core values that are put together from the last ones.
use Rattle.std.proofs.Common.{◌≡◌, ◌≢◌, ℕ, zero, suc, ◌+◌, ◌-◌, ◌*◌, ◌/◌, ◌%◌, ◌^◌, ◌<◌, ◌≤◌, List, [], ◌∷◌, ◌++◌, length, take, drop, Option, Some, refl, sym, ap, ◌∙◌, arith, append_assoc, append-nil, length-take, length-drop}
use Rattle.std.proofs.lemmas.Bool.{lt-ltb, le-ltb}
use Rattle.std.proofs.lemmas.List.{take-map, drop-map, take-append-drop, length-map}
use Rattle.std.proofs.Math.Pow.{pow-lt}
use Rattle.core_data.specs.declared.data.CoreValue.{CoreValue}
use Rattle.core_data.specs.Data.{value_of, values_of}
use Rattle.simplicity.specs.Types.{Value, UnitValue, Inl, Inr, Pair}
use Rattle.simplicity.specs.Tuples.{tuple_value}
use Rattle.simplicity.proofs.Tuples.{tuple_pair}
use Rattle.hl_meaning.specs.Values.{list_value}
use Rattle.hl_values.specs.Last.{TakesLast}

snoc_same : {A : Type 0} (xs ys : List A) (x y : A) → xs ++ x ∷ [] ≡ ys ++ y ∷ [] → (xs ≡ ys) × (x ≡ y)
snoc_same [] [] x y h = (refl, cc)
snoc_same [] (z ∷ []) x y h = absurd (cc)
snoc_same [] (z ∷ w ∷ ys) x y h = absurd (cc)
snoc_same (z ∷ []) [] x y h = absurd (cc)
snoc_same (z ∷ w ∷ xs) [] x y h = absurd (cc)
snoc_same {A} (z ∷ xs) (w ∷ ys) x y h =
    let rest : xs ++ x ∷ [] ≡ ys ++ y ∷ [] = cc in let first : z ≡ w = cc in
    let s = snoc_same xs ys x y rest in (cc (first, s.0), s.1)

-- how many are left
pub left_length : (old new : List CoreValue) (count : ℕ) (making : List Value → Option Value) (made : CoreValue) → TakesLast old new count making made → count ≤ length old → length new ≡ length old - count
left_length old new count making made t few =
    let n : length (drop (length old - count) old) ≡ count = omega (arith, length-drop (length old - count) old) in
    let s = t.takes (take (length old - count) old) (drop (length old - count) old) (sym (take-append-drop (length old - count) old)) n in
    ap length s.0 ∙ (omega (arith, length-take (length old - count) old))

pub none_last : (old : List CoreValue) (made : CoreValue) (count : ℕ) → count ≡ 0 → value_of made ≡ UnitValue → TakesLast old old count (λ vs. Some (tuple_value vs)) made
none_last old made count none is = record { takes = go }
  where
    go : (front back : List CoreValue) → old ≡ front ++ back → length back ≡ count → (old ≡ front) × (Some (tuple_value (values_of back)) ≡ Some (value_of made))
    go front [] e n = (e ∙ rw append-nil refl, rw is refl)
    go front (x ∷ back) e n = absurd (omega arith)

pub one_last : (old new : List CoreValue) (made : CoreValue) (count : ℕ) → count ≡ 1 → old ≡ new ++ made ∷ [] → TakesLast old new count (λ vs. Some (tuple_value vs)) made
one_last old new made count one is = record { takes = go }
  where
    go : (front back : List CoreValue) → old ≡ front ++ back → length back ≡ count → (new ≡ front) × (Some (tuple_value (values_of back)) ≡ Some (value_of made))
    go front (x ∷ []) e n = let s = snoc_same front new x made (sym e ∙ is) in (sym s.0, ap (λ v. Some (value_of v)) s.1)
    go front [] e n = absurd (omega arith)
    go front (x ∷ y ∷ back) e n = absurd (omega arith)

-- a value from the last ones and from those before them
both_taken : (old mid new : List CoreValue) (count k : ℕ) (first second making : List Value → Option Value) (a b made : CoreValue) → k ≤ count →
    ((vs : List Value) → length vs ≡ count → first (take k vs) ≡ Some (value_of a) → second (drop k vs) ≡ Some (value_of b) → making vs ≡ Some (value_of made)) →
    TakesLast old mid (count - k) second b → TakesLast mid new k first a → TakesLast old new count making made
both_taken old mid new count k first second making a b made few joins s t = record { takes = go }
  where
    go : (front back : List CoreValue) → old ≡ front ++ back → length back ≡ count → (new ≡ front) × (making (values_of back) ≡ Some (value_of made))
    go front back e n =
        let x = s.takes (front ++ take k back) (drop k back) (e ∙ rw (append_assoc, take-append-drop) refl) (omega (arith, length-drop k back)) in
        let y = t.takes front (take k back) x.0 (omega (arith, length-take k back)) in
        (y.0, joins (values_of back) (length-map back value_of ∙ n) (ap first (take-map value_of k back) ∙ y.1) (ap second (drop-map value_of k back) ∙ x.1))

pub both_last : (old mid new : List CoreValue) (count : ℕ) (rest first made : CoreValue) → 1 < count → value_of made ≡ Pair (value_of first) (value_of rest) →
    TakesLast old mid (count - count / 2) (λ vs. Some (tuple_value vs)) rest → TakesLast mid new (count / 2) (λ vs. Some (tuple_value vs)) first → TakesLast old new count (λ vs. Some (tuple_value vs)) made
both_last old mid new count rest first made several is s t =
    both_taken old mid new count (count / 2) (λ vs. Some (tuple_value vs)) (λ vs. Some (tuple_value vs)) (λ vs. Some (tuple_value vs)) first rest made (omega arith) joins s t
  where
    joins : (vs : List Value) → length vs ≡ count → Some (tuple_value (take (count / 2) vs)) ≡ Some (value_of first) → Some (tuple_value (drop (count / 2) vs)) ≡ Some (value_of rest) → Some (tuple_value vs) ≡ Some (value_of made)
    joins vs n h g =
        let a : tuple_value (take (count / 2) vs) ≡ value_of first = cc in let b : tuple_value (drop (count / 2) vs) ≡ value_of rest = cc in
        let pair : tuple_value vs ≡ Pair (tuple_value (take (count / 2) vs)) (tuple_value (drop (count / 2) vs)) = tuple_pair vs (omega arith) ∙ ap (λ m. Pair (tuple_value (take (m / 2) vs)) (tuple_value (drop (m / 2) vs))) n in
        ap Some (pair ∙ rw (a, b) (sym is))

pub one_item : (old new : List CoreValue) (item made : CoreValue) (count level : ℕ) → level ≡ 0 → count < 2 ^ (level + 1) → count ≢ 0 → value_of made ≡ Inr (value_of item) → old ≡ new ++ item ∷ [] → TakesLast old new count (list_value level) made
one_item old new item made count zero low few some made_is is = record { takes = go }
  where
    go : (front back : List CoreValue) → old ≡ front ++ back → length back ≡ count → (new ≡ front) × (list_value zero (values_of back) ≡ Some (value_of made))
    go front (x ∷ []) e n = let s = snoc_same front new x item (sym e ∙ is) in (sym s.0, ap (λ v. Some (Inr (value_of v))) s.1 ∙ ap Some (sym made_is))
    go front [] e n = absurd (some (sym n))
    go front (x ∷ y ∷ back) e n = absurd (omega arith)
one_item old new item made count (suc level) low few some made_is is = absurd (omega arith)

pub no_item : (old : List CoreValue) (made : CoreValue) (count level : ℕ) → level ≡ 0 → count ≡ 0 → value_of made ≡ Inl UnitValue → TakesLast old old count (list_value level) made
no_item old made count zero low none is = record { takes = go }
  where
    go : (front back : List CoreValue) → old ≡ front ++ back → length back ≡ count → (old ≡ front) × (list_value zero (values_of back) ≡ Some (value_of made))
    go front [] e n = (e ∙ rw append-nil refl, rw is refl)
    go front (x ∷ back) e n = absurd (omega arith)
no_item old made count (suc level) low none is = absurd (omega arith)

pub shifted : (level : ℕ) → level < 16 → 1 * 2 ^ level % 18446744073709551616 ≡ 2 ^ level
shifted level few = let fits : 2 ^ level < 2 ^ 16 = pow-lt few in omega arith

pub short_last : (old new : List CoreValue) (count level : ℕ) (rest made : CoreValue) → level ≢ 0 → count < 2 ^ level → value_of made ≡ Pair (Inl UnitValue) (value_of rest) →
    TakesLast old new count (list_value (level - 1)) rest → TakesLast old new count (list_value level) made
short_last old new count zero rest made some few is t = absurd (some refl)
short_last old new count (suc level) rest made some few is t = record { takes = go }
  where
    same : suc level - 1 ≡ level
    same = omega arith

    go : (front back : List CoreValue) → old ≡ front ++ back → length back ≡ count → (new ≡ front) × (list_value (suc level) (values_of back) ≡ Some (value_of made))
    go front back e n =
        let x = t.takes front back e n in
        let long : length (values_of back) ≡ count = length-map back value_of ∙ n in
        let less = lt-ltb (length (values_of back)) (2 ^ suc level) (omega arith) in
        let rest_is : list_value level (values_of back) ≡ Some (value_of rest) = rw same at x.1 in
        (x.0, rw (less, rest_is) (ap Some (sym is)))

pub long_last : (old mid new : List CoreValue) (count level : ℕ) (rest items made : CoreValue) → level ≢ 0 → 2 ^ level ≤ count → value_of made ≡ Pair (Inr (value_of items)) (value_of rest) →
    TakesLast old mid (count - 2 ^ level) (list_value (level - 1)) rest → TakesLast mid new (2 ^ level) (λ vs. Some (tuple_value vs)) items → TakesLast old new count (list_value level) made
long_last old mid new count zero rest items made some many is s t = absurd (some refl)
long_last old mid new count (suc level) rest items made some many is s t =
    both_taken old mid new count (2 ^ suc level) (λ vs. Some (tuple_value vs)) (list_value (suc level - 1)) (list_value (suc level)) items rest made many joins s t
  where
    same : suc level - 1 ≡ level
    same = omega arith

    joins : (vs : List Value) → length vs ≡ count → Some (tuple_value (take (2 ^ suc level) vs)) ≡ Some (value_of items) → list_value (suc level - 1) (drop (2 ^ suc level) vs) ≡ Some (value_of rest) → list_value (suc level) vs ≡ Some (value_of made)
    joins vs n h g =
        let more = le-ltb (length vs) (2 ^ suc level) (omega arith) in
        let block : tuple_value (take (2 ^ suc level) vs) ≡ value_of items = cc in
        let rest_is : list_value level (drop (2 ^ suc level) vs) ≡ Some (value_of rest) = rw same at g in
        rw (more, rest_is, block) (ap Some (sym is))
