-- The arguments of a jet as numbers, and its results as values.
use Rattle.std.proofs.Common.{◌≡◌, ℕ, ◌^◌, Bool, true, false, not, ◌&&◌, nat_eq, nat_lt, List, [], ◌∷◌, map, Option, Some, None, option_map, IsSome, refl, sym, ap, ◌∙◌, arith, eq-eqb, lt-ltb, ltb-true}
use Rattle.std.specs.List.{AllZip}
use Rattle.hl_data.specs.declared.value.HlValue.{HlValue, map-HlValue, roll-HlValue}
use Rattle.hl_data.specs.declared.value.HlValue.TheOpen.{HlValue-F}
use Rattle.hl_data.specs.declared.value.HlValue.TheViews.{out-HlValue, out-roll-HlValue}
use Rattle.hl_data.specs.declared.value.HlValue.TheFolds.{fold_out-HlValue}
use Rattle.hl_data.specs.declared.value.HlValue.TheVariants as value
use Rattle.hl_syntax.specs.declared.kinds.HlType.{HlType}
use Rattle.hl_syntax.specs.declared.kinds.HlType.TheOpen.{HlType-F}
use Rattle.hl_syntax.specs.declared.kinds.HlType.TheViews.{roll-HlType, out-roll-HlType}
use Rattle.hl_syntax.specs.declared.kinds.HlType.TheVariants as kind
use Rattle.jets.specs.Unsigned.{Unsigned}
use Rattle.jets.specs.Jet.{Kind, Truth, Number, Row}
use Rattle.jets.specs.Formula.{numbers}
use Rattle.hl_meaning.specs.Jets.{number_at, numbers_at, value_at, values_at, result_of, answer_at, row_answer}
use Rattle.hl_meaning.specs.Values.{Encoding, encoded, encode_step, encode_at, at_each, is_number_of, beside}
use Rattle.hl_rules.specs.Exprs.{jet_type, results_type, jet_arguments, jet_result}
use Rattle.simplicity.specs.Tuples.{tuple_value}
use Rattle.simplicity.specs.Types.{Value}
use Rattle.hl_jets.specs.Held.{AreValuesOf, HasAnswer}
use Rattle.hl_jets.proofs.Bounds.{Fits, ResultFits, ResultsFit}

-- one layer of a value at one layer of a type
abbrev layer : HlValue-F HlValue → HlType-F HlType → Option Value
layer w x = encode_at (map-HlValue HlValue Encoding encoded w) x

encoded_layer : (v : HlValue) (x : HlType-F HlType) → encoded v (roll-HlType x) ≡ layer (out-HlValue v) x
encoded_layer v x =
    ap (λ f. f (roll-HlType x)) (fold_out-HlValue Encoding encode_step v) ∙ ap (encode_at (map-HlValue HlValue Encoding encoded (out-HlValue v))) (out-roll-HlType x)

encoded_at : (w : HlValue-F HlValue) (x : HlType-F HlType) (v : HlValue) (k : HlType) → roll-HlValue w ≡ v → roll-HlType x ≡ k → encoded v k ≡ layer w x
encoded_at w x v k v_is k_is =
    ap (λ v. encoded v k) (sym v_is) ∙ ap (encoded (roll-HlValue w)) (sym k_is) ∙ encoded_layer (roll-HlValue w) x ∙ ap (λ w. layer w x) (out-roll-HlValue w)

-- Arguments.

-- an argument is a number that fits
record IsNumber (k : Kind) (w : HlValue-F HlValue) : Type 0 where
  number : ℕ
  is : number_at k w ≡ Some number
  fits : Fits number k

truth_layer : (w : HlValue-F HlValue) → IsSome (layer w HlType-F.Bool) → IsNumber Truth w
truth_layer (HlValue-F.Bool true) h = record { number = 1; is = refl; fits = omega arith }
truth_layer (HlValue-F.Bool false) h = record { number = 0; is = refl; fits = omega arith }
truth_layer _ h = absurd (cc)

number_layer : (n : ℕ) (w : HlValue-F HlValue) → IsSome (layer w (HlType-F.UInt n)) → IsNumber (Number n) w
number_layer n (HlValue-F.Number u) h = of_test (is_number_of n u) refl
  where
    second : (a b : Bool) → (a && b) ≡ true → b ≡ true
    second true b e = e
    second false b e = absurd (cc)

    of_test : (b : Bool) → is_number_of n u ≡ b → IsNumber (Number n) (HlValue-F.Number u)
    of_test true e = record { number = u.number; is = rw e refl; fits = ltb-true _ _ (second (nat_eq u.width n) (nat_lt u.number (2 ^ n)) e) }
    of_test false e = let none = rw e at h in absurd (cc)
number_layer n _ h = absurd (cc)

argument_number : (k : Kind) (v : HlValue) → IsSome (encoded v (jet_type k)) → IsNumber k (out-HlValue v)
argument_number Truth v h =
    truth_layer (out-HlValue v) (rw (sym (encoded_layer v HlType-F.Bool), kind.rolls-Bool) h)
argument_number (Number n) v h =
    number_layer n (out-HlValue v) (rw (sym (encoded_layer v (HlType-F.UInt n)), kind.rolls-UInt n) h)

record AreNumbers (kinds : List Kind) (vs : List HlValue) : Type 0 where
  found : List ℕ
  are : numbers_at kinds vs ≡ Some found
  fit : AllZip Fits found kinds

argument_numbers : (kinds : List Kind) (vs : List HlValue) → AreValuesOf vs (map jet_type kinds) → AreNumbers kinds vs
argument_numbers [] [] h = record { found = []; are = refl; fit = tt }
argument_numbers [] (v ∷ vs) h = absurd h
argument_numbers (k ∷ kinds) [] h = absurd h
argument_numbers (k ∷ kinds) (v ∷ vs) h =
    let first = argument_number k v h.0 in
    let others = argument_numbers kinds vs h.1 in
    record { found = first.number ∷ others.found; are = rw (first.is, others.are) refl; fit = (first.fits, others.fit) }

-- Results.

value_there : (k : Kind) (x : ℕ) → ResultFits x k → IsSome (encoded (value_at k x) (jet_type k))
value_there Truth x fits =
    let b = not (nat_eq x 0) in
    rw (encoded_at (HlValue-F.Bool b) HlType-F.Bool (value.Bool b) kind.Bool (value.rolls-Bool b) kind.rolls-Bool) refl
value_there (Number n) x fits =
    let u : Unsigned = record { width = n; number = x } in
    rw (encoded_at (HlValue-F.Number u) (HlType-F.UInt n) (value.Number u) (kind.UInt n) (value.rolls-Number u) (kind.rolls-UInt n), eq-eqb n n refl, lt-ltb x (2 ^ n) fits) refl

values_there : (kinds : List Kind) (xs : List ℕ) → AllZip ResultFits xs kinds → AreValuesOf (values_at kinds xs) (map jet_type kinds)
values_there [] [] fit = tt
values_there [] (x ∷ xs) fit = absurd fit
values_there (k ∷ kinds) [] fit = absurd fit
values_there (k ∷ kinds) (x ∷ xs) fit = (value_there k x fit.0, values_there kinds xs fit.1)

-- what is beside something is there with it
both_there : {A B C : Type 0} (join : A → B → C) (a : Option A) (b : Option B) → IsSome a → IsSome b → IsSome (beside join a b)
both_there join (Some a) (Some b) h g = refl
both_there join (Some a) None h g = absurd (cc)
both_there join None b h g = absurd (cc)

each_there : (vs : List HlValue) (ks : List HlType) → AreValuesOf vs ks → IsSome (at_each (map encoded vs) ks)
each_there [] [] h = refl
each_there [] (k ∷ ks) h = absurd h
each_there (v ∷ vs) [] h = absurd h
each_there (v ∷ vs) (k ∷ ks) h = both_there (λ c cs. c ∷ cs) (encoded v k) (at_each (map encoded vs) ks) h.0 (each_there vs ks h.1)

tuple_there : (vs : List HlValue) (ks : List HlType) → AreValuesOf vs ks → IsSome (encoded (value.Tuple vs) (kind.Tuple ks))
tuple_there vs ks h =
    rw (encoded_at (HlValue-F.Tuple vs) (HlType-F.Tuple ks) (value.Tuple vs) (kind.Tuple ks) (value.rolls-Tuple vs) (kind.rolls-Tuple ks))
    (mapped tuple_value (at_each (map encoded vs) ks) (each_there vs ks h))
  where
    mapped : {A B : Type 0} (f : A → B) (o : Option A) → IsSome o → IsSome (option_map f o)
    mapped f (Some x) h = refl
    mapped f None h = absurd (cc)

result_there : (vs : List HlValue) (ks : List HlType) → AreValuesOf vs ks → IsSome (encoded (result_of vs) (results_type ks))
result_there [] [] h = tuple_there [] [] h
result_there (v ∷ []) (k ∷ []) h = h.0
result_there (v ∷ u ∷ vs) (k ∷ l ∷ ks) h = tuple_there (v ∷ u ∷ vs) (k ∷ l ∷ ks) h
result_there [] (k ∷ ks) h = absurd h
result_there (v ∷ vs) [] h = absurd h
result_there (v ∷ []) (k ∷ l ∷ ks) h = absurd h.1
result_there (v ∷ u ∷ vs) (k ∷ []) h = absurd h.1

-- A row.

-- what a row's jet gives fits its results' types
abbrev pub IsSoundRow : Row → Type 0
IsSoundRow row = (xs : List ℕ) → AllZip Fits xs row.arguments → ResultsFit row.results (numbers row.jet row.narrow row.wide xs)

answer_there : (kinds : List Kind) (o : Option (List ℕ)) → ResultsFit kinds o → HasAnswer (results_type (map jet_type kinds)) (answer_at kinds o)
answer_there kinds None fit = tt
answer_there kinds (Some xs) fit = result_there (values_at kinds xs) (map jet_type kinds) (values_there kinds xs fit)

pub row_answers : (row : Row) → IsSoundRow row → (vs : List HlValue) → AreValuesOf vs (jet_arguments row) → HasAnswer (jet_result row) (row_answer vs row)
row_answers row sound vs h =
    let a = argument_numbers row.arguments vs h in
    rw a.are (answer_there row.results (numbers row.jet row.narrow row.wide a.found) (sound a.found a.fit))
