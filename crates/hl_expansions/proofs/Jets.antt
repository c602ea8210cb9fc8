-- The terms of jets do what the jets do: over arguments as numbers and their words, and over results as values.
use Rattle.std.proofs.Common.{◌≡◌, ℕ, zero, suc, ◌^◌, ◌<◌, ◌≤◌, Bool, true, false, not, ◌&&◌, nat_eq, nat_lt, nat_le, List, [], ◌∷◌, map, find, bytes_eq, cond, Option, Some, None, option_map, if◌then◌else◌, IsTrue, All, refl, sym, ap, ◌∙◌, subst, arith, ltb-true}
use Rattle.std.specs.List.{AllZip, list_all, flat_map}
use Rattle.std.proofs.lemmas.Bool.Decides.{nat_tests}
use Rattle.std.proofs.lemmas.List.Elements.{All-nil, All-cons, All-head, All-tail, All-append}
use Rattle.hl_data.specs.declared.value.HlValue.{HlValue}
use Rattle.hl_data.specs.declared.value.HlValue.TheOpen.{HlValue-F}
use Rattle.hl_data.specs.declared.value.HlValue.TheViews.{out-HlValue}
use Rattle.hl_syntax.specs.declared.kinds.HlType.{HlType}
use Rattle.hl_syntax.specs.declared.kinds.HlType.TheOpen.{HlType-F}
use Rattle.hl_syntax.specs.declared.kinds.HlType.TheVariants as kind
use Rattle.jets.specs.Formula.{numbers}
use Rattle.jets.specs.Jet as jet
use Rattle.jets.specs.Jet.{Jet, Kind, Truth, Number, Row, width_of, argument_kinds, result_kinds, is_jet, sizes, family, row_at, jets, rows}
use Rattle.simplicity.specs.Canon.{erased}
use Rattle.simplicity.specs.Terms.{meaning}
use Rattle.simplicity.specs.Tuples.{tuple_value, tuple_kind}
use Rattle.simplicity.specs.Types.{Value, bit_value, is_odd, word_value}
use Rattle.simplicity.specs.Widths.{level_of, word_of_width}
use Rattle.simplicityhl.specs.Kinds.{form}
use Rattle.hl_meaning.specs.Answer.{shaped}
use Rattle.hl_meaning.specs.Jets.{number_at, numbers_at, value_at, values_at, result_of, answer_at, row_answer, jet_answer}
use Rattle.hl_meaning.specs.Values.{encoded, at_each, beside, is_number_of}
use Rattle.hl_rules.specs.Exprs.{jet_named, jet_type, results_type, jet_arguments, jet_result}
use Rattle.hl_term_laws.specs.Renders.{Computes, RendersCall, JetsRendered}
use Rattle.hl_term_laws.proofs.Encoded.{form_at, layer_value, opened, some_same, BoolOf, OfBool, bool_of, enc_bool, enc_word, enc_tuple}
use Rattle.hl_jets.proofs.Bounds.{Fits, ResultFits, ResultsFit, jet_fits}
use Rattle.jet_terms.specs.Expansions.{jet_term}
use Rattle.jet_terms.specs.Laws.{values_of}
use Rattle.jet_terms.specs.Laws as words
use Rattle.jet_terms.proofs.AllLaws.{each_law}
use Rattle.jet_terms.proofs.AllTyped.{each_typed}
use Rattle.hl_expansions.specs.Expansions.{expansions, row_term}
use Rattle.hl_expansions.proofs.Encodings.{split, one_more}
use Rattle.hl_expansions.proofs.Truths.{IsTruth, TruthsFit, truths_fit}

list_is : {A : Type 0} (xs ys : List A) → Some xs ≡ Some ys → xs ≡ ys
list_is xs ys e = cc

second : (a b : Bool) → (a && b) ≡ true → b ≡ true
second true b e = e
second false b e = absurd (cc)

-- Types.

type_form : (k : Kind) → form (jet_type k) ≡ word_of_width (width_of k)
type_form Truth = form_at kind.Bool HlType-F.Bool kind.outs-Bool
type_form (Number n) = form_at (kind.UInt n) (HlType-F.UInt n) (kind.outs-UInt n)

types_form : (ks : List Kind) → map form (map jet_type ks) ≡ map (λ k. word_of_width (width_of k)) ks
types_form [] = refl
types_form (k ∷ ks) = ap (λ a. a ∷ map form (map jet_type ks)) (type_form k) ∙ ap (λ l. word_of_width (width_of k) ∷ l) (types_form ks)

results_form : (ls : List HlType) → form (results_type ls) ≡ tuple_kind (map form ls)
results_form (l ∷ []) = refl
results_form [] = form_at (kind.Tuple []) (HlType-F.Tuple []) (kind.outs-Tuple [])
results_form (l ∷ m ∷ ls) = form_at (kind.Tuple (l ∷ m ∷ ls)) (HlType-F.Tuple (l ∷ m ∷ ls)) (kind.outs-Tuple (l ∷ m ∷ ls))

-- Arguments.

record IsArgument (k : Kind) (w : HlValue-F HlValue) (c : Value) : Type 0 where
  number : ℕ
  is : number_at k w ≡ Some number
  fits : Fits number k
  word : word_value (level_of (width_of k)) number ≡ c

truth_argument : (w : HlValue-F HlValue) (c : Value) → BoolOf w c → IsArgument Truth w c
truth_argument _ _ (OfBool true) = record { number = 1; is = refl; fits = omega arith; word = refl }
truth_argument _ _ (OfBool false) = record { number = 0; is = refl; fits = omega arith; word = refl }

number_argument : (n : ℕ) (w : HlValue-F HlValue) (c : Value) → layer_value w (HlType-F.UInt n) ≡ Some c → IsArgument (Number n) w c
number_argument n (HlValue-F.Number u) c h = by_test (is_number_of n u) refl h
  where
    by_test : (b : Bool) → is_number_of n u ≡ b → (if b then Some (word_value (level_of n) u.number) else None) ≡ Some c → IsArgument (Number n) (HlValue-F.Number u) c
    by_test true e g = record {
      number = u.number;
      is = ap (λ b. if b then Some u.number else None) e;
      fits = ltb-true u.number (2 ^ n) (second (nat_eq u.width n) (nat_lt u.number (2 ^ n)) e);
      word = some_same (word_value (level_of n) u.number) c g;
    }
    by_test false e g = absurd (cc)
number_argument n _ c h = absurd (cc)

argument : (k : Kind) (v : HlValue) (c : Value) → encoded v (jet_type k) ≡ Some c → IsArgument k (out-HlValue v) c
argument Truth v c e = truth_argument (out-HlValue v) c (bool_of v kind.Bool c kind.outs-Bool e)
argument (Number n) v c e = number_argument n (out-HlValue v) c (opened v (kind.UInt n) (HlType-F.UInt n) c (kind.outs-UInt n) e)

record AreArguments (ks : List Kind) (vs : List HlValue) (cs : List Value) : Type 0 where
  found : List ℕ
  are : numbers_at ks vs ≡ Some found
  fit : AllZip Fits found ks
  below : words.AreNumbers ks found
  words_are : values_of ks found ≡ cs

arguments : (ks : List Kind) (vs : List HlValue) (cs : List Value) → at_each (map encoded vs) (map jet_type ks) ≡ Some cs → AreArguments ks vs cs
arguments [] [] cs e = record { found = []; are = refl; fit = tt; below = tt; words_are = list_is [] cs e }
arguments [] (v ∷ vs) cs e = absurd (cc)
arguments (k ∷ ks) [] cs e = absurd (cc)
arguments (k ∷ ks) (v ∷ vs) cs e =
    let s = split (encoded v (jet_type k)) (at_each (map encoded vs) (map jet_type ks)) cs e in
    let first = argument k v s.one s.one_is in
    let others = arguments ks vs s.more s.more_are in
    record {
      found = first.number ∷ others.found;
      are = ap (λ o. beside (λ n ns. n ∷ ns) o (numbers_at ks vs)) first.is ∙ ap (beside (λ n ns. n ∷ ns) (Some first.number)) others.are;
      fit = (first.fits, others.fit);
      below = (first.fits, others.below);
      words_are = ap (λ c. c ∷ values_of ks others.found) first.word ∙ ap (λ l. s.one ∷ l) others.words_are ∙ s.are;
    }

-- Results.

truth_is : (x : ℕ) → x < 2 → bit_value (not (nat_eq x 0)) ≡ bit_value (is_odd x)
truth_is zero few = refl
truth_is (suc zero) few = refl
truth_is (suc (suc x)) few = absurd (omega arith)

value_encodes : (k : Kind) (x : ℕ) → ResultFits x k → IsTruth x k → encoded (value_at k x) (jet_type k) ≡ Some (word_value (level_of (width_of k)) x)
value_encodes Truth x fits truth = enc_bool (not (nat_eq x 0)) kind.Bool kind.outs-Bool ∙ ap Some (truth_is x truth)
value_encodes (Number n) x fits truth = enc_word n x (kind.UInt n) (kind.outs-UInt n) fits

all_encode : (ks : List Kind) (xs : List ℕ) → AllZip ResultFits xs ks → AllZip IsTruth xs ks → at_each (map encoded (values_at ks xs)) (map jet_type ks) ≡ Some (values_of ks xs)
all_encode [] [] fit truth = refl
all_encode [] (x ∷ xs) fit truth = absurd fit
all_encode (k ∷ ks) [] fit truth = absurd fit
all_encode (k ∷ ks) (x ∷ xs) fit truth =
    one_more (value_at k x) (values_at ks xs) (jet_type k) (map jet_type ks) (word_value (level_of (width_of k)) x) (values_of ks xs) (value_encodes k x fit.0 truth.0) (all_encode ks xs fit.1 truth.1)

result_encodes : (ks : List Kind) (xs : List ℕ) → AllZip ResultFits xs ks → AllZip IsTruth xs ks →
    encoded (result_of (values_at ks xs)) (results_type (map jet_type ks)) ≡ Some (tuple_value (values_of ks xs))
result_encodes [] [] fit truth = enc_tuple [] (kind.Tuple []) [] [] (kind.outs-Tuple []) refl
result_encodes (k ∷ []) (x ∷ []) fit truth = value_encodes k x fit.0 truth.0
result_encodes (k ∷ l ∷ ks) (x ∷ y ∷ xs) fit truth =
    let js : List Kind = k ∷ l ∷ ks in
    let zs : List ℕ = x ∷ y ∷ xs in
    enc_tuple (values_at js zs) (kind.Tuple (map jet_type js)) (map jet_type js) (values_of js zs) (kind.outs-Tuple (map jet_type js)) (all_encode js zs fit truth)
result_encodes [] (x ∷ xs) fit truth = absurd fit
result_encodes (k ∷ ks) [] fit truth = absurd fit
result_encodes (k ∷ []) (x ∷ y ∷ xs) fit truth = absurd fit.1
result_encodes (k ∷ l ∷ ks) (x ∷ []) fit truth = absurd fit.1

answered : (ks : List Kind) (o : Option (List ℕ)) (d : Option Value) → ResultsFit ks o → TruthsFit ks o → d ≡ option_map (λ ys. tuple_value (values_of ks ys)) o →
    Computes (results_type (map jet_type ks)) (answer_at ks o) d
answered ks None d fit truth e = e
answered ks (Some ys) d fit truth e = record { core = tuple_value (values_of ks ys); encodes = result_encodes ks ys fit truth; is = e }

-- Rows.

abbrev RowRendered : Row → Type 0
RowRendered row = (w : List Value) → RendersCall w (jet_arguments row) (jet_result row) (λ vs. row_answer vs row) (row_term row)

module _ (j : Jet) (n m : ℕ) (is : IsTrue (is_jet j n m)) (some : 0 < n) (within : n ≤ m) where
  row_runs : (w : List Value) (vs : List HlValue) (cs : List Value) → at_each (map encoded vs) (map jet_type (argument_kinds j n m)) ≡ Some cs →
      Computes (results_type (map jet_type (result_kinds j n m))) (row_answer vs (row_at j (n, m))) (meaning (erased (jet_term j n m)) w (tuple_value cs))
  row_runs w vs cs e =
      let a = arguments (argument_kinds j n m) vs cs e in
      let k = results_type (map jet_type (result_kinds j n m)) in
      subst (λ o. Computes k (shaped o (λ ns. answer_at (result_kinds j n m) (numbers j n m ns))) (meaning (erased (jet_term j n m)) w (tuple_value cs))) (sym a.are)
      (answered (result_kinds j n m) (numbers j n m a.found) (meaning (erased (jet_term j n m)) w (tuple_value cs)) (jet_fits j n m some within a.found a.fit) (truths_fit j n m a.found a.fit)
      (ap (λ l. meaning (erased (jet_term j n m)) w (tuple_value l)) (sym a.words_are) ∙ each_law j n m is a.found w a.below))

  row_rendered : RowRendered (row_at j (n, m))
  row_rendered w =
      let typed = each_typed j n m is in
      record {
        from = typed.from ∙ ap tuple_kind (sym (types_form (argument_kinds j n m)));
        to = typed.to ∙ ap tuple_kind (sym (types_form (result_kinds j n m))) ∙ sym (results_form (map jet_type (result_kinds j n m)));
        typed = typed.typed;
        runs = row_runs w;
      }

-- the lesser width isn't 0, and is at most the greater, and there is such a jet
abbrev is_size : Jet → ℕ × ℕ → Bool
is_size j s = (nat_lt 0 s.0 && nat_le s.0 s.1) && is_jet j s.0 s.1

both : (a b : Bool) → (a && b) ≡ true → (a ≡ true) × (b ≡ true)
both true b h = (refl, h)
both false b h = absurd (cc)

size_rendered : (j : Jet) (s : ℕ × ℕ) → is_size j s ≡ true → RowRendered (row_at j s)
size_rendered j s h =
    let p = both (nat_lt 0 s.0 && nat_le s.0 s.1) (is_jet j s.0 s.1) h in
    let q = both (nat_lt 0 s.0) (nat_le s.0 s.1) p.0 in
    row_rendered j s.0 s.1 p.1 (grind (arith, nat_tests, q.0)) (grind (arith, nat_tests, q.1))

sizes_rendered : (j : Jet) (ss : List (ℕ × ℕ)) → list_all (is_size j) ss ≡ true → All RowRendered (map (row_at j) ss)
sizes_rendered j [] h = All-nil RowRendered
sizes_rendered j (s ∷ ss) h =
    let p = both (is_size j s) (list_all (is_size j) ss) h in
    All-cons RowRendered (row_at j s) (map (row_at j) ss) (size_rendered j s p.0) (sizes_rendered j ss p.1)

sizes_are : (j : Jet) → list_all (is_size j) (sizes j) ≡ true
sizes_are jet.Add = refl
sizes_are jet.All = refl
sizes_are jet.And = refl
sizes_are jet.Ch = refl
sizes_are jet.Complement = refl
sizes_are jet.Decrement = refl
sizes_are jet.DivMod = refl
sizes_are jet.Divide = refl
sizes_are jet.Divides = refl
sizes_are jet.Eq = refl
sizes_are jet.FullAdd = refl
sizes_are jet.FullDecrement = refl
sizes_are jet.FullIncrement = refl
sizes_are jet.FullMultiply = refl
sizes_are jet.FullSubtract = refl
sizes_are jet.High = refl
sizes_are jet.Increment = refl
sizes_are jet.IsOne = refl
sizes_are jet.IsZero = refl
sizes_are jet.Le = refl
sizes_are jet.LeftExtend = refl
sizes_are jet.LeftPadHigh = refl
sizes_are jet.LeftPadLow = refl
sizes_are jet.LeftRotate = refl
sizes_are jet.LeftShift = refl
sizes_are jet.LeftShiftWith = refl
sizes_are jet.Leftmost = refl
sizes_are jet.Low = refl
sizes_are jet.Lt = refl
sizes_are jet.Maj = refl
sizes_are jet.Max = refl
sizes_are jet.Median = refl
sizes_are jet.Min = refl
sizes_are jet.Modulo = refl
sizes_are jet.Multiply = refl
sizes_are jet.Negate = refl
sizes_are jet.Or = refl
sizes_are jet.RightExtend = refl
sizes_are jet.RightPadHigh = refl
sizes_are jet.RightPadLow = refl
sizes_are jet.RightRotate = refl
sizes_are jet.RightShift = refl
sizes_are jet.RightShiftWith = refl
sizes_are jet.Rightmost = refl
sizes_are jet.Some = refl
sizes_are jet.Subtract = refl
sizes_are jet.Verify = refl
sizes_are jet.Xor = refl
sizes_are jet.XorXor = refl

families_rendered : (js : List Jet) → All RowRendered (flat_map family js)
families_rendered [] = All-nil RowRendered
families_rendered (j ∷ js) = All-append RowRendered (family j) (flat_map family js) (sizes_rendered j (sizes j) (sizes_are j)) (families_rendered js)

-- what is found in a list holds what all of it holds
found_holds : {A : Type 0} (P : A → Type 0) (test : A → Bool) (xs : List A) (x : A) → All P xs → find test xs ≡ Some x → P x
found_holds P test [] x all h = absurd (cc)
found_holds {A} P test (y ∷ ys) x all h = of_test (test y) (λ e. found_holds P test ys x (All-tail P y ys all) e) h
  where
    of_test : (b : Bool) → (find test ys ≡ Some x → P x) → cond b (Some y) (find test ys) ≡ Some x → P x
    of_test true later e = let same : y ≡ x = cc in rw (← same) (All-head P y ys all)
    of_test false later e = later e

pub jets_rendered : JetsRendered expansions
unfolding expansions jet_answer jet_named
jets_rendered w word row found =
    let r = found_holds RowRendered (λ row. bytes_eq word row.name) rows row (families_rendered jets) found w in
    record {
      term = row_term row;
      is = ap (option_map row_term) found;
      renders = record {
        from = r.from;
        to = r.to;
        typed = r.typed;
        runs = λ vs cs e.
            subst (λ o. Computes (jet_result row) (shaped o (row_answer vs)) (meaning (erased (row_term row)) w (tuple_value cs))) (sym found) (r.runs vs cs e);
      };
    }
