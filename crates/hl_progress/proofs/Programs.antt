-- Functions and programs that are typed.
use Rattle.std.proofs.Common.{◌≡◌, ℕ, Bool, true, false, List, [], ◌∷◌, ◌++◌, map, find, bytes_eq, Some, Ok, refl, sym, ap, ◌∙◌, subst, IsTrue, append_assoc, append-nil}
use Rattle.std.specs.Prelude.{if◌then◌else◌}
use Rattle.hl_data.specs.declared.typed.TypedFunction.{TypedFunction}
use Rattle.hl_data.specs.declared.value.Entry.{Entry}
use Rattle.hl_data.specs.declared.value.HlValue.{HlValue}
use Rattle.hl_data.specs.declared.value.HlValue.TheViews.{out-HlValue}
use Rattle.hl_syntax.specs.declared.kinds.HlType.{HlType}
use Rattle.hl_syntax.specs.declared.kinds.HlType.TheOpen.{HlType-F}
use Rattle.hl_syntax.specs.declared.kinds.HlType.TheVariants as kind
use Rattle.hl_syntax.specs.declared.kinds.TypedName.{TypedName}
use Rattle.hl_syntax.specs.declared.tree.Item.{Item}
use Rattle.hl_meaning.specs.Mean.{Function, function_after, functions_after, functions_of, scope_of, parts_of, in_argument, mean, meaning}
use Rattle.hl_meaning.specs.Scopes as scopes
use Rattle.hl_meaning.specs.Scopes.{Binding}
use Rattle.hl_meaning.specs.Values.{beside}
use Rattle.hl_meaning.specs.Entries.{AreValued}
use Rattle.hl_rules.specs.Places.{is_main}
use Rattle.hl_rules.specs.Programs.{Checked, checked}
use Rattle.hl_typing.specs.Patterns.{Once}
use Rattle.hl_typing.specs.Programs.{witnesses_of, FunctionTyped, FunctionsTyped, no_function, one_function}
use Rattle.hl_typing.specs.Typing.{ExprAt}
use Rattle.hl_typing.proofs.Every.{every_of}
use Rattle.hl_typing.proofs.Programs.{answered_typed}
use Rattle.hl_progress.specs.Calls.{argument_type}
use Rattle.hl_meaning.specs.Entries.{IsValueOf}
use Rattle.hl_progress.specs.Held.{AreValuesOf, HasValue}
use Rattle.hl_progress.specs.Laws.{CheckedAnswers, TypedAnswers}
use Rattle.hl_progress.proofs.Answers.{shaped_then}
use Rattle.hl_progress.proofs.Bodies.{Setting, answers}
use Rattle.hl_progress.proofs.Called.{FunctionFits, FunctionsFit, found_fits}
use Rattle.hl_progress.proofs.Fits.{opened, tuple_of}
use Rattle.hl_progress.proofs.Scopes.{ScopeFits, HaveValues}

abbrev kinds_of : List TypedName → List HlType
kinds_of params = map (λ p. p.kind) params

-- Parameters as a scope.

params_bound : (params : List TypedName) (arguments : List HlValue) → AreValuesOf arguments (kinds_of params) → (values : scopes.Scope) × (scope_of params arguments ≡ Some values) × ScopeFits params values
params_bound [] [] h = ([], refl, tt)
params_bound [] (v ∷ arguments) h = absurd h
params_bound (p ∷ params) [] h = absurd h
params_bound (p ∷ params) (v ∷ arguments) h =
    let rest = params_bound params arguments h.1 in
    let first : scopes.Scope = record { name = p.name; value = v } ∷ [] in
    (first ++ rest.0, ap (beside (λ one more. one ++ more) (Some first)) rest.1, ((refl, h.0), rest.2))

-- Functions, each with those before it.

module _ (witness : List Binding) (witnesses : List TypedName) where
  zip_one : (fs : List TypedFunction) (gs : List Function) (f : TypedFunction) (g : Function) → FunctionsFit witness witnesses fs gs → FunctionFits witness witnesses f g → FunctionsFit witness witnesses (fs ++ f ∷ []) (gs ++ g ∷ [])
  zip_one [] [] f g h k = (k, tt)
  zip_one [] (x ∷ gs) f g h k = absurd h
  zip_one (x ∷ fs) [] f g h k = absurd h
  zip_one (x ∷ fs) (y ∷ gs) f g h k = (h.0, zip_one fs gs f g h.1 k)

  after_one : (before : List Function) (fs : List TypedFunction) (f : TypedFunction) → functions_after witness before (fs ++ f ∷ []) ≡ functions_after witness before fs ++ function_after witness (before ++ functions_after witness before fs) f ∷ []
  after_one before [] f = ap (λ b. function_after witness b f ∷ []) (sym (append-nil before))
  after_one before (x ∷ fs) f =
      let first : Function = function_after witness before x in
      ap (λ gs. first ∷ gs) (after_one (before ++ first ∷ []) fs f ∙ ap (λ b. functions_after witness (before ++ first ∷ []) fs ++ function_after witness b f ∷ []) (append_assoc before (first ∷ []) (functions_after witness (before ++ first ∷ []) fs)))

  -- the witnesses that a function may name have values
  may_name : (main : Bool) → (IsTrue main → HaveValues witness witnesses) → HaveValues witness (if main then witnesses else [])
  may_name true given = given refl
  may_name false given = tt

  function_fits : (before : List TypedFunction) (f : TypedFunction) → FunctionsFit witness witnesses before (functions_after witness [] before) → FunctionTyped witnesses before f →
      FunctionFits witness witnesses f (function_after witness (functions_after witness [] before) f)
  function_fits before f fit h = record {
    name = refl;
    params = refl;
    runs = λ given arguments are.
        let s : Setting = record {
          around = record { functions = before; witnesses = witnesses_of f.name witnesses };
          functions = functions_after witness [] before;
          witness = witness;
          witnesses = witnesses;
          fit = fit;
          have = may_name (is_main f.name) given;
        } in
        let bound = params_bound f.params arguments are in
        shaped_then (λ v. IsValueOf v f.result) (scope_of f.params arguments) bound.0 (mean s.functions witness f.body) bound.1 ((answers s (ExprAt f.params f.result f.body) h.body).1 bound.0 bound.2);
  }

  functions_fit : (fs : List TypedFunction) → FunctionsTyped witnesses fs → FunctionsFit witness witnesses fs (functions_after witness [] fs)
  functions_fit fs no_function = tt
  functions_fit fs (one_function before f h typed other main) =
      let fit = functions_fit before h in
      let gs : List Function = functions_after witness [] before in
      subst (FunctionsFit witness witnesses (before ++ f ∷ [])) (sym (after_one [] before f)) (zip_one before gs f (function_after witness gs f) fit (function_fits before f fit typed))

-- Calls.

-- the values of the parameters in an argument of their types
argument_parts : (params : List TypedName) (argument : HlValue) → IsValueOf argument (argument_type params) → (vs : List HlValue) × (parts_of params argument ≡ Some vs) × AreValuesOf vs (kinds_of params)
argument_parts (p ∷ []) argument h = (argument ∷ [], refl, (h, tt))
argument_parts [] argument h =
    let t = tuple_of (out-HlValue argument) [] (opened argument (kind.Tuple []) (HlType-F.Tuple []) (kind.outs-Tuple []) h) in (t.parts, ap in_argument t.is, t.fit)
argument_parts (p ∷ q ∷ params) argument h =
    let ks : List HlType = kinds_of (p ∷ q ∷ params) in
    let t = tuple_of (out-HlValue argument) ks (opened argument (kind.Tuple ks) (HlType-F.Tuple ks) (kind.outs-Tuple ks) h) in (t.parts, ap in_argument t.is, t.fit)

pub typed_answers : TypedAnswers
unfolding meaning functions_of
typed_answers program typed name argument witness call =
    let gs : List Function = functions_after witness [] program.functions in
    let fit = functions_fit witness program.witnesses program.functions typed.functions in
    let r = found_fits witness program.witnesses program.functions gs name call.function fit call.there in
    let parts = argument_parts call.function.params argument call.fits in
    let same : parts_of r.run.params argument ≡ Some parts.0 = ap (λ ps. parts_of ps argument) r.fits.params ∙ parts.1 in
    let given : IsTrue (is_main call.function.name) → HaveValues witness program.witnesses = λ main. every_of (HasValue witness) program.witnesses (call.given (ap is_main r.is ∙ main)) in
    shaped_then (λ v. IsValueOf v call.function.result) (find (λ g. bytes_eq name g.name) gs) r.run _ r.there
    (shaped_then (λ v. IsValueOf v call.function.result) (parts_of r.run.params argument) parts.0 r.run.run same (r.fits.runs given parts.0 parts.2))

pub checked_answers : CheckedAnswers
checked_answers source asked entries edition end program h valued = typed_answers program (answered_typed source asked entries edition end program valued h)

-- no witness of a program stands twice
pub witnesses_once : (source : List Item) (asked : List ℕ) (entries : List Entry) (edition end : ℕ) (program : Checked) → checked source asked entries edition end ≡ Ok program → AreValued entries → Once program.witnesses
witnesses_once source asked entries edition end program h valued = (answered_typed source asked entries edition end program valued h).once
