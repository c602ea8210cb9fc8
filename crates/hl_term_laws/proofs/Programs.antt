-- The terms of the functions of a typed program render what these mean, in both editions.
use Rattle.std.proofs.Common.{◌≡◌, ℕ, suc, ◌+◌, Bool, true, false, ◌&&◌, not, nat_eq, cond, List, [], ◌∷◌, ◌++◌, length, map, find, bytes_eq, Option, Some, None, option_map, refl, sym, ap, ◌∙◌, subst, arith, append_assoc, append-nil}
use Rattle.std.specs.Prelude.{if◌then◌else◌, slice_get}
use Rattle.std.proofs.lemmas.Slice.Eq.{bytes_eq-Decides}
use Rattle.hl_data.specs.declared.typed.TypedFunction.{TypedFunction}
use Rattle.hl_data.specs.declared.value.HlValue.{HlValue}
use Rattle.hl_syntax.specs.declared.kinds.HlType.{HlType}
use Rattle.hl_syntax.specs.declared.kinds.TypedName.{TypedName}
use Rattle.simplicity.proofs.Arrows.{typed_comp, typed_pair}
use Rattle.simplicity.specs.Arrows as row
use Rattle.simplicity.specs.Arrows.{source, target, IsTypedTerm}
use Rattle.simplicity.specs.Canon.{Declared, erased}
use Rattle.simplicity.specs.Makes.{iden, pair, witness}
use Rattle.simplicity.specs.Terms as bare
use Rattle.simplicity.specs.Terms.{meaning, paired}
use Rattle.simplicity.specs.Tuples.{tuple_value}
use Rattle.simplicity.specs.Types.{Kind, Product, Value, Pair}
use Rattle.simplicityhl.specs.Kinds.{form}
use Rattle.hl_meaning.specs.Answer.{shaped, known}
use Rattle.hl_meaning.specs.Mean as means
use Rattle.hl_meaning.specs.Mean.{Function, Meaning, mean, scope_of, function_after, functions_of}
use Rattle.hl_meaning.specs.Scopes.{Binding, meant}
use Rattle.hl_meaning.specs.Values.{encoded, at_each}
use Rattle.hl_rules.specs.Exprs.{param_types}
use Rattle.hl_rules.specs.Places.{is_main, variable_type}
use Rattle.hl_typing.specs.Programs as programs
use Rattle.hl_typing.specs.Programs.{FunctionTyped, FunctionsTyped, no_function, one_function}
use Rattle.hl_typing.specs.Typing.{Around, Typed, ExprAt}
use Rattle.hl_terms.specs.Paths.{witness_term}
use Rattle.hl_terms.specs.Programs as made
use Rattle.hl_terms.specs.Programs.{plain_term, bound_term, witness_leaves, witness_tuple, binds_witnesses, function_body, function_term, program_terms}
use Rattle.hl_terms.specs.Shapes.{Shape, Witness, Both, kind_of, variables_of, witnesses_of, params_shape, witnesses_shape}
use Rattle.hl_terms.specs.Translated.{Expansions, FunctionTerm, translated, witness_or, witness_number}
use Rattle.hl_term_laws.specs.Laws.{AllRendered, binds_all, binds_none, ExpressionsRender, FunctionsRender}
use Rattle.hl_term_laws.specs.Renders.{Computes, ScopedWitness, ScopedBoth, Renders, RendersFunction, IsGiven, AreGiven, JetsRendered, LoopsRendered, Recodes}
use Rattle.hl_term_laws.proofs.Bodies.{Setting, Over, renders}
use Rattle.hl_term_laws.proofs.Called.{called}
use Rattle.hl_term_laws.proofs.Givens.{holds_at, not_given}
use Rattle.hl_term_laws.proofs.Parts.{Pieces, tuple_right, answer_tuple, all_some, tuple_meaning}
use Rattle.hl_term_laws.proofs.Patterns.{Laids, together, params_scoped}
use Rattle.hl_term_laws.proofs.Tuples.{params_hold, witnesses_hold}

-- Witnesses.

abbrev Leaf : List TypedName → List TypedName → List Binding → List Value → List TypedName → Type 0
Leaf named witnesses given w bound =
    (word : List ℕ) (k : HlType) (shape : Shape) → witnesses_of shape ≡ bound → variable_type named word ≡ Some k →
    Renders named given w shape k (λ values. known (meant word given)) (witness_or (witness_term word shape) (witness (kind_of shape) (form k) (witness_number witnesses word)))

-- the value of a name among the witnesses, whose encoding stands at its number
record Told (ts : List TypedName) (given : List Binding) (w : List Value) (word : List ℕ) (k : HlType) : Type 0 where
  value : HlValue
  is : meant word given ≡ Some value
  core : Value
  encodes : encoded value k ≡ Some core
  there : slice_get w (witness_number ts word) ≡ Some core

one_more : (n : ℕ) → 1 + n ≡ suc n
one_more n = omega arith

told_more : (t : TypedName) (ts : List TypedName) (given : List Binding) (c : Value) (w : List Value) (word : List ℕ) (k : HlType) (b : Bool) → bytes_eq word t.name ≡ b → IsGiven given t c →
    (variable_type ts word ≡ Some k → Told ts given w word k) → option_map (λ (n : TypedName). n.kind) (cond b (Some t) (find (λ n. bytes_eq word n.name) ts)) ≡ Some k → Told (t ∷ ts) given (c ∷ w) word k
told_more t ts given c w word k true here first rest found =
    let same : t.kind ≡ k = cc in
    let name : word ≡ t.name = (bytes_eq-Decides word t.name).0 here in
    record {
      value = first.value;
      is = ap (λ n. meant n given) name ∙ first.is;
      core = c;
      encodes = ap (encoded first.value) (sym same) ∙ first.encodes;
      there = ap (λ b. slice_get (c ∷ w) (cond (not b) (1 + witness_number ts word) 0)) here;
    }
told_more t ts given c w word k false past first rest found =
    let r = rest found in
    record { value = r.value; is = r.is; core = r.core; encodes = r.encodes; there = ap (λ b. slice_get (c ∷ w) (cond (not b) (1 + witness_number ts word) 0)) past ∙ ap (slice_get (c ∷ w)) (one_more (witness_number ts word)) ∙ r.there }

told_at : (ts : List TypedName) (given : List Binding) (w : List Value) (word : List ℕ) (k : HlType) → AreGiven ts given w → variable_type ts word ≡ Some k → Told ts given w word k
told_at [] given w word k h found = absurd (cc)
told_at (t ∷ ts) given [] word k h found = absurd h
told_at (t ∷ ts) given (c ∷ w) word k h found = told_more t ts given c w word k (bytes_eq word t.name) refl h.0 (told_at ts given w word k h.1) found

-- where none is bound each is the leaf of its number
leaf_of_number : (witnesses : List TypedName) (given : List Binding) (w : List Value) → Leaf witnesses witnesses given w []
leaf_of_number witnesses given w word k shape bare found =
    let leaf = witness (kind_of shape) (form k) (witness_number witnesses word) in
    let free : witness_term word shape ≡ None = not_given given w word shape (ap (λ l. variable_type l word) bare) in
    subst (Renders witnesses given w shape k (λ values. known (meant word given))) (sym (ap (λ o. witness_or o leaf) free)) (record {
      from = refl;
      to = refl;
      typed = row.Witness (witness_number witnesses word) (kind_of shape) (form k);
      computes = λ told values c s.
          let t = told_at witnesses given w word k told found in
          subst (λ o. Computes k (known o) (meaning (erased leaf) w c)) (sym t.is) (record { core = t.core; encodes = t.encodes; is = t.there });
    })

-- where they are bound each is the path to it
leaf_of_path : (witnesses : List TypedName) (given : List Binding) (w : List Value) → Leaf witnesses witnesses given w witnesses
leaf_of_path witnesses given w word k shape all found =
    let leaf = witness (kind_of shape) (form k) (witness_number witnesses word) in
    let l = holds_at given w word shape k (ap (λ l. variable_type l word) all ∙ found) in
    subst (Renders witnesses given w shape k (λ values. known (meant word given))) (sym (ap (λ o. witness_or o leaf) l.is)) (record {
      from = l.from;
      to = l.to;
      typed = l.typed;
      computes = λ told values c s.
          let f = l.leads values c s in
          subst (λ o. Computes k (known o) (meaning (erased l.term) w c)) (sym f.is) (record { core = f.core; encodes = f.encodes; is = f.leads });
    })

-- where none may be named nothing is owed
no_leaf : (witnesses : List TypedName) (given : List Binding) (w : List Value) → Leaf [] witnesses given w []
no_leaf witnesses given w word k shape bare found = absurd (cc)

-- The tuple of the witnesses.

module _ (given : List Binding) (w : List Value) where
  -- each of the witnesses from a number up
  abbrev From : ℕ → List TypedName → List Value → Type 0
  From n [] cs = cs ≡ []
  From n (t ∷ ts) [] = ⊥
  From n (t ∷ ts) (c ∷ cs) = IsGiven given t c × (slice_get w n ≡ Some c) × From (suc n) ts cs

  laids : (n : ℕ) (ts : List TypedName) (cs : List Value) → From n ts cs → Laids given (map (λ (t : TypedName). Witness t.name t.kind) ts) [] cs
  laids n [] cs h = record { parts = []; shapes_are = refl; names_are = refl; cores_are = sym h }
  laids n (t ∷ ts) [] h = absurd h
  laids n (t ∷ ts) (c ∷ cs) h =
      let rest = laids (suc n) ts cs h.2 in
      record {
        parts = record { shape = Witness t.name t.kind; names = []; core = c; laid = ScopedWitness t.name t.kind h.0.value c h.0.is h.0.encodes } ∷ rest.parts;
        shapes_are = ap (λ l. Witness t.name t.kind ∷ l) rest.shapes_are;
        names_are = rest.names_are;
        cores_are = ap (λ l. c ∷ l) rest.cores_are;
      }

  answers : (a : Kind) (u : Value) (n : ℕ) (ts : List TypedName) (cs : List Value) → From n ts cs → map (λ t. meaning (erased t) w u) (witness_leaves a n ts) ≡ map Some cs
  answers a u n [] cs h = ap (map Some) (sym h)
  answers a u n (t ∷ ts) [] h = absurd h
  answers a u n (t ∷ ts) (c ∷ cs) h = ap (λ o. o ∷ map (λ t. meaning (erased t) w u) (witness_leaves a (suc n) ts)) h.1 ∙ ap (λ l. Some c ∷ l) (answers a u (suc n) ts cs h.2)

pieces : (a : Kind) (n : ℕ) (ts : List TypedName) → Pieces a (witness_leaves a n ts) (map form (map (λ (t : TypedName). t.kind) ts))
pieces a n [] = record { pieces = []; terms = refl; kinds = refl }
pieces a n (t ∷ ts) =
    let rest = pieces a (suc n) ts in
    record {
      pieces = record { term = witness a (form t.kind) n; kind = form t.kind; from = refl; to = refl; typed = row.Witness n a (form t.kind) } ∷ rest.pieces;
      terms = ap (λ l. witness a (form t.kind) n ∷ l) rest.terms;
      kinds = ap (λ l. form t.kind ∷ l) rest.kinds;
    }

-- the core values of the witnesses are the first of all
record Firsts (given : List Binding) (w : List Value) (n : ℕ) (ts : List TypedName) : Type 0 where
  cores : List Value
  are : From given w n ts cores

at_place : (front : List Value) (c : Value) (w : List Value) → slice_get (front ++ c ∷ w) (length front) ≡ Some c
at_place [] c w = refl
at_place (x ∷ front) c w = at_place front c w

firsts : (given : List Binding) (front w : List Value) (ts : List TypedName) → AreGiven ts given w → Firsts given (front ++ w) (length front) ts
firsts given front w [] h = record { cores = []; are = refl }
firsts given front [] (t ∷ ts) h = absurd h
firsts given front (c ∷ w) (t ∷ ts) h =
    let rest = firsts given (front ++ c ∷ []) w ts h.1 in
    let all : (front ++ c ∷ []) ++ w ≡ front ++ c ∷ w = append_assoc front (c ∷ []) w in
    let long : length (front ++ c ∷ []) ≡ suc (length front) = longer front c in
    let there = subst (λ l. From given l (length (front ++ c ∷ [])) ts rest.cores) all rest.are in
    record { cores = c ∷ rest.cores; are = (h.0, at_place front c w, subst (λ n. From given (front ++ c ∷ w) n ts rest.cores) long there) }
  where
    longer : (front : List Value) (c : Value) → length (front ++ c ∷ []) ≡ suc (length front)
    longer [] c = refl
    longer (x ∷ front) c = ap suc (longer front c)

-- Functions.

module _ (x : Expansions) (edition : ℕ) (witnesses : List TypedName) (given : List Binding) (w : List Value) (jets : JetsRendered x) (loops : LoopsRendered x) (recodes : Recodes) where
  abbrev setting : (around : Around) (bound : List TypedName) (gs : List Function) (ts : List FunctionTerm) → AllRendered witnesses given w around.functions gs ts → Leaf around.witnesses witnesses given w bound → Setting
  setting around bound gs ts all leaf = record {
    expansions = x;
    around = around;
    functions = gs;
    terms = ts;
    witnesses = witnesses;
    bound = bound;
    given = given;
    w = w;
    jets = jets;
    loops = loops;
    recodes = recodes;
    calls = called witnesses given w around gs ts all;
    leaf = leaf;
  }

  module _ (fs : List TypedFunction) (gs : List Function) (ts : List FunctionTerm) (all : AllRendered witnesses given w fs gs ts) (f : TypedFunction) where
    abbrev shape : Shape
    shape = params_shape f.params

    abbrev within : List TypedName → Around
    within named = record { functions = fs; witnesses = named }

    abbrev Done : List TypedName → Declared → Type 0
    Done named t = RendersFunction named given w f (function_after given gs f) (record { name = f.name; params = f.params; term = t })

    plain_run : (t : Declared) (named : List TypedName) (vs : List HlValue) (cs : List Value) (o : Option (List Binding)) → scope_of f.params vs ≡ o → at_each (map encoded vs) (param_types f) ≡ Some cs →
        Renders named given w shape f.result (mean gs given f.body) t → AreGiven named given w → Computes f.result (shaped o (mean gs given f.body)) (meaning (erased t) w (tuple_value cs))
    plain_run t named vs cs (Some bs) is e r told = r.computes told bs (tuple_value cs) (params_scoped given f.params vs bs cs is e)
    plain_run t named vs cs None is e r told = tt

    plain_rendered : (named : List TypedName) → Leaf named witnesses given w [] → Typed (within named) (ExprAt f.params f.result f.body) → Done named (plain_term x witnesses ts f)
    plain_rendered named leaf typed =
        let s = setting (within named) [] gs ts all leaf in
        let h = params_hold f.params in
        let r = (renders s (ExprAt f.params f.result f.body) typed).1 shape (record { names = h.names_are; bare = h.witnesses_are }) in
        record {
          meant_name = refl;
          meant_params = refl;
          made_name = refl;
          made_params = refl;
          from = r.from ∙ h.kind_is;
          to = r.to;
          typed = r.typed;
          runs = λ told vs cs e. plain_run (plain_term x witnesses ts f) named vs cs (scope_of f.params vs) refl e r told;
        }

    abbrev whole : Shape
    whole = Both (witnesses_shape witnesses) shape

    bound_run : (t : Declared) (first : List Value) (vs : List HlValue) (cs : List Value) (o : Option (List Binding)) → From given w 0 witnesses first → scope_of f.params vs ≡ o → at_each (map encoded vs) (param_types f) ≡ Some cs →
        Renders witnesses given w whole f.result (mean gs given f.body) t → AreGiven witnesses given w → Computes f.result (shaped o (mean gs given f.body)) (meaning (erased t) w (Pair (tuple_value first) (tuple_value cs)))
    bound_run t first vs cs (Some bs) are is e r told =
        r.computes told bs (Pair (tuple_value first) (tuple_value cs))
        (ScopedBoth (witnesses_shape witnesses) shape [] bs bs (tuple_value first) (tuple_value cs)
        (together given (map (λ (t : TypedName). Witness t.name t.kind) witnesses) [] first (laids given w 0 witnesses first are)) (params_scoped given f.params vs bs cs is e) refl)
    bound_run t first vs cs None are is e r told = tt

    bound_rendered : Typed (within witnesses) (ExprAt f.params f.result f.body) → Done witnesses (bound_term x witnesses ts f)
    bound_rendered typed =
        let s = setting (within witnesses) witnesses gs ts all (leaf_of_path witnesses given w) in
        let h = params_hold f.params in
        let i = witnesses_hold witnesses in
        let a = kind_of shape in
        let over : Over s f.params whole = record {
          names = ap (λ l. l ++ variables_of shape) i.names_are ∙ h.names_are;
          bare = ap (λ l. l ++ witnesses_of shape) i.witnesses_are ∙ ap (λ l. witnesses ++ l) h.witnesses_are ∙ append-nil witnesses;
        } in
        let t = translated x ts witnesses f.body whole in
        let r = (renders s (ExprAt f.params f.result f.body) typed).1 whole over in
        let p = tuple_right a (witness_leaves a 0 witnesses) (map form (map (λ (t : TypedName). t.kind) witnesses)) (pieces a 0 witnesses) in
        let ws = witness_tuple a witnesses in
        record {
          meant_name = refl;
          meant_params = refl;
          made_name = refl;
          made_params = refl;
          from = p.from ∙ h.kind_is;
          to = r.to;
          typed = typed_comp (pair ws (iden a)) t (typed_pair ws (iden a) p.typed (row.Iden a) (sym p.from)) r.typed (ap (λ k. Product k a) (p.to ∙ sym i.kind_is) ∙ sym r.from);
          runs = λ told vs cs e.
              let first = firsts given [] w witnesses told in
              let is : meaning (erased ws) w (tuple_value cs) ≡ Some (tuple_value first.cores) =
              tuple_meaning a w (tuple_value cs) (witness_leaves a 0 witnesses) ∙ ap answer_tuple (answers given w a (tuple_value cs) 0 witnesses first.cores first.are) ∙ all_some first.cores in
              subst (λ o. Computes f.result (shaped (scope_of f.params vs) (mean gs given f.body)) (bare.and_then (paired o (Some (tuple_value cs))) (meaning (erased t) w))) (sym is)
              (bound_run t first.cores vs cs (scope_of f.params vs) first.are refl e r told);
        }

    binds_main : (two some : Bool) → two && (false && some) ≡ true → ⊥
    binds_main true some h = absurd (cc)
    binds_main false some h = absurd (cc)

    by_edition : (main binds : Bool) → is_main f.name ≡ main → binds_witnesses edition witnesses f ≡ binds → Typed (within (if main then witnesses else [])) (ExprAt f.params f.result f.body) →
        Done (if main then witnesses else []) (if binds then bound_term x witnesses ts f else plain_term x witnesses ts f)
    by_edition true true main binds typed = bound_rendered typed
    by_edition true false main binds typed = plain_rendered witnesses (leaf_of_number witnesses given w) typed
    by_edition false false main binds typed = plain_rendered [] (no_leaf witnesses given w) typed
    by_edition false true main binds typed =
        absurd (binds_main (nat_eq edition 2) (not (nat_eq (length witnesses) 0)) (ap (λ b. nat_eq edition 2 && (b && not (nat_eq (length witnesses) 0))) (sym main) ∙ binds))

    function_rendered : FunctionTyped witnesses fs f → RendersFunction (programs.witnesses_of f.name witnesses) given w f (function_after given gs f) (function_term x edition witnesses ts f)
    function_rendered typed = by_edition (is_main f.name) (binds_witnesses edition witnesses f) refl refl typed.body

  -- all of them, each after those before it

  zip_one : (fs : List TypedFunction) (gs : List Function) (ts : List FunctionTerm) (f : TypedFunction) (g : Function) (t : FunctionTerm) → AllRendered witnesses given w fs gs ts →
      RendersFunction (programs.witnesses_of f.name witnesses) given w f g t → AllRendered witnesses given w (fs ++ f ∷ []) (gs ++ g ∷ []) (ts ++ t ∷ [])
  zip_one [] [] [] f g t h k = (k, tt)
  zip_one (y ∷ fs) (v ∷ gs) (u ∷ ts) f g t h k = (h.0, zip_one fs gs ts f g t h.1 k)
  zip_one [] [] (u ∷ ts) f g t h k = absurd h
  zip_one [] (v ∷ gs) ts f g t h k = absurd h
  zip_one (y ∷ fs) [] ts f g t h k = absurd h
  zip_one (y ∷ fs) (v ∷ gs) [] f g t h k = absurd h

  meant_one : (before : List Function) (fs : List TypedFunction) (f : TypedFunction) →
      means.functions_after given before (fs ++ f ∷ []) ≡ means.functions_after given before fs ++ function_after given (before ++ means.functions_after given before fs) f ∷ []
  meant_one before [] f = ap (λ b. function_after given b f ∷ []) (sym (append-nil before))
  meant_one before (y ∷ fs) f =
      let first : Function = function_after given before y in
      ap (λ gs. first ∷ gs) (meant_one (before ++ first ∷ []) fs f
      ∙ ap (λ b. means.functions_after given (before ++ first ∷ []) fs ++ function_after given b f ∷ []) (append_assoc before (first ∷ []) (means.functions_after given (before ++ first ∷ []) fs)))

  abbrev terms_after : List FunctionTerm → List TypedFunction → List FunctionTerm
  terms_after before fs = made.functions_after x edition witnesses before fs

  made_one : (before : List FunctionTerm) (fs : List TypedFunction) (f : TypedFunction) → terms_after before (fs ++ f ∷ []) ≡ terms_after before fs ++ function_term x edition witnesses (before ++ terms_after before fs) f ∷ []
  made_one before [] f = ap (λ b. function_term x edition witnesses b f ∷ []) (sym (append-nil before))
  made_one before (y ∷ fs) f =
      let first : FunctionTerm = function_term x edition witnesses before y in
      ap (λ ts. first ∷ ts) (made_one (before ++ first ∷ []) fs f
      ∙ ap (λ b. terms_after (before ++ first ∷ []) fs ++ function_term x edition witnesses b f ∷ []) (append_assoc before (first ∷ []) (terms_after (before ++ first ∷ []) fs)))

  all_rendered : (fs : List TypedFunction) → FunctionsTyped witnesses fs → AllRendered witnesses given w fs (means.functions_after given [] fs) (terms_after [] fs)
  all_rendered fs no_function = tt
  all_rendered fs (one_function before f h typed other main) =
      let all = all_rendered before h in
      let gs : List Function = means.functions_after given [] before in
      let ts : List FunctionTerm = terms_after [] before in
      subst (λ gs. AllRendered witnesses given w (before ++ f ∷ []) gs (terms_after [] (before ++ f ∷ []))) (sym (meant_one [] before f))
      (subst (AllRendered witnesses given w (before ++ f ∷ []) (gs ++ function_after given gs f ∷ [])) (sym (made_one [] before f))
      (zip_one before gs ts f (function_after given gs f) (function_term x edition witnesses ts f) all (function_rendered before gs ts all f typed)))

pub functions_render : FunctionsRender
unfolding functions_of program_terms
functions_render x edition witnesses given w fs jets loops recodes typed = all_rendered x edition witnesses given w jets loops recodes fs typed

pub expressions_render : ExpressionsRender
expressions_render x witnesses given w fs gs ts scope k e jets loops recodes all (binds_all bound) typed =
    let s = setting x 2 witnesses given w jets loops recodes (record { functions = fs; witnesses = witnesses }) witnesses gs ts all (leaf_of_path witnesses given w) in
    (renders s (ExprAt (variables_of scope) k e) typed).1 scope (record { names = refl; bare = bound })
expressions_render x witnesses given w fs gs ts scope k e jets loops recodes all (binds_none bare) typed =
    let s = setting x 1 witnesses given w jets loops recodes (record { functions = fs; witnesses = witnesses }) [] gs ts all (leaf_of_number witnesses given w) in
    (renders s (ExprAt (variables_of scope) k e) typed).1 scope (record { names = refl; bare = bare })
