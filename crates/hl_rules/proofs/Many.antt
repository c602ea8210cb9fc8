-- Expressions with several parts, calls and loops: what their walk answers is broken there.
use Rattle.std.proofs.Common.{◌≡◌, ◌≢◌, ℕ, true, false, nat_eq, nat_lt, List, [], ◌∷◌, ◌++◌, length, map, flat_map, Some, None, option_map, Result, Ok, refl, sym, ap, ◌∙◌, subst, append_assoc, append-nil, arith, ltb-false}
use Rattle.std.proofs.lemmas.Bool.{eqb-true, eqb-false}
use Rattle.std.proofs.lemmas.List.{length-map}
use Rattle.hl_syntax.specs.declared.kinds.HlType.{HlType}
use Rattle.hl_syntax.specs.declared.kinds.HlType.TheVariants as kind
use Rattle.hl_syntax.specs.declared.kinds.TypedName.{TypedName}
use Rattle.hl_syntax.specs.declared.rules.Rule.TheVariants.{K3, K6, K8, K9, K11, K14, K15, K22}
use Rattle.hl_syntax.specs.declared.token.Mark.{Mark}
use Rattle.hl_syntax.specs.declared.token.Span.{Span}
use Rattle.hl_syntax.specs.declared.tree.ExprForm.{ExprForm}
use Rattle.hl_syntax.specs.declared.tree.ExprForm.TheOpen.{ExprForm-F}
use Rattle.hl_syntax.specs.declared.tree.ExprForm.TheVariants as exprs
use Rattle.hl_data.specs.declared.typed.TypedExpr.{TypedExpr}
use Rattle.hl_data.specs.declared.typed.TypedForm.{TypedForm}
use Rattle.hl_data.specs.declared.typed.TypedFunction.{TypedFunction}
use Rattle.simplicityhl.specs.Kinds.{form, is_bound}
use Rattle.simplicityhl.specs.Tokens.{decimal_value}
use Rattle.simplicityhl.specs.Written.{Broken, breaks_rule, counted, then_walk}
use Rattle.hl_rules.specs.Before.{signature_named}
use Rattle.hl_rules.specs.Breaks as breaks
use Rattle.hl_rules.specs.Breaks.{Calls, Counts, IsShapeless, Misfits}
use Rattle.hl_rules.specs.Exprs.{ExprWalk, FormWalk, StatementWalk, ArmWalk, form_step, expr_walk, jet_named, jet_arguments, jet_result, param_types, fold_shape, while_shape, parts_walk, items_walk}
use Rattle.hl_rules.specs.Occurs.{Place, Occurs, HasParts, types_of, part}
use Rattle.hl_rules.specs.Occurs as occurs
use Rattle.hl_rules.specs.Places.{function_named}
use Rattle.hl_rules.specs.Same.{same_type, parts_of, array_of, list_of}
use Rattle.hl_rules.specs.Witnesses.{Names, expr_names, joined}
use Rattle.hl_rules.proofs.Fine.{Fine, then_fine, body_needs, body_wants, body_step}
use Rattle.hl_rules.proofs.Here.{Setting, Here, ◌⊙◌, Meets, At, Bad, Proved, context, place, misfit, parts_fine, items_fine, exprs_of, rule_of, signature_of, signature_found}
use Rattle.hl_rules.proofs.Here as here
use Rattle.hl_rules.proofs.Leaves.{typed, false_not}
use Rattle.hl_rules.proofs.Names.{joined_map}
use Rattle.hl_rules.proofs.Types.{counted_fine}

module _ (s : Setting) where
  abbrev Form : Type 0
  Form = ExprForm-F FormWalk StatementWalk ArmWalk ExprWalk

  abbrev Holds : Form → Names → ExprForm → Type 0
  Holds layer names form = At s (form_step (context s) layer) names form

  abbrev walks : List (Proved s) → List ExprWalk
  walks ps = map (expr_walk (context s)) (exprs_of s ps)

  abbrev all_names : List (Proved s) → Names
  all_names ps = joined (map expr_names (exprs_of s ps))

  abbrev Ends : Here s.program → Names → {A : Type 0} → A × List TypedName → Type 0
  Ends h names found = Meets s.program (h.before ++ names) found

  many : (h : Here s.program) (ps : List (Proved s)) (r : Result (List TypedExpr × List TypedName) Broken) (next : List TypedExpr → TypedForm) → Fine (Bad s) (Meets s.program (h.before ++ flat_map expr_names (exprs_of s ps))) r →
      Fine (Bad s) (Meets s.program (h.before ++ all_names ps)) (then_walk r (λ found. Ok (next found.0, found.1)))
  many h ps r next fine =
      then_fine (Bad s) (Meets s.program (h.before ++ flat_map expr_names (exprs_of s ps))) (Meets s.program (h.before ++ all_names ps)) r (λ found. Ok (next found.0, found.1)) fine
      (λ found is. is ⊙ ap (λ ns. h.before ++ ns) (sym (joined_map expr_names (exprs_of s ps))))

  -- as many as there are types, by the count of their walks
  as_many : (ps : List (Proved s)) (n : ℕ) → nat_eq (length (walks ps)) n ≡ true → length ps ≡ n
  as_many ps n e = sym (length-map ps (here.expr_of s)) ∙ sym (length-map (exprs_of s ps) (expr_walk (context s))) ∙ eqb-true _ _ e

  other_count : (ps : List (Proved s)) (n : ℕ) → nat_eq (length (walks ps)) n ≡ false → length (exprs_of s ps) ≢ n
  other_count ps n e is = eqb-false _ _ e (length-map (exprs_of s ps) (expr_walk (context s)) ∙ is)

  all_parts : (form : ExprForm) (span : Span) (h : Here s.program) → Occurs s.program (place s h) form span → (ps : List (Proved s)) (kinds : List HlType) → HasParts (place s h) form (exprs_of s ps) kinds → length ps ≡ length kinds →
      Fine (Bad s) (Meets s.program (h.before ++ flat_map expr_names (exprs_of s ps))) (parts_walk (walks ps) kinds h.scope h.met)
  all_parts form span h at ps kinds has long = parts_fine s span h form at (exprs_of s ps) kinds has [] ps [] kinds refl refl refl long h.met (h.named ⊙ sym (append-nil h.before))

  all_items : (form : ExprForm) (span : Span) (h : Here s.program) → Occurs s.program (place s h) form span → (ps : List (Proved s)) (item : HlType) → HasParts (place s h) form (exprs_of s ps) (map (λ _. item) (exprs_of s ps)) →
      Fine (Bad s) (Meets s.program (h.before ++ flat_map expr_names (exprs_of s ps))) (items_walk (walks ps) item h.scope h.met)
  all_items form span h at ps item has = items_fine s span h form at (exprs_of s ps) item has [] ps refl h.met (h.named ⊙ sym (append-nil h.before))

  pub tuple : (ps : List (Proved s)) → Holds (ExprForm-F.Tuple (walks ps)) (all_names ps) (exprs.Tuple (exprs_of s ps))
  tuple ps span h at =
      body_wants (Bad s) (Meets s.program (h.before ++ all_names ps)) (parts_of h.expected) (rule_of h.alone) span h.met _ (λ none. misfit s span h (exprs.Tuple (exprs_of s ps)) at (breaks.no_tuple (exprs_of s ps) none))
      (λ kinds found. body_needs (Bad s) (Meets s.program (h.before ++ all_names ps)) (nat_eq (length (walks ps)) (length kinds)) K8 span h.met _
      (λ e. breaks.k8_tuple (place s h) (exprs_of s ps) span kinds at found (other_count ps (length kinds) e))
      (λ e. many h ps (parts_walk (walks ps) kinds h.scope h.met) _ (all_parts (exprs.Tuple (exprs_of s ps)) span h at ps kinds (occurs.tuple (exprs_of s ps) kinds found) (as_many ps (length kinds) e))))

  pub array : (ps : List (Proved s)) → Holds (ExprForm-F.Array (walks ps)) (all_names ps) (exprs.Array (exprs_of s ps))
  array ps span h at =
      body_wants (Bad s) (Meets s.program (h.before ++ all_names ps)) (array_of h.expected) (rule_of h.alone) span h.met _ (λ none. misfit s span h (exprs.Array (exprs_of s ps)) at (breaks.no_array (exprs_of s ps) none))
      (λ shape found. body_needs (Bad s) (Meets s.program (h.before ++ all_names ps)) (nat_eq (length (walks ps)) shape.1) K8 span h.met _
      (λ e. breaks.k8_array (place s h) (exprs_of s ps) span shape.0 shape.1 at found (other_count ps shape.1 e))
      (λ e. many h ps (items_walk (walks ps) shape.0 h.scope h.met) _ (all_items (exprs.Array (exprs_of s ps)) span h at ps shape.0 (occurs.array (exprs_of s ps) shape.0 shape.1 found))))

  pub list : (ps : List (Proved s)) → Holds (ExprForm-F.List (walks ps)) (all_names ps) (exprs.List (exprs_of s ps))
  list ps span h at =
      body_wants (Bad s) (Meets s.program (h.before ++ all_names ps)) (list_of h.expected) (rule_of h.alone) span h.met _ (λ none. misfit s span h (exprs.List (exprs_of s ps)) at (breaks.no_list (exprs_of s ps) none))
      (λ shape found. body_needs (Bad s) (Meets s.program (h.before ++ all_names ps)) (nat_lt (length (walks ps)) shape.1) K9 span h.met _
      (λ e. breaks.k9 (place s h) (exprs_of s ps) span shape.0 shape.1 at found (let more = ltb-false _ _ e in omega (arith, length-map (exprs_of s ps) (expr_walk (context s)))))
      (λ e. many h ps (items_walk (walks ps) shape.0 h.scope h.met) _ (all_items (exprs.List (exprs_of s ps)) span h at ps shape.0 (occurs.list (exprs_of s ps) shape.0 shape.1 found))))

  pub jet : (name : Mark) (ps : List (Proved s)) → Holds (ExprForm-F.Jet name (walks ps)) (all_names ps) (exprs.Jet name (exprs_of s ps))
  jet name ps span h at =
      body_wants (Bad s) (Meets s.program (h.before ++ all_names ps)) (jet_named name.text) K22 name.span h.met _ (breaks.k22 (place s h) name (exprs_of s ps) span at)
      (λ row found. body_needs (Bad s) (Meets s.program (h.before ++ all_names ps)) (nat_eq (length (walks ps)) (length (jet_arguments row))) K11 span h.met _
      (λ e. breaks.k11_jet (place s h) name (exprs_of s ps) span row at found (other_count ps (length (jet_arguments row)) e))
      (λ e. body_needs (Bad s) (Meets s.program (h.before ++ all_names ps)) (same_type (jet_result row) h.expected) (rule_of h.alone) span h.met _
      (typed s (exprs.Jet name (exprs_of s ps)) span h (jet_result row) at (breaks.from_jet name (exprs_of s ps) row found))
      (λ _. many h ps (parts_walk (walks ps) (jet_arguments row) h.scope h.met) _ (all_parts (exprs.Jet name (exprs_of s ps)) span h at ps (jet_arguments row) (occurs.jet name (exprs_of s ps) row found) (as_many ps (length (jet_arguments row)) e)))))

  -- the function that a form calls
  known : (name : Mark) (f : TypedFunction) → function_named s.functions name.text ≡ Some f → signature_named (map signature_of s.functions) name.text ≡ Some (signature_of f)
  known name f found = signature_found s.functions name.text ∙ ap (option_map signature_of) found

  unknown : (form : ExprForm) (span : Span) (h : Here s.program) (name : Mark) → Occurs s.program (place s h) form span → Calls form name → function_named s.functions name.text ≡ None → Bad s (breaks_rule K3 name.span)
  unknown form span h name at calls none = breaks.k3 (place s h) form span name at calls (signature_found s.functions name.text ∙ ap (option_map signature_of) none)

  pub call : (name : Mark) (ps : List (Proved s)) → Holds (ExprForm-F.Call name (walks ps)) (all_names ps) (exprs.Call name (exprs_of s ps))
  call name ps span h at =
      body_wants (Bad s) (Meets s.program (h.before ++ all_names ps)) (function_named s.functions name.text) K3 name.span h.met _ (unknown (exprs.Call name (exprs_of s ps)) span h name at (breaks.by_call name (exprs_of s ps)))
      (λ f found. body_needs (Bad s) (Meets s.program (h.before ++ all_names ps)) (nat_eq (length (walks ps)) (length f.params)) K11 span h.met _
      (λ e. breaks.k11_call (place s h) name (exprs_of s ps) span (signature_of f) at (known name f found) (other_count ps (length f.params) e))
      (λ e. body_needs (Bad s) (Meets s.program (h.before ++ all_names ps)) (same_type f.result h.expected) (rule_of h.alone) span h.met _
      (typed s (exprs.Call name (exprs_of s ps)) span h f.result at (breaks.from_function (exprs.Call name (exprs_of s ps)) name (signature_of f) (breaks.by_call name (exprs_of s ps)) (known name f found)))
      (λ _. many h ps (parts_walk (walks ps) (param_types f) h.scope h.met) _
      (all_parts (exprs.Call name (exprs_of s ps)) span h at ps (param_types f) (occurs.call name (exprs_of s ps) (signature_of f) (known name f found)) (as_many ps (length f.params) e ∙ sym (length-map f.params (λ p. p.kind)))))))

  -- Loops.

  -- two parts, one after the other
  both : (form : ExprForm) (span : Span) (h : Here s.program) → Occurs s.program (place s h) form span → (one two : Proved s) (k l : HlType) → HasParts (place s h) form (one.0 ∷ two.0 ∷ []) (k ∷ l ∷ []) → (next : TypedExpr → TypedExpr → TypedForm) →
      Fine (Bad s) (Meets s.program (h.before ++ (expr_names one.0 ++ expr_names two.0)))
      (then_walk (expr_walk (context s) one.0 h.scope k K6 h.met) (λ first. then_walk (expr_walk (context s) two.0 h.scope l K6 first.1) (λ second. Ok (next first.0 second.0, second.1))))
  both form span h at one two k l has next =
      then_fine (Bad s) (Meets s.program ((h.before ++ []) ++ expr_names one.0)) (Meets s.program (h.before ++ (expr_names one.0 ++ expr_names two.0))) (expr_walk (context s) one.0 h.scope k K6 h.met) _
      (one.1 (record { scope = h.scope; expected = k; alone = false; before = h.before ++ []; met = h.met; named = h.named ⊙ sym (append-nil h.before) }) (part (place s h) form span [] (two.0 ∷ []) one.0 [] (l ∷ []) k at has refl))
      (λ first is. then_fine (Bad s) (Meets s.program ((h.before ++ (expr_names one.0 ++ [])) ++ expr_names two.0)) (Meets s.program (h.before ++ (expr_names one.0 ++ expr_names two.0))) (expr_walk (context s) two.0 h.scope l K6 first.1) _
      (two.1 (record {
        scope = h.scope;
        expected = l;
        alone = false;
        before = h.before ++ (expr_names one.0 ++ []);
        met = first.1;
        named = is ⊙ ap (λ ns. ns ++ expr_names one.0) (append-nil h.before) ∙ ap (λ ns. h.before ++ ns) (sym (append-nil (expr_names one.0)));
      })
      (part (place s h) form span (one.0 ∷ []) [] two.0 (k ∷ []) [] l at has refl))
      (λ second is. is ⊙ ap (λ ns. (h.before ++ ns) ++ expr_names two.0) (append-nil (expr_names one.0)) ∙ append_assoc h.before (expr_names one.0) (expr_names two.0)))

  -- a loop's function gives the type that is expected
  gives : (form : ExprForm) (span : Span) (h : Here s.program) (name : Mark) (f : TypedFunction) → Occurs s.program (place s h) form span → Calls form name → function_named s.functions name.text ≡ Some f → same_type f.result h.expected ≡ false →
      Bad s (breaks_rule (rule_of h.alone) span)
  gives form span h name f at calls found = typed s form span h f.result at (breaks.from_function form name (signature_of f) calls (known name f found))

  counts : (form : ExprForm) (span : Span) (h : Here s.program) (count : Mark) → Occurs s.program (place s h) form span → Counts form count → Fine (Bad s) (λ n. n ≡ decimal_value count.text) (counted count)
  counts form span h count at is = counted_fine (Bad s) count (breaks.l4_fold (place s h) form span count at is)

  pub fold : (name count : Mark) (one two : Proved s) → Holds (ExprForm-F.Fold name count (expr_walk (context s) one.0) (expr_walk (context s) two.0)) (expr_names one.0 ++ expr_names two.0) (exprs.Fold name count one.0 two.0)
  fold name count one two span h at =
      let form = exprs.Fold name count one.0 two.0 in
      let Q : TypedForm × List TypedName → Type 0 = Meets s.program (h.before ++ (expr_names one.0 ++ expr_names two.0)) in
      let calls = breaks.by_fold name count one.0 two.0 in
      body_wants (Bad s) Q (function_named s.functions name.text) K3 name.span h.met _ (unknown form span h name at calls)
      (λ f found. body_step (Bad s) (λ n. n ≡ decimal_value count.text) Q (counted count) h.met _ (counts form span h count at (breaks.fold_counts name count one.0 two.0))
      (λ bound _ is. body_needs (Bad s) Q (is_bound bound) K15 count.span h.met _ (λ e. breaks.k15 (place s h) name count one.0 two.0 span at (false_not (is_bound (decimal_value count.text)) (ap is_bound (sym is) ∙ e)))
      (λ _. body_wants (Bad s) Q (fold_shape (param_types f) f.result) K14 name.span h.met _
      (λ none. breaks.k14 (place s h) form span name (signature_of f) at (known name f found) (breaks.no_fold name count one.0 two.0 (param_types f) f.result none))
      (λ shape shaped. body_needs (Bad s) Q (same_type f.result h.expected) (rule_of h.alone) span h.met _ (gives form span h name f at calls found)
      (λ _. both form span h at one two (kind.List shape.0 bound) shape.1
      (subst (λ n. HasParts (place s h) form (one.0 ∷ two.0 ∷ []) (kind.List shape.0 n ∷ shape.1 ∷ [])) (sym is) (occurs.fold name count one.0 two.0 (signature_of f) shape.0 shape.1 (known name f found) shaped)) _)))))

  pub array_fold : (name count : Mark) (one two : Proved s) → Holds (ExprForm-F.ArrayFold name count (expr_walk (context s) one.0) (expr_walk (context s) two.0)) (expr_names one.0 ++ expr_names two.0) (exprs.ArrayFold name count one.0 two.0)
  array_fold name count one two span h at =
      let form = exprs.ArrayFold name count one.0 two.0 in
      let Q : TypedForm × List TypedName → Type 0 = Meets s.program (h.before ++ (expr_names one.0 ++ expr_names two.0)) in
      let calls = breaks.by_array_fold name count one.0 two.0 in
      body_wants (Bad s) Q (function_named s.functions name.text) K3 name.span h.met _ (unknown form span h name at calls)
      (λ f found. body_step (Bad s) (λ n. n ≡ decimal_value count.text) Q (counted count) h.met _ (counts form span h count at (breaks.array_fold_counts name count one.0 two.0))
      (λ length _ is. body_wants (Bad s) Q (fold_shape (param_types f) f.result) K14 name.span h.met _
      (λ none. breaks.k14 (place s h) form span name (signature_of f) at (known name f found) (breaks.no_array_fold name count one.0 two.0 (param_types f) f.result none))
      (λ shape shaped. body_needs (Bad s) Q (same_type f.result h.expected) (rule_of h.alone) span h.met _ (gives form span h name f at calls found)
      (λ _. both form span h at one two (kind.Array shape.0 length) shape.1
      (subst (λ n. HasParts (place s h) form (one.0 ∷ two.0 ∷ []) (kind.Array shape.0 n ∷ shape.1 ∷ [])) (sym is) (occurs.array_fold name count one.0 two.0 (signature_of f) shape.0 shape.1 (known name f found) shaped)) _))))

  pub for_while : (name : Mark) (one two : Proved s) → Holds (ExprForm-F.ForWhile name (expr_walk (context s) one.0) (expr_walk (context s) two.0)) (expr_names one.0 ++ expr_names two.0) (exprs.ForWhile name one.0 two.0)
  for_while name one two span h at =
      let form = exprs.ForWhile name one.0 two.0 in
      let Q : TypedForm × List TypedName → Type 0 = Meets s.program (h.before ++ (expr_names one.0 ++ expr_names two.0)) in
      let calls = breaks.by_for_while name one.0 two.0 in
      body_wants (Bad s) Q (function_named s.functions name.text) K3 name.span h.met _ (unknown form span h name at calls)
      (λ f found. body_wants (Bad s) Q (while_shape (param_types f) f.result) K14 name.span h.met _
      (λ none. breaks.k14 (place s h) form span name (signature_of f) at (known name f found) (breaks.no_while name one.0 two.0 (param_types f) f.result none))
      (λ shape shaped. body_needs (Bad s) Q (same_type f.result h.expected) (rule_of h.alone) span h.met _ (gives form span h name f at calls found)
      (λ _. both form span h at one two shape.0 shape.1 (occurs.for_while name one.0 two.0 (signature_of f) shape.0 shape.1 (known name f found) shaped) _)))
