-- Blocks and matches: what their walk answers is broken there.
use Rattle.std.proofs.Common.{◌≡◌, true, false, List, [], ◌∷◌, ◌++◌, map, flat_map, Option, Some, None, Ok, refl, sym, ap, ◌∙◌, subst, append_assoc, append-nil}
use Rattle.hl_syntax.specs.declared.kinds.TypedName.{TypedName}
use Rattle.hl_syntax.specs.declared.rules.Rule.TheVariants.{K6, K13, K23}
use Rattle.hl_syntax.specs.declared.token.Span.{Span}
use Rattle.hl_syntax.specs.declared.tree.Arm.{Arm}
use Rattle.hl_syntax.specs.declared.tree.Expr.{Expr}
use Rattle.hl_syntax.specs.declared.tree.ExprForm.TheFolds.{fold-Arm, fold_out-Arm}
use Rattle.hl_syntax.specs.declared.tree.ExprForm.TheOpen.{ExprForm-F}
use Rattle.hl_syntax.specs.declared.tree.ExprForm.TheVariants as exprs
use Rattle.hl_syntax.specs.declared.tree.Pattern.{Pattern}
use Rattle.hl_syntax.specs.declared.tree.Side.{Side}
use Rattle.hl_syntax.specs.declared.tree.Side.TheVariants as sides
use Rattle.hl_syntax.specs.declared.tree.Statement.{Statement}
use Rattle.hl_syntax.specs.declared.tree.Statement.TheVariants as statements
use Rattle.hl_syntax.specs.declared.tree.TypeText.{TypeText}
use Rattle.hl_data.specs.declared.typed.TypedForm.{TypedForm}
use Rattle.hl_data.specs.declared.typed.TypedStatement.{TypedStatement}
use Rattle.simplicityhl.specs.Written.{walk}
use Rattle.hl_rules.specs.Breaks as breaks
use Rattle.hl_rules.specs.Exprs.{ExprWalk, FormWalk, StatementWalk, ArmWalk, form_step, statement_step, arm_step, expr_step, expr_walk, statement_walk, let_walk, plain_walk, statements_walk, last_walk, are_sides, binding_walk, side_walk, matched_type, match_walk}
use Rattle.hl_rules.specs.Occurs.{Occurs, Leaves, no_statement, after_let, after_plain}
use Rattle.hl_rules.specs.Occurs as occurs
use Rattle.hl_rules.specs.Written as written
use Rattle.hl_rules.specs.Written.{Binds, binds_left, binds_right, binds_some}
use Rattle.hl_rules.specs.Patterns.{pattern_walk}
use Rattle.hl_rules.specs.Places.{Scope}
use Rattle.hl_rules.specs.Same.{same_type, unit_type}
use Rattle.hl_rules.specs.Witnesses.{Names, names_step, statement_names_step, expr_names, statement_names, arm_names, joined}
use Rattle.hl_rules.proofs.Fine.{Fine, then_fine, body_needs, body_step, fine_is}
use Rattle.hl_rules.proofs.Here.{Setting, Here, Met, ◌⊙◌, Meets, At, Bad, Claim, Proved, context, place, rule_of}
use Rattle.hl_rules.proofs.Leaves.{typed, false_not}
use Rattle.hl_rules.proofs.Names.{names_of, joined_map, flat_more}
use Rattle.hl_rules.proofs.Patterns.{pattern_fine}
use Rattle.hl_rules.proofs.Types.{type_fine, Any}

module _ (s : Setting) where
  abbrev pub Blocked : Here s.program → List Statement → Option Expr → Span → Type 0
  Blocked h whole last span = Occurs s.program (place s h) (exprs.Block whole last) span

  -- a statement after others of its block
  abbrev pub StatementEnds : Here s.program → List Statement → Statement → (TypedStatement × Scope) × List TypedName → Type 0
  StatementEnds h before st found = Met s.program ((h.before ++ flat_map statement_names before) ++ statement_names st) found.1 × Leaves s.aliases h.scope (before ++ st ∷ []) found.0.1

  abbrev pub StatementAt : StatementWalk → Statement → Type 0
  StatementAt walk st = (h : Here s.program) (before after : List Statement) (last : Option Expr) (span : Span) (scope : Scope) (met : List TypedName) → Blocked h (before ++ st ∷ after) last span → Leaves s.aliases h.scope before scope →
      Met s.program (h.before ++ flat_map statement_names before) met → Fine (Bad s) (StatementEnds h before st) (walk scope met)

  abbrev pub StatementClaim : Statement → Type 0
  StatementClaim st = StatementAt (statement_walk (context s) st) st

  abbrev pub ProvedStatement : Type 0
  ProvedStatement = (st : Statement) × StatementClaim st

  abbrev pub statement_of : ProvedStatement → Statement
  statement_of p = p.0

  abbrev pub statements_of : List ProvedStatement → List Statement
  statements_of ps = map statement_of ps

  pub let_fine : (pattern : Pattern) (text : TypeText) (e : Proved s) (stands : Span) → statement_names (statements.Let pattern text e.0 stands) ≡ expr_names e.0 →
      StatementAt (let_walk s.aliases pattern text (expr_walk (context s) e.0)) (statements.Let pattern text e.0 stands)
  let_fine pattern text e stands names h before after last span scope met at leaves named =
      let st = statements.Let pattern text e.0 stands in
      let Q : (TypedStatement × Scope) × List TypedName → Type 0 = StatementEnds h before st in
      body_step (Bad s) Any Q (walk s.aliases text) met _ (type_fine s.program s.asked s.entries s.edition s.end s.aliases text (written.of_let (place s h) before after pattern text e.0 stands last span refl at))
      (λ kind found _. body_step (Bad s) (λ out. names_of out ≡ [] ++ written.pattern_names pattern) Q (pattern_walk pattern kind []) met _
      (pattern_fine s.program s.asked s.entries s.edition s.end pattern kind [] [] refl (written.by_let (place s h) before after pattern text e.0 stands last span kind at found))
      (λ bound binds _. then_fine (Bad s) (Meets s.program ((h.before ++ flat_map statement_names before) ++ expr_names e.0)) Q (expr_walk (context s) e.0 scope kind K6 met) _
      (e.1 (record { scope = scope; expected = kind; alone = false; before = h.before ++ flat_map statement_names before; met = met; named = named }) (occurs.value (place s h) before after pattern text e.0 stands last span scope kind at leaves found))
      (λ value is. (is ⊙ ap (λ ns. (h.before ++ flat_map statement_names before) ++ ns) (sym names), after_let before scope pattern text e.0 stands kind bound leaves found binds))))

  pub plain_fine : (e : Proved s) → statement_names (statements.Plain e.0) ≡ expr_names e.0 → StatementAt (plain_walk (expr_walk (context s) e.0)) (statements.Plain e.0)
  plain_fine e names h before after last span scope met at leaves named =
      then_fine (Bad s) (Meets s.program ((h.before ++ flat_map statement_names before) ++ expr_names e.0)) (StatementEnds h before (statements.Plain e.0)) (expr_walk (context s) e.0 scope unit_type K23 met) _
      (e.1 (record { scope = scope; expected = unit_type; alone = true; before = h.before ++ flat_map statement_names before; met = met; named = named }) (occurs.statement (place s h) before after e.0 last span scope at leaves))
      (λ found is. (is ⊙ ap (λ ns. (h.before ++ flat_map statement_names before) ++ ns) (sym names), after_plain before scope e.0 leaves))

  abbrev pub BlockEnds : Here s.program → List Statement → (List TypedStatement × Scope) × List TypedName → Type 0
  BlockEnds h whole found = Met s.program (h.before ++ flat_map statement_names whole) found.1 × Leaves s.aliases h.scope whole found.0.1

  statements_fine : (h : Here s.program) (last : Option Expr) (span : Span) (whole : List Statement) → Blocked h whole last span → (before : List Statement) (left : List ProvedStatement) → whole ≡ before ++ statements_of left →
      (scope : Scope) (met : List TypedName) → Leaves s.aliases h.scope before scope → Met s.program (h.before ++ flat_map statement_names before) met →
      Fine (Bad s) (BlockEnds h whole) (statements_walk (map (statement_walk (context s)) (statements_of left)) scope met)
  statements_fine h last span whole at before [] is scope met leaves named =
      let all : before ≡ whole = sym (is ∙ append-nil before) in
      (named ⊙ ap (λ ss. h.before ++ flat_map statement_names ss) all, subst (λ (ss : List Statement). Leaves s.aliases h.scope ss scope) all leaves)
  statements_fine h last span whole at before (p ∷ ps) is scope met leaves named =
      then_fine (Bad s) (StatementEnds h before p.0) (BlockEnds h whole) (statement_walk (context s) p.0 scope met) _
      (p.1 h before (statements_of ps) last span scope met (subst (λ (ss : List Statement). Blocked h ss last span) is at) leaves named)
      (λ first ends. then_fine (Bad s) (BlockEnds h whole) (BlockEnds h whole) (statements_walk (map (statement_walk (context s)) (statements_of ps)) first.0.1 first.1) _
      (statements_fine h last span whole at (before ++ p.0 ∷ []) ps (is ∙ sym (append_assoc before (p.0 ∷ []) (statements_of ps))) first.0.1 first.1 ends.1 (ends.0 ⊙ flat_more statement_names before p.0 h.before))
      (λ found all. all))

  abbrev walks : List ProvedStatement → List StatementWalk
  walks ps = map (statement_walk (context s)) (statements_of ps)

  abbrev names_in : List ProvedStatement → Names
  names_in ps = joined (map statement_names (statements_of ps))

  all_statements : (h : Here s.program) (last : Option Expr) (span : Span) (ps : List ProvedStatement) → Blocked h (statements_of ps) last span → Fine (Bad s) (BlockEnds h (statements_of ps)) (statements_walk (walks ps) h.scope h.met)
  all_statements h last span ps at = statements_fine h last span (statements_of ps) at [] ps refl h.scope h.met no_statement (h.named ⊙ sym (append-nil h.before))

  same_names : (h : Here s.program) (ps : List ProvedStatement) (more : Names) → (h.before ++ flat_map statement_names (statements_of ps)) ++ more ≡ h.before ++ (names_in ps ++ more)
  same_names h ps more = ap (λ ns. (h.before ++ ns) ++ more) (sym (joined_map statement_names (statements_of ps))) ∙ append_assoc h.before (names_in ps) more

  pub block_without : (ps : List ProvedStatement) → At s (form_step (context s) (ExprForm-F.Block (walks ps) None)) (names_in ps ++ []) (exprs.Block (statements_of ps) None)
  block_without ps span h at =
      then_fine (Bad s) (BlockEnds h (statements_of ps)) (Meets s.program (h.before ++ (names_in ps ++ []))) (statements_walk (walks ps) h.scope h.met) _ (all_statements h None span ps at)
      (λ found ends. then_fine (Bad s) (Meets s.program (h.before ++ (names_in ps ++ []))) (Meets s.program (h.before ++ (names_in ps ++ []))) (last_walk None span found.0.1 h.expected (rule_of h.alone) found.1) _
      (body_needs (Bad s) (Meets s.program (h.before ++ (names_in ps ++ []))) (same_type unit_type h.expected) (rule_of h.alone) span found.1 _
      (typed s (exprs.Block (statements_of ps) None) span h unit_type at (breaks.no_last (statements_of ps)))
      (λ _. ends.0 ⊙ sym (append-nil _) ∙ same_names h ps []))
      (λ last is. is))

  pub block_with : (ps : List ProvedStatement) (e : Proved s) → At s (form_step (context s) (ExprForm-F.Block (walks ps) (Some (expr_walk (context s) e.0)))) (names_in ps ++ expr_names e.0) (exprs.Block (statements_of ps) (Some e.0))
  block_with ps e span h at =
      then_fine (Bad s) (BlockEnds h (statements_of ps)) (Meets s.program (h.before ++ (names_in ps ++ expr_names e.0))) (statements_walk (walks ps) h.scope h.met) _ (all_statements h (Some e.0) span ps at)
      (λ found ends. then_fine (Bad s) (Meets s.program (h.before ++ (names_in ps ++ expr_names e.0))) (Meets s.program (h.before ++ (names_in ps ++ expr_names e.0))) (last_walk (Some (expr_walk (context s) e.0)) span found.0.1 h.expected (rule_of h.alone) found.1) _
      (then_fine (Bad s) (Meets s.program ((h.before ++ flat_map statement_names (statements_of ps)) ++ expr_names e.0)) (Meets s.program (h.before ++ (names_in ps ++ expr_names e.0))) (expr_walk (context s) e.0 found.0.1 h.expected K6 found.1) _
      (e.1 (record { scope = found.0.1; expected = h.expected; alone = false; before = h.before ++ flat_map statement_names (statements_of ps); met = found.1; named = ends.0 }) (occurs.last (place s h) (statements_of ps) e.0 span found.0.1 at ends.1))
      (λ last is. is ⊙ same_names h ps (expr_names e.0)))
      (λ last is. is))

  -- Matches.

  abbrev pub arm_walk : Arm → ArmWalk
  arm_walk arm = fold-Arm FormWalk StatementWalk ArmWalk ExprWalk (form_step (context s)) (statement_step (context s)) (arm_step (context s)) (expr_step (context s)) arm

  arm_is : (arm : Arm) → arm_walk arm ≡ record { side = arm.side; body = expr_walk (context s) arm.body }
  arm_is arm = fold_out-Arm FormWalk StatementWalk ArmWalk ExprWalk (form_step (context s)) (statement_step (context s)) (arm_step (context s)) (expr_step (context s)) arm

  arm_named : (arm : Arm) → arm_names arm ≡ expr_names arm.body
  arm_named arm = fold_out-Arm Names Names Names Names names_step statement_names_step (λ arm. arm.body) (λ e. e.form) arm

  abbrev pub ProvedArm : Type 0
  ProvedArm = (arm : Arm) × Claim s arm.body

  module _ (span : Span) (h : Here s.program) (e : Expr) (before after : List Arm) (arm : Arm) (at : Occurs s.program (place s h) (exprs.Match e (before ++ arm ∷ after)) span) where
    binding_fine : (pattern : Pattern) (text : TypeText) → Binds arm.side pattern text → Fine (Bad s) Any (binding_walk s.aliases pattern text)
    binding_fine pattern text binds =
        then_fine (Bad s) (λ kind. (walk s.aliases text ≡ Ok kind) × Any kind) Any (walk s.aliases text) _
        (fine_is (Bad s) Any (walk s.aliases text) (type_fine s.program s.asked s.entries s.edition s.end s.aliases text (written.of_side (place s h) e before after arm pattern text span refl at binds)))
        (λ kind found. then_fine (Bad s) (λ out. names_of out ≡ [] ++ written.pattern_names pattern) Any (pattern_walk pattern kind []) _
        (pattern_fine s.program s.asked s.entries s.edition s.end pattern kind [] [] refl (written.by_side (place s h) e before after arm pattern text span kind at binds found.0)) (λ _ _. tt))

    side_fine : Fine (Bad s) Any (side_walk s.aliases arm.side)
    side_fine = go arm.side refl
      where
        go : (side : Side) → arm.side ≡ side → Fine (Bad s) Any (side_walk s.aliases side)
        go (sides.Left p t) is = then_fine (Bad s) Any Any (binding_walk s.aliases p t) _ (binding_fine p t (subst (λ (side : Side). Binds side p t) (sym is) (binds_left p t))) (λ _ _. tt)
        go (sides.Right p t) is = then_fine (Bad s) Any Any (binding_walk s.aliases p t) _ (binding_fine p t (subst (λ (side : Side). Binds side p t) (sym is) (binds_right p t))) (λ _ _. tt)
        go (sides.Some p t) is = then_fine (Bad s) Any Any (binding_walk s.aliases p t) _ (binding_fine p t (subst (λ (side : Side). Binds side p t) (sym is) (binds_some p t))) (λ _ _. tt)
        go sides.Nothing is = tt
        go sides.True is = tt
        go sides.False is = tt

  match_arms : (e : Proved s) (one two : ProvedArm) (span : Span) (h : Here s.program) → Occurs s.program (place s h) (exprs.Match e.0 (one.0 ∷ two.0 ∷ [])) span →
      Fine (Bad s) (Meets s.program (h.before ++ (expr_names e.0 ++ joined (arm_names one.0 ∷ arm_names two.0 ∷ []))))
      (match_walk s.aliases (expr_walk (context s) e.0) (record { side = one.0.side; body = expr_walk (context s) one.0.body }) (record { side = two.0.side; body = expr_walk (context s) two.0.body }) span h.scope h.expected (rule_of h.alone) h.met)
  match_arms e one two span h at =
      let b = h.before in
      let n = expr_names e.0 in
      let f = arm_names one.0 in
      let g = arm_names two.0 in
      let Q : TypedForm × List TypedName → Type 0 = Meets s.program (b ++ (n ++ (f ++ (g ++ [])))) in
      body_needs (Bad s) Q (are_sides one.0.side two.0.side) K13 span h.met _ (λ e'. breaks.k13 (place s h) e.0 (one.0 ∷ two.0 ∷ []) span at (false_not (are_sides one.0.side two.0.side) e'))
      (λ fit. body_step (Bad s) Any Q (side_walk s.aliases one.0.side) h.met _ (side_fine span h e.0 [] (two.0 ∷ []) one.0 at)
      (λ first first_is _. body_step (Bad s) Any Q (side_walk s.aliases two.0.side) h.met _ (side_fine span h e.0 (one.0 ∷ []) [] two.0 at)
      (λ second second_is _. then_fine (Bad s) (Meets s.program ((b ++ []) ++ n)) Q (expr_walk (context s) e.0 h.scope (matched_type first.0 second.0) K6 h.met) _
      (e.1 (record { scope = h.scope; expected = matched_type first.0 second.0; alone = false; before = b ++ []; met = h.met; named = h.named ⊙ sym (append-nil b) })
      (occurs.scrutinee (place s h) e.0 one.0 two.0 span first.0 second.0 first.1 second.1 at fit first_is second_is))
      (λ value value_is. then_fine (Bad s) (Meets s.program ((b ++ (n ++ [])) ++ expr_names one.0.body)) Q (expr_walk (context s) one.0.body (first.1 ++ h.scope) h.expected K6 value.1) _
      (one.1 (record {
        scope = first.1 ++ h.scope;
        expected = h.expected;
        alone = false;
        before = b ++ (n ++ []);
        met = value.1;
        named = value_is ⊙ ap (λ ns. ns ++ n) (append-nil b) ∙ ap (λ ns. b ++ ns) (sym (append-nil n));
      })
      (occurs.arm (place s h) e.0 [] (two.0 ∷ []) one.0 span first.0 first.1 at first_is))
      (λ one_body one_is. then_fine (Bad s) (Meets s.program ((b ++ (n ++ (f ++ []))) ++ expr_names two.0.body)) Q (expr_walk (context s) two.0.body (second.1 ++ h.scope) h.expected K6 one_body.1) _
      (two.1 (record {
        scope = second.1 ++ h.scope;
        expected = h.expected;
        alone = false;
        before = b ++ (n ++ (f ++ []));
        met = one_body.1;
        named = one_is ⊙ ap (λ ns. (b ++ ns) ++ expr_names one.0.body) (append-nil n) ∙ append_assoc b n (expr_names one.0.body) ∙ ap (λ ns. b ++ (n ++ ns)) (sym (arm_named one.0) ∙ sym (append-nil f));
      })
      (occurs.arm (place s h) e.0 (one.0 ∷ []) [] two.0 span second.0 second.1 at second_is))
      (λ two_body two_is. two_is ⊙ ap (λ ns. (b ++ (n ++ ns)) ++ expr_names two.0.body) (append-nil f) ∙ append_assoc b (n ++ f) (expr_names two.0.body)
      ∙ ap (λ ns. b ++ ns) (append_assoc n f (expr_names two.0.body) ∙ ap (λ ns. n ++ (f ++ ns)) (sym (arm_named two.0) ∙ sym (append-nil g)))))))))

  pub match_two : (e : Proved s) (one two : ProvedArm) →
      At s (form_step (context s) (ExprForm-F.Match (expr_walk (context s) e.0) (arm_walk one.0 ∷ arm_walk two.0 ∷ []))) (expr_names e.0 ++ joined (arm_names one.0 ∷ arm_names two.0 ∷ [])) (exprs.Match e.0 (one.0 ∷ two.0 ∷ []))
  match_two e one two span h at = rw (arm_is one.0, arm_is two.0) (match_arms e one two span h at)
