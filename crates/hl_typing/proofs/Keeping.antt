-- What a walk makes of the witnesses that were met: it takes none away, so what holds of all of them after it holds of those before
-- it; and where those before it may stand, so may those after it.
use Rattle.std.proofs.Common.{◌≡◌, ℕ, Bool, true, false, ◌^◌, nat_eq, nat_lt, List, [], ◌∷◌, ◌++◌, length, map, Option, Some, None, Ok, Err, refl, sym, ap, ◌∙◌, subst}
use Rattle.hl_syntax.specs.declared.kinds.HlType.{HlType}
use Rattle.hl_syntax.specs.declared.kinds.HlType.TheVariants as kind
use Rattle.hl_syntax.specs.declared.kinds.TypedName.{TypedName}
use Rattle.hl_syntax.specs.declared.rules.Rule.{Rule}
use Rattle.hl_syntax.specs.declared.rules.Rule.TheVariants.{K3, K4, K6, K7, K8, K9, K11, K12, K13, K14, K15, K16, K17, K18, K19, K22, K23}
use Rattle.hl_syntax.specs.declared.token.Mark.{Mark}
use Rattle.hl_syntax.specs.declared.token.Span.{Span}
use Rattle.hl_syntax.specs.declared.tree.Item.{Item}
use Rattle.hl_syntax.specs.declared.tree.Item.TheVariants as items
use Rattle.hl_syntax.specs.declared.tree.Param.{Param}
use Rattle.hl_syntax.specs.declared.tree.Arm.{Arm, roll-Arm}
use Rattle.hl_syntax.specs.declared.tree.Expr.{Expr, roll-Expr}
use Rattle.hl_syntax.specs.declared.tree.ExprForm.{ExprForm, roll-ExprForm}
use Rattle.hl_syntax.specs.declared.tree.ExprForm.TheFolds.{fold-Arm, fold-roll-ExprForm, fold-roll-Statement, fold_out-Expr, fold_out-Arm, ind-Expr, ind-Statement, map-ExprForm, map-Statement}
use Rattle.hl_syntax.specs.declared.tree.ExprForm.TheOpen.{ExprForm-F, Statement-F, Expr-F}
use Rattle.hl_syntax.specs.declared.tree.Statement.{Statement, roll-Statement}
use Rattle.hl_syntax.specs.declared.tree.Pattern.{Pattern}
use Rattle.hl_syntax.specs.declared.tree.TypeText.{TypeText}
use Rattle.hl_data.specs.declared.typed.TypedFunction.{TypedFunction}
use Rattle.hl_data.specs.declared.typed.TypedSide.{TypedSide}
use Rattle.hl_data.specs.declared.value.Entry.{Entry}
use Rattle.jets.specs.Jet.{Row}
use Rattle.simplicityhl.specs.Written.{Broken, then_walk, walk, counted}
use Rattle.hl_rules.specs.Patterns.{pattern_walk}
use Rattle.hl_rules.specs.Same.{same_type, same_kind, unit_type, width_of, parts_of, array_of, list_of, option_of, either_of}
use Rattle.simplicityhl.specs.Kinds.{form, is_bound}
use Rattle.hl_meaning.specs.Literals.{literal_value}
use Rattle.hl_rules.specs.Exprs.{ExprWalk, FormWalk, StatementWalk, ArmWalk, parts_walk, items_walk, let_walk, plain_walk, statements_walk, last_walk, are_sides, side_walk, matched_type, param_types, jet_named, jet_arguments, jet_result, fold_shape, while_shape, may_stand, form_step, statement_step, arm_step, expr_step, expr_walk, form_walk, statement_walk}
use Rattle.hl_rules.specs.Declared.{Head, head_walk, alias_walk}
use Rattle.hl_rules.specs.Places.{Scope, Context, variable_type, function_named, entry_named, is_main}
use Rattle.hl_rules.specs.Programs as programs
use Rattle.hl_rules.specs.Programs.{Known, function_walk, item_walk}
use Rattle.hl_rules.specs.Steps as steps
use Rattle.hl_rules.specs.Steps.{Step}
use Rattle.hl_rules.specs.Walks.{Walk, plain, needs, wants}
use Rattle.hl_typing.proofs.Every.{Every, every_first}
use Rattle.hl_typing.proofs.Listed.{apart_more}
use Rattle.hl_typing.proofs.Steps.{Apart, ran, ok_same, needs_ok}

-- from some witnesses to others on the way
pub record Onward (edition : ℕ) (P : TypedName → Type 0) (met after : List TypedName) : Type 0 where
  pub back : Every P after → Every P met
  pub on : Apart edition met → Apart edition after

onward_same : (edition : ℕ) (P : TypedName → Type 0) (met after : List TypedName) → met ≡ after → Onward edition P met after
onward_same edition P met after same = record { back = subst (Every P) (sym same); on = subst (Apart edition) same }

module _ (edition : ℕ) (P : TypedName → Type 0) where
  abbrev pub Keeps : {A : Type 0} → Walk A → Type 0
  Keeps {A} w = (met after : List TypedName) (x : A) → w met ≡ Ok (x, after) → Onward edition P met after

  pub then_keeps : {A B : Type 0} {p : Walk A} {q : A → Walk B} → Keeps p → ((x : A) → Keeps (q x)) → Keeps (λ met. then_walk (p met) (λ found. q found.0 found.1))
  then_keeps {p = p} {q = q} h k met after y e =
      let r = ran (p met) (λ found. q found.0 found.1) (y, after) e in
      let one = h met r.from.1 r.from.0 r.was in
      let rest = k r.from.0 r.from.1 after y r.is in
      record { back = λ v. one.back (rest.back v); on = λ v. rest.on (one.on v) }

  pub step_keeps : {A B : Type 0} (step : Step A) {q : A → Walk B} → ((x : A) → Keeps (q x)) → Keeps (λ met. then_walk (plain step met) (λ found. q found.0 found.1))
  step_keeps (Ok x) h met after y e = h x met after y e
  step_keeps (Err broken) h met after y e = absurd (cc)

  pub needs_keeps : {B : Type 0} (b : Bool) (rule : Rule) (span : Span) {q : Walk B} → Keeps q → Keeps (λ met. then_walk (needs b rule span met) (λ found. q found.1))
  needs_keeps true rule span h met after y e = h met after y e
  needs_keeps false rule span h met after y e = absurd (cc)

  pub wants_keeps : {A B : Type 0} (o : Option A) (rule : Rule) (span : Span) {q : A → Walk B} → ((x : A) → Keeps (q x)) → Keeps (λ met. then_walk (wants o rule span met) (λ found. q found.0 found.1))
  wants_keeps (Some x) rule span h met after y e = h x met after y e
  wants_keeps None rule span h met after y e = absurd (cc)

  pub done_keeps : {A : Type 0} {x : A} → Keeps (λ met. Ok (x, met))
  done_keeps met after y e = onward_same edition P met after (ap (λ p. p.1) (ok_same e))

  refuse_keeps : {A : Type 0} {broken : Broken} → Keeps {A = A} (λ met. Err broken)
  refuse_keeps met after y e = absurd (cc)

  abbrev pub ExprKeeps : ExprWalk → Type 0
  ExprKeeps w = (scope : Scope) (expected : HlType) (rule : Rule) → Keeps (w scope expected rule)

  abbrev pub StatementKeeps : StatementWalk → Type 0
  StatementKeeps w = (scope : Scope) → Keeps (w scope)

  pub parts_keep : (ws : List ExprWalk) → Every ExprKeeps ws → (kinds : List HlType) (scope : Scope) → Keeps (parts_walk ws kinds scope)
  parts_keep [] h kinds scope = done_keeps
  parts_keep (w ∷ ws) h [] scope = done_keeps
  parts_keep (w ∷ ws) h (k ∷ ks) scope = then_keeps (h.0 scope k K6) (λ first. then_keeps (parts_keep ws h.1 ks scope) (λ rest. done_keeps))

  pub items_keep : (ws : List ExprWalk) → Every ExprKeeps ws → (item : HlType) (scope : Scope) → Keeps (items_walk ws item scope)
  items_keep [] h item scope = done_keeps
  items_keep (w ∷ ws) h item scope = then_keeps (h.0 scope item K6) (λ first. then_keeps (items_keep ws h.1 item scope) (λ rest. done_keeps))

  pub statements_keep : (ws : List StatementWalk) → Every StatementKeeps ws → (scope : Scope) → Keeps (statements_walk ws scope)
  statements_keep [] h scope = done_keeps
  statements_keep (w ∷ ws) h scope = then_keeps (h.0 scope) (λ first. then_keeps (statements_keep ws h.1 first.1) (λ rest. done_keeps))

  last_none_keeps : (span : Span) (scope : Scope) (expected : HlType) (rule : Rule) → Keeps (last_walk None span scope expected rule)
  last_none_keeps span scope expected rule = needs_keeps (same_type unit_type expected) rule span done_keeps

  pub last_some_keeps : (w : ExprWalk) → ExprKeeps w → (span : Span) (scope : Scope) (expected : HlType) (rule : Rule) → Keeps (last_walk (Some w) span scope expected rule)
  last_some_keeps w h span scope expected rule = then_keeps (h scope expected K6) (λ last. done_keeps)

  let_keeps : (aliases : List TypedName) (pattern : Pattern) (text : TypeText) (w : ExprWalk) → ExprKeeps w → StatementKeeps (let_walk aliases pattern text w)
  let_keeps aliases pattern text w h scope = step_keeps (walk aliases text) (λ (kind : HlType). step_keeps (pattern_walk pattern kind []) (λ (bound : Scope). then_keeps (h scope kind K6) (λ found. done_keeps)))

  plain_keeps : (w : ExprWalk) → ExprKeeps w → StatementKeeps (plain_walk w)
  plain_keeps w h scope = then_keeps (h scope unit_type K23) (λ found. done_keeps)

  module _ (c : Context) (same : c.edition ≡ edition) where
    abbrev FormKeeps : FormWalk → Type 0
    FormKeeps w = (span : Span) (scope : Scope) (expected : HlType) (rule : Rule) → Keeps (w span scope expected rule)

    abbrev FormClaim : ExprForm → Type 0
    FormClaim form = FormKeeps (form_walk c form)

    abbrev StatementClaim : Statement → Type 0
    StatementClaim st = StatementKeeps (statement_walk c st)

    abbrev pub arm_walk : Arm → ArmWalk
    arm_walk arm = fold-Arm FormWalk StatementWalk ArmWalk ExprWalk (form_step c) (statement_step c) (arm_step c) (expr_step c) arm

    abbrev ArmClaim : Arm → Type 0
    ArmClaim arm = ExprKeeps (arm_walk arm).body

    abbrev Claim : Expr → Type 0
    Claim e = ExprKeeps (expr_walk c e)

    abbrev KeptForm : Type 0
    KeptForm = (form : ExprForm) × FormClaim form

    abbrev KeptStatement : Type 0
    KeptStatement = (st : Statement) × StatementClaim st

    abbrev KeptArm : Type 0
    KeptArm = (arm : Arm) × ArmClaim arm

    abbrev Kept : Type 0
    Kept = (e : Expr) × Claim e

    abbrev form_of : KeptForm → ExprForm
    form_of p = p.0

    abbrev statement_of : KeptStatement → Statement
    statement_of p = p.0

    abbrev arm_of : KeptArm → Arm
    arm_of p = p.0

    abbrev expr_of : Kept → Expr
    expr_of p = p.0

    -- the walks of parts that are kept
    abbrev walks_of : List Kept → List ExprWalk
    walks_of ps = map (expr_walk c) (map expr_of ps)

    all_keep : (ps : List Kept) → Every ExprKeeps (walks_of ps)
    all_keep [] = tt
    all_keep (p ∷ ps) = (p.1, all_keep ps)

    abbrev statement_walks : List KeptStatement → List StatementWalk
    statement_walks ps = map (statement_walk c) (map statement_of ps)

    all_statements_keep : (ps : List KeptStatement) → Every StatementKeeps (statement_walks ps)
    all_statements_keep [] = tt
    all_statements_keep (p ∷ ps) = (p.1, all_statements_keep ps)

    abbrev Layer : Type 0
    Layer = ExprForm-F ExprForm Statement Arm Expr

    abbrev walk_layer : Layer → FormWalk
    walk_layer layer = form_step c (map-ExprForm ExprForm Statement Arm Expr FormWalk StatementWalk ArmWalk ExprWalk (form_walk c) (statement_walk c) arm_walk (expr_walk c) layer)

    abbrev layer_of : ExprForm-F KeptForm KeptStatement KeptArm Kept → Layer
    layer_of y = map-ExprForm KeptForm KeptStatement KeptArm Kept ExprForm Statement Arm Expr form_of statement_of arm_of expr_of y

    layer_keeps : (y : ExprForm-F KeptForm KeptStatement KeptArm Kept) → FormKeeps (walk_layer (layer_of y))
    layer_keeps (ExprForm-F.Block ps None) span scope expected rule = then_keeps (statements_keep (statement_walks ps) (all_statements_keep ps) scope) (λ found. then_keeps (last_none_keeps span found.1 expected rule) (λ end. done_keeps))
    layer_keeps (ExprForm-F.Block ps (Some p)) span scope expected rule =
        then_keeps (statements_keep (statement_walks ps) (all_statements_keep ps) scope) (λ found. then_keeps (last_some_keeps (expr_walk c p.0) p.1 span found.1 expected rule) (λ end. done_keeps))
    layer_keeps (ExprForm-F.Match p []) span scope expected rule = refuse_keeps
    layer_keeps (ExprForm-F.Match p (one ∷ [])) span scope expected rule = refuse_keeps
    layer_keeps (ExprForm-F.Match p (one ∷ two ∷ [])) span scope expected rule =
        needs_keeps (are_sides (arm_walk one.0).side (arm_walk two.0).side) K13 span (step_keeps (side_walk c.aliases (arm_walk one.0).side) (λ (first : TypedSide × Scope).
        step_keeps (side_walk c.aliases (arm_walk two.0).side) (λ (second : TypedSide × Scope). then_keeps (p.1 scope (matched_type first.0 second.0) K6) (λ value.
        then_keeps (one.1 (first.1 ++ scope) expected K6) (λ body. then_keeps (two.1 (second.1 ++ scope) expected K6) (λ others. done_keeps))))))
    layer_keeps (ExprForm-F.Match p (one ∷ two ∷ three ∷ more)) span scope expected rule = refuse_keeps
    layer_keeps (ExprForm-F.Tuple ps) span scope expected rule =
        wants_keeps (parts_of expected) rule span (λ kinds. needs_keeps (nat_eq (length (walks_of ps)) (length kinds)) K8 span
        (then_keeps (parts_keep (walks_of ps) (all_keep ps) kinds scope) (λ found. done_keeps)))
    layer_keeps (ExprForm-F.Array ps) span scope expected rule =
        wants_keeps (array_of expected) rule span (λ (array : HlType × ℕ). needs_keeps (nat_eq (length (walks_of ps)) array.1) K8 span
        (then_keeps (items_keep (walks_of ps) (all_keep ps) array.0 scope) (λ found. done_keeps)))
    layer_keeps (ExprForm-F.List ps) span scope expected rule =
        wants_keeps (list_of expected) rule span (λ (list : HlType × ℕ). needs_keeps (nat_lt (length (walks_of ps)) list.1) K9 span
        (then_keeps (items_keep (walks_of ps) (all_keep ps) list.0 scope) (λ found. done_keeps)))
    layer_keeps (ExprForm-F.Assert p) span scope expected rule = needs_keeps (same_type unit_type expected) rule span (then_keeps (p.1 scope kind.Bool K6) (λ found. done_keeps))
    layer_keeps (ExprForm-F.Dbg p) span scope expected rule = then_keeps (p.1 scope expected K6) (λ found. done_keeps)
    layer_keeps ExprForm-F.Panic span scope expected rule = done_keeps
    layer_keeps (ExprForm-F.Jet name ps) span scope expected rule =
        wants_keeps (jet_named name.text) K22 name.span (λ (row : Row). needs_keeps (nat_eq (length (walks_of ps)) (length (jet_arguments row))) K11 span
        (needs_keeps (same_type (jet_result row) expected) rule span (then_keeps (parts_keep (walks_of ps) (all_keep ps) (jet_arguments row) scope) (λ found. done_keeps))))
    layer_keeps (ExprForm-F.Witness name) span scope expected rule = needs_keeps c.in_main K16 name.span (λ met after y e.
        let w : TypedName = record { name = name.text; kind = expected } in
        let r = ran (needs (may_stand c.edition met name.text expected) K17 name.span met) _ (y, after) e in
        let n = ran (steps.needs (may_stand c.edition met name.text expected) K17 name.span) _ r.from r.was in
        let is : met ++ w ∷ [] ≡ after = ap (λ p. p.1) (ok_same r.is) in
        let may : may_stand edition met name.text expected ≡ true = ap (λ d. may_stand d met name.text expected) (sym same) ∙ needs_ok (may_stand c.edition met name.text expected) K17 name.span n.from n.was in
        record { back = λ v. every_first P met (w ∷ []) (subst (Every P) (sym is) v); on = λ v. subst (Apart edition) is (apart_more edition met w may v) })
    layer_keeps (ExprForm-F.Param name) span scope expected rule =
        wants_keeps (entry_named c.entries name.text) K18 name.span (λ (entry : Entry). needs_keeps (same_type entry.kind expected) K19 name.span done_keeps)
    layer_keeps (ExprForm-F.Into text p) span scope expected rule =
        step_keeps (walk c.aliases text) (λ (source : HlType). needs_keeps (same_kind (form source) (form expected)) K12 span (then_keeps (p.1 scope source K6) (λ found. done_keeps)))
    layer_keeps (ExprForm-F.Unwrap p) span scope expected rule = then_keeps (p.1 scope (kind.Option expected) K6) (λ found. done_keeps)
    layer_keeps (ExprForm-F.UnwrapLeft text p) span scope expected rule = step_keeps (walk c.aliases text) (λ (other : HlType). then_keeps (p.1 scope (kind.Either expected other) K6) (λ found. done_keeps))
    layer_keeps (ExprForm-F.UnwrapRight text p) span scope expected rule = step_keeps (walk c.aliases text) (λ (other : HlType). then_keeps (p.1 scope (kind.Either other expected) K6) (λ found. done_keeps))
    layer_keeps (ExprForm-F.IsNone text p) span scope expected rule =
        step_keeps (walk c.aliases text) (λ (item : HlType). needs_keeps (same_type kind.Bool expected) rule span (then_keeps (p.1 scope (kind.Option item) K6) (λ found. done_keeps)))
    layer_keeps (ExprForm-F.Fold name count one two) span scope expected rule =
        wants_keeps (function_named c.functions name.text) K3 name.span (λ (f : TypedFunction). step_keeps (counted count) (λ (bound : ℕ). needs_keeps (is_bound bound) K15 count.span
        (wants_keeps (fold_shape (param_types f) f.result) K14 name.span (λ (shape : HlType × HlType). needs_keeps (same_type f.result expected) rule span
        (then_keeps (one.1 scope (kind.List shape.0 bound) K6) (λ items. then_keeps (two.1 scope shape.1 K6) (λ start. done_keeps)))))))
    layer_keeps (ExprForm-F.ArrayFold name count one two) span scope expected rule =
        wants_keeps (function_named c.functions name.text) K3 name.span (λ (f : TypedFunction). step_keeps (counted count) (λ (length : ℕ).
        wants_keeps (fold_shape (param_types f) f.result) K14 name.span (λ (shape : HlType × HlType). needs_keeps (same_type f.result expected) rule span
        (then_keeps (one.1 scope (kind.Array shape.0 length) K6) (λ items. then_keeps (two.1 scope shape.1 K6) (λ start. done_keeps))))))
    layer_keeps (ExprForm-F.ForWhile name one two) span scope expected rule =
        wants_keeps (function_named c.functions name.text) K3 name.span (λ (f : TypedFunction). wants_keeps (while_shape (param_types f) f.result) K14 name.span (λ (shape : HlType × HlType).
        needs_keeps (same_type f.result expected) rule span (then_keeps (one.1 scope shape.0 K6) (λ start. then_keeps (two.1 scope shape.1 K6) (λ given. done_keeps)))))
    layer_keeps (ExprForm-F.Left p) span scope expected rule = wants_keeps (either_of expected) rule span (λ (sides : HlType × HlType). then_keeps (p.1 scope sides.0 K6) (λ found. done_keeps))
    layer_keeps (ExprForm-F.Right p) span scope expected rule = wants_keeps (either_of expected) rule span (λ (sides : HlType × HlType). then_keeps (p.1 scope sides.1 K6) (λ found. done_keeps))
    layer_keeps (ExprForm-F.Some p) span scope expected rule = wants_keeps (option_of expected) rule span (λ (item : HlType). then_keeps (p.1 scope item K6) (λ found. done_keeps))
    layer_keeps ExprForm-F.Nothing span scope expected rule = wants_keeps (option_of expected) rule span (λ item. done_keeps)
    layer_keeps ExprForm-F.True span scope expected rule = needs_keeps (same_type kind.Bool expected) rule span done_keeps
    layer_keeps ExprForm-F.False span scope expected rule = needs_keeps (same_type kind.Bool expected) rule span done_keeps
    layer_keeps (ExprForm-F.Literal word) span scope expected rule = wants_keeps (width_of expected) rule span (λ (width : ℕ). needs_keeps (nat_lt (literal_value word) (2 ^ width)) K7 span done_keeps)
    layer_keeps (ExprForm-F.Call name ps) span scope expected rule =
        wants_keeps (function_named c.functions name.text) K3 name.span (λ (f : TypedFunction). needs_keeps (nat_eq (length (walks_of ps)) (length f.params)) K11 span
        (needs_keeps (same_type f.result expected) rule span (then_keeps (parts_keep (walks_of ps) (all_keep ps) (param_types f) scope) (λ found. done_keeps))))
    layer_keeps (ExprForm-F.Name name) span scope expected rule = wants_keeps (variable_type scope name) K4 span (λ (known : HlType). needs_keeps (same_type known expected) rule span done_keeps)

    form_claim : (y : ExprForm-F KeptForm KeptStatement KeptArm Kept) → FormClaim (roll-ExprForm (layer_of y))
    form_claim y = subst FormKeeps (sym (fold-roll-ExprForm FormWalk StatementWalk ArmWalk ExprWalk (form_step c) (statement_step c) (arm_step c) (expr_step c) (layer_of y))) (layer_keeps y)

    abbrev statement_layer : Statement-F KeptForm KeptStatement KeptArm Kept → Statement-F ExprForm Statement Arm Expr
    statement_layer y = map-Statement KeptForm KeptStatement KeptArm Kept ExprForm Statement Arm Expr form_of statement_of arm_of expr_of y

    statement_claim : (y : Statement-F KeptForm KeptStatement KeptArm Kept) → StatementClaim (roll-Statement (statement_layer y))
    statement_claim (Statement-F.Let pattern text p stands) =
        subst StatementKeeps (sym (fold-roll-Statement FormWalk StatementWalk ArmWalk ExprWalk (form_step c) (statement_step c) (arm_step c) (expr_step c) (Statement-F.Let pattern text p.0 stands)))
        (let_keeps c.aliases pattern text (expr_walk c p.0) p.1)
    statement_claim (Statement-F.Plain p) =
        subst StatementKeeps (sym (fold-roll-Statement FormWalk StatementWalk ArmWalk ExprWalk (form_step c) (statement_step c) (arm_step c) (expr_step c) (Statement-F.Plain p.0)))
        (plain_keeps (expr_walk c p.0) p.1)

    arm_claim : (arm : Arm) → Claim arm.body → ArmClaim arm
    arm_claim arm h = subst (λ (w : ArmWalk). ExprKeeps w.body) (sym (fold_out-Arm FormWalk StatementWalk ArmWalk ExprWalk (form_step c) (statement_step c) (arm_step c) (expr_step c) arm)) h

    expr_claim : (e : Expr) → FormClaim e.form → Claim e
    expr_claim e h =
        subst ExprKeeps (sym (fold_out-Expr FormWalk StatementWalk ArmWalk ExprWalk (form_step c) (statement_step c) (arm_step c) (expr_step c) e))
        (λ scope expected rule. then_keeps (h e.span scope expected rule) (λ found. done_keeps))

    pub expr_keeps : (e : Expr) → Claim e
    expr_keeps =
        ind-Expr FormClaim StatementClaim ArmClaim Claim
        (λ x y is. subst (λ z. FormClaim (roll-ExprForm z)) is (form_claim y))
        (λ x y is. subst (λ z. StatementClaim (roll-Statement z)) is (statement_claim y))
        (λ x y is. subst (λ z. ArmClaim (roll-Arm z)) is (arm_claim _ y.body.1))
        (λ x y is. expr_claim (roll-Expr x) (subst (λ (e : Expr-F ExprForm Statement Arm Expr). FormClaim e.form) is y.form.1))

    pub statement_keeps : (st : Statement) → StatementClaim st
    statement_keeps =
        ind-Statement FormClaim StatementClaim ArmClaim Claim
        (λ x y is. subst (λ z. FormClaim (roll-ExprForm z)) is (form_claim y))
        (λ x y is. subst (λ z. StatementClaim (roll-Statement z)) is (statement_claim y))
        (λ x y is. subst (λ z. ArmClaim (roll-Arm z)) is (arm_claim _ y.body.1))
        (λ x y is. expr_claim (roll-Expr x) (subst (λ (e : Expr-F ExprForm Statement Arm Expr). FormClaim e.form) is y.form.1))

  -- Functions and items.

  pub function_keeps : (entries : List Entry) (known : Known) (name : Mark) (params : List Param) (text : Option TypeText) (body : Expr) → Keeps (function_walk entries edition known name params text body)
  function_keeps entries known name params text body =
      step_keeps (head_walk known.aliases known.functions name params text) (λ (head : Head).
      then_keeps (expr_keeps (record { aliases = known.aliases; functions = known.functions; entries = entries; in_main = is_main name.text; edition = edition }) refl body head.params head.result K6) (λ found. done_keeps))

  item_keeps : (entries : List Entry) (known : Known) (item : Item) → Keeps (item_walk entries edition known item)
  item_keeps entries known (items.Alias name text span) = step_keeps (alias_walk known.aliases name text) (λ aliases. done_keeps)
  item_keeps entries known (items.Function name params text body span) = then_keeps (function_keeps entries known name params text body) (λ found. done_keeps)

  pub program_keeps : (entries : List Entry) (known : Known) (program : List Item) → Keeps (programs.items_walk entries edition known program)
  program_keeps entries known [] = done_keeps
  program_keeps entries known (item ∷ more) = then_keeps (item_keeps entries known item) (λ next. program_keeps entries next more)
