-- Where the walk of a form answers, the walk of each of its parts did.
use Rattle.std.proofs.Common.{◌≡◌, ℕ, Bool, true, false, nat_eq, nat_lt, eqb-true, List, [], ◌∷◌, ◌++◌, length, map, flat_map, Some, Ok, Err, refl, sym, ap, ◌∙◌, subst, append_assoc, append-nil, arith, length-append}
use Rattle.std.specs.Prelude.{if◌then◌else◌}
use Rattle.std.proofs.lemmas.List.{length-map}
use Rattle.hl_data.specs.declared.typed.TypedExpr.{TypedExpr}
use Rattle.hl_data.specs.declared.typed.TypedForm.{TypedForm}
use Rattle.hl_data.specs.declared.typed.TypedFunction.{TypedFunction}
use Rattle.hl_data.specs.declared.value.Entry.{Entry}
use Rattle.hl_syntax.specs.declared.kinds.HlType.{HlType}
use Rattle.hl_syntax.specs.declared.kinds.HlType.TheVariants as kind
use Rattle.hl_syntax.specs.declared.kinds.TypedName.{TypedName}
use Rattle.hl_syntax.specs.declared.rules.Rule.{Rule}
use Rattle.hl_syntax.specs.declared.rules.Rule.TheVariants.{K3, K6, K8, K9, K11, K12, K14, K15, K22}
use Rattle.hl_syntax.specs.declared.rules.Limit.TheVariants.{L4}
use Rattle.hl_syntax.specs.declared.token.Mark.{Mark}
use Rattle.hl_syntax.specs.declared.token.Span.{Span}
use Rattle.hl_syntax.specs.declared.tree.Arm.{Arm}
use Rattle.hl_syntax.specs.declared.tree.Expr.{Expr}
use Rattle.hl_syntax.specs.declared.tree.ExprForm.{ExprForm, roll-ExprForm}
use Rattle.hl_syntax.specs.declared.tree.ExprForm.TheFolds.{fold-Arm, fold-roll-ExprForm, fold_out-Expr, map-ExprForm}
use Rattle.hl_syntax.specs.declared.tree.ExprForm.TheOpen.{ExprForm-F}
use Rattle.hl_syntax.specs.declared.tree.ExprForm.TheVariants as exprs
use Rattle.hl_syntax.specs.declared.tree.Item.{Item}
use Rattle.hl_syntax.specs.declared.tree.Statement.{Statement}
use Rattle.simplicityhl.specs.Kinds.{form, is_bound, is_count}
use Rattle.simplicityhl.specs.Tokens.{decimal_value}
use Rattle.simplicityhl.specs.Written.{Broken, breaks_limit, walk, counted, then_walk}
use Rattle.hl_rules.specs.Before.{Signature, signature_named}
use Rattle.hl_rules.specs.Exprs.{ExprWalk, FormWalk, StatementWalk, ArmWalk, form_step, statement_step, arm_step, expr_step, expr_walk, form_walk, statement_walk, parts_walk, items_walk, param_types, jet_named, jet_arguments, jet_result, fold_shape, while_shape}
use Rattle.hl_rules.specs.Occurs.{Place, Occurs, HasParts, Leaves, no_statement, after_let, after_plain, part, inside, with_scope, alone}
use Rattle.hl_rules.specs.Occurs as occurs
use Rattle.hl_rules.specs.Places.{Scope, function_named}
use Rattle.hl_rules.specs.Same.{same_type, same_kind, unit_type, parts_of, array_of, list_of, option_of, either_of}
use Rattle.hl_rules.specs.Witnesses.{Names, expr_names}
use Rattle.hl_rules.proofs.Bodies.{expr_fine}
use Rattle.hl_rules.proofs.Fine.{Fine}
use Rattle.hl_rules.proofs.Here.{Setting, Here, Met, ◌⊙◌, Meets, Bad, context, place, rule_of, signature_of, signature_found}
use Rattle.hl_rules.proofs.Names.{flat_more}
use Rattle.hl_typing.proofs.Every.{Every}
use Rattle.hl_typing.proofs.Keeping.{ExprKeeps, expr_keeps, parts_keep, items_keep}
use Rattle.hl_typing.proofs.Steps.{ran, ok_same}
use Rattle.hl_typing.proofs.There.{wants_is, needs_there, step_there, step_is, mapped}

count_by : (b : Bool) (n m : ℕ) (broken : Broken) → (if b then Ok n else Err broken) ≡ Ok m → n ≡ m
count_by true n m broken e = ok_same e
count_by false n m broken e = absurd (cc)

count_is : (mark : Mark) (n : ℕ) → counted mark ≡ Ok n → decimal_value mark.text ≡ n
count_is mark n e = count_by (is_count (decimal_value mark.text)) (decimal_value mark.text) n (breaks_limit L4 mark.span) e

-- the walk of a form at a place answered
pub record Runs (program : List Item) (asked : List ℕ) (entries : List Entry) (edition end : ℕ) (P : TypedName → Type 0) (at : Place) (form : ExprForm) (span : Span) : Type 0 where
  pub aliases : List TypedName
  pub functions : List TypedFunction
  pub in_main : Bool
  pub here : Here program
  pub place_is : place (record { program = program; asked = asked; entries = entries; edition = edition; end = end; aliases = aliases; functions = functions; in_main = in_main }) here ≡ at
  pub found : TypedForm × List TypedName
  pub runs : form_walk (record { aliases = aliases; functions = functions; entries = entries; in_main = in_main; edition = edition }) form span here.scope here.expected (rule_of here.alone) here.met ≡ Ok found
  -- what is asked of witnesses holds of those that are met up to its end
  pub kept : Every P found.1

module _ (s : Setting) where
  -- a form by its layer
  abbrev pub arm_walk : Arm → ArmWalk
  arm_walk arm = fold-Arm FormWalk StatementWalk ArmWalk ExprWalk (form_step (context s)) (statement_step (context s)) (arm_step (context s)) (expr_step (context s)) arm

  abbrev pub walk_layer : ExprForm-F ExprForm Statement Arm Expr → FormWalk
  walk_layer layer = form_step (context s) (map-ExprForm ExprForm Statement Arm Expr FormWalk StatementWalk ArmWalk ExprWalk (form_walk (context s)) (statement_walk (context s)) arm_walk (expr_walk (context s)) layer)

  pub opened : (layer : ExprForm-F ExprForm Statement Arm Expr) (form : ExprForm) → roll-ExprForm layer ≡ form → (span : Span) (h : Here s.program) (r : TypedForm × List TypedName) →
      form_walk (context s) form span h.scope h.expected (rule_of h.alone) h.met ≡ Ok r → walk_layer layer span h.scope h.expected (rule_of h.alone) h.met ≡ Ok r
  opened layer form is span h r runs =
      let walks : walk_layer layer ≡ form_walk (context s) form = sym (fold-roll-ExprForm FormWalk StatementWalk ArmWalk ExprWalk (form_step (context s)) (statement_step (context s)) (arm_step (context s)) (expr_step (context s)) layer) ∙ ap (form_walk (context s)) is in
      ap (λ (w : FormWalk). w span h.scope h.expected (rule_of h.alone) h.met) walks ∙ runs

  abbrev pub Ran : Expr → Scope → HlType → Rule → List TypedName → TypedExpr × List TypedName → Type 0
  Ran e scope k rule met found = expr_walk (context s) e scope k rule met ≡ Ok found

  -- the names that are met after an expression
  pub meets : (e : Expr) (h : Here s.program) → Occurs s.program (place s h) e.form e.span → (found : TypedExpr × List TypedName) → Ran e h.scope h.expected (rule_of h.alone) h.met found → Met s.program (h.before ++ expr_names e) found.1
  meets e h at found is = subst (Fine (Bad s) (Meets s.program (h.before ++ expr_names e))) is (expr_fine s e h at)

  as_many : (es : List Expr) (n : ℕ) → nat_eq (length (map (expr_walk (context s)) es)) n ≡ true → length es ≡ n
  as_many es n e = sym (length-map es (expr_walk (context s))) ∙ eqb-true _ _ e

  -- the function that a form calls, by its head
  pub known : (name : List ℕ) (f : Signature) → signature_named (map signature_of s.functions) name ≡ Some f → (g : TypedFunction) × (function_named s.functions name ≡ Some g) × (signature_of g ≡ f)
  known name f is = mapped signature_of (function_named s.functions name) f (sym (signature_found s.functions name) ∙ is)

module _ (P : TypedName → Type 0) (s : Setting) where
  abbrev pub RunsHere : Place → ExprForm → Span → Type 0
  RunsHere = Runs s.program s.asked s.entries s.edition s.end P

  -- the walk of an expression is that of its form
  pub runs_at : (e : Expr) (h : Here s.program) (found : TypedExpr × List TypedName) → Ran s e h.scope h.expected (rule_of h.alone) h.met found → Every P found.1 → RunsHere (place s h) e.form e.span
  runs_at e h found is kept =
      let walks = fold_out-Expr FormWalk StatementWalk ArmWalk ExprWalk (form_step (context s)) (statement_step (context s)) (arm_step (context s)) (expr_step (context s)) e in
      let r = ran (form_walk (context s) e.form e.span h.scope h.expected (rule_of h.alone) h.met) _ found (sym (ap (λ (w : ExprWalk). w h.scope h.expected (rule_of h.alone) h.met) walks) ∙ is) in
      record {
        aliases = s.aliases;
        functions = s.functions;
        in_main = s.in_main;
        here = h;
        place_is = refl;
        found = r.from;
        runs = r.was;
        kept = subst (Every P) (sym (ap (λ (x : TypedExpr × List TypedName). x.1) (ok_same r.is))) kept;
      }

  -- parts, one after the other
  abbrev pub AllRan : Scope → List TypedName → List Expr → List HlType → Type 0
  AllRan scope met [] ks = Unit {0}
  AllRan scope met (e ∷ es) [] = ⊥
  AllRan scope met (e ∷ es) (k ∷ ks) = (found : TypedExpr × List TypedName) × Ran s e scope k K6 met found × Every P found.1 × AllRan scope found.1 es ks

  -- the walks of expressions take no witness away
  all_keep : (es : List Expr) → Every (ExprKeeps s.edition P) (map (expr_walk (context s)) es)
  all_keep [] = tt
  all_keep (e ∷ es) = (expr_keeps s.edition P (context s) refl e, all_keep es)

  parts_ran : (es : List Expr) (ks : List HlType) (scope : Scope) (met : List TypedName) (r : List TypedExpr × List TypedName) → length es ≡ length ks → parts_walk (map (expr_walk (context s)) es) ks scope met ≡ Ok r → Every P r.1 → AllRan scope met es ks
  parts_ran [] ks scope met r long h kept = tt
  parts_ran (e ∷ es) [] scope met r long h kept = absurd (omega (arith, long))
  parts_ran (e ∷ es) (k ∷ ks) scope met r long h kept =
      let a = ran (expr_walk (context s) e scope k K6 met) _ r h in
      let b = ran (parts_walk (map (expr_walk (context s)) es) ks scope a.from.1) _ r a.is in
      let rest : Every P b.from.1 = subst (Every P) (sym (ap (λ (x : List TypedExpr × List TypedName). x.1) (ok_same b.is))) kept in
      let first : Every P a.from.1 = (parts_keep s.edition P (map (expr_walk (context s)) es) (all_keep es) ks scope a.from.1 b.from.1 b.from.0 b.was).back rest in
      (a.from, a.was, first, parts_ran es ks scope a.from.1 b.from (omega (arith, long)) b.was rest)

  items_ran : (es : List Expr) (item : HlType) (scope : Scope) (met : List TypedName) (r : List TypedExpr × List TypedName) → items_walk (map (expr_walk (context s)) es) item scope met ≡ Ok r → Every P r.1 → AllRan scope met es (map (λ _. item) es)
  items_ran [] item scope met r h kept = tt
  items_ran (e ∷ es) item scope met r h kept =
      let a = ran (expr_walk (context s) e scope item K6 met) _ r h in
      let b = ran (items_walk (map (expr_walk (context s)) es) item scope a.from.1) _ r a.is in
      let rest : Every P b.from.1 = subst (Every P) (sym (ap (λ (x : List TypedExpr × List TypedName). x.1) (ok_same b.is))) kept in
      let first : Every P a.from.1 = (items_keep s.edition P (map (expr_walk (context s)) es) (all_keep es) item scope a.from.1 b.from.1 b.from.0 b.was).back rest in
      (a.from, a.was, first, items_ran es item scope a.from.1 b.from b.was rest)

  -- a form of one part, or of two, that gives a form of theirs
  one_ran : (e : Expr) (k : HlType) (h : Here s.program) (next : TypedExpr → TypedForm) (r : TypedForm × List TypedName) →
      then_walk (expr_walk (context s) e h.scope k K6 h.met) (λ found. Ok (next found.0, found.1)) ≡ Ok r → Every P r.1 → AllRan h.scope h.met (e ∷ []) (k ∷ [])
  one_ran e k h next r is kept =
      let a = ran (expr_walk (context s) e h.scope k K6 h.met) _ r is in
      (a.from, a.was, subst (Every P) (sym (ap (λ (x : TypedForm × List TypedName). x.1) (ok_same a.is))) kept, tt)

  two_ran : (e f : Expr) (k l : HlType) (h : Here s.program) (next : TypedExpr → TypedExpr → TypedForm) (r : TypedForm × List TypedName) →
      then_walk (expr_walk (context s) e h.scope k K6 h.met) (λ found. then_walk (expr_walk (context s) f h.scope l K6 found.1) (λ other. Ok (next found.0 other.0, other.1))) ≡ Ok r → Every P r.1 →
      AllRan h.scope h.met (e ∷ f ∷ []) (k ∷ l ∷ [])
  two_ran e f k l h next r is kept =
      let a = ran (expr_walk (context s) e h.scope k K6 h.met) _ r is in
      let b = ran (expr_walk (context s) f h.scope l K6 a.from.1) _ r a.is in
      let last : Every P b.from.1 = subst (Every P) (sym (ap (λ (x : TypedForm × List TypedName). x.1) (ok_same b.is))) kept in
      (a.from, a.was, (expr_keeps s.edition P (context s) refl f h.scope l K6 a.from.1 b.from.1 b.from.0 b.was).back last, (b.from, b.was, last, tt))

  module _ (span : Span) (h : Here s.program) (r : TypedForm × List TypedName) (kept : Every P r.1) where
    abbrev Answers : ExprForm → Type 0
    Answers form = form_walk (context s) form span h.scope h.expected (rule_of h.alone) h.met ≡ Ok r

    abbrev All : List Expr → List HlType → Type 0
    All = AllRan h.scope h.met

    all_ran : (form : ExprForm) (whole : List Expr) (kinds : List HlType) → HasParts (place s h) form whole kinds → Answers form → All whole kinds
    all_ran _ _ _ (occurs.tuple parts kinds is) w =
        let a = wants_is (parts_of h.expected) kinds (rule_of h.alone) span h.met _ r is (opened s (ExprForm-F.Tuple parts) (exprs.Tuple parts) (exprs.rolls-Tuple parts) span h r w) in
        let b = needs_there (nat_eq (length (map (expr_walk (context s)) parts)) (length kinds)) K8 span h.met _ r a in
        let c = ran (parts_walk (map (expr_walk (context s)) parts) kinds h.scope h.met) _ r b.1 in
        parts_ran parts kinds h.scope h.met c.from (as_many s parts (length kinds) b.0) c.was (subst (Every P) (sym (ap (λ (x : TypedForm × List TypedName). x.1) (ok_same c.is))) kept)
    all_ran _ _ _ (occurs.array parts item count is) w =
        let a = wants_is (array_of h.expected) (item, count) (rule_of h.alone) span h.met _ r is (opened s (ExprForm-F.Array parts) (exprs.Array parts) (exprs.rolls-Array parts) span h r w) in
        let b = needs_there (nat_eq (length (map (expr_walk (context s)) parts)) count) K8 span h.met _ r a in
        let c = ran (items_walk (map (expr_walk (context s)) parts) item h.scope h.met) _ r b.1 in
        items_ran parts item h.scope h.met c.from c.was (subst (Every P) (sym (ap (λ (x : TypedForm × List TypedName). x.1) (ok_same c.is))) kept)
    all_ran _ _ _ (occurs.list parts item bound is) w =
        let a = wants_is (list_of h.expected) (item, bound) (rule_of h.alone) span h.met _ r is (opened s (ExprForm-F.List parts) (exprs.List parts) (exprs.rolls-List parts) span h r w) in
        let b = needs_there (nat_lt (length (map (expr_walk (context s)) parts)) bound) K9 span h.met _ r a in
        let c = ran (items_walk (map (expr_walk (context s)) parts) item h.scope h.met) _ r b.1 in
        items_ran parts item h.scope h.met c.from c.was (subst (Every P) (sym (ap (λ (x : TypedForm × List TypedName). x.1) (ok_same c.is))) kept)
    all_ran _ _ _ (occurs.left e one two is) w =
        one_ran e one h _ r (wants_is (either_of h.expected) (one, two) (rule_of h.alone) span h.met _ r is (opened s (ExprForm-F.Left e) (exprs.Left e) (exprs.rolls-Left e) span h r w)) kept
    all_ran _ _ _ (occurs.right e one two is) w =
        one_ran e two h _ r (wants_is (either_of h.expected) (one, two) (rule_of h.alone) span h.met _ r is (opened s (ExprForm-F.Right e) (exprs.Right e) (exprs.rolls-Right e) span h r w)) kept
    all_ran _ _ _ (occurs.some e item is) w =
        one_ran e item h _ r (wants_is (option_of h.expected) item (rule_of h.alone) span h.met _ r is (opened s (ExprForm-F.Some e) (exprs.Some e) (exprs.rolls-Some e) span h r w)) kept
    all_ran _ _ _ (occurs.assert e) w =
        one_ran e kind.Bool h _ r (needs_there (same_type unit_type h.expected) (rule_of h.alone) span h.met _ r (opened s (ExprForm-F.Assert e) (exprs.Assert e) (exprs.rolls-Assert e) span h r w)).1 kept
    all_ran _ _ _ (occurs.dbg e) w = one_ran e h.expected h _ r (opened s (ExprForm-F.Dbg e) (exprs.Dbg e) (exprs.rolls-Dbg e) span h r w) kept
    all_ran _ _ _ (occurs.into text e source is) w =
        one_ran e source h _ r (needs_there (same_kind (form source) (form h.expected)) K12 span h.met _ r (step_is (walk s.aliases text) source h.met _ r is (opened s (ExprForm-F.Into text e) (exprs.Into text e) (exprs.rolls-Into text e) span h r w))).1 kept
    all_ran _ _ _ (occurs.unwrap e) w = one_ran e (kind.Option h.expected) h _ r (opened s (ExprForm-F.Unwrap e) (exprs.Unwrap e) (exprs.rolls-Unwrap e) span h r w) kept
    all_ran _ _ _ (occurs.unwrap_left text e other is) w =
        one_ran e (kind.Either h.expected other) h _ r (step_is (walk s.aliases text) other h.met _ r is (opened s (ExprForm-F.UnwrapLeft text e) (exprs.UnwrapLeft text e) (exprs.rolls-UnwrapLeft text e) span h r w)) kept
    all_ran _ _ _ (occurs.unwrap_right text e other is) w =
        one_ran e (kind.Either other h.expected) h _ r (step_is (walk s.aliases text) other h.met _ r is (opened s (ExprForm-F.UnwrapRight text e) (exprs.UnwrapRight text e) (exprs.rolls-UnwrapRight text e) span h r w)) kept
    all_ran _ _ _ (occurs.is_none text e item is) w =
        one_ran e (kind.Option item) h _ r (needs_there (same_type kind.Bool h.expected) (rule_of h.alone) span h.met _ r (step_is (walk s.aliases text) item h.met _ r is (opened s (ExprForm-F.IsNone text e) (exprs.IsNone text e) (exprs.rolls-IsNone text e) span h r w))).1 kept
    all_ran _ _ _ (occurs.jet name arguments row is) w =
        let a = wants_is (jet_named name.text) row K22 name.span h.met _ r is (opened s (ExprForm-F.Jet name arguments) (exprs.Jet name arguments) (exprs.rolls-Jet name arguments) span h r w) in
        let b = needs_there (nat_eq (length (map (expr_walk (context s)) arguments)) (length (jet_arguments row))) K11 span h.met _ r a in
        let c = needs_there (same_type (jet_result row) h.expected) (rule_of h.alone) span h.met _ r b.1 in
        let d = ran (parts_walk (map (expr_walk (context s)) arguments) (jet_arguments row) h.scope h.met) _ r c.1 in
        parts_ran arguments (jet_arguments row) h.scope h.met d.from (as_many s arguments (length (jet_arguments row)) b.0) d.was (subst (Every P) (sym (ap (λ (x : TypedForm × List TypedName). x.1) (ok_same d.is))) kept)
    all_ran _ _ _ (occurs.call name arguments f is) w =
        let g = known s name.text f is in
        let a = wants_is (function_named s.functions name.text) g.0 K3 name.span h.met _ r g.1 (opened s (ExprForm-F.Call name arguments) (exprs.Call name arguments) (exprs.rolls-Call name arguments) span h r w) in
        let b = needs_there (nat_eq (length (map (expr_walk (context s)) arguments)) (length g.0.params)) K11 span h.met _ r a in
        let c = needs_there (same_type g.0.result h.expected) (rule_of h.alone) span h.met _ r b.1 in
        let d = ran (parts_walk (map (expr_walk (context s)) arguments) (param_types g.0) h.scope h.met) _ r c.1 in
        let many : length arguments ≡ length (param_types g.0) = as_many s arguments (length g.0.params) b.0 ∙ sym (length-map g.0.params (λ (p : TypedName). p.kind)) in
        subst (λ (f : Signature). All arguments (map (λ (p : TypedName). p.kind) f.params)) g.2 (parts_ran arguments (param_types g.0) h.scope h.met d.from many d.was (subst (Every P) (sym (ap (λ (x : TypedForm × List TypedName). x.1) (ok_same d.is))) kept))
    all_ran _ _ _ (occurs.fold name count items total f item sum is shaped) w =
        let g = known s name.text f is in
        let a = wants_is (function_named s.functions name.text) g.0 K3 name.span h.met _ r g.1 (opened s (ExprForm-F.Fold name count items total) (exprs.Fold name count items total) (exprs.rolls-Fold name count items total) span h r w) in
        let b = step_there (counted count) h.met _ r a in
        let c = needs_there (is_bound b.0) K15 count.span h.met _ r b.2 in
        let d = wants_is (fold_shape (param_types g.0) g.0.result) (item, sum) K14 name.span h.met _ r (subst (λ (f : Signature). fold_shape (map (λ (p : TypedName). p.kind) f.params) f.result ≡ Some (item, sum)) (sym g.2) shaped) c.1 in
        let e = needs_there (same_type g.0.result h.expected) (rule_of h.alone) span h.met _ r d in
        subst (λ n. All (items ∷ total ∷ []) (kind.List item n ∷ sum ∷ [])) (sym (count_is count b.0 b.1)) (two_ran items total (kind.List item b.0) sum h _ r e.1 kept)
    all_ran _ _ _ (occurs.array_fold name count items total f item sum is shaped) w =
        let g = known s name.text f is in
        let a = wants_is (function_named s.functions name.text) g.0 K3 name.span h.met _ r g.1 (opened s (ExprForm-F.ArrayFold name count items total) (exprs.ArrayFold name count items total) (exprs.rolls-ArrayFold name count items total) span h r w) in
        let b = step_there (counted count) h.met _ r a in
        let d = wants_is (fold_shape (param_types g.0) g.0.result) (item, sum) K14 name.span h.met _ r (subst (λ (f : Signature). fold_shape (map (λ (p : TypedName). p.kind) f.params) f.result ≡ Some (item, sum)) (sym g.2) shaped) b.2 in
        let e = needs_there (same_type g.0.result h.expected) (rule_of h.alone) span h.met _ r d in
        subst (λ n. All (items ∷ total ∷ []) (kind.Array item n ∷ sum ∷ [])) (sym (count_is count b.0 b.1)) (two_ran items total (kind.Array item b.0) sum h _ r e.1 kept)
    all_ran _ _ _ (occurs.for_while name total context' f sum given is shaped) w =
        let g = known s name.text f is in
        let a = wants_is (function_named s.functions name.text) g.0 K3 name.span h.met _ r g.1 (opened s (ExprForm-F.ForWhile name total context') (exprs.ForWhile name total context') (exprs.rolls-ForWhile name total context') span h r w) in
        let d = wants_is (while_shape (param_types g.0) g.0.result) (sum, given) K14 name.span h.met _ r (subst (λ (f : Signature). while_shape (map (λ (p : TypedName). p.kind) f.params) f.result ≡ Some (sum, given)) (sym g.2) shaped) a in
        let e = needs_there (same_type g.0.result h.expected) (rule_of h.alone) span h.met _ r d in
        two_ran total context' sum given h _ r e.1 kept

  -- one of the parts

  module _ (span : Span) (h : Here s.program) (form : ExprForm) (at : Occurs s.program (place s h) form span) (whole : List Expr) (kinds : List HlType) (has : HasParts (place s h) form whole kinds) where
    part_ran : (past before : List Expr) (e : Expr) (after : List Expr) (past_kinds ks : List HlType) (k : HlType) (more : List HlType) → whole ≡ past ++ (before ++ e ∷ after) → kinds ≡ past_kinds ++ (ks ++ k ∷ more) →
        length past ≡ length past_kinds → length before ≡ length ks → (met : List TypedName) → Met s.program (h.before ++ flat_map expr_names past) met → AllRan h.scope met (before ++ e ∷ after) (ks ++ k ∷ more) →
        RunsHere (inside (place s h) k (flat_map expr_names (past ++ before))) e.form e.span
    part_ran past [] e after past_kinds [] k more is these long short met named ran' =
        let same : flat_map expr_names past ≡ flat_map expr_names (past ++ []) = ap (flat_map expr_names) (sym (append-nil past)) in
        subst (λ (ns : Names). RunsHere (inside (place s h) k ns) e.form e.span) same
        (runs_at e (record { scope = h.scope; expected = k; alone = false; before = h.before ++ flat_map expr_names past; met = met; named = named }) ran'.0 ran'.1 ran'.2)
    part_ran past [] e after past_kinds (j ∷ ks) k more is these long short met named ran' = absurd (omega (arith, short))
    part_ran past (x ∷ before) e after past_kinds [] k more is these long short met named ran' = absurd (omega (arith, short))
    part_ran past (x ∷ before) e after past_kinds (j ∷ ks) k more is these long short met named ran' =
        let has' = subst (λ (es : List Expr). HasParts (place s h) form es (past_kinds ++ j ∷ (ks ++ k ∷ more))) is (subst (λ (l : List HlType). HasParts (place s h) form whole l) these has) in
        let one : Here s.program = record { scope = h.scope; expected = j; alone = false; before = h.before ++ flat_map expr_names past; met = met; named = named } in
        let after_one = meets s x one (part (place s h) form span past (before ++ e ∷ after) x past_kinds (ks ++ k ∷ more) j at has' long) ran'.0 ran'.1 in
        subst (λ (es : List Expr). RunsHere (inside (place s h) k (flat_map expr_names es)) e.form e.span) (append_assoc past (x ∷ []) before)
        (part_ran (past ++ x ∷ []) before e after (past_kinds ++ j ∷ []) ks k more (is ∙ sym (append_assoc past (x ∷ []) (before ++ e ∷ after))) (these ∙ sym (append_assoc past_kinds (j ∷ []) (ks ++ k ∷ more)))
        (omega (arith, long, length-append past (x ∷ []), length-append past_kinds (j ∷ []))) (omega (arith, short)) ran'.0.1 (after_one ⊙ flat_more expr_names past x h.before) ran'.3)

  pub part_runs : (span : Span) (h : Here s.program) (form : ExprForm) → Occurs s.program (place s h) form span → (before after : List Expr) (e : Expr) (ks more : List HlType) (k : HlType) → HasParts (place s h) form (before ++ e ∷ after) (ks ++ k ∷ more) →
      length before ≡ length ks → (r : TypedForm × List TypedName) → form_walk (context s) form span h.scope h.expected (rule_of h.alone) h.met ≡ Ok r → Every P r.1 → RunsHere (inside (place s h) k (flat_map expr_names before)) e.form e.span
  part_runs span h form at before after e ks more k has long r w kept =
      part_ran span h form at (before ++ e ∷ after) (ks ++ k ∷ more) has [] before e after [] ks k more refl refl refl long h.met (h.named ⊙ sym (append-nil h.before))
      (all_ran span h r kept form (before ++ e ∷ after) (ks ++ k ∷ more) has w)
