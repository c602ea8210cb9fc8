-- Where the walk of a block or of a match answers, the walk of each of its parts did.
use Rattle.std.proofs.Common.{◌≡◌, true, false, List, [], ◌∷◌, ◌++◌, map, flat_map, Option, Some, None, Result, Ok, refl, sym, ap, ◌∙◌, subst, append_assoc, append-nil}
use Rattle.hl_data.specs.declared.typed.TypedExpr.{TypedExpr}
use Rattle.hl_data.specs.declared.typed.TypedForm.{TypedForm}
use Rattle.hl_data.specs.declared.typed.TypedSide.{TypedSide}
use Rattle.hl_data.specs.declared.typed.TypedStatement.{TypedStatement}
use Rattle.hl_syntax.specs.declared.kinds.HlType.{HlType}
use Rattle.hl_syntax.specs.declared.kinds.TypedName.{TypedName}
use Rattle.hl_syntax.specs.declared.rules.Rule.TheVariants.{K6, K13, K23}
use Rattle.hl_syntax.specs.declared.token.Span.{Span}
use Rattle.hl_syntax.specs.declared.tree.Arm.{Arm}
use Rattle.hl_syntax.specs.declared.tree.Expr.{Expr}
use Rattle.hl_syntax.specs.declared.tree.ExprForm.{ExprForm}
use Rattle.hl_syntax.specs.declared.tree.ExprForm.TheFolds.{fold_out-Arm, fold-roll-Statement}
use Rattle.hl_syntax.specs.declared.tree.ExprForm.TheOpen.{ExprForm-F, Statement-F}
use Rattle.hl_syntax.specs.declared.tree.ExprForm.TheVariants as exprs
use Rattle.hl_syntax.specs.declared.tree.Pattern.{Pattern}
use Rattle.hl_syntax.specs.declared.tree.Statement.{Statement}
use Rattle.hl_syntax.specs.declared.tree.Statement.TheVariants as statements
use Rattle.hl_syntax.specs.declared.tree.TypeText.{TypeText}
use Rattle.simplicityhl.specs.Written.{Broken, walk}
use Rattle.hl_rules.specs.Exprs.{ExprWalk, FormWalk, StatementWalk, ArmWalk, form_step, statement_step, arm_step, expr_step, expr_walk, form_walk, statement_walk, statements_walk, let_walk, plain_walk, last_walk, match_walk, side_walk, are_sides, matched_type}
use Rattle.hl_rules.specs.Occurs.{Place, Occurs, Leaves, no_statement, after_let, after_plain, inside, with_scope, alone}
use Rattle.hl_rules.specs.Occurs as occurs
use Rattle.hl_rules.specs.Patterns.{pattern_walk}
use Rattle.hl_rules.specs.Places.{Scope}
use Rattle.hl_rules.specs.Same.{same_type, unit_type}
use Rattle.hl_rules.specs.Witnesses.{Names, expr_names, statement_names, arm_names, names_step, statement_names_step}
use Rattle.hl_rules.proofs.Here.{Setting, Here, Met, ◌⊙◌, context, place, rule_of}
use Rattle.hl_rules.proofs.Names.{flat_more}
use Rattle.hl_typing.proofs.Every.{Every}
use Rattle.hl_typing.proofs.Keeping.{StatementKeeps, expr_keeps, statement_keeps, statements_keep}
use Rattle.hl_typing.proofs.Reached.{RunsHere, Ran, opened, meets, runs_at, arm_walk}
use Rattle.hl_typing.proofs.Steps.{ran, ok_same}
use Rattle.hl_typing.proofs.There.{needs_there, step_there}

module _ (s : Setting) where
  -- Statements.

  let_is : (pattern : Pattern) (text : TypeText) (e : Expr) (stands : Span) → statement_walk (context s) (statements.Let pattern text e stands) ≡ let_walk s.aliases pattern text (expr_walk (context s) e)
  let_is pattern text e stands =
      ap (statement_walk (context s)) (sym (statements.rolls-Let pattern text e stands))
      ∙ fold-roll-Statement FormWalk StatementWalk ArmWalk ExprWalk (form_step (context s)) (statement_step (context s)) (arm_step (context s)) (expr_step (context s)) (Statement-F.Let pattern text e stands)

  plain_is : (e : Expr) → statement_walk (context s) (statements.Plain e) ≡ plain_walk (expr_walk (context s) e)
  plain_is e =
      ap (statement_walk (context s)) (sym (statements.rolls-Plain e))
      ∙ fold-roll-Statement FormWalk StatementWalk ArmWalk ExprWalk (form_step (context s)) (statement_step (context s)) (arm_step (context s)) (expr_step (context s)) (Statement-F.Plain e)

  let_names : (pattern : Pattern) (text : TypeText) (e : Expr) (stands : Span) → statement_names (statements.Let pattern text e stands) ≡ expr_names e
  let_names pattern text e stands =
      ap statement_names (sym (statements.rolls-Let pattern text e stands)) ∙ fold-roll-Statement Names Names Names Names names_step statement_names_step (λ arm. arm.body) (λ e. e.form) (Statement-F.Let pattern text e stands)

  plain_names : (e : Expr) → statement_names (statements.Plain e) ≡ expr_names e
  plain_names e = ap statement_names (sym (statements.rolls-Plain e)) ∙ fold-roll-Statement Names Names Names Names names_step statement_names_step (λ arm. arm.body) (λ e. e.form) (Statement-F.Plain e)

  abbrev Stated : Type 0
  Stated = (TypedStatement × Scope) × List TypedName

  pub record LetRan (pattern : Pattern) (text : TypeText) (e : Expr) (scope : Scope) (met : List TypedName) (found : Stated) : Type 0 where
    pub kind : HlType
    pub bound : Scope
    pub written : walk s.aliases text ≡ Ok kind
    pub binds : pattern_walk pattern kind [] ≡ Ok bound
    pub value : TypedExpr × List TypedName
    pub runs : Ran s e scope kind K6 met value
    pub scope_is : bound ++ scope ≡ found.0.1
    pub met_is : value.1 ≡ found.1

  let_ran : (pattern : Pattern) (text : TypeText) (e : Expr) (stands : Span) (scope : Scope) (met : List TypedName) (found : Stated) → statement_walk (context s) (statements.Let pattern text e stands) scope met ≡ Ok found → LetRan pattern text e scope met found
  let_ran pattern text e stands scope met found h =
      let h' = sym (ap (λ (w : StatementWalk). w scope met) (let_is pattern text e stands)) ∙ h in
      let a = step_there (walk s.aliases text) met _ found h' in
      let b = step_there (pattern_walk pattern a.0 []) met _ found a.2 in
      let c = ran (expr_walk (context s) e scope a.0 K6 met) _ found b.2 in
      let same = ok_same c.is in
      record { kind = a.0; bound = b.0; written = a.1; binds = b.1; value = c.from; runs = c.was; scope_is = ap (λ (x : Stated). x.0.1) same; met_is = ap (λ (x : Stated). x.1) same }

  record PlainRan (e : Expr) (scope : Scope) (met : List TypedName) (found : Stated) : Type 0 where
    value : TypedExpr × List TypedName
    runs : Ran s e scope unit_type K23 met value
    scope_is : scope ≡ found.0.1
    met_is : value.1 ≡ found.1

  plain_ran : (e : Expr) (scope : Scope) (met : List TypedName) (found : Stated) → statement_walk (context s) (statements.Plain e) scope met ≡ Ok found → PlainRan e scope met found
  plain_ran e scope met found h =
      let h' = sym (ap (λ (w : StatementWalk). w scope met) (plain_is e)) ∙ h in
      let c = ran (expr_walk (context s) e scope unit_type K23 met) _ found h' in
      let same = ok_same c.is in
      record { value = c.from; runs = c.was; scope_is = ap (λ (x : Stated). x.0.1) same; met_is = ap (λ (x : Stated). x.1) same }

  abbrev walks : List Statement → List StatementWalk
  walks ss = map (statement_walk (context s)) ss

  abbrev Block : Type 0
  Block = (List TypedStatement × Scope) × List TypedName

  -- the first statement and the rest
  record FirstRan (st : Statement) (rest : List Statement) (scope : Scope) (met : List TypedName) (r : Block) : Type 0 where
    first : Stated
    is : statement_walk (context s) st scope met ≡ Ok first
    left : Block
    runs : statements_walk (walks rest) first.0.1 first.1 ≡ Ok left
    scope_is : left.0.1 ≡ r.0.1
    met_is : left.1 ≡ r.1

  first_ran : (st : Statement) (rest : List Statement) (scope : Scope) (met : List TypedName) (r : Block) → statements_walk (walks (st ∷ rest)) scope met ≡ Ok r → FirstRan st rest scope met r
  first_ran st rest scope met r h =
      let a = ran (statement_walk (context s) st scope met) _ r h in
      let b = ran (statements_walk (walks rest) a.from.0.1 a.from.1) _ r a.is in
      let same = ok_same b.is in
      record { first = a.from; is = a.was; left = b.from; runs = b.was; scope_is = ap (λ (x : Block). x.0.1) same; met_is = ap (λ (x : Block). x.1) same }

  -- each `let` of a block ran in some scope
  pub some_let : (before after : List Statement) (pattern : Pattern) (text : TypeText) (e : Expr) (stands : Span) (scope : Scope) (met : List TypedName) (r : Block) →
      statements_walk (walks (before ++ statements.Let pattern text e stands ∷ after)) scope met ≡ Ok r → (scope' : Scope) × (met' : List TypedName) × (found : Stated) × LetRan pattern text e scope' met' found
  some_let [] after pattern text e stands scope met r h =
      let f = first_ran (statements.Let pattern text e stands) after scope met r h in (scope, met, f.first, let_ran pattern text e stands scope met f.first f.is)
  some_let (st ∷ before) after pattern text e stands scope met r h =
      let f = first_ran st (before ++ statements.Let pattern text e stands ∷ after) scope met r h in some_let before after pattern text e stands f.first.0.1 f.first.1 f.left f.runs

  module _ (h : Here s.program) (whole : List Statement) (last : Option Expr) (span : Span) (at : Occurs s.program (place s h) (exprs.Block whole last) span) where
    -- after statements with the scope that they leave
    record LeavesRan (before : List Statement) (scope : Scope) (rest : List Statement) (r : Block) : Type 0 where
      met : List TypedName
      named : Met s.program (h.before ++ flat_map statement_names before) met
      left : Block
      runs : statements_walk (walks rest) scope met ≡ Ok left
      scope_is : left.0.1 ≡ r.0.1
      met_is : left.1 ≡ r.1

    after_first : (before : List Statement) (st : Statement) (rest : List Statement) (scope next : Scope) (r : Block) (l : LeavesRan before scope (st ∷ rest) r) (f : FirstRan st rest scope l.met l.left) → f.first.0.1 ≡ next →
        Met s.program ((h.before ++ flat_map statement_names before) ++ statement_names st) f.first.1 → LeavesRan (before ++ st ∷ []) next rest r
    after_first before st rest scope next r l f next_is named = record {
      met = f.first.1;
      named = named ⊙ flat_more statement_names before st h.before;
      left = f.left;
      runs = subst (λ (k : Scope). statements_walk (walks rest) k f.first.1 ≡ Ok f.left) next_is f.runs;
      scope_is = f.scope_is ∙ l.scope_is;
      met_is = f.met_is ∙ l.met_is;
    }

    leaves_ran : (before : List Statement) (scope : Scope) → Leaves s.aliases h.scope before scope → (rest : List Statement) → whole ≡ before ++ rest → (r : Block) → statements_walk (walks whole) h.scope h.met ≡ Ok r → LeavesRan before scope rest r
    leaves_ran _ _ no_statement rest is r w =
        record { met = h.met; named = h.named ⊙ sym (append-nil h.before); left = r; runs = subst (λ (ss : List Statement). statements_walk (walks ss) h.scope h.met ≡ Ok r) is w; scope_is = refl; met_is = refl }
    leaves_ran _ _ (after_let before scope pattern text e stands kind bound leaves written binds) rest is r w =
        let st = statements.Let pattern text e stands in
        let is' : whole ≡ before ++ st ∷ rest = is ∙ append_assoc before (st ∷ []) rest in
        let l = leaves_ran before scope leaves (st ∷ rest) is' r w in
        let f = first_ran st rest scope l.met l.left l.runs in
        let q = let_ran pattern text e stands scope l.met f.first f.is in
        let kind_is : q.kind ≡ kind = ok_same (sym q.written ∙ written) in
        let bound_is : q.bound ≡ bound = ok_same (sym q.binds ∙ ap (λ (k : HlType). pattern_walk pattern k []) kind_is ∙ binds) in
        let here : Here s.program = record { scope = scope; expected = kind; alone = false; before = h.before ++ flat_map statement_names before; met = l.met; named = l.named } in
        let at' = subst (λ (ss : List Statement). Occurs s.program (place s h) (exprs.Block ss last) span) is' at in
        let named = meets s e here (occurs.value (place s h) before rest pattern text e stands last span scope kind at' leaves written) q.value (subst (λ (k : HlType). Ran s e scope k K6 l.met q.value) kind_is q.runs) in
        after_first before st rest scope (bound ++ scope) r l f (sym q.scope_is ∙ ap (λ (b : Scope). b ++ scope) bound_is)
        (subst (Met s.program ((h.before ++ flat_map statement_names before) ++ expr_names e)) q.met_is named ⊙ ap (λ (ns : Names). (h.before ++ flat_map statement_names before) ++ ns) (sym (let_names pattern text e stands)))
    leaves_ran _ _ (after_plain before scope e leaves) rest is r w =
        let st = statements.Plain e in
        let is' : whole ≡ before ++ st ∷ rest = is ∙ append_assoc before (st ∷ []) rest in
        let l = leaves_ran before scope leaves (st ∷ rest) is' r w in
        let f = first_ran st rest scope l.met l.left l.runs in
        let q = plain_ran e scope l.met f.first f.is in
        let here : Here s.program = record { scope = scope; expected = unit_type; alone = true; before = h.before ++ flat_map statement_names before; met = l.met; named = l.named } in
        let at' = subst (λ (ss : List Statement). Occurs s.program (place s h) (exprs.Block ss last) span) is' at in
        let named = meets s e here (occurs.statement (place s h) before rest e last span scope at' leaves) q.value q.runs in
        after_first before st rest scope scope r l f (sym q.scope_is)
        (subst (Met s.program ((h.before ++ flat_map statement_names before) ++ expr_names e)) q.met_is named ⊙ ap (λ (ns : Names). (h.before ++ flat_map statement_names before) ++ ns) (sym (plain_names e)))

  -- the statements of a block, and its last expression
  record BlockRan (h : Here s.program) (whole : List Statement) : Type 0 where
    all : Block
    runs : statements_walk (walks whole) h.scope h.met ≡ Ok all

  record LastRan (h : Here s.program) (whole : List Statement) (e : Expr) (r : TypedForm × List TypedName) : Type 0 where
    block : BlockRan h whole
    value : TypedExpr × List TypedName
    ends : Ran s e block.all.0.1 h.expected K6 block.all.1 value
    met_is : value.1 ≡ r.1

  abbrev pub Answers : ExprForm → Span → Here s.program → TypedForm × List TypedName → Type 0
  Answers form span h r = form_walk (context s) form span h.scope h.expected (rule_of h.alone) h.met ≡ Ok r

  last_ran : (h : Here s.program) (whole : List Statement) (e : Expr) (span : Span) (r : TypedForm × List TypedName) → Answers (exprs.Block whole (Some e)) span h r → LastRan h whole e r
  last_ran h whole e span r w =
      let a = ran (statements_walk (walks whole) h.scope h.met) _ r (opened s (ExprForm-F.Block whole (Some e)) (exprs.Block whole (Some e)) (exprs.rolls-Block whole (Some e)) span h r w) in
      let b = ran (last_walk (Some (expr_walk (context s) e)) span a.from.0.1 h.expected (rule_of h.alone) a.from.1) _ r a.is in
      let c = ran (expr_walk (context s) e a.from.0.1 h.expected K6 a.from.1) _ b.from b.was in
      record {
        block = record { all = a.from; runs = a.was };
        value = c.from;
        ends = c.was;
        met_is = ap (λ (x : Option TypedExpr × List TypedName). x.1) (ok_same c.is) ∙ ap (λ (x : TypedForm × List TypedName). x.1) (ok_same b.is);
      }

  pub block_ran : (h : Here s.program) (whole : List Statement) (last : Option Expr) (span : Span) (r : TypedForm × List TypedName) → Answers (exprs.Block whole last) span h r → (all : Block) × (statements_walk (walks whole) h.scope h.met ≡ Ok all)
  block_ran h whole (Some e) span r w = let l = last_ran h whole e span r w in (l.block.all, l.block.runs)
  block_ran h whole None span r w =
      let a = ran (statements_walk (walks whole) h.scope h.met) _ r (opened s (ExprForm-F.Block whole None) (exprs.Block whole None) (exprs.rolls-Block whole None) span h r w) in (a.from, a.was)

  -- the same with what holds of the witnesses that are met
  kept_block : (P : TypedName → Type 0) (h : Here s.program) (whole : List Statement) (last : Option Expr) (span : Span) (r : TypedForm × List TypedName) → Answers (exprs.Block whole last) span h r → Every P r.1 →
      (all : Block) × (statements_walk (walks whole) h.scope h.met ≡ Ok all) × Every P all.1
  kept_block P h whole (Some e) span r w kept =
      let l = last_ran h whole e span r w in
      let value : Every P l.value.1 = subst (Every P) (sym l.met_is) kept in
      (l.block.all, l.block.runs, (expr_keeps s.edition P (context s) refl e l.block.all.0.1 h.expected K6 l.block.all.1 l.value.1 l.value.0 l.ends).back value)
  kept_block P h whole None span r w kept =
      let a = ran (statements_walk (walks whole) h.scope h.met) _ r (opened s (ExprForm-F.Block whole None) (exprs.Block whole None) (exprs.rolls-Block whole None) span h r w) in
      let b = ran (last_walk None span a.from.0.1 h.expected (rule_of h.alone) a.from.1) _ r a.is in
      let c = needs_there (same_type unit_type h.expected) (rule_of h.alone) span a.from.1 _ b.from b.was in
      let same : a.from.1 ≡ r.1 = ap (λ (x : Option TypedExpr × List TypedName). x.1) (ok_same c.1) ∙ ap (λ (x : TypedForm × List TypedName). x.1) (ok_same b.is) in
      (a.from, a.was, subst (Every P) (sym same) kept)

  all_statements_keep : (P : TypedName → Type 0) (ss : List Statement) → Every (StatementKeeps s.edition P) (walks ss)
  all_statements_keep P [] = tt
  all_statements_keep P (st ∷ ss) = (statement_keeps s.edition P (context s) refl st, all_statements_keep P ss)

  -- after a statement, where the rest is walked to the end of a block
  after_kept : (P : TypedName → Type 0) (rest : List Statement) (scope : Scope) (met : List TypedName) (left : Block) → statements_walk (walks rest) scope met ≡ Ok left → Every P left.1 → Every P met
  after_kept P rest scope met left runs kept = (statements_keep s.edition P (walks rest) (all_statements_keep P rest) scope met left.1 left.0 runs).back kept

  pub value_runs : (P : TypedName → Type 0) (h : Here s.program) (before after : List Statement) (pattern : Pattern) (text : TypeText) (e : Expr) (stands : Span) (last : Option Expr) (span : Span) (scope : Scope) (kind : HlType) (r : TypedForm × List TypedName) →
      Occurs s.program (place s h) (exprs.Block (before ++ statements.Let pattern text e stands ∷ after) last) span → Leaves s.aliases h.scope before scope → walk s.aliases text ≡ Ok kind →
      Answers (exprs.Block (before ++ statements.Let pattern text e stands ∷ after) last) span h r → Every P r.1 → RunsHere P s (inside (with_scope (place s h) scope) kind (flat_map statement_names before)) e.form e.span
  value_runs P h before after pattern text e stands last span scope kind r at leaves written w kept =
      let st = statements.Let pattern text e stands in
      let b = kept_block P h (before ++ st ∷ after) last span r w kept in
      let l = leaves_ran h (before ++ st ∷ after) last span at before scope leaves (st ∷ after) refl b.0 b.1 in
      let f = first_ran st after scope l.met l.left l.runs in
      let first : Every P f.first.1 = after_kept P after f.first.0.1 f.first.1 f.left f.runs (subst (Every P) (sym (f.met_is ∙ l.met_is)) b.2) in
      let q = let_ran pattern text e stands scope l.met f.first f.is in
      let kind_is : q.kind ≡ kind = ok_same (sym q.written ∙ written) in
      runs_at P s e (record { scope = scope; expected = kind; alone = false; before = h.before ++ flat_map statement_names before; met = l.met; named = l.named }) q.value
      (subst (λ (k : HlType). Ran s e scope k K6 l.met q.value) kind_is q.runs) (subst (Every P) (sym q.met_is) first)

  pub statement_runs : (P : TypedName → Type 0) (h : Here s.program) (before after : List Statement) (e : Expr) (last : Option Expr) (span : Span) (scope : Scope) (r : TypedForm × List TypedName) →
      Occurs s.program (place s h) (exprs.Block (before ++ statements.Plain e ∷ after) last) span → Leaves s.aliases h.scope before scope →
      Answers (exprs.Block (before ++ statements.Plain e ∷ after) last) span h r → Every P r.1 → RunsHere P s (alone (with_scope (place s h) scope) (flat_map statement_names before)) e.form e.span
  statement_runs P h before after e last span scope r at leaves w kept =
      let st = statements.Plain e in
      let b = kept_block P h (before ++ st ∷ after) last span r w kept in
      let l = leaves_ran h (before ++ st ∷ after) last span at before scope leaves (st ∷ after) refl b.0 b.1 in
      let f = first_ran st after scope l.met l.left l.runs in
      let first : Every P f.first.1 = after_kept P after f.first.0.1 f.first.1 f.left f.runs (subst (Every P) (sym (f.met_is ∙ l.met_is)) b.2) in
      let q = plain_ran e scope l.met f.first f.is in
      runs_at P s e (record { scope = scope; expected = unit_type; alone = true; before = h.before ++ flat_map statement_names before; met = l.met; named = l.named }) q.value q.runs (subst (Every P) (sym q.met_is) first)

  pub last_runs : (P : TypedName → Type 0) (h : Here s.program) (before : List Statement) (e : Expr) (span : Span) (scope : Scope) (r : TypedForm × List TypedName) → Occurs s.program (place s h) (exprs.Block before (Some e)) span → Leaves s.aliases h.scope before scope →
      Answers (exprs.Block before (Some e)) span h r → Every P r.1 → RunsHere P s (inside (with_scope (place s h) scope) h.expected (flat_map statement_names before)) e.form e.span
  last_runs P h before e span scope r at leaves w kept =
      let b = last_ran h before e span r w in
      let l = leaves_ran h before (Some e) span at before scope leaves [] (sym (append-nil before)) b.block.all b.block.runs in
      let same = ok_same l.runs in
      let scope_is : b.block.all.0.1 ≡ scope = sym (ap (λ (x : Block). x.0.1) same ∙ l.scope_is) in
      let met_is : b.block.all.1 ≡ l.met = sym (ap (λ (x : Block). x.1) same ∙ l.met_is) in
      runs_at P s e (record { scope = scope; expected = h.expected; alone = false; before = h.before ++ flat_map statement_names before; met = l.met; named = l.named }) b.value
      (subst (λ (m : List TypedName). Ran s e scope h.expected K6 m b.value) met_is (subst (λ (k : Scope). Ran s e k h.expected K6 b.block.all.1 b.value) scope_is b.ends)) (subst (Every P) (sym b.met_is) kept)

  -- Matches.

  abbrev plain_arm : Arm → ArmWalk
  plain_arm arm = record { side = arm.side; body = expr_walk (context s) arm.body }

  arm_is : (arm : Arm) → arm_walk s arm ≡ plain_arm arm
  arm_is arm = fold_out-Arm FormWalk StatementWalk ArmWalk ExprWalk (form_step (context s)) (statement_step (context s)) (arm_step (context s)) (expr_step (context s)) arm

  arm_named : (arm : Arm) → arm_names arm ≡ expr_names arm.body
  arm_named arm = fold_out-Arm Names Names Names Names names_step statement_names_step (λ arm. arm.body) (λ e. e.form) arm

  pub record MatchRan (e : Expr) (one two : Arm) (h : Here s.program) (r : TypedForm × List TypedName) : Type 0 where
    pub are : are_sides one.side two.side ≡ true
    pub first : TypedSide × Scope
    pub first_is : side_walk s.aliases one.side ≡ Ok first
    pub second : TypedSide × Scope
    pub second_is : side_walk s.aliases two.side ≡ Ok second
    pub value : TypedExpr × List TypedName
    pub value_is : Ran s e h.scope (matched_type first.0 second.0) K6 h.met value
    pub body : TypedExpr × List TypedName
    pub body_is : Ran s one.body (first.1 ++ h.scope) h.expected K6 value.1 body
    pub other : TypedExpr × List TypedName
    pub other_is : Ran s two.body (second.1 ++ h.scope) h.expected K6 body.1 other
    pub met_is : other.1 ≡ r.1

  pub match_ran : (e : Expr) (one two : Arm) (h : Here s.program) (span : Span) (r : TypedForm × List TypedName) → Answers (exprs.Match e (one ∷ two ∷ [])) span h r → MatchRan e one two h r
  match_ran e one two h span r w =
      let opens : match_walk s.aliases (expr_walk (context s) e) (arm_walk s one) (arm_walk s two) span h.scope h.expected (rule_of h.alone) h.met ≡ Ok r =
      opened s (ExprForm-F.Match e (one ∷ two ∷ [])) (exprs.Match e (one ∷ two ∷ [])) (exprs.rolls-Match e (one ∷ two ∷ [])) span h r w in
      let plainly : match_walk s.aliases (expr_walk (context s) e) (plain_arm one) (plain_arm two) span h.scope h.expected (rule_of h.alone) h.met ≡ Ok r =
      sym (ap (λ (a : ArmWalk). match_walk s.aliases (expr_walk (context s) e) a (arm_walk s two) span h.scope h.expected (rule_of h.alone) h.met) (arm_is one)
      ∙ ap (λ (a : ArmWalk). match_walk s.aliases (expr_walk (context s) e) (plain_arm one) a span h.scope h.expected (rule_of h.alone) h.met) (arm_is two)) ∙ opens in
      let a = needs_there (are_sides one.side two.side) K13 span h.met _ r plainly in
      let b = step_there (side_walk s.aliases one.side) h.met _ r a.1 in
      let c = step_there (side_walk s.aliases two.side) h.met _ r b.2 in
      let d = ran (expr_walk (context s) e h.scope (matched_type b.0.0 c.0.0) K6 h.met) _ r c.2 in
      let f = ran (expr_walk (context s) one.body (b.0.1 ++ h.scope) h.expected K6 d.from.1) _ r d.is in
      let g = ran (expr_walk (context s) two.body (c.0.1 ++ h.scope) h.expected K6 f.from.1) _ r f.is in
      record {
        are = a.0;
        first = b.0;
        first_is = b.1;
        second = c.0;
        second_is = c.1;
        value = d.from;
        value_is = d.was;
        body = f.from;
        body_is = f.was;
        other = g.from;
        other_is = g.was;
        met_is = ap (λ (x : TypedForm × List TypedName). x.1) (ok_same g.is);
      }

  -- what holds of the witnesses that are met, arm by arm
  record MatchKept (P : TypedName → Type 0) (e : Expr) (one two : Arm) (h : Here s.program) (r : TypedForm × List TypedName) (m : MatchRan e one two h r) : Type 0 where
    other : Every P m.other.1
    body : Every P m.body.1
    value : Every P m.value.1

  match_kept : (P : TypedName → Type 0) (e : Expr) (one two : Arm) (h : Here s.program) (r : TypedForm × List TypedName) (m : MatchRan e one two h r) → Every P r.1 → MatchKept P e one two h r m
  match_kept P e one two h r m kept =
      let other : Every P m.other.1 = subst (Every P) (sym m.met_is) kept in
      let body : Every P m.body.1 = (expr_keeps s.edition P (context s) refl two.body (m.second.1 ++ h.scope) h.expected K6 m.body.1 m.other.1 m.other.0 m.other_is).back other in
      let value : Every P m.value.1 = (expr_keeps s.edition P (context s) refl one.body (m.first.1 ++ h.scope) h.expected K6 m.value.1 m.body.1 m.body.0 m.body_is).back body in
      record { other = other; body = body; value = value }

  -- a match has two arms
  pub two_arms : (e : Expr) (arms : List Arm) (h : Here s.program) (span : Span) (r : TypedForm × List TypedName) → Answers (exprs.Match e arms) span h r → (one : Arm) × (two : Arm) × (arms ≡ one ∷ two ∷ [])
  two_arms e [] h span r w = let no = opened s (ExprForm-F.Match e []) (exprs.Match e []) (exprs.rolls-Match e []) span h r w in absurd (cc)
  two_arms e (one ∷ []) h span r w = let no = opened s (ExprForm-F.Match e (one ∷ [])) (exprs.Match e (one ∷ [])) (exprs.rolls-Match e (one ∷ [])) span h r w in absurd (cc)
  two_arms e (one ∷ two ∷ []) h span r w = (one, two, refl)
  two_arms e (one ∷ two ∷ three ∷ more) h span r w =
      let no = opened s (ExprForm-F.Match e (one ∷ two ∷ three ∷ more)) (exprs.Match e (one ∷ two ∷ three ∷ more)) (exprs.rolls-Match e (one ∷ two ∷ three ∷ more)) span h r w in absurd (cc)

  side_one : (x y : TypedSide × Scope) → ◌≡◌ {A = Result (TypedSide × Scope) Broken} (Ok x) (Ok y) → x ≡ y
  side_one x y h = ok_same h

  scrutinee_named : (h : Here s.program) (e : Expr) (one two : Arm) (span : Span) (r : TypedForm × List TypedName) → Occurs s.program (place s h) (exprs.Match e (one ∷ two ∷ [])) span → (m : MatchRan e one two h r) → Met s.program (h.before ++ expr_names e) m.value.1
  scrutinee_named h e one two span r at m =
      meets s e (record { scope = h.scope; expected = matched_type m.first.0 m.second.0; alone = false; before = h.before ++ []; met = h.met; named = h.named ⊙ sym (append-nil h.before) })
      (occurs.scrutinee (place s h) e one two span m.first.0 m.second.0 m.first.1 m.second.1 at m.are m.first_is m.second_is) m.value m.value_is ⊙ ap (λ (ns : Names). ns ++ expr_names e) (append-nil h.before)

  pub scrutinee_runs : (P : TypedName → Type 0) (h : Here s.program) (e : Expr) (one two : Arm) (span : Span) (first second : TypedSide) (first_bound second_bound : Scope) (r : TypedForm × List TypedName) → side_walk s.aliases one.side ≡ Ok (first, first_bound) →
      side_walk s.aliases two.side ≡ Ok (second, second_bound) → Answers (exprs.Match e (one ∷ two ∷ [])) span h r → Every P r.1 → RunsHere P s (inside (place s h) (matched_type first second) []) e.form e.span
  scrutinee_runs P h e one two span first second first_bound second_bound r first_is second_is w kept =
      let m = match_ran e one two h span r w in
      let one_is : m.first ≡ (first, first_bound) = side_one m.first (first, first_bound) (sym m.first_is ∙ first_is) in
      let two_is : m.second ≡ (second, second_bound) = side_one m.second (second, second_bound) (sym m.second_is ∙ second_is) in
      runs_at P s e (record { scope = h.scope; expected = matched_type first second; alone = false; before = h.before ++ []; met = h.met; named = h.named ⊙ sym (append-nil h.before) }) m.value
      (subst (λ (x : TypedSide × Scope). Ran s e h.scope (matched_type first x.0) K6 h.met m.value) two_is (subst (λ (x : TypedSide × Scope). Ran s e h.scope (matched_type x.0 m.second.0) K6 h.met m.value) one_is m.value_is))
      (match_kept P e one two h r m kept).value

  -- the arm after others
  pub arm_runs : (P : TypedName → Type 0) (h : Here s.program) (e : Expr) (before after : List Arm) (one : Arm) (span : Span) (side : TypedSide) (bound : Scope) (r : TypedForm × List TypedName) → Occurs s.program (place s h) (exprs.Match e (before ++ one ∷ after)) span →
      side_walk s.aliases one.side ≡ Ok (side, bound) → Answers (exprs.Match e (before ++ one ∷ after)) span h r → Every P r.1 →
      RunsHere P s (inside (with_scope (place s h) (bound ++ h.scope)) h.expected (expr_names e ++ flat_map arm_names before)) one.body.form one.body.span
  arm_runs P h e [] [] one span side bound r at is w kept = let t = two_arms e (one ∷ []) h span r w in absurd (cc)
  arm_runs P h e [] (two ∷ []) one span side bound r at is w kept =
      let m = match_ran e one two h span r w in
      let same : m.first ≡ (side, bound) = side_one m.first (side, bound) (sym m.first_is ∙ is) in
      let named : Met s.program (h.before ++ (expr_names e ++ [])) m.value.1 = scrutinee_named h e one two span r at m ⊙ ap (λ (ns : Names). h.before ++ ns) (sym (append-nil (expr_names e))) in
      runs_at P s one.body (record { scope = bound ++ h.scope; expected = h.expected; alone = false; before = h.before ++ (expr_names e ++ []); met = m.value.1; named = named }) m.body
      (subst (λ (x : TypedSide × Scope). Ran s one.body (x.1 ++ h.scope) h.expected K6 m.value.1 m.body) same m.body_is) (match_kept P e one two h r m kept).body
  arm_runs P h e [] (two ∷ three ∷ more) one span side bound r at is w kept = let t = two_arms e (one ∷ two ∷ three ∷ more) h span r w in absurd (cc)
  arm_runs P h e (first ∷ []) [] one span side bound r at is w kept =
      let m = match_ran e first one h span r w in
      let same : m.second ≡ (side, bound) = side_one m.second (side, bound) (sym m.second_is ∙ is) in
      let n = expr_names e in
      let value_named : Met s.program (h.before ++ (n ++ [])) m.value.1 = scrutinee_named h e first one span r at m ⊙ ap (λ (ns : Names). h.before ++ ns) (sym (append-nil n)) in
      let body_named = meets s first.body (record { scope = m.first.1 ++ h.scope; expected = h.expected; alone = false; before = h.before ++ (n ++ []); met = m.value.1; named = value_named })
      (occurs.arm (place s h) e [] (one ∷ []) first span m.first.0 m.first.1 at m.first_is) m.body m.body_is in
      let named : Met s.program (h.before ++ (n ++ (arm_names first ++ []))) m.body.1 =
      body_named ⊙ ap (λ (ns : Names). (h.before ++ ns) ++ expr_names first.body) (append-nil n) ∙ append_assoc h.before n (expr_names first.body)
      ∙ ap (λ (ns : Names). h.before ++ (n ++ ns)) (sym (arm_named first) ∙ sym (append-nil (arm_names first))) in
      runs_at P s one.body (record { scope = bound ++ h.scope; expected = h.expected; alone = false; before = h.before ++ (n ++ (arm_names first ++ [])); met = m.body.1; named = named }) m.other
      (subst (λ (x : TypedSide × Scope). Ran s one.body (x.1 ++ h.scope) h.expected K6 m.body.1 m.other) same m.other_is) (match_kept P e first one h r m kept).other
  arm_runs P h e (first ∷ []) (three ∷ more) one span side bound r at is w kept = let t = two_arms e (first ∷ one ∷ three ∷ more) h span r w in absurd (cc)
  arm_runs P h e (first ∷ second ∷ []) after one span side bound r at is w kept = let t = two_arms e (first ∷ second ∷ one ∷ after) h span r w in absurd (cc)
  arm_runs P h e (first ∷ second ∷ third ∷ before) after one span side bound r at is w kept = let t = two_arms e (first ∷ second ∷ third ∷ (before ++ one ∷ after)) h span r w in absurd (cc)
