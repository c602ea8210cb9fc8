-- Blocks and matches.
use Rattle.std.proofs.Common.{◌≡◌, true, List, [], ◌∷◌, ◌++◌, map, Option, Some, None, Ok, sym, ap, ◌∙◌, subst}
use Rattle.hl_data.specs.declared.typed.TypedArm.{TypedArm}
use Rattle.hl_data.specs.declared.typed.TypedExpr.{TypedExpr}
use Rattle.hl_data.specs.declared.typed.TypedForm.TheVariants as typed
use Rattle.hl_data.specs.declared.typed.TypedSide.{TypedSide}
use Rattle.hl_data.specs.declared.typed.TypedSide.TheVariants as typed_sides
use Rattle.hl_data.specs.declared.typed.TypedStatement.{TypedStatement}
use Rattle.hl_syntax.specs.declared.kinds.HlType.{HlType}
use Rattle.hl_syntax.specs.declared.kinds.HlType.TheVariants as kind
use Rattle.hl_syntax.specs.declared.kinds.TypedName.{TypedName}
use Rattle.hl_syntax.specs.declared.rules.Rule.{Rule}
use Rattle.hl_syntax.specs.declared.rules.Rule.TheVariants.{K6, K13, K23}
use Rattle.hl_syntax.specs.declared.token.Span.{Span}
use Rattle.hl_syntax.specs.declared.tree.Arm.{Arm}
use Rattle.hl_syntax.specs.declared.tree.Expr.{Expr}
use Rattle.hl_syntax.specs.declared.tree.ExprForm.TheFolds.{fold-Arm, fold_out-Arm}
use Rattle.hl_syntax.specs.declared.tree.ExprForm.TheOpen.{ExprForm-F}
use Rattle.hl_syntax.specs.declared.tree.ExprForm.TheVariants as exprs
use Rattle.hl_syntax.specs.declared.tree.Pattern.{Pattern}
use Rattle.hl_syntax.specs.declared.tree.Side.{Side}
use Rattle.hl_syntax.specs.declared.tree.Side.TheVariants as sides
use Rattle.hl_syntax.specs.declared.tree.Statement.{Statement}
use Rattle.hl_syntax.specs.declared.tree.Statement.TheVariants as statements
use Rattle.hl_syntax.specs.declared.tree.TypeText.{TypeText}
use Rattle.simplicityhl.specs.Kinds.{IsSound}
use Rattle.simplicityhl.specs.Written.{walk, then_walk}
use Rattle.hl_rules.specs.Exprs.{ExprWalk, FormWalk, StatementWalk, ArmWalk, form_step, statement_step, arm_step, expr_step, expr_walk, statement_walk, let_walk, plain_walk, statements_walk, last_walk, are_sides, binding_walk, side_walk, matched_type, match_walk}
use Rattle.hl_rules.specs.Patterns.{pattern_walk}
use Rattle.hl_rules.specs.Places.{Scope}
use Rattle.hl_rules.specs.Same.{same_type, unit_type}
use Rattle.hl_typing.specs.Erased as erased
use Rattle.hl_typing.specs.Erased.{Erased, SideOf, StatementOf, StatementsOf, LastOf}
use Rattle.hl_typing.specs.Patterns.{BindsOnce}
use Rattle.hl_typing.specs.Typing as rule
use Rattle.hl_typing.specs.Typing.{Typed, ExprAt, BlockAt, Sides}
use Rattle.hl_typing.proofs.Claims.{Setting, IsMet, GoodWalk, GoodForm, FormHolds, Claim, Proved, walk_of, around}
use Rattle.hl_typing.proofs.Patterns.{binds_once}
use Rattle.hl_typing.proofs.Same.{same_equal}
use Rattle.hl_typing.proofs.Sound.{walk_sound, bool_sound, unit_sound, option_sound, either_sound}
use Rattle.hl_typing.proofs.Steps.{ran, ok_same, then_good, step_good, needs_good, done_good}

module _ (s : Setting) where
  abbrev M : TypedName → Type 0
  M = IsMet s

  -- a statement before others of its block
  pub record StatementHolds (before : Scope) (source : Statement) (found : TypedStatement × Scope) : Type 0 where
    pub typed : (k : HlType) (ss : List TypedStatement) (last : Option TypedExpr) → Typed (around s) (BlockAt found.1 k ss last) → Typed (around s) (BlockAt before k (found.0 ∷ ss) last)
    pub erased : Erased s.context.aliases s.context.entries (StatementOf found.0 source)

  abbrev pub GoodStatement : StatementWalk → Statement → Type 0
  GoodStatement walk source = (scope : Scope) → GoodWalk s (walk scope) (StatementHolds scope source)

  abbrev pub StatementClaim : Statement → Type 0
  StatementClaim source = GoodStatement (statement_walk s.context source) source

  abbrev pub ProvedStatement : Type 0
  ProvedStatement = (source : Statement) × StatementClaim source

  abbrev pub statement_of : ProvedStatement → Statement
  statement_of p = p.0

  abbrev pub statements_of : List ProvedStatement → List Statement
  statements_of ps = map statement_of ps

  abbrev pub statement_walks : List ProvedStatement → List StatementWalk
  statement_walks ps = map (statement_walk s.context) (statements_of ps)

  pub let_good : (pattern : Pattern) (text : TypeText) (p : Proved s) (span : Span) → GoodStatement (let_walk s.context.aliases pattern text (walk_of s p)) (statements.Let pattern text p.0 span)
  let_good pattern text p span scope =
      step_good s.context M (walk s.context.aliases text) (λ item is. step_good s.context M (pattern_walk pattern item []) (λ names names_are.
      then_good s.context M (p.1 scope item K6 (walk_sound s.context.aliases s.aliases text item is)) (λ found. done_good s.context M (λ part. record {
        typed = λ k ss last after. rule.binding scope k item pattern names found ss last (binds_once item pattern names names_are) part.typed after;
        erased = erased.binding pattern text item found p.0 span is part.erased;
      }))))

  pub plain_good : (p : Proved s) → GoodStatement (plain_walk (walk_of s p)) (statements.Plain p.0)
  plain_good p scope =
      then_good s.context M (p.1 scope unit_type K23 unit_sound) (λ found. done_good s.context M (λ part. record {
        typed = λ k ss last after. rule.plain scope k found ss last part.typed after;
        erased = erased.plain found p.0 part.erased;
      }))

  record BlockHolds (before : Scope) (sources : List Statement) (found : List TypedStatement × Scope) : Type 0 where
    block : (k : HlType) (last : Option TypedExpr) → Typed (around s) (BlockAt found.1 k [] last) → Typed (around s) (BlockAt before k found.0 last)
    are : Erased s.context.aliases s.context.entries (StatementsOf found.0 sources)

  statements_good : (ps : List ProvedStatement) (scope : Scope) → GoodWalk s (statements_walk (statement_walks ps) scope) (BlockHolds scope (statements_of ps))
  statements_good [] scope = done_good s.context M (record { block = λ k last h. h; are = erased.no_statement })
  statements_good (p ∷ ps) scope =
      then_good s.context M (p.1 scope) (λ first. then_good s.context M (statements_good ps first.1) (λ rest. done_good s.context M (λ others one. record {
        block = λ k last h. one.typed k rest.0 last (others.block k last h);
        are = erased.one_statement first.0 rest.0 p.0 (statements_of ps) one.erased others.are;
      })))

  record LastHolds (scope : Scope) (k : HlType) (source : Option Expr) (last : Option TypedExpr) : Type 0 where
    ends : Typed (around s) (BlockAt scope k [] last)
    is : Erased s.context.aliases s.context.entries (LastOf last source)

  last_none : (span : Span) (scope : Scope) (expected : HlType) (rule' : Rule) → GoodWalk s (last_walk None span scope expected rule') (LastHolds scope expected None)
  last_none span scope expected rule' =
      needs_good s.context M (same_type unit_type expected) rule' span _ (λ same. done_good s.context M (record {
        ends = subst (λ (k : HlType). Typed (around s) (BlockAt scope k [] None)) (same_equal unit_type expected same) (rule.no_last scope);
        is = erased.no_last;
      }))

  last_some : (p : Proved s) (span : Span) (scope : Scope) (expected : HlType) (rule' : Rule) → IsSound expected → GoodWalk s (last_walk (Some (walk_of s p)) span scope expected rule') (LastHolds scope expected (Some p.0))
  last_some p span scope expected rule' sound =
      then_good s.context M (p.1 scope expected K6 sound) (λ found. done_good s.context M (λ part. record { ends = rule.last scope expected found part.typed; is = erased.last found p.0 part.erased }))

  whole_block : (scope : Scope) (expected : HlType) (sources : List Statement) (source : Option Expr) (found : List TypedStatement × Scope) (end : Option TypedExpr) → BlockHolds scope sources found → LastHolds found.1 expected source end →
      FormHolds s scope expected (exprs.Block sources source) (typed.Block found.0 end)
  whole_block scope expected sources source found end begins ending = record {
    typed = rule.block scope expected found.0 end (begins.block expected end ending.ends);
    erased = erased.block found.0 end sources source begins.are ending.is;
  }

  pub block_without : (ps : List ProvedStatement) → GoodForm s (form_step s.context (ExprForm-F.Block (statement_walks ps) None)) (exprs.Block (statements_of ps) None)
  block_without ps span scope expected rule' sound =
      then_good s.context M (statements_good ps scope) (λ found. then_good s.context M (last_none span found.1 expected rule') (λ end. done_good s.context M (λ ending begins.
      whole_block scope expected (statements_of ps) None found end begins ending)))

  pub block_with : (ps : List ProvedStatement) (p : Proved s) → GoodForm s (form_step s.context (ExprForm-F.Block (statement_walks ps) (Some (walk_of s p)))) (exprs.Block (statements_of ps) (Some p.0))
  block_with ps p span scope expected rule' sound =
      then_good s.context M (statements_good ps scope) (λ found. then_good s.context M (last_some p span found.1 expected rule' sound) (λ end. done_good s.context M (λ ending begins.
      whole_block scope expected (statements_of ps) (Some p.0) found end begins ending)))

  -- Matches.

  abbrev pub arm_walk : Arm → ArmWalk
  arm_walk arm = fold-Arm FormWalk StatementWalk ArmWalk ExprWalk (form_step s.context) (statement_step s.context) (arm_step s.context) (expr_step s.context) arm

  abbrev plain_arm : Arm → ArmWalk
  plain_arm arm = record { side = arm.side; body = expr_walk s.context arm.body }

  arm_is : (arm : Arm) → arm_walk arm ≡ plain_arm arm
  arm_is arm = fold_out-Arm FormWalk StatementWalk ArmWalk ExprWalk (form_step s.context) (statement_step s.context) (arm_step s.context) (expr_step s.context) arm

  abbrev pub ArmClaim : Arm → Type 0
  ArmClaim arm = Claim s arm.body

  abbrev pub ProvedArm : Type 0
  ProvedArm = (arm : Arm) × ArmClaim arm

  -- a side that binds a pattern at a written type
  record SideAt (make : HlType → TypedSide) (p : Pattern) (text : TypeText) (found : TypedSide × Scope) : Type 0 where
    item : HlType
    names : Scope
    is : (make item, names) ≡ found
    written : walk s.context.aliases text ≡ Ok item
    sound : IsSound item
    binds : BindsOnce item p names

  side_at : (make : HlType → TypedSide) (p : Pattern) (text : TypeText) (found : TypedSide × Scope) → then_walk (binding_walk s.context.aliases p text) (λ b. Ok (make b.0, b.1)) ≡ Ok found → SideAt make p text found
  side_at make p text found h =
      let r = ran (binding_walk s.context.aliases p text) _ found h in
      let w = ran (walk s.context.aliases text) _ r.from r.was in
      let q = ran (pattern_walk p w.from []) _ r.from w.is in
      let same : ◌≡◌ {A = HlType × Scope} (w.from, q.from) r.from = ok_same q.is in
      record {
        item = w.from;
        names = q.from;
        is = ap (λ (b : HlType × Scope). let pair : TypedSide × Scope = (make b.0, b.1) in pair) same ∙ ok_same r.is;
        written = w.was;
        sound = walk_sound s.context.aliases s.aliases text w.from w.was;
        binds = binds_once w.from p q.from q.was;
      }

  record Two (one two : Side) (first second : TypedSide × Scope) : Type 0 where
    sound : IsSound (matched_type first.0 second.0)
    sides : Sides (matched_type first.0 second.0) first.0 first.1 second.0 second.1
    of_one : SideOf s.context.aliases first.0 one
    of_two : SideOf s.context.aliases second.0 two

  two_sides : (one two : Side) (first second : TypedSide × Scope) → are_sides one two ≡ true → side_walk s.context.aliases one ≡ Ok first → side_walk s.context.aliases two ≡ Ok second → Two one two first second
  two_sides (sides.Left p t) (sides.Right q u) first second are h i =
      let a = side_at (typed_sides.Left p) p t first h in let b = side_at (typed_sides.Right q) q u second i in
      subst (λ x. Two (sides.Left p t) (sides.Right q u) x second) a.is (subst (Two (sides.Left p t) (sides.Right q u) (typed_sides.Left p a.item, a.names)) b.is (record {
        sound = either_sound a.item b.item a.sound b.sound;
        sides = rule.eithers a.item b.item p q a.names b.names a.binds b.binds;
        of_one = erased.of_left p t a.item a.written;
        of_two = erased.of_right q u b.item b.written;
      }))
  two_sides (sides.Right p t) (sides.Left q u) first second are h i =
      let a = side_at (typed_sides.Right p) p t first h in let b = side_at (typed_sides.Left q) q u second i in
      subst (λ x. Two (sides.Right p t) (sides.Left q u) x second) a.is (subst (Two (sides.Right p t) (sides.Left q u) (typed_sides.Right p a.item, a.names)) b.is (record {
        sound = either_sound b.item a.item b.sound a.sound;
        sides = rule.turned (kind.Either b.item a.item) (typed_sides.Left q b.item) (typed_sides.Right p a.item) b.names a.names (rule.eithers b.item a.item q p b.names a.names b.binds a.binds);
        of_one = erased.of_right p t a.item a.written;
        of_two = erased.of_left q u b.item b.written;
      }))
  two_sides sides.Nothing (sides.Some q u) first second are h i =
      let b = side_at (typed_sides.Some q) q u second i in
      subst (λ x. Two sides.Nothing (sides.Some q u) x second) (ok_same h) (subst (Two sides.Nothing (sides.Some q u) (typed_sides.Nothing, [])) b.is (record {
        sound = option_sound b.item b.sound;
        sides = rule.options b.item q b.names b.binds;
        of_one = erased.of_none;
        of_two = erased.of_some q u b.item b.written;
      }))
  two_sides (sides.Some p t) sides.Nothing first second are h i =
      let a = side_at (typed_sides.Some p) p t first h in
      subst (λ x. Two (sides.Some p t) sides.Nothing x second) a.is (subst (Two (sides.Some p t) sides.Nothing (typed_sides.Some p a.item, a.names)) (ok_same i) (record {
        sound = option_sound a.item a.sound;
        sides = rule.turned (kind.Option a.item) typed_sides.Nothing (typed_sides.Some p a.item) [] a.names (rule.options a.item p a.names a.binds);
        of_one = erased.of_some p t a.item a.written;
        of_two = erased.of_none;
      }))
  two_sides sides.False sides.True first second are h i = subst (λ x. Two sides.False sides.True x second) (ok_same h) (subst (Two sides.False sides.True (typed_sides.False, [])) (ok_same i) (record {
    sound = bool_sound;
    sides = rule.bools;
    of_one = erased.of_false;
    of_two = erased.of_true;
  }))
  two_sides sides.True sides.False first second are h i = subst (λ x. Two sides.True sides.False x second) (ok_same h) (subst (Two sides.True sides.False (typed_sides.True, [])) (ok_same i) (record {
    sound = bool_sound;
    sides = rule.turned kind.Bool typed_sides.False typed_sides.True [] [] rule.bools;
    of_one = erased.of_true;
    of_two = erased.of_false;
  }))
  two_sides _ _ first second are h i = absurd (cc)

  arms_good : (p : Proved s) (one two : ProvedArm) → GoodForm s (match_walk s.context.aliases (walk_of s p) (plain_arm one.0) (plain_arm two.0)) (exprs.Match p.0 (one.0 ∷ two.0 ∷ []))
  arms_good p one two span scope expected rule' sound =
      needs_good s.context M (are_sides one.0.side two.0.side) K13 span _ (λ are. step_good s.context M (side_walk s.context.aliases one.0.side) (λ first first_is.
      step_good s.context M (side_walk s.context.aliases two.0.side) (λ second second_is.
      let t = two_sides one.0.side two.0.side first second are first_is second_is in
      then_good s.context M (p.1 scope (matched_type first.0 second.0) K6 t.sound) (λ value. then_good s.context M (one.1 (first.1 ++ scope) expected K6 sound) (λ body.
      then_good s.context M (two.1 (second.1 ++ scope) expected K6 sound) (λ other. done_good s.context M (λ others bodies values.
      let a : TypedArm = record { side = first.0; body = body } in let b : TypedArm = record { side = second.0; body = other } in
      record {
        typed = rule.matched scope (matched_type first.0 second.0) expected value a b first.1 second.1 t.sides values.typed bodies.typed others.typed;
        erased = erased.matched value a b p.0 one.0 two.0 values.erased (erased.arm a one.0 t.of_one bodies.erased) (erased.arm b two.0 t.of_two others.erased);
      })))))))

  pub match_good : (p : Proved s) (one two : ProvedArm) → GoodForm s (form_step s.context (ExprForm-F.Match (walk_of s p) (arm_walk one.0 ∷ arm_walk two.0 ∷ []))) (exprs.Match p.0 (one.0 ∷ two.0 ∷ []))
  match_good p one two =
      subst (λ (w : ArmWalk). GoodForm s (match_walk s.context.aliases (walk_of s p) w (arm_walk two.0)) (exprs.Match p.0 (one.0 ∷ two.0 ∷ []))) (sym (arm_is one.0))
      (subst (λ (w : ArmWalk). GoodForm s (match_walk s.context.aliases (walk_of s p) (plain_arm one.0) w) (exprs.Match p.0 (one.0 ∷ two.0 ∷ []))) (sym (arm_is two.0)) (arms_good p one two))
