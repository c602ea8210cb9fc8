-- Answers to the goals of `translation` in `walk`.
use Rattle.std.proofs.Common.{◌-◌, Some, length, ◌≡◌, ◌∙◌, sym, ap, refl, subst, arith}
use Rattle.term_builder.specs.State.{state_of}
use Rattle.translate.proofs.OnePart.{part_fits, part_sound, may_finish, is_finished}
use Rattle.layout_laws.specs.Scopes.{scope_shape}
use Rattle.term_builder.specs.Steps.{with_term, MayMake}
use Rattle.translate.specs.Blocks.{ArmFits, choose_last}
use Rattle.translate.proofs.ManyParts.{parts_fit, may_gather, may_make, is_gathered, onto_next}
use Rattle.translate.specs.Here.{IsReady, term_in}
use Rattle.std.proofs.lemmas.Grind.{common_steps}
use Rattle.translate.proofs.Depths.{arm_below, statement_below, last_below}
use Rattle.translate.proofs.BlockTurns.{block_line_fits, block_line_ready, block_last_fits, begun, line_gone, ends_layout, ends_some, ends_none, end_open, end_makes, end_layout, end_state, block_done}
use Rattle.translate.proofs.Choices.{choice_one_fits, choice_two_fits, chosen_left, chosen_right, may_choose, still_ready, arms_length, two_are}
use Rattle.translate.proofs.Leaves.{spelled, value_is_some, panic_made, nothing_made, truth_made, falsehood_made, literal_made, value_made, name_made, witness_made}
use Rattle.translate.proofs.Shown.{shown}
use Rattle.translate.proofs.walk.+translation.Goals as goal
use Rattle.translate.proofs.walk.+translation.Goals.{choice-in_default-via-then-as_slice-lt2, choice-in_default-via-else-as_slice-lt2+else-this-lt3, block-in-Some+in_ok-expression-in-Some, block-in-None+in_ok-unit-in-None}

pub with_part-finish_form-requires-clause-parts_sound : goal.with_part-finish_form-requires-clause-parts_sound
with_part-finish_form-requires-clause-parts_sound t c = part_sound c.args.place c.args.layout.now c.args.e.now c.args.part.now c.requires.fits c.args.how c.requires.is

pub with_part-finish_form-requires-clause-makes : goal.with_part-finish_form-requires-clause-makes
with_part-finish_form-requires-clause-makes t c =
    may_finish c.args.place c.args.layout.now c.args.e.now c.args.part.now c.requires.fits (state_of c.args.builder.now) (state_of c.expression.new.builder) c.requires.ready c.in_ok-expression.ensures.made c.args.how c.requires.is

pub with_part-returns-clause-made : goal.with_part-returns-clause-made
with_part-returns-clause-made t c =
    shown _ _ _ _ c.finish_form.ensures
    (is_finished c.args.place c.args.layout.now c.args.e.now c.args.part.now c.requires.fits (state_of c.args.builder.now) (state_of c.expression.new.builder) c.requires.ready c.in_ok-expression.ensures.made c.args.how c.requires.is)

pub with_part-expression-requires : goal.with_part-expression-requires
with_part-expression-requires t c =
    (omega (arith, c.decreases), (part_fits c.args.place c.args.layout.now c.args.e.now c.args.part.now c.requires.fits c.args.how c.requires.is, c.requires.ready))

pub with_parts-expressions-requires : goal.with_parts-expressions-requires
with_parts-expressions-requires t c =
    (omega (arith, c.decreases), (parts_fit c.args.place c.args.layout.now c.args.e.now c.args.parts.now c.requires.fits c.args.how c.requires.is, c.requires.ready))

pub with_parts-gather_parts-requires-clause-may : goal.with_parts-gather_parts-requires-clause-may
with_parts-gather_parts-requires-clause-may t c = may_gather c.args.place c.args.layout.now c.args.e.now c.args.parts.now c.requires.fits c.args.how c.requires.is

pub with_parts-gather_parts-requires-clause-makes : goal.with_parts-gather_parts-requires-clause-makes
with_parts-gather_parts-requires-clause-makes t c =
    may_make c.args.place c.args.layout.now c.args.e.now c.args.parts.now c.requires.fits (state_of c.args.builder.now) (state_of c.expressions.new.builder) c.requires.ready c.in_ok-expressions.ensures.made c.args.how c.requires.is c.len.result c.len.ensures

pub with_parts-returns-clause-made : goal.with_parts-returns-clause-made
with_parts-returns-clause-made t c =
    shown _ _ _ _ c.gather_parts.ensures
    (is_gathered c.args.place c.args.layout.now c.args.e.now c.args.parts.now c.requires.fits (state_of c.args.builder.now) (state_of c.expressions.new.builder) c.requires.ready c.in_ok-expressions.ensures.made c.args.how c.requires.is c.len.result c.len.ensures)

pub expressions-parts-preserved : goal.expressions-parts-preserved
expressions-parts-preserved t c =
    record {
      state = onto_next c.args.place (scope_shape c.args.layout.now) c.as_slice-part-items.result.now c.parts.part-index c.part-item.result (state_of c.args.builder.now) (state_of c.parts.builder) (state_of c.expression.new.builder) c.parts-test.true c.part-item.is c.parts.invariant.state
          (subst (λ l. state_of c.expression.new.builder ≡ with_term (term_in c.args.place (scope_shape l) c.part-item.result) (state_of c.parts.builder)) c.parts.invariant.layout c.in_ok-expression.ensures.made);
      layout = c.in_ok-expression.ensures.layout ∙ c.parts.invariant.layout;
    }

pub expression-literal-requires-clause-spelled : goal.expression-literal-requires-clause-spelled
expression-literal-requires-clause-spelled t c = spelled c.args.place c.args.layout.now c.args.e.now c.requires.fits c.in-Literal.text c.in-Literal.is

pub expression-value-requires-clause-of_kind : goal.expression-value-requires-clause-of_kind
expression-value-requires-clause-of_kind t c = value_is_some c.args.place c.args.layout.now c.args.e.now c.requires.fits c.in-Value.given c.in-Value.is

pub expression-returns-in-Panic-clause-made : goal.expression-returns-in-Panic-clause-made
expression-returns-in-Panic-clause-made t c = shown _ _ _ _ c.failure.ensures (panic_made c.args.place c.args.layout.now c.args.e.now c.requires.fits (state_of c.args.builder.now) c.requires.ready c.in-Panic.is)

pub expression-returns-in-Nothing-clause-made : goal.expression-returns-in-Nothing-clause-made
expression-returns-in-Nothing-clause-made t c = shown _ _ _ _ c.nothing.ensures (nothing_made c.args.place c.args.layout.now c.args.e.now c.requires.fits (state_of c.args.builder.now) c.requires.ready c.in-Nothing.is)

pub expression-returns-in-True-clause-made : goal.expression-returns-in-True-clause-made
expression-returns-in-True-clause-made t c = shown _ _ _ _ c.truth.ensures (truth_made c.args.place c.args.layout.now c.args.e.now c.requires.fits (state_of c.args.builder.now) c.requires.ready c.in-True.is)

pub expression-returns-in-False-clause-made : goal.expression-returns-in-False-clause-made
expression-returns-in-False-clause-made t c = shown _ _ _ _ c.falsehood.ensures (falsehood_made c.args.place c.args.layout.now c.args.e.now c.requires.fits (state_of c.args.builder.now) c.requires.ready c.in-False.is)

pub expression-returns-in-Literal-clause-made : goal.expression-returns-in-Literal-clause-made
expression-returns-in-Literal-clause-made t c = shown _ _ _ _ c.literal.ensures (literal_made c.args.place c.args.layout.now c.args.e.now c.requires.fits (state_of c.args.builder.now) c.requires.ready c.in-Literal.text c.in-Literal.is)

pub expression-returns-in-Value-clause-made : goal.expression-returns-in-Value-clause-made
expression-returns-in-Value-clause-made t c = shown _ _ _ _ c.value.ensures (value_made c.args.place c.args.layout.now c.args.e.now c.requires.fits (state_of c.args.builder.now) c.requires.ready c.in-Value.given c.in-Value.is)

pub expression-returns-in-Name-clause-made : goal.expression-returns-in-Name-clause-made
expression-returns-in-Name-clause-made t c = shown _ _ _ _ c.variable.ensures (name_made c.args.place c.args.layout.now c.args.e.now c.requires.fits (state_of c.args.builder.now) c.requires.ready c.in-Name.name c.in-Name.is)

pub expression-returns-in-Witness-clause-made : goal.expression-returns-in-Witness-clause-made
expression-returns-in-Witness-clause-made t c = shown _ _ _ _ c.witness.ensures (witness_made c.args.place c.args.layout.now c.args.e.now c.requires.fits (state_of c.args.builder.now) c.requires.ready c.in-Witness.name c.in-Witness.is)

pub block-lines-preserved : goal.block-lines-preserved
block-lines-preserved t c =
    line_gone c.args.place c.as_slice-lines.result.now c.args.last.now (record { layout = c.args.layout.now; state = state_of c.args.builder.now }) (begun c.args.place c.args.layout.now c.args.e.now c.args.statements.now c.args.last.now (state_of c.args.builder.now) c.requires.fits c.requires.ready c.requires.is c.as_slice-lines.result.now c.as_slice-lines.ensures) c.lines.layout (state_of c.lines.builder) c.lines.line-index c.line-item.result c.statement.new.layout (state_of c.statement.new.builder) c.lines-test.true c.line-item.is c.lines.invariant c.in_ok-statement.ensures.layout c.in_ok-statement.ensures.made

pub block-ends-init : goal.block-ends-init
block-ends-init t c =
    elim c.match-last.branch [
      | block-in-Some+in_ok-expression-in-Some w ↦ (let same = w.layout-is ∙ w.in_ok-expression-in-Some.ensures.layout in record { layout = ends_layout c.args.place c.as_slice-lines.result.now c.args.last.now (record { layout = c.args.layout.now; state = state_of c.args.builder.now }) (begun c.args.place c.args.layout.now c.args.e.now c.args.statements.now c.args.last.now (state_of c.args.builder.now) c.requires.fits c.requires.ready c.requires.is c.as_slice-lines.result.now c.as_slice-lines.ensures) c.lines.layout (state_of c.lines.builder) c.lines.line-index (omega (arith, c.lines-test.false, c.lines.auto.line-index-end)) c.lines.invariant c.match-last.layout same; state = ends_some c.args.place c.as_slice-lines.result.now c.args.last.now (record { layout = c.args.layout.now; state = state_of c.args.builder.now }) (begun c.args.place c.args.layout.now c.args.e.now c.args.statements.now c.args.last.now (state_of c.args.builder.now) c.requires.fits c.requires.ready c.requires.is c.as_slice-lines.result.now c.as_slice-lines.ensures) c.lines.layout (state_of c.lines.builder) c.lines.line-index (omega (arith, c.lines-test.false, c.lines.auto.line-index-end)) c.lines.invariant c.match-last.layout same (state_of c.match-last.builder) w.get.result.now (w.in-Some.is ∙ ap Some (sym w.get.ensures)) (ap state_of w.builder-is ∙ w.in_ok-expression-in-Some.ensures.made) })
      | block-in-None+in_ok-unit-in-None w ↦ (record { layout = ends_layout c.args.place c.as_slice-lines.result.now c.args.last.now (record { layout = c.args.layout.now; state = state_of c.args.builder.now }) (begun c.args.place c.args.layout.now c.args.e.now c.args.statements.now c.args.last.now (state_of c.args.builder.now) c.requires.fits c.requires.ready c.requires.is c.as_slice-lines.result.now c.as_slice-lines.ensures) c.lines.layout (state_of c.lines.builder) c.lines.line-index (omega (arith, c.lines-test.false, c.lines.auto.line-index-end)) c.lines.invariant c.match-last.layout w.layout-is; state = ends_none c.args.place c.as_slice-lines.result.now c.args.last.now (record { layout = c.args.layout.now; state = state_of c.args.builder.now }) (begun c.args.place c.args.layout.now c.args.e.now c.args.statements.now c.args.last.now (state_of c.args.builder.now) c.requires.fits c.requires.ready c.requires.is c.as_slice-lines.result.now c.as_slice-lines.ensures) c.lines.layout (state_of c.lines.builder) c.lines.line-index (omega (arith, c.lines-test.false, c.lines.auto.line-index-end)) c.lines.invariant c.match-last.layout w.layout-is (state_of c.match-last.builder) w.in-None.is (ap state_of w.builder-is ∙ w.in_ok-unit-in-None.ensures) })
    ]

pub block-end_of-requires-clause-open : goal.block-end_of-requires-clause-open
block-end_of-requires-clause-open t c = end_open c.args.place c.as_slice-lines.result.now c.args.last.now (record { layout = c.args.layout.now; state = state_of c.args.builder.now }) (begun c.args.place c.args.layout.now c.args.e.now c.args.statements.now c.args.last.now (state_of c.args.builder.now) c.requires.fits c.requires.ready c.requires.is c.as_slice-lines.result.now c.as_slice-lines.ensures) c.ends.done (length c.as_slice-lines.result.now - 1 - c.ends.done) c.index-lines-lines.result c.ends-test.true refl c.index-lines-lines.is c.ends.layout (state_of c.ends.builder) c.ends.invariant.layout c.ends.invariant.state

pub block-end_of-requires-clause-makes : goal.block-end_of-requires-clause-makes
block-end_of-requires-clause-makes t c = end_makes c.args.place c.as_slice-lines.result.now c.args.last.now (record { layout = c.args.layout.now; state = state_of c.args.builder.now }) (begun c.args.place c.args.layout.now c.args.e.now c.args.statements.now c.args.last.now (state_of c.args.builder.now) c.requires.fits c.requires.ready c.requires.is c.as_slice-lines.result.now c.as_slice-lines.ensures) c.ends.done (length c.as_slice-lines.result.now - 1 - c.ends.done) c.index-lines-lines.result c.ends-test.true refl c.index-lines-lines.is c.ends.layout (state_of c.ends.builder) c.ends.invariant.layout c.ends.invariant.state

pub block-ends-preserved : goal.block-ends-preserved
block-ends-preserved t c =
    let l = end_layout c.args.place c.as_slice-lines.result.now c.args.last.now (record { layout = c.args.layout.now; state = state_of c.args.builder.now }) (begun c.args.place c.args.layout.now c.args.e.now c.args.statements.now c.args.last.now (state_of c.args.builder.now) c.requires.fits c.requires.ready c.requires.is c.as_slice-lines.result.now c.as_slice-lines.ensures) c.ends.done (length c.as_slice-lines.result.now - 1 - c.ends.done) c.index-lines-lines.result c.ends-test.true refl c.index-lines-lines.is c.ends.layout (state_of c.ends.builder) c.ends.invariant.layout c.ends.invariant.state c.end_of.new.layout c.in_ok-end_of.ensures.layout in
    record { layout = l; state = end_state c.args.place c.as_slice-lines.result.now c.args.last.now (record { layout = c.args.layout.now; state = state_of c.args.builder.now }) (begun c.args.place c.args.layout.now c.args.e.now c.args.statements.now c.args.last.now (state_of c.args.builder.now) c.requires.fits c.requires.ready c.requires.is c.as_slice-lines.result.now c.as_slice-lines.ensures) c.ends.done (length c.as_slice-lines.result.now - 1 - c.ends.done) c.index-lines-lines.result c.ends-test.true refl c.index-lines-lines.is c.ends.layout (state_of c.ends.builder) c.ends.invariant.layout c.ends.invariant.state (state_of c.end_of.new.builder) c.end_of.new.layout c.in_ok-end_of.ensures.made l }

pub block-returns-clause-made : goal.block-returns-clause-made
block-returns-clause-made t c =
    block_done c.args.place c.args.layout.now c.args.e.now c.args.statements.now c.args.last.now (state_of c.args.builder.now) c.requires.is c.as_slice-lines.result.now c.as_slice-lines.ensures (length c.as_slice-lines.result.now - c.ends.done) (omega (arith, c.ends-test.false)) c.ends.layout (state_of c.ends.builder) c.ends.invariant.layout c.ends.invariant.state

pub block-statement-requires : goal.block-statement-requires
block-statement-requires t c =
    (omega (arith, c.decreases, statement_below c.as_slice-lines.result.now c.args.statements.now c.lines.line-index c.line-item.result c.as_slice-lines.ensures c.lines-test.true c.line-item.is), (block_line_fits c.args.place c.args.layout.now c.args.e.now c.args.statements.now c.args.last.now (state_of c.args.builder.now) c.requires.fits c.requires.ready c.requires.is c.as_slice-lines.result.now c.as_slice-lines.ensures c.lines.line-index c.lines.layout (state_of c.lines.builder) c.lines.invariant c.line-item.result c.lines-test.true c.line-item.is, block_line_ready c.args.place c.args.layout.now c.args.e.now c.args.statements.now c.args.last.now (state_of c.args.builder.now) c.requires.fits c.requires.ready c.requires.is c.as_slice-lines.result.now c.as_slice-lines.ensures c.lines.line-index c.lines.layout (state_of c.lines.builder) c.lines.invariant))

pub block-expression-requires : goal.block-expression-requires
block-expression-requires t c =
    (omega (arith, c.decreases, last_below c.args.last.now c.get.result.now (c.in-Some.is ∙ ap Some (sym c.get.ensures))), (block_last_fits c.args.place c.args.layout.now c.args.e.now c.args.statements.now c.args.last.now (state_of c.args.builder.now) c.requires.fits c.requires.ready c.requires.is c.as_slice-lines.result.now c.as_slice-lines.ensures c.lines.line-index c.lines.layout (state_of c.lines.builder) c.lines.invariant c.get.result.now c.lines-test.false c.lines.auto.line-index-end (c.in-Some.is ∙ ap Some (sym c.get.ensures)), block_line_ready c.args.place c.args.layout.now c.args.e.now c.args.statements.now c.args.last.now (state_of c.args.builder.now) c.requires.fits c.requires.ready c.requires.is c.as_slice-lines.result.now c.as_slice-lines.ensures c.lines.line-index c.lines.layout (state_of c.lines.builder) c.lines.invariant))

pub choice-unreachable-requires : goal.choice-unreachable-requires
choice-unreachable-requires t c =
    let two = arms_length c.args.place c.args.layout.now c.args.e.now c.args.part.now c.args.arms.now c.requires.fits c.requires.is in
    let same = ap length c.as_slice.ensures ∙ two in
    elim c.in_default.branch [
      | choice-in_default-via-then-as_slice-lt2 w ↦ absurd (grind (arith, common_steps, same))
      | choice-in_default-via-else-as_slice-lt2+else-this-lt3 w ↦ absurd (grind (arith, common_steps, same))
    ]

pub choice-both_sides-requires : goal.choice-both_sides-requires
choice-both_sides-requires t c = (
  omega (arith, c.decreases, arm_below c.as_slice.result.now c.args.arms.now 0 c.one-item.result c.as_slice.ensures (omega (arith, c.in-len2.len_at_least)) c.one-item.is, arm_below c.as_slice.result.now c.args.arms.now 1 c.two-item.result c.as_slice.ensures (omega (arith, c.in-len2.len_at_least)) c.two-item.is),
  subst (λ l. ArmFits c.args.place l c.one-item.result × (ArmFits c.args.place l c.two-item.result × (IsReady c.args.place l (state_of c.expression.new.builder) × MayMake 1 (state_of c.expression.new.builder) (choose_last c.args.place l c.one-item.result c.two-item.result (state_of c.expression.new.builder))))) (sym c.in_ok-expression.ensures.layout)
      (choice_one_fits c.args.place c.args.layout.now c.args.e.now c.args.part.now c.args.arms.now c.requires.fits c.requires.is c.one-item.result c.two-item.result (two_are c.as_slice.result.now c.args.arms.now c.as_slice.ensures c.one-item.result c.two-item.result c.in-len2.len_at_least c.in-len2.len_below c.one-item.is c.two-item.is), (choice_two_fits c.args.place c.args.layout.now c.args.e.now c.args.part.now c.args.arms.now c.requires.fits c.requires.is c.one-item.result c.two-item.result (two_are c.as_slice.result.now c.args.arms.now c.as_slice.ensures c.one-item.result c.two-item.result c.in-len2.len_at_least c.in-len2.len_below c.one-item.is c.two-item.is), (still_ready c.args.place c.args.layout.now c.args.e.now c.args.part.now c.args.arms.now c.requires.fits c.requires.is c.one-item.result c.two-item.result (two_are c.as_slice.result.now c.args.arms.now c.as_slice.ensures c.one-item.result c.two-item.result c.in-len2.len_at_least c.in-len2.len_below c.one-item.is c.two-item.is) (state_of c.args.builder.now) (state_of c.expression.new.builder) c.requires.ready c.in_ok-expression.ensures.made, may_choose c.args.place c.args.layout.now c.args.e.now c.args.part.now c.args.arms.now c.requires.fits c.requires.is c.one-item.result c.two-item.result (two_are c.as_slice.result.now c.args.arms.now c.as_slice.ensures c.one-item.result c.two-item.result c.in-len2.len_at_least c.in-len2.len_below c.one-item.is c.two-item.is) (state_of c.args.builder.now) (state_of c.expression.new.builder) c.requires.ready c.in_ok-expression.ensures.made c.one-item.result c.two-item.result (chosen_left c.args.place c.args.layout.now c.args.e.now c.args.part.now c.args.arms.now c.requires.fits c.requires.is c.one-item.result c.two-item.result (two_are c.as_slice.result.now c.args.arms.now c.as_slice.ensures c.one-item.result c.two-item.result c.in-len2.len_at_least c.in-len2.len_below c.one-item.is c.two-item.is) (state_of c.args.builder.now) (state_of c.expression.new.builder) c.requires.ready c.in_ok-expression.ensures.made (sym c.if-is_left.ensures))))),
)

pub choice-both_sides-requires-else-is_left : goal.choice-both_sides-requires-else-is_left
choice-both_sides-requires-else-is_left t c = (
  omega (arith, c.decreases, arm_below c.as_slice.result.now c.args.arms.now 0 c.one-item.result c.as_slice.ensures (omega (arith, c.in-len2.len_at_least)) c.one-item.is, arm_below c.as_slice.result.now c.args.arms.now 1 c.two-item.result c.as_slice.ensures (omega (arith, c.in-len2.len_at_least)) c.two-item.is),
  subst (λ l. ArmFits c.args.place l c.two-item.result × (ArmFits c.args.place l c.one-item.result × (IsReady c.args.place l (state_of c.expression.new.builder) × MayMake 1 (state_of c.expression.new.builder) (choose_last c.args.place l c.two-item.result c.one-item.result (state_of c.expression.new.builder))))) (sym c.in_ok-expression.ensures.layout)
      (choice_two_fits c.args.place c.args.layout.now c.args.e.now c.args.part.now c.args.arms.now c.requires.fits c.requires.is c.one-item.result c.two-item.result (two_are c.as_slice.result.now c.args.arms.now c.as_slice.ensures c.one-item.result c.two-item.result c.in-len2.len_at_least c.in-len2.len_below c.one-item.is c.two-item.is), (choice_one_fits c.args.place c.args.layout.now c.args.e.now c.args.part.now c.args.arms.now c.requires.fits c.requires.is c.one-item.result c.two-item.result (two_are c.as_slice.result.now c.args.arms.now c.as_slice.ensures c.one-item.result c.two-item.result c.in-len2.len_at_least c.in-len2.len_below c.one-item.is c.two-item.is), (still_ready c.args.place c.args.layout.now c.args.e.now c.args.part.now c.args.arms.now c.requires.fits c.requires.is c.one-item.result c.two-item.result (two_are c.as_slice.result.now c.args.arms.now c.as_slice.ensures c.one-item.result c.two-item.result c.in-len2.len_at_least c.in-len2.len_below c.one-item.is c.two-item.is) (state_of c.args.builder.now) (state_of c.expression.new.builder) c.requires.ready c.in_ok-expression.ensures.made, may_choose c.args.place c.args.layout.now c.args.e.now c.args.part.now c.args.arms.now c.requires.fits c.requires.is c.one-item.result c.two-item.result (two_are c.as_slice.result.now c.args.arms.now c.as_slice.ensures c.one-item.result c.two-item.result c.in-len2.len_at_least c.in-len2.len_below c.one-item.is c.two-item.is) (state_of c.args.builder.now) (state_of c.expression.new.builder) c.requires.ready c.in_ok-expression.ensures.made c.two-item.result c.one-item.result (chosen_right c.args.place c.args.layout.now c.args.e.now c.args.part.now c.args.arms.now c.requires.fits c.requires.is c.one-item.result c.two-item.result (two_are c.as_slice.result.now c.args.arms.now c.as_slice.ensures c.one-item.result c.two-item.result c.in-len2.len_at_least c.in-len2.len_below c.one-item.is c.two-item.is) (state_of c.args.builder.now) (state_of c.expression.new.builder) c.requires.ready c.in_ok-expression.ensures.made (sym c.if-is_left.ensures))))),
)

pub choice-returns-then-is_left-clause-made : goal.choice-returns-then-is_left-clause-made
choice-returns-then-is_left-clause-made t c =
    shown _ _ _ _ c.both_sides.ensures.made
    (ap (λ l. choose_last c.args.place l c.one-item.result c.two-item.result (state_of c.expression.new.builder)) c.in_ok-expression.ensures.layout ∙ chosen_left c.args.place c.args.layout.now c.args.e.now c.args.part.now c.args.arms.now c.requires.fits c.requires.is c.one-item.result c.two-item.result (two_are c.as_slice.result.now c.args.arms.now c.as_slice.ensures c.one-item.result c.two-item.result c.in-len2.len_at_least c.in-len2.len_below c.one-item.is c.two-item.is) (state_of c.args.builder.now) (state_of c.expression.new.builder) c.requires.ready c.in_ok-expression.ensures.made (sym c.if-is_left.ensures))

pub choice-returns-else-is_left-clause-made : goal.choice-returns-else-is_left-clause-made
choice-returns-else-is_left-clause-made t c =
    shown _ _ _ _ c.both_sides-else-is_left.ensures.made
    (ap (λ l. choose_last c.args.place l c.two-item.result c.one-item.result (state_of c.expression.new.builder)) c.in_ok-expression.ensures.layout ∙ chosen_right c.args.place c.args.layout.now c.args.e.now c.args.part.now c.args.arms.now c.requires.fits c.requires.is c.one-item.result c.two-item.result (two_are c.as_slice.result.now c.args.arms.now c.as_slice.ensures c.one-item.result c.two-item.result c.in-len2.len_at_least c.in-len2.len_below c.one-item.is c.two-item.is) (state_of c.args.builder.now) (state_of c.expression.new.builder) c.requires.ready c.in_ok-expression.ensures.made (sym c.if-is_left.ensures))
