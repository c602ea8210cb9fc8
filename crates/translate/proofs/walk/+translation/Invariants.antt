-- Invariants of `translation` in `walk`.
use Rattle.std.proofs.Common.{◌≡◌, ◌+◌, ◌*◌, ◌-◌, max, length, take, drop}
use Rattle.hl_data.specs.declared.typed.TypedArm.{TypedArm, size-TypedArm}
use Rattle.hl_data.specs.declared.typed.TypedExpr.{TypedExpr, size-TypedExpr}
use Rattle.hl_data.specs.declared.typed.TypedStatement.{TypedStatement, size-TypedStatement}
use Rattle.hl_data.specs.declared.typed.TypedForm.TheShapes.{weighed-TypedForm-Block-0, weighed-TypedForm-Block-1, weighed-TypedForm-Match-1, weighed-TypedForm-Tuple-0}
use Rattle.layout_laws.specs.Scopes.{scope_shape}
use Rattle.term_builder.specs.State.{state_of}
use Rattle.term_builder.specs.Steps.{with_made, with_term}
use Rattle.translate.specs.Blocks.{advance_all, lines_in}
use Rattle.translate.specs.Here.{terms_onto}
use Rattle.translate.proofs.walk.+translation.Given as goal

abbrev pub decreases-expression : goal.decreases-expression
decreases-expression l = 8 * size-TypedExpr l.e.now + 4

abbrev pub decreases-with_part : goal.decreases-with_part
decreases-with_part l = 8 * size-TypedExpr l.part.now + 5

abbrev pub decreases-with_parts : goal.decreases-with_parts
decreases-with_parts l = 8 * (weighed-TypedForm-Tuple-0).weight TypedExpr size-TypedExpr l.parts.now + 7

abbrev pub decreases-expressions : goal.decreases-expressions
decreases-expressions l = 8 * (weighed-TypedForm-Tuple-0).weight TypedExpr size-TypedExpr l.parts.now + 6

abbrev pub decreases-block : goal.decreases-block
decreases-block l = 8 * max ((weighed-TypedForm-Block-0).weight TypedStatement size-TypedStatement l.statements.now) ((weighed-TypedForm-Block-1).weight TypedExpr size-TypedExpr l.last.now) + 6

abbrev pub decreases-statement : goal.decreases-statement
decreases-statement l = 8 * size-TypedStatement l.line.now + 5

abbrev pub decreases-choice : goal.decreases-choice
decreases-choice l = 8 * max (size-TypedExpr l.part.now) ((weighed-TypedForm-Match-1).weight TypedArm size-TypedArm l.arms.now) + 7

abbrev pub decreases-both_sides : goal.decreases-both_sides
decreases-both_sides l = 8 * max (size-TypedArm l.left.now) (size-TypedArm l.right.now) + 6

abbrev pub decreases-arm : goal.decreases-arm
decreases-arm l = 8 * size-TypedArm l.one.now + 5

abbrev pub invariant-expressions-parts : goal.invariant-expressions-parts
invariant-expressions-parts l =
    record {
      state : state_of l.builder ≡ with_made (terms_onto l.place (scope_shape l.fn.layout) (take l.part-index l.part-items) (state_of l.fn.builder).made) (state_of l.fn.builder);
      layout : l.layout ≡ l.fn.layout;
    }

abbrev pub invariant-block-lines : goal.invariant-block-lines
invariant-block-lines l =
    advance_all l.place (take l.line-index l.lines) (record { layout = l.fn.layout; state = state_of l.fn.builder }) ≡ record { layout = l.layout; state = state_of l.builder }

abbrev pub invariant-block-ends : goal.invariant-block-ends
invariant-block-ends l =
    record {
      layout : l.layout ≡ (advance_all l.place (take (length l.lines - l.done) l.lines) (record { layout = l.fn.layout; state = state_of l.fn.builder })).layout;
      state : state_of l.builder ≡ with_term (lines_in l.place (scope_shape l.layout) (drop (length l.lines - l.done) l.lines) l.last) (advance_all l.place (take (length l.lines - l.done) l.lines) (record { layout = l.fn.layout; state = state_of l.fn.builder })).state;
    }
