-- Invariants of `evaluation` in `evaluator`.
use Rattle.std.proofs.Common.{◌+◌, ◌-◌, ◌*◌, ◌^◌, ◌≡◌, max, Some, length, option_map}
use Rattle.std.specs.Prelude.{slice_get}
use Rattle.std.specs.Vec.Iter.{into_iter_items, into_iter_len}
use Rattle.hl_data.specs.declared.typed.TypedArm.{TypedArm, size-TypedArm}
use Rattle.hl_data.specs.declared.typed.TypedExpr.{TypedExpr, size-TypedExpr}
use Rattle.hl_data.specs.declared.typed.TypedForm.TheShapes.{weighed-TypedForm-Block-1, weighed-TypedForm-Match-1}
use Rattle.hl_data.specs.declared.value.HlValue.TheViews.{out-HlValue}
use Rattle.hl_meaning.specs.Answer.{gives}
use Rattle.hl_meaning.specs.Loops.{folded, counted}
use Rattle.hl_meaning.specs.Mean.{Function, mean_statement, mean_arm}
use Rattle.hl_meaning.proofs.Forms.{arm-side}
use Rattle.hl_eval.specs.Here.{functions_in, witness_in, mean_in}
use Rattle.hl_eval.proofs.Turns.{Parts, Statements, Arms}
use Rattle.hl_eval.proofs.Weight.{weight_of}
use Rattle.hl_eval.proofs.evaluator.Evaluator.+evaluation.Given as goal

abbrev pub decreases-expression : goal.decreases-expression
decreases-expression l = 8 * (weight_of l.self.now.functions.now + goal.size-expression l) + 4

abbrev pub decreases-statement : goal.decreases-statement
decreases-statement l = 8 * (weight_of l.self.now.functions.now + goal.size-statement l) + 5

abbrev pub decreases-last : goal.decreases-last
decreases-last l = 8 * (weight_of l.self.now.functions.now + goal.size-last l) + 5

abbrev pub decreases-arm : goal.decreases-arm
decreases-arm l = 8 * (weight_of l.self.now.functions.now + goal.size-arm l) + 5

abbrev pub decreases-used : goal.decreases-used
decreases-used l = 8 * (weight_of l.self.now.functions.now + goal.size-used l) + 5

abbrev pub decreases-converted : goal.decreases-converted
decreases-converted l = 8 * (weight_of l.self.now.functions.now + size-TypedExpr l.part.now) + 5

abbrev pub decreases-gathered : goal.decreases-gathered
decreases-gathered l = 8 * (weight_of l.self.now.functions.now + goal.size-gathered l) + 7

abbrev pub decreases-loop_over : goal.decreases-loop_over
decreases-loop_over l = 8 * (weight_of l.self.now.functions.now + max (goal.size-loop_over l) (size-TypedExpr l.start.now)) + 5

abbrev pub decreases-counting : goal.decreases-counting
decreases-counting l = 8 * (weight_of l.self.now.functions.now + max (goal.size-counting l) (size-TypedExpr l.context.now)) + 5

abbrev pub decreases-block : goal.decreases-block
decreases-block l = 8 * (weight_of l.self.now.functions.now + max (goal.size-block l) ((weighed-TypedForm-Block-1).weight TypedExpr size-TypedExpr l.last.now)) + 6

abbrev pub decreases-choice : goal.decreases-choice
decreases-choice l = 8 * (weight_of l.self.now.functions.now + max (goal.size-choice l) ((weighed-TypedForm-Match-1).weight TypedArm size-TypedArm l.arms.now)) + 6

abbrev pub decreases-parts : goal.decreases-parts
decreases-parts l = 8 * (weight_of l.self.now.functions.now + goal.size-parts l) + 6

abbrev pub decreases-fold : goal.decreases-fold
decreases-fold l = 8 * weight_of l.self.now.functions.now + 3

abbrev pub decreases-for_while : goal.decreases-for_while
decreases-for_while l = 8 * weight_of l.self.now.functions.now + 3

abbrev pub decreases-turn : goal.decreases-turn
decreases-turn l = 8 * weight_of l.self.now.functions.now + 2

abbrev pub decreases-run : goal.decreases-run
decreases-run l = 8 * weight_of l.self.now.functions.now + 1

abbrev pub invariant-parts-parts : goal.invariant-parts-parts
invariant-parts-parts l = Parts (mean_in l.self) l.part-items l.part-index l.values l.scope l.fn.scope

abbrev pub invariant-block-statements : goal.invariant-block-statements
invariant-block-statements l =
    Statements (mean_statement (functions_in l.self) (witness_in l.self)) l.statement-items l.statement-index (option_map (mean_in l.self) l.last) l.scope l.fn.scope

abbrev pub invariant-choice-arms : goal.invariant-choice-arms
invariant-choice-arms l =
    record {
      value : mean_in l.self l.part l.fn.scope ≡ gives l.value;
      left : Arms (mean_arm (functions_in l.self) (witness_in l.self)) (arm-side (functions_in l.self) (witness_in l.self)) l.arm-items l.arm-index (out-HlValue l.value) l.scope l.fn.scope;
    }

abbrev pub invariant-fold-items : goal.invariant-fold-items
invariant-fold-items l =
    record {
      can : (goal.iterator-fold-items).can_next l.item-iterator;
      finite : (goal.iterator-fold-items).is_finite l.item-iterator;
      long : length (into_iter_items l.item-iterator) ≡ into_iter_len l.item-iterator;
      same : (f : Function) → slice_get (functions_in l.self) l.place ≡ Some f → folded f.run (into_iter_items l.item-iterator) l.made ≡ folded f.run l.fn.items l.fn.start;
    }

abbrev pub invariant-for_while-turns : goal.invariant-for_while-turns
invariant-for_while-turns l =
    (f : Function) → slice_get (functions_in l.self) l.place ≡ Some f →
    counted f.run l.width l.context (2 ^ l.width - l.counter) l.counter l.made ≡ counted f.run l.width l.context (2 ^ l.width) 0 l.fn.start
