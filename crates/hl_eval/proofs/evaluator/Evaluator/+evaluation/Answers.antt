-- Answers to the goals of `evaluation` in `evaluator`.
use Rattle.std.proofs.Common.{◌≡◌, suc, ◌+◌, ◌-◌, ◌*◌, ◌^◌, ◌<◌, length, take, get_or, ◌++◌, ◌%◌, refl, sym, ap, ◌∙◌, arith}
use Rattle.std.proofs.lemmas.Option.{slice_get_read, slice_get-get_or}
use Rattle.hl_data.specs.declared.typed.TypedForm.TheVariants as form
use Rattle.hl_data.specs.declared.value.HlValue.TheViews.{out-HlValue}
use Rattle.hl_meaning.specs.Answer.{gives, stuck, shaped, and_then}
use Rattle.hl_meaning.specs.Loops.{counted}
use Rattle.hl_meaning.specs.Scopes.{bound}
use Rattle.hl_meaning.specs.Mean.{functions_of, mean, mean_statement, mean_arm, or_after, taken}
use Rattle.hl_meaning.proofs.Forms.{arm-body, arm-side, mean-Array, mean-ArrayFold, mean-Assert, mean-Block, mean-Call, mean-Dbg, mean-False, mean-Fold, mean-ForWhile, mean-Into, mean-IsNone, mean-Jet, mean-Left, mean-Literal, mean-Let, mean-List, mean-Match, mean-Name, mean-Nothing, mean-Panic, mean-Plain, mean-Right, mean-Some, mean-True, mean-Tuple, mean-Unwrap, mean-UnwrapLeft, mean-UnwrapRight, mean-Value, mean-Witness}
use Rattle.hl_eval.specs.Here.{witness_in, functions_in}
use Rattle.hl_eval.proofs.Called.{at_place}
use Rattle.hl_eval.proofs.Done.{fault_as, goes_exit, let_goes, plain_continues, given_all, given_none}
use Rattle.hl_eval.proofs.Exits.{answers_as, just_value, after_value, after_fault, exits, unbound_exit}
use Rattle.hl_eval.proofs.Turns.{statements_fault, arms_next, arms_taken, turn_step, turn_fault, goes_on, counter_is, counter_small, shift_fits}
use Rattle.hl_eval.proofs.Weight.{lighter}
use Rattle.hl_eval.proofs.evaluator.Evaluator.+evaluation.Goals as goal

pub expression-returns-in-Tuple-clause-value : goal.expression-returns-in-Tuple-clause-value
expression-returns-in-Tuple-clause-value t c =
    answers_as _ _ _ (mean-Tuple (functions_in c.args.self.now) (witness_in c.args.self.now) c.args.e.now c.in-Tuple.parts c.in-Tuple.is c.args.scope.now) c.gathered.ensures.value

pub expression-returns-in-Array-clause-value : goal.expression-returns-in-Array-clause-value
expression-returns-in-Array-clause-value t c =
    answers_as _ _ _ (mean-Array (functions_in c.args.self.now) (witness_in c.args.self.now) c.args.e.now c.in-Array.items c.in-Array.is c.args.scope.now) c.gathered-in-Array.ensures.value

pub expression-returns-in-List-clause-value : goal.expression-returns-in-List-clause-value
expression-returns-in-List-clause-value t c =
    answers_as _ _ _ (mean-List (functions_in c.args.self.now) (witness_in c.args.self.now) c.args.e.now c.in-List.items c.in-List.is c.args.scope.now) c.gathered-in-List.ensures.value

pub expression-returns-in-Jet-clause-value : goal.expression-returns-in-Jet-clause-value
expression-returns-in-Jet-clause-value t c =
    answers_as _ _ _ (mean-Jet (functions_in c.args.self.now) (witness_in c.args.self.now) c.args.e.now c.in-Jet.name c.in-Jet.parts c.in-Jet.is c.args.scope.now) c.gathered-in-Jet.ensures.value

pub expression-returns-in-Call-clause-value : goal.expression-returns-in-Call-clause-value
expression-returns-in-Call-clause-value t c =
    answers_as _ _ _ (mean-Call (functions_in c.args.self.now) (witness_in c.args.self.now) c.args.e.now c.in-Call.name c.in-Call.parts c.in-Call.is c.args.scope.now) c.gathered-in-Call.ensures.value

pub expression-returns-in-Assert-clause-value : goal.expression-returns-in-Assert-clause-value
expression-returns-in-Assert-clause-value t c =
    answers_as _ _ _ (mean-Assert (functions_in c.args.self.now) (witness_in c.args.self.now) c.args.e.now c.get-in-Assert.result.now (c.in-Assert.is ∙ ap (form.Assert) (sym c.get-in-Assert.ensures)) c.args.scope.now) c.used.ensures.value

pub expression-returns-in-Unwrap-clause-value : goal.expression-returns-in-Unwrap-clause-value
expression-returns-in-Unwrap-clause-value t c =
    answers_as _ _ _ (mean-Unwrap (functions_in c.args.self.now) (witness_in c.args.self.now) c.args.e.now c.get-in-Unwrap.result.now (c.in-Unwrap.is ∙ ap (form.Unwrap) (sym c.get-in-Unwrap.ensures)) c.args.scope.now) c.used-in-Unwrap.ensures.value

pub expression-returns-in-UnwrapLeft-clause-value : goal.expression-returns-in-UnwrapLeft-clause-value
expression-returns-in-UnwrapLeft-clause-value t c =
    answers_as _ _ _ (mean-UnwrapLeft (functions_in c.args.self.now) (witness_in c.args.self.now) c.args.e.now c.in-UnwrapLeft.field-0 c.get-in-UnwrapLeft.result.now (c.in-UnwrapLeft.is ∙ ap (form.UnwrapLeft c.in-UnwrapLeft.field-0) (sym c.get-in-UnwrapLeft.ensures)) c.args.scope.now) c.used-in-UnwrapLeft.ensures.value

pub expression-returns-in-UnwrapRight-clause-value : goal.expression-returns-in-UnwrapRight-clause-value
expression-returns-in-UnwrapRight-clause-value t c =
    answers_as _ _ _ (mean-UnwrapRight (functions_in c.args.self.now) (witness_in c.args.self.now) c.args.e.now c.in-UnwrapRight.field-0 c.get-in-UnwrapRight.result.now (c.in-UnwrapRight.is ∙ ap (form.UnwrapRight c.in-UnwrapRight.field-0) (sym c.get-in-UnwrapRight.ensures)) c.args.scope.now) c.used-in-UnwrapRight.ensures.value

pub expression-returns-in-IsNone-clause-value : goal.expression-returns-in-IsNone-clause-value
expression-returns-in-IsNone-clause-value t c =
    answers_as _ _ _ (mean-IsNone (functions_in c.args.self.now) (witness_in c.args.self.now) c.args.e.now c.in-IsNone.field-0 c.get-in-IsNone.result.now (c.in-IsNone.is ∙ ap (form.IsNone c.in-IsNone.field-0) (sym c.get-in-IsNone.ensures)) c.args.scope.now) c.used-in-IsNone.ensures.value

pub expression-returns-in-Left-clause-value : goal.expression-returns-in-Left-clause-value
expression-returns-in-Left-clause-value t c =
    answers_as _ _ _ (mean-Left (functions_in c.args.self.now) (witness_in c.args.self.now) c.args.e.now c.get-in-Left.result.now (c.in-Left.is ∙ ap (form.Left) (sym c.get-in-Left.ensures)) c.args.scope.now) c.used-in-Left.ensures.value

pub expression-returns-in-Right-clause-value : goal.expression-returns-in-Right-clause-value
expression-returns-in-Right-clause-value t c =
    answers_as _ _ _ (mean-Right (functions_in c.args.self.now) (witness_in c.args.self.now) c.args.e.now c.get-in-Right.result.now (c.in-Right.is ∙ ap (form.Right) (sym c.get-in-Right.ensures)) c.args.scope.now) c.used-in-Right.ensures.value

pub expression-returns-in-Some-clause-value : goal.expression-returns-in-Some-clause-value
expression-returns-in-Some-clause-value t c =
    answers_as _ _ _ (mean-Some (functions_in c.args.self.now) (witness_in c.args.self.now) c.args.e.now c.get-in-Some.result.now (c.in-Some.is ∙ ap (form.Some) (sym c.get-in-Some.ensures)) c.args.scope.now) c.used-in-Some.ensures.value

pub expression-returns-in-Dbg-clause-value : goal.expression-returns-in-Dbg-clause-value
expression-returns-in-Dbg-clause-value t c =
    answers_as _ _ _ (mean-Dbg (functions_in c.args.self.now) (witness_in c.args.self.now) c.args.e.now c.get-in-Dbg.result.now (c.in-Dbg.is ∙ ap (form.Dbg) (sym c.get-in-Dbg.ensures)) c.args.scope.now ∙ just_value _) c.used-in-Dbg.ensures.value

pub expression-returns-in-Panic-clause-value : goal.expression-returns-in-Panic-clause-value
expression-returns-in-Panic-clause-value t c =
    (mean-Panic (functions_in c.args.self.now) (witness_in c.args.self.now) c.args.e.now c.in-Panic.is c.args.scope.now)

pub expression-returns-in-Nothing-clause-value : goal.expression-returns-in-Nothing-clause-value
expression-returns-in-Nothing-clause-value t c =
    (mean-Nothing (functions_in c.args.self.now) (witness_in c.args.self.now) c.args.e.now c.in-Nothing.is c.args.scope.now)

pub expression-returns-in-True-clause-value : goal.expression-returns-in-True-clause-value
expression-returns-in-True-clause-value t c =
    (mean-True (functions_in c.args.self.now) (witness_in c.args.self.now) c.args.e.now c.in-True.is c.args.scope.now)

pub expression-returns-in-False-clause-value : goal.expression-returns-in-False-clause-value
expression-returns-in-False-clause-value t c =
    (mean-False (functions_in c.args.self.now) (witness_in c.args.self.now) c.args.e.now c.in-False.is c.args.scope.now)

pub expression-returns-in-Witness-clause-value : goal.expression-returns-in-Witness-clause-value
expression-returns-in-Witness-clause-value t c =
    answers_as _ _ _ (mean-Witness (functions_in c.args.self.now) (witness_in c.args.self.now) c.args.e.now c.in-Witness.name c.in-Witness.is c.args.scope.now) c.witness_of.ensures

pub expression-returns-in-Name-clause-value : goal.expression-returns-in-Name-clause-value
expression-returns-in-Name-clause-value t c =
    answers_as _ _ _ (mean-Name (functions_in c.args.self.now) (witness_in c.args.self.now) c.args.e.now c.in-Name.name c.in-Name.is c.args.scope.now) c.value_of.ensures

pub expression-returns-in_ok-copy_value-in-Value-clause-value : goal.expression-returns-in_ok-copy_value-in-Value-clause-value
expression-returns-in_ok-copy_value-in-Value-clause-value t c =
    (mean-Value (functions_in c.args.self.now) (witness_in c.args.self.now) c.args.e.now c.in-Value.value c.in-Value.is c.args.scope.now) ∙ ap gives (sym c.in_ok-copy_value-in-Value.ensures)

pub expression-returns-in-Block-clause-value : goal.expression-returns-in-Block-clause-value
expression-returns-in-Block-clause-value t c =
    answers_as _ _ _ (mean-Block (functions_in c.args.self.now) (witness_in c.args.self.now) c.args.e.now c.in-Block.statements c.in-Block.last c.in-Block.is c.args.scope.now) c.block.ensures.value

pub expression-returns-in-Match-clause-value : goal.expression-returns-in-Match-clause-value
expression-returns-in-Match-clause-value t c =
    answers_as _ _ _ (mean-Match (functions_in c.args.self.now) (witness_in c.args.self.now) c.args.e.now c.get.result.now c.in-Match.arms (c.in-Match.is ∙ ap (λ p. form.Match p c.in-Match.arms) (sym c.get.ensures)) c.args.scope.now) c.choice.ensures.value

pub expression-returns-in-Fold-clause-value : goal.expression-returns-in-Fold-clause-value
expression-returns-in-Fold-clause-value t c =
    answers_as _ _ _ (mean-Fold (functions_in c.args.self.now) (witness_in c.args.self.now) c.args.e.now c.in-Fold.name c.in-Fold.field-1 c.get-in-Fold.result.now c.get-in-Fold-2.result.now (c.in-Fold.is ∙ ap (λ p. form.Fold c.in-Fold.name c.in-Fold.field-1 p c.in-Fold.start) (sym c.get-in-Fold.ensures) ∙ ap (form.Fold c.in-Fold.name c.in-Fold.field-1 c.get-in-Fold.result.now) (sym c.get-in-Fold-2.ensures)) c.args.scope.now) c.loop_over.ensures.value

pub expression-returns-in-ArrayFold-clause-value : goal.expression-returns-in-ArrayFold-clause-value
expression-returns-in-ArrayFold-clause-value t c =
    answers_as _ _ _ (mean-ArrayFold (functions_in c.args.self.now) (witness_in c.args.self.now) c.args.e.now c.in-ArrayFold.name c.in-ArrayFold.field-1 c.get-in-ArrayFold.result.now c.get-in-ArrayFold-2.result.now (c.in-ArrayFold.is ∙ ap (λ p. form.ArrayFold c.in-ArrayFold.name c.in-ArrayFold.field-1 p c.in-ArrayFold.start) (sym c.get-in-ArrayFold.ensures) ∙ ap (form.ArrayFold c.in-ArrayFold.name c.in-ArrayFold.field-1 c.get-in-ArrayFold.result.now) (sym c.get-in-ArrayFold-2.ensures)) c.args.scope.now) c.loop_over-in-ArrayFold.ensures.value

pub expression-returns-in-ForWhile-clause-value : goal.expression-returns-in-ForWhile-clause-value
expression-returns-in-ForWhile-clause-value t c =
    answers_as _ _ _ (mean-ForWhile (functions_in c.args.self.now) (witness_in c.args.self.now) c.args.e.now c.in-ForWhile.name c.get-in-ForWhile.result.now c.get-in-ForWhile-2.result.now (c.in-ForWhile.is ∙ ap (λ p. form.ForWhile c.in-ForWhile.name p c.in-ForWhile.context) (sym c.get-in-ForWhile.ensures) ∙ ap (form.ForWhile c.in-ForWhile.name c.get-in-ForWhile.result.now) (sym c.get-in-ForWhile-2.ensures)) c.args.scope.now) c.counting.ensures.value

pub block-returns-in_err-statement-clause-value : goal.block-returns-in_err-statement-clause-value
block-returns-in_err-statement-clause-value t c =
    rw (← c.as_slice-statement-items.ensures)
    (exits _ _ _ c.from_residual.ensures.1
    (statements_fault (mean_statement (functions_in c.args.self.now) (witness_in c.args.self.now)) c.as_slice-statement-items.result.now c.statements.statement-index _ c.statement-item.result c.in_err-statement.field-0.0 c.statements.scope c.args.scope.now c.statements.invariant (slice_get_read c.as_slice-statement-items.result.now (length c.as_slice-statement-items.result.now) c.statements.statement-index c.statement-item.result refl c.statements-test.true c.statement-item.is) c.in_err-statement.ensures))

pub choice-returns-then-takes-clause-value : goal.choice-returns-then-takes-clause-value
choice-returns-then-takes-clause-value t c =
    rw (← c.as_slice-arm-items.ensures)
    (after_value _ _ _ _ c.in_ok-value.ensures.value
    (answers_as _ _ _
    (arms_taken (mean_arm (functions_in c.args.self.now) (witness_in c.args.self.now)) (arm-side (functions_in c.args.self.now) (witness_in c.args.self.now)) c.as_slice-arm-items.result.now c.arms.arm-index (out-HlValue c.in_ok-value.value) c.arm-item.result c.arms.scope c.args.scope.now c.arms.invariant.left (slice_get_read c.as_slice-arm-items.result.now (length c.as_slice-arm-items.result.now) c.arms.arm-index c.arm-item.result refl c.arms-test.true c.arm-item.is) (sym c.if-takes.ensures)
    ∙ ap (λ b. or_after (taken c.arm-item.result.side (out-HlValue c.in_ok-value.value)) b stuck c.arms.scope) (arm-body (functions_in c.args.self.now) (witness_in c.args.self.now) c.arm-item.result))
    c.arm.ensures.value))

pub choice-arms-preserved : goal.choice-arms-preserved
choice-arms-preserved t c =
    record {
      value = c.arms.invariant.value;
      left = arms_next (mean_arm (functions_in c.args.self.now) (witness_in c.args.self.now)) (arm-side (functions_in c.args.self.now) (witness_in c.args.self.now)) c.as_slice-arm-items.result.now c.arms.arm-index (out-HlValue c.in_ok-value.value) c.arm-item.result c.arms.scope c.arms.scope c.args.scope.now c.arms.invariant.left (slice_get_read c.as_slice-arm-items.result.now (length c.as_slice-arm-items.result.now) c.arms.arm-index c.arm-item.result refl c.arms-test.true c.arm-item.is) (sym c.if-takes.ensures) refl;
    }

pub for_while-returns-in_err-last : goal.for_while-returns-in_err-last
for_while-returns-in_err-last t c = λ f e.
    let small = counter_small c.args.width c.requires.width in
    let power : (1 * 2 ^ c.args.width) % 4294967296 ≡ 2 ^ c.args.width = shift_fits c.args.width small in
    let less : c.turns.counter < 2 ^ c.args.width = omega (arith, power, c.turns-test.true) in
    let left : 2 ^ c.args.width - c.turns.counter ≡ suc (2 ^ c.args.width - (c.turns.counter + 1)) = omega arith in
    let number = counter_is _ _ _ c.in_ok-counter.ensures in
    let made = c.into_inner.ensures in
    exits _ _ _ c.from_residual-in_err-last.ensures.1
    (fault_as _ _ _ (sym (c.turns.invariant f e) ∙ ap (λ n. counted f.run c.args.width c.args.context.now n c.turns.counter c.turns.made) left) (turn_fault f.run c.args.width (2 ^ c.args.width - (c.turns.counter + 1)) c.turns.counter c.args.context.now c.turns.made _ (rw (made, ← number) at (c.in_err-last.ensures f e))))

pub for_while-returns-in-Last : goal.for_while-returns-in-Last
for_while-returns-in-Last t c = λ f e.
    let small = counter_small c.args.width c.requires.width in
    let power : (1 * 2 ^ c.args.width) % 4294967296 ≡ 2 ^ c.args.width = shift_fits c.args.width small in
    let less : c.turns.counter < 2 ^ c.args.width = omega (arith, power, c.turns-test.true) in
    let left : 2 ^ c.args.width - c.turns.counter ≡ suc (2 ^ c.args.width - (c.turns.counter + 1)) = omega arith in
    let number = counter_is _ _ _ c.in_ok-counter.ensures in
    let made = c.into_inner.ensures in
    sym (c.turns.invariant f e) ∙ ap (λ n. counted f.run c.args.width c.args.context.now n c.turns.counter c.turns.made) left ∙ turn_step f.run c.args.width (2 ^ c.args.width - (c.turns.counter + 1)) c.turns.counter c.args.context.now c.turns.made c.in_ok-last.field-0 (rw (made, ← number) at (c.in_ok-last.ensures f e)) ∙ ap (goes_on _) c.in-Last.is

pub for_while-turns-preserved : goal.for_while-turns-preserved
for_while-turns-preserved t c = λ f e.
    let small = counter_small c.args.width c.requires.width in
    let power : (1 * 2 ^ c.args.width) % 4294967296 ≡ 2 ^ c.args.width = shift_fits c.args.width small in
    let less : c.turns.counter < 2 ^ c.args.width = omega (arith, power, c.turns-test.true) in
    let left : 2 ^ c.args.width - c.turns.counter ≡ suc (2 ^ c.args.width - (c.turns.counter + 1)) = omega arith in
    let number = counter_is _ _ _ c.in_ok-counter.ensures in
    let made = c.into_inner.ensures in
    sym (ap (λ n. counted f.run c.args.width c.args.context.now n c.turns.counter c.turns.made) left ∙ turn_step f.run c.args.width (2 ^ c.args.width - (c.turns.counter + 1)) c.turns.counter c.args.context.now c.turns.made c.in_ok-last.field-0 (rw (made, ← number) at (c.in_ok-last.ensures f e)) ∙ ap (goes_on (counted f.run c.args.width c.args.context.now (2 ^ c.args.width - (c.turns.counter + 1)) (c.turns.counter + 1))) c.in-Next.is) ∙ c.turns.invariant f e

pub for_while-returns : goal.for_while-returns
for_while-returns t c = λ f e.
    let small = counter_small c.args.width c.requires.width in
    let power : (1 * 2 ^ c.args.width) % 4294967296 ≡ 2 ^ c.args.width = shift_fits c.args.width small in
    let none : 2 ^ c.args.width - c.turns.counter ≡ 0 = omega (arith, power, c.turns-test.false) in
    sym (c.turns.invariant f e) ∙ ap (λ n. counted f.run c.args.width c.args.context.now n c.turns.counter c.turns.made) none

pub run-returns-in_err-bind_parameters : goal.run-returns-in_err-bind_parameters
run-returns-in_err-bind_parameters t c = λ f e.
    let is = at_place (witness_in c.args.self.now) c.args.self.now.functions.now c.args.place c.index-self-place.result f c.requires e in
    answers_as _ _ _ (ap (λ g. g.run c.args.arguments) is) (unbound_exit _ _ _ _ c.from_residual.ensures.1 (given_none _ _ (rw c.new-scope.ensures at c.in_err-bind_parameters.ensures)))

pub run-expression-requires : goal.run-expression-requires
run-expression-requires t c =
    let there = slice_get-get_or c.args.self.now.functions.now c.args.place c.index-self-place.result c.requires in
    let less = lighter c.args.self.now.functions.now c.args.place _ there in
    (omega (arith, less, c.decreases), tt)

pub run-returns : goal.run-returns
run-returns t c = λ f e.
    let is = at_place (witness_in c.args.self.now) c.args.self.now.functions.now c.args.place c.index-self-place.result f c.requires e in
    let given = given_all _ _ (rw c.new-scope.ensures at c.in_ok-bind_parameters.ensures) in
    answers_as _ _ _ (ap (λ g. g.run c.args.arguments) is ∙ ap (λ o. shaped o (mean (functions_of (witness_in c.args.self.now) (take c.args.place c.args.self.now.functions.now)) (witness_in c.args.self.now) (get_or c.args.self.now.functions.now c.args.place c.index-self-place.result).body)) given) c.expression.ensures.value

pub statement-returns-in_err-value-in-Let : goal.statement-returns-in_err-value-in-Let
statement-returns-in_err-value-in-Let t c =
    goes_exit _ _ _ _ _ c.from_residual.ensures.1
    (λ after. fault_as _ _ _ (ap (λ s. mean_statement (functions_in c.args.self.now) (witness_in c.args.self.now) s after c.args.scope.now) c.in-Let.is ∙ mean-Let (functions_in c.args.self.now) (witness_in c.args.self.now) c.in-Let.pattern c.in-Let.kind c.in-Let.value after c.args.scope.now) (after_fault _ _ _ c.in_err-value-in-Let.ensures.value))

pub statement-returns-in_err-expression-in-Plain : goal.statement-returns-in_err-expression-in-Plain
statement-returns-in_err-expression-in-Plain t c =
    goes_exit _ _ _ _ _ c.from_residual-in_err-expression-in-Plain.ensures.1
    (λ after. fault_as _ _ _ (ap (λ s. mean_statement (functions_in c.args.self.now) (witness_in c.args.self.now) s after c.args.scope.now) c.in-Plain.is ∙ mean-Plain (functions_in c.args.self.now) (witness_in c.args.self.now) c.in-Plain.e after c.args.scope.now) (after_fault _ _ _ c.in_err-expression-in-Plain.ensures.value))

pub statement-returns-in_ok-value-in-Let : goal.statement-returns-in_ok-value-in-Let
statement-returns-in_ok-value-in-Let t c =
    let_goes _ (bound c.in-Let.pattern c.in_ok-value-in-Let.value) c.args.scope.now c.expression.new.scope c.bind.new.scope c.bind.result
    (λ after. ap (λ s. mean_statement (functions_in c.args.self.now) (witness_in c.args.self.now) s after c.args.scope.now) c.in-Let.is ∙ mean-Let (functions_in c.args.self.now) (witness_in c.args.self.now) c.in-Let.pattern c.in-Let.kind c.in-Let.value after c.args.scope.now
    ∙ ap (λ a. and_then a (λ v. shaped (bound c.in-Let.pattern v) (λ new. after (new ++ c.args.scope.now)))) c.in_ok-value-in-Let.ensures.value)
    c.in_ok-value-in-Let.ensures.scope c.bind.ensures

pub statement-returns-in_ok-expression-in-Plain : goal.statement-returns-in_ok-expression-in-Plain
statement-returns-in_ok-expression-in-Plain t c =
    plain_continues _ _ c.in_ok-expression-in-Plain.field-0 _ _
    (λ after. ap (λ s. mean_statement (functions_in c.args.self.now) (witness_in c.args.self.now) s after c.args.scope.now) c.in-Plain.is ∙ mean-Plain (functions_in c.args.self.now) (witness_in c.args.self.now) c.in-Plain.e after c.args.scope.now)
    c.in_ok-expression-in-Plain.ensures.value c.in_ok-expression-in-Plain.ensures.scope

pub expression-returns-in-Literal-clause-value : goal.expression-returns-in-Literal-clause-value
expression-returns-in-Literal-clause-value t c =
    answers_as _ _ _ (mean-Literal (functions_in c.args.self.now) (witness_in c.args.self.now) c.args.e.now c.in-Literal.word c.in-Literal.is c.args.scope.now) c.literal.ensures

pub expression-returns-in-Into-clause-value : goal.expression-returns-in-Into-clause-value
expression-returns-in-Into-clause-value t c =
    answers_as _ _ _ (mean-Into (functions_in c.args.self.now) (witness_in c.args.self.now) c.args.e.now c.in-Into.from c.get-in-Into.result.now (c.in-Into.is ∙ ap (form.Into c.in-Into.from) (sym c.get-in-Into.ensures)) c.args.scope.now) c.converted.ensures.value
