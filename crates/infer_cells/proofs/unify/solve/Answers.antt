-- Answers to the goals of `solve` in `unify`.
use Rattle.std.proofs.Common.{◌∙◌}
use Rattle.infer_cells.proofs.Steps.{on_no_typing, same_through, none_through, turned, within_last, pop_less}
use Rattle.infer_cells.proofs.unify.solve.Goals as goal

pub step-requires-clause-within : goal.step-requires-clause-within
step-requires-clause-within c = within_last _ c.pop.new.self.items c.in-Some.equation (rw c.in-Some.ensures.items at c.loop-equation.invariant.within)

pub loop-equation-preserved : goal.loop-equation-preserved
loop-equation-preserved c = record {
  same = same_through _ _ _ _ _ _ (turned c.args.cells.now.items c.loop-equation.cells.items c.args.work.now.items c.loop-equation.work.items c.pop.new.self.items c.in-Some.equation c.loop-equation.invariant.same c.in-Some.ensures.items) c.in-Ok.ensures.same;
  placed = c.in-Ok.ensures.placed;
  within = c.in-Ok.ensures.within;
  count = c.in-Ok.ensures.length ∙ c.loop-equation.invariant.count;
}

pub returns-in-Err-clause-none : goal.returns-in-Err-clause-none
returns-in-Err-clause-none c = on_no_typing c.in-Err.refusal _ _ (λ h. none_through _ _ _ _ (turned c.args.cells.now.items c.loop-equation.cells.items c.args.work.now.items c.loop-equation.work.items c.pop.new.self.items c.in-Some.equation c.loop-equation.invariant.same c.in-Some.ensures.items) h) c.in-Err.ensures.none

pub loop-equation-smaller : goal.loop-equation-smaller
loop-equation-smaller c =
    pop_less c.loop-equation.cells.items c.step.new.cells.items c.loop-equation.work.items c.pop.new.self.items c.step.new.work.items c.in-Some.equation
    c.in-Some.ensures.items c.in-Ok.ensures.less
