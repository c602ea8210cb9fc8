-- Answers to the goals of `pads`.
use Rattle.type_table.specs.Kinds.{kind_at}
use Rattle.cost_bound.proofs.Sizes.{pad_on_left, pad_on_right}
use Rattle.cost_bound.proofs.writing.pads.Goals as goal

pub returns-clause-left : goal.returns-clause-left
returns-clause-left c = λ light.
    rw c.max-most.ensures
    (pad_on_left (kind_at c.args.types.now c.args.left) (kind_at c.args.types.now c.args.right) c.size-left.result c.size-right.result c.size-left.ensures c.size-right.ensures light)

pub returns-clause-right : goal.returns-clause-right
returns-clause-right c = λ light.
    rw c.max-most.ensures
    (pad_on_right (kind_at c.args.types.now c.args.left) (kind_at c.args.types.now c.args.right) c.size-left.result c.size-right.result c.size-left.ensures c.size-right.ensures light)
