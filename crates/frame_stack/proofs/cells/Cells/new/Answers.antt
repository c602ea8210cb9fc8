-- Answers to the goals of `Cells::new`.
use Rattle.frame_stack.proofs.Changes.{made_undefined}
use Rattle.frame_stack.proofs.cells.Cells.new.Goals as goal

pub returns : goal.returns
returns c = made_undefined c.args.count c.resize.new.self.items (rw c.new-cells.ensures.items at (rw c.new-cells.ensures.len at c.in_ok-resize.ensures.items))
