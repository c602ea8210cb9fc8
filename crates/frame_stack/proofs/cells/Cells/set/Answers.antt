-- Answers to the goals of `Cells::set`.
use Rattle.frame_stack.proofs.Changes.{set_made}
use Rattle.frame_stack.proofs.cells.Cells.set.Goals as goal

pub returns : goal.returns
returns c = set_made c.self.inside.cells.items c.args.self.now c.args.place c.args.cell c.self.view_is c.requires
