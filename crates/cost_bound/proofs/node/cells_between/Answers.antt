-- Answers to the goals of `cells_between`.
use Rattle.cost_bound.proofs.Arrows.{found, none_found}
use Rattle.cost_bound.proofs.node.cells_between.Goals as goal

pub size-requires : goal.size-requires
size-requires c = (found _ _ c.args.first _ c.in-Some.arrow c.requires.typing c.requires.light c.arrow_at.ensures c.in-Some.is).within.1

pub returns-in-Some : goal.returns-in-Some
returns-in-Some c = (found _ _ c.args.first _ c.in-Some.arrow c.requires.typing c.requires.light c.arrow_at.ensures c.in-Some.is).between _ c.size.ensures

pub returns-in-None : goal.returns-in-None
returns-in-None c = (none_found _ _ c.args.first _ c.arrow_at.ensures c.in-None.is).2
