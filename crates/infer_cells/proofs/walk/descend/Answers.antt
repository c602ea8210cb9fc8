-- Answers to the goals of `descend`: goes on from a cell to a part of it, which must not be on the path
-- already.
use Rattle.std.proofs.Common.{◌∙◌, sym}
use Rattle.infer_cells.proofs.Paths.{cell_there}
use Rattle.infer_cells.proofs.walk.descend.Goals as goal

pub unreachable-requires : goal.unreachable-requires
unreachable-requires c =
    c.requires.undone (c.in-Done.field-0, cell_there c.args.marks.now.items c.args.part c.index.result.now _ c.requires.within (sym c.index.ensures ∙ c.in-Done.is))

pub returns-in-Open-clause-none : goal.returns-in-Open-clause-none
returns-in-Open-clause-none c = cell_there c.args.marks.now.items c.args.part c.index.result.now _ c.requires.within (sym c.index.ensures ∙ c.in-Open.is)

pub returns-in_ok-map_err-in-New-2-clause-new : goal.returns-in_ok-map_err-in-New-2-clause-new
returns-in_ok-map_err-in-New-2-clause-new c = cell_there c.args.marks.now.items c.args.part c.index.result.now _ c.requires.within (sym c.index.ensures ∙ c.in-New.is)
