-- Answers to the goals of `link`: links a cell to one of a lower number, which takes what both hold.
use Rattle.std.proofs.Common.{arith}
use Rattle.std.proofs.lemmas.Option.{slice_get_within}
use Rattle.infer_cells.proofs.Linked.{link_same, link_none, link_placed, link_within, link_less}
use Rattle.infer_cells.proofs.Steps.{on_no_typing}
use Rattle.infer_cells.proofs.unify.link.Goals as goal

pub returns-in-Err-clause-none : goal.returns-in-Err-clause-none
returns-in-Err-clause-none c =
    on_no_typing c.in-Err.refusal _ _ (link_none c.args.cells.now.items c.args.low.at c.args.high.at c.args.low.cell c.args.high.cell c.args.low.cell c.requires.pair c.args.work.now.items)
    c.in-Err.ensures.none

pub index_mut-requires : goal.index_mut-requires
index_mut-requires c =
    let within = slice_get_within c.args.cells.now.items c.args.low.at c.args.low.cell c.requires.pair.first in
    omega (arith, within, c.args.cells.now.ok)

pub index_mut-requires-2 : goal.index_mut-requires-2
index_mut-requires-2 c =
    let within = slice_get_within c.args.cells.now.items c.args.high.at c.args.high.cell c.requires.pair.second in
    omega (arith, within, c.args.cells.now.ok)

pub returns-clause-same : goal.returns-clause-same
returns-clause-same c =
    rw c.in-Ok.ensures.parts
    (link_same c.args.cells.now.items c.args.low.at c.args.high.at c.args.low.cell c.args.high.cell c.in-Ok.content c.requires.pair c.args.work.now.items c.in-Ok.ensures.content)

pub returns-clause-placed : goal.returns-clause-placed
returns-clause-placed c =
    link_placed c.args.cells.now.items c.args.low.at c.args.high.at c.args.low.cell c.args.high.cell c.in-Ok.content c.requires.pair c.in-Ok.ensures.content c.requires.placed

pub returns-clause-within : goal.returns-clause-within
returns-clause-within c =
    rw c.in-Ok.ensures.parts
    (link_within c.args.cells.now.items c.args.low.at c.args.high.at c.args.low.cell c.args.high.cell c.in-Ok.content c.requires.pair c.args.work.now.items c.requires.placed
    c.requires.within)

pub returns-clause-less : goal.returns-clause-less
returns-clause-less c =
    rw c.in-Ok.ensures.parts
    (link_less c.args.cells.now.items c.args.low.at c.args.high.at c.args.low.cell c.args.high.cell c.in-Ok.content c.requires.pair c.args.work.now.items c.in-Ok.ensures.content)
