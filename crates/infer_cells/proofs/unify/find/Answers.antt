-- Answers to the goals of `find`: the cell at the end of the links from a cell.
use Rattle.std.proofs.Common.{◌<◌, ◌∙◌, sym, arith}
use Rattle.infer_cells.proofs.Steps.{follow_less, follow_same}
use Rattle.infer_cells.proofs.unify.find.Goals as goal

pub links-smaller : goal.links-smaller
links-smaller c = follow_less c.args.cells.now c.links.at c.in-Link.next c.requires.placed c.links.invariant.0 c.in-Link.is

pub links-preserved : goal.links-preserved
links-preserved c =
    let less : c.in-Link.next < c.links.at = follow_less c.args.cells.now c.links.at c.in-Link.next c.requires.placed c.links.invariant.0 c.in-Link.is in
    (omega (arith, c.links.invariant.0), λ f h. sym (follow_same c.args.cells.now c.links.at c.in-Link.next c.links.invariant.0 c.in-Link.is f h) ∙ c.links.invariant.1 f h)
