-- Answers to the goals of `push`: appends a node.
use Rattle.term_core.proofs.Carried.{carried_push}
use Rattle.term_core.proofs.Placed.{placed_push}
use Rattle.term_core.proofs.list.NodeList.push.Goals as goal

pub invariant_of-self-2 : goal.invariant_of-self-2
invariant_of-self-2 c =
    rw c.in_ok-push.ensures.items
    (placed_push _ c.args.node c.args.self.now c.self.view_is c.self.invariant.0 c.requires, carried_push _ c.args.node c.self.invariant.1 c.carried_fits.ensures)
