-- Answers to the goals of `merge`: merges the nodes of an ordered list that are equal in kind, children
-- and arrow and are no witnesses.
use Rattle.std.proofs.Common.{sym, subst, length, List, Option}
use Rattle.simplicity.specs.Nodes.{Node}
use Rattle.infer_cells.specs.Typings.{typing_in, AreBelowBound}
use Rattle.infer_cells.specs.declared.typing.NodeArrow.{NodeArrow}
use Rattle.share_order.specs.Keys.{place_at, keys_of, arrows_in}
use Rattle.share_order.specs.Merged.{IsMergedInOrder}
use Rattle.share_order.proofs.Meant.{classes_in_order, arrows_bound}
use Rattle.share_order.proofs.merging.merge.Goals as goal

pub returns-clause-merged : goal.returns-clause-merged
returns-clause-merged c =
    let kinds = c.args.types.now in
    let ns = c.args.nodes.now in
    let ids = c.args.typing.now in
    let keys = keys_of c.in_ok-classes.classes.keys.keys in
    let places = c.in_ok-classes.classes.places.items in
    let whole = classes_in_order kinds ns ids keys places c.in_ok-classes.ensures.classes c.in_ok-classes.ensures.all c.requires.count c.as_slice-placed.ensures.placed c.requires.full
    c.requires.ordered c.tell_apart.ensures c.in_ok-classes.ensures.differ c.in_ok-classes.ensures.placed in
    subst (λ (us : List (Option NodeArrow)). IsMergedInOrder ns (typing_in kinds ids) c.in_ok-nodes.nodes (typing_in kinds us) (place_at places)) (sym c.in_ok-typing.ensures)
    (subst (λ (ms : List Node). IsMergedInOrder ns (typing_in kinds ids) ms (typing_in kinds (arrows_in keys)) (place_at places)) (sym c.in_ok-nodes.ensures) whole)

pub returns-clause-there : goal.returns-clause-there
returns-clause-there c =
    let keys = keys_of c.in_ok-classes.classes.keys.keys in
    subst (AreBelowBound (length c.args.types.now)) (sym c.in_ok-typing.ensures)
    (arrows_bound c.args.types.now c.args.nodes.now c.args.typing.now keys c.in_ok-classes.classes.places.items c.in_ok-classes.ensures.classes c.in_ok-classes.ensures.all c.requires.count
    (length c.args.types.now) c.requires.there)
