-- Answers to the goals of `canonical`: the canonical list of a table's term at its own arrow.
use Rattle.std.proofs.Common.{◌≡◌, sym, subst, length, List, ℕ, ◌<◌}
use Rattle.simplicity.specs.Typing.{Arrow}
use Rattle.simplicity.specs.Arrows.{declared_arrow}
use Rattle.simplicity.specs.Canon.{erased, IsCanon}
use Rattle.simplicity.specs.Nodes.{tree_of}
use Rattle.simplicity.specs.Pruning.{IsReordered}
use Rattle.sharing.specs.Laws.{renumbered}
use Rattle.term_core.specs.Terms.{term_at}
use Rattle.infer_cells.specs.Typings.{typing_in}
use Rattle.infer_cells.specs.Constrained.{arrow_between}
use Rattle.row_lists.proofs.Meaning.{types_there}
use Rattle.share_order.specs.Refusals.{HasTyping, RefusesReordered}
use Rattle.canon_list.specs.Canons.{name_at}
use Rattle.canon_list.proofs.Canons.{subterms_root, subterms_typed, arrow_at, canon_is, canon_tree, canon_refused}
use Rattle.canon_list.proofs.canon.canonical.Goals as goal

pub reorder-requires-clause-rooted : goal.reorder-requires-clause-rooted
reorder-requires-clause-rooted c = subterms_root (term_at c.args.types.now c.args.table.now c.args.root) c.in_ok-subterms.subterms.nodes c.in_ok-subterms.subterms.names.items c.in_ok-subterms.ensures

pub reorder-requires-clause-source : goal.reorder-requires-clause-source
reorder-requires-clause-source c =
    let row = c.arrow-source.ensures in
    subst (λ (s : ℕ). s < length c.args.types.now) row.2.0 (types_there c.args.types.now c.args.table.now c.args.root row.0 c.requires.stands row.1).0

pub reorder-requires-clause-target : goal.reorder-requires-clause-target
reorder-requires-clause-target c =
    let row = c.arrow-source.ensures in
    subst (λ (s : ℕ). s < length c.args.types.now) row.2.1 (types_there c.args.types.now c.args.table.now c.args.root row.0 c.requires.stands row.1).1

pub reorder-requires-clause-typed : goal.reorder-requires-clause-typed
reorder-requires-clause-typed c =
    let row = c.arrow-source.ensures in
    let t = term_at c.args.types.now c.args.table.now c.args.root in
    subst (HasTyping c.in_ok-subterms.subterms.nodes) (sym (arrow_at c.args.types.now c.args.table.now c.args.root row.0 c.requires.stands row.1 c.arrow-source.result.0 c.arrow-source.result.1 row.2.0 row.2.1))
    (subterms_typed t c.in_ok-subterms.subterms.nodes c.in_ok-subterms.subterms.names.items c.in_ok-subterms.ensures)

pub returns-in-Err-clause-refused : goal.returns-in-Err-clause-refused
returns-in-Err-clause-refused c =
    let row = c.arrow-source.ensures in
    let t = term_at c.args.types.now c.args.table.now c.args.root in
    let same = arrow_at c.args.types.now c.args.table.now c.args.root row.0 c.requires.stands row.1 c.arrow-source.result.0 c.arrow-source.result.1 row.2.0 row.2.1 in
    canon_refused t c.in_ok-subterms.subterms.nodes c.in_ok-subterms.subterms.names.items c.in_ok-subterms.ensures (declared_arrow t) c.in-Err.refusal
    (subst (λ (a : Arrow). RefusesReordered c.in_ok-subterms.subterms.nodes a c.in-Err.refusal) same c.in-Err.ensures.refused)

pub returns-clause-canon : goal.returns-clause-canon
returns-clause-canon c =
    let row = c.arrow-source.ensures in
    let t = term_at c.args.types.now c.args.table.now c.args.root in
    let same = arrow_at c.args.types.now c.args.table.now c.args.root row.0 c.requires.stands row.1 c.arrow-source.result.0 c.arrow-source.result.1 row.2.0 row.2.1 in
    let us = typing_in c.reorder.new.types c.in-Ok.reordered.typing in
    let re = subst (λ (a : Arrow). IsReordered c.in_ok-subterms.subterms.nodes a c.in-Ok.reordered.nodes us c.in-Ok.reordered.places) same c.in-Ok.ensures.reordered in
    subst (IsCanon t (declared_arrow t) c.in-Ok.reordered.nodes us) (sym c.from_numbers.ensures)
    (canon_is t c.in_ok-subterms.subterms.nodes c.in_ok-subterms.subterms.names.items c.in_ok-subterms.ensures (declared_arrow t) c.in-Ok.reordered.nodes us c.in-Ok.reordered.places re)

pub returns-clause-tree : goal.returns-clause-tree
returns-clause-tree c =
    let row = c.arrow-source.ensures in
    let t = term_at c.args.types.now c.args.table.now c.args.root in
    let us = typing_in c.reorder.new.types c.in-Ok.reordered.typing in
    let arrow = arrow_between c.args.types.now c.arrow-source.result.0 c.arrow-source.result.1 in
    subst (λ (names : List ℕ). erased t ≡ renumbered (name_at names) (tree_of c.in-Ok.reordered.nodes)) (sym c.from_numbers.ensures)
    (canon_tree t c.in_ok-subterms.subterms.nodes c.in_ok-subterms.subterms.names.items c.in_ok-subterms.ensures arrow c.in-Ok.reordered.nodes us c.in-Ok.reordered.places c.in-Ok.ensures.reordered)
