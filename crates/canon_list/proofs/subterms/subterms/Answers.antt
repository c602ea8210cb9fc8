-- Answers to the goals of `subterms` in `subterms`.
use Rattle.std.proofs.Common.{ap, ◌∙◌, List, ℕ}
use Rattle.simplicity.specs.Canon.{names_at}
use Rattle.simplicity.specs.Pruning.{numbers_at}
use Rattle.infer_cells.specs.Typings.{typing_in}
use Rattle.share_order.specs.Keys.{place_at}
use Rattle.canon_list.specs.Canons.{arrows_at}
use Rattle.canon_list.proofs.Rows.{order_within, arrows_within, list_full, list_ordered, arrows_count, arrows_below, subterms_are}
use Rattle.canon_list.proofs.subterms.subterms.Goals as goal

pub gather_arrows-requires : goal.gather_arrows-requires
gather_arrows-requires c =
    arrows_within c.args.types.now c.args.table.now c.args.root c.in_ok-rows.rows.nodes c.in_ok-rows.rows.arrows c.in_ok-rows.rows.names.items c.in_ok-rows.ensures
    c.as_slice-2.result.now (c.as_slice-2.ensures.value ∙ c.in_ok-order.ensures)

pub gather_names-requires-clause-within : goal.gather_names-requires-clause-within
gather_names-requires-clause-within c =
    order_within c.args.types.now c.args.table.now c.args.root c.in_ok-rows.rows.nodes c.in_ok-rows.rows.arrows c.in_ok-rows.rows.names.items c.in_ok-rows.ensures
    c.as_slice-4.result.now (c.as_slice-4.ensures.value ∙ c.in_ok-order.ensures)

pub merge-requires-clause-full : goal.merge-requires-clause-full
merge-requires-clause-full c =
    list_full c.args.types.now c.args.table.now c.args.root c.in_ok-rows.rows.nodes c.in_ok-rows.rows.arrows c.in_ok-rows.rows.names.items c.in_ok-rows.ensures
    c.in_ok-order.order.items c.in_ok-order.ensures c.in_ok-nodes.nodes c.in_ok-nodes.ensures

pub merge-requires-clause-ordered : goal.merge-requires-clause-ordered
merge-requires-clause-ordered c =
    list_ordered c.args.types.now c.args.table.now c.args.root c.in_ok-rows.rows.nodes c.in_ok-rows.rows.arrows c.in_ok-rows.rows.names.items c.in_ok-rows.ensures
    c.in_ok-order.order.items c.in_ok-order.ensures c.in_ok-nodes.nodes c.in_ok-nodes.ensures

pub merge-requires-clause-count : goal.merge-requires-clause-count
merge-requires-clause-count c =
    arrows_count c.args.types.now c.args.table.now c.args.root c.in_ok-rows.rows.nodes c.in_ok-rows.rows.arrows c.in_ok-rows.rows.names.items c.in_ok-rows.ensures
    c.in_ok-order.order.items c.in_ok-order.ensures c.in_ok-nodes.nodes c.in_ok-arrows.arrows c.in_ok-nodes.ensures
    (c.in_ok-arrows.ensures ∙ ap (arrows_at c.in_ok-rows.rows.arrows) c.as_slice-2.ensures.value)

pub merge-requires-clause-there : goal.merge-requires-clause-there
merge-requires-clause-there c =
    arrows_below c.args.types.now c.args.table.now c.args.root c.in_ok-rows.rows.nodes c.in_ok-rows.rows.arrows c.in_ok-rows.rows.names.items c.in_ok-rows.ensures
    c.in_ok-order.order.items c.in_ok-order.ensures c.in_ok-arrows.arrows (c.in_ok-arrows.ensures ∙ ap (arrows_at c.in_ok-rows.rows.arrows) c.as_slice-2.ensures.value)

pub returns : goal.returns
returns c =
    subterms_are c.args.types.now c.args.table.now c.args.root c.in_ok-rows.rows.nodes c.in_ok-rows.rows.arrows c.in_ok-rows.rows.names.items c.in_ok-rows.ensures
    c.in_ok-order.order.items c.in_ok-order.ensures c.requires.stands c.requires.there c.requires.alone c.in_ok-merged.merged.nodes
    (typing_in c.args.types.now c.in_ok-merged.merged.typing) (place_at c.in_ok-merged.merged.places.items) c.in_ok-nodes.nodes c.in_ok-arrows.arrows c.in_ok-names.names.items
    c.in_ok-nodes.ensures (c.in_ok-arrows.ensures ∙ ap (arrows_at c.in_ok-rows.rows.arrows) c.as_slice-2.ensures.value)
    (c.in_ok-names.ensures ∙ ap (λ (o : List ℕ). names_at c.as_slice-3.result.now (numbers_at c.in_ok-rows.rows.nodes o)) c.as_slice-4.ensures.value
    ∙ ap (λ (n : List ℕ). names_at n (numbers_at c.in_ok-rows.rows.nodes c.in_ok-order.order.items)) c.as_slice-3.ensures.value)
    c.in_ok-merged.ensures.merged
