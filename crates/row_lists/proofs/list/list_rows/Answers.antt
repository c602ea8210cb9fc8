-- Answers to the goals of `list_rows`: the rows of a table up to one, as a list that ends with the node
-- of that row.
use Rattle.std.proofs.Common.{◌≡◌, ℕ, length, ap, sym, subst, ◌∙◌, arith}
use Rattle.simplicity.specs.Nodes.{AreUnder}
use Rattle.term_core.specs.declared.table_node.Node.{Node as RowNode}
use Rattle.term_core.specs.Terms.{child_ids}
use Rattle.row_lists.proofs.Meaning.{children_below}
use Rattle.row_lists.proofs.Listing.{follows_on, listing_on, listing_whole}
use Rattle.row_lists.proofs.list.list_rows.Goals as goal

pub list_node-requires : goal.list_node-requires
list_node-requires c =
    let row = c.node-node.ensures in
    let under = children_below c.args.types.now c.args.table.now c.loop-id.id row.0 c.requires.stands row.1 in
    let long : c.loop-id.id ≡ length c.as_slice.result.now = sym (ap length c.as_slice.ensures.value ∙ c.loop-id.invariant.many) in
    subst (λ (k : ℕ). AreUnder k (child_ids c.node-node.result)) long (subst (λ (x : RowNode). AreUnder c.loop-id.id (child_ids x)) row.2 under)

pub push-requires : goal.push-requires
push-requires c =
    let row = c.node-node.ensures in
    follows_on c.args.types.now c.args.table.now c.requires.stands c.loop-id.id row.0 row.1 _ _ _ _ c.loop-id.invariant c.terms_are_typed_law.ensures
    _ row.2 _ c.in_ok-hidden.ensures.nodes _ c.as_slice.ensures.value _ c.in_ok-hidden.ensures.place _ c.list_node.ensures

pub loop-id-preserved : goal.loop-id-preserved
loop-id-preserved c =
    let row = c.node-node.ensures in
    let other = c.arrow-source.ensures in
    listing_on c.args.types.now c.args.table.now c.requires.stands c.loop-id.id row.0 row.1 _ _ _ _ c.loop-id.invariant c.terms_are_typed_law.ensures
    _ row.2 _ c.in_ok-hidden.ensures.nodes _ c.as_slice.ensures.value _ c.in_ok-hidden.ensures.place _ c.list_node.ensures
    _ c.in_ok-hidden.ensures.arrows _ c.in_ok-push_name.ensures other.0 other.1 _ _ other.2.0 other.2.1 _ c.in_ok-push.ensures.ok
    _ c.in_ok-push-2.ensures.ok _ c.len-place.ensures _ c.in_ok-push-3.ensures.items

pub returns : goal.returns
returns c =
    listing_whole _ _ c.args.root c.loop-id.id _ _ _ c.loop-id.places.items c.requires.stands c.requires.there (omega (arith, c.loop-id-test.false, c.loop-id.auto.id-end))
    c.as_slice-placed.ensures.placed c.loop-id.invariant
