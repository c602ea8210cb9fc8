-- Answers to the goals of `reorder_all`: the list reordered, however many nodes it has.
use Rattle.std.proofs.Common.{ap, sym, subst, ◌∙◌, length, List, ℕ, ◌<◌}
use Rattle.infer_cells.specs.Constrained.{arrow_between}
use Rattle.infer_cells.specs.Typings.{typing_in}
use Rattle.simplicity.specs.Pruning.{IsReordered}
use Rattle.share_order.specs.Keys.{place_at}
use Rattle.share_order.specs.Least.{AreLeast}
use Rattle.share_order.specs.Merged.{IsMergedInOrder}
use Rattle.share_order.proofs.Whole.{list_root, list_ordered, list_typed, each_new, old_within, all_within, all_onto, reordered_whole, light_whole}
use Rattle.share_order.proofs.reordering.reorder_all.Goals as goal

pub least_typing-requires-clause-rooted : goal.least_typing-requires-clause-rooted
least_typing-requires-clause-rooted c = list_root c.args.nodes.now c.as_slice-placed.ensures.placed c.requires.rooted c.in_ok-list.list c.in_ok-list.ensures

pub least_typing-requires-clause-typed : goal.least_typing-requires-clause-typed
least_typing-requires-clause-typed c = list_typed c.args.nodes.now c.as_slice-placed.ensures.placed c.requires.rooted c.in_ok-list.list c.in_ok-list.ensures
    (arrow_between c.args.types.now c.args.source c.args.target) c.requires.typed

pub merge-requires-clause-ordered : goal.merge-requires-clause-ordered
merge-requires-clause-ordered c = list_ordered c.args.nodes.now c.as_slice-placed.ensures.placed c.requires.rooted c.in_ok-list.list c.in_ok-list.ensures

pub least_places-requires-clause-each : goal.least_places-requires-clause-each
least_places-requires-clause-each c =
    let ts = typing_in c.least_typing.new.types c.in-Ok.typing in
    let us = typing_in c.least_typing.new.types c.in_ok-merged.merged.typing in
    let order = c.as_slice-2.result.now in
    let order_is = c.as_slice-2.ensures.value ∙ c.in_ok-order.ensures in
    let news = c.as_slice-3.result.now in
    let merged = subst (λ (ps : List ℕ). IsMergedInOrder c.in_ok-list.list ts c.in_ok-merged.merged.nodes us (place_at ps)) (sym c.as_slice-3.ensures.value) c.in_ok-merged.ensures.merged in
    let count = ap (λ (ps : List ℕ). length ps) c.as_slice-3.ensures.value ∙ c.in_ok-merged.ensures.all in
    each_new c.args.nodes.now c.as_slice-placed.ensures.placed c.requires.rooted c.in_ok-list.list c.in_ok-list.ensures order order_is c.in_ok-merged.merged.nodes ts us news merged count

pub least_places-requires-clause-bound : goal.least_places-requires-clause-bound
least_places-requires-clause-bound c =
    let ts = typing_in c.least_typing.new.types c.in-Ok.typing in
    let us = typing_in c.least_typing.new.types c.in_ok-merged.merged.typing in
    let order = c.as_slice-2.result.now in
    let order_is = c.as_slice-2.ensures.value ∙ c.in_ok-order.ensures in
    let news = c.as_slice-3.result.now in
    let merged = subst (λ (ps : List ℕ). IsMergedInOrder c.in_ok-list.list ts c.in_ok-merged.merged.nodes us (place_at ps)) (sym c.as_slice-3.ensures.value) c.in_ok-merged.ensures.merged in
    let count = ap (λ (ps : List ℕ). length ps) c.as_slice-3.ensures.value ∙ c.in_ok-merged.ensures.all in
    λ i k is. subst (λ (n : ℕ). k < n) (sym c.len-2.ensures)
    (old_within c.args.nodes.now c.as_slice-placed.ensures.placed c.requires.rooted c.in_ok-list.list c.in_ok-list.ensures order order_is c.in_ok-merged.merged.nodes ts us news merged count i k is)

pub least_places-requires-clause-within : goal.least_places-requires-clause-within
least_places-requires-clause-within c =
    let ts = typing_in c.least_typing.new.types c.in-Ok.typing in
    let us = typing_in c.least_typing.new.types c.in_ok-merged.merged.typing in
    let order = c.as_slice-2.result.now in
    let order_is = c.as_slice-2.ensures.value ∙ c.in_ok-order.ensures in
    let news = c.as_slice-3.result.now in
    let merged = subst (λ (ps : List ℕ). IsMergedInOrder c.in_ok-list.list ts c.in_ok-merged.merged.nodes us (place_at ps)) (sym c.as_slice-3.ensures.value) c.in_ok-merged.ensures.merged in
    let count = ap (λ (ps : List ℕ). length ps) c.as_slice-3.ensures.value ∙ c.in_ok-merged.ensures.all in
    λ i k is. subst (λ (n : ℕ). k < n) (sym c.len.ensures)
    (all_within c.args.nodes.now c.as_slice-placed.ensures.placed c.requires.rooted c.in_ok-list.list c.in_ok-list.ensures order order_is c.in_ok-merged.merged.nodes ts us news merged count i k is)

pub least_places-requires-clause-onto : goal.least_places-requires-clause-onto
least_places-requires-clause-onto c =
    let ts = typing_in c.least_typing.new.types c.in-Ok.typing in
    let us = typing_in c.least_typing.new.types c.in_ok-merged.merged.typing in
    let order = c.as_slice-2.result.now in
    let order_is = c.as_slice-2.ensures.value ∙ c.in_ok-order.ensures in
    let news = c.as_slice-3.result.now in
    let merged = subst (λ (ps : List ℕ). IsMergedInOrder c.in_ok-list.list ts c.in_ok-merged.merged.nodes us (place_at ps)) (sym c.as_slice-3.ensures.value) c.in_ok-merged.ensures.merged in
    let count = ap (λ (ps : List ℕ). length ps) c.as_slice-3.ensures.value ∙ c.in_ok-merged.ensures.all in
    λ k l. all_onto c.args.nodes.now c.as_slice-placed.ensures.placed c.requires.rooted c.in_ok-list.list c.in_ok-list.ensures order order_is c.in_ok-merged.merged.nodes ts us news merged count k
    (subst (λ (n : ℕ). k < n) c.len.ensures l)

pub returns-clause-reordered : goal.returns-clause-reordered
returns-clause-reordered c =
    let ts = typing_in c.least_typing.new.types c.in-Ok.typing in
    let us = typing_in c.least_typing.new.types c.in_ok-merged.merged.typing in
    let order = c.as_slice-2.result.now in
    let order_is = c.as_slice-2.ensures.value ∙ c.in_ok-order.ensures in
    let news = c.as_slice-3.result.now in
    let merged = subst (λ (ps : List ℕ). IsMergedInOrder c.in_ok-list.list ts c.in_ok-merged.merged.nodes us (place_at ps)) (sym c.as_slice-3.ensures.value) c.in_ok-merged.ensures.merged in
    let count = ap (λ (ps : List ℕ). length ps) c.as_slice-3.ensures.value ∙ c.in_ok-merged.ensures.all in
    let arrow = arrow_between c.args.types.now c.args.source c.args.target in
    let least = subst (λ (n : ℕ). AreLeast order news n c.in_ok-places.places.items) c.len.ensures c.in_ok-places.ensures in
    let whole = reordered_whole c.args.nodes.now c.as_slice-placed.ensures.placed c.requires.rooted c.in_ok-list.list c.in_ok-list.ensures order order_is c.in_ok-merged.merged.nodes ts us news merged count arrow
    c.in_ok-places.places.items c.in-Ok.ensures.least least in
    subst (λ (ps : List ℕ). IsReordered c.args.nodes.now arrow c.in_ok-merged.merged.nodes us ps) (sym c.from_numbers.ensures) whole

pub returns-clause-light : goal.returns-clause-light
returns-clause-light c =
    let ts = typing_in c.least_typing.new.types c.in-Ok.typing in
    let us = typing_in c.least_typing.new.types c.in_ok-merged.merged.typing in
    let order = c.as_slice-2.result.now in
    let order_is = c.as_slice-2.ensures.value ∙ c.in_ok-order.ensures in
    let news = c.as_slice-3.result.now in
    let merged = subst (λ (ps : List ℕ). IsMergedInOrder c.in_ok-list.list ts c.in_ok-merged.merged.nodes us (place_at ps)) (sym c.as_slice-3.ensures.value) c.in_ok-merged.ensures.merged in
    let count = ap (λ (ps : List ℕ). length ps) c.as_slice-3.ensures.value ∙ c.in_ok-merged.ensures.all in
    let arrow = arrow_between c.args.types.now c.args.source c.args.target in
    let least = subst (λ (n : ℕ). AreLeast order news n c.in_ok-places.places.items) c.len.ensures c.in_ok-places.ensures in
    let whole = reordered_whole c.args.nodes.now c.as_slice-placed.ensures.placed c.requires.rooted c.in_ok-list.list c.in_ok-list.ensures order order_is c.in_ok-merged.merged.nodes ts us news merged count arrow
    c.in_ok-places.places.items c.in-Ok.ensures.least least in
    light_whole c.args.nodes.now c.as_slice-placed.ensures.placed c.requires.rooted c.in_ok-list.list c.in_ok-list.ensures order order_is c.in_ok-merged.merged.nodes ts us news merged count arrow
    c.in_ok-places.places.items whole c.in-Ok.ensures.light
