-- A list is reordered in one way at most, as are lists that gather one, and by one pass of merging.
use Rattle.std.proofs.Common.{◌≡◌, refl, ap, subst, ℕ, ◌<◌, List, length, arith}
use Rattle.simplicity.specs.Nodes.{Node, IsPlaced}
use Rattle.simplicity.specs.Order.{post_order}
use Rattle.simplicity.specs.Typing.{Typing, Arrow, IsLeast}
use Rattle.simplicity.specs.Pruning.{IsMerged, IsReordered, gathered}
use Rattle.simplicity.proofs.Typings.{typing_length}
use Rattle.simplicity.proofs.Below.{least_one}
use Rattle.sharing.specs.Laws.{GatheringOrders, MergingOrders, ReorderedIsOne, MergedIsReordered}
use Rattle.sharing.proofs.Merging.{merging_keeps_least, within_of}
use Rattle.sharing.proofs.Orderly.{position, position_there}
use Rattle.sharing.proofs.Gathering.{gathered_placed, gathered_ordered, gathered_full, gathered_length}
use Rattle.sharing.proofs.Merged.{merged_ordered, merged_onto, same_places, one_merged}
use Rattle.sharing.proofs.Placing.{GoAlike, places_are_one}

pub gathering_orders : GatheringOrders
gathering_orders ns placed full = (gathered_placed ns placed full, gathered_ordered ns placed full)

pub merging_orders : MergingOrders
merging_orders ns ms ts us f placed more full merged ordered in_order = merged_ordered ns ms ts us f placed more full merged ordered in_order

-- lists that gather one list are reordered to one
pub reordered_alike : (ns os ms ls : List Node) (us vs : Typing) (ps qs : List ℕ) (root : Arrow) → IsPlaced ns → 0 < length ns → gathered os ≡ gathered ns →
    IsReordered ns root ms us ps → IsReordered os root ls vs qs → (ms ≡ ls) × (us ≡ vs)
reordered_alike ns os ms ls us vs ps qs root placed full same a b =
    let least = subst (λ (g : List Node). IsLeast g root b.typing) same b.least in
    let alike = subst (λ (g : List Node). IsMerged g b.typing ls vs b.place) same b.merged in
    let merged = subst (λ (ts : Typing). IsMerged (gathered ns) ts ls vs b.place) (least_one (gathered ns) root b.typing a.typing least a.least) alike in
    one_merged (gathered ns) ms ls a.typing us vs a.place b.place (gathered_placed ns placed full) a.canonical.placed b.canonical.placed (gathered_full ns placed full)
    (gathered_ordered ns placed full) a.merged merged a.canonical.shared b.canonical.shared a.canonical.ordered b.canonical.ordered
    (typing_length us ms us a.canonical.least.typing.typed) (typing_length vs ls vs b.canonical.least.typing.typed)

-- the second reordering merges the first one's list
second_merged : (ns ms ls : List Node) (us vs : Typing) (ps qs : List ℕ) (root : Arrow) (a : IsReordered ns root ms us ps) (b : IsReordered ns root ls vs qs) → IsMerged (gathered ns) a.typing ls vs b.place
second_merged ns ms ls us vs ps qs root a b =
    subst (λ (ts : Typing). IsMerged (gathered ns) ts ls vs b.place) (least_one (gathered ns) root b.typing a.typing b.least a.least) b.merged

places_alike : (ns ms ls : List Node) (us vs : Typing) (ps qs : List ℕ) (root : Arrow) → IsPlaced ns → 0 < length ns → (a : IsReordered ns root ms us ps) (b : IsReordered ns root ls vs qs) → GoAlike ns a.place b.place
places_alike ns ms ls us vs ps qs root placed full a b old reached =
    let inside = within_of (post_order ns) (position old (post_order ns)) old (position_there old (post_order ns) reached) in
    let count = gathered_length ns placed full in
    same_places (gathered ns) ms ls a.typing us vs a.place b.place (gathered_placed ns placed full) a.canonical.placed b.canonical.placed (gathered_full ns placed full)
    (gathered_ordered ns placed full) a.merged (second_merged ns ms ls us vs ps qs root a b) a.canonical.shared b.canonical.shared a.canonical.ordered b.canonical.ordered
    (position old (post_order ns)) (omega (arith, inside, count))

pub reordered_is_one : ReorderedIsOne
reordered_is_one ns ms ls us vs ps qs root placed full a b =
    let one = reordered_alike ns ns ms ls us vs ps qs root placed full refl a b in
    let many : length ms ≡ length ls = ap (λ (l : List Node). length l) one.0 in
    (one.0, one.1, places_are_one ns ms ls a.place b.place ps qs many (places_alike ns ms ls us vs ps qs root placed full a b) a.from b.from)

pub merged_is_reordered : MergedIsReordered
merged_is_reordered ns ms ts us places root f placed full more least merged shared long in_order from =
    let g_placed = gathered_placed ns placed full in
    let g_full = gathered_full ns placed full in
    let ordered = merged_ordered (gathered ns) ms ts us f g_placed more g_full merged (gathered_ordered ns placed full) in_order in
    record {
      typing = ts;
      place = f;
      least = least;
      merged = merged;
      canonical = record {
        placed = more;
        ordered = ordered;
        least = merging_keeps_least (gathered ns) ms ts us f root least merged (merged_onto (gathered ns) ms ts us f g_placed more g_full merged ordered) long;
        shared = shared;
      };
      from = from;
    }
