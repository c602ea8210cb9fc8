-- What was gathered, typed and merged is the list reordered.
use Rattle.std.proofs.Common.{◌≡◌, refl, ap, sym, subst, ◌∙◌, ℕ, zero, suc, ◌-◌, ◌<◌, List, [], ◌∷◌, length, Option, Some, arith}
use Rattle.std.specs.Prelude.{slice_get}
use Rattle.std.proofs.lemmas.Option.{get_or_from_slice_get, slice_get-get_or}
use Rattle.simplicity.specs.Nodes.{Node, IsPlaced, HasRoot, IsShown}
use Rattle.simplicity.specs.Order.{post_order}
use Rattle.simplicity.specs.Places.{ArePlaces}
use Rattle.simplicity.specs.Typing.{Typing, Arrow, IsLeast, IsLight, IsEntryLight}
use Rattle.simplicity.specs.Pruning.{IsMerged, IsReordered, gathered, renamed}
use Rattle.sharing.proofs.Merging.{within_of, there_at}
use Rattle.sharing.proofs.Merged.{merged_ordered, merged_onto}
use Rattle.sharing.proofs.Orderly.{position, position_there}
use Rattle.sharing.proofs.Gathering.{post_picked, picked_within, picked_at, place_is, has_at, root_place, shown_renamed, gathered_placed, gathered_ordered, gathered_full, gathered_length}
use Rattle.sharing.proofs.Reordered.{merged_is_reordered}
use Rattle.share_order.specs.Keys.{place_at}
use Rattle.share_order.specs.Least.{AreLeast}
use Rattle.share_order.specs.Merged.{IsMergedInOrder}

module _ (ns : List Node) (placed : IsPlaced ns) (full : 0 < length ns) where
  -- the root is gathered
  pub gathered_root : HasRoot ns → HasRoot (gathered ns)
  gathered_root root =
      let done = post_order ns in
      let last = root_place ns placed full in
      let n = there_at ns (length ns - 1) (omega arith) in
      let count = gathered_length ns placed full in
      let picked = post_picked ns placed full in
      let pos = λ (j : ℕ). position j done in
      let is = picked_at pos ns done (length done - 1) (length ns - 1) n.0 (picked_within ns done picked) last.0 n.1 in
      let here : slice_get (gathered ns) (length (gathered ns) - 1) ≡ Some (renamed pos n.0) = ap (λ (x : ℕ). slice_get (gathered ns) (x - 1)) count ∙ is in
      (subst IsShown (sym here) (shown_renamed pos n.0 (subst IsShown n.1 root.0)), gathered_full ns placed full)

  module _ (ms : List Node) (ts us : Typing) (news : List ℕ) (merged : IsMergedInOrder (gathered ns) ts ms us (place_at news)) (count : length news ≡ length (gathered ns)) where
    many : length news ≡ length (post_order ns)
    many = count ∙ gathered_length ns placed full

    new_at : (i k : ℕ) → slice_get news i ≡ Some k → place_at news i ≡ k
    new_at i k is = get_or_from_slice_get news i k 0 is

    pub new_within : (i k : ℕ) → slice_get news i ≡ Some k → k < length ms
    new_within i k is =
        let inside = within_of news i k is in
        let n = there_at (gathered ns) i (omega (arith, inside, count)) in
        within_of ms k (renamed (place_at news) n.0) (ap (slice_get ms) (sym (new_at i k is)) ∙ merged.merged.nodes i n.0 n.1)

    pub new_onto : (k : ℕ) → k < length ms → (i : ℕ) × (slice_get news i ≡ Some k)
    new_onto k l =
        let f = place_at news in
        let g_placed = gathered_placed ns placed full in
        let g_full = gathered_full ns placed full in
        let ordered = merged_ordered (gathered ns) ms ts us f g_placed merged.placed g_full merged.merged (gathered_ordered ns placed full) merged.in_order in
        let from = merged_onto (gathered ns) ms ts us f g_placed merged.placed g_full merged.merged ordered k l in
        (from.0, slice_get-get_or news from.0 0 (omega (arith, from.1, count)) ∙ ap Some from.2)

    pub became_places : (places : List ℕ) → AreLeast (post_order ns) news (length ms) places → ArePlaces ns ms (place_at news) places
    became_places places least = record {
      count = least.long;
      became = λ new old is.
          let done = post_order ns in
          let picked = post_picked ns placed full in
          let went = least.went new old is in
          record {
            reached = has_at done went.index old went.from_there;
            goes = ap (place_at news) (place_is ns done went.index old picked went.from_there) ∙ new_at went.index new went.to_there;
          };
      least = λ new old other is became.
          let done = post_order ns in
          let there = position_there other done became.reached in
          let inside = within_of done (position other done) other there in
          least.least new old other is (record {
            index = position other done;
            from_there = there;
            to_there = slice_get-get_or news (position other done) 0 (omega (arith, inside, many)) ∙ ap Some became.goes;
          });
    }

    pub is_reordered : (root : Arrow) (places : List ℕ) → IsLeast (gathered ns) root ts → AreLeast (post_order ns) news (length ms) places → IsReordered ns root ms us places
    is_reordered root places least old =
        merged_is_reordered ns ms ts us places root (place_at news) placed full merged.placed least merged.merged merged.shared merged.count merged.in_order (became_places places old)

light_entry : (most : ℕ) (ts : Typing) (i : ℕ) (e : Option Arrow) → IsLight most ts → slice_get ts i ≡ Some e → IsEntryLight most e
light_entry most [] i e h is = absurd (cc)
light_entry most (d ∷ ts) zero e h is = let same : d ≡ e = cc in subst (IsEntryLight most) same h.0
light_entry most (d ∷ ts) (suc i) e h is = light_entry most ts i e h.1 is

light_by : (most : ℕ) (us : Typing) → ((i : ℕ) (e : Option Arrow) → slice_get us i ≡ Some e → IsEntryLight most e) → IsLight most us
light_by most [] on = tt
light_by most (e ∷ us) on = (on 0 e refl, light_by most us (λ i d is. on (suc i) d is))

-- a list merged has no types that the list hadn't
pub light_along : (ns ms : List Node) (ts us : Typing) (f : ℕ → ℕ) (most : ℕ) → IsMerged ns ts ms us f → length ts ≡ length ns → length us ≡ length ms →
    ((k : ℕ) → k < length ms → (i : ℕ) × (i < length ns) × (f i ≡ k)) → IsLight most ts → IsLight most us
light_along ns ms ts us f most merged long more onto light =
    light_by most us
    (λ k e is.
    let inside = within_of us k e is in
    let from = onto k (omega (arith, inside, more)) in
    light_entry most ts from.0 e light (sym (merged.arrows from.0 from.1) ∙ ap (slice_get us) from.2 ∙ is))
