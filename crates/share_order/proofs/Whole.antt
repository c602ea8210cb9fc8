-- What was gathered, typed and merged, as the code has it.
use Rattle.std.proofs.Common.{◌≡◌, ap, sym, subst, ◌∙◌, ℕ, ◌<◌, List, length, Option, Some}
use Rattle.std.specs.Prelude.{slice_get}
use Rattle.std.proofs.lemmas.List.{length-map}
use Rattle.simplicity.specs.Types.{Kind}
use Rattle.simplicity.specs.Nodes.{Node, IsPlaced, HasRoot}
use Rattle.simplicity.specs.Order.{post_order, IsOrdered}
use Rattle.simplicity.specs.Typing.{Typing, Arrow, IsLeast, IsTyping, IsTypingAt, HasNoTyping}
use Rattle.simplicity.specs.Light.{IsLightTyping}
use Rattle.simplicity.specs.Limits.{most_weight}
use Rattle.simplicity.specs.Pruning.{IsReordered, gathered}
use Rattle.simplicity.proofs.Typings.{typing_length}
use Rattle.sharing.proofs.Gathering.{post_picked, gathered_length, gathered_placed, gathered_ordered, gathered_full}
use Rattle.sharing.proofs.Gathered.{gathering_is_typed}
use Rattle.sharing.proofs.Merged.{merged_ordered, merged_onto}
use Rattle.infer_cells.specs.Typings.{arrow_in, typing_in}
use Rattle.infer_cells.specs.declared.typing.NodeArrow.{NodeArrow}
use Rattle.share_order.specs.Keys.{place_at}
use Rattle.share_order.specs.Least.{AreLeast}
use Rattle.share_order.specs.Merged.{IsMergedInOrder}
use Rattle.infer_cells.specs.Typings.{LeastIsHeavy}
use Rattle.share_order.specs.Refusals.{HasTyping, OnTooLarge, RefusesReordered}
use Rattle.share_order.specs.declared.refusal.CanonRefusal.{CanonRefusal}
use Rattle.share_order.specs.declared.refusal.CanonRefusal.TheVariants as canon
use Rattle.share_order.proofs.Reorders.{gathered_root, new_within, new_onto, is_reordered, light_along}

-- as many ids as nodes
pub as_long : (ns : List Node) (kinds : List Kind) (ids : List (Option NodeArrow)) → IsTyping ns (typing_in kinds ids) → length ids ≡ length ns
as_long ns kinds ids typed = sym (length-map ids (arrow_in kinds)) ∙ typing_length (typing_in kinds ids) ns (typing_in kinds ids) typed

pub heavy_refuses : (ns list : List Node) (root : Arrow) (e : CanonRefusal) → list ≡ gathered ns → OnTooLarge e (LeastIsHeavy list root) → RefusesReordered ns root e
heavy_refuses ns list root canon.TypeTooLarge list_is h = subst (λ (l : List Node). LeastIsHeavy l root) list_is h
heavy_refuses ns list root canon.TooManyNodes list_is h = absurd h
heavy_refuses ns list root canon.OutOfMemory list_is h = tt

module _ (ns : List Node) (placed : IsPlaced ns) (root : HasRoot ns) (list : List Node) (list_is : list ≡ gathered ns) where
  pub list_root : HasRoot list
  list_root = subst HasRoot (sym list_is) (gathered_root ns placed root.1 root)

  pub list_ordered : IsOrdered list
  list_ordered = subst IsOrdered (sym list_is) (gathered_ordered ns placed root.1)

  pub list_typed : (arrow : Arrow) → HasTyping ns arrow → HasNoTyping list arrow → ⊥
  list_typed arrow has none =
      let us = gathering_is_typed ns arrow has.typing placed root.1 has.typed in
      none us.0 (subst (λ (l : List Node). IsTypingAt l arrow us.0) (sym list_is) us.1)

  module _ (order : List ℕ) (order_is : order ≡ post_order ns) (ms : List Node) (ts us : Typing) (news : List ℕ) (merged : IsMergedInOrder list ts ms us (place_at news))
      (count : length news ≡ length list) where
    g_merged : IsMergedInOrder (gathered ns) ts ms us (place_at news)
    g_merged = subst (λ (l : List Node). IsMergedInOrder l ts ms us (place_at news)) list_is merged

    g_count : length news ≡ length (gathered ns)
    g_count = count ∙ ap (λ (l : List Node). length l) list_is

    pub each_new : length news ≡ length order
    each_new = g_count ∙ gathered_length ns placed root.1 ∙ sym (ap (λ (l : List ℕ). length l) order_is)

    pub old_within : (i k : ℕ) → slice_get order i ≡ Some k → k < length ns
    old_within i k is = (post_picked ns placed root.1).orderly.within i k (ap (λ (l : List ℕ). slice_get l i) (sym order_is) ∙ is)

    pub all_within : (i k : ℕ) → slice_get news i ≡ Some k → k < length ms
    all_within i k is = new_within ns placed root.1 ms ts us news g_merged g_count i k is

    pub all_onto : (k : ℕ) → k < length ms → (i : ℕ) × (slice_get news i ≡ Some k)
    all_onto k l = new_onto ns placed root.1 ms ts us news g_merged g_count k l

    pub reordered_whole : (arrow : Arrow) (places : List ℕ) → IsLeast list arrow ts → AreLeast order news (length ms) places → IsReordered ns arrow ms us places
    reordered_whole arrow places least old =
        is_reordered ns placed root.1 ms ts us news g_merged g_count arrow places (subst (λ (l : List Node). IsLeast l arrow ts) list_is least)
        (subst (λ (l : List ℕ). AreLeast l news (length ms) places) order_is old)

    pub light_whole : (arrow : Arrow) (places : List ℕ) → IsReordered ns arrow ms us places → IsLightTyping list ts → IsLightTyping ms us
    light_whole arrow places whole light =
        let typed = subst (λ (l : List Node). IsTyping l ts) list_is light.0 in
        let f = place_at news in
        let g_placed = gathered_placed ns placed root.1 in
        let g_full = gathered_full ns placed root.1 in
        let ordered = merged_ordered (gathered ns) ms ts us f g_placed g_merged.placed g_full g_merged.merged (gathered_ordered ns placed root.1) g_merged.in_order in (
          whole.canonical.least.typing.typed,
          light_along (gathered ns) ms ts us f most_weight g_merged.merged (typing_length ts (gathered ns) ts typed) g_merged.count
              (merged_onto (gathered ns) ms ts us f g_placed g_merged.placed g_full g_merged.merged ordered) light.1,
        )
