-- The list of rows, gathered and merged by declared arrows, has the term's different subterms.
use Rattle.std.proofs.Common.{◌≡◌, refl, ap, sym, subst, ◌∙◌, ℕ, zero, suc, ◌<◌, List, [], ◌∷◌, length, Option, Some, None, arith}
use Rattle.std.specs.Prelude.{slice_get}
use Rattle.std.specs.List.{slice_index_or}
use Rattle.std.proofs.lemmas.List.{length-map}
use Rattle.simplicity.specs.Types.{Kind}
use Rattle.simplicity.specs.Nodes.{Node, AreUnder}
use Rattle.simplicity.specs.Order.{has, post_order, IsOrdered}
use Rattle.simplicity.specs.Typing.{Typing, Arrow}
use Rattle.simplicity.specs.Arrows.{declared_arrow}
use Rattle.simplicity.specs.Pruning.{gathered, gathered_numbers, numbers_at}
use Rattle.simplicity.specs.Canon.{names_at}
use Rattle.sharing.specs.Laws.{entries_at}
use Rattle.sharing.proofs.Merged.{merged_ordered, merged_onto, has_range}
use Rattle.sharing.proofs.Gathering.{post_picked, picked_within, gathered_placed, gathered_ordered, gathered_full, gathered_length}
use Rattle.sharing.proofs.Standing.{gathering_stands, merging_stands}
use Rattle.sharing.proofs.Leaves.{witnesses_stand_alone}
use Rattle.sharing.proofs.Orderly.{position}
use Rattle.infer_cells.specs.declared.typing.NodeArrow.{NodeArrow}
use Rattle.infer_cells.specs.Typings.{arrow_in, typing_in, IsBelowBound, AreBelowBound}
use Rattle.share_order.specs.Merged.{IsMergedInOrder}
use Rattle.term_core.specs.declared.table_node.TermRow.{TermRow}
use Rattle.term_core.specs.Terms.{term_at, StandsOver}
use Rattle.row_lists.specs.Rows.{IsRowList}
use Rattle.canon_list.specs.Leaves.{WitnessesAreAlone}
use Rattle.canon_list.specs.Canons.{arrows_at, AreSubterms}
use Rattle.canon_list.proofs.Counting.{merged_count, numbers_long}
use Rattle.canon_list.proofs.Typed.{gathered_typed, merged_typed}
use Rattle.canon_list.proofs.Alone.{nodes_alone}

-- numbers below one, by each
under_by : (n : ℕ) (is : List ℕ) → ((k i : ℕ) → slice_get is k ≡ Some i → i < n) → AreUnder n is
under_by n [] on = tt
under_by n (i ∷ is) on = (on 0 i refl, under_by n is (λ k j h. on (suc k) j h))

-- arrows picked by ids are those that the ids mean
index_along : (kinds : List Kind) (ids : List (Option NodeArrow)) (i : ℕ) → arrow_in kinds (slice_index_or ids i None) ≡ slice_index_or (typing_in kinds ids) i None
index_along kinds [] i = refl
index_along kinds (a ∷ ids) zero = refl
index_along kinds (a ∷ ids) (suc i) = index_along kinds ids i

pub entries_along : (kinds : List Kind) (ids : List (Option NodeArrow)) (is : List ℕ) → typing_in kinds (arrows_at ids is) ≡ entries_at (typing_in kinds ids) is
entries_along kinds ids [] = refl
entries_along kinds ids (i ∷ is) = ap (λ (e : Option Arrow). e ∷ typing_in kinds (arrows_at ids is)) (index_along kinds ids i)
    ∙ ap (λ (es : Typing). slice_index_or (typing_in kinds ids) i None ∷ es) (entries_along kinds ids is)

index_bound : (n : ℕ) (ids : List (Option NodeArrow)) (i : ℕ) → AreBelowBound n ids → IsBelowBound n (slice_index_or ids i None)
index_bound n [] i h = tt
index_bound n (a ∷ ids) zero h = h.0
index_bound n (a ∷ ids) (suc i) h = index_bound n ids i h.1

pub picked_bound : (n : ℕ) (ids : List (Option NodeArrow)) (is : List ℕ) → AreBelowBound n ids → AreBelowBound n (arrows_at ids is)
picked_bound n ids [] h = tt
picked_bound n ids (i ∷ is) h = (index_bound n ids i h, picked_bound n ids is h)

module _ (kinds : List Kind) (rows : List TermRow) (root : ℕ) (ns : List Node) (arrows : List (Option NodeArrow)) (names : List ℕ) (is : IsRowList kinds rows root ns arrows names)
    (order : List ℕ) (order_is : order ≡ post_order ns) where
  abbrev g : List Node
  g = gathered ns

  pub order_within : AreUnder (length ns) order
  order_within = subst (AreUnder (length ns)) (sym order_is) (under_by (length ns) (post_order ns) (picked_within ns (post_order ns) (post_picked ns is.placed is.full)).each)

  pub arrows_within : AreUnder (length arrows) order
  arrows_within = subst (λ (k : ℕ). AreUnder k order) (sym is.count) order_within

  pub list_ordered : (list : List Node) → list ≡ gathered ns → IsOrdered list
  list_ordered list e = subst IsOrdered (sym e) (gathered_ordered ns is.placed is.full)

  pub list_full : (list : List Node) → list ≡ gathered ns → 0 < length list
  list_full list e = subst (λ (l : List Node). 0 < length l) (sym e) (gathered_full ns is.placed is.full)

  pub arrows_count : (list : List Node) (ids : List (Option NodeArrow)) → list ≡ gathered ns → ids ≡ arrows_at arrows order → length ids ≡ length list
  arrows_count list ids e ids_is =
      ap (λ (l : List (Option NodeArrow)). length l) ids_is ∙ length-map order (λ (i : ℕ). slice_index_or arrows i None) ∙ ap (λ (l : List ℕ). length l) order_is
      ∙ sym (gathered_length ns is.placed is.full) ∙ ap (λ (l : List Node). length l) (sym e)

  pub arrows_below : (ids : List (Option NodeArrow)) → ids ≡ arrows_at arrows order → AreBelowBound (length kinds) ids
  arrows_below ids ids_is = subst (AreBelowBound (length kinds)) (sym ids_is) (picked_bound (length kinds) arrows order is.below)

  module _ (stands : StandsOver kinds rows) (within : root < length rows) (alone : WitnessesAreAlone rows root) (ms : List Node) (us : Typing) (f : ℕ → ℕ) where
    abbrev ds : Typing
    ds = entries_at (typing_in kinds arrows) (post_order ns)

    abbrev new_names : List ℕ
    new_names = names_at names (gathered_numbers ns)

    gathered_subterms : IsMergedInOrder g ds ms us f → AreSubterms (term_at kinds rows root) ms new_names
    gathered_subterms merged =
        let t = term_at kinds rows root in
        let g_placed = gathered_placed ns is.placed is.full in
        let g_full = gathered_full ns is.placed is.full in
        let ordered = merged_ordered g ms ds us f g_placed merged.placed g_full merged.merged (gathered_ordered ns is.placed is.full) merged.in_order in
        let onto = merged_onto g ms ds us f g_placed merged.placed g_full merged.merged ordered in
        let g_stands = gathering_stands ns (typing_in kinds arrows) names t is.placed is.full is.whole in
        let count = merged_count g ms ds us f merged.merged merged.in_order onto in
        let leaf_count = witnesses_stand_alone ns (typing_in kinds arrows) names t is.placed is.full is.whole (nodes_alone kinds rows root ns arrows names is stands within alone) in
        record {
          declared = us;
          lists = record {
            placed = merged.placed;
            whole = merging_stands g ms ds us f new_names t g_placed merged.placed g_full merged.merged merged.in_order g_stands;
            reached = λ i l. ap (has i) ordered ∙ has_range 0 (length ms) i (omega arith) (omega (arith, l));
            different = merged.shared;
            alone = count ∙ leaf_count;
          };
          ordered = ordered;
          typed = merged_typed g ms ds us f (declared_arrow t) g_placed merged.placed g_full merged.merged onto merged.count (gathered_typed ns (declared_arrow t) (typing_in kinds arrows) is.placed is.full is.typed);
          named =
              length-map (gathered_numbers ns) (λ k. Rattle.std.specs.Option.unwrap_or (slice_get names k) 0)
              ∙ numbers_long (λ i. position i (post_order ns)) ns (post_order ns) (picked_within ns (post_order ns) (post_picked ns is.placed is.full)) ∙ sym count;
        }

    -- the same of what the code's calls gave
    pub subterms_are : (list : List Node) (ids : List (Option NodeArrow)) (found : List ℕ) → list ≡ gathered ns → ids ≡ arrows_at arrows order → found ≡ names_at names (numbers_at ns order) →
        IsMergedInOrder list (typing_in kinds ids) ms us f → AreSubterms (term_at kinds rows root) ms found
    subterms_are list ids found list_is ids_is found_is merged =
        let ids_mean : typing_in kinds ids ≡ ds = ap (typing_in kinds) ids_is ∙ entries_along kinds arrows order ∙ ap (entries_at (typing_in kinds arrows)) order_is in
        let names_are : found ≡ new_names = found_is ∙ ap (λ (o : List ℕ). names_at names (numbers_at ns o)) order_is in
        subst (AreSubterms (term_at kinds rows root) ms) (sym names_are)
        (gathered_subterms (subst (λ (l : List Node). IsMergedInOrder l ds ms us f) list_is (subst (λ (ts : Typing). IsMergedInOrder list ts ms us f) ids_mean merged)))
