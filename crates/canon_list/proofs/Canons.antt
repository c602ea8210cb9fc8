-- A term's different subterms, reordered, are its canonical list.
use Rattle.std.proofs.Common.{◌≡◌, ap, sym, subst, ◌∙◌, ℕ, ◌-◌, ◌<◌, List, length, Some, arith}
use Rattle.std.specs.Prelude.{slice_get}
use Rattle.std.specs.List.{slice_index_or}
use Rattle.simplicity.specs.Nodes.{Node, IsShown, HasRoot, witness_number, tree_of}
use Rattle.simplicity.specs.Typing.{Typing, Arrow}
use Rattle.simplicity.specs.Arrows.{declared_arrow}
use Rattle.simplicity.specs.Pruning.{gathered, gathered_numbers, IsReordered}
use Rattle.simplicity.specs.Canon.{Declared, erased, names_at, IsCanon}
use Rattle.simplicity.specs.Types.{Kind}
use Rattle.sharing.specs.Laws.{renumbered}
use Rattle.sharing.proofs.Merging.{within_of, there_at}
use Rattle.sharing.proofs.Merged.{merged_in_order, merged_onto}
use Rattle.sharing.proofs.Gathering.{gathered_placed, gathered_ordered, gathered_full, post_picked, picked_within, shown_renamed}
use Rattle.sharing.proofs.Orderly.{position, range_length}
use Rattle.sharing.proofs.Unfolded.{reordering_renumbers}
use Rattle.simplicity.specs.Order.{post_order}
use Rattle.term_core.specs.declared.table_node.TermRow.{TermRow}
use Rattle.term_core.specs.Terms.{terms, term_at, StandsOver}
use Rattle.term_core.proofs.Growth.{means_there}
use Rattle.infer_cells.specs.Constrained.{arrow_between}
use Rattle.row_lists.proofs.Typed.{own_arrow}
use Rattle.share_order.specs.Refusals.{HasTyping, RefusesReordered}
use Rattle.share_order.specs.declared.refusal.CanonRefusal.{CanonRefusal}
use Rattle.share_order.specs.declared.refusal.CanonRefusal.TheVariants as canon
use Rattle.sharing.specs.Laws.{entries_at}
use Rattle.sharing.proofs.Standing.{gathering_stands}
use Rattle.canon_list.specs.Canons.{name_at, AreSubterms, RefusesCanon}
use Rattle.canon_list.proofs.Counting.{merged_count, numbers_long, ordered_numbers, ordered_names, ordered_number}
use Rattle.canon_list.proofs.Trees.{stands_shown, named_tree, tree_same, renumbered_twice}

-- the arrow of a row is that of its term
pub arrow_is : (kinds : List Kind) (rows : List TermRow) (id : ℕ) (row : TermRow) → StandsOver kinds rows → slice_get rows id ≡ Some row →
    arrow_between kinds row.source row.target ≡ declared_arrow (term_at kinds rows id)
arrow_is kinds rows id row stands at =
    let means = means_there kinds rows id row stands at in
    sym (ap declared_arrow means.is ∙ own_arrow row.node (terms kinds rows) (arrow_between kinds row.source row.target))

pub arrow_at : (kinds : List Kind) (rows : List TermRow) (id : ℕ) (row : TermRow) → StandsOver kinds rows → slice_get rows id ≡ Some row → (a b : ℕ) → row.source ≡ a → row.target ≡ b →
    arrow_between kinds a b ≡ declared_arrow (term_at kinds rows id)
arrow_at kinds rows id row stands at a b source target =
    ap (λ (x : ℕ). arrow_between kinds x b) (sym source) ∙ ap (arrow_between kinds row.source) (sym target) ∙ arrow_is kinds rows id row stands at

module _ (t : Declared) (list : List Node) (names : List ℕ) (are : AreSubterms t list names) where
  pub subterms_root : HasRoot list
  subterms_root =
      let shown = stands_shown list are.declared names (length list - 1) t are.lists.whole in
      let last = within_of are.declared (length list - 1) (Some (declared_arrow t)) are.typed.rooted in
      let long = Rattle.simplicity.proofs.Typings.typing_length are.declared list are.declared are.typed.typed in
      (shown, omega (arith, last, long))

  pub subterms_typed : HasTyping list (declared_arrow t)
  subterms_typed = record { typing = are.declared; typed = are.typed }

  module _ (root : Arrow) (ms : List Node) (us : Typing) (places : List ℕ) (re : IsReordered list root ms us places) where
    pub canon_is : IsCanon t root ms us names
    canon_is = record {
      list = list;
      declared = are.declared;
      names = names;
      places = places;
      subterms = are.lists;
      reordered = re;
      named = ordered_names list names are.ordered are.named;
    }

    -- as many witness nodes
    count_same : witness_number ms (length ms) ≡ witness_number list (length list)
    count_same =
        let placed = are.lists.placed in
        let full = subterms_root.1 in
        let g = gathered list in
        let g_placed = gathered_placed list placed full in
        let g_full = gathered_full list placed full in
        let in_order = merged_in_order g ms re.typing us re.place g_placed re.canonical.placed g_full re.merged (gathered_ordered list placed full) re.canonical.ordered in
        let onto = merged_onto g ms re.typing us re.place g_placed re.canonical.placed g_full re.merged re.canonical.ordered in
        let all = numbers_long (λ i. position i (post_order list)) list (post_order list) (picked_within list (post_order list) (post_picked list placed full)) in
        let own = ap (λ (l : List ℕ). length l) (ordered_numbers list are.ordered) ∙ range_length 0 (witness_number list (length list)) in
        merged_count g ms re.typing us re.place re.merged in_order onto ∙ sym all ∙ own

    root_shown : HasRoot ms
    root_shown =
        let placed = are.lists.placed in
        let full = subterms_root.1 in
        let g_stands = gathering_stands list are.declared names t placed full are.lists.whole in
        let g_shown = stands_shown (gathered list) (entries_at are.declared (post_order list)) (names_at names (gathered_numbers list)) (length (gathered list) - 1) t g_stands in
        let n = there_at (gathered list) (length (gathered list) - 1) (omega (arith, gathered_full list placed full)) in
        let goes : slice_get ms (length ms - 1) ≡ Some (Rattle.simplicity.specs.Pruning.renamed re.place n.0) =
        ap (slice_get ms) (sym re.merged.root) ∙ re.merged.nodes (length (gathered list) - 1) n.0 n.1 in
        let inside = within_of ms (length ms - 1) (Rattle.simplicity.specs.Pruning.renamed re.place n.0) goes in
        (subst IsShown (sym goes) (shown_renamed re.place n.0 (subst IsShown n.1 g_shown)), omega (arith, inside))

    pub canon_tree : erased t ≡ renumbered (name_at names) (tree_of ms)
    canon_tree =
        let placed = are.lists.placed in
        let first = named_tree list are.declared names t placed are.lists.whole in
        let second = reordering_renumbers list ms us places root placed subterms_root re in
        let old = λ (k : ℕ). slice_index_or (gathered_numbers list) k 0 in
        let same = λ (k : ℕ) (l : k < witness_number ms (length ms)). ap (name_at names) (ordered_number list k are.ordered (omega (arith, l, count_same))) in
        first ∙ ap (renumbered (name_at names)) second ∙ renumbered_twice (name_at names) old (tree_of ms)
        ∙ tree_same ms (λ k. name_at names (old k)) (name_at names) same re.canonical.placed root_shown

  -- a refusal of the list is one of the term
  pub canon_refused : (root : Arrow) (e : CanonRefusal) → RefusesReordered list root e → RefusesCanon t root e
  canon_refused root canon.TypeTooLarge h = record { list = list; declared = are.declared; names = names; subterms = are.lists; heavy = h }
  canon_refused root canon.TooManyNodes h =
      record { nodes = h.nodes; typing = h.typing; names = names; canon = canon_is root h.nodes h.typing h.places h.reordered; light = h.light; long = h.long }
  canon_refused root canon.OutOfMemory h = tt
