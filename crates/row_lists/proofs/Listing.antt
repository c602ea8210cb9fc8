-- The list of the first rows of a table, and of one row more.
use Rattle.std.proofs.Common.{◌≡◌, ℕ, suc, ◌+◌, ◌-◌, ◌<◌, ◌≤◌, inl, inr, List, [], ◌∷◌, ◌++◌, length, refl, sym, ap, ◌∙◌, subst, arith, Option, Some, slice_get, append_assoc, length-append}
use Rattle.std.proofs.lemmas.Bool.{cases_lt}
use Rattle.std.proofs.lemmas.List.{map-append}
use Rattle.std.proofs.lemmas.Option.{slice_get_within}
use Rattle.simplicity.specs.Types.{Kind}
use Rattle.simplicity.specs.Nodes.{Node, IsShown, CanFollow, IsPlaced, witness_number}
use Rattle.simplicity.specs.Typing.{Arrow, arrow, Typing, Meets, IsTyping}
use Rattle.simplicity.specs.Canon.{Stands}
use Rattle.simplicity.specs.Arrows.{declared_arrow, IsTypedTerm}
use Rattle.simplicity.proofs.Unfold.{get_last}
use Rattle.sharing.proofs.Merging.{there_at}
use Rattle.infer_cells.specs.declared.typing.NodeArrow.{NodeArrow}
use Rattle.infer_cells.specs.Typings.{arrow_in, typing_in, AreBelowBound}
use Rattle.term_core.specs.declared.table_node.Node.{Node as RowNode}
use Rattle.term_core.specs.declared.table_node.Node.TheVariants as code
use Rattle.term_core.specs.declared.table_node.TermRow.{TermRow}
use Rattle.term_core.specs.Terms.{term_of, node_term, terms, term_at, StandsOver}
use Rattle.term_core.specs.Laws.{TermsAreTyped}
use Rattle.term_core.proofs.Growth.{means_there}
use Rattle.type_table.specs.Kinds.{kind_at}
use Rattle.row_lists.specs.Rows.{place_at, listed, hidden_nodes, hidden_arrows, own_names, RowAt, AreListed, IsRowList}
use Rattle.row_lists.proofs.Meaning.{children_below, types_there, arrow_means, row_stands}
use Rattle.row_lists.proofs.Typed.{own_arrow, root_meets, typed_on, row_meets, hidden_meets, side_none}
use Rattle.row_lists.proofs.Steps.{listed_shown, listed_same, row_follows, hidden_there, get_more, row_more, number_front, total, total_last, hidden_total, row_total, hidden_long, side_more, side_there, name_there, place_front, place_last}

pub record Listing (kinds : List Kind) (rows : List TermRow) (id : ℕ) (ns : List Node) (arrows : List (Option NodeArrow)) (names places : List ℕ) : Type 0 where
  pub many : length places ≡ id
  pub count : length arrows ≡ length ns
  pub named : length names ≡ witness_number ns (length ns)
  pub below : AreBelowBound (length kinds) arrows
  pub each : AreListed rows id ns arrows names (place_at places)
  pub typed : IsTyping ns (typing_in kinds arrows)
  pub grows : (i j : ℕ) → i < j → j < id → place_at places i < place_at places j
  pub last : (i : ℕ) → suc i ≡ id → (place_at places i ≡ length ns - 1) × (0 < length ns)

pub listing_none : (kinds : List Kind) (rows : List TermRow) → Listing kinds rows 0 [] [] [] []
listing_none kinds rows = record {
  many = refl;
  count = refl;
  named = refl;
  below = tt;
  each = λ id row h at. absurd (omega (arith, h));
  typed = tt;
  grows = λ i j l h. absurd (omega (arith, h));
  last = λ i e. absurd (omega (arith, e));
}

both_below : (n : ℕ) (xs ys : List (Option NodeArrow)) → AreBelowBound n xs → AreBelowBound n ys → AreBelowBound n (xs ++ ys)
both_below n [] ys h g = g
both_below n (x ∷ xs) ys h g = (h.0, both_below n xs ys h.1 g)

hidden_below : (n : RowNode) (k : ℕ) → AreBelowBound k (hidden_arrows n)
hidden_below code.Iden k = tt
hidden_below code.Unit k = tt
hidden_below (code.Injl i) k = tt
hidden_below (code.Injr i) k = tt
hidden_below (code.Take i) k = tt
hidden_below (code.Drop i) k = tt
hidden_below (code.Comp i j) k = tt
hidden_below (code.Case i j) k = tt
hidden_below (code.Pair i j) k = tt
hidden_below (code.AssertL i b) k = (tt, tt)
hidden_below (code.AssertR b i) k = (tt, tt)
hidden_below code.Fail k = tt
hidden_below (code.Witness n) k = tt
hidden_below (code.Word w) k = tt

module _ (kinds : List Kind) (rows : List TermRow) (stands : StandsOver kinds rows) (id : ℕ) (row : TermRow) (at : slice_get rows id ≡ Some row)
    (ns : List Node) (arrows : List (Option NodeArrow)) (names places : List ℕ) (old : Listing kinds rows id ns arrows names places) (law : TermsAreTyped) where
  abbrev n : RowNode
  n = row.node

  abbrev ns1 : List Node
  ns1 = ns ++ hidden_nodes n

  abbrev arrows1 : List (Option NodeArrow)
  arrows1 = arrows ++ hidden_arrows n

  abbrev own : Node
  own = listed (place_at places) (length ns) n

  abbrev ids : Option NodeArrow
  ids = Some (record { source = row.source; target = row.target })

  abbrev places1 : List ℕ
  places1 = places ++ length (ns ++ hidden_nodes n) ∷ []

  child_shown : (within : id ≤ length rows) (i : ℕ) → i < id → IsShown (slice_get ns1 (place_at places i))
  child_shown within i l =
      let r = there_at rows i (omega (arith, l, within)) in
      let is = old.each i r.0 l r.1 in
      subst IsShown (sym (get_more ns (hidden_nodes n) (place_at places i) (listed (place_at places) is.hidden r.0.node) is.node)) (listed_shown r.0.node (place_at places) is.hidden)

  -- the new node may follow
  pub can_follow : id ≤ length rows → CanFollow ns1 own
  can_follow within = row_follows n ns1 (place_at places) (length ns) id (children_below kinds rows id row stands at) (child_shown within) (hidden_there n ns)

  places_same : (i : ℕ) → i < id → place_at places i ≡ place_at places1 i
  places_same i l = sym (place_front places (length ns1) i (omega (arith, l, old.many)))

  new_place : place_at places1 id ≡ length ns1
  new_place = ap (place_at places1) (sym old.many) ∙ place_last places (length ns1)

  count1 : length arrows1 ≡ length ns1
  count1 = omega (arith, old.count, hidden_long n, length-append arrows (hidden_arrows n), length-append ns (hidden_nodes n))

  old_row : (i : ℕ) (r : TermRow) → i < id → slice_get rows i ≡ Some r → RowAt (ns1 ++ own ∷ []) (arrows1 ++ ids ∷ []) (names ++ own_names n) (place_at places1) i r
  old_row i r l is =
      let more =
      row_more ns (hidden_nodes n ++ own ∷ []) arrows (hidden_arrows n ++ ids ∷ []) names (own_names n) (place_at places) (place_at places1) i r (children_below kinds rows i r stands is)
      (λ j k. places_same j (omega (arith, k, l))) (old.each i r l is) in
      subst (λ (xs : List Node). RowAt xs (arrows1 ++ ids ∷ []) (names ++ own_names n) (place_at places1) i r) (sym (append_assoc ns (hidden_nodes n) (own ∷ [])))
      (subst (λ (ys : List (Option NodeArrow)). RowAt (ns ++ (hidden_nodes n ++ own ∷ [])) ys (names ++ own_names n) (place_at places1) i r) (sym (append_assoc arrows (hidden_arrows n) (ids ∷ []))) more)

  new_row : RowAt (ns1 ++ own ∷ []) (arrows1 ++ ids ∷ []) (names ++ own_names n) (place_at places1) id row
  new_row = record {
    hidden = length ns;
    node =
        ap (slice_get (ns1 ++ own ∷ [])) new_place ∙ get_last ns1 own
        ∙ ap Some (listed_same n (place_at places) (place_at places1) (length ns) id (children_below kinds rows id row stands at) places_same);
    arrow = ap (slice_get (arrows1 ++ ids ∷ [])) (new_place ∙ sym count1) ∙ get_last arrows1 ids;
    side = side_more n ns1 (own ∷ []) arrows1 (ids ∷ []) (length ns) (side_there n ns arrows old.count);
    name =
        name_there n (ns1 ++ own ∷ []) names (place_at places1 id)
        (old.named ∙ sym (hidden_total n ns) ∙ sym (number_front ns1 (own ∷ []) (length ns1) (omega arith)) ∙ ap (witness_number (ns1 ++ own ∷ [])) (sym new_place));
  }

  row_in : (i : ℕ) (r : TermRow) → i < suc id → slice_get rows i ≡ Some r → RowAt (ns1 ++ own ∷ []) (arrows1 ++ ids ∷ []) (names ++ own_names n) (place_at places1) i r
  row_in i r l is = elim (cases_lt i id) [
    | inl p ↦ old_row i r p is
    | inr p ↦
        let here : id ≡ i = omega (arith, p, l) in
        let same : row ≡ r = let e = ap (slice_get rows) here in cc in
        subst (λ (x : TermRow). RowAt (ns1 ++ own ∷ []) (arrows1 ++ ids ∷ []) (names ++ own_names n) (place_at places1) i x) same
        (subst (λ (j : ℕ). RowAt (ns1 ++ own ∷ []) (arrows1 ++ ids ∷ []) (names ++ own_names n) (place_at places1) j row) here new_row)
  ]

  grown_in : (i j : ℕ) → i < j → j < suc id → place_at places1 i < place_at places1 j
  grown_in i j l h = elim (cases_lt j id) [
    | inl p ↦ subst (λ (x : ℕ). x < place_at places1 j) (places_same i (omega (arith, l, p))) (subst (λ (x : ℕ). place_at places i < x) (places_same j p) (old.grows i j l p))
    | inr p ↦
        let here : j ≡ id = omega (arith, p, h) in
        let r = there_at rows i (let inside = slice_get_within rows id row at in omega (arith, l, here, inside)) in
        let is = old.each i r.0 (omega (arith, l, here)) r.1 in
        let below = slice_get_within ns (place_at places i) (listed (place_at places) is.hidden r.0.node) is.node in
        let first = places_same i (omega (arith, l, here)) in
        let last = ap (place_at places1) here ∙ new_place in
        omega (arith, below, first, last, length-append ns (hidden_nodes n))
  ]

  new_named : length (names ++ own_names n) ≡ witness_number (ns1 ++ own ∷ []) (length (ns1 ++ own ∷ []))
  new_named =
      let all : length (names ++ own_names n) ≡ length names + length (own_names n) = length-append names (own_names n) in
      let before : length names ≡ total ns1 = old.named ∙ sym (hidden_total n ns) in
      all ∙ ap (λ (w : ℕ). w + length (own_names n)) before ∙ sym (row_total n (place_at places) (length ns) (total ns1)) ∙ sym (total_last ns1 own)

  -- each child's arrow is that of its term
  child_has : (i : ℕ) → i < id → slice_get (typing_in kinds arrows) (place_at places i) ≡ Some (Some (declared_arrow (term_of (terms kinds rows) i)))
  child_has i l =
      let r = there_at rows i (let inside = slice_get_within rows id row at in omega (arith, l, inside)) in
      let is = old.each i r.0 l r.1 in
      let means = means_there kinds rows i r.0 stands r.1 in
      let a = arrow (kind_at kinds r.0.source) (kind_at kinds r.0.target) in
      let its = ap declared_arrow means.is ∙ own_arrow r.0.node (terms kinds rows) a in
      arrow_means kinds arrows (place_at places i) (Some (record { source = r.0.source; target = r.0.target })) is.arrow ∙ ap (λ (x : Arrow). Some (Some x)) (sym its)

  abbrev own_kind : Arrow
  own_kind = arrow (kind_at kinds row.source) (kind_at kinds row.target)

  abbrev before : Typing
  before = typing_in kinds arrows ++ typing_in kinds (hidden_arrows n)

  before_is : before ≡ typing_in kinds arrows1
  before_is = sym (map-append (arrow_in kinds) arrows (hidden_arrows n))

  abbrev after : Typing
  after = before ++ Some (own_kind) ∷ []

  after_is : after ≡ typing_in kinds (arrows1 ++ ids ∷ [])
  after_is = ap (λ (xs : Typing). xs ++ Some (own_kind) ∷ []) before_is ∙ sym (map-append (arrow_in kinds) arrows1 (ids ∷ []))

  after_has : (i : ℕ) → i < id → slice_get after (place_at places i) ≡ Some (Some (declared_arrow (term_of (terms kinds rows) i)))
  after_has i l =
      let e = Some (declared_arrow (term_of (terms kinds rows) i)) in
      get_more before (Some (own_kind) ∷ []) (place_at places i) e (get_more (typing_in kinds arrows) (typing_in kinds (hidden_arrows n)) (place_at places i) e (child_has i l))

  own_meets : Meets after own (own_kind.source) (own_kind.target)
  own_meets =
      let inside = slice_get_within rows id row at in
      let means = means_there kinds rows id row stands at in
      let typed : IsTypedTerm (node_term (terms kinds rows) n own_kind) = subst IsTypedTerm means.is (law kinds rows id stands inside) in
      let side = side_more n ns1 (own ∷ []) arrows1 (ids ∷ []) (length ns) (side_there n ns arrows old.count) in
      row_meets (terms kinds rows) after (place_at places) id after_has n own_kind (length ns) (children_below kinds rows id row stands at) (root_meets n (terms kinds rows) own_kind typed)
      (side_none n kinds (terms kinds rows) after (place_at places) id after_has (ns1 ++ own ∷ []) (arrows1 ++ ids ∷ []) (length ns) after_is side)

  new_typed : IsTyping (ns1 ++ own ∷ []) (typing_in kinds (arrows1 ++ ids ∷ []))
  new_typed =
      subst (λ (xs : Typing). IsTyping (ns1 ++ own ∷ []) xs) after_is
      (typed_on ns1 (own ∷ []) before (Some (own_kind) ∷ []) (typed_on ns (hidden_nodes n) (typing_in kinds arrows) (typing_in kinds (hidden_arrows n)) old.typed (hidden_meets n kinds before)) (own_meets, tt))

  pub listing_step : Listing kinds rows (suc id) (ns1 ++ own ∷ []) (arrows1 ++ ids ∷ []) (names ++ own_names n) places1
  listing_step = record {
    many = omega (arith, old.many, length-append places (length ns1 ∷ []));
    count = omega (arith, count1, length-append arrows1 (ids ∷ []), length-append ns1 (own ∷ []));
    named = new_named;
    below = both_below (length kinds) arrows1 (ids ∷ []) (both_below (length kinds) arrows (hidden_arrows n) old.below (hidden_below n (length kinds))) (types_there kinds rows id row stands at, tt);
    each = row_in;
    typed = new_typed;
    grows = grown_in;
    last = λ i e.
        let here : i ≡ id = omega (arith, e) in
        let long = length-append ns1 (own ∷ []) in
        (ap (place_at places1) here ∙ new_place ∙ omega (arith, long), omega (arith, long));
  }

-- all rows up to the root
pub listing_whole : (kinds : List Kind) (rows : List TermRow) (root id : ℕ) (ns : List Node) (arrows : List (Option NodeArrow)) (names places : List ℕ) → StandsOver kinds rows → root < length rows → id ≡ root + 1 → IsPlaced ns →
    Listing kinds rows id ns arrows names places → IsRowList kinds rows root ns arrows names
listing_whole kinds rows root id ns arrows names places stands there all placed listing =
    let last = listing.last root (omega (arith, all)) in
    let each = subst (λ (k : ℕ). AreListed rows k ns arrows names (place_at places)) all listing.each in
    let row = there_at rows root there in
    let at = each root row.0 (omega arith) row.1 in
    let means = means_there kinds rows root row.0 stands row.1 in
    let a = arrow (kind_at kinds row.0.source) (kind_at kinds row.0.target) in
    let its = ap declared_arrow means.is ∙ own_arrow row.0.node (terms kinds rows) a in
    record {
      place = place_at places;
      each = each;
      grows = subst (λ (k : ℕ). (i j : ℕ) → i < j → j < k → place_at places i < place_at places j) all listing.grows;
      last = last.0;
      full = last.1;
      placed = placed;
      count = listing.count;
      named = listing.named;
      below = listing.below;
      typed = record {
        typed = listing.typed;
        rooted =
            ap (slice_get (typing_in kinds arrows)) (sym last.0) ∙ arrow_means kinds arrows (place_at places root) (Some (record { source = row.0.source; target = row.0.target })) at.arrow
            ∙ ap (λ (x : Arrow). Some (Some x)) (sym its);
      };
      whole =
          subst (λ (p : ℕ). Stands ns (typing_in kinds arrows) names p (term_at kinds rows root)) last.0
          (row_stands kinds rows (root + 1) ns arrows names (place_at places) stands (omega (arith, there)) each root (omega arith));
    }

-- the same of what the code's calls gave
module _ (kinds : List Kind) (rows : List TermRow) (stands : StandsOver kinds rows) (id : ℕ) (row : TermRow) (at : slice_get rows id ≡ Some row)
    (ns : List Node) (arrows : List (Option NodeArrow)) (names places : List ℕ) (old : Listing kinds rows id ns arrows names places) (law : TermsAreTyped)
    (own_node : RowNode) (node_is : row.node ≡ own_node) (ns1 : List Node) (ns1_is : ns1 ≡ ns ++ hidden_nodes own_node) (ps : List ℕ) (ps_is : ps ≡ places) (h : ℕ) (h_is : h ≡ length ns)
    (own : Node) (own_is : own ≡ listed (place_at ps) h own_node) where
  pub follows_on : CanFollow ns1 own
  follows_on =
      let inside = slice_get_within rows id row at in
      rw (own_is, ns1_is, ps_is, h_is, sym node_is) (can_follow kinds rows stands id row at ns arrows names places old law (omega (arith, inside)))

  pub listing_on : (arrows1 : List (Option NodeArrow)) → arrows1 ≡ arrows ++ hidden_arrows own_node → (names1 : List ℕ) → names1 ≡ names ++ own_names own_node →
      (r : TermRow) → slice_get rows id ≡ Some r → (s t : ℕ) → r.source ≡ s → r.target ≡ t → (ns2 : List Node) → ns2 ≡ ns1 ++ own ∷ [] →
      (arrows2 : List (Option NodeArrow)) → arrows2 ≡ arrows1 ++ Some (record { source = s; target = t }) ∷ [] → (p : ℕ) → p ≡ length ns1 → (places2 : List ℕ) → places2 ≡ places ++ p ∷ [] →
      Listing kinds rows (id + 1) ns2 arrows2 names1 places2
  listing_on arrows1 arrows1_is names1 names1_is r r_at s t s_is t_is ns2 ns2_is arrows2 arrows2_is p p_is places2 places2_is =
      let same : row ≡ r = cc in
      let source : s ≡ row.source = sym s_is ∙ ap (λ (x : TermRow). x.source) (sym same) in
      let target : t ≡ row.target = sym t_is ∙ ap (λ (x : TermRow). x.target) (sym same) in
      let next : id + 1 ≡ suc id = omega arith in
      rw (ns2_is, arrows2_is, places2_is, names1_is, p_is, own_is, ns1_is, arrows1_is, ps_is, h_is, sym node_is, source, target, next)
      (listing_step kinds rows stands id row at ns arrows names places old law)
