-- Typings go along maps of lists that rename nodes and keep their arrows.
use Rattle.std.proofs.Common.{◌≡◌, ap, sym, subst, ◌∙◌, ℕ, ◌-◌, ◌<◌, true, List, length, Option, Some, None, arith}
use Rattle.std.specs.Prelude.{slice_get}
use Rattle.std.specs.List.{slice_index_or}
use Rattle.std.specs.Option.{option_map}
use Rattle.std.proofs.lemmas.List.{length-map}
use Rattle.std.proofs.lemmas.Option.{slice_get-map, get_or_from_slice_get}
use Rattle.simplicity.specs.Types.{Kind}
use Rattle.simplicity.specs.Nodes as node
use Rattle.simplicity.specs.Nodes.{Node, IsPlaced, IsHidden, children}
use Rattle.simplicity.specs.Order.{has, post_order}
use Rattle.simplicity.specs.Typing as row
use Rattle.simplicity.specs.Typing.{Typing, Arrow, Meets, EntryMeets, IsTyping, IsTypingAt}
use Rattle.simplicity.specs.Pruning.{renamed, gathered, IsMerged}
use Rattle.simplicity.proofs.Typings.{entry_at, some_entry}
use Rattle.sharing.specs.Laws.{entries_at, IsOnto}
use Rattle.sharing.proofs.Closed.{AllOf}
use Rattle.sharing.proofs.Merging.{within_of, there_at, meets_by, hidden_along}
use Rattle.sharing.proofs.Orderly.{position, position_there}
use Rattle.sharing.proofs.Gathering.{place_is, post_picked, picked_within, gathered_length, root_place, has_at}
use Rattle.sharing.proofs.Merged.{merge_carries}
use Rattle.sharing.proofs.Unfolded.{gather_carries}
use Rattle.sharing.proofs.Gathering.{children_are}

module _ (P : ℕ → Type 0) (f : ℕ → ℕ) (ns ms : List Node) (ts us : Typing) (nodes : (i : ℕ) (n : Node) → P i → slice_get ns i ≡ Some n → slice_get ms (f i) ≡ Some (renamed f n))
    (inherit : (i : ℕ) (n : Node) → P i → slice_get ns i ≡ Some n → AllOf P (children n)) (arrows : (i : ℕ) (e : Option Arrow) → P i → slice_get ts i ≡ Some e → slice_get us (f i) ≡ Some e) where
  meets_along : (n : Node) (a b : Kind) → AllOf P (children n) → Meets ts n a b → Meets us (renamed f n) a b
  meets_along _ _ _ all (row.Iden a) = row.Iden a
  meets_along _ _ _ all (row.UnitNode a) = row.UnitNode a
  meets_along _ _ _ all (row.Injl t a b c h) = row.Injl (f t) a b c (arrows t _ all.0 h)
  meets_along _ _ _ all (row.Injr t a b c h) = row.Injr (f t) a b c (arrows t _ all.0 h)
  meets_along _ _ _ all (row.Take t a b c h) = row.Take (f t) a b c (arrows t _ all.0 h)
  meets_along _ _ _ all (row.Drop t a b c h) = row.Drop (f t) a b c (arrows t _ all.0 h)
  meets_along _ _ _ all (row.Comp s t a b c h g) = row.Comp (f s) (f t) a b c (arrows s _ all.0 h) (arrows t _ all.1.0 g)
  meets_along _ _ _ all (row.Case s t a b c d h g) = row.Case (f s) (f t) a b c d (arrows s _ all.0 h) (arrows t _ all.1.0 g)
  meets_along _ _ _ all (row.AssertL s t a b c d h g) = row.AssertL (f s) (f t) a b c d (arrows s _ all.0 h) (arrows t None all.1.0 g)
  meets_along _ _ _ all (row.AssertR s t a b c d h g) = row.AssertR (f s) (f t) a b c d (arrows s None all.0 h) (arrows t _ all.1.0 g)
  meets_along _ _ _ all (row.Pair s t a b c h g) = row.Pair (f s) (f t) a b c (arrows s _ all.0 h) (arrows t _ all.1.0 g)
  meets_along _ _ _ all (row.Fail e a b) = row.Fail e a b
  meets_along _ _ _ all (row.Witness a b) = row.Witness a b
  meets_along _ _ _ all (row.Word k n) = row.Word k n

  entry_along : (n : Node) (e : Option Arrow) → AllOf P (children n) → EntryMeets ts n e → EntryMeets us (renamed f n) e
  entry_along n None all h = hidden_along f n h
  entry_along n (Some a) all h = meets_along n a.source a.target all h

  pub typed_along : (root : Arrow) → IsTypingAt ns root ts → P (length ns - 1) → f (length ns - 1) ≡ length ms - 1 → length us ≡ length ms →
      ((j : ℕ) → j < length ms → (i : ℕ) × (P i) × (i < length ns) × (f i ≡ j)) → IsTypingAt ms root us
  typed_along root typed there goes long onto = record {
    typed = meets_by us ms us (sym long)
        (λ j m e h g.
        let from = onto j (within_of ms j m h) in
        let i = from.0 in
        let n = there_at ns i from.2 in
        let old = some_entry ts ns ts i n.0 typed.typed n.1 in
        let met = entry_along n.0 old.0 (inherit i n.0 from.1 n.1) (entry_at ts ns ts i n.0 old.0 typed.typed n.1 old.1) in
        let node_is : renamed f n.0 ≡ m = let e1 = nodes i n.0 from.1 n.1 in let e2 = ap (λ (x : ℕ). slice_get ms x) from.3 in cc in
        let entry_is : old.0 ≡ e = let e1 = arrows i old.0 from.1 old.1 in let e2 = ap (λ (x : ℕ). slice_get us x) from.3 in cc in
        rw (← node_is, ← entry_is) met);
    rooted = ap (slice_get us) (sym goes) ∙ arrows (length ns - 1) (Some root) there typed.rooted;
  }

picked_entry : (ds : Typing) (done : List ℕ) (k i : ℕ) (e : Option Arrow) → slice_get done k ≡ Some i → slice_get ds i ≡ Some e → slice_get (entries_at ds done) k ≡ Some e
picked_entry ds done k i e there is =
    slice_get-map (λ (j : ℕ). slice_index_or ds j None) done k ∙ ap (option_map (λ (j : ℕ). slice_index_or ds j None)) there ∙ ap Some (get_or_from_slice_get ds i e None is)

-- the entries of a typing at the nodes that are reached are a typing of these
pub gathered_typed : (ns : List Node) (root : Arrow) (ts : Typing) → IsPlaced ns → 0 < length ns → IsTypingAt ns root ts → IsTypingAt (gathered ns) root (entries_at ts (post_order ns))
gathered_typed ns root ts placed full typed =
    let done = post_order ns in
    let picked = post_picked ns placed full in
    let trees = gather_carries ns placed full in
    let last = root_place ns placed full in
    let count = gathered_length ns placed full in
    let had : has (length ns - 1) (post_order ns) ≡ true = has_at (post_order ns) (length (post_order ns) - 1) (length ns - 1) last.0 in
    let goes : position (length ns - 1) (post_order ns) ≡ length (gathered ns) - 1 =
    place_is ns (post_order ns) (length (post_order ns) - 1) (length ns - 1) picked last.0 ∙ ap (λ (x : ℕ). x - 1) (sym count) in
    typed_along (λ i. has i (post_order ns) ≡ true) (λ i. position i (post_order ns)) ns (gathered ns) ts (entries_at ts (post_order ns)) trees.nodes trees.inherit
    (λ i e h is. picked_entry ts (post_order ns) (position i (post_order ns)) i e (position_there i (post_order ns) h) is) root typed had goes
    (length-map (post_order ns) (λ (j : ℕ). slice_index_or ts j None) ∙ sym count)
    (λ j l.
    let i = there_at (post_order ns) j (omega (arith, l, count)) in
    (i.0, has_at (post_order ns) j i.0 i.1, (picked_within ns (post_order ns) picked).each j i.0 i.1, place_is ns (post_order ns) j i.0 picked i.1))

-- a typed list, merged, is typed
pub merged_typed : (ns ms : List Node) (ts us : Typing) (f : ℕ → ℕ) (root : Arrow) → IsPlaced ns → IsPlaced ms → 0 < length ns → IsMerged ns ts ms us f → IsOnto f (length ns) (length ms) →
    length us ≡ length ms → IsTypingAt ns root ts → IsTypingAt ms root us
merged_typed ns ms ts us f root placed more full merged onto long typed =
    let walk = merge_carries ns ms ts us f placed more merged in
    typed_along (λ i. i < length ns) f ns ms ts us (λ i n p is. merged.nodes i n is) (λ i n p is. subst (AllOf (λ j. j < length ns)) (children_are ns i n is) (walk.inherit i p))
    (λ i e p is. merged.arrows i p ∙ is) root typed (omega (arith, full)) merged.root long (λ j l. let from = onto j l in (from.0, from.1, from.1, from.2))
