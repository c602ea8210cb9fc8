-- What a list's nodes stand for, the nodes of a list that it was gathered or merged into stand for too.
use Rattle.std.proofs.Common.{◌≡◌, ap, sym, subst, ◌∙◌, ℕ, ◌-◌, ◌<◌, true, List, length, Option, Some, None, arith}
use Rattle.std.specs.Prelude.{slice_get}
use Rattle.std.specs.List.{slice_index_or}
use Rattle.std.specs.Option.{unwrap_or, option_map}
use Rattle.std.proofs.lemmas.Option.{slice_get-map, get_or_from_slice_get}
use Rattle.simplicity.specs.Nodes as node
use Rattle.simplicity.specs.Nodes.{Node, IsPlaced, witness_number}
use Rattle.simplicity.specs.Order.{has, post_order}
use Rattle.simplicity.specs.Typing.{Typing, Arrow}
use Rattle.simplicity.specs.Pruning.{renamed, gathered, gathered_numbers}
use Rattle.simplicity.specs.Canon as declared
use Rattle.simplicity.specs.Canon.{Declared, Stands, names_at}
use Rattle.sharing.specs.Laws.{entries_at, GatheringStands, MergingStands}
use Rattle.sharing.proofs.Closed.{AllOf}
use Rattle.sharing.proofs.Orderly.{position, position_there}
use Rattle.sharing.proofs.Gathering.{place_is, picked_within, post_picked, gathered_length, root_place, has_at}
use Rattle.sharing.proofs.Unfolded.{picked_number, gather_carries, merge_keeps_numbers, merge_carries_trees}

-- a map of lists under which nodes are renamed and keep their arrows and their names
record Along (P : ℕ → Type 0) (f : ℕ → ℕ) (ns : List Node) (ds : Typing) (names : List ℕ) (ms : List Node) (us : Typing) (new : List ℕ) : Type 0 where
  nodes : (i : ℕ) (n : Node) → P i → slice_get ns i ≡ Some n → slice_get ms (f i) ≡ Some (renamed f n)
  inherit : (i : ℕ) (n : Node) → P i → slice_get ns i ≡ Some n → AllOf P (node.children n)
  arrows : (i : ℕ) (e : Option Arrow) → P i → slice_get ds i ≡ Some e → slice_get us (f i) ≡ Some e
  named : (i k : ℕ) → P i → slice_get ns i ≡ Some node.Witness → slice_get names (witness_number ns i) ≡ Some k → slice_get new (witness_number ms (f i)) ≡ Some k

module _ (P : ℕ → Type 0) (f : ℕ → ℕ) (ns : List Node) (ds : Typing) (names : List ℕ) (ms : List Node) (us : Typing) (new : List ℕ) (to : Along P f ns ds names ms us new) where
  stands_along : (i : ℕ) (t : Declared) → P i → Stands ns ds names i t → Stands ms us new (f i) t
  stands_along _ _ p (declared.StandsIden i a is d) = declared.StandsIden (f i) a (to.nodes i node.Iden p is) (to.arrows i (Some a) p d)
  stands_along _ _ p (declared.StandsUnit i a is d) = declared.StandsUnit (f i) a (to.nodes i node.UnitNode p is) (to.arrows i (Some a) p d)
  stands_along _ _ p (declared.StandsInjl i j a t is d s) =
      declared.StandsInjl (f i) (f j) a t (to.nodes i (node.Injl j) p is) (to.arrows i (Some a) p d) (stands_along j t (to.inherit i (node.Injl j) p is).0 s)
  stands_along _ _ p (declared.StandsInjr i j a t is d s) =
      declared.StandsInjr (f i) (f j) a t (to.nodes i (node.Injr j) p is) (to.arrows i (Some a) p d) (stands_along j t (to.inherit i (node.Injr j) p is).0 s)
  stands_along _ _ p (declared.StandsTake i j a t is d s) =
      declared.StandsTake (f i) (f j) a t (to.nodes i (node.Take j) p is) (to.arrows i (Some a) p d) (stands_along j t (to.inherit i (node.Take j) p is).0 s)
  stands_along _ _ p (declared.StandsDrop i j a t is d s) =
      declared.StandsDrop (f i) (f j) a t (to.nodes i (node.Drop j) p is) (to.arrows i (Some a) p d) (stands_along j t (to.inherit i (node.Drop j) p is).0 s)
  stands_along _ _ p (declared.StandsComp i j k a t u is d s r) =
      let down = to.inherit i (node.Comp j k) p is in
      declared.StandsComp (f i) (f j) (f k) a t u (to.nodes i (node.Comp j k) p is) (to.arrows i (Some a) p d) (stands_along j t down.0 s) (stands_along k u down.1.0 r)
  stands_along _ _ p (declared.StandsCase i j k a t u is d s r) =
      let down = to.inherit i (node.Case j k) p is in
      declared.StandsCase (f i) (f j) (f k) a t u (to.nodes i (node.Case j k) p is) (to.arrows i (Some a) p d) (stands_along j t down.0 s) (stands_along k u down.1.0 r)
  stands_along _ _ p (declared.StandsPair i j k a t u is d s r) =
      let down = to.inherit i (node.Pair j k) p is in
      declared.StandsPair (f i) (f j) (f k) a t u (to.nodes i (node.Pair j k) p is) (to.arrows i (Some a) p d) (stands_along j t down.0 s) (stands_along k u down.1.0 r)
  stands_along _ _ p (declared.StandsAssertL i j k a t h is d s there none) =
      let down = to.inherit i (node.Case j k) p is in
      declared.StandsAssertL (f i) (f j) (f k) a t h (to.nodes i (node.Case j k) p is) (to.arrows i (Some a) p d) (stands_along j t down.0 s)
      (to.nodes k (node.Hidden h) down.1.0 there) (to.arrows k None down.1.0 none)
  stands_along _ _ p (declared.StandsAssertR i j k a h t is d there none s) =
      let down = to.inherit i (node.Case j k) p is in
      declared.StandsAssertR (f i) (f j) (f k) a h t (to.nodes i (node.Case j k) p is) (to.arrows i (Some a) p d)
      (to.nodes j (node.Hidden h) down.0 there) (to.arrows j None down.0 none) (stands_along k t down.1.0 s)
  stands_along _ _ p (declared.StandsFail i a e is d) = declared.StandsFail (f i) a e (to.nodes i (node.Fail e) p is) (to.arrows i (Some a) p d)
  stands_along _ _ p (declared.StandsWitness i number a is d name) =
      declared.StandsWitness (f i) number a (to.nodes i node.Witness p is) (to.arrows i (Some a) p d) (to.named i number p is name)
  stands_along _ _ p (declared.StandsWord i k n a is d) = declared.StandsWord (f i) k n a (to.nodes i (node.Word k n) p is) (to.arrows i (Some a) p d)

-- by an index of the gathered list
picked_entry : (ds : Typing) (done : List ℕ) (k i : ℕ) (e : Option Arrow) → slice_get done k ≡ Some i → slice_get ds i ≡ Some e → slice_get (entries_at ds done) k ≡ Some e
picked_entry ds done k i e there is =
    slice_get-map (λ (j : ℕ). slice_index_or ds j None) done k ∙ ap (option_map (λ (j : ℕ). slice_index_or ds j None)) there ∙ ap Some (get_or_from_slice_get ds i e None is)

picked_name : (names numbers : List ℕ) (j w k : ℕ) → slice_get numbers j ≡ Some w → slice_get names w ≡ Some k → slice_get (names_at names numbers) j ≡ Some k
picked_name names numbers j w k there is =
    slice_get-map (λ (x : ℕ). unwrap_or (slice_get names x) 0) numbers j ∙ ap (option_map (λ (x : ℕ). unwrap_or (slice_get names x) 0)) there ∙ ap (λ (o : Option ℕ). Some (unwrap_or o 0)) is

pub gathering_stands : GatheringStands
gathering_stands ns ds names t placed full stands =
    let done = post_order ns in
    let p = post_picked ns placed full in
    let trees = gather_carries ns placed full in
    let last = root_place ns placed full in
    let had : has (length ns - 1) done ≡ true = has_at done (length done - 1) (length ns - 1) last.0 in
    let goes : position (length ns - 1) done ≡ length (gathered ns) - 1 =
    place_is ns done (length done - 1) (length ns - 1) p last.0 ∙ ap (λ (x : ℕ). x - 1) (sym (gathered_length ns placed full)) in
    subst (λ (i : ℕ). Stands (gathered ns) (entries_at ds (post_order ns)) (names_at names (gathered_numbers ns)) i t) goes
    (stands_along (λ i. has i (post_order ns) ≡ true) (λ i. position i (post_order ns)) ns ds names (gathered ns) (entries_at ds (post_order ns)) (names_at names (gathered_numbers ns))
    (record {
      nodes = trees.nodes;
      inherit = trees.inherit;
      arrows = λ i e h is. picked_entry ds (post_order ns) (position i (post_order ns)) i e (position_there i (post_order ns) h) is;
      named = λ i k h is name. picked_name names (gathered_numbers ns) (witness_number (gathered ns) (position i (post_order ns))) (witness_number ns i) k
          (picked_number (λ j. position j (post_order ns)) ns (post_order ns) (position i (post_order ns)) i (picked_within ns (post_order ns) p) (position_there i (post_order ns) h) is) name;
    }) (length ns - 1) t had stands)

pub merging_stands : MergingStands
merging_stands ns ms ts us place names t placed more full merged in_order stands =
    let trees = merge_carries_trees ns ms ts us place placed more merged in_order in
    subst (λ (i : ℕ). Stands ms us names i t) merged.root
    (stands_along (λ i. i < length ns) place ns ts names ms us names
    (record {
      nodes = trees.nodes;
      inherit = trees.inherit;
      arrows = λ i e h is. merged.arrows i h ∙ is;
      named = λ i k h is name. ap (slice_get names) (merge_keeps_numbers ns ms ts us place merged in_order i h is) ∙ name;
    }) (length ns - 1) t (omega (arith, full)) stands)
