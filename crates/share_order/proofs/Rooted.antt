-- Where an ordered list's nodes go in order, its root goes to the root.
use Rattle.std.proofs.Common.{◌≡◌, ap, sym, ◌∙◌, ℕ, suc, ◌-◌, ◌<◌, true, false, List, [], length, map, Some, arith}
use Rattle.std.specs.Prelude.{slice_get}
use Rattle.std.specs.List.{range_with_len}
use Rattle.simplicity.specs.Nodes.{Node, IsPlaced}
use Rattle.simplicity.specs.Order.{has, children_at, IsOrdered}
use Rattle.simplicity.specs.Pruning.{renamed}
use Rattle.sharing.specs.Images.{images}
use Rattle.sharing.specs.Laws.{ComeInOrder}
use Rattle.sharing.proofs.Closed.{ends}
use Rattle.sharing.proofs.Merging.{within_of, there_at}
use Rattle.sharing.proofs.Walks.{Carries, carried, ended_under}
use Rattle.sharing.proofs.Orderly.{post_order_ends}
use Rattle.sharing.proofs.Gathering.{down_of, children_are, children_renamed}
use Rattle.sharing.proofs.Merged.{Split, Less, More, split, has_range}
use Rattle.share_order.proofs.Placed.{all_below, under_more}

module _ (ns ms : List Node) (f : ℕ → ℕ) (placed : IsPlaced ns) (more : IsPlaced ms) (full : 0 < length ns) (ordered : IsOrdered ns)
    (nodes : (i : ℕ) (n : Node) → slice_get ns i ≡ Some n → slice_get ms (f i) ≡ Some (renamed f n)) (in_order : ComeInOrder f ns ms) where
  carries : Carries (λ i. i < length ns) f ns ms
  carries = record {
    below = down_of ns placed;
    under = down_of ms more;
    children = λ i h.
        let n = there_at ns i h in
        children_are ms (f i) (renamed f n.0) (nodes i n.0 n.1) ∙ children_renamed f n.0 ∙ ap (λ (is : List ℕ). map f is) (sym (children_are ns i n.0 n.1));
    inherit = λ i h. all_below (λ j. j < length ns) (length ns) (children_at ns i) (under_more i (length ns) (children_at ns i) (omega arith) (down_of ns placed i)) (λ j l. l);
  }

  abbrev root : ℕ
  root = length ns - 1

  walk : ends ms (f root) [] ≡ range_with_len 0 (length ms)
  walk =
      carried (λ i. i < length ns) f ns ms carries root [] (omega arith) (λ j h. absurd (cc))
      ∙ ap (images f) (sym (post_order_ends ns (down_of ns placed) full) ∙ ordered) ∙ in_order

  last_by : f root < length ms → Split (f root) (length ms - 1) → f root ≡ length ms - 1
  last_by inside (Less l) =
      let there : has (length ms - 1) (range_with_len 0 (length ms)) ≡ true = has_range 0 (length ms) (length ms - 1) (omega arith) (omega arith) in
      let none : has (length ms - 1) (ends ms (f root) []) ≡ false = ended_under ms (down_of ms more) (suc (f root)) (f root) (length ms - 1) [] l in
      let both : has (length ms - 1) (ends ms (f root) []) ≡ true = ap (has (length ms - 1)) walk ∙ there in
      absurd (cc)
  last_by inside (More l) = omega arith

  pub root_goes_last : f (length ns - 1) ≡ length ms - 1
  root_goes_last =
      let n = there_at ns root (omega arith) in
      last_by (within_of ms (f root) (renamed f n.0) (nodes root n.0 n.1)) (split (f root) (length ms - 1))
