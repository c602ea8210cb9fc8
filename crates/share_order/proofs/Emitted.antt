-- The nodes and the arrows of classes, one after the other.
use Rattle.std.proofs.Common.{◌≡◌, sym, subst, ℕ, List, take, Some}
use Rattle.std.specs.Prelude.{slice_get}
use Rattle.simplicity.specs.Nodes.{Node, CanFollow, IsPlaced}
use Rattle.simplicity.proofs.Unfold.{follows_at}
use Rattle.term_core.specs.Nodes.{node_of}
use Rattle.share_order.specs.declared.classes.NodeKey.{NodeKey}
use Rattle.share_order.specs.Keys.{key_of, keys_of, nodes_in, arrows_in}
use Rattle.share_order.proofs.Classing.{get_map}

pub node_at : (keys : List NodeKey) (k : ℕ) (x : NodeKey) → slice_get keys k ≡ Some x → slice_get (nodes_in (keys_of keys)) k ≡ Some (node_of x.node)
node_at keys k x is = get_map (λ y. y.node) (keys_of keys) k (key_of x) (get_map key_of keys k x is)

pub arrow_at : (keys : List NodeKey) (k : ℕ) (x : NodeKey) → slice_get keys k ≡ Some x → slice_get (arrows_in (keys_of keys)) k ≡ Some x.arrow
arrow_at keys k x is = get_map (λ y. y.arrow) (keys_of keys) k (key_of x) (get_map key_of keys k x is)

pub class_follows : (keys : List NodeKey) (list : List Node) (k : ℕ) (x : NodeKey) → IsPlaced (nodes_in (keys_of keys)) → list ≡ take k (nodes_in (keys_of keys)) → slice_get keys k ≡ Some x →
    CanFollow list (node_of x.node)
class_follows keys list k x placed e is =
    subst (λ (l : List Node). CanFollow l (node_of x.node)) (sym e) (follows_at (nodes_in (keys_of keys)) k (node_of x.node) placed (node_at keys k x is))
