-- The order of a list: left-first post-order from the root, each node at its first end (Simplicity Technical Report, "Serialization").
use Rattle.std.specs.Prelude.{◌≡◌, ℕ, zero, suc, ◌-◌, Bool, true, false, List, [], ◌∷◌, ◌++◌, length, Option, Some, None, slice_get, nat_eq}
use Rattle.std.specs.List.{list_any, range_with_len}
use Rattle.simplicity.specs.Nodes.{Node, children}

-- whether the list has the number
abbrev pub has : ℕ → List ℕ → Bool
has i done = list_any (nat_eq i) done

-- the children of the node at an index
abbrev pub children_of : Option Node → List ℕ
children_of None = []
children_of (Some n) = children n

abbrev pub children_at : List Node → ℕ → List ℕ
children_at ns i = children_of (slice_get ns i)

-- a walk from each of these in turn, each knowing which nodes have ended before it
abbrev pub over : (ℕ → List ℕ → List ℕ) → List ℕ → List ℕ → List ℕ
over walk [] done = done
over walk (i ∷ is) done = over walk is (walk i done)

-- where the node has ended nothing more ends; else what is below it, and then itself
abbrev pub unless_ended : Bool → ℕ → (List ℕ → List ℕ) → List ℕ → List ℕ
unless_ended true i below done = done
unless_ended false i below done = below done ++ i ∷ []

-- the nodes that have ended, in the order of their ends, once the walk from a node has: its children from the left, then itself.
-- A walk goes down at most `depth` levels, and in a placed list no path is longer than the list
abbrev pub ended : List Node → ℕ → ℕ → List ℕ → List ℕ
ended ns zero i done = done
ended ns (suc depth) i done = unless_ended (has i done) i (over (ended ns depth) (children_at ns i)) done

-- the left-first post-order of the list from its root
abbrev pub post_order : List Node → List ℕ
post_order ns = ended ns (length ns) (length ns - 1) []

-- every node is reached, and stands in its place
abbrev pub IsOrdered : List Node → Type 0
IsOrdered ns = post_order ns ≡ range_with_len 0 (length ns)

-- a node is reached from the root
abbrev pub IsReached : List Node → ℕ → Type 0
IsReached ns i = has i (post_order ns) ≡ true

-- a node is in its place: it is reached, and exactly so many nodes end before it as its index says
abbrev pub IsInPlace : List Node → ℕ → Type 0
IsInPlace ns i = slice_get (post_order ns) i ≡ Some i
