-- Visits: which nodes a run evaluates, and on which values (after the Simplicity Technical Report, "Pruning Unused case Branches").
use Rattle.std.specs.Prelude.{◌≡◌, ℕ, ◌-◌, List, [], ◌∷◌, length, Option, Some, None, slice_get}
use Rattle.simplicity.specs.Types.{Value, Inl, Inr, Pair}
use Rattle.simplicity.specs.Terms.{Answer, meaning}
use Rattle.simplicity.specs.Nodes.{Node, tree_of_node}
use Rattle.simplicity.specs.Nodes as node

-- a node on a value
pub record Visit : Type 0 where
  pub at : ℕ
  pub on : Value

abbrev pub visit : ℕ → Value → Visit
visit i v = record { at = i; on = v }

-- the visit of a node on an answer, where it is a value
abbrev pub visit_on : ℕ → Answer → List Visit
visit_on i None = []
visit_on i (Some v) = visit i v ∷ []

-- the visits that one of a node on a value leads to: both children of a pair on the same value, of a case the side that the tag chooses,
-- of a comp the second child on what the first gives
abbrev pub leads_from : List Node → List Value → Node → Value → List Visit
leads_from ns w (node.Injl t) v = visit t v ∷ []
leads_from ns w (node.Injr t) v = visit t v ∷ []
leads_from ns w (node.Take t) (Pair a b) = visit t a ∷ []
leads_from ns w (node.Drop t) (Pair a b) = visit t b ∷ []
leads_from ns w (node.Comp s t) v = visit s v ∷ visit_on t (meaning (tree_of_node ns s) w v)
leads_from ns w (node.Pair s t) v = visit s v ∷ visit t v ∷ []
leads_from ns w (node.Case s t) (Pair (Inl a) c) = visit s (Pair a c) ∷ []
leads_from ns w (node.Case s t) (Pair (Inr b) c) = visit t (Pair b c) ∷ []
leads_from ns w _ _ = []

abbrev pub leads_of : List Node → List Value → Option Node → Value → List Visit
leads_of ns w None v = []
leads_of ns w (Some n) v = leads_from ns w n v

abbrev pub leads : List Node → List Value → Visit → List Visit
leads ns w s = leads_of ns w (slice_get ns s.at) s.on

-- the visits of a run of the list on a value: the root on the value, and all that visits lead to
pub data Visited (ns : List Node) (w : List Value) (v : Value) : Visit → Type 0 where
  Start : Visited ns w v (visit (length ns - 1) v)
  Onward : (s t : Visit) (k : ℕ) → Visited ns w v s → slice_get (leads ns w s) k ≡ Some t → Visited ns w v t

-- a node is visited
abbrev pub IsVisited : List Node → List Value → Value → ℕ → Type 0
IsVisited ns w v i = (u : Value) × Visited ns w v (visit i u)

-- a case or an assertion stands at the index
abbrev pub IsCaseAt : List Node → ℕ → Type 0
IsCaseAt ns i = (s : ℕ) × (t : ℕ) × (slice_get ns i ≡ Some (node.Case s t))

-- it is visited on its left side, or on its right side
abbrev pub IsVisitedLeft : List Node → List Value → Value → ℕ → Type 0
IsVisitedLeft ns w v i = IsCaseAt ns i × (a : Value) × (c : Value) × Visited ns w v (visit i (Pair (Inl a) c))

abbrev pub IsVisitedRight : List Node → List Value → Value → ℕ → Type 0
IsVisitedRight ns w v i = IsCaseAt ns i × (b : Value) × (c : Value) × Visited ns w v (visit i (Pair (Inr b) c))
