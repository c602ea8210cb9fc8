-- What proofs about walks speak of: walks with depth enough, lists closed under children, and facts of each element.
use Rattle.std.proofs.Common.{◌≡◌, ℕ, suc, true, List, [], ◌∷◌}
use Rattle.simplicity.specs.Nodes.{Node, AreUnder}
use Rattle.simplicity.specs.Order.{has, children_at, ended}

-- the walk from a node whose children are below it, with as much depth as it needs
abbrev pub ends : List Node → ℕ → List ℕ → List ℕ
ends ns i done = ended ns (suc i) i done

-- children have lower indices than their parents
abbrev pub IsDown : List Node → Type 0
IsDown ns = (i : ℕ) → AreUnder i (children_at ns i)

abbrev pub AllHad : List ℕ → List ℕ → Type 0
AllHad done [] = Unit {0}
AllHad done (i ∷ is) = (has i done ≡ true) × AllHad done is

-- with a node its children are there
abbrev pub IsClosed : List Node → List ℕ → Type 0
IsClosed ns done = (j : ℕ) → has j done ≡ true → AllHad done (children_at ns j)

abbrev pub AllOf : (ℕ → Type 0) → List ℕ → Type 0
AllOf P [] = Unit {0}
AllOf P (i ∷ is) = P i × AllOf P is
