-- What is left to do on a walk of a list from its root, the last step first.
use Rattle.std.specs.Prelude.{◌≡◌, ℕ, zero, suc, ◌+◌, ◌*◌, ◌<◌, Bool, false, get_or, List, [], ◌∷◌, ◌++◌, length}
use Rattle.simplicity.specs.Nodes.{Node}
use Rattle.simplicity.specs.Order.{has, ended}
use Rattle.share_order.specs.declared.walk.Step.{Step}
use Rattle.share_order.specs.declared.walk.Step.TheVariants as step

-- what has ended after a step
abbrev pub taken : List Node → Step → List ℕ → List ℕ
taken ns (step.Enter i) done = ended ns (suc i) i done
taken ns (step.Leave i) done = done ++ i ∷ []

-- what has ended after the steps, of which the last is taken first
abbrev pub after : List Node → List Step → List ℕ → List ℕ
after ns [] done = done
after ns (s ∷ steps) done = taken ns s (after ns steps done)

-- the steps that enter these, the first of them last
abbrev pub entries : List ℕ → List Step
entries [] = []
entries (i ∷ is) = entries is ++ step.Enter i ∷ []

-- how much is left to do at most
abbrev pub cost : ℕ → ℕ
cost zero = 2
cost (suc i) = 2 * cost i + 2

abbrev pub step_load : Step → ℕ
step_load (step.Enter i) = cost i
step_load (step.Leave i) = 1

abbrev pub load : List Step → ℕ
load [] = 0
load (s ∷ steps) = step_load s + load steps

-- the steps are of nodes below a number
abbrev pub place_of : Step → ℕ
place_of (step.Enter i) = i
place_of (step.Leave i) = i

abbrev pub AreWithin : ℕ → List Step → Type 0
AreWithin n [] = Unit {0}
AreWithin n (s ∷ steps) = (place_of s < n) × AreWithin n steps

-- the marks say which nodes have ended
pub record Marks (n : ℕ) (marks : List Bool) (done : List ℕ) : Type 0 where
  pub count : length marks ≡ n
  pub each : (i : ℕ) → i < n → get_or marks i false ≡ has i done
