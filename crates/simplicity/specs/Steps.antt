-- A step of the Bit Machine (after the Simplicity Technical Report, "Executing Simplicity"): one instruction, once the nodes in front are replaced by their rows, which is no step.
use Rattle.std.specs.Prelude.{◌≡◌, Bool, true, false, List, ◌∷◌}
use Rattle.simplicity.specs.Types.{Value}
use Rattle.simplicity.specs.Machine.{Item, At, Program, State, Next, Ends, Fails, turn, start}

-- whether a node stands in front
abbrev pub has_node_first : List Item → Bool
has_node_first (At i ∷ rest) = true
has_node_first _ = false

-- the state once the nodes in front are replaced
pub data Settles (p : Program) : State → State → Type 0 where
  Settled : (s : State) → has_node_first s.items ≡ false → Settles p s s
  Replaced : (s u z : State) → has_node_first s.items ≡ true → turn p s ≡ Next u → Settles p u z → Settles p s z

-- one step leads from the one state to the other
pub record Steps (p : Program) (s u : State) : Type 0 where
  pub before : State
  pub settles : Settles p s before
  pub goes : turn p before ≡ Next u

-- no step is left, and this is the settled state
pub record StepEnds (p : Program) (s z : State) : Type 0 where
  pub settles : Settles p s z
  pub ends : turn p z ≡ Ends

-- the step from this settled state fails, and so adds nothing to its totals
pub record StepFails (p : Program) (s z : State) : Type 0 where
  pub settles : Settles p s z
  pub fails : turn p z ≡ Fails

-- steps lead from the one state to the other
pub data StepsReach (p : Program) : State → State → Type 0 where
  NoStep : (s : State) → StepsReach p s s
  OneStep : (s u z : State) → Steps p s u → StepsReach p u z → StepsReach p s z

-- the run by steps ends in this state
pub record StepRunEnds (p : Program) (v : Value) (z : State) : Type 0 where
  pub last : State
  pub reached : StepsReach p (start p v) last
  pub ends : StepEnds p last z

-- the run by steps fails in this state
pub record StepRunFails (p : Program) (v : Value) (z : State) : Type 0 where
  pub last : State
  pub reached : StepsReach p (start p v) last
  pub fails : StepFails p last z

-- what comes of a step
pub data Stepped (p : Program) (s : State) : Type 0 where
  Went : (u : State) → Steps p s u → Stepped p s
  Ended : (z : State) → StepEnds p s z → Stepped p s
  Failed : (z : State) → StepFails p s z → Stepped p s
