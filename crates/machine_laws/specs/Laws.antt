-- The laws of the Bit Machine: what a run does, what it costs, what is left to do in it, and its steps.
use Rattle.std.specs.Prelude.{◌≡◌, ℕ, ◌+◌, ◌-◌, ◌≤◌, List, [], ◌∷◌, length, Some, None}
use Rattle.simplicity.specs.Types.{Value}
use Rattle.simplicity.specs.Cells.{cells}
use Rattle.simplicity.specs.Nodes.{tree_of}
use Rattle.simplicity.specs.Terms.{meaning}
use Rattle.simplicity.specs.Typing.{Arrow}
use Rattle.simplicity.specs.Machine.{frame, Program, IsInput, State, Totals, Stuck, turn, Reaches, start, RunEnds, RunFails, HoldsResult, Item, At, Forward, Back, Read, Side, Shown, row_at, held}
use Rattle.simplicity.specs.Steps.{Settles, Steps, StepEnds, StepFails, StepsReach, StepRunEnds, StepRunFails, Stepped}
use Rattle.simplicity.specs.Bounds.{Bounds, bounds}
use Rattle.machine_laws.specs.Layers.{Layer, layer, AreNested, AreLayered, AreBefore}

-- the run ends with the value in its write frame, and with the frame of its input alone to read from
pub record EndsWith (p : Program) (root : Arrow) (v u : Value) : Type 0 where
  pub end : State
  pub ends : RunEnds p v end
  pub holds : HoldsResult root.target u end
  pub input : end.reads ≡ frame (cells root.source v) ∷ []

-- the run fails
pub record FailsSomewhere (p : Program) (v : Value) : Type 0 where
  pub end : State
  pub fails : RunFails p v end

-- the value of the meaning is in the write frame of this end, which has the frame of the input alone to read from
pub record MeansEnd (p : Program) (root : Arrow) (v : Value) (z : State) : Type 0 where
  pub value : Value
  pub means : meaning (tree_of p.nodes) p.witness v ≡ Some value
  pub holds : HoldsResult root.target value z
  pub input : z.reads ≡ frame (cells root.source v) ∷ []

-- a run does what its term means
pub record DoesMean (p : Program) (root : Arrow) (v : Value) : Type 0 where
  pub ends : (u : Value) → meaning (tree_of p.nodes) p.witness v ≡ Some u → EndsWith p root v u
  pub fails : meaning (tree_of p.nodes) p.witness v ≡ None → FailsSomewhere p v
  pub ends_only : (z : State) → RunEnds p v z → MeansEnd p root v z
  pub fails_only : (z : State) → RunFails p v z → meaning (tree_of p.nodes) p.witness v ≡ None
  pub never_stuck : (z : State) → Reaches p (start p v) z → turn p z ≡ Stuck → ⊥

abbrev pub RunsMean : Type 0
RunsMean = (p : Program) (root : Arrow) (v : Value) → IsInput p root v → DoesMean p root v

-- the totals are within the bounds; each instruction has work, so their number is too
pub record AreWithin (t : Totals) (b : Bounds) : Type 0 where
  pub count : t.count ≤ b.work
  pub work : t.work ≤ b.work
  pub cells : t.cells ≤ b.cells
  pub frames : t.frames ≤ b.frames

-- so are the frames that a state has; since this is so of the next state too, a new frame has its room
pub record StaysWithin (z : State) (b : Bounds) : Type 0 where
  pub totals : AreWithin z.totals b
  pub cells : held z.reads + held z.writes ≤ b.cells
  pub frames : length z.reads + length z.writes ≤ b.frames

abbrev pub RunsAreBounded : Type 0
RunsAreBounded =
    (p : Program) (root : Arrow) (v : Value) → IsInput p root v → (z : State) → Reaches p (start p v) z → StaysWithin z (bounds p.nodes p.typing)

-- the items left to do in a state of a run are those of nested layers, so of at most as many nodes as the bounds have depth
abbrev pub ItemsAreLayered : Type 0
ItemsAreLayered =
    (p : Program) (root : Arrow) (v : Value) → IsInput p root v → (z : State) → Reaches p (start p v) z → AreLayered p (bounds p.nodes p.typing).depth z.items

-- the nodes in a node's row stand before it, so that replacing nodes in front comes to an end
abbrev pub RowsGoBack : Type 0
RowsGoBack = (p : Program) (root : Arrow) (v : Value) → IsInput p root v → (i : ℕ) → AreBefore i (row_at p i)

-- how layers come and go, of a placed list with a typing; a node other than the layer's own goes in front with its row
pub record LayersMove : Type 0 where
  pub few : (p : Program) (most : ℕ) (ls : List Layer) → AreNested p most 1 ls → length ls ≤ most
  pub first : (p : Program) (root : Arrow) (v : Value) → IsInput p root v →
      AreNested p (bounds p.nodes p.typing).depth 1 (layer (length p.nodes - 1) (row_at p (length p.nodes - 1)) ∷ [])
  pub enters : (p : Program) (root : Arrow) (v : Value) (most i j : ℕ) (xs : List Item) (ls : List Layer) → IsInput p root v → (j ≡ i → ⊥) →
      AreNested p most 1 (layer i (At j ∷ xs) ∷ ls) → AreNested p most 1 (layer j (row_at p j) ∷ layer i xs ∷ ls)
  pub behind : (p : Program) (most i : ℕ) (x : Item) (xs : List Item) (ls : List Layer) → AreNested p most 1 (layer i (x ∷ xs) ∷ ls) →
      AreNested p most 1 (layer i xs ∷ ls)
  pub left : (p : Program) (most i n j : ℕ) (right : Side) (xs : List Item) (ls : List Layer) → AreNested p most 1 (layer i (Read (Shown n j) right ∷ xs) ∷ ls) →
      AreNested p most 1 (layer i (Forward n ∷ At j ∷ Back n ∷ xs) ∷ ls)
  pub right : (p : Program) (most i n j : ℕ) (left : Side) (xs : List Item) (ls : List Layer) → AreNested p most 1 (layer i (Read left (Shown n j) ∷ xs) ∷ ls) →
      AreNested p most 1 (layer i (Forward n ∷ At j ∷ Back n ∷ xs) ∷ ls)
  pub ends : (p : Program) (most : ℕ) (l : Layer) (ls : List Layer) → AreNested p most 1 (l ∷ ls) → AreNested p most 1 ls

-- runs by turns and by steps end and fail in the same states, so with the same totals
pub record StepsAreTurns : Type 0 where
  pub ends : (p : Program) (v : Value) (z : State) → RunEnds p v z → StepRunEnds p v z
  pub ends_only : (p : Program) (v : Value) (z : State) → StepRunEnds p v z → RunEnds p v z
  pub fails : (p : Program) (v : Value) (z : State) → RunFails p v z → StepRunFails p v z
  pub fails_only : (p : Program) (v : Value) (z : State) → StepRunFails p v z → RunFails p v z

-- frames and totals stay where nodes are replaced; a step counts one, and one that fails nothing; there is one step at most; a run's steps are states of the run
pub record StepIsOne : Type 0 where
  pub same_reads : (p : Program) (s z : State) → Settles p s z → z.reads ≡ s.reads
  pub same_writes : (p : Program) (s z : State) → Settles p s z → z.writes ≡ s.writes
  pub same_totals : (p : Program) (s z : State) → Settles p s z → z.totals ≡ s.totals
  pub counts : (p : Program) (s u : State) → Steps p s u → u.totals.count ≡ s.totals.count + 1
  pub counts_no_failure : (p : Program) (s z : State) → StepFails p s z → z.totals ≡ s.totals
  pub one : (p : Program) (s u w : State) → Steps p s u → Steps p s w → u ≡ w
  pub no_end : (p : Program) (s u z : State) → Steps p s u → StepEnds p s z → ⊥
  pub no_failure : (p : Program) (s u z : State) → Steps p s u → StepFails p s z → ⊥
  pub not_both : (p : Program) (s y z : State) → StepEnds p s y → StepFails p s z → ⊥
  pub reached : (p : Program) (s z : State) → StepsReach p s z → Reaches p s z

-- from each state of a run there is a step, or the end, or failure
abbrev pub StepAnswers : Type 0
StepAnswers = (p : Program) (root : Arrow) (v : Value) → IsInput p root v → (z : State) → Reaches p (start p v) z → Stepped p z
