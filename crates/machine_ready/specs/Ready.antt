-- What a machine that takes its memory first rests on: within the bounds each instruction of a run is ready, and replacing nodes comes to an end.
use Rattle.std.specs.Prelude.{ℕ, suc, ◌+◌, ◌^◌, ◌<◌, ◌≤◌, List, [], ◌∷◌, ◌++◌}
use Rattle.simplicity.specs.Types.{Value}
use Rattle.simplicity.specs.Typing.{Arrow}
use Rattle.simplicity.specs.Bounds.{Bounds, bounds}
use Rattle.simplicity.specs.Machine.{Program, IsInput, Item, At, Read, Side, Reaches, start, row_at}
use Rattle.frame_stack.specs.Stacks.{cells_ahead}
use Rattle.machine_moves.specs.declared.trace.Instruction.{Instruction}
use Rattle.machine_moves.specs.Traced.{Traced, state}
use Rattle.machine_moves.specs.Moves.{item_of, IsReady, taken, work_of, HasBit}

-- the run has the room and the places of these bounds, whose work fits 64 bits
pub record IsWithin (t : Traced) (b : Bounds) : Type 0 where
  pub room : b.cells ≤ t.stacks.room
  pub places : b.frames ≤ t.stacks.places
  pub work : b.work < 2 ^ 64

-- the instruction can be taken, with its cost
pub record CanTake (i : Instruction) (t : Traced) : Type 0 where
  pub ready : IsReady i t.stacks
  pub count : t.totals.count + 1 < 2 ^ 64
  pub work : t.totals.work + work_of i < 2 ^ 64

-- an instruction in front can be taken, which leads on
pub record LeadsOn (p : Program) (v : Value) (rest : List Item) (i : Instruction) (t : Traced) : Type 0 where
  pub can : CanTake i t
  pub leads : Reaches p (start p v) (state rest (taken i t))

abbrev pub InstructionsAreReady : Type 0
InstructionsAreReady =
    (p : Program) (root : Arrow) (v : Value) → IsInput p root v → (rest : List Item) (i : Instruction) (t : Traced) → Reaches p (start p v) (state (item_of i ∷ rest) t) →
    IsWithin t (bounds p.nodes p.typing) → LeadsOn p v rest i t

-- a read in front finds a bit
abbrev pub ReadsFindBits : Type 0
ReadsFindBits =
    (p : Program) (root : Arrow) (v : Value) → IsInput p root v → (rest : List Item) (left right : Side) (t : Traced) →
    Reaches p (start p v) (state (Read left right ∷ rest) t) → HasBit (cells_ahead 1 t.stacks.reads)

-- a node in front gives way to its row
abbrev pub NodesGiveWay : Type 0
NodesGiveWay =
    (p : Program) (v : Value) (rest : List Item) (i : ℕ) (t : Traced) → Reaches p (start p v) (state (At i ∷ rest) t) → Reaches p (start p v) (state (row_at p i ++ rest) t)

-- a number that falls where a node gives way, with one to spare for the place where its row is kept
abbrev pub item_load : Item → ℕ
item_load (At i) = 4 ^ suc i
item_load _ = 0

abbrev pub load : List Item → ℕ
load [] = 0
load (x ∷ xs) = item_load x + load xs

abbrev pub RowsAreLighter : Type 0
RowsAreLighter = (p : Program) (root : Arrow) (v : Value) → IsInput p root v → (i : ℕ) → load (row_at p i) + 1 < 4 ^ suc i
