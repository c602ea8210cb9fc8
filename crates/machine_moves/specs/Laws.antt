-- Instructions are turns of the machine.
use Rattle.std.specs.Prelude.{◌≡◌, ◌+◌, ◌≤◌, Bool, List, [], ◌∷◌, length}
use Rattle.simplicity.specs.Cells.{Bit}
use Rattle.simplicity.specs.Machine.{Item, Read, Side, Program, State, Next, turn, chosen, held}
use Rattle.frame_stack.specs.Stacks.{cells_ahead}
use Rattle.machine_moves.specs.declared.trace.Instruction.{Instruction}
use Rattle.machine_moves.specs.Traced.{Traced, state}
use Rattle.machine_moves.specs.Moves.{item_of, IsReady, taken, side_by}

-- an instruction that is ready takes its turn; one that takes its turn is ready, if what is held after it has its room; a read goes on with the side of its bit
pub record TurnsAreTaken : Type 0 where
  pub goes : (p : Program) (rest : List Item) (i : Instruction) (t : Traced) → IsReady i t.stacks → turn p (state (item_of i ∷ rest) t) ≡ Next (state rest (taken i t))
  pub ready : (p : Program) (rest : List Item) (i : Instruction) (t : Traced) (u : State) → turn p (state (item_of i ∷ rest) t) ≡ Next u →
      held u.reads + held u.writes ≤ t.stacks.room → length u.reads + length u.writes ≤ t.stacks.places → IsReady i t.stacks
  pub chooses : (p : Program) (rest : List Item) (left right : Side) (t : Traced) (b : Bool) → cells_ahead 1 t.stacks.reads ≡ Bit b ∷ [] →
      turn p (state (Read left right ∷ rest) t) ≡ chosen (side_by b left right) rest t.stacks.reads t.stacks.writes t.totals
