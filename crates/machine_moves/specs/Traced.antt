-- A run as far as it has come: its frames and its totals, without what is left to do.
use Rattle.std.specs.Prelude.{ℕ, ◌+◌, List, [], ◌∷◌, length}
use Rattle.simplicity.specs.Cells.{Cell, undefined}
use Rattle.simplicity.specs.Machine as spec
use Rattle.simplicity.specs.Machine.{frame, Item, State}
use Rattle.frame_stack.specs.Stacks.{Stacks}
use Rattle.machine_moves.specs.declared.trace.Totals.{Totals}

pub record Traced : Type 0 where
  pub stacks : Stacks
  pub totals : spec.Totals

abbrev pub totals_of : Totals → spec.Totals
totals_of t = record { count = t.count; work = t.work; cells = t.cells; frames = t.frames }

-- the state of the machine with these items left to do
abbrev pub state : List Item → Traced → State
state items t = record { items = items; reads = t.stacks.reads; writes = t.stacks.writes; totals = t.totals }

-- before the first instruction: the input's cells in one read frame, and one write frame for the result
abbrev pub begun : List Cell → ℕ → ℕ → ℕ → Traced
begun input target room places = record {
  stacks = record { reads = frame input ∷ []; writes = frame (undefined target) ∷ []; room = room; places = places };
  totals = record { count = 0; work = 0; cells = length input + target; frames = 2 };
}
