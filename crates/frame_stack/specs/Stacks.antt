-- Frames as their callers see them: two stacks with their tops first, the cells that there is room for, and the frames that there are places for.
use Rattle.std.specs.Prelude.{ℕ, ◌+◌, ◌<◌, ◌≤◌, List, [], ◌∷◌, ◌++◌, length, take}
use Rattle.simplicity.specs.Cells.{Cell}
use Rattle.simplicity.specs.Machine.{Frame, reset, held}

pub record Stacks : Type 0 where
  pub reads : List Frame
  pub writes : List Frame
  pub room : ℕ
  pub places : ℕ

-- the cells and the frames that are taken
abbrev pub cells_held : Stacks → ℕ
cells_held s = held s.reads + held s.writes

abbrev pub frames_held : Stacks → ℕ
frames_held s = length s.reads + length s.writes

-- the top frame has so many cells from its cursor on, or before it
abbrev pub HasAfter : ℕ → List Frame → Type 0
HasAfter n (f ∷ fs) = n ≤ length f.after
HasAfter n [] = ⊥

abbrev pub HasBefore : ℕ → List Frame → Type 0
HasBefore n (f ∷ fs) = n ≤ length f.before
HasBefore n [] = ⊥

-- the top frame changed
abbrev pub on_top : (Frame → Frame) → List Frame → List Frame
on_top f (g ∷ gs) = f g ∷ gs
on_top f [] = []

-- the first cells from the top frame's cursor on
abbrev pub cells_ahead : ℕ → List Frame → List Cell
cells_ahead n (f ∷ fs) = take n f.after
cells_ahead n [] = []

-- the top write frame moved to the read frames, with its cursor at the start
abbrev pub moved : List Frame → List Frame → List Frame
moved (g ∷ gs) reads = reset g ∷ reads
moved [] reads = reads

-- the cells of the top frame, and that it has one at a place
abbrev pub all_cells : List Frame → List Cell
all_cells (f ∷ fs) = f.before ++ f.after
all_cells [] = []

abbrev pub HasCell : ℕ → List Frame → Type 0
HasCell n fs = n < length (all_cells fs)
