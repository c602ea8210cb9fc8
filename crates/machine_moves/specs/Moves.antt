-- What an instruction asks of the frames, and what it makes of them.
use Rattle.std.specs.Prelude.{ℕ, ◌+◌, ◌<◌, ◌≤◌, Bool, true, false, List, [], ◌∷◌, drop}
use Rattle.simplicity.specs.Cells.{Cell, Bit, Undefined, undefined}
use Rattle.simplicity.specs.Machine as spec
use Rattle.simplicity.specs.Machine.{Frame, Item, Side, frame, put, forth, back, charged}
use Rattle.frame_stack.specs.Stacks.{Stacks, HasAfter, HasBefore, on_top, cells_ahead, moved, cells_held, frames_held}
use Rattle.machine_moves.specs.declared.trace.Instruction.{Instruction}
use Rattle.machine_moves.specs.declared.trace.Instruction.TheVariants as code
use Rattle.machine_moves.specs.Traced.{Traced}

-- the item that an instruction is
abbrev pub item_of : Instruction → Item
item_of (code.Write b) = spec.Write b
item_of (code.Skip n) = spec.Skip n
item_of (code.Copy n) = spec.Copy n
item_of (code.Forward n) = spec.Forward n
item_of (code.Back n) = spec.Back n
item_of (code.NewFrame n) = spec.NewFrame n
item_of code.MoveFrame = spec.MoveFrame
item_of code.DropFrame = spec.DropFrame
item_of code.Nop = spec.Nop

-- its frames and cells are there, and a new frame has its room
abbrev pub IsReady : Instruction → Stacks → Type 0
IsReady (code.Write b) s = HasAfter 1 s.writes
IsReady (code.Skip n) s = HasAfter n s.writes
IsReady (code.Copy n) s = HasAfter n s.reads × HasAfter n s.writes
IsReady (code.Forward n) s = HasAfter n s.reads
IsReady (code.Back n) s = HasBefore n s.reads
IsReady (code.NewFrame n) s = (n + cells_held s ≤ s.room) × (frames_held s < s.places)
IsReady code.MoveFrame s = HasAfter 0 s.writes
IsReady code.DropFrame s = HasAfter 0 s.reads
IsReady code.Nop s = Unit {0}

abbrev pub after : Instruction → Stacks → Stacks
after (code.Write b) s = record s { writes = on_top (put (Bit b ∷ [])) s.writes }
after (code.Skip n) s = record s { writes = on_top (forth n) s.writes }
after (code.Copy n) s = record s { writes = on_top (put (cells_ahead n s.reads)) s.writes }
after (code.Forward n) s = record s { reads = on_top (forth n) s.reads }
after (code.Back n) s = record s { reads = on_top (back n) s.reads }
after (code.NewFrame n) s = record s { writes = frame (undefined n) ∷ s.writes }
after code.MoveFrame s = record s { reads = moved s.writes s.reads; writes = drop 1 s.writes }
after code.DropFrame s = record s { reads = drop 1 s.reads }
after code.Nop s = s

abbrev pub work_of : Instruction → ℕ
work_of (code.Skip n) = 1 + n
work_of (code.Copy n) = 1 + n
work_of (code.NewFrame n) = 1 + n
work_of _ = 1

-- the run once the instruction is done
abbrev pub taken : Instruction → Traced → Traced
taken i t =
    let s = after i t.stacks in
    record { stacks = s; totals = charged (work_of i) s.reads s.writes t.totals }

-- the first of the cells is a bit
abbrev pub HasBit : List Cell → Type 0
HasBit (Bit b ∷ cs) = Unit {0}
HasBit _ = ⊥

-- the side that a bit chooses
abbrev pub side_by : Bool → Side → Side → Side
side_by false left right = left
side_by true left right = right

-- a frame with a cell written at its cursor, where an undefined one stays as it is
abbrev pub put_cell : Cell → Frame → Frame
put_cell (Bit b) f = put (Bit b ∷ []) f
put_cell Undefined f = forth 1 f
