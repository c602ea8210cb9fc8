-- Invariants of `write_cells`: the cells so far are written, and the others are undefined.
use Rattle.std.proofs.Common.{◌≡◌, ◌-◌, [], ◌∷◌, length, take}
use Rattle.simplicity.specs.Cells.{undefined}
use Rattle.frame_stack.specs.Bits.{cells_of}
use Rattle.machine_moves.proofs.start.write_cells.Given as goal

abbrev pub invariant-loop-cell : goal.invariant-loop-cell
invariant-loop-cell l =
    l.frames ≡ record l.initial.frames {
      writes = record { before = cells_of (take l.cell-index l.cells); after = undefined (length l.cells - l.cell-index) } ∷ [];
    }
