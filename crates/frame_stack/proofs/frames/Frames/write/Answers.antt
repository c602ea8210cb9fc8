-- Answers to the goals of `Frames::write`.
use Rattle.std.proofs.Common.{arith}
use Rattle.std.proofs.Common.{◌∷◌, []}
use Rattle.simplicity.specs.Cells.{Bit}
use Rattle.frame_stack.proofs.Moves.{write_within, put_made}
use Rattle.frame_stack.proofs.frames.Frames.write.Goals as goal

pub overflow_add-top : goal.overflow_add-top
overflow_add-top c = let w = write_within c.self.inside.cells c.self.inside.reads c.self.inside.writes c.self.inside.low c.self.inside.high c.top-top.result c.self.invariant c.top-top.ensures in omega arith

pub invariant_of-self : goal.invariant_of-self
invariant_of-self c =
    (put_made c.self.inside.cells c.set.new.self c.self.inside.reads c.self.inside.writes c.set_top.new.self c.self.inside.low c.self.inside.high c.top-top.result c.with_cursor.result (Bit c.args.bit ∷ []) c.args.self.now c.self.invariant c.self.view_is c.top-top.ensures c.requires
    (rw c.bit_cell.ensures at c.set.ensures) c.with_cursor.ensures c.set_top.ensures).laid

pub returns : goal.returns
returns c =
    (put_made c.self.inside.cells c.set.new.self c.self.inside.reads c.self.inside.writes c.set_top.new.self c.self.inside.low c.self.inside.high c.top-top.result c.with_cursor.result (Bit c.args.bit ∷ []) c.args.self.now c.self.invariant c.self.view_is c.top-top.ensures c.requires
    (rw c.bit_cell.ensures at c.set.ensures) c.with_cursor.ensures c.set_top.ensures).is
