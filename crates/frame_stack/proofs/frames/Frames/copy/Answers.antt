-- Answers to the goals of `Frames::copy`.
use Rattle.std.proofs.Common.{arith}
use Rattle.std.proofs.Common.{◌≡◌, ◌+◌, List, length, ap, sym, ◌∙◌}
use Rattle.simplicity.specs.Cells.{Cell}
use Rattle.frame_stack.specs.Parts.{part, paste}
use Rattle.frame_stack.specs.Stacks.{cells_ahead}
use Rattle.frame_stack.proofs.Parts.{length_part}
use Rattle.frame_stack.proofs.Moves.{write_within, read_within, write_after, read_after, ahead, put_made}
use Rattle.frame_stack.proofs.frames.Frames.copy.Goals as goal

pub overflow_add-to : goal.overflow_add-to
overflow_add-to c = let w = write_within c.self.inside.cells c.self.inside.reads c.self.inside.writes c.self.inside.low c.self.inside.high c.top-to.result c.self.invariant c.top-to.ensures in omega arith

pub shift-requires-clause-from : goal.shift-requires-clause-from
shift-requires-clause-from c =
    let w = read_within c.self.inside.cells c.self.inside.reads c.self.inside.writes c.self.inside.low c.self.inside.high c.top-from.result c.self.invariant c.top-from.ensures in
    omega (arith, read_after c.self.inside.cells c.self.inside.reads c.self.inside.writes c.self.inside.low c.self.inside.high c.top-from.result c.args.n c.args.self.now c.self.invariant c.self.view_is c.top-from.ensures c.requires.from)

pub shift-requires-clause-to : goal.shift-requires-clause-to
shift-requires-clause-to c =
    let w = write_within c.self.inside.cells c.self.inside.reads c.self.inside.writes c.self.inside.low c.self.inside.high c.top-to.result c.self.invariant c.top-to.ensures in
    omega (arith, write_after c.self.inside.cells c.self.inside.reads c.self.inside.writes c.self.inside.low c.self.inside.high c.top-to.result c.args.n c.args.self.now c.self.invariant c.self.view_is c.top-to.ensures c.requires.to)

pub returns : goal.returns
returns c =
    let same : part (c.top-from.result.start + c.top-from.result.cursor) c.args.n c.self.inside.cells ≡ cells_ahead c.args.n c.args.self.now.reads =
    ahead c.self.inside.cells c.self.inside.reads c.self.inside.writes c.self.inside.low c.self.inside.high c.top-from.result c.args.n c.args.self.now c.self.invariant c.self.view_is c.top-from.ensures c.requires.from in
    let w = read_within c.self.inside.cells c.self.inside.reads c.self.inside.writes c.self.inside.low c.self.inside.high c.top-from.result c.self.invariant c.top-from.ensures in
    let long : length (cells_ahead c.args.n c.args.self.now.reads) ≡ c.args.n =
    ap length (sym same) ∙ length_part (c.top-from.result.start + c.top-from.result.cursor) c.args.n c.self.inside.cells
    (omega (arith, read_after c.self.inside.cells c.self.inside.reads c.self.inside.writes c.self.inside.low c.self.inside.high c.top-from.result c.args.n c.args.self.now c.self.invariant c.self.view_is c.top-from.ensures c.requires.from)) in
    (put_made c.self.inside.cells c.shift.new.self c.self.inside.reads c.self.inside.writes c.set_top.new.self c.self.inside.low c.self.inside.high c.top-to.result c.with_cursor.result (cells_ahead c.args.n c.args.self.now.reads) c.args.self.now c.self.invariant c.self.view_is c.top-to.ensures
    (rw long c.requires.to)
    (c.shift.ensures ∙ ap (λ (x : List Cell). paste (c.top-to.result.start + c.top-to.result.cursor) x c.self.inside.cells) same)
    (rw long c.with_cursor.ensures) c.set_top.ensures).is
