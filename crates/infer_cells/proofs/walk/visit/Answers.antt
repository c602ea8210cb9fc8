-- Answers to the goals of `visit`: goes on from the path's last cell, which was taken off it: to a part
-- that has no id yet, or back once all have theirs.
use Rattle.std.proofs.Common.{arith}
use Rattle.std.proofs.lemmas.Option.{slice_get-get_or}
use Rattle.infer_cells.proofs.Paths.{part_within, part_in, part_at, ready_at, walk_none, walk_down, down_kept, down_less, walk_back, back_kept, back_less}
use Rattle.infer_cells.proofs.Steps.{on_no_typing}
use Rattle.infer_cells.proofs.walk.visit.Goals as goal

pub next_part-requires : goal.next_part-requires
next_part-requires c j part =
    let within = part_within c.args.cells.now c.args.top j _ c.requires.placed c.requires.within (slice_get-get_or c.args.cells.now c.args.top _ c.requires.within) part in
    omega (arith, within, c.requires.walk.count, c.as_slice.ensures.value)

pub descend-requires-clause-within : goal.descend-requires-clause-within
descend-requires-clause-within c =
    let within = part_in c.args.cells.now c.args.top c.in-Some.part c.requires.placed (part_at c.args.cells.now c.args.top c.in-Some.part _ c.requires.within c.in-Some.ensures.part) in
    omega (arith, within, c.requires.walk.count)

pub make-requires-clause-done : goal.make-requires-clause-done
make-requires-clause-done c =
    rw c.as_slice-in-None.ensures.value (ready_at c.args.cells.now c.args.marks.now.items c.args.top _ c.requires.within (rw c.as_slice.ensures.value at c.in-None.ensures.done))

pub make-requires-clause-mean : goal.make-requires-clause-mean
make-requires-clause-mean c = rw c.as_slice-in-None.ensures.value c.requires.walk.done

pub returns-in-Ok-clause-walk : goal.returns-in-Ok-clause-walk
returns-in-Ok-clause-walk c =
    rw (c.in-Ok.ensures.marks, c.in-Ok.ensures.path)
    (walk_down c.args.cells.now c.args.types.now c.args.marks.now.items c.args.path.now.items c.args.top c.requires.placed c.requires.walk c.in-Some.part
    (part_at c.args.cells.now c.args.top c.in-Some.part _ c.requires.within c.in-Some.ensures.part) c.in-Ok.ensures.new)

pub returns-in-Ok-clause-kept : goal.returns-in-Ok-clause-kept
returns-in-Ok-clause-kept c =
    rw (c.in-Ok.ensures.marks, c.in-Ok.ensures.path)
    (down_kept c.args.cells.now c.args.types.now c.args.marks.now.items c.args.path.now.items c.args.top c.requires.placed c.requires.walk c.in-Some.part
    (part_at c.args.cells.now c.args.top c.in-Some.part _ c.requires.within c.in-Some.ensures.part) c.in-Ok.ensures.new)

pub returns-in-Ok-clause-less : goal.returns-in-Ok-clause-less
returns-in-Ok-clause-less c =
    rw (c.in-Ok.ensures.marks, c.in-Ok.ensures.path)
    (down_less c.args.cells.now c.args.types.now c.args.marks.now.items c.args.path.now.items c.args.top c.requires.placed c.requires.walk c.in-Some.part
    (part_at c.args.cells.now c.args.top c.in-Some.part _ c.requires.within c.in-Some.ensures.part) c.in-Ok.ensures.new)

pub returns-in-Err-clause-none : goal.returns-in-Err-clause-none
returns-in-Err-clause-none c =
    on_no_typing c.in-Err.refusal _ _
    (walk_none c.args.cells.now c.args.types.now c.args.marks.now.items c.args.path.now.items c.args.top c.requires.placed c.requires.walk c.in-Some.part
    (part_at c.args.cells.now c.args.top c.in-Some.part _ c.requires.within c.in-Some.ensures.part)) c.in-Err.ensures.none

pub returns-in_ok-id-in-None-clause-walk : goal.returns-in_ok-id-in-None-clause-walk
returns-in_ok-id-in-None-clause-walk c =
    walk_back c.args.cells.now c.args.types.now c.args.marks.now.items c.args.path.now.items c.args.top c.requires.placed c.requires.walk c.make.new.types c.in_ok-id-in-None.id
    c.in_ok-id-in-None.ensures.grown c.in_ok-id-in-None.ensures.id

pub returns-in_ok-id-in-None-clause-kept : goal.returns-in_ok-id-in-None-clause-kept
returns-in_ok-id-in-None-clause-kept c =
    back_kept c.args.cells.now c.args.types.now c.args.marks.now.items c.args.path.now.items c.args.top c.requires.placed c.requires.walk c.make.new.types c.in_ok-id-in-None.id
    c.in_ok-id-in-None.ensures.grown c.in_ok-id-in-None.ensures.id

pub returns-in_ok-id-in-None-clause-less : goal.returns-in_ok-id-in-None-clause-less
returns-in_ok-id-in-None-clause-less c =
    back_less c.args.cells.now c.args.types.now c.args.marks.now.items c.args.path.now.items c.args.top c.requires.placed c.requires.walk c.make.new.types c.in_ok-id-in-None.id
    c.in_ok-id-in-None.ensures.grown c.in_ok-id-in-None.ensures.id
