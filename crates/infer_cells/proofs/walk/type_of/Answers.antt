-- Answers to the goals of `type_of`: the id of one cell's least type, by a walk along its parts whose
-- path is a list.
use Rattle.std.proofs.Common.{arith, rules, sym, [], ◌≡◌, ◌∙◌, ◌<◌, length}
use Rattle.infer_cells.proofs.Paths.{cell_there, top_within, done_not}
use Rattle.infer_cells.proofs.walk.type_of.Goals as goal

pub visit-requires-clause-within : goal.visit-requires-clause-within
visit-requires-clause-within c =
    top_within c.args.cells.now c.loop-top.types c.loop-top.marks.items c.pop.new.self.items c.in-Some.top c.requires.placed (rw c.in-Some.ensures.items at c.loop-top.invariant.walk)

pub unreachable-requires : goal.unreachable-requires
unreachable-requires c =
    let empty : c.loop-top.path.items ≡ [] = search rules in
    let within : c.args.start < length c.loop-top.marks.items = omega (arith, c.requires.within, c.loop-top.invariant.walk.count) in
    let done = done_not c.loop-top.marks.items c.loop-top.path.items c.args.start c.index.result.now empty c.loop-top.invariant.started within c.index.ensures in
    cc (c.in-New.is, done.1)

pub unreachable-requires-in-Open : goal.unreachable-requires-in-Open
unreachable-requires-in-Open c =
    let empty : c.loop-top.path.items ≡ [] = search rules in
    let within : c.args.start < length c.loop-top.marks.items = omega (arith, c.requires.within, c.loop-top.invariant.walk.count) in
    let done = done_not c.loop-top.marks.items c.loop-top.path.items c.args.start c.index.result.now empty c.loop-top.invariant.started within c.index.ensures in
    cc (c.in-Open.is, done.1)

pub returns-clause-id : goal.returns-clause-id
returns-clause-id c =
    let within : c.args.start < length c.loop-top.marks.items = omega (arith, c.requires.within, c.loop-top.invariant.walk.count) in
    c.loop-top.invariant.walk.done c.args.start c.in-Done.id (cell_there c.loop-top.marks.items c.args.start c.index.result.now _ within (sym c.index.ensures ∙ c.in-Done.is))
