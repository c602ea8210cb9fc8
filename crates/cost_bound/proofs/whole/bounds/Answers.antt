-- Answers to the goals of `bounds`.
use Rattle.infer_cells.specs.Typings.{typing_in}
use Rattle.cost_bound.specs.Numbers.{numbers, entries_of}
use Rattle.cost_bound.proofs.Listed.{whole_by}
use Rattle.cost_bound.proofs.whole.bounds.Goals as goal

pub returns : goal.returns
returns c =
    whole_by c.args.nodes.now (typing_in c.args.types.now c.args.typing.now) (entries_of c.in_ok-entries.entries.items) c.saturating_sub-root.result
    c.root_sizes-source.result.0 c.root_sizes-source.result.1 (numbers c.entry_at-bounds.result) (numbers c.with_frames.result) c.in_ok-entries.ensures
    (rw c.len.ensures at c.saturating_sub-root.ensures) (rw c.as_slice.ensures.value at c.entry_at-bounds.ensures) c.root_sizes-source.ensures.source c.root_sizes-source.ensures.target
    c.with_frames.ensures
