-- Answers to the goals of `listed`: the list of the nodes of entries.
use Rattle.small_terms.proofs.Listed.{entry_follows}
use Rattle.small_terms.proofs.build.listed.Goals as goal

pub push-requires : goal.push-requires
push-requires c = rw c.list_node.ensures (entry_follows c.args.entries.now c.loop-entry.entry-index _ c.loop-entry.nodes c.requires c.loop-entry-test.true c.loop-entry.invariant)
