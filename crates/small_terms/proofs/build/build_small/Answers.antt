-- Answers to the goals of `build_small`: the nodes of a function, none of them twice, in the order in
-- which a walk from the root ends them.
use Rattle.small_source.specs.View.{small_of}
use Rattle.small_terms.proofs.Compiled.{made_below, compiled, few_nodes}
use Rattle.small_terms.proofs.build.build_small.Goals as goal

pub listed-requires : goal.listed-requires
listed-requires c =
    rw c.as_slice-2.ensures.value (made_below (small_of c.args.function.now) c.new-entries.result.items c.emit_body.new.entries.items c.in_ok-emit_body.field-0 c.new-entries.ensures.items (rw c.as_slice.ensures.value at c.in_ok-emit_body.ensures.known) (rw c.as_slice.ensures.value at c.in_ok-emit_body.ensures.emitted))

pub returns-clause-compiled : goal.returns-clause-compiled
returns-clause-compiled c =
    compiled (small_of c.args.function.now) c.new-entries.result.items c.emit_body.new.entries.items c.in_ok-emit_body.field-0 c.in_ok-listed.field-0 c.new-entries.ensures.items (rw c.as_slice.ensures.value at c.in_ok-emit_body.ensures.known) (rw c.as_slice.ensures.value at c.in_ok-emit_body.ensures.emitted) (rw c.as_slice-2.ensures.value at c.in_ok-listed.ensures)

pub returns-clause-few : goal.returns-clause-few
returns-clause-few c =
    few_nodes (small_of c.args.function.now) c.new-entries.result.items c.emit_body.new.entries.items c.in_ok-emit_body.field-0 c.in_ok-listed.field-0 c.new-entries.ensures.items c.requires (rw c.as_slice.ensures.value at c.in_ok-emit_body.ensures.known) (rw c.as_slice.ensures.value at c.in_ok-emit_body.ensures.emitted) (rw c.as_slice-2.ensures.value at c.in_ok-listed.ensures)
