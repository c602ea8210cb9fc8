-- Answers to the goals of `read_program`: the list that the bytes spell.
use Rattle.std.proofs.Common.{sym, ◌∙◌, length}
use Rattle.bit_codec.proofs.Lists.{tail_stops, spelled}
use Rattle.bit_codec.proofs.read.read_program.Goals as goal

pub returns-in_err-tail-clause-refused : goal.returns-in_err-tail-clause-refused
returns-in_err-tail-clause-refused c =
    tail_stops c.args.bytes.now c.new-bits.result c.read_count.new.bits c.read_nodes.new.bits c.in_ok-count.count c.in_ok-nodes.nodes c.new-bits.ensures c.in_ok-count.ensures.reads.0
    c.in_ok-nodes.ensures.reads.0 c.in_ok-nodes.ensures.count (sym c.is_hidden.ensures ∙ c.if-is_hidden.false)
    c.from_residual-in_err-tail.result c.in_err-tail.field-0.0 c.from_residual-in_err-tail.ensures c.in_err-tail.ensures

pub returns-clause-spelled : goal.returns-clause-spelled
returns-clause-spelled c =
    spelled c.args.bytes.now c.new-bits.result c.read_count.new.bits c.read_nodes.new.bits c.in_ok-count.count c.in_ok-nodes.nodes c.new-bits.ensures c.in_ok-count.ensures.reads.0
    c.in_ok-nodes.ensures.reads.0 c.in_ok-nodes.ensures.count (sym c.is_hidden.ensures ∙ c.if-is_hidden.false)
    (length c.read_nodes.new.bits.bits) c.in_ok-tail.ensures
