-- Answers to the goals of `fill`: reads as many bytes as there is room for.
use Rattle.std.proofs.Common.{◌≡◌, refl, ap, sym, subst, ◌∙◌, ◌+◌, ◌-◌, ◌*◌, ◌/◌, ◌^◌, ◌<◌, ◌≤◌, true, false, [], ◌∷◌, length, arith}
use Rattle.simplicity.specs.Nodes as node
use Rattle.spelling.specs.Reading.{Got, then, give, one_bit, number, read_bytes, read_child, carried, read_node, one_child, two_children}
use Rattle.cell_bits.specs.Places.{rest, cause}
use Rattle.term_core.specs.Nodes.{node_of}
use Rattle.bit_codec.specs.Answers.{Behind}
use Rattle.bit_codec.proofs.Fields.{parent, leaf, err_bits, err_codec, refuses_same, refuses_then, split_low, split_ends, hidden_there, leaf_there, parent_there, parent_stops, two_stops, word_fits, word_read, word_ends, fill_ends, fill_more, others_there}
use Rattle.bit_codec.proofs.node.fill.Goals as goal

pub returns-in_err-bytes-clause-reads : goal.returns-in_err-bytes-clause-reads
returns-in_err-bytes-clause-reads c =
    err_bits (λ _. c.loop-place.bytes) (read_bytes (length c.args.bytes.now)) c.from_residual.result c.args.bits.now c.number.new.self c.in_err-bytes.field-0.0 c.from_residual.ensures
    (fill_ends (length c.args.bytes.now) c.loop-place.place c.loop-place.bytes c.args.bits.now c.loop-place.bits (cause c.in_err-bytes.field-0.0) (omega arith)
    c.loop-place.invariant.0 c.in_err-bytes.ensures.reads.0)

pub loop-place-preserved : goal.loop-place-preserved
loop-place-preserved c =
    fill_more (length c.args.bytes.now) c.loop-place.place c.in_ok-bytes.field-0 c.loop-place.bytes c.args.bits.now c.loop-place.bits c.number.new.self (omega arith)
    c.loop-place.invariant c.in_ok-bytes.ensures.reads.0 c.in_ok-bytes.ensures.reads.1
