-- Answers to the goals of `read_word`: reads the rest of a word, behind its code: its level and its bits.
use Rattle.std.proofs.Common.{◌≡◌, refl, ap, sym, subst, ◌∙◌, ◌+◌, ◌-◌, ◌*◌, ◌/◌, ◌^◌, ◌<◌, ◌≤◌, true, false, [], ◌∷◌, length, arith}
use Rattle.simplicity.specs.Nodes as node
use Rattle.spelling.specs.Reading.{Got, then, give, one_bit, number, read_bytes, read_child, carried, read_node, one_child, two_children}
use Rattle.cell_bits.specs.Places.{rest, cause}
use Rattle.term_core.specs.Nodes.{node_of}
use Rattle.bit_codec.specs.Answers.{Behind}
use Rattle.bit_codec.proofs.Fields.{parent, leaf, err_bits, err_codec, refuses_same, refuses_then, split_low, split_ends, hidden_there, leaf_there, parent_there, parent_stops, two_stops, word_fits, word_read, word_ends, fill_ends, fill_more, others_there}
use Rattle.bit_codec.proofs.node.read_word.Goals as goal

pub unreachable-requires : goal.unreachable-requires
unreachable-requires c =
    let clash : false ≡ true = c.in-None.ensures.valid.1 (word_fits c.in_ok-level.level (c.in_ok-high.high * 2 ^ 128 + c.in_ok-high.low) c.read_level.new.bits.at c.read_halves.new.bits.at
    (rest c.read_level.new.bits) (rest c.read_halves.new.bits) c.in_ok-level.ensures.small c.in_ok-high.ensures.0) in
    absurd (cc)

pub returns : goal.returns
returns c = (
  word_read c.args.index c.in_ok-level.level c.args.bits.now.at c.read_level.new.bits.at (c.in_ok-high.high * 2 ^ 128 + c.in_ok-high.low) c.read_halves.new.bits.at
      (rest c.args.bits.now) (rest c.read_level.new.bits) (rest c.read_halves.new.bits) c.in-Some.word c.in_ok-level.ensures.small c.in_ok-level.ensures.reads.0 c.in_ok-high.ensures.0
      c.in-Some.ensures.value,
  c.in_ok-high.ensures.1 ∙ c.in_ok-level.ensures.reads.1,
)
