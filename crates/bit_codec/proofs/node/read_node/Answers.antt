-- Answers to the goals of `read_node` in `node`.
use Rattle.std.proofs.Common.{◌≡◌, refl, ap, sym, subst, ◌∙◌, ◌+◌, ◌-◌, ◌*◌, ◌/◌, ◌^◌, ◌<◌, ◌≤◌, true, false, [], ◌∷◌, length, arith}
use Rattle.simplicity.specs.Nodes as node
use Rattle.spelling.specs.Reading.{Got, then, give, one_bit, number, read_bytes, read_child, carried, read_node, one_child, two_children}
use Rattle.cell_bits.specs.Places.{rest, cause}
use Rattle.term_core.specs.Nodes.{node_of}
use Rattle.bit_codec.specs.Answers.{Behind}
use Rattle.bit_codec.proofs.Fields.{parent, leaf, err_bits, err_codec, refuses_same, refuses_then, split_low, split_ends, hidden_there, leaf_there, parent_there, parent_stops, two_stops, word_fits, word_read, word_ends, fill_ends, fill_more, others_there, gives_from}
use Rattle.bit_codec.proofs.node.read_node.Goals as goal

pub returns-then-branch-3 : goal.returns-then-branch-3
returns-then-branch-3 c =
    gives_from node_of (read_node c.args.index) (Behind (read_node c.args.index) c.at-start.result (false ∷ true ∷ [])) c.read_leaf.result c.args.bits.now c.bit-2.new.self c.read_leaf.new.bits
    ((others_there c.args.index c.args.bits.now.at c.bit.new.self.at c.bit-2.new.self.at true (rest c.args.bits.now) (rest c.bit.new.self) (rest c.bit-2.new.self)
    (c.in_ok-bit.ensures.reads.0 ∙ ap (λ b. Got b c.bit.new.self.at (rest c.bit.new.self)) c.if-branch.false)
    (c.in_ok-bit-3.ensures.reads.0 ∙ ap (λ b. Got b c.bit-2.new.self.at (rest c.bit-2.new.self)) c.if-branch-3.true)).0
    ∙ ap (λ s. Behind (read_node c.args.index) s (false ∷ true ∷ []) c.bit-2.new.self.at (rest c.bit-2.new.self)) (sym c.at-start.ensures.place))
    (c.in_ok-bit-3.ensures.reads.1 ∙ c.in_ok-bit.ensures.reads.1) c.read_leaf.ensures
