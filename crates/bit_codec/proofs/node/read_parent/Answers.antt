-- Answers to the goals of `read_parent`: reads the rest of a node whose code begins with 00, which has
-- children.
use Rattle.std.proofs.Common.{◌≡◌, refl, ap, sym, subst, ◌∙◌, ◌+◌, ◌-◌, ◌*◌, ◌/◌, ◌^◌, ◌<◌, ◌≤◌, true, false, [], ◌∷◌, length, arith}
use Rattle.simplicity.specs.Nodes as node
use Rattle.spelling.specs.Reading.{Got, then, give, one_bit, number, read_bytes, read_child, carried, read_node, one_child, two_children}
use Rattle.cell_bits.specs.Places.{rest, cause}
use Rattle.term_core.specs.Nodes.{node_of}
use Rattle.bit_codec.specs.Answers.{Behind}
use Rattle.bit_codec.proofs.Fields.{parent, leaf, err_bits, err_codec, refuses_same, refuses_then, split_low, split_ends, hidden_there, leaf_there, parent_there, parent_stops, two_stops, word_fits, word_read, word_ends, fill_ends, fill_more, others_there}
use Rattle.bit_codec.proofs.node.read_parent.Goals as goal

pub returns-in_err-first : goal.returns-in_err-first
returns-in_err-first c =
    err_codec node_of (Behind (read_node c.args.index) c.args.start (false ∷ false ∷ [])) c.from_residual-in_err-first.result c.args.bits.now c.read_child.new.bits c.in_err-first.field-0.0
    c.from_residual-in_err-first.ensures
    (refuses_same c.in_err-first.field-0.0 (Behind (read_node c.args.index) c.args.start (false ∷ false ∷ []) c.args.bits.now.at (rest c.args.bits.now))
    (parent c.args.index c.args.start c.in_ok-code.code c.number.new.self.at (rest c.number.new.self))
    (parent_there c.args.index c.args.start c.args.bits.now.at c.in_ok-code.code c.number.new.self.at (rest c.args.bits.now) (rest c.number.new.self) c.requires c.in_ok-code.ensures.reads.0)
    (parent_stops c.args.index c.args.start c.in_ok-code.code c.number.new.self.at (rest c.number.new.self) c.in_err-first.field-0.0 c.if-code-eq3.false c.in_err-first.ensures))

pub returns-in_err-read_child-in-0 : goal.returns-in_err-read_child-in-0
returns-in_err-read_child-in-0 c =
    err_codec node_of (Behind (read_node c.args.index) c.args.start (false ∷ false ∷ [])) c.from_residual-in_err-read_child-in-0.result c.args.bits.now c.read_child-in-0.new.bits
    c.in_err-read_child-in-0.field-0.0 c.from_residual-in_err-read_child-in-0.ensures
    (refuses_same c.in_err-read_child-in-0.field-0.0 (Behind (read_node c.args.index) c.args.start (false ∷ false ∷ []) c.args.bits.now.at (rest c.args.bits.now))
    (two_children c.args.index node.Comp c.number.new.self.at (rest c.number.new.self))
    (parent_there c.args.index c.args.start c.args.bits.now.at c.in_ok-code.code c.number.new.self.at (rest c.args.bits.now) (rest c.number.new.self) c.requires c.in_ok-code.ensures.reads.0
    ∙ ap (λ k. parent c.args.index c.args.start k c.number.new.self.at (rest c.number.new.self)) c.in-0.is)
    (two_stops c.args.index c.in_ok-first.first c.number.new.self.at c.read_child.new.bits.at node.Comp (rest c.number.new.self) (rest c.read_child.new.bits)
    c.in_err-read_child-in-0.field-0.0 c.in_ok-first.ensures.0 c.in_err-read_child-in-0.ensures))

pub returns-in_err-read_child-in-1 : goal.returns-in_err-read_child-in-1
returns-in_err-read_child-in-1 c =
    err_codec node_of (Behind (read_node c.args.index) c.args.start (false ∷ false ∷ [])) c.from_residual-in_err-read_child-in-1.result c.args.bits.now c.read_child-in-1.new.bits
    c.in_err-read_child-in-1.field-0.0 c.from_residual-in_err-read_child-in-1.ensures
    (refuses_same c.in_err-read_child-in-1.field-0.0 (Behind (read_node c.args.index) c.args.start (false ∷ false ∷ []) c.args.bits.now.at (rest c.args.bits.now))
    (two_children c.args.index node.Case c.number.new.self.at (rest c.number.new.self))
    (parent_there c.args.index c.args.start c.args.bits.now.at c.in_ok-code.code c.number.new.self.at (rest c.args.bits.now) (rest c.number.new.self) c.requires c.in_ok-code.ensures.reads.0
    ∙ ap (λ k. parent c.args.index c.args.start k c.number.new.self.at (rest c.number.new.self)) c.in-1.is)
    (two_stops c.args.index c.in_ok-first.first c.number.new.self.at c.read_child.new.bits.at node.Case (rest c.number.new.self) (rest c.read_child.new.bits)
    c.in_err-read_child-in-1.field-0.0 c.in_ok-first.ensures.0 c.in_err-read_child-in-1.ensures))

pub returns-in_err-read_child-in-2 : goal.returns-in_err-read_child-in-2
returns-in_err-read_child-in-2 c =
    err_codec node_of (Behind (read_node c.args.index) c.args.start (false ∷ false ∷ [])) c.from_residual-in_err-read_child-in-2.result c.args.bits.now c.read_child-in-2.new.bits
    c.in_err-read_child-in-2.field-0.0 c.from_residual-in_err-read_child-in-2.ensures
    (refuses_same c.in_err-read_child-in-2.field-0.0 (Behind (read_node c.args.index) c.args.start (false ∷ false ∷ []) c.args.bits.now.at (rest c.args.bits.now))
    (two_children c.args.index node.Pair c.number.new.self.at (rest c.number.new.self))
    (parent_there c.args.index c.args.start c.args.bits.now.at c.in_ok-code.code c.number.new.self.at (rest c.args.bits.now) (rest c.number.new.self) c.requires c.in_ok-code.ensures.reads.0
    ∙ ap (λ k. parent c.args.index c.args.start k c.number.new.self.at (rest c.number.new.self)) c.in-2.is)
    (two_stops c.args.index c.in_ok-first.first c.number.new.self.at c.read_child.new.bits.at node.Pair (rest c.number.new.self) (rest c.read_child.new.bits)
    c.in_err-read_child-in-2.field-0.0 c.in_ok-first.ensures.0 c.in_err-read_child-in-2.ensures))
