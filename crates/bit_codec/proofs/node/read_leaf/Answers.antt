-- Answers to the goals of `read_leaf`: reads the rest of a node whose code begins with 01, which has none.
use Rattle.std.proofs.Common.{◌≡◌, refl, ap, sym, subst, ◌∙◌, ◌+◌, ◌-◌, ◌*◌, ◌/◌, ◌^◌, ◌<◌, ◌≤◌, true, false, [], ◌∷◌, length, arith}
use Rattle.simplicity.specs.Nodes as node
use Rattle.spelling.specs.Reading.{Got, then, give, one_bit, number, read_bytes, read_child, carried, read_node, one_child, two_children}
use Rattle.cell_bits.specs.Places.{rest, cause}
use Rattle.term_core.specs.Nodes.{node_of}
use Rattle.bit_codec.specs.Answers.{Behind}
use Rattle.bit_codec.proofs.Fields.{parent, leaf, err_bits, err_codec, refuses_same, refuses_then, split_low, split_ends, hidden_there, leaf_there, parent_there, parent_stops, two_stops, word_fits, word_read, word_ends, fill_ends, fill_more, others_there}
use Rattle.bit_codec.proofs.node.read_leaf.Goals as goal

pub returns-in_err-fill : goal.returns-in_err-fill
returns-in_err-fill c =
    err_codec node_of (Behind (read_node c.args.index) c.args.start (false ∷ true ∷ [])) c.from_residual-in_err-fill.result c.args.bits.now c.fill.new.bits c.in_err-fill.field-0.0
    c.from_residual-in_err-fill.ensures
    (refuses_same c.in_err-fill.field-0.0 (Behind (read_node c.args.index) c.args.start (false ∷ true ∷ []) c.args.bits.now.at (rest c.args.bits.now))
    (carried 32 node.Hidden c.bit-then-branch.new.self.at (rest c.bit-then-branch.new.self))
    (hidden_there c.args.index c.args.start c.args.bits.now.at c.bit.new.self.at c.bit-then-branch.new.self.at (rest c.args.bits.now) (rest c.bit.new.self) (rest c.bit-then-branch.new.self)
    c.requires (c.in_ok-bit.ensures.reads.0 ∙ ap (λ b. Got b c.bit.new.self.at (rest c.bit.new.self)) c.if-branch.true)
    (c.in_ok-bit-2.ensures.reads.0 ∙ ap (λ b. Got b c.bit-then-branch.new.self.at (rest c.bit-then-branch.new.self)) c.if-branch-2.false))
    (refuses_then c.in_err-fill.field-0.0 (read_bytes 32 c.bit-then-branch.new.self.at (rest c.bit-then-branch.new.self)) (λ bs. give (node.Hidden bs)) c.in_err-fill.ensures.reads))

pub returns-then-branch : goal.returns-then-branch
returns-then-branch c = (
  hidden_there c.args.index c.args.start c.args.bits.now.at c.bit.new.self.at c.bit-then-branch.new.self.at (rest c.args.bits.now) (rest c.bit.new.self) (rest c.bit-then-branch.new.self)
      c.requires (c.in_ok-bit.ensures.reads.0 ∙ ap (λ b. Got b c.bit.new.self.at (rest c.bit.new.self)) c.if-branch.true)
      (c.in_ok-bit-2.ensures.reads.0 ∙ ap (λ b. Got b c.bit-then-branch.new.self.at (rest c.bit-then-branch.new.self)) c.if-branch-2.false)
      ∙ ap (λ r. then r (λ bs. give (node.Hidden bs))) c.in_ok-fill.ensures.reads.0,
  c.in_ok-fill.ensures.reads.1 ∙ c.in_ok-bit-2.ensures.reads.1 ∙ c.in_ok-bit.ensures.reads.1,
)

pub returns-in_err-fill-in-2 : goal.returns-in_err-fill-in-2
returns-in_err-fill-in-2 c =
    err_codec node_of (Behind (read_node c.args.index) c.args.start (false ∷ true ∷ [])) c.from_residual-in_err-fill-in-2.result c.args.bits.now c.fill-in-2.new.bits c.in_err-fill-in-2.field-0.0
    c.from_residual-in_err-fill-in-2.ensures
    (refuses_same c.in_err-fill-in-2.field-0.0 (Behind (read_node c.args.index) c.args.start (false ∷ true ∷ []) c.args.bits.now.at (rest c.args.bits.now))
    (carried 64 node.Fail c.number.new.self.at (rest c.number.new.self))
    (leaf_there c.args.index c.args.start c.args.bits.now.at c.bit.new.self.at c.in_ok-number.field-0 c.number.new.self.at (rest c.args.bits.now) (rest c.bit.new.self) (rest c.number.new.self)
    c.requires (c.in_ok-bit.ensures.reads.0 ∙ ap (λ b. Got b c.bit.new.self.at (rest c.bit.new.self)) c.if-branch.false) c.in_ok-number.ensures.reads.0
    ∙ ap (λ k. leaf c.args.start k c.number.new.self.at (rest c.number.new.self)) c.in-2.is)
    (refuses_then c.in_err-fill-in-2.field-0.0 (read_bytes 64 c.number.new.self.at (rest c.number.new.self)) (λ bs. give (node.Fail bs)) c.in_err-fill-in-2.ensures.reads))

pub returns-in_ok-fill-in-2 : goal.returns-in_ok-fill-in-2
returns-in_ok-fill-in-2 c = (
  (leaf_there c.args.index c.args.start c.args.bits.now.at c.bit.new.self.at c.in_ok-number.field-0 c.number.new.self.at (rest c.args.bits.now) (rest c.bit.new.self) (rest c.number.new.self)
      c.requires (c.in_ok-bit.ensures.reads.0 ∙ ap (λ b. Got b c.bit.new.self.at (rest c.bit.new.self)) c.if-branch.false) c.in_ok-number.ensures.reads.0
      ∙ ap (λ k. leaf c.args.start k c.number.new.self.at (rest c.number.new.self)) c.in-2.is)
      ∙ ap (λ r. then r (λ bs. give (node.Fail bs))) c.in_ok-fill-in-2.ensures.reads.0,
  c.in_ok-fill-in-2.ensures.reads.1 ∙ c.in_ok-number.ensures.reads.1 ∙ c.in_ok-bit.ensures.reads.1,
)
