-- Answers to the goals of `read_halves`: reads a number of at most 256 bits, as the bits before its last
-- 128 and these.
use Rattle.std.proofs.Common.{◌≡◌, refl, ap, sym, subst, ◌∙◌, ◌+◌, ◌-◌, ◌*◌, ◌/◌, ◌^◌, ◌<◌, ◌≤◌, true, false, [], ◌∷◌, length, arith}
use Rattle.simplicity.specs.Nodes as node
use Rattle.spelling.specs.Reading.{Got, then, give, one_bit, number, read_bytes, read_child, carried, read_node, one_child, two_children}
use Rattle.cell_bits.specs.Places.{rest, cause}
use Rattle.term_core.specs.Nodes.{node_of}
use Rattle.bit_codec.specs.Answers.{Behind}
use Rattle.bit_codec.proofs.Fields.{parent, leaf, err_bits, err_codec, refuses_same, refuses_then, split_low, split_ends, hidden_there, leaf_there, parent_there, parent_stops, two_stops, word_fits, word_read, word_ends, fill_ends, fill_more, others_there}
use Rattle.bit_codec.proofs.node.read_halves.Goals as goal

pub returns-in_err-high : goal.returns-in_err-high
returns-in_err-high c =
    err_codec (λ halves. halves.0 * 2 ^ 128 + halves.1) (number c.args.width) c.from_residual-in_err-high.result c.args.bits.now c.read_half-2.new.bits c.in_err-high.field-0.0
    c.from_residual-in_err-high.ensures
    (split_ends c.args.width c.args.bits.now.at (rest c.args.bits.now) c.in_err-high.field-0.0 (omega (arith, c.if-width-le128.false)) c.in_err-high.ensures)

pub returns-in_err-read_half-2 : goal.returns-in_err-read_half-2
returns-in_err-read_half-2 c =
    err_codec (λ halves. halves.0 * 2 ^ 128 + halves.1) (number c.args.width) c.from_residual-in_err-read_half-2.result c.args.bits.now c.read_half-3.new.bits c.in_err-read_half-2.field-0.0
    c.from_residual-in_err-read_half-2.ensures
    (refuses_same c.in_err-read_half-2.field-0.0 (number c.args.width c.args.bits.now.at (rest c.args.bits.now))
    (then (number 128 c.read_half-2.new.bits.at (rest c.read_half-2.new.bits)) (λ l. give (c.in_ok-high.high * 2 ^ 128 + l)))
    (split_low c.args.width c.args.bits.now.at c.read_half-2.new.bits.at c.in_ok-high.high (rest c.args.bits.now) (rest c.read_half-2.new.bits) (omega (arith, c.if-width-le128.false)) c.in_ok-high.ensures.0)
    (refuses_then c.in_err-read_half-2.field-0.0 (number 128 c.read_half-2.new.bits.at (rest c.read_half-2.new.bits)) (λ l. give (c.in_ok-high.high * 2 ^ 128 + l)) c.in_err-read_half-2.ensures))

pub returns : goal.returns
returns c = (
  split_low c.args.width c.args.bits.now.at c.read_half-2.new.bits.at c.in_ok-high.high (rest c.args.bits.now) (rest c.read_half-2.new.bits) (omega (arith, c.if-width-le128.false)) c.in_ok-high.ensures.0
      ∙ ap (λ r. then r (λ l. give (c.in_ok-high.high * 2 ^ 128 + l))) c.in_ok-read_half-2.ensures.0,
  c.in_ok-read_half-2.ensures.1 ∙ c.in_ok-high.ensures.1,
)
