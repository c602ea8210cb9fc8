-- Answers to the goals of `number`: reads a number of `width` bits, the most significant first.
use Rattle.std.proofs.Common.{ap, sym}
use Rattle.spelling.specs.Reading.{number}
use Rattle.cell_bits.specs.Places.{Place}
use Rattle.cell_bits.proofs.Answered.{stays_within}
use Rattle.cell_bits.proofs.reader.BitReader.number.Goals as goal

pub invariant_of-self : goal.invariant_of-self
invariant_of-self c =
    stays_within (number c.args.width) c.digits-answer.result c.args.self.now c.digits-answer.new.self c.self-2.inside.bytes.now c.self.inside.bytes.now c.self.inside.at c.digits-answer.ensures.reads
    (ap (λ (p : Place). p.bits) (sym c.self-2.view_is)) (ap (λ (p : Place). p.bits) (sym c.self.view_is)) c.self.invariant
