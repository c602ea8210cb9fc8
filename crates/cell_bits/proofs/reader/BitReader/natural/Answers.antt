-- Answers to the goals of `natural`: reads a natural, by its code.
use Rattle.std.proofs.Common.{ap, sym}
use Rattle.spelling.specs.Reading.{read_natural}
use Rattle.cell_bits.specs.Places.{Place}
use Rattle.cell_bits.proofs.Answered.{stays_within}
use Rattle.cell_bits.proofs.reader.BitReader.natural.Goals as goal

pub invariant_of-self : goal.invariant_of-self
invariant_of-self c =
    stays_within (read_natural) c.parts-answer.result c.args.self.now c.parts-answer.new.self c.self-2.inside.bytes.now c.self.inside.bytes.now c.self.inside.at c.parts-answer.ensures.reads
    (ap (λ (p : Place). p.bits) (sym c.self-2.view_is)) (ap (λ (p : Place). p.bits) (sym c.self.view_is)) c.self.invariant
