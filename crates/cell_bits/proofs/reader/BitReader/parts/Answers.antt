-- Answers to the goals of `parts`: reads a natural; after an error some of its bits may be read.
use Rattle.std.proofs.Common.{ap, arith}
use Rattle.cell_bits.specs.Places.{Place}
use Rattle.cell_bits.proofs.Answered.{parts_end, parts_go}
use Rattle.cell_bits.proofs.reader.BitReader.parts.Goals as goal

pub returns-in_err-count-clause-reads : goal.returns-in_err-count-clause-reads
returns-in_err-count-clause-reads c = grind (arith, parts_end)

pub returns-clause-reads : goal.returns-clause-reads
returns-clause-reads c =
    parts_go c.self.inside.at c.in_ok-count.count c.args.self.now c.ones.new.self c.powers.new.self c.powers.result (ap (λ (p : Place). p.at) c.self.view_is)
    c.in_ok-count.ensures.reads.0 c.in_ok-count.ensures.reads.1 c.powers.ensures.reads
