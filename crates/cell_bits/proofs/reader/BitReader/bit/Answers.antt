-- Answers to the goals of `bit`: reads a bit.
use Rattle.std.proofs.Common.{sym, ap, refl, arith}
use Rattle.simplicity.specs.Spelling.{byte_bits}
use Rattle.cell_bits.proofs.Reading.{before_end, bit_read, bit_missing}
use Rattle.cell_bits.proofs.reader.BitReader.bit.Goals as goal

pub invariant_of-self : goal.invariant_of-self
invariant_of-self c = before_end c.self.inside.bytes.now c.self.inside.at c.in-Some.bit (sym c.in-Some.ensures)

pub returns-in-Some-clause-reads : goal.returns-in-Some-clause-reads
returns-in-Some-clause-reads c = rw (← c.self.view_is) (bit_read (byte_bits c.self.inside.bytes.now) c.self.inside.at c.in-Some.bit (sym c.in-Some.ensures), refl)

pub returns-in-None-clause-reads : goal.returns-in-None-clause-reads
returns-in-None-clause-reads c = rw (← c.self.view_is) (bit_missing (byte_bits c.self.inside.bytes.now) c.self.inside.at (sym c.in-None.ensures), refl)
