-- Answers to the goals of `at`: the number of bits before the reader's place.
use Rattle.cell_bits.proofs.Reading.{within}
use Rattle.cell_bits.proofs.reader.BitReader.at.Goals as goal

pub returns-clause-within : goal.returns-clause-within
returns-clause-within c = rw (← c.self.view_is) (within c.self.inside.bytes.now c.self.inside.at c.self.invariant)
