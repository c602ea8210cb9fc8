-- Answers to the goals of `is_one`: whether the bit at a place of bytes is 1.
use Rattle.std.proofs.Common.{sym}
use Rattle.simplicity.specs.Spelling.{byte_bits}
use Rattle.cell_bits.proofs.Reading.{rest_there, bit_before}
use Rattle.cell_bits.proofs.reader.is_one.Goals as goal

pub unreachable-requires : goal.unreachable-requires
unreachable-requires c = bit_before c.args.bytes.now c.args.place c.requires (sym c.in-None.ensures)

pub returns : goal.returns
returns c = rest_there (byte_bits c.args.bytes.now) c.args.place c.in-Some.bit (sym c.in-Some.ensures)
