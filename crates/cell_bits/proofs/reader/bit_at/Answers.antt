-- Answers to the goals of `bit_at`: the bit at a place of bytes.
use Rattle.std.proofs.Common.{sym, refl, length, ◌/◌}
use Rattle.std.proofs.lemmas.Option.{slice_get_read}
use Rattle.cell_bits.proofs.Reading.{bit_there, bit_behind}
use Rattle.cell_bits.proofs.reader.bit_at.Goals as goal

pub returns-in-Some : goal.returns-in-Some
returns-in-Some c =
    sym (bit_there c.args.bytes.now c.args.place c.in-Some.byte.now
    (slice_get_read c.args.bytes.now (length c.args.bytes.now) (c.args.place / 8) c.in-Some.byte.now refl c.in-Some.ensures.lookup.3.0 c.in-Some.ensures.lookup.1))

pub returns-in-None : goal.returns-in-None
returns-in-None c = sym (bit_behind c.args.bytes.now c.args.place c.in-None.ensures.lookup.3)
