-- Invariants of `based_number`: the number that digits of a base spell, `_` between them left out.
use Rattle.std.proofs.Common.{◌≡◌, drop}
use Rattle.hl_meaning.specs.Literals.{based_value}
use Rattle.hl_literals.specs.Wide.{number_of}
use Rattle.hl_literals.proofs.Spelling.{based_from}
use Rattle.hl_literals.proofs.literal.based_number.Given as goal

abbrev pub invariant-loop-byte : goal.invariant-loop-byte
invariant-loop-byte l = based_from l.base (number_of l.number) (drop l.byte-index l.digits) ≡ based_value l.base l.digits
