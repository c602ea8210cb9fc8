-- Numbers of at most 256 bits in two halves.
use Rattle.std.specs.Prelude.{ℕ, ◌+◌, ◌*◌, ◌^◌}
use Rattle.hl_literals.specs.declared.literal.Wide.{Wide}

abbrev pub number_of : Wide → ℕ
number_of w = w.high * 2 ^ 128 + w.low
