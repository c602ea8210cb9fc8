-- Invariants of `closer_end`: the number of bytes up to and with the first `*/`.
use Rattle.std.proofs.Common.{◌≡◌, ◌+◌, drop}
use Rattle.std.specs.Prelude.{option_map}
use Rattle.simplicityhl.specs.Tokens.{closer_end}
use Rattle.hl_lex.proofs.front.closer_end.Given as goal

abbrev pub invariant-loop-place : goal.invariant-loop-place
invariant-loop-place l = closer_end l.text ≡ option_map (λ n. l.place + n) (closer_end (drop l.place l.text))
