-- Invariants of `decimal_fits` in `literal`.
use Rattle.std.proofs.Common.{◌≡◌, ◌<◌, ◌^◌, drop}
use Rattle.simplicityhl.specs.Tokens.{decimal_value}
use Rattle.hl_lex.proofs.Decimals.{decimal_from}
use Rattle.hl_lex.proofs.literal.decimal_fits.Given as goal

abbrev pub invariant-loop-byte : goal.invariant-loop-byte
invariant-loop-byte l = record {
  read : decimal_from l.value (drop l.byte-index l.word) ≡ decimal_value l.word;
  fits : l.value < 2 ^ 128;
}
