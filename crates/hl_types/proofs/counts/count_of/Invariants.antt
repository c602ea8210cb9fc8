-- Invariants of `count_of`: the number that a word's digits spell, or 65,537 where it is more.
use Rattle.std.proofs.Common.{◌≡◌, ◌≤◌, min, drop}
use Rattle.simplicityhl.specs.Tokens.{decimal_value}
use Rattle.hl_types.proofs.Decimals.{most, decimal_from}
use Rattle.hl_types.proofs.counts.count_of.Given as goal

abbrev pub invariant-loop-byte : goal.invariant-loop-byte
invariant-loop-byte l = record {
  small : l.value ≤ most;
  read : min (decimal_from l.value (drop l.byte-index l.word)) most ≡ min (decimal_value l.word) most;
}
