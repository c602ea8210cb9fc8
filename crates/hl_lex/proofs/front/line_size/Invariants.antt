-- Invariants of `line_size`: the number of bytes before the first line feed, or of all.
use Rattle.std.proofs.Common.{◌≡◌, ◌+◌, drop}
use Rattle.std.specs.List.{prefix_len}
use Rattle.simplicityhl.specs.Tokens.{is_no_line_feed}
use Rattle.hl_lex.proofs.front.line_size.Given as goal

abbrev pub invariant-loop-size : goal.invariant-loop-size
invariant-loop-size l = prefix_len is_no_line_feed l.text ≡ l.size + prefix_len is_no_line_feed (drop l.size l.text)
