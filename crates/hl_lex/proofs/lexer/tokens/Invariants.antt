-- Invariants of `tokens`: the tokens of a text, each with the bytes that it takes up, or the text's
-- first fault.
use Rattle.std.proofs.Common.{◌≡◌, ◌-◌, ◌≤◌, drop, length}
use Rattle.simplicityhl.specs.Tokens.{tokens, tokens_after}
use Rattle.hl_lex.specs.Lexes.{tokens_then}
use Rattle.hl_lex.proofs.lexer.tokens.Given as goal

abbrev pub invariant-loop-at : goal.invariant-loop-at
invariant-loop-at l = record {
  read : tokens l.text ≡ tokens_then l.found (tokens_after 0 l.at (drop l.at l.text));
  within : l.at ≤ length l.text;
}

abbrev pub decreases-loop-at : goal.decreases-loop-at
decreases-loop-at l = length l.text - l.at
