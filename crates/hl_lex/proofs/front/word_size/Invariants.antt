-- Invariants of `word_size`: the number of bytes of the word at the front of a text.
use Rattle.std.proofs.Common.{◌≡◌, ◌+◌, drop}
use Rattle.std.specs.List.{prefix_len}
use Rattle.simplicityhl.specs.Tokens.{is_word_byte}
use Rattle.hl_lex.proofs.front.word_size.Given as goal

abbrev pub invariant-loop-size : goal.invariant-loop-size
invariant-loop-size l = prefix_len is_word_byte l.text ≡ l.size + prefix_len is_word_byte (drop l.size l.text)
