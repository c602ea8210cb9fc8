-- Answers to the goals of `word`: the word at the front of a text.
use Rattle.std.proofs.Common.{◌≡◌, List, ℕ, take, sym, ◌∙◌, ap, subst}
use Rattle.std.specs.Prelude.{IsUtf8}
use Rattle.std.specs.List.{prefix_len}
use Rattle.simplicityhl.specs.Tokens.{is_word_byte}
use Rattle.hl_lex.proofs.Words.{word_utf8}
use Rattle.hl_lex.proofs.front.word.Goals as goal

pub read_word-requires : goal.read_word-requires
read_word-requires c =
    let text = c.args.text.now in
    let same : take (prefix_len is_word_byte text) text ≡ c.split_at.result.0.now =
    sym (c.split_at.ensures.front ∙ ap (λ (n : ℕ). take n text) c.word_size-size.ensures.size) in
    subst (λ (w : List ℕ). IsUtf8 w) same (word_utf8 text)
