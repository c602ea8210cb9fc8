-- Answers to the goals of `lexed`: the tokens of a text.
use Rattle.hl_values.proofs.Texts.{no_tokens}
use Rattle.hl_values.proofs.read.lexed.Goals as goal

pub returns-in-Err-BadCharacter : goal.returns-in-Err-BadCharacter
returns-in-Err-BadCharacter c = no_tokens _ _ (rw c.in-Err-BadCharacter.field-0-is at c.in-Err-BadCharacter.ensures)

pub returns-in-Err-OpenComment : goal.returns-in-Err-OpenComment
returns-in-Err-OpenComment c = no_tokens _ _ (rw c.in-Err-OpenComment.field-0-is at c.in-Err-OpenComment.ensures)

pub returns-in-Err-LiteralTooLarge : goal.returns-in-Err-LiteralTooLarge
returns-in-Err-LiteralTooLarge c = no_tokens _ _ (rw c.in-Err-LiteralTooLarge.field-0-is at c.in-Err-LiteralTooLarge.ensures)
