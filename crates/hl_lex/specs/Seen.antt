-- What the code's types stand for.
use Rattle.std.specs.Prelude.{ℕ, List, take_while}
use Rattle.std.specs.List.{prefix_len}
use Rattle.hl_lex.specs.declared.front.Fault.TheVariants as code_fault
use Rattle.hl_lex.specs.declared.front.Reading.TheVariants as code_reading
use Rattle.hl_lex.specs.declared.front.Fault.{Fault as CodeFault}
use Rattle.hl_lex.specs.declared.front.Reading.{Reading as CodeReading}
use Rattle.hl_lex.specs.declared.front.Front.{Front as CodeFront}
use Rattle.simplicityhl.specs.Tokens.{Fault, Reading, Front, bad_character, open_comment, literal_too_large, dropped, token, fault, is_word_byte, word_reading}

abbrev pub fault_of : CodeFault → Fault
fault_of code_fault.BadCharacter = bad_character
fault_of code_fault.OpenComment = open_comment
fault_of code_fault.LiteralTooLarge = literal_too_large

abbrev pub reading_of : CodeReading → Reading
reading_of code_reading.Dropped = dropped
reading_of (code_reading.Token kind) = token kind
reading_of (code_reading.Fault f) = fault (fault_of f)

abbrev pub front_of : CodeFront → Front
front_of f = record { reading = reading_of f.reading; size = f.size }

-- the word at the front of a text
abbrev pub word_front : List ℕ → Front
word_front text = record { reading = word_reading (take_while is_word_byte text); size = prefix_len is_word_byte text }
