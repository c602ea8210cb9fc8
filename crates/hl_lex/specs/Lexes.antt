-- The answers of the lexer.
use Rattle.std.specs.Prelude.{◌≡◌, List, ◌++◌, Result, Ok, Err}
use Rattle.hl_syntax.specs.declared.token.Span.{Span}
use Rattle.hl_syntax.specs.declared.token.Token.{Token}
use Rattle.hl_lex.specs.declared.refusal.LexRefusal.{LexRefusal}
use Rattle.hl_lex.specs.declared.refusal.LexRefusal.TheVariants.{BadCharacter, OpenComment, LiteralTooLarge, OutOfMemory}
use Rattle.simplicityhl.specs.Tokens.{Lexed, Fault, bad_character, open_comment, literal_too_large}

-- a refusal is the text's first fault, or memory was short
abbrev pub IsRefusalOf : Lexed → LexRefusal → Type 0
IsRefusalOf lexed (BadCharacter span) = lexed ≡ Err (record { fault = bad_character; span = span })
IsRefusalOf lexed (OpenComment span) = lexed ≡ Err (record { fault = open_comment; span = span })
IsRefusalOf lexed (LiteralTooLarge span) = lexed ≡ Err (record { fault = literal_too_large; span = span })
IsRefusalOf lexed OutOfMemory = Unit {0}

-- an answer is the text's tokens or its first fault, or memory was short
abbrev pub IsAnswerTo : Lexed → Result (List Token) LexRefusal → Type 0
IsAnswerTo lexed (Ok ts) = lexed ≡ Ok ts
IsAnswerTo lexed (Err refusal) = IsRefusalOf lexed refusal

-- tokens that were read, and then those of the rest
abbrev pub tokens_then : List Token → Lexed → Lexed
tokens_then ts (Ok us) = Ok (ts ++ us)
tokens_then ts (Err e) = Err e

-- a fault that some bytes are, as a refusal
abbrev pub IsRefusalFor : Fault → Span → LexRefusal → Type 0
IsRefusalFor fault span refusal = IsRefusalOf (Err (record { fault = fault; span = span })) refusal
