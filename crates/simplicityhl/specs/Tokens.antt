-- Tokens of a source text.
--
-- A text is the list of its bytes in UTF-8, and a place in it is a number of bytes. White space and
-- comments separate tokens and are dropped. Everything else is words, the longest runs of ASCII
-- letters, digits and `_`, and symbols, the longest first. The first thing in the text that is none
-- of these is a fault, and then the text has no tokens.
use Rattle.std.specs.Prelude.{ℕ, zero, suc, ◌+◌, ◌-◌, ◌*◌, ◌^◌, Bool, false, not, ◌&&◌, ◌||◌, ◌==◌, nat_eq, nat_lt, List, [], ◌∷◌, length, drop, codes, bytes_eq, filter, fold, find, take_while, Option, Some, None, option_map, Result, Ok, Err, if◌then◌else◌}
use Rattle.std.specs.List.{list_all, list_any, starts_with, prefix_len}
use Rattle.std.specs.Str.{byte}
use Rattle.std.specs.Char.{is_ascii_digit, is_ascii_hexdigit, is_ascii_alphanumeric}
use Rattle.hl_syntax.specs.declared.token.Span.{Span}
use Rattle.hl_syntax.specs.declared.token.Token.{Token}
use Rattle.hl_syntax.specs.declared.token.TokenKind.{TokenKind}
use Rattle.hl_syntax.specs.declared.token.TokenKind.TheVariants as kind
use Rattle.hl_syntax.specs.declared.token.Symbol.{Symbol}
use Rattle.hl_syntax.specs.declared.token.Symbol.TheVariants as symbol

-- what may be wrong at a place: a character that begins no token or a word that is none, a `/*`
-- without `*/`, a decimal literal of 2^128 or more
pub data Fault : Type 0 where
  bad_character : Fault
  open_comment : Fault
  literal_too_large : Fault

-- a fault and the bytes that are at fault
pub record Refusal : Type 0 where
  pub fault : Fault
  pub span : Span

-- what some bytes are: white space or a comment, a token, a fault
pub data Reading : Type 0 where
  dropped : Reading
  token : TokenKind → Reading
  fault : Fault → Reading

-- what stands at the front of a text, and how many bytes it takes up
pub record Front : Type 0 where
  pub reading : Reading
  pub size : ℕ

-- White space and comments.

-- space, tab, carriage return and line feed
abbrev pub is_white_space : ℕ → Bool
is_white_space c = c == 32 || (c == 9 || (c == 13 || c == 10))

abbrev pub is_no_line_feed : ℕ → Bool
is_no_line_feed c = not (c == 10)

-- the number of bytes up to and with the first `*/` of a text, if it has one
abbrev pub closer_end : List ℕ → Option ℕ
closer_end [] = None
closer_end (c ∷ z) = if starts_with nat_eq (c ∷ z) (codes "*/") then Some 2 else option_map (λ n. suc n) (closer_end z)

-- a comment from `/*`, given where the next `*/` after it ends; without one the rest of the text is at fault
abbrev pub block_comment : List ℕ → Option ℕ → Front
block_comment text None = record { reading = fault open_comment; size = length text }
block_comment text (Some n) = record { reading = dropped; size = 2 + n }

-- Words.

-- the bytes of words: ASCII letters, digits and `_`
abbrev pub is_word_byte : ℕ → Bool
is_word_byte c = is_ascii_alphanumeric c || c == byte "_"

-- digits and `_`, where `_` only separates
abbrev pub are_digits : (ℕ → Bool) → List ℕ → Bool
are_digits is_digit word = list_all (λ c. is_digit c || c == byte "_") word

abbrev pub begins_with_digit : List ℕ → Bool
begins_with_digit [] = false
begins_with_digit (c ∷ z) = is_ascii_digit c

-- `0`, a letter for the base, and digits of this base, at least one
abbrev pub is_based : (letter : ℕ) (is_digit : ℕ → Bool) → List ℕ → Bool
is_based letter is_digit (c ∷ d ∷ digits) = c == byte "0" && (d == letter && (are_digits is_digit digits && list_any is_digit digits))
is_based letter is_digit word = false

abbrev pub is_binary_digit : ℕ → Bool
is_binary_digit c = c == byte "0" || c == byte "1"

abbrev pub is_hexadecimal : List ℕ → Bool
is_hexadecimal word = is_based (byte "x") is_ascii_hexdigit word

abbrev pub is_binary : List ℕ → Bool
is_binary word = is_based (byte "b") is_binary_digit word

-- the number that a decimal literal's digits spell, its `_` left out
abbrev pub decimal_value : List ℕ → ℕ
decimal_value word = fold (λ n c. n * 10 + (c - byte "0")) 0 (filter is_ascii_digit word)

-- what a word is that begins with a digit: a literal, or a fault
abbrev pub number_reading : List ℕ → Reading
number_reading word =
    if are_digits is_ascii_digit word
    then (if nat_lt (decimal_value word) (2 ^ 128) then token (kind.Literal word) else fault literal_too_large)
    else (if is_hexadecimal word || is_binary word then token (kind.Literal word) else fault bad_character)

-- what a word is: `_` is a symbol; a word that begins with no digit is a name
abbrev pub word_reading : List ℕ → Reading
word_reading word =
    if bytes_eq word (codes "_") then token (kind.Symbol symbol.Underscore)
    else (if begins_with_digit word then number_reading word else token (kind.Name word))

-- Symbols.

-- how a symbol is written
abbrev pub symbol_text : Symbol → List ℕ
symbol_text symbol.OpenParenthesis = codes "("
symbol_text symbol.CloseParenthesis = codes ")"
symbol_text symbol.OpenBrace = codes "{"
symbol_text symbol.CloseBrace = codes "}"
symbol_text symbol.OpenBracket = codes "["
symbol_text symbol.CloseBracket = codes "]"
symbol_text symbol.Less = codes "<"
symbol_text symbol.Greater = codes ">"
symbol_text symbol.Comma = codes ","
symbol_text symbol.Semicolon = codes ";"
symbol_text symbol.Colon = codes ":"
symbol_text symbol.DoubleColon = codes "::"
symbol_text symbol.Equals = codes "="
symbol_text symbol.FatArrow = codes "=>"
symbol_text symbol.Arrow = codes "->"
symbol_text symbol.Exclamation = codes "!"
symbol_text symbol.Underscore = codes "_"

-- the symbols, the longer before the shorter; `_` is missing, since it is a word
abbrev pub symbols : List Symbol
symbols =
    symbol.DoubleColon ∷ symbol.FatArrow ∷ symbol.Arrow
    ∷ symbol.OpenParenthesis ∷ symbol.CloseParenthesis ∷ symbol.OpenBrace ∷ symbol.CloseBrace
    ∷ symbol.OpenBracket ∷ symbol.CloseBracket ∷ symbol.Less ∷ symbol.Greater
    ∷ symbol.Comma ∷ symbol.Semicolon ∷ symbol.Colon ∷ symbol.Equals ∷ symbol.Exclamation ∷ []

-- the first of these that a text begins with
abbrev pub symbol_of : List ℕ → Option Symbol
symbol_of text = find (λ s. starts_with nat_eq text (symbol_text s)) symbols

-- the number of bytes of the character that begins with this byte
abbrev pub character_size : ℕ → ℕ
character_size c = if nat_lt c 128 then 1 else (if nat_lt c 224 then 2 else (if nat_lt c 240 then 3 else 4))

-- the symbol; without one the whole character is at fault
abbrev pub symbol_front : ℕ → Option Symbol → Front
symbol_front c None = record { reading = fault bad_character; size = character_size c }
symbol_front c (Some s) = record { reading = token (kind.Symbol s); size = length (symbol_text s) }

-- Texts.

-- what stands at the front of a text that isn't empty
abbrev pub front : List ℕ → Front
front [] = record { reading = dropped; size = 0 }
front (c ∷ z) =
    if is_white_space c then record { reading = dropped; size = 1 }
    else (if starts_with nat_eq (c ∷ z) (codes "//") then record { reading = dropped; size = prefix_len is_no_line_feed (c ∷ z) }
    else (if starts_with nat_eq (c ∷ z) (codes "/*") then block_comment (c ∷ z) (closer_end (drop 2 (c ∷ z)))
    else (if is_word_byte c then record { reading = word_reading (take_while is_word_byte (c ∷ z)); size = prefix_len is_word_byte (c ∷ z) }
    else symbol_front c (symbol_of (c ∷ z)))))

-- the tokens of a text, or its first fault
abbrev pub Lexed : Type 0
Lexed = Result (List Token) Refusal

abbrev pub with_token : Token → Lexed → Lexed
with_token t (Ok ts) = Ok (t ∷ ts)
with_token t (Err e) = Err e

-- what was read up to `end` from `start` on, and then the tokens of the rest
abbrev pub read_then : (start end : ℕ) → Reading → Lexed → Lexed
read_then start end dropped rest = rest
read_then start end (token k) rest = with_token (record { kind = k; span = record { start = start; end = end } }) rest
read_then start end (fault f) rest = Err (record { fault = f; span = record { start = start; end = end } })

-- the tokens of what follows `more` further bytes, which were read already, in a text that begins at place `at`
abbrev pub tokens_after : (more at : ℕ) → List ℕ → Lexed
tokens_after more at [] = Ok []
tokens_after (suc more) at (c ∷ z) = tokens_after more (suc at) z
tokens_after zero at (c ∷ z) =
    let here = front (c ∷ z) in
    read_then at (at + here.size) here.reading (tokens_after (here.size - 1) (suc at) z)

-- the tokens of a text, each with the bytes that it takes up, or the text's first fault
abbrev pub tokens : List ℕ → Lexed
tokens text = tokens_after 0 0 text
