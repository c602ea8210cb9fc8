-- The tokens at the front of a text, piece by piece.
use Rattle.std.proofs.Common.{◌≡◌, ℕ, suc, ◌+◌, ◌-◌, Bool, true, false, ◌&&◌, nat_eq, List, [], ◌∷◌, ◌++◌, length, refl, ap, ◌∙◌, arith}
use Rattle.std.specs.List.{list_all, prefix_len}
use Rattle.std.specs.Prelude.{take, take_while}
use Rattle.hl_syntax.specs.declared.token.Token.{Token}
use Rattle.hl_syntax.specs.declared.token.TokenKind.{TokenKind}
use Rattle.hl_syntax.specs.declared.token.TokenKind.TheVariants as kind
use Rattle.hl_syntax.specs.declared.token.Symbol.TheVariants as symbol
use Rattle.simplicityhl.specs.Tokens.{is_white_space, is_word_byte, word_reading, token, tokens_after, with_token, read_then, front}

-- whether a text would go on with a word before it
abbrev pub goes_on : List ℕ → Bool
goes_on [] = false
goes_on (c ∷ z) = is_word_byte c

abbrev pub placed : TokenKind → ℕ → ℕ → Token
placed k start end = record { kind = k; span = record { start = start; end = end } }

-- Symbols.

pub open_read : (at : ℕ) (rest : List ℕ) → tokens_after 0 at (40 ∷ rest) ≡ with_token (placed (kind.Symbol symbol.OpenParenthesis) at (at + 1)) (tokens_after 0 (suc at) rest)
open_read at rest = refl

pub close_read : (at : ℕ) (rest : List ℕ) → tokens_after 0 at (41 ∷ rest) ≡ with_token (placed (kind.Symbol symbol.CloseParenthesis) at (at + 1)) (tokens_after 0 (suc at) rest)
close_read at rest = refl

pub comma_read : (at : ℕ) (rest : List ℕ) → tokens_after 0 at (44 ∷ rest) ≡ with_token (placed (kind.Symbol symbol.Comma) at (at + 1)) (tokens_after 0 (suc at) rest)
comma_read at rest = refl

pub comma_space_read : (at : ℕ) (rest : List ℕ) → tokens_after 0 at (44 ∷ 32 ∷ rest) ≡ with_token (placed (kind.Symbol symbol.Comma) at (at + 1)) (tokens_after 0 (suc (suc at)) rest)
comma_space_read at rest = refl

pub open_bracket_read : (at : ℕ) (rest : List ℕ) → tokens_after 0 at (91 ∷ rest) ≡ with_token (placed (kind.Symbol symbol.OpenBracket) at (at + 1)) (tokens_after 0 (suc at) rest)
open_bracket_read at rest = refl

pub close_bracket_read : (at : ℕ) (rest : List ℕ) → tokens_after 0 at (93 ∷ rest) ≡ with_token (placed (kind.Symbol symbol.CloseBracket) at (at + 1)) (tokens_after 0 (suc at) rest)
close_bracket_read at rest = refl

pub exclamation_read : (at : ℕ) (rest : List ℕ) → tokens_after 0 at (33 ∷ rest) ≡ with_token (placed (kind.Symbol symbol.Exclamation) at (at + 1)) (tokens_after 0 (suc at) rest)
exclamation_read at rest = refl

-- Words.

both_true : (a b : Bool) → (a && b) ≡ true → (a ≡ true) × (b ≡ true)
both_true true b h = (refl, h)
both_true false b h = cc

prefix_taken : (word rest : List ℕ) → list_all is_word_byte word ≡ true → goes_on rest ≡ false → prefix_len is_word_byte (word ++ rest) ≡ length word
prefix_taken [] [] h g = refl
prefix_taken [] (c ∷ rest) h g = rw g refl
prefix_taken (c ∷ word) rest h g =
    let b = both_true (is_word_byte c) (list_all is_word_byte word) h in
    let more : 1 + prefix_len is_word_byte (word ++ rest) ≡ suc (length word) = omega (arith, prefix_taken word rest b.1 g) in
    rw b.0 more

front_taken : (word rest : List ℕ) → take (length word) (word ++ rest) ≡ word
front_taken [] rest = refl
front_taken (c ∷ word) rest = ap (λ w. c ∷ w) (front_taken word rest)

word_taken : (word rest : List ℕ) → list_all is_word_byte word ≡ true → goes_on rest ≡ false → take_while is_word_byte (word ++ rest) ≡ word
word_taken word rest h g = ap (λ n. take n (word ++ rest)) (prefix_taken word rest h g) ∙ front_taken word rest

skipped : (word rest : List ℕ) (at : ℕ) → tokens_after (length word) at (word ++ rest) ≡ tokens_after 0 (at + length word) rest
skipped [] rest at = ap (λ n. tokens_after 0 n rest) (omega arith)
skipped (c ∷ word) rest at = skipped word rest (suc at) ∙ ap (λ n. tokens_after 0 n rest) (omega arith)

-- a byte that begins a word
pub record Begins (c : ℕ) : Type 0 where
  pub solid : is_white_space c ≡ false
  pub no_comment : nat_eq 47 c ≡ false
  pub in_word : is_word_byte c ≡ true

word_front : (c : ℕ) (z : List ℕ) → Begins c → front (c ∷ z) ≡ record { reading = word_reading (take_while is_word_byte (c ∷ z)); size = prefix_len is_word_byte (c ∷ z) }
word_front c z b = let solid = b.solid in let other = b.no_comment in let word = b.in_word in rw (solid, other, word) refl

-- a whole word at the front
pub word_read : (first : ℕ) (others rest : List ℕ) (k : TokenKind) (at : ℕ) → Begins first → list_all is_word_byte others ≡ true → word_reading (first ∷ others) ≡ token k → goes_on rest ≡ false →
    tokens_after 0 at ((first ∷ others) ++ rest) ≡ with_token (placed k at (at + length (first ∷ others))) (tokens_after 0 (suc at + length others) rest)
word_read first others rest k at b all read apart =
    let word = b.in_word in
    let whole : list_all is_word_byte (first ∷ others) ≡ true = rw word all in
    let size = prefix_taken (first ∷ others) rest whole apart in
    let taken = word_taken (first ∷ others) rest whole apart in
    let less : length (first ∷ others) - 1 ≡ length others = omega arith in
    ap (λ f. read_then at (at + f.size) f.reading (tokens_after (f.size - 1) (suc at) (others ++ rest))) (word_front first (others ++ rest) b)
    ∙ ap (λ n. read_then at (at + n) (word_reading (take_while is_word_byte ((first ∷ others) ++ rest))) (tokens_after (n - 1) (suc at) (others ++ rest))) size
    ∙ ap (λ w. read_then at (at + length (first ∷ others)) (word_reading w) (tokens_after (length (first ∷ others) - 1) (suc at) (others ++ rest))) taken
    ∙ ap (λ r. read_then at (at + length (first ∷ others)) r (tokens_after (length (first ∷ others) - 1) (suc at) (others ++ rest))) read
    ∙ ap (λ n. with_token (placed k at (at + length (first ∷ others))) (tokens_after n (suc at) (others ++ rest))) less
    ∙ ap (with_token (placed k at (at + length (first ∷ others)))) (skipped others rest (suc at))
