-- Worked rows of the tokens of a text.
use Rattle.std.specs.Prelude.{◌≡◌, ℕ, List, [], ◌∷◌, codes, Ok, Err, refl}
use Rattle.hl_syntax.specs.declared.token.Token.{Token}
use Rattle.hl_syntax.specs.declared.token.TokenKind.{TokenKind}
use Rattle.hl_syntax.specs.declared.token.TokenKind.TheVariants as kind
use Rattle.hl_syntax.specs.declared.token.Symbol.TheVariants as symbol
use Rattle.simplicityhl.specs.Tokens.{tokens, Fault, bad_character, open_comment, literal_too_large, Lexed}

abbrev placed : TokenKind → ℕ → ℕ → Token
placed k start end = record { kind = k; span = record { start = start; end = end } }

abbrev refused : Fault → ℕ → ℕ → Lexed
refused fault start end = Err (record { fault = fault; span = record { start = start; end = end } })

abbrev only_literal : List ℕ → ℕ → Lexed
only_literal word size = Ok (placed (kind.Literal word) 0 size ∷ [])

hash : tokens (codes "fn main() { # }") ≡ refused bad_character 12 13
hash = refl

unclosed : tokens (codes "/* a") ≡ refused open_comment 0 4
unclosed = refl

overlapping : tokens (codes "/*/") ≡ refused open_comment 0 3
overlapping = refl

greatest : tokens (codes "340282366920938463463374607431768211455") ≡ only_literal (codes "340282366920938463463374607431768211455") 39
greatest = refl

beyond : tokens (codes "340282366920938463463374607431768211456") ≡ refused literal_too_large 0 39
beyond = refl

two_names : tokens (codes "a/* */b") ≡ Ok (placed (kind.Name (codes "a")) 0 1 ∷ placed (kind.Name (codes "b")) 6 7 ∷ [])
two_names = refl

no_digit : tokens (codes "0x_") ≡ refused bad_character 0 3
no_digit = refl

wrong_digit : tokens (codes "0b12") ≡ refused bad_character 0 4
wrong_digit = refl

digits_then_letters : tokens (codes "12ab") ≡ refused bad_character 0 4
digits_then_letters = refl

capital : tokens (codes "0X1") ≡ refused bad_character 0 3
capital = refl

separated : tokens (codes "1_000") ≡ only_literal (codes "1_000") 5
separated = refl

longest_first : tokens (codes "::=>") ≡ Ok (placed (kind.Symbol symbol.DoubleColon) 0 2 ∷ placed (kind.Symbol symbol.FatArrow) 2 4 ∷ [])
longest_first = refl

equals : tokens (codes "= ==") ≡ Ok (placed (kind.Symbol symbol.Equals) 0 1 ∷ placed (kind.Symbol symbol.Equals) 2 3 ∷ placed (kind.Symbol symbol.Equals) 3 4 ∷ [])
equals = refl

minus : tokens (codes "-") ≡ refused bad_character 0 1
minus = refl

-- a character of three bytes, in a comment and outside
in_comment : tokens (47 ∷ 47 ∷ 226 ∷ 130 ∷ 172 ∷ 10 ∷ 97 ∷ []) ≡ Ok (placed (kind.Name (codes "a")) 6 7 ∷ [])
in_comment = refl

outside_comment : tokens (97 ∷ 226 ∷ 130 ∷ 172 ∷ []) ≡ refused bad_character 1 4
outside_comment = refl

line_at_end : tokens (codes "_ //") ≡ Ok (placed (kind.Symbol symbol.Underscore) 0 1 ∷ [])
line_at_end = refl

bases : tokens (codes "0x1F 0b_1") ≡ Ok (placed (kind.Literal (codes "0x1F")) 0 4 ∷ placed (kind.Literal (codes "0b_1")) 5 9 ∷ [])
bases = refl
