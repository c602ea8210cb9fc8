-- How the tokens of a text cover it.
use Rattle.std.specs.Prelude.{◌≡◌, ℕ, ◌+◌, ◌<◌, ◌≤◌, true, List, [], ◌∷◌, ◌++◌, length, codes, None}
use Rattle.std.specs.List.{list_all}
use Rattle.hl_syntax.specs.declared.token.Token.{Token}
use Rattle.hl_syntax.specs.declared.token.TokenKind.{TokenKind}
use Rattle.hl_syntax.specs.declared.token.TokenKind.TheVariants as kind
use Rattle.simplicityhl.specs.Tokens.{is_white_space, is_no_line_feed, closer_end, symbol_text}

-- how a token is written
abbrev pub token_text : TokenKind → List ℕ
token_text (kind.Name word) = word
token_text (kind.Literal word) = word
token_text (kind.Symbol s) = symbol_text s

-- a line ends before this text: it is empty or begins with a line feed
abbrev pub IsAtLineEnd : List ℕ → Type 0
IsAtLineEnd [] = Unit {0}
IsAtLineEnd (c ∷ z) = c ≡ 10

-- a text is white space and comments, each comment as long as it goes, and then another text
pub data Skips : List ℕ → List ℕ → Type 0 where
  nothing : (rest : List ℕ) → Skips rest rest
  white_space : (c : ℕ) (z rest : List ℕ) → is_white_space c ≡ true → Skips z rest → Skips (c ∷ z) rest
  line_comment : (text body z rest : List ℕ) → text ≡ codes "//" ++ (body ++ z) → list_all is_no_line_feed body ≡ true → IsAtLineEnd z → Skips z rest → Skips text rest
  block_comment : (text body z rest : List ℕ) → text ≡ codes "/*" ++ (body ++ (codes "*/" ++ z)) → closer_end (body ++ codes "*") ≡ None → Skips z rest → Skips text rest

-- a text that begins at a place is these tokens at their spans, and white space and comments around them
pub data Covers : (at : ℕ) → List ℕ → List Token → Type 0 where
  last : (at : ℕ) (text : List ℕ) → Skips text [] → Covers at text []
  next : (at : ℕ) (text rest more : List ℕ) (t : Token) (ts : List Token) → Skips text rest → rest ≡ token_text t.kind ++ more → 0 < length (token_text t.kind) → t.span.start + length rest ≡ at + length text → t.span.end ≡ t.span.start + length (token_text t.kind) → Covers t.span.end more ts → Covers at text (t ∷ ts)

-- the spans of these tokens lie one behind the other from one place up to another, none empty
abbrev pub AreApart : (from : ℕ) → List Token → (to : ℕ) → Type 0
AreApart from [] to = from ≤ to
AreApart from (t ∷ ts) to = (from ≤ t.span.start) × (t.span.start < t.span.end) × AreApart t.span.end ts to
