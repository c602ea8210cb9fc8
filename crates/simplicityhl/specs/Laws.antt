-- Laws of the source language that every layer may cite.
use Rattle.std.specs.Prelude.{◌≡◌, ℕ, List, length, Ok}
use Rattle.hl_syntax.specs.declared.token.Token.{Token}
use Rattle.simplicityhl.specs.Tokens.{tokens}
use Rattle.simplicityhl.specs.Cover.{Covers, AreApart}

-- the tokens of a text cover it
abbrev pub TokensCover : Type 0
TokensCover = (text : List ℕ) (ts : List Token) → tokens text ≡ Ok ts → Covers 0 text ts

-- the spans of a text's tokens rise, are disjoint and lie in the text
abbrev pub SpansRise : Type 0
SpansRise = (text : List ℕ) (ts : List Token) → tokens text ≡ Ok ts → AreApart 0 ts (length text)
