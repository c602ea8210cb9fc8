-- The parser's answers.
use Rattle.std.specs.Prelude.{◌≡◌, ℕ, List, Result, Ok, Err}
use Rattle.hl_syntax.specs.declared.token.Token.{Token}
use Rattle.hl_parse.specs.declared.parser.ParseRefusal.{ParseRefusal}
use Rattle.hl_parse.specs.declared.parser.ParseRefusal.TheVariants.{Syntax, TooDeep, OutOfMemory}
use Rattle.hl_cursor.specs.declared.refused.Refused.{Refused}
use Rattle.hl_cursor.specs.declared.refused.Refused.TheVariants as refused
use Rattle.simplicityhl.specs.Viable.{place}
use Rattle.hl_grammar.specs.Readers.{Outcome, got, dead, too_deep}

-- an answer is what reading gives, a refusal with the bytes at which it stopped, or memory was short
abbrev pub AnswersTree : {A : Type 0} → Outcome A → ℕ → Result A ParseRefusal → Type 0
AnswersTree outcome end (Ok tree) = (rest : List Token) × (outcome ≡ got tree rest)
AnswersTree outcome end (Err (Syntax at)) = (rest : List Token) × (outcome ≡ dead rest) × (at ≡ place rest end)
AnswersTree outcome end (Err (TooDeep at)) = (rest : List Token) × (outcome ≡ too_deep rest) × (at ≡ place rest end)
AnswersTree outcome end (Err OutOfMemory) = Unit {0}

-- an answer is this tree, or memory was short
abbrev pub Finds : {A : Type 0} → A → Result A ParseRefusal → Type 0
Finds tree (Ok found) = found ≡ tree
Finds tree (Err (Syntax at)) = ⊥
Finds tree (Err (TooDeep at)) = ⊥
Finds tree (Err OutOfMemory) = Unit {0}

-- a refusal of the parser is one of reading, at the first of these tokens
abbrev pub IsRefusalFor : Refused → List Token → ℕ → ParseRefusal → Type 0
IsRefusalFor refused.Syntax rest end refusal = refusal ≡ Syntax (place rest end)
IsRefusalFor refused.TooDeep rest end refusal = refusal ≡ TooDeep (place rest end)
IsRefusalFor refused.OutOfMemory rest end refusal = refusal ≡ OutOfMemory
