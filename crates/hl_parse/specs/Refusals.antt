-- What the parser's answers say of the tokens.
use Rattle.std.specs.Prelude.{◌≡◌, ℕ, List, Result, Ok, Err}
use Rattle.hl_syntax.specs.declared.token.Token.{Token}
use Rattle.hl_parse.specs.declared.parser.ParseRefusal.{ParseRefusal}
use Rattle.hl_parse.specs.declared.parser.ParseRefusal.TheVariants.{Syntax, TooDeep, OutOfMemory}
use Rattle.simplicityhl.specs.Parts.{Part}
use Rattle.simplicityhl.specs.Viable.{IsShallow, IsSyntaxError, IsFirstDeep}

-- a tree comes where nothing is nested too deep, and each refusal at the place where the grammar has it, in a text that ends there
abbrev pub IsCause : {A : Type 0} → (ℕ → Part A) → List Token → ℕ → Result A ParseRefusal → Type 0
IsCause part ts end (Ok tree) = IsShallow part ts
IsCause part ts end (Err (Syntax at)) = IsSyntaxError part ts end at
IsCause part ts end (Err (TooDeep at)) = IsFirstDeep part ts at
IsCause part ts end (Err OutOfMemory) = Unit {0}

-- an answer is this refusal, or memory was short
abbrev pub Refuses : {A : Type 0} → ParseRefusal → Result A ParseRefusal → Type 0
Refuses refusal (Ok tree) = ⊥
Refuses refusal (Err (Syntax at)) = refusal ≡ Syntax at
Refuses refusal (Err (TooDeep at)) = refusal ≡ TooDeep at
Refuses refusal (Err OutOfMemory) = Unit {0}
