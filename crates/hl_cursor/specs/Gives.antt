-- What a function that reads answers.
use Rattle.std.specs.Prelude.{◌≡◌, Bool, true, false, List, Result, Ok, Err}
use Rattle.hl_syntax.specs.declared.token.Token.{Token}
use Rattle.hl_cursor.specs.declared.refused.Refused.{Refused}
use Rattle.hl_cursor.specs.declared.refused.Refused.TheVariants.{Syntax, TooDeep, OutOfMemory}
use Rattle.hl_cursor.specs.declared.listed.Listed as code
use Rattle.hl_cursor.specs.declared.turn.Turn.{Turn}
use Rattle.hl_cursor.specs.declared.turn.Turn.TheVariants.{More, Last}
use Rattle.simplicityhl.specs.Grammar.{Listed, alone_or}
use Rattle.hl_grammar.specs.Readers.{Outcome, Reader, got, dead, too_deep}

-- what was answered, seen by a view, is what reading gives, with these tokens left, unless memory was short
abbrev pub Gives : {X A : Type 0} → (X → A) → Outcome A → Result X Refused → List Token → Type 0
Gives view outcome (Ok x) rest = outcome ≡ got (view x) rest
Gives view outcome (Err Syntax) rest = outcome ≡ dead rest
Gives view outcome (Err TooDeep) rest = outcome ≡ too_deep rest
Gives view outcome (Err OutOfMemory) rest = Unit {0}

abbrev pub Reads : {A : Type 0} → Outcome A → Result A Refused → List Token → Type 0
Reads outcome result rest = Gives (λ a. a) outcome result rest

-- what stood ahead was taken, or nothing was
abbrev pub Takes : {A : Type 0} → Bool → A → Outcome A → Bool → List Token → List Token → Type 0
Takes ahead a outcome true old new = (ahead ≡ true) × (outcome ≡ got a new)
Takes ahead a outcome false old new = (ahead ≡ false) × (new ≡ old)

abbrev pub listed_of : {A : Type 0} → code.Listed A → Listed A
listed_of l = record { items = l.items; is_open = l.is_open }

-- the one item that stands for itself, or the items of a tuple
abbrev pub IsAlone : {A : Type 0} → List A → Bool → Result A (List A) → Type 0
IsAlone {A} xs is_open (Ok a) = (tuple : List A → A) → alone_or tuple xs is_open ≡ a
IsAlone {A} xs is_open (Err ys) = (tuple : List A → A) → alone_or tuple xs is_open ≡ tuple ys

-- a turn of a repetition found this, and what was read is the whole, or more is to be read
abbrev pub Turned : {X A V : Type 0} → (X → Reader A) → (V → A) → Outcome A → X → Result (Turn V) Refused → List Token → Type 0
Turned more view outcome found (Ok More) rest = outcome ≡ more found rest
Turned more view outcome found (Ok (Last last)) rest = outcome ≡ got (view last) rest
Turned more view outcome found (Err Syntax) rest = outcome ≡ dead rest
Turned more view outcome found (Err TooDeep) rest = outcome ≡ too_deep rest
Turned more view outcome found (Err OutOfMemory) rest = Unit {0}
