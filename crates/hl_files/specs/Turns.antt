-- Items that are read one after the other, where the first that is refused decides.
use Rattle.std.specs.Prelude.{◌≡◌, List, [], ◌∷◌, Option, Some, None, Result, Ok, Err}

-- what an item gives, if it gives anything, before what those after it give
abbrev pub before : {B E : Type 0} → Option B → Result (List B) E → Result (List B) E
before found (Err e) = Err e
before None (Ok xs) = Ok xs
before (Some x) (Ok xs) = Ok (x ∷ xs)

-- what comes of an item's answer, given the answers of those after it
abbrev pub Then : {B E : Type 0} → (Result (List B) E → Type 0) → Result (Option B) E → Result (List B) E → Type 0
Then {B} {E} Rest (Ok found) result = (rest : Result (List B) E) × Rest rest × (result ≡ before found rest)
Then Rest (Err e) result = result ≡ Err e

-- what comes of the items, given what each of them gives
abbrev pub InTurn : {A B E : Type 0} → (A → Result (Option B) E → Type 0) → List A → Result (List B) E → Type 0
InTurn Gives [] result = result ≡ Ok []
InTurn {A} {B} {E} Gives (x ∷ xs) result = (first : Result (Option B) E) × Gives x first × Then (InTurn Gives xs) first result

-- each item gives one thing
abbrev pub Always : {A B E : Type 0} → (A → Result B E → Type 0) → A → Result (Option B) E → Type 0
Always Gives x (Ok None) = ⊥
Always Gives x (Ok (Some y)) = Gives x (Ok y)
Always Gives x (Err e) = Gives x (Err e)
