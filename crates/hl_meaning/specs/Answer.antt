-- What a part of a program gives: a value, failure, or no answer.
use Rattle.std.specs.Prelude.{List, [], ◌∷◌, Option, Some, None}

-- there is no answer where a name has no value, or where a value has another shape than the construct needs
pub data Answer (A : Type 0) : Type 0 where
  gives : A → Answer A
  fails : Answer A
  stuck : Answer A

-- what comes after a part that gives a value
abbrev pub and_then : {A B : Type 0} → Answer A → (A → Answer B) → Answer B
and_then (gives x) next = next x
and_then fails next = fails
and_then stuck next = stuck

-- what comes of a value of the shape that is needed
abbrev pub shaped : {A B : Type 0} → Option A → (A → Answer B) → Answer B
shaped (Some x) next = next x
shaped None next = stuck

-- the value where there is one
abbrev pub known : {A : Type 0} → Option A → Answer A
known (Some x) = gives x
known None = stuck

-- one part after the other
abbrev pub in_turn : {A : Type 0} → List (Answer A) → Answer (List A)
in_turn [] = gives []
in_turn (part ∷ parts) = and_then part (λ x. and_then (in_turn parts) (λ xs. gives (x ∷ xs)))
