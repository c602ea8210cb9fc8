-- The walk over bodies: it meets witnesses, and ends at the first rule or limit that is broken.
use Rattle.std.specs.Prelude.{Bool, List, Option, Result, Ok, Err}
use Rattle.hl_syntax.specs.declared.kinds.TypedName.{TypedName}
use Rattle.hl_syntax.specs.declared.rules.Rule.{Rule}
use Rattle.hl_syntax.specs.declared.token.Span.{Span}
use Rattle.simplicityhl.specs.Written.{Broken, breaks_rule, then_walk}
use Rattle.hl_rules.specs.Steps as steps
use Rattle.hl_rules.specs.Steps.{Step}

-- what a part gives and the witnesses that were met up to its end, given those that were met before it, in the text's order
abbrev pub Walk : Type 0 → Type 0
Walk A = List TypedName → Result (A × List TypedName) Broken

infixl 10 ◌>>=◌
abbrev pub ◌>>=◌ : {A B : Type 0} → Walk A → (A → Walk B) → Walk B
p >>= q = λ met. then_walk (p met) (λ found. q found.0 found.1)

infixl 10 ◌>>◌
abbrev pub ◌>>◌ : {A B : Type 0} → Walk A → Walk B → Walk B
p >> q = λ met. then_walk (p met) (λ found. q found.1)

abbrev pub done : {A : Type 0} → A → Walk A
done x = λ met. Ok (x, met)

-- a part that meets no witness
abbrev pub plain : {A : Type 0} → Step A → Walk A
plain step = λ met. then_walk step (λ x. Ok (x, met))

abbrev pub needs : Bool → Rule → Span → Walk (Unit {0})
needs holds rule span = plain (steps.needs holds rule span)

abbrev pub wants : {A : Type 0} → Option A → Rule → Span → Walk A
wants found rule span = plain (steps.wants found rule span)

abbrev pub refuse : {A : Type 0} → Rule → Span → Walk A
refuse rule span = λ met. Err (breaks_rule rule span)
