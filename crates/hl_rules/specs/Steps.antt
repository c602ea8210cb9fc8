-- Parts of the walk that meet no witness: what they give, or the rule or limit that is broken first.
use Rattle.std.specs.Prelude.{Bool, Option, Some, None, Result, Ok, Err, if◌then◌else◌}
use Rattle.hl_syntax.specs.declared.rules.Rule.{Rule}
use Rattle.hl_syntax.specs.declared.token.Span.{Span}
use Rattle.simplicityhl.specs.Written.{Broken, breaks_rule, then_walk}

abbrev pub Step : Type 0 → Type 0
Step A = Result A Broken

infixl 10 ◌>>=◌
abbrev pub ◌>>=◌ : {A B : Type 0} → Step A → (A → Step B) → Step B
p >>= q = then_walk p q

infixl 10 ◌>>◌
abbrev pub ◌>>◌ : {A B : Type 0} → Step A → Step B → Step B
p >> q = then_walk p (λ _. q)

-- the rule is broken at the span unless this holds
abbrev pub needs : Bool → Rule → Span → Step (Unit {0})
needs holds rule span = if holds then Ok tt else Err (breaks_rule rule span)

-- the rule is broken at the span unless there is such a thing
abbrev pub wants : {A : Type 0} → Option A → Rule → Span → Step A
wants (Some x) rule span = Ok x
wants None rule span = Err (breaks_rule rule span)
