-- Walks whose refusals are all of one kind.
use Rattle.std.proofs.Common.{◌≡◌, Bool, true, false, List, Option, Some, None, Result, Ok, Err, refl}
use Rattle.hl_syntax.specs.declared.kinds.TypedName.{TypedName}
use Rattle.hl_syntax.specs.declared.rules.Rule.{Rule}
use Rattle.hl_syntax.specs.declared.token.Span.{Span}
use Rattle.simplicityhl.specs.Written.{Broken, breaks_rule, then_walk}
use Rattle.hl_rules.specs.Steps as steps
use Rattle.hl_rules.specs.Steps.{Step}
use Rattle.hl_rules.specs.Walks.{plain, needs, wants}

module _ (Bad : Broken → Type 0) where
  -- what is found holds of the walk, and what is refused is bad
  abbrev pub Fine : {A : Type 0} → (A → Type 0) → Result A Broken → Type 0
  Fine P (Ok x) = P x
  Fine P (Err broken) = Bad broken

  pub then_fine : {A B : Type 0} (P : A → Type 0) (Q : B → Type 0) (r : Result A Broken) (next : A → Result B Broken) → Fine P r → ((x : A) → P x → Fine Q (next x)) → Fine Q (then_walk r next)
  then_fine P Q (Ok x) next h k = k x h
  then_fine P Q (Err broken) next h k = h

  pub after_needs : {B : Type 0} (Q : B → Type 0) (holds : Bool) (rule : Rule) (span : Span) (next : Result B Broken) →
      (holds ≡ false → Bad (breaks_rule rule span)) → (holds ≡ true → Fine Q next) → Fine Q (then_walk (steps.needs holds rule span) (λ _. next))
  after_needs Q true rule span next bad h = h refl
  after_needs Q false rule span next bad h = bad refl

  pub after_wants : {A B : Type 0} (Q : B → Type 0) (found : Option A) (rule : Rule) (span : Span) (next : A → Result B Broken) →
      (found ≡ None → Bad (breaks_rule rule span)) → ((x : A) → found ≡ Some x → Fine Q (next x)) → Fine Q (then_walk (steps.wants found rule span) next)
  after_wants Q (Some x) rule span next bad h = h x refl
  after_wants Q None rule span next bad h = bad refl

  -- the same on the way through a body, where witnesses are met
  pub body_needs : {B : Type 0} (Q : B × List TypedName → Type 0) (holds : Bool) (rule : Rule) (span : Span) (met : List TypedName) (next : List TypedName → Result (B × List TypedName) Broken) →
      (holds ≡ false → Bad (breaks_rule rule span)) → (holds ≡ true → Fine Q (next met)) → Fine Q (then_walk (needs holds rule span met) (λ found. next found.1))
  body_needs Q true rule span met next bad h = h refl
  body_needs Q false rule span met next bad h = bad refl

  pub body_wants : {A B : Type 0} (Q : B × List TypedName → Type 0) (found : Option A) (rule : Rule) (span : Span) (met : List TypedName) (next : A → List TypedName → Result (B × List TypedName) Broken) →
      (found ≡ None → Bad (breaks_rule rule span)) → ((x : A) → found ≡ Some x → Fine Q (next x met)) → Fine Q (then_walk (wants found rule span met) (λ found. next found.0 found.1))
  body_wants Q (Some x) rule span met next bad h = h x refl
  body_wants Q None rule span met next bad h = bad refl

  -- a step that meets no witness
  pub body_step : {A B : Type 0} (P : A → Type 0) (Q : B × List TypedName → Type 0) (step : Step A) (met : List TypedName) (next : A → List TypedName → Result (B × List TypedName) Broken) →
      Fine P step → ((x : A) → step ≡ Ok x → P x → Fine Q (next x met)) → Fine Q (then_walk (plain step met) (λ found. next found.0 found.1))
  body_step P Q (Ok x) met next h k = k x refl h
  body_step P Q (Err broken) met next h k = h

  -- what is found, with that it is found
  pub fine_is : {A : Type 0} (P : A → Type 0) (r : Result A Broken) → Fine P r → Fine (λ x. (r ≡ Ok x) × P x) r
  fine_is P (Ok x) h = (refl, h)
  fine_is P (Err broken) h = h
