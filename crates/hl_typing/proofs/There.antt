-- Walks that answer: what their parts answered.
use Rattle.std.proofs.Common.{◌≡◌, Bool, true, false, List, Option, Some, None, option_map, Result, Ok, Err, refl, sym, ap, ◌∙◌}
use Rattle.hl_syntax.specs.declared.kinds.TypedName.{TypedName}
use Rattle.hl_syntax.specs.declared.rules.Rule.{Rule}
use Rattle.hl_syntax.specs.declared.token.Span.{Span}
use Rattle.simplicityhl.specs.Written.{Broken, then_walk}
use Rattle.hl_rules.specs.Steps.{Step}
use Rattle.hl_rules.specs.Walks.{plain, needs, wants}

-- what is wanted is there
pub wants_there : {A B : Type 0} (o : Option A) (rule : Rule) (span : Span) (met : List TypedName) (next : A → List TypedName → Result (B × List TypedName) Broken) (y : B × List TypedName) →
    then_walk (wants o rule span met) (λ found. next found.0 found.1) ≡ Ok y → (x : A) × (o ≡ Some x) × (next x met ≡ Ok y)
wants_there (Some x) rule span met next y h = (x, refl, h)
wants_there None rule span met next y h = absurd (cc)

some_one : {A : Type 0} (x y : A) → Some x ≡ Some y → x ≡ y
some_one x y h = cc

-- the same where it is known
pub wants_is : {A B : Type 0} (o : Option A) (x : A) (rule : Rule) (span : Span) (met : List TypedName) (next : A → List TypedName → Result (B × List TypedName) Broken) (y : B × List TypedName) →
    o ≡ Some x → then_walk (wants o rule span met) (λ found. next found.0 found.1) ≡ Ok y → next x met ≡ Ok y
wants_is (Some z) x rule span met next y is h = ap (λ w. next w met) (sym (some_one z x is)) ∙ h
wants_is None x rule span met next y is h = absurd (cc)

pub needs_there : {B : Type 0} (b : Bool) (rule : Rule) (span : Span) (met : List TypedName) (next : List TypedName → Result (B × List TypedName) Broken) (y : B × List TypedName) →
    then_walk (needs b rule span met) (λ found. next found.1) ≡ Ok y → (b ≡ true) × (next met ≡ Ok y)
needs_there true rule span met next y h = (refl, h)
needs_there false rule span met next y h = absurd (cc)

pub step_there : {A B : Type 0} (step : Step A) (met : List TypedName) (next : A → List TypedName → Result (B × List TypedName) Broken) (y : B × List TypedName) →
    then_walk (plain step met) (λ found. next found.0 found.1) ≡ Ok y → (x : A) × (step ≡ Ok x) × (next x met ≡ Ok y)
step_there (Ok x) met next y h = (x, refl, h)
step_there (Err broken) met next y h = absurd (cc)

ok_one : {A : Type 0} (x y : A) → ◌≡◌ {A = Result A Broken} (Ok x) (Ok y) → x ≡ y
ok_one x y h = cc

pub step_is : {A B : Type 0} (step : Step A) (x : A) (met : List TypedName) (next : A → List TypedName → Result (B × List TypedName) Broken) (y : B × List TypedName) →
    step ≡ Ok x → then_walk (plain step met) (λ found. next found.0 found.1) ≡ Ok y → next x met ≡ Ok y
step_is (Ok z) x met next y is h = ap (λ w. next w met) (sym (ok_one z x is)) ∙ h
step_is (Err broken) x met next y is h = absurd (cc)

pub mapped : {A B : Type 0} (f : A → B) (o : Option A) (b : B) → option_map f o ≡ Some b → (a : A) × (o ≡ Some a) × (f a ≡ b)
mapped f (Some a) b h = (a, refl, some_one (f a) b h)
mapped f None b h = absurd (cc)

pub mapped_none : {A B : Type 0} (f : A → B) (o : Option A) → option_map f o ≡ None → o ≡ None
mapped_none f (Some a) h = absurd (cc)
mapped_none f None h = refl

-- what can't be
pub none_some : {A : Type 0} (o : Option A) (x : A) → o ≡ None → o ≡ Some x → ⊥
none_some (Some y) x h k = absurd (cc)
none_some None x h k = absurd (cc)

pub true_false : (b : Bool) → b ≡ true → b ≡ false → ⊥
true_false true h k = absurd (cc)
true_false false h k = absurd (cc)
