-- What steps that are left make of the values that are shrunk.
use Rattle.std.specs.Prelude.{◌≡◌, ℕ, ◌+◌, ◌*◌, ◌<◌, List, [], ◌∷◌, reverse, map, Option, Some, None}
use Rattle.simplicity.specs.Types.{Kind, One, Sum, Product, Value, UnitValue, Inl, Inr, Pair}
use Rattle.core_data.specs.Data.{kind_of, value_of}
use Rattle.core_data.specs.Loads.{load}
use Rattle.core_data.specs.declared.data.CoreValue.{CoreValue}
use Rattle.core_data.specs.declared.shrunk.Step.{Step}
use Rattle.core_data.specs.declared.shrunk.Step.TheVariants as step

-- a part in a tag, and two parts in a pair, where they are there
abbrev pub tagged : (Value → Value) → Option Value → Option Value
tagged tag (Some v) = Some (tag v)
tagged tag None = None

abbrev pub joined : Option Value → Option Value → Option Value
joined (Some a) (Some b) = Some (Pair a b)
joined _ _ = None

-- the value with those parts cut that the type has as the unit type; none where the type has another form
abbrev pub cut : Value → Kind → Option Value
cut v One = Some UnitValue
cut (Inl a) (Sum s t) = tagged Inl (cut a s)
cut (Inr b) (Sum s t) = tagged Inr (cut b t)
cut (Pair a b) (Product s t) = joined (cut a s) (cut b t)
cut _ _ = None

-- values, the last one first
abbrev pub stack_of : List CoreValue → List Value
stack_of values = reverse (map value_of values)

-- a value before others, where it is there
abbrev pub before : Option Value → List Value → Option (List Value)
before (Some v) stack = Some (v ∷ stack)
before None stack = None

-- what a step makes of a stack; none where it can't be taken
abbrev pub after_step : Step → Option (List Value) → Option (List Value)
after_step (step.Shrink v k) (Some stack) = before (cut (value_of v.now) (kind_of k.now)) stack
after_step step.TagLeft (Some (v ∷ stack)) = Some (Inl v ∷ stack)
after_step step.TagRight (Some (v ∷ stack)) = Some (Inr v ∷ stack)
after_step step.JoinPair (Some (second ∷ first ∷ stack)) = Some (Pair first second ∷ stack)
after_step _ _ = None

-- what steps make of a stack, the last one first
abbrev pub after_steps : List Step → Option (List Value) → Option (List Value)
after_steps [] stack = stack
after_steps (first ∷ steps) stack = after_step first (after_steps steps stack)

-- how many turns a step is worth at most, and steps are
abbrev pub step_turns : Step → ℕ
step_turns (step.Shrink v k) = 2 * load (value_of v.now)
step_turns _ = 1

abbrev pub turns : List Step → ℕ
turns [] = 0
turns (first ∷ steps) = step_turns first + turns steps

-- a step that is worth so many turns was taken: the steps that are left make of the stack what those before make of what the step gives
pub record Goes (old new : List Step) (given : Option (List Value)) (stack : List Value) (worth : ℕ) : Type 0 where
  pub after : after_steps new (Some stack) ≡ after_steps old given
  pub less : turns new < worth + turns old
