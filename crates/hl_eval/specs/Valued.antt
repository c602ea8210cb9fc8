-- The results of a jet as values.
use Rattle.std.specs.Prelude.{◌≡◌, nat_eq, not, List, [], ◌∷◌, Option, None}
use Rattle.hl_data.specs.declared.value.HlValue.{HlValue}
use Rattle.hl_data.specs.declared.value.HlValue.TheVariants as value
use Rattle.jets.specs.Jet.{Kind, Truth, Number}
use Rattle.jets.specs.Unsigned.{Unsigned}
use Rattle.hl_eval.specs.declared.fault.EvalFault.{EvalFault}
use Rattle.hl_eval.specs.declared.fault.EvalFault.TheVariants as fault

-- a word of a type as a value
abbrev pub valued_at : Kind → Unsigned → HlValue
valued_at Truth u = value.Bool (not (nat_eq u.number 0))
valued_at (Number width) u = value.Number u

abbrev pub valued : List Kind → List Unsigned → List HlValue
valued (k ∷ ks) (u ∷ us) = valued_at k u ∷ valued ks us
valued _ _ = []

-- a jet that gives no results fails
abbrev pub IsFailing : Option (List Unsigned) → EvalFault → Type 0
IsFailing results fault.Failed = results ≡ None
IsFailing results fault.NoAnswer = ⊥
IsFailing results fault.OutOfMemory = Unit {0}
