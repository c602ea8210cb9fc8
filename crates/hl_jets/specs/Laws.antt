-- The law of the jets.
use Rattle.std.specs.Prelude.{◌≡◌, ℕ, List, Some}
use Rattle.jets.specs.Jet.{Row}
use Rattle.hl_data.specs.declared.value.HlValue.{HlValue}
use Rattle.hl_meaning.specs.Jets.{jet_answer}
use Rattle.hl_rules.specs.Exprs.{jet_named, jet_arguments, jet_result}
use Rattle.hl_jets.specs.Held.{AreValuesOf, HasAnswer}

-- every jet, on arguments of its types, gives a value of its result type or fails
abbrev pub JetsAnswer : Type 0
JetsAnswer = (name : List ℕ) (row : Row) → jet_named name ≡ Some row → (values : List HlValue) → AreValuesOf values (jet_arguments row)
    → HasAnswer (jet_result row) (jet_answer name values)
