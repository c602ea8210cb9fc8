-- The laws of typed and of checked programs.
use Rattle.std.specs.Prelude.{◌≡◌, ℕ, List, Ok}
use Rattle.hl_data.specs.declared.value.Entry.{Entry}
use Rattle.hl_data.specs.declared.value.HlValue.{HlValue}
use Rattle.hl_syntax.specs.declared.tree.Item.{Item}
use Rattle.hl_meaning.specs.Mean.{meaning}
use Rattle.hl_meaning.specs.Scopes.{Binding}
use Rattle.hl_meaning.specs.Entries.{AreValued}
use Rattle.hl_rules.specs.Programs.{Checked, checked}
use Rattle.hl_typing.specs.Programs.{ProgramTyped}
use Rattle.hl_progress.specs.Calls.{FitsCall}
use Rattle.hl_progress.specs.Held.{HasAnswer}

-- where a program is typed by the rules, each call of its functions that fits them fails or gives a value of the function's result
-- type
abbrev pub TypedAnswers : Type 0
TypedAnswers =
    (program : Checked) → ProgramTyped program → (name : List ℕ) (argument : HlValue) (witness : List Binding) (call : FitsCall program name argument witness) →
    HasAnswer call.function.result (meaning program.functions name witness argument)

-- where a source text with entries of their types breaks no rule and no limit, each call of its functions that fits them fails or
-- gives a value of the function's result type
abbrev pub CheckedAnswers : Type 0
CheckedAnswers =
    (source : List Item) (asked : List ℕ) (entries : List Entry) (edition end : ℕ) (program : Checked) →
    checked source asked entries edition end ≡ Ok program → AreValued entries →
    (name : List ℕ) (argument : HlValue) (witness : List Binding) (call : FitsCall program name argument witness) →
    HasAnswer call.function.result (meaning program.functions name witness argument)
