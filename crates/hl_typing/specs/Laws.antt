-- The laws of typed programs.
use Rattle.std.specs.Prelude.{◌≡◌, ℕ, List, [], map, flat_map, Ok}
use Rattle.hl_data.specs.declared.value.Entry.{Entry}
use Rattle.hl_syntax.specs.declared.tree.Item.{Item}
use Rattle.simplicityhl.specs.Written.{Broken}
use Rattle.hl_rules.specs.Breaks.{Breaks}
use Rattle.hl_meaning.specs.Entries.{AreValued}
use Rattle.hl_rules.specs.Programs.{Checked, checked}
use Rattle.hl_rules.specs.Witnesses.{item_names, listed_names}
use Rattle.hl_typing.specs.Programs.{ProgramTyped, ItemsErased}

-- a source text that breaks no rule and no limit, with entries of their types, is typed
abbrev pub AnsweredIsTyped : Type 0
AnsweredIsTyped =
    (source : List Item) (asked : List ℕ) (entries : List Entry) (edition end : ℕ) (program : Checked) → AreValued entries →
    checked source asked entries edition end ≡ Ok program → ProgramTyped program

-- and its functions are those of the source text
abbrev pub AnsweredIsErased : Type 0
AnsweredIsErased =
    (source : List Item) (asked : List ℕ) (entries : List Entry) (edition end : ℕ) (program : Checked) → AreValued entries →
    checked source asked entries edition end ≡ Ok program → ItemsErased entries [] program.functions source

-- where the walk answers a program, no rule and no limit is broken at any place of the text
abbrev pub AnsweredIsUnbroken : Type 0
AnsweredIsUnbroken =
    (source : List Item) (asked : List ℕ) (entries : List Entry) (edition end : ℕ) (program : Checked) →
    checked source asked entries edition end ≡ Ok program → (broken : Broken) → Breaks source asked entries edition end broken → ⊥

-- the witnesses of a program that the walk answers are those that its text names, in the text's order, in edition 2 each where it
-- stands first
abbrev pub AnsweredNamesWitnesses : Type 0
AnsweredNamesWitnesses =
    (source : List Item) (asked : List ℕ) (entries : List Entry) (edition end : ℕ) (program : Checked) →
    checked source asked entries edition end ≡ Ok program → map (λ w. w.name) program.witnesses ≡ listed_names edition (flat_map item_names source)
