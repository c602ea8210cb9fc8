-- The law of the witnesses of a program and the names that its functions hold.
use Rattle.std.specs.Prelude.{◌≡◌, ℕ, false, List, [], map, bytes_eq, find, Some, Ok, IsTrue}
use Rattle.std.specs.List.Sorted.{IsPermutation}
use Rattle.hl_data.specs.declared.typed.TypedFunction.{TypedFunction}
use Rattle.hl_data.specs.declared.value.Entry.{Entry}
use Rattle.hl_syntax.specs.declared.tree.Item.{Item}
use Rattle.hl_meaning.specs.Entries.{AreValued}
use Rattle.hl_rules.specs.Declared.{has_function}
use Rattle.hl_rules.specs.Names.{main_name}
use Rattle.hl_rules.specs.Places.{is_main}
use Rattle.hl_rules.specs.Programs.{Checked, checked}
use Rattle.hl_rules.specs.Witnesses.{Names}
use Rattle.hl_typing.specs.Names.{witness_names}
use Rattle.hl_typing.specs.Patterns.{Once}

-- the names of a program's witnesses
abbrev pub listed : Checked → Names
listed program = map (λ w. w.name) program.witnesses

-- what a function holds of a program's witnesses: `main` all of them, in edition 2 in their order; another function none
pub record Holds (program : Checked) (f : TypedFunction) : Type 0 where
  pub all : IsTrue (is_main f.name) → IsPermutation (witness_names program.edition f) (listed program)
  pub in_order : IsTrue (is_main f.name) → program.edition ≡ 2 → witness_names program.edition f ≡ listed program
  pub none : is_main f.name ≡ false → witness_names program.edition f ≡ []

-- the witnesses of a program are those that its `main` holds, each once; without `main` there are none
pub record AreHeld (program : Checked) : Type 0 where
  pub once : Once program.witnesses
  pub held : (name : List ℕ) (f : TypedFunction) → find (λ g. bytes_eq name g.name) program.functions ≡ Some f →
      Holds program f
  pub no_main : has_function program.functions main_name ≡ false → program.witnesses ≡ []

-- so it is where the walk answers a program
abbrev pub AnsweredIsHeld : Type 0
AnsweredIsHeld =
    (source : List Item) (asked : List ℕ) (entries : List Entry) (edition end : ℕ) (program : Checked) →
    AreValued entries → checked source asked entries edition end ≡ Ok program → AreHeld program
