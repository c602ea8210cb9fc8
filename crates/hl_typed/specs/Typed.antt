-- Typed programs, which break no rule and no limit.
use Rattle.std.specs.Prelude.{◌≡◌, ℕ, ◌||◌, nat_eq, IsTrue, List, Ok, refl}
use Rattle.std.specs.Coded.{Coded, code_by, coded×, coded_list, coded_ℕ}
use Rattle.hl_syntax.specs.contracts.kinds.TypedName as names
use Rattle.hl_data.specs.contracts.typed.TypedFunction as typed
use Rattle.hl_syntax.specs.declared.kinds.TypedName.{TypedName}
use Rattle.hl_syntax.specs.declared.tree.Item.{Item}
use Rattle.hl_data.specs.declared.typed.TypedFunction.{TypedFunction}
use Rattle.hl_data.specs.declared.value.Entry.{Entry}
use Rattle.hl_meaning.specs.Entries.{AreValued}
use Rattle.hl_rules.specs.Programs.{Checked, checked}

-- the editions of the language are 1 and 2
abbrev pub IsEdition : ℕ → Type 0
IsEdition edition = IsTrue (nat_eq edition 1 || nat_eq edition 2)

-- it is what some source text of its edition is, of which some function is asked for, with some entries whose values are of their
-- types: no rule and no limit is broken there
pub record BreaksNothing (found : Checked) : Type 0 where
  pub program : List Item
  pub asked : List ℕ
  pub entries : List Entry
  pub end : ℕ
  pub is : checked program asked entries found.edition end ≡ Ok found
  pub valued : AreValued entries

-- a typed program is told from others by its parts
abbrev pub coded_checked : Coded Checked
coded_checked =
    code_by (List TypedFunction × (List TypedName × ℕ)) (coded× (coded_list typed.the_row.coded) (coded× (coded_list names.the_row.coded) coded_ℕ))
    (λ found. (found.functions, (found.witnesses, found.edition))) (λ p. record { functions = p.0; witnesses = p.1.0; edition = p.1.1 }) (λ _. refl)
