-- What the checker knows at a function's body.
use Rattle.std.specs.Prelude.{◌≡◌, ℕ, Bool, List, ◌++◌, length, IsTrue, map, refl}
use Rattle.std.specs.Coded.{Coded, code_by, coded×, coded_list, coded_bool, coded_ℕ}
use Rattle.std.specs.List.{All}
use Rattle.hl_syntax.specs.contracts.kinds.TypedName as names
use Rattle.hl_data.specs.contracts.typed.TypedFunction as typed
use Rattle.hl_data.specs.contracts.value.Entry as entry
use Rattle.hl_syntax.specs.declared.kinds.TypedName.{TypedName}
use Rattle.hl_data.specs.declared.value.Entry.{Entry}
use Rattle.hl_data.specs.declared.typed.TypedFunction.{TypedFunction}
use Rattle.hl_data.specs.declared.typed.TypedSide.{TypedSide}
use Rattle.hl_data.specs.declared.typed.TypedSide.TheVariants as sides
use Rattle.hl_syntax.specs.declared.kinds.HlType.{HlType}
use Rattle.hl_types.specs.Walks.{AreSound}
use Rattle.jets.specs.Jet as jets
use Rattle.jets.specs.Jet.{Row, row_name}
use Rattle.jet_table.specs.Names.{is_rising}
use Rattle.simplicityhl.specs.Kinds.{IsSound}
use Rattle.hl_syntax.specs.declared.rules.Rule.TheVariants.{K3, K14, K18}
use Rattle.hl_syntax.specs.declared.token.Mark.{Mark}
use Rattle.hl_rules.specs.Exprs.{fold_shape, param_types, while_shape}
use Rattle.hl_rules.specs.Places.{Context, entry_named, function_named, is_main}
use Rattle.hl_rules.specs.Steps.{Step, wants}

-- types with sound widths, counts and bounds
abbrev pub AreSoundTypes : List HlType → Type 0
AreSoundTypes kinds = All IsSound kinds

-- the types of a function's parameters and of its result have sound widths, counts and bounds
pub record IsSoundFunction (f : TypedFunction) : Type 0 where
  pub params : AreSound f.params
  pub result : IsSound f.result

-- all jets, in the order of their names
pub record AreJets (rows : List Row) : Type 0 where
  pub all : rows ≡ jets.rows
  pub rising : IsTrue (is_rising (map row_name rows))

-- the type that a side binds is sound
abbrev pub IsSoundSide : TypedSide → Type 0
IsSoundSide (sides.Left pattern kind) = IsSound kind
IsSoundSide (sides.Right pattern kind) = IsSound kind
IsSoundSide (sides.Some pattern kind) = IsSound kind
IsSoundSide sides.Nothing = Unit {0}
IsSoundSide sides.True = Unit {0}
IsSoundSide sides.False = Unit {0}

-- what is known at the body of a function of a name, in a program of an edition
abbrev pub context_of : List TypedName → List TypedFunction → List Entry → ℕ → List ℕ → Context
context_of aliases functions entries edition name =
    record { aliases = aliases; functions = functions; entries = entries; in_main = is_main name; edition = edition }

-- the function before and the entry of a name, or the rule that is broken without it
abbrev pub function_for : Context → Mark → Step TypedFunction
function_for c name = wants (function_named c.functions name.text) K3 name.span

abbrev pub entry_for : Context → Mark → Step Entry
entry_for c name = wants (entry_named c.entries name.text) K18 name.span

-- the types of what goes through a loop by the function that it calls, or the rule that is broken
abbrev pub fold_types : TypedFunction → Mark → Step (HlType × HlType)
fold_types f name = wants (fold_shape (param_types f) f.result) K14 name.span

abbrev pub while_types : TypedFunction → Mark → Step (HlType × HlType)
while_types f name = wants (while_shape (param_types f) f.result) K14 name.span

-- of a scope the outermost variables are left, so many
abbrev pub OutermostLeft : List TypedName → ℕ → List TypedName → Type 0
OutermostLeft old outer new = (inner outermost : List TypedName) → old ≡ inner ++ outermost → length outermost ≡ outer → new ≡ outermost

-- a context is told from others by its parts
abbrev pub coded_context : Coded Context
coded_context =
    code_by ((List TypedName × List TypedFunction) × (List Entry × (Bool × ℕ)))
    (coded× (coded× (coded_list names.the_row.coded) (coded_list typed.the_row.coded)) (coded× (coded_list entry.the_row.coded) (coded× coded_bool coded_ℕ)))
    (λ c. ((c.aliases, c.functions), (c.entries, (c.in_main, c.edition))))
    (λ p. record { aliases = p.0.0; functions = p.0.1; entries = p.1.0; in_main = p.1.1.0; edition = p.1.1.1 }) (λ _. refl)
