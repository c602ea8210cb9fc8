-- The names of the witnesses in a tree, in the text's order, and the list of them that a program has.
use Rattle.std.specs.Prelude.{ℕ, List, [], ◌∷◌, ◌++◌, flat_map, Option, Some, None, nat_eq, if◌then◌else◌}
use Rattle.hl_syntax.specs.declared.kinds.TypedName.{TypedName}
use Rattle.simplicityhl.specs.Grammar.{is_among}
use Rattle.hl_rules.specs.Places.{has_name}
use Rattle.hl_syntax.specs.declared.tree.Expr.{Expr}
use Rattle.hl_syntax.specs.declared.tree.Item.{Item}
use Rattle.hl_syntax.specs.declared.tree.Item.TheVariants as items
use Rattle.hl_syntax.specs.declared.tree.ExprForm.{ExprForm}
use Rattle.hl_syntax.specs.declared.tree.Statement.{Statement}
use Rattle.hl_syntax.specs.declared.tree.Arm.{Arm}
use Rattle.hl_syntax.specs.declared.tree.ExprForm.TheOpen.{ExprForm-F, Statement-F}
use Rattle.hl_syntax.specs.declared.tree.ExprForm.TheFolds.{fold-Expr, fold-ExprForm, fold-Statement, fold-Arm}

abbrev pub Names : Type 0
Names = List (List ℕ)

abbrev pub joined : List Names → Names
joined parts = flat_map (λ names. names) parts

abbrev pub if_any : Option Names → Names
if_any None = []
if_any (Some names) = names

abbrev pub names_step : ExprForm-F Names Names Names Names → Names
names_step (ExprForm-F.Witness name) = name.text ∷ []
names_step (ExprForm-F.Block statements last) = joined statements ++ if_any last
names_step (ExprForm-F.Match e arms) = e ++ joined arms
names_step (ExprForm-F.Tuple parts) = joined parts
names_step (ExprForm-F.Array parts) = joined parts
names_step (ExprForm-F.List parts) = joined parts
names_step (ExprForm-F.Jet name arguments) = joined arguments
names_step (ExprForm-F.Call name arguments) = joined arguments
names_step (ExprForm-F.Fold name count list total) = list ++ total
names_step (ExprForm-F.ArrayFold name count array total) = array ++ total
names_step (ExprForm-F.ForWhile name total context) = total ++ context
names_step (ExprForm-F.Assert e) = e
names_step (ExprForm-F.Dbg e) = e
names_step (ExprForm-F.Into text e) = e
names_step (ExprForm-F.Unwrap e) = e
names_step (ExprForm-F.UnwrapLeft text e) = e
names_step (ExprForm-F.UnwrapRight text e) = e
names_step (ExprForm-F.IsNone text e) = e
names_step (ExprForm-F.Left e) = e
names_step (ExprForm-F.Right e) = e
names_step (ExprForm-F.Some e) = e
names_step _ = []

abbrev pub statement_names_step : Statement-F Names Names Names Names → Names
statement_names_step (Statement-F.Let pattern text value span) = value
statement_names_step (Statement-F.Plain e) = e

abbrev pub form_names : ExprForm → Names
form_names form = fold-ExprForm Names Names Names Names names_step statement_names_step (λ arm. arm.body) (λ e. e.form) form

abbrev pub statement_names : Statement → Names
statement_names s = fold-Statement Names Names Names Names names_step statement_names_step (λ arm. arm.body) (λ e. e.form) s

abbrev pub arm_names : Arm → Names
arm_names arm = fold-Arm Names Names Names Names names_step statement_names_step (λ arm. arm.body) (λ e. e.form) arm

abbrev pub expr_names : Expr → Names
expr_names e = fold-Expr Names Names Names Names names_step statement_names_step (λ arm. arm.body) (λ e. e.form) e

abbrev pub item_names : Item → Names
item_names (items.Alias name text span) = []
item_names (items.Function name params text body span) = expr_names body

-- Witnesses by edition.

-- each name at its first place alone, after the names before
abbrev pub first_names : Names → Names → Names
first_names before [] = []
first_names before (name ∷ names) =
    if is_among before name then first_names before names else name ∷ first_names (before ++ name ∷ []) names

-- the names of a program's witnesses: in edition 2 a name may stand many times in the text, and is listed where it stands first
abbrev pub listed_names : ℕ → Names → Names
listed_names edition names = if nat_eq edition 2 then first_names [] names else names

-- the same of witnesses with their types
abbrev pub first_witnesses : List TypedName → List TypedName → List TypedName
first_witnesses before [] = []
first_witnesses before (witness ∷ witnesses) =
    if has_name before witness.name then first_witnesses before witnesses
    else witness ∷ first_witnesses (before ++ witness ∷ []) witnesses

abbrev pub listed_witnesses : ℕ → List TypedName → List TypedName
listed_witnesses edition witnesses = if nat_eq edition 2 then first_witnesses [] witnesses else witnesses
