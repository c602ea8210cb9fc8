-- The witnesses that a function of a typed program names, in the order in which its term holds them.
--
-- In edition 1 they stand in the text's order, except that in a match the arm of `Left`, `None` or `false` goes before the
-- other. In edition 2 they stand in the order of their first places in the text, each once.
use Rattle.std.specs.Prelude.{ℕ, Bool, true, false, List, [], ◌∷◌, ◌++◌, flat_map, nat_eq, if◌then◌else◌}
use Rattle.hl_data.specs.declared.typed.TypedArm.{TypedArm}
use Rattle.hl_data.specs.declared.typed.TypedExpr.{TypedExpr}
use Rattle.hl_data.specs.declared.typed.TypedForm.{TypedForm}
use Rattle.hl_data.specs.declared.typed.TypedForm.TheFolds.{fold-TypedForm, fold-TypedStatement, fold-TypedArm, fold-TypedExpr}
use Rattle.hl_data.specs.declared.typed.TypedForm.TheOpen.{TypedForm-F, TypedStatement-F, TypedArm-F, TypedExpr-F}
use Rattle.hl_data.specs.declared.typed.TypedFunction.{TypedFunction}
use Rattle.hl_data.specs.declared.typed.TypedSide.{TypedSide}
use Rattle.hl_data.specs.declared.typed.TypedSide.TheVariants as sides
use Rattle.hl_data.specs.declared.typed.TypedStatement.{TypedStatement}
use Rattle.hl_rules.specs.Witnesses.{Names, joined, if_any, first_names}

-- an arm of a match: its side, and the names in its body
pub record ArmNames : Type 0 where
  pub side : TypedSide
  pub names : Names

-- an order of the names in the arms of a match
abbrev pub Order : Type 0
Order = List ArmNames → Names

-- the arms as the text has them
abbrev pub in_text : Order
in_text arms = flat_map (λ arm. arm.names) arms

-- of the two arms of a match, those that go before the other
abbrev pub goes_first : TypedSide → Bool
goes_first (sides.Left pattern kind) = true
goes_first (sides.Right pattern kind) = false
goes_first (sides.Some pattern kind) = false
goes_first sides.Nothing = true
goes_first sides.True = false
goes_first sides.False = true

-- the arms as a term has them
abbrev pub in_term : Order
in_term (one ∷ two ∷ []) = if goes_first one.side then one.names ++ two.names else two.names ++ one.names
in_term arms = in_text arms

-- the names in a tree, in the text's order but for the arms of matches
module _ (order : Order) where
  abbrev pub form_step : TypedForm-F Names Names ArmNames Names → Names
  form_step (TypedForm-F.Witness name) = name ∷ []
  form_step (TypedForm-F.Block statements last) = joined statements ++ if_any last
  form_step (TypedForm-F.Match e arms) = e ++ order arms
  form_step (TypedForm-F.Tuple parts) = joined parts
  form_step (TypedForm-F.Array parts) = joined parts
  form_step (TypedForm-F.List parts) = joined parts
  form_step (TypedForm-F.Jet name arguments) = joined arguments
  form_step (TypedForm-F.Call name arguments) = joined arguments
  form_step (TypedForm-F.Fold name count list total) = list ++ total
  form_step (TypedForm-F.ArrayFold name count array total) = array ++ total
  form_step (TypedForm-F.ForWhile name total context) = total ++ context
  form_step (TypedForm-F.Assert e) = e
  form_step (TypedForm-F.Dbg e) = e
  form_step (TypedForm-F.Into kind e) = e
  form_step (TypedForm-F.Unwrap e) = e
  form_step (TypedForm-F.UnwrapLeft kind e) = e
  form_step (TypedForm-F.UnwrapRight kind e) = e
  form_step (TypedForm-F.IsNone kind e) = e
  form_step (TypedForm-F.Left e) = e
  form_step (TypedForm-F.Right e) = e
  form_step (TypedForm-F.Some e) = e
  form_step _ = []

  abbrev pub statement_step : TypedStatement-F Names Names ArmNames Names → Names
  statement_step (TypedStatement-F.Let pattern kind value) = value
  statement_step (TypedStatement-F.Plain e) = e

  abbrev pub arm_step : TypedArm-F Names Names ArmNames Names → ArmNames
  arm_step arm = record { side = arm.side; names = arm.body }

  abbrev pub expr_step : TypedExpr-F Names Names ArmNames Names → Names
  expr_step e = e.form

  unfoldable pub names_in_form : TypedForm → Names
  names_in_form form = fold-TypedForm Names Names ArmNames Names form_step statement_step arm_step expr_step form

  unfoldable pub names_in_statement : TypedStatement → Names
  names_in_statement s = fold-TypedStatement Names Names ArmNames Names form_step statement_step arm_step expr_step s

  unfoldable pub names_in_arm : TypedArm → ArmNames
  names_in_arm arm = fold-TypedArm Names Names ArmNames Names form_step statement_step arm_step expr_step arm

  unfoldable pub names_in : TypedExpr → Names
  names_in e = fold-TypedExpr Names Names ArmNames Names form_step statement_step arm_step expr_step e

-- the names of a function's witnesses, in the order in which its term holds them
abbrev pub witness_names : ℕ → TypedFunction → Names
witness_names edition f = if nat_eq edition 2 then first_names [] (names_in in_text f.body) else names_in in_term f.body
