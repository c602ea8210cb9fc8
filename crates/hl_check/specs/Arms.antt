-- Arms of matches.
use Rattle.hl_syntax.specs.declared.tree.Arm.{Arm}
use Rattle.hl_syntax.specs.declared.tree.ExprForm.TheFolds.{fold-Arm}
use Rattle.hl_rules.specs.Places.{Context}
use Rattle.hl_rules.specs.Exprs.{ArmWalk, ExprWalk, FormWalk, StatementWalk, form_step, statement_step, arm_step, expr_step}

-- an arm of a match
abbrev pub arm_walk : Context → Arm → ArmWalk
arm_walk c arm = fold-Arm FormWalk StatementWalk ArmWalk ExprWalk (form_step c) (statement_step c) (arm_step c) (expr_step c) arm
