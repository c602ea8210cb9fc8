-- The walk of forms without parts.
use Rattle.std.specs.Prelude.{List, ℕ}
use Rattle.hl_syntax.specs.declared.token.Mark.{Mark}
use Rattle.hl_syntax.specs.declared.tree.ExprForm.TheOpen.{ExprForm-F}
use Rattle.hl_rules.specs.Exprs.{FormWalk, form_step}
use Rattle.hl_rules.specs.Places.{Context}

module _ (c : Context) where
  abbrev pub name_form : List ℕ → FormWalk
  name_form name = form_step c (ExprForm-F.Name name)

  abbrev pub literal_form : List ℕ → FormWalk
  literal_form word = form_step c (ExprForm-F.Literal word)

  abbrev pub witness_form : Mark → FormWalk
  witness_form name = form_step c (ExprForm-F.Witness name)

  abbrev pub param_form : Mark → FormWalk
  param_form name = form_step c (ExprForm-F.Param name)

  abbrev pub nothing_form : FormWalk
  nothing_form = form_step c ExprForm-F.Nothing

  abbrev pub true_form : FormWalk
  true_form = form_step c ExprForm-F.True

  abbrev pub false_form : FormWalk
  false_form = form_step c ExprForm-F.False
