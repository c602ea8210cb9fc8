-- Expressions of forms of values, and when two walks of one agree: reading it as a value of a type, and checking it at the type.
use Rattle.std.specs.Prelude.{◌≡◌, Bool, true, false, List, Option, Some, None, Result, Ok, Err}
use Rattle.std.specs.List.{list_all}
use Rattle.hl_data.specs.declared.typed.TypedExpr.{TypedExpr}
use Rattle.hl_data.specs.declared.value.HlValue.{HlValue}
use Rattle.hl_syntax.specs.declared.kinds.HlType.{HlType}
use Rattle.hl_syntax.specs.declared.kinds.TypedName.{TypedName}
use Rattle.hl_syntax.specs.declared.rules.Rule.{Rule}
use Rattle.hl_syntax.specs.declared.token.Span.{Span}
use Rattle.hl_syntax.specs.declared.tree.Expr.{Expr}
use Rattle.hl_syntax.specs.declared.tree.ExprForm.TheOpen.{ExprForm-F}
use Rattle.hl_syntax.specs.declared.tree.ExprForm.TheFolds.{fold-Expr}
use Rattle.hl_meaning.specs.Answer.{gives}
use Rattle.hl_meaning.specs.Mean.{Function, mean}
use Rattle.hl_meaning.specs.Scopes.{Binding, Scope}
use Rattle.simplicityhl.specs.Written.{Broken, breaks_rule}

-- whether a form is one of values, given whether its parts are expressions of such forms
abbrev pub value_step : ExprForm-F Bool (Unit {0}) (Unit {0}) Bool → Bool
value_step (ExprForm-F.Tuple parts) = list_all (λ part. part) parts
value_step (ExprForm-F.Array parts) = list_all (λ part. part) parts
value_step (ExprForm-F.List parts) = list_all (λ part. part) parts
value_step (ExprForm-F.Left part) = part
value_step (ExprForm-F.Right part) = part
value_step (ExprForm-F.Some part) = part
value_step ExprForm-F.Nothing = true
value_step ExprForm-F.True = true
value_step ExprForm-F.False = true
value_step (ExprForm-F.Literal word) = true
value_step _ = false

-- whether an expression is of forms of values throughout: literals, truth values, tuples, arrays, lists, Left, Right, Some and None
abbrev pub is_value : Expr → Bool
is_value e = fold-Expr Bool (Unit {0}) (Unit {0}) Bool value_step (λ s. tt) (λ a. tt) (λ e. e.form) e

-- the typed tree is of the type, and means the value after any functions, with any witnesses and in any scope
pub record Spells (found : TypedExpr) (kind : HlType) (v : HlValue) : Type 0 where
  pub typed : found.kind ≡ kind
  pub means : (functions : List Function) (witness : List Binding) (scope : Scope) → mean functions witness found scope ≡ gives v

-- what reading a value of the type gives and what checking an expression at it gives, where these witnesses were met before it:
-- a value, and a typed tree that spells it, with no witness more; or no value, and a rule that is broken
pub data Agree (kind : HlType) (met : List TypedName) : Option HlValue → Result (TypedExpr × List TypedName) Broken → Type 0 where
  same : (v : HlValue) (found : TypedExpr) → Spells found kind v → Agree kind met (Some v) (Ok (found, met))
  neither : (rule : Rule) (span : Span) → Agree kind met None (Err (breaks_rule rule span))
