-- What is claimed of the walk of each part of a body: what it gives is typed by the rules, and is the source's part.
use Rattle.std.proofs.Common.{◌≡◌, List, map, subst, Some}
use Rattle.hl_data.specs.declared.typed.TypedExpr.{TypedExpr}
use Rattle.hl_data.specs.declared.typed.TypedForm.{TypedForm}
use Rattle.hl_data.specs.declared.typed.TypedFunction.{TypedFunction}
use Rattle.hl_syntax.specs.declared.kinds.HlType.{HlType}
use Rattle.hl_syntax.specs.declared.kinds.TypedName.{TypedName}
use Rattle.hl_syntax.specs.declared.rules.Rule.{Rule}
use Rattle.hl_syntax.specs.declared.token.Span.{Span}
use Rattle.hl_syntax.specs.declared.tree.Expr.{Expr}
use Rattle.hl_syntax.specs.declared.tree.ExprForm.{ExprForm}
use Rattle.simplicityhl.specs.Kinds.{IsSound}
use Rattle.hl_meaning.specs.Entries.{IsValued}
use Rattle.hl_rules.specs.Exprs.{ExprWalk, FormWalk, expr_walk}
use Rattle.hl_rules.specs.Places.{Scope, Context, variable_type}
use Rattle.hl_rules.specs.Walks.{Walk}
use Rattle.hl_typing.specs.Typing.{Around, Typed, FormAt, ExprAt}
use Rattle.hl_typing.specs.Erased.{Erased, FormOf}
use Rattle.hl_typing.proofs.Every.{Every}
use Rattle.hl_typing.proofs.Steps.{Good}

-- the types of a function's parameters are sound
abbrev pub AreSound : List TypedName → Type 0
AreSound names = Every (λ (n : TypedName). IsSound n.kind) names

-- what a body is checked in, and the witnesses that it may name
pub record Setting : Type 0 where
  pub context : Context
  pub witnesses : List TypedName
  pub aliases : AreSound context.aliases
  pub entries : Every IsValued context.entries
  pub functions : Every (λ (f : TypedFunction). AreSound f.params) context.functions

module _ (s : Setting) where
  -- a witness that is met is one of these, at its type
  abbrev pub IsMet : TypedName → Type 0
  IsMet n = variable_type s.witnesses n.name ≡ Some n.kind

  abbrev pub around : Around
  around = record { functions = s.context.functions; witnesses = s.witnesses }

  abbrev pub GoodWalk : {A : Type 0} → Walk A → (A → Type 0) → Type 0
  GoodWalk w Q = Good s.context IsMet w Q

  -- a form at a type in a scope, and the form of the source that it is of
  pub record FormHolds (scope : Scope) (k : HlType) (source : ExprForm) (form : TypedForm) : Type 0 where
    pub typed : Typed around (FormAt scope k form)
    pub erased : Erased s.context.aliases s.context.entries (FormOf form source)

  pub record ExprHolds (scope : Scope) (k : HlType) (source : Expr) (e : TypedExpr) : Type 0 where
    pub typed : Typed around (ExprAt scope k e)
    pub erased : Erased s.context.aliases s.context.entries (FormOf e.form source.form)

  abbrev pub GoodForm : FormWalk → ExprForm → Type 0
  GoodForm walk source = (span : Span) (scope : Scope) (expected : HlType) (rule : Rule) → IsSound expected → GoodWalk (walk span scope expected rule) (FormHolds scope expected source)

  abbrev pub GoodExpr : ExprWalk → Expr → Type 0
  GoodExpr walk source = (scope : Scope) (expected : HlType) (rule : Rule) → IsSound expected → GoodWalk (walk scope expected rule) (ExprHolds scope expected source)

  abbrev pub Claim : Expr → Type 0
  Claim e = GoodExpr (expr_walk s.context e) e

  abbrev pub Proved : Type 0
  Proved = (e : Expr) × Claim e

  abbrev pub expr_of : Proved → Expr
  expr_of p = p.0

  abbrev pub exprs_of : List Proved → List Expr
  exprs_of ps = map expr_of ps

  abbrev pub walk_of : Proved → ExprWalk
  walk_of p = expr_walk s.context p.0

  abbrev pub walks_of : List Proved → List ExprWalk
  walks_of ps = map (expr_walk s.context) (exprs_of ps)

  -- a form at an equal type
  pub at_type : (scope : Scope) (k expected : HlType) (form : TypedForm) → k ≡ expected → Typed around (FormAt scope k form) → Typed around (FormAt scope expected form)
  at_type scope k expected form same h = subst (λ (l : HlType). Typed around (FormAt scope l form)) same h
