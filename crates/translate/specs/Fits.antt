-- What is known of an expression, of several, and of the statements of a block where they are translated: they are typed in the
-- scope of the layout, and hold nothing that isn't translated.
use Rattle.std.specs.Prelude.{◌≡◌, ◌≤◌, false, List, [], length, Option, Some, None}
use Rattle.hl_data.specs.declared.typed.TypedExpr.{TypedExpr}
use Rattle.hl_data.specs.declared.typed.TypedStatement.{TypedStatement}
use Rattle.hl_syntax.specs.declared.kinds.HlType.{HlType}
use Rattle.hl_syntax.specs.declared.kinds.TypedName.{TypedName}
use Rattle.hl_syntax.specs.declared.kinds.HlType.TheVariants as kind
use Rattle.hl_syntax.specs.declared.tree.PatternForm.TheVariants as patterns
use Rattle.hl_expansions.specs.Laws.{BodiesAreTyped}
use Rattle.hl_typing.specs.Programs.{FunctionsTyped, witnesses_of}
use Rattle.hl_typing.specs.Typing.{Typed, ExprAt, ExprsAt, BlockAt}
use Rattle.hl_term_laws.specs.Laws.{BindsWitnesses}
use Rattle.layout_laws.specs.Laws.{HasVariables, HasWitnesses}
use Rattle.layout_laws.specs.Scopes.{scope_shape}
use Rattle.scope_layout.specs.Layers.{Scopes}
use Rattle.std.specs.List.{All}
use Rattle.hl_constructs.specs.Held.{in_expr, in_statement}
use Rattle.translate.specs.Here.{around_of, before_of, name_of, witnesses_in}
use Rattle.translate.specs.declared.place.Place.{Place}

-- the functions before the place are typed, and so is each term of a typed expression; what arms bind that bind nothing
pub record Known (p : Place) : Type 0 where
  pub law : BodiesAreTyped
  pub typed : FunctionsTyped (witnesses_in p) (before_of p)
  pub within : p.count ≤ length p.program.now.functions
  pub ignores : p.nothing.now.form ≡ patterns.Ignore
  pub empty : p.unit.now ≡ kind.Tuple []

-- the layout has these variables, and all of the witnesses or none
pub record Stands (p : Place) (scopes : Scopes) (names : List TypedName) : Type 0 where
  pub known : Known p
  pub variables : HasVariables scopes names
  pub bound : List TypedName
  pub witnesses : HasWitnesses scopes bound
  pub binds : BindsWitnesses (witnesses_of (name_of p) (witnesses_in p)) (scope_shape scopes)

pub record FitsAt (p : Place) (scopes : Scopes) (k : HlType) (e : TypedExpr) : Type 0 where
  pub names : List TypedName
  pub stands : Stands p scopes names
  pub typed : Typed (around_of p) (ExprAt names k e)
  pub built : in_expr e ≡ false

-- an expression of the type that it is marked with
abbrev pub Fits : Place → Scopes → TypedExpr → Type 0
Fits p scopes e = FitsAt p scopes e.kind e

pub record AllFit (p : Place) (scopes : Scopes) (es : List TypedExpr) : Type 0 where
  pub each : All (Fits p scopes) es

abbrev pub LastBuilt : Option TypedExpr → Type 0
LastBuilt (Some e) = in_expr e ≡ false
LastBuilt None = Unit {0}

pub record BlockFits (p : Place) (scopes : Scopes) (ss : List TypedStatement) (last : Option TypedExpr) : Type 0 where
  pub names : List TypedName
  pub stands : Stands p scopes names
  pub kind : HlType
  pub typed : Typed (around_of p) (BlockAt names kind ss last)
  pub built : All (λ s. in_statement s ≡ false) ss
  pub last_built : LastBuilt last
