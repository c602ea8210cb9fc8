-- What the parts of a typed form are, by the form: typed in the scope, and without a construct that isn't translated.
use Rattle.std.specs.Prelude.{◌≡◌, ℕ, false, bytes_eq, find, List, [], ◌∷◌, ◌++◌, map, Option, Some, None, IsSome, option_map}
use Rattle.hl_constructs.specs.Held.{any_of, last_of, in_expr, in_statement, in_arm}
use Rattle.hl_data.specs.declared.typed.TypedArm.{TypedArm}
use Rattle.hl_data.specs.declared.typed.TypedExpr.{TypedExpr}
use Rattle.hl_data.specs.declared.typed.TypedForm.{TypedForm}
use Rattle.hl_data.specs.declared.typed.TypedForm.TheOpen.{TypedForm-F}
use Rattle.hl_data.specs.declared.typed.TypedFunction.{TypedFunction}
use Rattle.hl_data.specs.declared.typed.TypedStatement.{TypedStatement}
use Rattle.hl_meaning.specs.Values.{encoded}
use Rattle.hl_rules.specs.Places.{Scope}
use Rattle.hl_syntax.specs.declared.kinds.HlType.{HlType}
use Rattle.hl_syntax.specs.declared.kinds.HlType.TheVariants as kind
use Rattle.hl_typing.specs.Typing.{Around, Typed, ExprAt, ExprsAt, BlockAt, Sides}
use Rattle.simplicityhl.specs.Kinds.{IsSound}
use Rattle.translate.specs.Forms.{IsSpelled}

module _ (around : Around) (scope : Scope) where
  -- an expression of some type, and several
  pub record One (e : TypedExpr) : Type 0 where
    pub kind : HlType
    pub typed : Typed around (ExprAt scope kind e)
    pub built : in_expr e ≡ false

  pub record Many (es : List TypedExpr) : Type 0 where
    pub kinds : List HlType
    pub typed : Typed around (ExprsAt scope kinds es)
    pub built : any_of (map in_expr es) ≡ false

  -- statements and a last expression
  pub record Lines (k : HlType) (ss : List TypedStatement) (last : Option TypedExpr) : Type 0 where
    pub typed : Typed around (BlockAt scope k ss last)
    pub built : any_of (map in_statement ss) ≡ false
    pub last_built : last_of (option_map in_expr last) ≡ false

  -- a value and two arms whose sides take it apart
  pub record Arms (k : HlType) (e : TypedExpr) (arms : List TypedArm) : Type 0 where
    pub one : TypedArm
    pub two : TypedArm
    pub are : arms ≡ one ∷ two ∷ []
    pub taken : HlType
    pub first : Scope
    pub second : Scope
    pub sides : Sides taken one.side first two.side second
    pub value : Typed around (ExprAt scope taken e)
    pub one_typed : Typed around (ExprAt (first ++ scope) k one.body)
    pub two_typed : Typed around (ExprAt (second ++ scope) k two.body)
    pub built : in_expr e ≡ false
    pub one_built : in_arm one ≡ false
    pub two_built : in_arm two ≡ false

  abbrev pub PartsOf : HlType → TypedForm-F TypedForm TypedStatement TypedArm TypedExpr → Type 0
  PartsOf k (TypedForm-F.Block ss last) = Lines k ss last
  PartsOf k (TypedForm-F.Match e arms) = Arms k e arms
  PartsOf k (TypedForm-F.Tuple es) = Many es
  PartsOf k (TypedForm-F.Array es) = Many es
  PartsOf k (TypedForm-F.List es) = Many es × ((item : HlType) × (bound : ℕ) × (k ≡ kind.List item bound))
  PartsOf k (TypedForm-F.Assert e) = One e
  PartsOf k (TypedForm-F.Dbg e) = One e
  PartsOf k TypedForm-F.Panic = Unit {0}
  PartsOf k (TypedForm-F.Jet name es) = ⊥
  PartsOf k (TypedForm-F.Witness name) = Unit {0}
  PartsOf k (TypedForm-F.Value v) = IsSome (encoded v k)
  PartsOf k (TypedForm-F.Into from e) = One e
  PartsOf k (TypedForm-F.Unwrap e) = One e
  PartsOf k (TypedForm-F.UnwrapLeft other e) = One e × ((l : HlType) × Typed around (ExprAt scope (kind.Either l other) e))
  PartsOf k (TypedForm-F.UnwrapRight other e) = One e × ((l : HlType) × Typed around (ExprAt scope (kind.Either other l) e))
  PartsOf k (TypedForm-F.IsNone item e) = One e × Typed around (ExprAt scope (kind.Option item) e)
  PartsOf k (TypedForm-F.Fold name count items start) = ⊥
  PartsOf k (TypedForm-F.ArrayFold name count items start) = ⊥
  PartsOf k (TypedForm-F.ForWhile name start context) = ⊥
  PartsOf k (TypedForm-F.Left e) = One e
  PartsOf k (TypedForm-F.Right e) = One e
  PartsOf k (TypedForm-F.Some e) = One e
  PartsOf k TypedForm-F.Nothing = Unit {0}
  PartsOf k TypedForm-F.True = Unit {0}
  PartsOf k TypedForm-F.False = Unit {0}
  PartsOf k (TypedForm-F.Literal text) = IsSpelled k text
  PartsOf k (TypedForm-F.Call name es) = Many es × ((f : TypedFunction) × (find (λ g. bytes_eq name g.name) around.functions ≡ Some f))
  PartsOf k (TypedForm-F.Name name) = Unit {0}
