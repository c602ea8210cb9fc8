-- The places of a typed expression, and the constructs whose terms aren't made yet.
use Rattle.std.specs.Prelude.{◌≡◌, ◌⊎◌, List, [], ◌∷◌, ◌++◌, map, Option, Some, None, IsTrue}
use Rattle.hl_data.specs.declared.typed.TypedArm.{TypedArm}
use Rattle.hl_data.specs.declared.typed.TypedExpr.{TypedExpr}
use Rattle.hl_data.specs.declared.typed.TypedForm.{TypedForm}
use Rattle.hl_data.specs.declared.typed.TypedForm.TheOpen.{TypedForm-F, TypedStatement-F}
use Rattle.hl_data.specs.declared.typed.TypedForm.{out-TypedForm}
use Rattle.hl_data.specs.declared.typed.TypedFunction.{TypedFunction}
use Rattle.hl_data.specs.declared.typed.TypedStatement.{TypedStatement}
use Rattle.hl_data.specs.declared.typed.TypedStatement.{out-TypedStatement}
use Rattle.hl_constructs.specs.Held.{in_expr, in_program}

abbrev pub Layer : Type 0
Layer = TypedForm-F TypedForm TypedStatement TypedArm TypedExpr

abbrev pub value_in : TypedStatement-F TypedForm TypedStatement TypedArm TypedExpr → TypedExpr
value_in (TypedStatement-F.Let pattern kind e) = e
value_in (TypedStatement-F.Plain e) = e

abbrev pub value_of : TypedStatement → TypedExpr
value_of s = value_in (out-TypedStatement s)

abbrev pub last_part : Option TypedExpr → List TypedExpr
last_part (Some e) = e ∷ []
last_part None = []

-- the expressions that a form is made of
abbrev pub parts_of : Layer → List TypedExpr
parts_of (TypedForm-F.Block ss last) = map value_of ss ++ last_part last
parts_of (TypedForm-F.Match e arms) = e ∷ map (λ (a : TypedArm). a.body) arms
parts_of (TypedForm-F.Tuple es) = es
parts_of (TypedForm-F.Array es) = es
parts_of (TypedForm-F.List es) = es
parts_of (TypedForm-F.Jet name es) = es
parts_of (TypedForm-F.Call name es) = es
parts_of (TypedForm-F.Fold name count items start) = items ∷ start ∷ []
parts_of (TypedForm-F.ArrayFold name count items start) = items ∷ start ∷ []
parts_of (TypedForm-F.ForWhile name start context) = start ∷ context ∷ []
parts_of (TypedForm-F.Assert e) = e ∷ []
parts_of (TypedForm-F.Dbg e) = e ∷ []
parts_of (TypedForm-F.Into from e) = e ∷ []
parts_of (TypedForm-F.Unwrap e) = e ∷ []
parts_of (TypedForm-F.UnwrapLeft other e) = e ∷ []
parts_of (TypedForm-F.UnwrapRight other e) = e ∷ []
parts_of (TypedForm-F.IsNone item e) = e ∷ []
parts_of (TypedForm-F.Left e) = e ∷ []
parts_of (TypedForm-F.Right e) = e ∷ []
parts_of (TypedForm-F.Some e) = e ∷ []
parts_of _ = []

-- one of a list
abbrev pub IsAmong : TypedExpr → List TypedExpr → Type 0
IsAmong e [] = ⊥
IsAmong e (d ∷ ds) = (d ≡ e) ⊎ IsAmong e ds

-- an expression stands in itself, and in whatever one of its places is a part of
pub data StandsIn (q : TypedExpr) : TypedExpr → Type 0 where
  itself : StandsIn q q
  in_part : (e p : TypedExpr) → IsAmong p (parts_of (out-TypedForm e.form)) → StandsIn q p → StandsIn q e

-- calls of jets, and loops
abbrev pub IsUnbuilt : Layer → Type 0
IsUnbuilt (TypedForm-F.Jet name es) = Unit {0}
IsUnbuilt (TypedForm-F.Fold name count items start) = Unit {0}
IsUnbuilt (TypedForm-F.ArrayFold name count items start) = Unit {0}
IsUnbuilt (TypedForm-F.ForWhile name start context) = Unit {0}
IsUnbuilt _ = ⊥

-- such a construct stands at some place of an expression
pub record Holds (e : TypedExpr) : Type 0 where
  pub place : TypedExpr
  pub stands : StandsIn place e
  pub unbuilt : IsUnbuilt (out-TypedForm place.form)

-- one of these functions holds one in its body
abbrev pub SomeHolds : List TypedFunction → Type 0
SomeHolds [] = ⊥
SomeHolds (f ∷ fs) = Holds f.body ⊎ SomeHolds fs

-- an expression is found to hold one exactly where one stands at some place of it, and so is a program
pub record HeldStands : Type 0 where
  pub found : (e : TypedExpr) → IsTrue (in_expr e) → Holds e
  pub finds : (e : TypedExpr) → Holds e → IsTrue (in_expr e)
  pub found_in_some : (functions : List TypedFunction) → IsTrue (in_program functions) → SomeHolds functions
  pub finds_in_some : (functions : List TypedFunction) → SomeHolds functions → IsTrue (in_program functions)
