-- The laws: the terms of typed expressions, of functions and of programs render what these mean, whatever jets and loops are made of.
use Rattle.std.specs.Prelude.{◌≡◌, ℕ, List, [], ◌∷◌}
use Rattle.hl_data.specs.declared.typed.TypedExpr.{TypedExpr}
use Rattle.hl_data.specs.declared.typed.TypedFunction.{TypedFunction}
use Rattle.hl_syntax.specs.declared.kinds.HlType.{HlType}
use Rattle.hl_syntax.specs.declared.kinds.TypedName.{TypedName}
use Rattle.simplicity.specs.Types.{Value}
use Rattle.hl_meaning.specs.Mean.{Function, mean, functions_of}
use Rattle.hl_meaning.specs.Scopes.{Binding}
use Rattle.hl_typing.specs.Programs as programs
use Rattle.hl_typing.specs.Programs.{FunctionsTyped}
use Rattle.hl_typing.specs.Typing.{Typed, ExprAt}
use Rattle.hl_terms.specs.Shapes.{Shape, variables_of, witnesses_of}
use Rattle.hl_terms.specs.Translated.{Expansions, FunctionTerm, translated}
use Rattle.hl_terms.specs.Programs.{program_terms}
use Rattle.hl_term_laws.specs.Renders.{Renders, RendersFunction, JetsRendered, LoopsRendered, Recodes}

-- functions with what they give and with their terms, in order; `main` alone may name the witnesses
abbrev pub AllRendered : List TypedName → List Binding → List Value → List TypedFunction → List Function → List FunctionTerm → Type 0
AllRendered witnesses given w [] [] [] = Unit {0}
AllRendered witnesses given w (f ∷ fs) (g ∷ gs) (t ∷ ts) =
    RendersFunction (programs.witnesses_of f.name witnesses) given w f g t × AllRendered witnesses given w fs gs ts
AllRendered _ _ _ _ _ _ = ⊥

-- the scope binds all of the witnesses, or none of them, so that each is a leaf
pub data BindsWitnesses (witnesses : List TypedName) (scope : Shape) : Type 0 where
  binds_all : witnesses_of scope ≡ witnesses → BindsWitnesses witnesses scope
  binds_none : witnesses_of scope ≡ [] → BindsWitnesses witnesses scope

-- the term of a typed expression in a scope, where the functions before are rendered
abbrev pub ExpressionsRender : Type 0
ExpressionsRender =
    (x : Expansions) (witnesses : List TypedName) (given : List Binding) (w : List Value) (fs : List TypedFunction) (gs : List Function)
    (ts : List FunctionTerm) (scope : Shape) (k : HlType) (e : TypedExpr) → JetsRendered x → LoopsRendered x → Recodes →
    AllRendered witnesses given w fs gs ts → BindsWitnesses witnesses scope →
    Typed (record { functions = fs; witnesses = witnesses }) (ExprAt (variables_of scope) k e) →
    Renders witnesses given w scope k (mean gs given e) (translated x ts witnesses e scope)

-- the terms of the functions of a program, in both editions
abbrev pub FunctionsRender : Type 0
FunctionsRender =
    (x : Expansions) (edition : ℕ) (witnesses : List TypedName) (given : List Binding) (w : List Value) (fs : List TypedFunction) →
    JetsRendered x → LoopsRendered x → Recodes → FunctionsTyped witnesses fs →
    AllRendered witnesses given w fs (functions_of given fs) (program_terms x edition witnesses fs)
