-- The laws of the terms of typed programs with this compiler's parts, in both editions of the language.
use Rattle.std.specs.Prelude.{◌≡◌, ℕ, List, [], ◌∷◌, ◌++◌, map}
use Rattle.std.specs.List.{AllZip}
use Rattle.hl_data.specs.declared.typed.TypedExpr.{TypedExpr}
use Rattle.hl_data.specs.declared.typed.TypedFunction.{TypedFunction}
use Rattle.hl_syntax.specs.declared.kinds.HlType.{HlType}
use Rattle.hl_syntax.specs.declared.kinds.TypedName.{TypedName}
use Rattle.simplicity.specs.Arrows.{IsTypedFrom}
use Rattle.simplicity.specs.Tuples.{tuple_kind}
use Rattle.simplicity.specs.Types.{Value}
use Rattle.simplicityhl.specs.Kinds.{form}
use Rattle.hl_meaning.specs.Mean.{functions_of}
use Rattle.hl_meaning.specs.Scopes.{Binding}
use Rattle.hl_rules.specs.Exprs.{param_types}
use Rattle.hl_rules.specs.Programs.{Checked}
use Rattle.hl_typing.specs.Programs.{FunctionTyped, FunctionsTyped, ProgramTyped, witnesses_of}
use Rattle.hl_typing.specs.Typing.{Typed, ExprAt}
use Rattle.hl_terms.specs.Programs.{function_term, program_terms}
use Rattle.hl_terms.specs.Shapes.{Shape, kind_of, variables_of}
use Rattle.hl_terms.specs.Translated.{FunctionTerm, translated}
use Rattle.hl_term_laws.specs.Laws.{AllRendered, BindsWitnesses}
use Rattle.hl_term_laws.specs.Renders.{JetsRendered, LoopsRendered, Recodes}
use Rattle.hl_expansions.specs.Expansions.{expansions}

-- what the laws of terms ask for: the term of each jet does what the jet does, the terms of loops do what the loops do, and what is
-- decoded is encoded back
pub record PartsRendered : Type 0 where
  pub jets : JetsRendered expansions
  pub loops : LoopsRendered expansions
  pub values : Recodes

-- the functions of a typed program, with what they give and with their terms: each term computes what its function gives
abbrev pub ProgramsRender : Type 0
ProgramsRender =
    (edition : ℕ) (program : Checked) (given : List Binding) (w : List Value) → ProgramTyped program →
    AllRendered program.witnesses given w program.functions (functions_of given program.functions)
    (program_terms expansions edition program.witnesses program.functions)

-- the term of a function keeps to the typing table at every place, from the tuple of its parameters to its result
pub record HasTerm (f : TypedFunction) (t : FunctionTerm) : Type 0 where
  pub name_is : t.name ≡ f.name
  pub params_are : t.params ≡ f.params
  pub typed : IsTypedFrom t.term (tuple_kind (map form (param_types f))) (form f.result)

abbrev pub ProgramTermsAreTyped : Type 0
ProgramTermsAreTyped =
    (edition : ℕ) (program : Checked) → ProgramTyped program →
    AllZip HasTerm program.functions (program_terms expansions edition program.witnesses program.functions)

-- a typed expression in a scope of the body of a function with this name, which comes after these functions: its term keeps to the
-- typing table at every place, from the type of the scope to the form of the expression's type
abbrev pub BodiesAreTyped : Type 0
BodiesAreTyped =
    (edition : ℕ) (witnesses : List TypedName) (before : List TypedFunction) (name : List ℕ) (scope : Shape) (k : HlType) (e : TypedExpr) →
    FunctionsTyped witnesses before → BindsWitnesses (witnesses_of name witnesses) scope →
    Typed (record { functions = before; witnesses = witnesses_of name witnesses }) (ExprAt (variables_of scope) k e) →
    IsTypedFrom (translated expansions (program_terms expansions edition witnesses before) witnesses e scope) (kind_of scope) (form k)

-- a function is typed after those before it, and so are these
pub record IsAfter (witnesses : List TypedName) (before : List TypedFunction) (f : TypedFunction) : Type 0 where
  pub before_typed : FunctionsTyped witnesses before
  pub typed : FunctionTyped witnesses before f

abbrev pub FunctionsInOrder : Type 0
FunctionsInOrder =
    (witnesses : List TypedName) (before : List TypedFunction) (f : TypedFunction) (after : List TypedFunction) →
    FunctionsTyped witnesses (before ++ f ∷ after) → IsAfter witnesses before f

-- the terms with one more function are those before, and its term over these
abbrev pub TermsGrow : Type 0
TermsGrow =
    (edition : ℕ) (witnesses : List TypedName) (before : List TypedFunction) (f : TypedFunction) →
    program_terms expansions edition witnesses (before ++ f ∷ [])
    ≡ program_terms expansions edition witnesses before ++ function_term expansions edition witnesses (program_terms expansions edition witnesses before) f ∷ []
