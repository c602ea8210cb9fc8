-- Terms and scopes at a place of a program.
use Rattle.std.specs.Prelude.{◌≡◌, ℕ, List, [], ◌∷◌, ◌++◌, length, map, take, Option, Some, None, slice_get}
use Rattle.hl_data.specs.declared.typed.TypedExpr.{TypedExpr}
use Rattle.hl_data.specs.declared.typed.TypedFunction.{TypedFunction}
use Rattle.hl_syntax.specs.declared.kinds.TypedName.{TypedName}
use Rattle.hl_terms.specs.Programs.{program_terms}
use Rattle.hl_terms.specs.Shapes.{Shape, kind_of}
use Rattle.hl_terms.specs.Translated.{FunctionTerm, translated}
use Rattle.hl_typing.specs.Programs.{witnesses_of}
use Rattle.hl_typing.specs.Typing.{Around}
use Rattle.hl_expansions.specs.Expansions.{expansions}
use Rattle.layout_laws.specs.Scopes.{scope_shape}
use Rattle.scope_layout.specs.Layers.{Scopes}
use Rattle.simplicity.specs.Canon.{Declared}
use Rattle.term_builder.specs.State.{State}
use Rattle.translate.specs.declared.place.Place.{Place}

abbrev name_or : Option TypedFunction → List ℕ
name_or (Some f) = f.name
name_or None = []

-- the functions before the place, the name of the function that stands there, and the program's witnesses
abbrev pub before_of : Place → List TypedFunction
before_of p = take p.count p.program.now.functions

abbrev pub name_of : Place → List ℕ
name_of p = name_or (slice_get p.program.now.functions p.count)

abbrev pub witnesses_in : Place → List TypedName
witnesses_in p = p.program.now.witnesses

-- the terms of the functions before, and what is known in the body
abbrev pub terms_of : Place → List FunctionTerm
terms_of p = program_terms expansions p.program.now.edition (witnesses_in p) (before_of p)

abbrev pub around_of : Place → Around
around_of p = record { functions = before_of p; witnesses = witnesses_of (name_of p) (witnesses_in p) }

-- the term of an expression in the scope that a layout stands for
abbrev pub term_in : Place → Shape → TypedExpr → Declared
term_in p scope e = translated expansions (terms_of p) (witnesses_in p) e scope

-- a builder is in the scope, and keeps the terms of the functions before
pub record IsReady (p : Place) (scopes : Scopes) (s : State) : Type 0 where
  pub here : s.here ≡ kind_of (scope_shape scopes)
  pub kept : s.kept ≡ map (λ (f : FunctionTerm). f.term) (terms_of p)

-- the terms of several, the last first, before those that were made
abbrev pub terms_onto : Place → Shape → List TypedExpr → List Declared → List Declared
terms_onto p scope [] made = made
terms_onto p scope (e ∷ es) made = terms_onto p scope es (term_in p scope e ∷ made)
