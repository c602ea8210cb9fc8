-- Layouts whose patterns bind at their types stand for scopes of terms.
use Rattle.std.specs.Prelude.{◌≡◌, ℕ, List, [], ◌∷◌, map}
use Rattle.hl_syntax.specs.declared.kinds.HlType.{HlType}
use Rattle.hl_syntax.specs.declared.kinds.HlType.TheVariants as kind
use Rattle.hl_syntax.specs.declared.kinds.TypedName.{TypedName}
use Rattle.hl_syntax.specs.declared.tree.Pattern.{Pattern}
use Rattle.hl_syntax.specs.declared.tree.PatternForm.TheVariants as patterns
use Rattle.hl_terms.specs.Shapes.{kind_of, variables_of, witnesses_of, pattern_shape, params_shape}
use Rattle.scope_layout.specs.Layers.{Scopes, scopes_kind, path_of}
use Rattle.scope_layout.specs.Leads.{Has}
use Rattle.scope_layout.specs.declared.bound.Sort.{Sort}
use Rattle.scope_layout.specs.declared.bound.Sort.TheVariants as sort
use Rattle.layout_laws.specs.Scopes.{scope_shape, steps_of, steps_to}

-- these are the variables of the layout, whose patterns bind at their types
abbrev pub HasVariables : Scopes → List TypedName → Type 0
HasVariables scopes names = Has sort.Variable scopes.root scopes.bound names

abbrev pub HasWitnesses : Scopes → List TypedName → Type 0
HasWitnesses scopes names = Has sort.Witness scopes.root scopes.bound names

-- the way to a name of a sort is the same in both
abbrev pub PathsAgree : Type 0
PathsAgree = (s : Sort) (name : List ℕ) (scopes : Scopes) (names : List TypedName) → HasVariables scopes names →
    steps_of (path_of s name scopes) ≡ steps_to s name (scope_shape scopes)

-- the variables, the bound witnesses and the type are the same in both
pub record StandsFor (scopes : Scopes) (names witnesses : List TypedName) : Type 0 where
  pub variables_are : variables_of (scope_shape scopes) ≡ names
  pub witnesses_are : witnesses_of (scope_shape scopes) ≡ witnesses
  pub kind_is : kind_of (scope_shape scopes) ≡ scopes_kind scopes

abbrev pub LayoutsStand : Type 0
LayoutsStand = (scopes : Scopes) (names witnesses : List TypedName) → HasVariables scopes names → HasWitnesses scopes witnesses →
    StandsFor scopes names witnesses

-- patterns that are the names of parameters, in order
abbrev pub AreNames : List Pattern → List TypedName → Type 0
AreNames [] [] = Unit {0}
AreNames (p ∷ ps) (n ∷ names) = (p.form ≡ patterns.Name n.name) × AreNames ps names
AreNames _ _ = ⊥

-- the tuple of the types of parameters
abbrev pub params_type : List TypedName → HlType
params_type params = kind.Tuple (map (λ p. p.kind) params)

abbrev pub ParametersStand : Type 0
ParametersStand = (p : Pattern) (ps : List Pattern) (params : List TypedName) → p.form ≡ patterns.Tuple ps → AreNames ps params →
    pattern_shape p (params_type params) ≡ params_shape params
