-- Where the paths of names lead: names with values, and bound witnesses with values, at the places of a core value.
use Rattle.std.specs.Prelude.{◌≡◌, ℕ, List, [], ◌∷◌, ◌++◌, map, Option, Some, None}
use Rattle.hl_data.specs.declared.value.HlValue.{HlValue}
use Rattle.hl_syntax.specs.declared.kinds.HlType.{HlType}
use Rattle.hl_syntax.specs.declared.kinds.TypedName.{TypedName}
use Rattle.hl_syntax.specs.declared.tree.Pattern.{Pattern}
use Rattle.hl_meaning.specs.Mean.{scope_of}
use Rattle.hl_meaning.specs.Scopes.{Scope, meant, bound}
use Rattle.hl_meaning.specs.Values.{encoded, at_each}
use Rattle.hl_rules.specs.Places.{variable_type}
use Rattle.hl_typing.specs.Patterns.{PatternAt, Binds}
use Rattle.simplicity.specs.Flowed.{StartsFrom, leads_to}
use Rattle.simplicity.specs.Terms.{meaning}
use Rattle.simplicity.specs.Tuples.{tuple_value}
use Rattle.simplicity.specs.Types.{Kind, Value, Pair}
use Rattle.simplicityhl.specs.Kinds.{form}
use Rattle.scope_layout.specs.Paths.{Way, path_term}
use Rattle.scope_layout.specs.Layers.{Layer, Names, Witnesses, Scopes, scopes_kind}
use Rattle.scope_layout.specs.declared.path.Step.{Step}
use Rattle.scope_layout.specs.declared.bound.Sort.{Sort}
use Rattle.scope_layout.specs.declared.bound.Sort.TheVariants as sort

-- the names of a sort that a layer has, with their types
pub data LayerHas : Sort → Layer → List TypedName → Type 0 where
  variables : (p : Pattern) (k : HlType) (names : List TypedName) → Binds (PatternAt k p.form) names → LayerHas sort.Variable (Names p k) names
  no_variables : (witnesses : List TypedName) → LayerHas sort.Variable (Witnesses witnesses) []
  witnesses : (names : List TypedName) → LayerHas sort.Witness (Witnesses names) names
  no_witnesses : (p : Pattern) (k : HlType) → LayerHas sort.Witness (Names p k) []

-- those that a scope has, the innermost first
pub data Has (s : Sort) (root : Layer) : List Layer → List TypedName → Type 0 where
  at_root : (names : List TypedName) → LayerHas s root names → Has s root [] names
  inside : (layer : Layer) (layers : List Layer) (names more : List TypedName) → LayerHas s layer names → Has s root layers more →
      Has s root (layer ∷ layers) (names ++ more)

-- the values of these names in the core value of a layer
pub data LayerHolds : Sort → Layer → Scope → Value → Type 0 where
  variables : (p : Pattern) (k : HlType) (v : HlValue) (values : Scope) (core : Value) → bound p v ≡ Some values → encoded v k ≡ Some core →
      LayerHolds sort.Variable (Names p k) values core
  no_variables : (witnesses : List TypedName) (core : Value) → LayerHolds sort.Variable (Witnesses witnesses) [] core
  witnesses : (names : List TypedName) (vs : List HlValue) (values : Scope) (cores : List Value) → scope_of names vs ≡ Some values →
      at_each (map encoded vs) (map (λ w. w.kind) names) ≡ Some cores → LayerHolds sort.Witness (Witnesses names) values (tuple_value cores)
  no_witnesses : (p : Pattern) (k : HlType) (core : Value) → LayerHolds sort.Witness (Names p k) [] core

-- in that of a scope
pub data Holds (s : Sort) (root : Layer) : List Layer → Scope → Value → Type 0 where
  at_root : (values : Scope) (core : Value) → LayerHolds s root values core → Holds s root [] values core
  inside : (layer : Layer) (layers : List Layer) (values more : Scope) (core rest : Value) → LayerHolds s layer values core →
      Holds s root layers more rest → Holds s root (layer ∷ layers) (values ++ more) (Pair core rest)

-- no path where there is no type; else one that can start from the scope's type and leads to the form of that type
pub data IsTypedWay (a : Kind) : Way → Option HlType → Type 0 where
  nowhere : IsTypedWay a None None
  there : (path : List Step) (k : HlType) → StartsFrom (path_term path) a → leads_to (path_term path) a ≡ form k → IsTypedWay a (Some path) (Some k)

-- no path, type and value; or a path that gives the encoding of the value at the type
pub data LeadsTo (core : Value) : Way → Option HlType → Option HlValue → Type 0 where
  nowhere : LeadsTo core None None None
  there : (path : List Step) (k : HlType) (v : HlValue) (part : Value) → encoded v k ≡ Some part →
      ((w : List Value) → meaning (path_term path) w core ≡ Some part) → LeadsTo core (Some path) (Some k) (Some v)

-- the path of a name: there exactly where the name has a type, and to the first value of the name
pub record IsPath (s : Sort) (name : List ℕ) (scopes : Scopes) (way : Way) : Type 0 where
  pub typed : (names : List TypedName) → Has s scopes.root scopes.bound names → IsTypedWay (scopes_kind scopes) way (variable_type names name)
  pub leads : (names : List TypedName) → Has s scopes.root scopes.bound names → (values : Scope) (core : Value) →
      Holds s scopes.root scopes.bound values core → LeadsTo core way (variable_type names name) (meant name values)
