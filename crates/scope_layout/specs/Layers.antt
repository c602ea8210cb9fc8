-- Layers: what is bound at once; scopes: layers, the innermost first, before what the scope began with.
-- The value of a scope is that of its innermost layer beside that of the rest (this project's own).
use Rattle.std.specs.Prelude.{◌≡◌, ℕ, List, [], ◌∷◌, map, None}
use Rattle.hl_syntax.specs.declared.kinds.HlType.{HlType}
use Rattle.hl_syntax.specs.declared.kinds.TypedName.{TypedName}
use Rattle.hl_syntax.specs.declared.tree.Pattern.{Pattern}
use Rattle.simplicity.specs.Tuples.{tuple_kind}
use Rattle.simplicity.specs.Types.{Kind, Product}
use Rattle.simplicityhl.specs.Kinds.{form}
use Rattle.scope_layout.specs.Paths.{Way, in_either, variable_path, witness_path}
use Rattle.scope_layout.specs.declared.bound.Bound.{Bound}
use Rattle.scope_layout.specs.declared.bound.Bound.TheVariants as bound
use Rattle.scope_layout.specs.declared.bound.Sort.{Sort}
use Rattle.scope_layout.specs.declared.bound.Sort.TheVariants as sort

-- the names of a pattern at a type, or a tuple of witnesses
pub data Layer : Type 0 where
  Names : Pattern → HlType → Layer
  Witnesses : List TypedName → Layer

abbrev pub layer_of : Bound → Layer
layer_of (bound.Names pattern kind) = Names pattern.now kind.now
layer_of (bound.Witnesses names) = Witnesses names.now

pub record Scopes : Type 0 where
  pub root : Layer
  pub bound : List Layer

-- a layer before a scope
abbrev pub inside : Layer → Scopes → Scopes
inside layer s = record { root = s.root; bound = layer ∷ s.bound }

-- the first scope without its innermost layer is the second
abbrev pub IsWithin : Scopes → Scopes → Type 0
IsWithin s outer = (layer : Layer) × (s ≡ inside layer outer)

-- types
abbrev pub layer_kind : Layer → Kind
layer_kind (Names pattern kind) = form kind
layer_kind (Witnesses names) = tuple_kind (map form (map (λ w. w.kind) names))

abbrev pub kind_within : Layer → List Layer → Kind
kind_within root [] = layer_kind root
kind_within root (layer ∷ layers) = Product (layer_kind layer) (kind_within root layers)

abbrev pub scopes_kind : Scopes → Kind
scopes_kind s = kind_within s.root s.bound

-- paths: to the innermost layer that has the name
abbrev pub layer_path : Sort → List ℕ → Layer → Way
layer_path sort.Variable name (Names pattern kind) = variable_path name pattern
layer_path sort.Variable name (Witnesses names) = None
layer_path sort.Witness name (Names pattern kind) = None
layer_path sort.Witness name (Witnesses names) = witness_path name names

abbrev pub within : List Way → Way → Way
within [] root = root
within (way ∷ ways) root = in_either way (within ways root)

abbrev pub path_of : Sort → List ℕ → Scopes → Way
path_of kind name s = within (map (layer_path kind name) s.bound) (layer_path kind name s.root)
