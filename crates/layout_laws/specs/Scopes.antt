-- The scope of terms that a layout stands for, and its steps and paths as the definition of terms has them.
use Rattle.std.specs.Prelude.{ℕ, List, [], ◌∷◌, map, Option, option_map}
use Rattle.hl_terms.specs.Paths as paths
use Rattle.hl_terms.specs.Shapes.{Shape, Both, pattern_shape, witnesses_shape}
use Rattle.scope_layout.specs.Layers.{Layer, Names, Witnesses, Scopes}
use Rattle.scope_layout.specs.Paths.{Way}
use Rattle.scope_layout.specs.declared.bound.Sort.{Sort}
use Rattle.scope_layout.specs.declared.bound.Sort.TheVariants as sort
use Rattle.scope_layout.specs.declared.path.Step.{Step}
use Rattle.scope_layout.specs.declared.path.Step.TheVariants as step

-- the shape of what is bound at once
abbrev pub layer_shape : Layer → Shape
layer_shape (Names pattern kind) = pattern_shape pattern kind
layer_shape (Witnesses names) = witnesses_shape names

-- layers before what the scope began with
abbrev pub shape_within : Layer → List Layer → Shape
shape_within root [] = layer_shape root
shape_within root (layer ∷ layers) = Both (layer_shape layer) (shape_within root layers)

abbrev pub scope_shape : Scopes → Shape
scope_shape s = shape_within s.root s.bound

-- a take is a step to the first part, a drop one to the second
abbrev pub step_of : Step → paths.Step
step_of step.Take = paths.ToFirst
step_of step.Drop = paths.ToSecond

abbrev pub steps_of : Way → Option (List paths.Step)
steps_of way = option_map (map step_of) way

-- the steps to the innermost variable of a name, or to the bound witness of a name
abbrev pub steps_to : Sort → List ℕ → Shape → Option (List paths.Step)
steps_to sort.Variable name scope = paths.path_of name scope
steps_to sort.Witness name scope = paths.witness_path_of name scope
