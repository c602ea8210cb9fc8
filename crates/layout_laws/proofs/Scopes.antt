-- Layers and scopes: their ways, and what they have.
use Rattle.std.proofs.Common.{◌≡◌, ℕ, List, ◌++◌, map, sym, ap, ◌∙◌}
use Rattle.hl_syntax.specs.declared.kinds.TypedName.{TypedName}
use Rattle.simplicity.specs.Types.{Product}
use Rattle.hl_term_laws.proofs.Bound.{pattern_holds}
use Rattle.hl_term_laws.proofs.Tuples.{witnesses_hold}
use Rattle.hl_terms.specs.Paths.{first_steps}
use Rattle.hl_terms.specs.Shapes.{kind_of, variables_of, witnesses_of, pattern_shape, witnesses_shape}
use Rattle.scope_layout.specs.Layers.{Layer, layer_kind, kind_within, layer_path, within}
use Rattle.scope_layout.specs.Leads as leads
use Rattle.scope_layout.specs.Leads.{LayerHas, Has}
use Rattle.scope_layout.specs.declared.bound.Sort.{Sort}
use Rattle.scope_layout.specs.declared.bound.Sort.TheVariants as sort
use Rattle.layout_laws.specs.Laws.{PathsAgree, LayoutsStand}
use Rattle.layout_laws.specs.Scopes.{layer_shape, shape_within, steps_of, steps_to}
use Rattle.layout_laws.proofs.Ways.{either_steps, both_steps, no_variable, no_witness, pattern_agrees, witnesses_agree}

-- ways
layer_agrees : (s : Sort) (name : List ℕ) (layer : Layer) (names : List TypedName) → LayerHas sort.Variable layer names →
    steps_of (layer_path s name layer) ≡ steps_to s name (layer_shape layer)
layer_agrees sort.Variable name _ _ (leads.LayerHas.variables p k names h) = pattern_agrees name k p names h
layer_agrees sort.Witness name _ _ (leads.LayerHas.variables p k names h) = sym (no_witness name (pattern_shape p k) (pattern_holds k p names h).bare)
layer_agrees sort.Variable name _ _ (leads.LayerHas.no_variables ws) = sym (no_variable name (witnesses_shape ws) (witnesses_hold ws).names_are)
layer_agrees sort.Witness name _ _ (leads.LayerHas.no_variables ws) = witnesses_agree name ws

scope_agrees : (s : Sort) (name : List ℕ) (root : Layer) (layers : List Layer) (names : List TypedName) → Has sort.Variable root layers names →
    steps_of (within (map (layer_path s name) layers) (layer_path s name root)) ≡ steps_to s name (shape_within root layers)
scope_agrees s name root _ _ (leads.Has.at_root names h) = layer_agrees s name root names h
scope_agrees s name root _ _ (leads.Has.inside layer layers names more h rest) =
    either_steps (layer_path s name layer) (within (map (layer_path s name) layers) (layer_path s name root))
    ∙ ap (λ o. first_steps o (steps_of (within (map (layer_path s name) layers) (layer_path s name root)))) (layer_agrees s name layer names h)
    ∙ ap (first_steps (steps_to s name (layer_shape layer))) (scope_agrees s name root layers more rest)
    ∙ sym (both_steps s name (layer_shape layer) (shape_within root layers))

pub paths_agree : PathsAgree
paths_agree s name scopes names h = scope_agrees s name scopes.root scopes.bound names h

-- what there is
record LayerStands (layer : Layer) (names witnesses : List TypedName) : Type 0 where
  variables_are : variables_of (layer_shape layer) ≡ names
  witnesses_are : witnesses_of (layer_shape layer) ≡ witnesses
  kind_is : kind_of (layer_shape layer) ≡ layer_kind layer

layer_stands : (layer : Layer) (names witnesses : List TypedName) → LayerHas sort.Variable layer names → LayerHas sort.Witness layer witnesses →
    LayerStands layer names witnesses
layer_stands _ _ _ (leads.LayerHas.variables p k names h) (leads.LayerHas.no_witnesses _ _) =
    let holds = pattern_holds k p names h in
    record { variables_are = holds.names_are; witnesses_are = holds.bare; kind_is = holds.kind_is }
layer_stands _ _ _ (leads.LayerHas.no_variables _) (leads.LayerHas.witnesses ws) =
    let holds = witnesses_hold ws in
    record { variables_are = holds.names_are; witnesses_are = holds.witnesses_are; kind_is = holds.kind_is }

record ScopeStands (root : Layer) (layers : List Layer) (names witnesses : List TypedName) : Type 0 where
  variables_are : variables_of (shape_within root layers) ≡ names
  witnesses_are : witnesses_of (shape_within root layers) ≡ witnesses
  kind_is : kind_of (shape_within root layers) ≡ kind_within root layers

scope_stands : (root : Layer) (layers : List Layer) (names witnesses : List TypedName) →
    Has sort.Variable root layers names → Has sort.Witness root layers witnesses → ScopeStands root layers names witnesses
scope_stands root _ _ _ (leads.Has.at_root names h) (leads.Has.at_root witnesses i) =
    let first = layer_stands root names witnesses h i in
    record { variables_are = first.variables_are; witnesses_are = first.witnesses_are; kind_is = first.kind_is }
scope_stands root _ _ _ (leads.Has.inside layer layers names more h rest) (leads.Has.inside _ _ witnesses others i back) =
    let first = layer_stands layer names witnesses h i in
    let second = scope_stands root layers more others rest back in
    record {
      variables_are = ap (λ l. l ++ variables_of (shape_within root layers)) first.variables_are ∙ ap (λ l. names ++ l) second.variables_are;
      witnesses_are = ap (λ l. l ++ witnesses_of (shape_within root layers)) first.witnesses_are ∙ ap (λ l. witnesses ++ l) second.witnesses_are;
      kind_is = ap (λ k. Product k (kind_of (shape_within root layers))) first.kind_is ∙ ap (Product (layer_kind layer)) second.kind_is;
    }

pub layouts_stand : LayoutsStand
layouts_stand scopes names witnesses h i =
    let stands = scope_stands scopes.root scopes.bound names witnesses h i in
    record { variables_are = stands.variables_are; witnesses_are = stands.witnesses_are; kind_is = stands.kind_is }
