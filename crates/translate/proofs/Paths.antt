-- Paths of a layout as the terms of names.
use Rattle.std.proofs.Common.{◌≡◌, ℕ, List, map, Option, Some, None, option_map, refl, sym, ap, ◌∙◌}
use Rattle.hl_syntax.specs.declared.kinds.TypedName.{TypedName}
use Rattle.hl_terms.specs.Paths.{path_term, path_of, witness_path_of, variable_term, witness_term}
use Rattle.hl_terms.specs.Shapes.{kind_of}
use Rattle.hl_terms.specs.Translated.{or_fail, witness_or}
use Rattle.layout_laws.proofs.Scopes.{paths_agree}
use Rattle.layout_laws.specs.Scopes.{scope_shape, step_of, steps_of}
use Rattle.scope_layout.specs.Layers as layers
use Rattle.scope_layout.specs.Layers.{Scopes}
use Rattle.scope_layout.specs.Paths.{Way}
use Rattle.scope_layout.specs.declared.bound.Sort.TheVariants as sort
use Rattle.simplicity.specs.Canon.{Declared}
use Rattle.simplicity.specs.Makes.{fail}
use Rattle.simplicity.specs.Types.{Kind}
use Rattle.translate.specs.Fits.{Stands}
use Rattle.translate.specs.declared.place.Place.{Place}

module _ (p : Place) (scopes : Scopes) (names : List TypedName) (s : Stands p scopes names) (name : List ℕ) (a : Kind) (here : a ≡ kind_of (scope_shape scopes)) (way : Way) where
  by_way : (o : Option _) → steps_of way ≡ o → option_map (path_term (kind_of (scope_shape scopes))) o ≡ option_map (λ steps. path_term a (map step_of steps)) way
  by_way o is = ap (option_map (path_term (kind_of (scope_shape scopes)))) (sym is) ∙ by_case way ∙ ap (λ k. option_map (λ steps. path_term k (map step_of steps)) way) (sym here)
    where
      by_case : (w : Way) → option_map (path_term (kind_of (scope_shape scopes))) (steps_of w) ≡ option_map (λ steps. path_term (kind_of (scope_shape scopes)) (map step_of steps)) w
      by_case None = refl
      by_case (Some steps) = refl

  pub variable_is : way ≡ layers.path_of sort.Variable name scopes → variable_term name (scope_shape scopes) ≡ option_map (λ steps. path_term a (map step_of steps)) way
  variable_is is = by_way (path_of name (scope_shape scopes)) (ap steps_of is ∙ paths_agree sort.Variable name scopes names s.variables)

  pub witness_is : way ≡ layers.path_of sort.Witness name scopes → witness_term name (scope_shape scopes) ≡ option_map (λ steps. path_term a (map step_of steps)) way
  witness_is is = by_way (witness_path_of name (scope_shape scopes)) (ap steps_of is ∙ paths_agree sort.Witness name scopes names s.variables)
