-- A path in two parts is the path in the first that has one, and the type of a name among two lists is that in the first that has it.
use Rattle.std.proofs.Common.{◌≡◌, ℕ, true, false, cond, List, [], ◌∷◌, ◌++◌, bytes_eq, find, Option, Some, None, option_map, refl}
use Rattle.hl_syntax.specs.declared.kinds.HlType.{HlType}
use Rattle.hl_syntax.specs.declared.kinds.TypedName.{TypedName}
use Rattle.simplicity.specs.Canon.{Declared}
use Rattle.simplicity.specs.Makes.{on_first, on_second}
use Rattle.simplicity.specs.Types.{Kind, Product}
use Rattle.hl_rules.specs.Places.{variable_type}
use Rattle.hl_terms.specs.Shapes.{Shape, Both, kind_of}
use Rattle.hl_terms.specs.Paths.{Step, first_steps, path_of, witness_path_of, path_term, variable_term, witness_term}

abbrev pub first_path : Kind → Kind → Option Declared → Option Declared → Option Declared
first_path a b (Some t) other = Some (on_first b t)
first_path a b None (Some t) = Some (on_second a t)
first_path a b None None = None

by_steps : (a b : Kind) (one two : Option (List Step)) →
    option_map (path_term (Product a b)) (first_steps one two) ≡ first_path a b (option_map (path_term a) one) (option_map (path_term b) two)
by_steps a b (Some one) two = refl
by_steps a b None (Some two) = refl
by_steps a b None None = refl

pub both_path : (name : List ℕ) (a b : Shape) → variable_term name (Both a b) ≡ first_path (kind_of a) (kind_of b) (variable_term name a) (variable_term name b)
both_path name a b = by_steps (kind_of a) (kind_of b) (path_of name a) (path_of name b)

pub both_witness : (name : List ℕ) (a b : Shape) → witness_term name (Both a b) ≡ first_path (kind_of a) (kind_of b) (witness_term name a) (witness_term name b)
both_witness name a b = by_steps (kind_of a) (kind_of b) (witness_path_of name a) (witness_path_of name b)

abbrev pub first_type : Option HlType → Option HlType → Option HlType
first_type (Some k) other = Some k
first_type None other = other

pub both_type : (xs ys : List TypedName) (name : List ℕ) → variable_type (xs ++ ys) name ≡ first_type (variable_type xs name) (variable_type ys name)
both_type [] ys name = refl
both_type (x ∷ xs) ys name = elim (bytes_eq name x.name) as (λ t. option_map (λ (k : TypedName). k.kind) (cond t (Some x) (find (λ k. bytes_eq name k.name) (xs ++ ys)))
    ≡ first_type (option_map (λ (k : TypedName). k.kind) (cond t (Some x) (find (λ k. bytes_eq name k.name) xs))) (variable_type ys name)) [
      | true ↦ refl
      | false ↦ both_type xs ys name
    ]
