-- Parameters and witnesses as tuples: their shapes' names, witnesses and types.
use Rattle.std.proofs.Common.{◌≡◌, List, [], ◌∷◌, ◌++◌, map, refl, ap, ◌∙◌, append_assoc, append-nil}
use Rattle.hl_syntax.specs.declared.kinds.HlType.{HlType}
use Rattle.hl_syntax.specs.declared.kinds.TypedName.{TypedName}
use Rattle.simplicity.proofs.Tuples.{halves_map, halves_right, from_right}
use Rattle.simplicity.specs.Tuples.{tuple_kind}
use Rattle.simplicity.specs.Types.{Kind, One, Product}
use Rattle.simplicityhl.specs.Kinds.{form}
use Rattle.hl_terms.specs.Shapes.{Shape, Ignored, Variable, Witness, Both, kind_of, variables_of, witnesses_of, joined, params_shape, witnesses_shape}

abbrev kinds_of : List TypedName → List HlType
kinds_of ps = map (λ (p : TypedName). p.kind) ps

-- a measure of shapes that joins by lists, over a tuple of parts
list_of : (measure : Shape → List TypedName) → measure (Ignored One) ≡ [] → ((a b : Shape) → measure (Both a b) ≡ measure a ++ measure b) → (parts : List Shape) →
    measure (joined parts) ≡ from_right [] ◌++◌ (map measure parts)
list_of measure none both parts = halves_map measure (Ignored One) Both [] ◌++◌ none both parts ∙ halves_right [] ◌++◌ append_assoc (λ a. refl) append-nil (map measure parts)

each_variable : (ps : List TypedName) → from_right [] ◌++◌ (map variables_of (map (λ (p : TypedName). Variable p.name p.kind) ps)) ≡ ps
each_variable [] = refl
each_variable (p ∷ ps) = ap (λ l. p ∷ l) (each_variable ps)

none_bound : (ps : List TypedName) → from_right [] ◌++◌ (map witnesses_of (map (λ (p : TypedName). Variable p.name p.kind) ps)) ≡ []
none_bound [] = refl
none_bound (p ∷ ps) = none_bound ps

each_witness : (ps : List TypedName) → from_right [] ◌++◌ (map witnesses_of (map (λ (p : TypedName). Witness p.name p.kind) ps)) ≡ ps
each_witness [] = refl
each_witness (p ∷ ps) = ap (λ l. p ∷ l) (each_witness ps)

none_variable : (ps : List TypedName) → from_right [] ◌++◌ (map variables_of (map (λ (p : TypedName). Witness p.name p.kind) ps)) ≡ []
none_variable [] = refl
none_variable (p ∷ ps) = none_variable ps

pub record Holds (shape : Shape) (names witnesses : List TypedName) (kind : Kind) : Type 0 where
  pub names_are : variables_of shape ≡ names
  pub witnesses_are : witnesses_of shape ≡ witnesses
  pub kind_is : kind_of shape ≡ kind

variable_kinds : (ps : List TypedName) → map kind_of (map (λ (p : TypedName). Variable p.name p.kind) ps) ≡ map form (kinds_of ps)
variable_kinds [] = refl
variable_kinds (p ∷ ps) = ap (λ l. form p.kind ∷ l) (variable_kinds ps)

witness_kinds : (ps : List TypedName) → map kind_of (map (λ (p : TypedName). Witness p.name p.kind) ps) ≡ map form (kinds_of ps)
witness_kinds [] = refl
witness_kinds (p ∷ ps) = ap (λ l. form p.kind ∷ l) (witness_kinds ps)

pub params_hold : (ps : List TypedName) → Holds (params_shape ps) ps [] (tuple_kind (map form (kinds_of ps)))
params_hold ps = record {
  names_are = list_of variables_of refl (λ a b. refl) (map (λ (p : TypedName). Variable p.name p.kind) ps) ∙ each_variable ps;
  witnesses_are = list_of witnesses_of refl (λ a b. refl) (map (λ (p : TypedName). Variable p.name p.kind) ps) ∙ none_bound ps;
  kind_is = halves_map kind_of (Ignored One) Both One Product refl (λ a b. refl) (map (λ (p : TypedName). Variable p.name p.kind) ps) ∙ ap tuple_kind (variable_kinds ps);
}

pub witnesses_hold : (ps : List TypedName) → Holds (witnesses_shape ps) [] ps (tuple_kind (map form (kinds_of ps)))
witnesses_hold ps = record {
  names_are = list_of variables_of refl (λ a b. refl) (map (λ (p : TypedName). Witness p.name p.kind) ps) ∙ none_variable ps;
  witnesses_are = list_of witnesses_of refl (λ a b. refl) (map (λ (p : TypedName). Witness p.name p.kind) ps) ∙ each_witness ps;
  kind_is = halves_map kind_of (Ignored One) Both One Product refl (λ a b. refl) (map (λ (p : TypedName). Witness p.name p.kind) ps) ∙ ap tuple_kind (witness_kinds ps);
}
