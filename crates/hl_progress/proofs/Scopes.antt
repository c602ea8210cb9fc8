-- Scopes of values for scopes of types.
use Rattle.std.proofs.Common.{◌≡◌, ℕ, true, false, List, [], ◌∷◌, ◌++◌, find, cond, bytes_eq, Some, option_map, refl, ap, ◌∙◌, subst}
use Rattle.std.proofs.lemmas.Slice.Eq.{bytes_eq-Decides}
use Rattle.std.specs.List.{AllZip}
use Rattle.hl_data.specs.declared.value.HlValue.{HlValue}
use Rattle.hl_syntax.specs.declared.kinds.HlType.{HlType}
use Rattle.hl_syntax.specs.declared.kinds.TypedName.{TypedName}
use Rattle.hl_meaning.specs.Scopes as scopes
use Rattle.hl_meaning.specs.Scopes.{Binding, meant}
use Rattle.hl_rules.specs.Places.{Scope, variable_type}
use Rattle.hl_typing.proofs.Every.{Every}
use Rattle.hl_meaning.specs.Entries.{IsValueOf}
use Rattle.hl_progress.specs.Held.{HasValue}

-- the names have values of their types
abbrev pub HaveValues : List Binding → List TypedName → Type 0
HaveValues scope names = Every (HasValue scope) names

abbrev pub FitsName : TypedName → Binding → Type 0
FitsName name binding = (binding.name ≡ name.name) × IsValueOf binding.value name.kind

abbrev pub ScopeFits : Scope → scopes.Scope → Type 0
ScopeFits names values = AllZip FitsName names values

pub scope_join : (names more : Scope) (values rest : scopes.Scope) → ScopeFits names values → ScopeFits more rest → ScopeFits (names ++ more) (values ++ rest)
scope_join [] more [] rest h k = k
scope_join [] more (v ∷ values) rest h k = absurd h
scope_join (n ∷ names) more [] rest h k = absurd h
scope_join (n ∷ names) more (v ∷ values) rest h k = (h.0, scope_join names more values rest h.1 k)

-- a name with what it means, a value of its type
abbrev pub Means : List ℕ → scopes.Scope → HlType → Type 0
Means name values k = (v : HlValue) × (meant name values ≡ Some v) × IsValueOf v k

-- a variable means a value of its type
pub name_value : (name : List ℕ) (scope : Scope) (values : scopes.Scope) (k : HlType) → variable_type scope name ≡ Some k → ScopeFits scope values → Means name values k
name_value name [] values k is fit = absurd (cc)
name_value name (n ∷ scope) [] k is fit = absurd fit
name_value name (n ∷ scope) (b ∷ values) k is fit =
    let same : bytes_eq name b.name ≡ bytes_eq name n.name = ap (bytes_eq name) fit.0.0 in
    elim (bytes_eq name n.name) as (λ t. bytes_eq name n.name ≡ t → option_map (λ (m : TypedName). m.kind) (cond t (Some n) (find (λ m. bytes_eq name m.name) scope)) ≡ Some k → Means name (b ∷ values) k) [
      | true ↦ λ here found.
          let kind_is : n.kind ≡ k = cc in
          (b.value, ap (λ t. option_map (λ (c : Binding). c.value) (cond t (Some b) (find (λ c. bytes_eq name c.name) values))) (same ∙ here), subst (IsValueOf b.value) kind_is fit.0.1)
      | false ↦ λ past found.
          let r = name_value name scope values k found fit.1 in
          (r.0, ap (λ t. option_map (λ (c : Binding). c.value) (cond t (Some b) (find (λ c. bytes_eq name c.name) values))) (same ∙ past) ∙ r.1, r.2)
    ] refl is

-- and so does a witness
pub witness_value : (name : List ℕ) (names : List TypedName) (witness : List Binding) (k : HlType) → variable_type names name ≡ Some k → HaveValues witness names → Means name witness k
witness_value name [] witness k is have = absurd (cc)
witness_value name (n ∷ names) witness k is have =
    elim (bytes_eq name n.name) as (λ t. bytes_eq name n.name ≡ t → option_map (λ (m : TypedName). m.kind) (cond t (Some n) (find (λ m. bytes_eq name m.name) names)) ≡ Some k → Means name witness k) [
      | true ↦ λ here found.
          let kind_is : n.kind ≡ k = cc in
          let same : name ≡ n.name = (bytes_eq-Decides name n.name).0 here in
          (have.0.value, ap (λ word. meant word witness) same ∙ have.0.is, subst (IsValueOf have.0.value) kind_is have.0.fits)
      | false ↦ λ past found. witness_value name names witness k found have.1
    ] refl is
