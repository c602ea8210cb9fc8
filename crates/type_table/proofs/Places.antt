-- The row of a shape is where the map finds it, and a shape that the map doesn't find has no row.
use Rattle.std.proofs.Common.{rules, ◌≡◌, ℕ, zero, suc, Bool, true, false, List, [], ◌∷◌, refl, sym, ap, ◌∙◌, Option, Some, None, slice_get, position}
use Rattle.std.specs.Map.{keys_of, lookup}
use Rattle.std.specs.Option.{option_map}
use Rattle.std.proofs.lemmas.List.Quantifiers.{position-Some}
use Rattle.std.proofs.lemmas.Map.{NonePasses, none_passes_from_lookup}
use Rattle.std.proofs.lemmas.Option.{slice_get-map, slice_get-get_or}
use Rattle.indexmap.proofs.MapLemmas.{Missing-position}
use Rattle.type_table.specs.contracts.shape.ShapePartialEq.TheImpl.{eq-value}
use Rattle.type_table.specs.declared.shape.Shape.{Shape}
use Rattle.type_table.specs.Rows.{Row}

-- `==` on shapes
abbrev pub same : Shape → Shape → Bool
same = eq-value.it

is_same : (s t : Shape) → same s t ≡ true → s ≡ t
is_same s t e = search rules

same_self : (s : Shape) → same s s ≡ true
same_self s = search rules

with_shape : (rows : List Row) (id : ℕ) (s : Shape) (found : Option Row) → slice_get rows id ≡ found → option_map (λ (row : Row). row.0) found ≡ Some s → (row : Row) × (slice_get rows id ≡ Some row) × (row.0 ≡ s)
with_shape rows id s (Some row) at is = (row, at, cc)
with_shape rows id s None at is = cc

pub found_at : (rows : List Row) (s : Shape) (id : ℕ) → Some id ≡ position (same s) (keys_of rows) → (row : Row) × (slice_get rows id ≡ Some row) × (row.0 ≡ s)
found_at rows s id h =
    let passes = position-Some (same s) (keys_of rows) id s (sym h) in
    let at = slice_get-get_or (keys_of rows) id s passes.0 in
    with_shape rows id s (slice_get rows id) refl (sym (slice_get-map (λ (row : Row). row.0) rows id) ∙ at ∙ ap Some (sym (is_same s _ passes.1)))

pub not_there : (rows : List Row) (s : Shape) → None ≡ position (same s) (keys_of rows) → lookup (same s) rows ≡ None
not_there rows s h = (Missing-position (same s) rows (sym h)).value

differs : (s : Shape) (rows : List Row) → NonePasses (same s) rows → (id : ℕ) (other : Row) → slice_get rows id ≡ Some other → same s other.0 ≡ false
differs s [] none id other at = cc
differs s (row ∷ rows) none zero other at = let is : row ≡ other = cc in rw (← is) none.0
differs s (row ∷ rows) none (suc id) other at = differs s rows none.1 id other at

pub absent_from : (rows : List Row) (s : Shape) → lookup (same s) rows ≡ None → (id : ℕ) (other : Row) → slice_get rows id ≡ Some other → ¬ (other.0 ≡ s)
absent_from rows s none id other at is =
    let unlike = differs s rows (none_passes_from_lookup (same s) rows none) id other at in
    let alike : same s other.0 ≡ true = rw is (same_self s) in
    cc
