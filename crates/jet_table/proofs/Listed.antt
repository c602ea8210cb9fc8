-- Each row of the language's list is that of a jet.
use Rattle.std.proofs.Common.{◌≡◌, ℕ, zero, suc, ◌<◌, Bool, true, false, ◌&&◌, ◌||◌, nat_eq, List, [], ◌∷◌, length, get_or, Some, slice_get, All, refl, sym, subst, arith}
use Rattle.std.specs.List.{list_any, flat_map}
use Rattle.std.proofs.lemmas.Bool.Decides.{nat_tests}
use Rattle.std.proofs.lemmas.Option.{slice_get_within, get_or_from_slice_get}
use Rattle.std.proofs.lemmas.List.Elements.{All-from_get_or, All-get_or, All-append, All-map}
use Rattle.jets.specs.Jet as jet
use Rattle.jets.specs.Jet.{Jet, Row, row_at, family, sizes, jets}
use Rattle.jet_table.specs.Rows.{IsRow}

second_true : (a b : Bool) → b ≡ true → (a || b) ≡ true
second_true true b e = refl
second_true false b e = e

equal : (n : ℕ) → nat_eq n n ≡ true
equal n = grind (arith, nat_tests)

any_at : (xs : List (ℕ × ℕ)) (i : ℕ) (d : ℕ × ℕ) → i < length xs
    → list_any (λ t. nat_eq t.0 (get_or xs i d).0 && nat_eq t.1 (get_or xs i d).1) xs ≡ true
any_at [] i d within = absurd (omega arith)
any_at (x ∷ xs) zero d within = rw (equal x.0, equal x.1) refl
any_at (x ∷ xs) (suc i) d within = second_true _ _ (any_at xs i d (omega arith))

family_rows : (j : Jet) → All IsRow (family j)
family_rows j =
    All-map IsRow (row_at j) (sizes j)
    (All-from_get_or (λ s. IsRow (row_at j s)) (sizes j) (0, 0) (λ i within. record { jet = any_at (sizes j) i (0, 0) within; typed = refl }))

all_rows : (js : List Jet) → All IsRow (flat_map family js)
all_rows [] = All-from_get_or IsRow [] (row_at jet.Verify (1, 1)) (λ i within. absurd (omega arith))
all_rows (j ∷ js) = All-append IsRow (family j) (flat_map family js) (family_rows j) (all_rows js)

pub row_is : (rows : List Row) (place : ℕ) (r : Row) → rows ≡ jet.rows → slice_get rows place ≡ Some r → IsRow r
row_is rows place r e at =
    let all : All IsRow rows = subst (λ (xs : List Row). All IsRow xs) (sym e) (all_rows jets) in
    subst (λ (x : Row). IsRow x) (get_or_from_slice_get rows place r r at)
    (All-get_or IsRow rows place r (slice_get_within rows place r at) all)
