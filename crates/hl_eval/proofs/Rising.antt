-- A row of a table whose names rise, found by its name.
use Rattle.std.proofs.Common.{◌≡◌, ℕ, zero, suc, Bool, true, false, ◌&&◌, cond, List, [], ◌∷◌, map, find, bytes_eq, Option, Some, None, Contains, refl, sym, ap, ◌∙◌, arith, option_map}
use Rattle.std.specs.Prelude.{slice_get}
use Rattle.std.specs.declared.cmp.Ordering.{Ordering}
use Rattle.std.specs.declared.cmp.Ordering.TheVariants.{Less, Equal, Greater}
use Rattle.std.specs.Cmp.Lexicographic.{slice_cmp}
use Rattle.std.specs.Ordering.{is_lt, is_eq, nat_cmp, ordering_reverse}
use Rattle.std.proofs.lemmas.Cmp.{nat_list_cmp_total}
use Rattle.std.proofs.lemmas.Map.Text.{is_eq-slice_cmp}
use Rattle.std.proofs.lemmas.Slice.Eq.{bytes_eq-Decides}
use Rattle.jets.specs.Jet.{Row, row_name}
use Rattle.jet_table.specs.Names.{is_rising}

less_is : (o : Ordering) → is_lt o ≡ true → o ≡ Less
less_is Less e = refl
less_is Equal e = absurd (cc)
less_is Greater e = absurd (cc)

both : (a b : Bool) → a && b ≡ true → (a ≡ true) × (b ≡ true)
both true b e = (refl, e)
both false b e = absurd (cc)

-- a name is below those of all rows after it
below : (x : List ℕ) (rows : List Row) (p : ℕ) (r : Row) → is_rising (x ∷ map row_name rows) ≡ true → slice_get rows p ≡ Some r → slice_cmp nat_cmp x r.name ≡ Less
below x [] p r h e = absurd (cc)
below x (z ∷ rows) zero r h e =
    let same : z ≡ r = cc in let first = less_is (slice_cmp nat_cmp x z.name) (both (is_lt (slice_cmp nat_cmp x z.name)) (is_rising (z.name ∷ map row_name rows)) h).0 in
    ap (λ q. slice_cmp nat_cmp x (row_name q)) (sym same) ∙ first
below x (z ∷ rows) (suc p) r h e =
    let parts = both (is_lt (slice_cmp nat_cmp x z.name)) (is_rising (z.name ∷ map row_name rows)) h in
    nat_list_cmp_total.trans x z.name r.name (less_is (slice_cmp nat_cmp x z.name) parts.0) (below z.name rows p r parts.1 e)

differs : (x y : List ℕ) → slice_cmp nat_cmp x y ≡ Less → bytes_eq y x ≡ false
differs x y e =
    sym (is_eq-slice_cmp y x) ∙ ap is_eq (nat_list_cmp_total.antisymm y x ∙ ap ordering_reverse e)

after_first : (z : Row) (rows : List Row) (p : ℕ) (r : Row) → is_rising (map row_name (z ∷ rows)) ≡ true → slice_get rows p ≡ Some r → is_rising (map row_name rows) ≡ true
after_first z [] p r h e = absurd (cc)
after_first z (y ∷ rows) p r h e = (both (is_lt (slice_cmp nat_cmp z.name y.name)) (is_rising (y.name ∷ map row_name rows)) h).1

passes_by : (b : Bool) (z : Row) (o : Option Row) → b ≡ false → cond b (Some z) o ≡ o
passes_by true z o e = absurd (cc)
passes_by false z o e = refl

takes_first : (b : Bool) (z : Row) (o : Option Row) → b ≡ true → cond b (Some z) o ≡ Some z
takes_first true z o e = refl
takes_first false z o e = absurd (cc)

-- the row that has a name is the first that has it
pub first_named : (name : List ℕ) (rows : List Row) (p : ℕ) (r : Row) → is_rising (map row_name rows) ≡ true → slice_get rows p ≡ Some r → r.name ≡ name → find (λ row. bytes_eq name row.name) rows ≡ Some r
first_named name [] p r h e is = absurd (cc)
first_named name (z ∷ rows) zero r h e is =
    let same : z ≡ r = cc in
    takes_first (bytes_eq name z.name) z (find (λ row. bytes_eq name row.name) rows) ((bytes_eq-Decides name z.name).1 (sym is ∙ ap row_name (sym same))) ∙ ap Some same
first_named name (z ∷ rows) (suc p) r h e is =
    passes_by (bytes_eq name z.name) z (find (λ row. bytes_eq name row.name) rows) (ap (λ n. bytes_eq n z.name) (sym is) ∙ differs z.name r.name (below z.name rows p r h e))
    ∙ first_named name rows p r (after_first z rows p r h e) e is

not_first : (b : Bool) (z : Row) (o : Option Row) → (b ≡ true → ⊥) → cond b (Some z) o ≡ o
not_first true z o h = absurd (h refl)
not_first false z o h = refl

-- a name that no row has
pub none_named : (name : List ℕ) (rows : List Row) → (Contains (map row_name rows) name → ⊥) → find (λ row. bytes_eq name row.name) rows ≡ None
none_named name [] h = refl
none_named name (z ∷ rows) h =
    not_first (bytes_eq name z.name) z (find (λ row. bytes_eq name row.name) rows) (λ e. h (0, omega arith, sym ((bytes_eq-Decides name z.name).0 e)))
    ∙ none_named name rows (λ held. h (later held)) where
      later : Contains (map row_name rows) name → Contains (map row_name (z ∷ rows)) name
      later (k, within, is) = (suc k, omega arith, is)

-- the name of the row at a place
pub named_at : (rows : List Row) (p : ℕ) (r : Row) (name : List ℕ) → slice_get rows p ≡ Some r → option_map row_name (slice_get rows p) ≡ Some name → r.name ≡ name
named_at rows p r name e h = let f = ap (option_map row_name) e in cc
