-- Rows whose names rise are found by their names.
use Rattle.std.proofs.Common.{◌≡◌, ℕ, zero, suc, ◌<◌, Bool, true, false, cond, ◌&&◌, List, [], ◌∷◌, length, map, Some, None, find, refl, sym, ap, ◌∙◌, arith, IsTrue, Contains, Ordering, Option}
use Rattle.std.specs.List.{slice_get}
use Rattle.std.specs.Str.{bytes_eq}
use Rattle.std.specs.Cmp.Lexicographic.{slice_cmp}
use Rattle.std.specs.Ordering.{nat_cmp, is_lt, is_eq, ordering_reverse}
use Rattle.std.specs.declared.cmp.Ordering.TheVariants.{Less, Equal, Greater}
use Rattle.std.proofs.lemmas.Cmp.{nat_list_cmp_total}
use Rattle.std.proofs.lemmas.Map.Text.{is_eq-slice_cmp}
use Rattle.std.proofs.lemmas.Slice.Eq.{bytes_eq-Decides}
use Rattle.jets.specs.Jet.{Row, row_name}
use Rattle.jets.specs.Jet as jets
use Rattle.jet_table.specs.Names.{is_rising}
use Rattle.hl_rules.specs.Exprs.{jet_named, jet_type}
use Rattle.hl_scope.specs.Contexts.{AreJets, AreSoundTypes}
use Rattle.hl_types.proofs.Parts.{sound-UInt}
use Rattle.hl_scope.proofs.Sounds.{sound_bool}
use Rattle.simplicityhl.specs.Kinds.{IsSound, is_width}
use Rattle.std.proofs.Common.{option_map}
use Rattle.std.specs.List.{list_all}

-- a name that stands before another is not the other
apart : (x y : List ℕ) → slice_cmp nat_cmp x y ≡ Less → bytes_eq y x ≡ false
apart x y less = sym (is_eq-slice_cmp y x) ∙ ap is_eq (nat_list_cmp_total.antisymm y x ∙ ap ordering_reverse less)

lt_less : (o : Ordering) → is_lt o ≡ true → o ≡ Less
lt_less Less h = refl
lt_less Equal h = cc
lt_less Greater h = cc

both : (a b : Bool) → IsTrue (a && b) → (a ≡ true) × (b ≡ true)
both true b h = (refl, h)
both false b h = cc

abbrev is_before : Row → Row → Bool
is_before x y = is_lt (slice_cmp nat_cmp x.name y.name)

abbrev are_rising : List Row → Bool
are_rising rows = is_rising (map row_name rows)

rest_of : (x y : Row) (rows : List Row) → IsTrue (are_rising (x ∷ y ∷ rows)) → (is_before x y ≡ true) × (are_rising (y ∷ rows) ≡ true)
rest_of x y rows h = both (is_before x y) (are_rising (y ∷ rows)) h

-- the first of rising names stands before each other one
first_less : (x : Row) (rows : List Row) (place : ℕ) (r : Row) → IsTrue (are_rising (x ∷ rows)) → slice_get rows place ≡ Some r → slice_cmp nat_cmp x.name r.name ≡ Less
first_less x [] place r rising at = cc
first_less x (y ∷ rows) zero r rising at =
    let here : slice_cmp nat_cmp x.name y.name ≡ Less = lt_less (slice_cmp nat_cmp x.name y.name) (rest_of x y rows rising).0 in
    let same : y ≡ r = cc in
    ap (λ (z : Row). slice_cmp nat_cmp x.name z.name) (sym same) ∙ here
first_less x (y ∷ rows) (suc place) r rising at =
    let parts = rest_of x y rows rising in
    nat_list_cmp_total.trans x.name y.name r.name (lt_less (slice_cmp nat_cmp x.name y.name) parts.0) (first_less y rows place r parts.1 at)

rest_rising : (x : Row) (rows : List Row) → IsTrue (are_rising (x ∷ rows)) → IsTrue (are_rising rows)
rest_rising x [] h = refl
rest_rising x (y ∷ rows) h = (rest_of x y rows h).1

not_true : (b : Bool) → (b ≡ true → ⊥) → b ≡ false
not_true true h = absurd (h refl)
not_true false h = refl

find_past : (p : Row → Bool) (x : Row) (rows : List Row) → p x ≡ false → find p (x ∷ rows) ≡ find p rows
find_past p x rows fails = ap (λ b. cond b (Some x) (find p rows)) fails

find_here : (p : Row → Bool) (x : Row) (rows : List Row) → p x ≡ true → find p (x ∷ rows) ≡ Some x
find_here p x rows passes = ap (λ b. cond b (Some x) (find p rows)) passes

-- of rows whose names rise, the one at a place is the first of its name
pub find_rising : (rows : List Row) (place : ℕ) (r : Row) (name : List ℕ) → IsTrue (is_rising (map row_name rows)) → slice_get rows place ≡ Some r → r.name ≡ name →
    find (λ row. bytes_eq name row.name) rows ≡ Some r
find_rising [] place r name rising at is = cc
find_rising (x ∷ rows) zero r name rising at is = let same : x ≡ r = cc in
    find_here (λ row. bytes_eq name row.name) x rows ((bytes_eq-Decides name x.name).1 (sym is ∙ ap (λ (z : Row). z.name) (sym same))) ∙ ap Some same
find_rising (x ∷ rows) (suc place) r name rising at is =
    find_past (λ row. bytes_eq name row.name) x rows (ap (λ n. bytes_eq n x.name) (sym is) ∙ apart x.name r.name (first_less x rows place r rising at))
    ∙ find_rising rows place r name (rest_rising x rows rising) at is

-- a name that no row has is not found
pub find_none : (rows : List Row) (name : List ℕ) → ¬ Contains (map row_name rows) name → find (λ row. bytes_eq name row.name) rows ≡ None
find_none [] name h = refl
find_none (x ∷ rows) name h =
    let first : 0 < suc (length (map row_name rows)) = omega arith in
    let no : bytes_eq name x.name ≡ false = not_true _ (λ yes. h (0, first, sym ((bytes_eq-Decides name x.name).0 yes))) in
    find_past (λ row. bytes_eq name row.name) x rows no ∙ find_none rows name (λ held. h (suc held.0, omega (arith, held.1), held.2))

row_named : (o : Option Row) (r : Row) (name : List ℕ) → o ≡ Some r → option_map row_name o ≡ Some name → r.name ≡ name
row_named None r name at named = cc
row_named (Some x) r name at named = let same : x ≡ r = cc in let is : x.name ≡ name = cc in ap (λ (z : Row). z.name) (sym same) ∙ is

pub jet_found : (rows : List Row) (place : ℕ) (r : Row) (name : List ℕ) → AreJets rows → slice_get rows place ≡ Some r → option_map row_name (slice_get rows place) ≡ Some name → jet_named name ≡ Some r
unfolding jet_named
jet_found rows place r name are at named = ap (find (λ row. bytes_eq name row.name)) (sym are.all) ∙ find_rising rows place r name are.rising at (row_named (slice_get rows place) r name at named)

pub jet_absent : (rows : List Row) (name : List ℕ) → AreJets rows → ¬ Contains (map row_name rows) name → jet_named name ≡ None
unfolding jet_named
jet_absent rows name are h = ap (find (λ row. bytes_eq name row.name)) (sym are.all) ∙ find_none rows name h

-- the types of the arguments of each jet are sound

abbrev sound_kind : jets.Kind → Bool
sound_kind jets.Truth = true
sound_kind (jets.Number width) = is_width width

abbrev sound_row : Row → Bool
sound_row row = list_all sound_kind row.arguments

rows_sound : list_all sound_row jets.rows ≡ true
rows_sound = refl

type_sound : (k : jets.Kind) → sound_kind k ≡ true → IsSound (jet_type k)
type_sound jets.Truth h = sound_bool
type_sound (jets.Number width) h = sound-UInt width ∙ h

types_sound : (kinds : List jets.Kind) → list_all sound_kind kinds ≡ true → AreSoundTypes (map jet_type kinds)
types_sound [] h i d less = absurd (omega arith)
types_sound (k ∷ kinds) h zero d less = type_sound k (both (sound_kind k) (list_all sound_kind kinds) h).0
types_sound (k ∷ kinds) h (suc i) d less = types_sound kinds (both (sound_kind k) (list_all sound_kind kinds) h).1 i d (omega arith)

row_sound : (rows : List Row) (place : ℕ) (r : Row) → list_all sound_row rows ≡ true → slice_get rows place ≡ Some r → sound_row r ≡ true
row_sound [] place r h at = cc
row_sound (x ∷ rows) zero r h at = let same : x ≡ r = cc in ap sound_row (sym same) ∙ (both (sound_row x) (list_all sound_row rows) h).0
row_sound (x ∷ rows) (suc place) r h at = row_sound rows place r (both (sound_row x) (list_all sound_row rows) h).1 at

pub jet_sound : (rows : List Row) (place : ℕ) (r : Row) → AreJets rows → slice_get rows place ≡ Some r → AreSoundTypes (map jet_type r.arguments)
jet_sound rows place r are at = types_sound r.arguments (row_sound jets.rows place r rows_sound (ap (λ xs. slice_get xs place) (sym are.all) ∙ at))
