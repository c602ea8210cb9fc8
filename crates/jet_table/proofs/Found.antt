-- A row that is found by its name.
use Rattle.std.proofs.Common.{◌≡◌, ℕ, ◌<◌, ◌≤◌, Bool, true, false, List, [], map, Option, Some, None, length, position, option_map, get_or, sym, ap, ◌∙◌, arith, Contains, IfSome, IfNone, slice_get}
use Rattle.std.specs.List.{position_or_len}
use Rattle.std.specs.Str.{bytes_eq}
use Rattle.std.proofs.lemmas.Bool.Decides.{nat_tests}
use Rattle.std.proofs.lemmas.Slice.Eq.{bytes_eq-Decides}
use Rattle.std.proofs.lemmas.Option.{slice_get-map, slice_get-get_or}
use Rattle.std.proofs.lemmas.List.Sums.{fails_before_first}
use Rattle.std.proofs.lemmas.List.{get_or-map, length-map}
use Rattle.std.proofs.lemmas.List.Quantifiers.{position-Some}
use Rattle.jets.specs.Jet.{row_name}
use Rattle.word_math.specs.declared.op.Op.TheVariants.{Add}
use Rattle.jet_table.specs.declared.row.JetRow.{JetRow}
use Rattle.jet_table.specs.Rows.{row_of, rows_of}

-- any row, for places past the end
some_row : JetRow
some_row = record { name = record { ref_ptr = (0, 0); now = [] }; op = Add; narrow = 0; wide = 0; arguments = []; results = [] }

pub row_at_place : (rows : List JetRow) (place : ℕ) (d : JetRow) → place < length rows → slice_get (rows_of rows) place ≡ Some (row_of (get_or rows place d))
row_at_place rows place d within = slice_get-map row_of rows place ∙ ap (option_map row_of) (slice_get-get_or rows place d within)

pub found : (name : List ℕ) (rows : List JetRow) (r : Option ℕ) → r ≡ position (λ row. bytes_eq row.name.now name) rows
    → IfSome r (λ place. option_map row_name (slice_get (rows_of rows) place) ≡ Some name)
found name rows None e = tt
found name rows (Some place) e =
    let at = position-Some (λ (row : JetRow). bytes_eq row.name.now name) rows place some_row (sym e) in
    ap (option_map row_name) (row_at_place rows place some_row at.0)
    ∙ ap Some ((bytes_eq-Decides (get_or rows place some_row).name.now name).0 at.1)

pub found_within : (name : List ℕ) (rows : List JetRow) (n : ℕ) (r : Option ℕ) → length rows ≡ n
    → r ≡ position (λ row. bytes_eq row.name.now name) rows → IfSome r (λ place. place < n)
found_within name rows n None count e = tt
found_within name rows n (Some place) count e =
    let at = position-Some (λ (row : JetRow). bytes_eq row.name.now name) rows place some_row (sym e) in
    omega (arith, count, at.0)

no_place : (name : List ℕ) (rows : List JetRow) → None ≡ position (λ row. bytes_eq row.name.now name) rows
    → Contains (map row_name (rows_of rows)) name → ⊥
no_place name rows e (k, within, is) =
    let p : JetRow → Bool = λ row. bytes_eq row.name.now name in
    let inside : k < length rows = omega (arith, within, length-map (rows_of rows) row_name, length-map rows row_of) in
    let past : length rows ≤ position_or_len p rows = grind (arith, nat_tests) in
    let no : p (get_or rows k some_row) ≡ false = fails_before_first p rows k some_row (omega arith) in
    let at : get_or (map row_name (rows_of rows)) k name ≡ (get_or rows k some_row).name.now =
    get_or-map row_name (rows_of rows) k (row_of some_row) name (omega (arith, within, length-map (rows_of rows) row_name))
    ∙ ap row_name (get_or-map row_of rows k some_row (row_of some_row) inside) in
    let yes : p (get_or rows k some_row) ≡ true = (bytes_eq-Decides (get_or rows k some_row).name.now name).1 (sym at ∙ is) in
    cc

pub absent : (name : List ℕ) (rows : List JetRow) (r : Option ℕ) → r ≡ position (λ row. bytes_eq row.name.now name) rows
    → IfNone r (¬ Contains (map row_name (rows_of rows)) name)
absent name rows (Some place) e = tt
absent name rows None e = λ held. no_place name rows e held
