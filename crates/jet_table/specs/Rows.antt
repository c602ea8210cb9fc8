-- What the code's rows stand for.
use Rattle.std.specs.Prelude.{◌≡◌, IsTrue, ℕ, Bool, true, not, ◌&&◌, List, [], ◌∷◌, map, take, Option, Some, None, is_some}
use Rattle.std.specs.List.{list_all, list_any}
use Rattle.jets.specs.Jet.{Kind, Truth, Number, Row, is_jet, row_at}
use Rattle.word_math.specs.Op.{jet_of}
use Rattle.jet_table.specs.declared.row.JetKind.{JetKind}
use Rattle.jet_table.specs.declared.row.JetKind.TheVariants as code
use Rattle.jet_table.specs.declared.row.JetRow.{JetRow}

abbrev pub kind_of : JetKind → Kind
kind_of code.Bool = Truth
kind_of (code.UInt n) = Number n

-- the types that are there
abbrev pub kinds_of : List (Option JetKind) → List Kind
kinds_of [] = []
kinds_of (None ∷ ks) = kinds_of ks
kinds_of (Some k ∷ ks) = kind_of k ∷ kinds_of ks

abbrev pub row_of : JetRow → Row
row_of r = record {
  name = r.name.now;
  jet = jet_of r.op;
  narrow = r.narrow;
  wide = r.wide;
  arguments = kinds_of r.arguments;
  results = kinds_of r.results;
}

abbrev pub rows_of : List JetRow → List Row
rows_of = map row_of

-- the rows before a place
abbrev pub placed : List JetRow → ℕ → List Row
placed rows at = rows_of (take at rows)

-- what is there comes first
abbrev pub come_first : {A : Type 0} → List (Option A) → Bool
come_first [] = true
come_first (None ∷ xs) = not (list_any is_some xs)
come_first (Some x ∷ xs) = come_first xs

-- of the arguments and of the results of a row, and of those of the rows before a place
abbrev pub is_packed : JetRow → Bool
is_packed r = come_first r.arguments && come_first r.results

abbrev pub are_packed : List JetRow → Bool
are_packed = list_all is_packed

abbrev pub packed_before : List JetRow → ℕ → Bool
packed_before rows at = are_packed (take at rows)

-- the row of a jet that there is, with its name and types
pub record IsRow (r : Row) : Type 0 where
  pub jet : IsTrue (is_jet r.jet r.narrow r.wide)
  pub typed : r ≡ row_at r.jet (r.narrow, r.wide)
