-- The table of all jets.
use Rattle.std.specs.Prelude.{◌≡◌, IsTrue, List, map}
use Rattle.jets.specs.Jet.{Row, rows, row_name}
use Rattle.jet_table.specs.Names.{is_rising}

-- it has every jet, in the order of their names
pub record IsComplete (table : List Row) : Type 0 where
  pub is : table ≡ rows
  pub rising : IsTrue (is_rising (map row_name table))
