-- How a table keeps its rows: each with what tells it from equal ones.
use Rattle.std.specs.Prelude.{◌≡◌, ℕ, List, map, Some, slice_get}
use Rattle.term_core.specs.declared.keyed.KeyedRow.{KeyedRow}
use Rattle.term_core.specs.declared.table_node.Node.{Node}
use Rattle.term_core.specs.declared.table_node.Node.TheVariants as code
use Rattle.term_core.specs.declared.table_node.TermRow.{TermRow}
use Rattle.term_core.specs.Rows.{AreDistinct}

abbrev pub rows_of : List KeyedRow → List TermRow
rows_of keys = map (λ key. key.row) keys

-- the id of a witness, since each stands for itself; 0 for every other node
abbrev pub turn_of : Node → ℕ → ℕ
turn_of (code.Witness n) id = id
turn_of _ id = 0

-- each key is that of its row and its id, and no two rows but those of witnesses are equal
pub record IsKeyed (keys : List KeyedRow) : Type 0 where
  pub each : (id : ℕ) (key : KeyedRow) → slice_get keys id ≡ Some key → key.turn ≡ turn_of key.row.node id
  pub distinct : AreDistinct (rows_of keys)
