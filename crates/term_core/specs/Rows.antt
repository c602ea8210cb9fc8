-- Which rows of a table are found again: those that stand there, but for witnesses, each of which stands for itself.
use Rattle.std.specs.Prelude.{◌≡◌, ℕ, Bool, true, false, List, Some, slice_get}
use Rattle.term_core.specs.declared.table_node.Node.{Node}
use Rattle.term_core.specs.declared.table_node.Node.TheVariants as code
use Rattle.term_core.specs.declared.table_node.TermRow.{TermRow}

-- a node with the ids of its source and its target
abbrev pub row_of : Node → ℕ → ℕ → TermRow
row_of node source target = record { node = node; source = source; target = target }

abbrev pub is_witness : Node → Bool
is_witness (code.Witness n) = true
is_witness _ = false

-- the row stands at the id, and is found there again: it is no witness's
pub record IsFoundAt (rows : List TermRow) (id : ℕ) (row : TermRow) : Type 0 where
  pub at : slice_get rows id ≡ Some row
  pub again : is_witness row.node ≡ false

-- the row is found nowhere
abbrev pub IsNew : List TermRow → TermRow → Type 0
IsNew rows row = (id : ℕ) → IsFoundAt rows id row → ⊥

-- no two rows but those of witnesses are equal
pub record AreDistinct (rows : List TermRow) : Type 0 where
  pub same : (i j : ℕ) (row : TermRow) → IsFoundAt rows i row → IsFoundAt rows j row → i ≡ j
