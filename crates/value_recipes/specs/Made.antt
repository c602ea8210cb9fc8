-- Several terms that were made one after the other.
use Rattle.std.specs.Prelude.{◌≡◌, ℕ, List}
use Rattle.simplicity.specs.Canon.{Declared}
use Rattle.simplicity.specs.Types.{Kind}
use Rattle.term_core.specs.declared.table_node.TermRow.{TermRow}
use Rattle.term_recipes.specs.Shapes.{terms_at, AreThere}

-- the ids are in the table, and mean these terms in order
pub record AreMade (kinds : List Kind) (rows : List TermRow) (ids : List ℕ) (ts : List Declared) : Type 0 where
  pub there : AreThere rows ids
  pub are : terms_at kinds rows ids ≡ ts
