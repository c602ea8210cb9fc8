-- The rows of witnesses at the leaves of a row's term (this project's own).
use Rattle.std.specs.Prelude.{ℕ, zero, suc, List, [], ◌∷◌, ◌++◌, Option, Some, None, slice_get}
use Rattle.sharing.specs.Leaves.{each_in, NoneTwice}
use Rattle.term_core.specs.declared.table_node.Node.{Node}
use Rattle.term_core.specs.declared.table_node.Node.TheVariants as code
use Rattle.term_core.specs.declared.table_node.TermRow.{TermRow}
use Rattle.term_core.specs.Terms.{child_ids}

abbrev pub own_row : Node → ℕ → List ℕ
own_row (code.Witness n) id = id ∷ []
own_row _ id = []

-- the leaves of a row, by those of its children
abbrev pub leaves_by : (ℕ → List ℕ) → ℕ → Option TermRow → List ℕ
leaves_by f id None = []
leaves_by f id (Some row) = own_row row.node id ++ each_in f (child_ids row.node)

-- the rows of witnesses at the leaves of a row's term, left first, with each as often as it stands there; since
-- children stand before their parents no path is longer than a row's id with one more
abbrev pub leaf_rows : List TermRow → ℕ → ℕ → List ℕ
leaf_rows rows zero id = []
leaf_rows rows (suc depth) id = leaves_by (leaf_rows rows depth) id (slice_get rows id)

-- each witness row has one place in the term of a row
abbrev pub WitnessesAreAlone : List TermRow → ℕ → Type 0
WitnessesAreAlone rows root = NoneTwice (leaf_rows rows (suc root) root)
