-- Rows of a table of terms as nodes of a list: each row's node stands at its place, with its children's places.
use Rattle.std.specs.Prelude.{◌≡◌, ℕ, ◌+◌, ◌-◌, ◌<◌, List, [], ◌∷◌, length, Option, Some, None, slice_get, replicate}
use Rattle.std.specs.List.{slice_index_or}
use Rattle.simplicity.specs.Types.{Kind}
use Rattle.simplicity.specs.Nodes as node
use Rattle.simplicity.specs.Nodes.{Node, IsPlaced, witness_number}
use Rattle.simplicity.specs.Typing.{IsTypingAt}
use Rattle.simplicity.specs.Arrows.{declared_arrow}
use Rattle.simplicity.specs.Canon.{Stands}
use Rattle.simplicity.specs.Widths.{level_of}
use Rattle.infer_cells.specs.declared.typing.NodeArrow.{NodeArrow}
use Rattle.infer_cells.specs.Typings.{typing_in, AreBelowBound}
use Rattle.term_core.specs.declared.table_node.Node.{Node as RowNode}
use Rattle.term_core.specs.declared.table_node.Node.TheVariants as code
use Rattle.term_core.specs.declared.table_node.TermRow.{TermRow}
use Rattle.term_core.specs.Terms.{term_at}

-- the place that a list has for an id
abbrev pub place_at : List ℕ → ℕ → ℕ
place_at places id = slice_index_or places id 0

-- the node of a row, by the places of its children; an assertion is a case with a hidden side
abbrev pub listed : (ℕ → ℕ) → ℕ → RowNode → Node
listed place hidden code.Iden = node.Iden
listed place hidden code.Unit = node.UnitNode
listed place hidden (code.Injl i) = node.Injl (place i)
listed place hidden (code.Injr i) = node.Injr (place i)
listed place hidden (code.Take i) = node.Take (place i)
listed place hidden (code.Drop i) = node.Drop (place i)
listed place hidden (code.Comp i j) = node.Comp (place i) (place j)
listed place hidden (code.Case i j) = node.Case (place i) (place j)
listed place hidden (code.Pair i j) = node.Pair (place i) (place j)
listed place hidden (code.AssertL i h) = node.Case (place i) hidden
listed place hidden (code.AssertR h i) = node.Case hidden (place i)
listed place hidden code.Fail = node.Fail (replicate 64 0)
listed place hidden (code.Witness n) = node.Witness
listed place hidden (code.Word w) = node.Word (level_of w.width) w.number

-- the hidden side of an assertion, which has no arrow
abbrev pub hidden_nodes : RowNode → List Node
hidden_nodes (code.AssertL i h) = node.Hidden h ∷ []
hidden_nodes (code.AssertR h i) = node.Hidden h ∷ []
hidden_nodes _ = []

abbrev pub hidden_arrows : RowNode → List (Option NodeArrow)
hidden_arrows (code.AssertL i h) = None ∷ []
hidden_arrows (code.AssertR h i) = None ∷ []
hidden_arrows _ = []

-- the number of a witness
abbrev pub own_names : RowNode → List ℕ
own_names (code.Witness n) = n ∷ []
own_names _ = []

-- an assertion's hidden side stands at a place
abbrev pub SideAt : List Node → List (Option NodeArrow) → ℕ → RowNode → Type 0
SideAt ns arrows place (code.AssertL i h) = (slice_get ns place ≡ Some (node.Hidden h)) × (slice_get arrows place ≡ Some None)
SideAt ns arrows place (code.AssertR h i) = (slice_get ns place ≡ Some (node.Hidden h)) × (slice_get arrows place ≡ Some None)
SideAt ns arrows place _ = Unit {0}

-- a witness node at a place has its number among the names
abbrev pub NameAt : List Node → List ℕ → ℕ → RowNode → Type 0
NameAt ns names place (code.Witness n) = slice_get names (witness_number ns place) ≡ Some n
NameAt ns names place _ = Unit {0}

-- a row's node stands at its place, with its arrow and its name
pub record RowAt (ns : List Node) (arrows : List (Option NodeArrow)) (names : List ℕ) (place : ℕ → ℕ) (id : ℕ) (row : TermRow) : Type 0 where
  pub hidden : ℕ
  pub node : slice_get ns (place id) ≡ Some (listed place hidden row.node)
  pub arrow : slice_get arrows (place id) ≡ Some (Some (record { source = row.source; target = row.target }))
  pub side : SideAt ns arrows hidden row.node
  pub name : NameAt ns names (place id) row.node

-- the first rows of a table stand in the list
abbrev pub AreListed : List TermRow → ℕ → List Node → List (Option NodeArrow) → List ℕ → (ℕ → ℕ) → Type 0
AreListed rows count ns arrows names place = (id : ℕ) (row : TermRow) → id < count → slice_get rows id ≡ Some row → RowAt ns arrows names place id row

-- the rows up to one stand in the list in their order, which ends with that row's node; so this stands for the row's term, and the rows' arrows are a typing
pub record IsRowList (kinds : List Kind) (rows : List TermRow) (root : ℕ) (ns : List Node) (arrows : List (Option NodeArrow)) (names : List ℕ) : Type 0 where
  pub place : ℕ → ℕ
  pub each : AreListed rows (root + 1) ns arrows names place
  pub grows : (i j : ℕ) → i < j → j < root + 1 → place i < place j
  pub last : place root ≡ length ns - 1
  pub full : 0 < length ns
  pub placed : IsPlaced ns
  pub count : length arrows ≡ length ns
  pub named : length names ≡ witness_number ns (length ns)
  pub below : AreBelowBound (length kinds) arrows
  pub typed : IsTypingAt ns (declared_arrow (term_at kinds rows root)) (typing_in kinds arrows)
  pub whole : Stands ns (typing_in kinds arrows) names (length ns - 1) (term_at kinds rows root)
