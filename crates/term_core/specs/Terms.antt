-- A table of terms: its rows, and the term with an arrow at every place that each of them means over a table of types
-- (the typing rules are those of the Simplicity Technical Report, "Core Simplicity"; the zero bytes of a failure are this project's own).
use Rattle.std.specs.Prelude.{◌≡◌, ℕ, ◌<◌, List, [], ◌∷◌, ◌++◌, length, Some, slice_get, replicate}
use Rattle.std.specs.List.{slice_index_or}
use Rattle.simplicity.specs.Types.{Kind, One}
use Rattle.simplicity.specs.Nodes.{AreUnder}
use Rattle.simplicity.specs.Typing.{Arrow, arrow}
use Rattle.simplicity.specs.Arrows.{MeetsRow}
use Rattle.simplicity.specs.Canon.{Declared}
use Rattle.simplicity.specs.Canon as term
use Rattle.simplicity.specs.Widths.{level_of}
use Rattle.type_table.specs.Kinds.{kind_at}
use Rattle.term_core.specs.declared.table_node.Node.{Node}
use Rattle.term_core.specs.declared.table_node.Node.TheVariants as code
use Rattle.term_core.specs.declared.table_node.TermRow.{TermRow}

-- the children of a node, left first
abbrev pub child_ids : Node → List ℕ
child_ids (code.Injl i) = i ∷ []
child_ids (code.Injr i) = i ∷ []
child_ids (code.Take i) = i ∷ []
child_ids (code.Drop i) = i ∷ []
child_ids (code.Comp i j) = i ∷ j ∷ []
child_ids (code.Case i j) = i ∷ j ∷ []
child_ids (code.Pair i j) = i ∷ j ∷ []
child_ids (code.AssertL i h) = i ∷ []
child_ids (code.AssertR h i) = i ∷ []
child_ids _ = []

-- the term at a place of a list; past its end the unit term
abbrev pub term_of : List Declared → ℕ → Declared
term_of terms i = slice_index_or terms i (term.UnitTerm (arrow One One))

-- the term of a node with an arrow, over the terms that its children mean
abbrev pub node_term : List Declared → Node → Arrow → Declared
node_term ts code.Iden a = term.Iden a
node_term ts code.Unit a = term.UnitTerm a
node_term ts (code.Injl i) a = term.Injl a (term_of ts i)
node_term ts (code.Injr i) a = term.Injr a (term_of ts i)
node_term ts (code.Take i) a = term.Take a (term_of ts i)
node_term ts (code.Drop i) a = term.Drop a (term_of ts i)
node_term ts (code.Comp i j) a = term.Comp a (term_of ts i) (term_of ts j)
node_term ts (code.Case i j) a = term.Case a (term_of ts i) (term_of ts j)
node_term ts (code.Pair i j) a = term.PairTerm a (term_of ts i) (term_of ts j)
node_term ts (code.AssertL i h) a = term.AssertL a (term_of ts i) h
node_term ts (code.AssertR h i) a = term.AssertR a h (term_of ts i)
node_term ts code.Fail a = term.Fail a (replicate 64 0)
node_term ts (code.Witness n) a = term.Witness a n
node_term ts (code.Word w) a = term.Word a (level_of w.width) w.number

-- the term of a row
abbrev pub row_term : List Kind → List Declared → TermRow → Declared
row_term kinds ts row = node_term ts row.node (arrow (kind_at kinds row.source) (kind_at kinds row.target))

-- the terms of rows, after those that stand before them
abbrev pub terms_after : List Kind → List Declared → List TermRow → List Declared
terms_after kinds ts [] = ts
terms_after kinds ts (row ∷ rows) = terms_after kinds (ts ++ row_term kinds ts row ∷ []) rows

abbrev pub terms : List Kind → List TermRow → List Declared
terms kinds rows = terms_after kinds [] rows

-- the term that an id of the table means
abbrev pub term_at : List Kind → List TermRow → ℕ → Declared
term_at kinds rows id = term_of (terms kinds rows) id

-- a row may follow those of these terms: its children are among them, its types are in their table, and it meets the typing table
pub record MayFollow (kinds : List Kind) (ts : List Declared) (row : TermRow) : Type 0 where
  pub children : AreUnder (length ts) (child_ids row.node)
  pub source : row.source < length kinds
  pub target : row.target < length kinds
  pub meets : MeetsRow (row_term kinds ts row)

abbrev pub FollowFrom : List Kind → List Declared → List TermRow → Type 0
FollowFrom kinds ts [] = Unit {0}
FollowFrom kinds ts (row ∷ rows) = MayFollow kinds ts row × FollowFrom kinds (ts ++ row_term kinds ts row ∷ []) rows

-- the table stands over the table of types: each row may follow those before it
pub record StandsOver (kinds : List Kind) (rows : List TermRow) : Type 0 where
  pub each : FollowFrom kinds [] rows

-- an id is in the table, and means a term
pub record MeansTerm (kinds : List Kind) (rows : List TermRow) (id : ℕ) (t : Declared) : Type 0 where
  pub within : id < length rows
  pub is : term_at kinds rows id ≡ t

-- rows that were there stay, and more may come
pub record KeepsRows (old new : List TermRow) : Type 0 where
  pub more : List TermRow
  pub is : new ≡ old ++ more

-- a row of the table
abbrev pub HasRow : List TermRow → ℕ → (TermRow → Type 0) → Type 0
HasRow rows id holds = (row : TermRow) × (slice_get rows id ≡ Some row) × holds row
