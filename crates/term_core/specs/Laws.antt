-- Laws of tables of terms that every layer above may cite.
use Rattle.std.specs.Prelude.{◌≡◌, ℕ, ◌<◌, List, length}
use Rattle.simplicity.specs.Types.{Kind}
use Rattle.simplicity.specs.Arrows.{IsTypedTerm}
use Rattle.type_table.specs.Kinds.{IsGrown}
use Rattle.term_core.specs.declared.table_node.TermRow.{TermRow}
use Rattle.term_core.specs.Terms.{term_at, StandsOver, KeepsRows}

-- an id means the same once the table and its types have grown
abbrev pub TermsStay : Type 0
TermsStay = (kinds more_kinds : List Kind) (rows more_rows : List TermRow) (id : ℕ) → StandsOver kinds rows → IsGrown kinds more_kinds → KeepsRows rows more_rows →
    id < length rows → term_at more_kinds more_rows id ≡ term_at kinds rows id

-- a table stands over its types once they have grown
abbrev pub StandingStays : Type 0
StandingStays = (kinds more : List Kind) (rows : List TermRow) → StandsOver kinds rows → IsGrown kinds more → StandsOver more rows

-- the terms of a table are typed at every place
abbrev pub TermsAreTyped : Type 0
TermsAreTyped = (kinds : List Kind) (rows : List TermRow) (id : ℕ) → StandsOver kinds rows → id < length rows → IsTypedTerm (term_at kinds rows id)
