-- What a builder of terms holds, by its tables and ids, and what these mean: types and terms.
use Rattle.std.specs.Prelude.{ℕ, ◌<◌, List, length, map, refl}
use Rattle.std.specs.Coded.{Coded, code_by, coded×, coded_list, coded_ℕ}
use Rattle.std.specs.List.{All}
use Rattle.simplicity.specs.Canon.{Declared}
use Rattle.simplicity.specs.Types.{Kind}
use Rattle.type_table.specs.Code.{coded_kinds}
use Rattle.type_table.specs.Kinds.{kind_at}
use Rattle.term_core.specs.contracts.table_node.TermRow as rows
use Rattle.term_core.specs.declared.table_node.TermRow.{TermRow}
use Rattle.term_core.specs.Terms.{term_at, StandsOver}

-- the tables with the ids that stand on the builder's stacks, the last that was put there first; the terms that are kept stand in
-- the order in which they were
pub record Held : Type 0 where
  pub kinds : List Kind
  pub rows : List TermRow
  pub here : ℕ
  pub outer : List ℕ
  pub made : List ℕ
  pub kept : List ℕ

abbrev pub coded_held : Coded Held
coded_held =
    code_by (List Kind × (List TermRow × (ℕ × (List ℕ × (List ℕ × List ℕ)))))
    (coded× coded_kinds (coded× (coded_list rows.the_row.coded) (coded× coded_ℕ (coded× (coded_list coded_ℕ) (coded× (coded_list coded_ℕ) (coded_list coded_ℕ))))))
    (λ h. (h.kinds, (h.rows, (h.here, (h.outer, (h.made, h.kept))))))
    (λ p. record { kinds = p.0; rows = p.1.0; here = p.1.1.0; outer = p.1.1.1.0; made = p.1.1.1.1.0; kept = p.1.1.1.1.1 })
    (λ _. refl)

-- the ids are those of the tables
pub record IsHeld (h : Held) : Type 0 where
  pub stands : StandsOver h.kinds h.rows
  pub here : h.here < length h.kinds
  pub outer : All (λ id. id < length h.kinds) h.outer
  pub made : All (λ id. id < length h.rows) h.made
  pub kept : All (λ id. id < length h.rows) h.kept

-- the type of the input of the scope, those of the scopes around it, the innermost first; the terms that were made, the last first;
-- and the terms that are kept
pub record State : Type 0 where
  pub here : Kind
  pub outer : List Kind
  pub made : List Declared
  pub kept : List Declared

abbrev pub state_of : Held → State
state_of h =
    record {
      here = kind_at h.kinds h.here;
      outer = map (kind_at h.kinds) h.outer;
      made = map (term_at h.kinds h.rows) h.made;
      kept = map (term_at h.kinds h.rows) h.kept;
    }
