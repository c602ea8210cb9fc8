-- Rows for the terms that are made of terms: what a row needs so that it may be added, and that it means what is made.
use Rattle.std.specs.Prelude.{◌≡◌, ℕ, ◌<◌, List, length}
use Rattle.jets.specs.Unsigned.{Unsigned}
use Rattle.simplicity.specs.Arrows.{source, target}
use Rattle.simplicity.specs.Canon.{Declared}
use Rattle.simplicity.specs.Makes.{fail_root, iden, unit, comp, pair, on_first, on_second, to_left, to_right, by_tag, fail, only_left, only_right, word, witness}
use Rattle.simplicity.specs.Types.{Kind, One, Sum, Product, word_kind}
use Rattle.simplicity.specs.Widths.{level_of}
use Rattle.type_table.specs.Kinds.{Means}
use Rattle.term_core.specs.declared.table_node.Node.{Node}
use Rattle.term_core.specs.declared.table_node.Node.TheVariants as node
use Rattle.term_core.specs.declared.table_node.TermRow.{TermRow}
use Rattle.term_core.specs.Rows.{row_of}
use Rattle.term_core.specs.Terms.{terms, term_at, row_term, MayFollow, StandsOver, HasRow}

-- these ids mean the source and the target of the term at an id
pub record HasArrow (kinds : List Kind) (rows : List TermRow) (id from to : ℕ) : Type 0 where
  pub within : id < length rows
  pub source : Means kinds from (source (term_at kinds rows id))
  pub target : Means kinds to (target (term_at kinds rows id))

abbrev pub ArrowsAreTold : Type 0
ArrowsAreTold =
    (kinds : List Kind) (rows : List TermRow) (id from to : ℕ) → StandsOver kinds rows →
    HasRow rows id (λ row. (row.source ≡ from) × (row.target ≡ to)) → HasArrow kinds rows id from to

-- the row may be added, and then means the term
pub record Made (kinds : List Kind) (rows : List TermRow) (row : TermRow) (t : Declared) : Type 0 where
  pub follows : MayFollow kinds (terms kinds rows) row
  pub means : row_term kinds (terms kinds rows) row ≡ t

pub record RowsAreMade : Type 0 where
  pub iden : (kinds : List Kind) (rows : List TermRow) (a : ℕ) (k : Kind) → Means kinds a k → Made kinds rows (row_of node.Iden a a) (iden k)
  pub unit : (kinds : List Kind) (rows : List TermRow) (a one : ℕ) (k : Kind) → Means kinds a k → Means kinds one One →
      Made kinds rows (row_of node.Unit a one) (unit k)
  pub fail : (kinds : List Kind) (rows : List TermRow) (a b : ℕ) (k l : Kind) → Means kinds a k → Means kinds b l →
      Made kinds rows (row_of node.Fail a b) (fail k l)
  pub witness : (kinds : List Kind) (rows : List TermRow) (n a b : ℕ) (k l : Kind) → Means kinds a k → Means kinds b l →
      Made kinds rows (row_of (node.Witness n) a b) (witness k l n)
  pub word : (kinds : List Kind) (rows : List TermRow) (u : Unsigned) (one b : ℕ) → Means kinds one One →
      Means kinds b (word_kind (level_of u.width)) → Made kinds rows (row_of (node.Word u) one b) (word (level_of u.width) u.number)
  pub comp : (kinds : List Kind) (rows : List TermRow) (i j a b c d : ℕ) → HasArrow kinds rows i a b → HasArrow kinds rows j c d →
      target (term_at kinds rows i) ≡ source (term_at kinds rows j) →
      Made kinds rows (row_of (node.Comp i j) a d) (comp (term_at kinds rows i) (term_at kinds rows j))
  pub pair : (kinds : List Kind) (rows : List TermRow) (i j a b c d both : ℕ) → HasArrow kinds rows i a b → HasArrow kinds rows j c d →
      source (term_at kinds rows j) ≡ source (term_at kinds rows i) →
      Means kinds both (Product (target (term_at kinds rows i)) (target (term_at kinds rows j))) →
      Made kinds rows (row_of (node.Pair i j) a both) (pair (term_at kinds rows i) (term_at kinds rows j))
  pub on_first : (kinds : List Kind) (rows : List TermRow) (i a b both : ℕ) (k : Kind) → HasArrow kinds rows i a b →
      Means kinds both (Product (source (term_at kinds rows i)) k) → Made kinds rows (row_of (node.Take i) both b) (on_first k (term_at kinds rows i))
  pub on_second : (kinds : List Kind) (rows : List TermRow) (i a b both : ℕ) (k : Kind) → HasArrow kinds rows i a b →
      Means kinds both (Product k (source (term_at kinds rows i))) → Made kinds rows (row_of (node.Drop i) both b) (on_second k (term_at kinds rows i))
  pub to_left : (kinds : List Kind) (rows : List TermRow) (i a b either : ℕ) (k : Kind) → HasArrow kinds rows i a b →
      Means kinds either (Sum (target (term_at kinds rows i)) k) → Made kinds rows (row_of (node.Injl i) a either) (to_left k (term_at kinds rows i))
  pub to_right : (kinds : List Kind) (rows : List TermRow) (i a b either : ℕ) (k : Kind) → HasArrow kinds rows i a b →
      Means kinds either (Sum k (target (term_at kinds rows i))) → Made kinds rows (row_of (node.Injr i) a either) (to_right k (term_at kinds rows i))
  pub by_tag : (kinds : List Kind) (rows : List TermRow) (i j a b tagged : ℕ) (k l m : Kind) → HasArrow kinds rows i a b →
      j < length rows → source (term_at kinds rows i) ≡ Product k m → source (term_at kinds rows j) ≡ Product l m →
      target (term_at kinds rows j) ≡ target (term_at kinds rows i) → Means kinds tagged (Product (Sum k l) m) →
      Made kinds rows (row_of (node.Case i j) tagged b) (by_tag k l m (term_at kinds rows i) (term_at kinds rows j))
  pub only_left : (kinds : List Kind) (rows : List TermRow) (i a b tagged : ℕ) (k l m : Kind) → HasArrow kinds rows i a b →
      source (term_at kinds rows i) ≡ Product k m → Means kinds tagged (Product (Sum k l) m) →
      Made kinds rows (row_of (node.AssertL i fail_root) tagged b) (only_left k l m (term_at kinds rows i))
  pub only_right : (kinds : List Kind) (rows : List TermRow) (i a b tagged : ℕ) (k l m : Kind) → HasArrow kinds rows i a b →
      source (term_at kinds rows i) ≡ Product l m → Means kinds tagged (Product (Sum k l) m) →
      Made kinds rows (row_of (node.AssertR fail_root i) tagged b) (only_right k l m (term_at kinds rows i))
