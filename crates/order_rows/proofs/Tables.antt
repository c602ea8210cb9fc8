-- A composition of two witnesses, as rows of a table.
use Rattle.std.proofs.Common.{◌≡◌, refl, ap, sym, subst, ◌∙◌, ℕ, zero, suc, ◌<◌, Bool, true, false, ◌||◌, List, [], ◌∷◌, ◌++◌, Some, arith, eqb-true}
use Rattle.std.specs.Prelude.{slice_get, nat_eq}
use Rattle.sharing.specs.Leaves.{NoneTwice}
use Rattle.term_core.specs.declared.table_node.Node.TheVariants as code
use Rattle.term_core.specs.declared.table_node.TermRow.{TermRow}
use Rattle.term_core.specs.Rows.{row_of, IsNew}
use Rattle.term_core.specs.Terms.{KeepsRows}
use Rattle.row_lists.proofs.Steps.{get_more}
use Rattle.canon_list.specs.Leaves.{leaves_by, leaf_rows, WitnessesAreAlone}

pub row_kept : (old new : List TermRow) (id : ℕ) (row : TermRow) → KeepsRows old new → slice_get old id ≡ Some row → slice_get new id ≡ Some row
row_kept old new id row kept at = ap (λ (rows : List TermRow). slice_get rows id) kept.is ∙ get_more old kept.more id row at

pub witness_new : (rows : List TermRow) (n s t : ℕ) → IsNew rows (row_of (code.Witness n) s t)
witness_new rows n s t id found = let again = found.again in absurd (cc)

apart : (i j : ℕ) (b : Bool) → nat_eq i j ≡ b → (i ≡ j → ⊥) → (nat_eq i j || false) ≡ false
apart i j true e other = absurd (other (eqb-true i j e))
apart i j false e other = rw e refl

module _ (rows : List TermRow) (i j n m s t : ℕ) (first : slice_get rows i ≡ Some (row_of (code.Witness n) s t)) (second : slice_get rows j ≡ Some (row_of (code.Witness m) s t)) (other : i ≡ j → ⊥) where
  pub comp_alone : (root : ℕ) → 0 < root → slice_get rows root ≡ Some (row_of (code.Comp i j) s t) → WitnessesAreAlone rows root
  comp_alone zero some at = absurd (omega (arith, some))
  comp_alone (suc r) some at =
      let left : leaf_rows rows (suc r) i ≡ i ∷ [] = ap (leaves_by (leaf_rows rows r) i) first in
      let right : leaf_rows rows (suc r) j ≡ j ∷ [] = ap (leaves_by (leaf_rows rows r) j) second in
      let all : leaf_rows rows (suc (suc r)) (suc r) ≡ i ∷ j ∷ [] =
      ap (leaves_by (leaf_rows rows (suc r)) (suc r)) at ∙ ap (λ (l : List ℕ). l ++ (leaf_rows rows (suc r) j ++ [])) left ∙ ap (λ (l : List ℕ). i ∷ (l ++ [])) right in
      subst NoneTwice (sym all) (apart i j (nat_eq i j) refl other, (refl, tt))
