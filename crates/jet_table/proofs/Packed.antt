-- Rows whose types that are there come first.
use Rattle.std.proofs.Common.{◌≡◌, ℕ, ◌<◌, Bool, true, false, ◌&&◌, List, ◌++◌, length, get_or, IsTrue, refl, ap, ◌∙◌}
use Rattle.std.proofs.lemmas.List.Folds.{list_all-append, list_all_at}
use Rattle.jet_table.specs.declared.row.JetRow.{JetRow}
use Rattle.jet_table.specs.Rows.{are_packed, is_packed}

exchanged : (a b : Bool) → (a && b) ≡ (b && a)
exchanged true true = refl
exchanged true false = refl
exchanged false true = refl
exchanged false false = refl

pub written_packed : (before family after : List JetRow) → after ≡ before ++ family → are_packed after ≡ (are_packed family && are_packed before)
written_packed before family after e = ap are_packed e ∙ list_all-append is_packed before family ∙ exchanged (are_packed before) (are_packed family)

true_unless_false : (b : Bool) → (b ≡ false → ⊥) → b ≡ true
true_unless_false true h = refl
true_unless_false false h = absurd (h refl)

pub packed_at : (rows : List JetRow) (place : ℕ) (d : JetRow) → place < length rows → IsTrue (are_packed rows) → IsTrue (is_packed (get_or rows place d))
packed_at rows place d within all =
    true_unless_false (is_packed (get_or rows place d))
    (λ no. let none : are_packed rows ≡ false = list_all_at is_packed rows place d within no in cc)
