-- The cells of a word, one more at a time.
use Rattle.std.proofs.Common.{◌≡◌, ℕ, zero, suc, ◌+◌, List, [], ◌∷◌, ◌++◌, length, sym, ap, arith, append_assoc, add-one}
use Rattle.infer_cells.specs.declared.cell.Cell.{Cell}
use Rattle.infer_cells.specs.declared.cell.Cell.TheVariants as cell
use Rattle.infer_cells.specs.Emission.{doubles, word_cells}

doubles_next : (k i j : ℕ) → j ≡ i + k → doubles (suc k) i ≡ doubles k i ++ cell.Product j j ∷ []
doubles_next zero i j is = let same : i ≡ j = omega arith in ap (λ n. cell.Product n n ∷ []) same
doubles_next (suc k) i j is = ap (λ rest. cell.Product i i ∷ rest) (doubles_next k (suc i) j (omega arith))

pub word_next : (start old new : List Cell) (k last : ℕ) → old ≡ start ++ word_cells k (length start) → last ≡ length start + 1 + k → new ≡ old ++ cell.Product last last ∷ [] →
    new ≡ start ++ word_cells (k + 1) (length start)
word_next start old new k last before at pushed =
    rw (pushed, before, add-one, append_assoc)
    (ap (λ rest. start ++ (cell.One ∷ cell.Sum (length start) (length start) ∷ rest)) (sym (doubles_next k (suc (length start)) last (omega arith))))
