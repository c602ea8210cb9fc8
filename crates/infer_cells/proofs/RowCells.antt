-- The rows of a table of types as cells: one solution, which the table gives.
use Rattle.std.proofs.Common.{◌≡◌, ℕ, zero, suc, ◌+◌, ◌<◌, ◌⊎◌, inl, inr, List, [], ◌∷◌, ◌++◌, length, take, Some, slice_get, refl, ap, sym, subst, ◌∙◌, arith}
use Rattle.simplicity.specs.Types.{Kind, Sum, Product}
use Rattle.type_table.specs.Kinds.{kind_at}
use Rattle.infer_cells.specs.declared.cell.Cell.{Cell}
use Rattle.infer_cells.specs.declared.cell.Cell.TheVariants as cell
use Rattle.infer_cells.specs.Cells.{Assignment, Fits, FitFrom, IsPlacedCell, PlacedFrom, ArePlaced}
use Rattle.infer_cells.specs.Constrained.{IsRowCell, AreRowCells}
use Rattle.infer_cells.proofs.Fitting.{fit_here}
use Rattle.infer_cells.proofs.Grown.{given}
use Rattle.infer_cells.proofs.Leasts.{fit_each, within_of}

row_cases : (cs : List Cell) (c d : Cell) (i : ℕ) → slice_get (cs ++ c ∷ []) i ≡ Some d → (slice_get cs i ≡ Some d) ⊎ ((i ≡ length cs) × (c ≡ d))
row_cases [] c d zero is = inr (refl, cc)
row_cases [] c d (suc i) is = cc
row_cases (x ∷ cs) c d zero is = inl is
row_cases (x ∷ cs) c d (suc i) is = elim (row_cases cs c d i is) [ inl h ↦ inl h | inr h ↦ inr (ap suc h.0, h.1) ]

pub rows_push : (kinds : List Kind) (cells new : List Cell) (id : ℕ) (c : Cell) → AreRowCells kinds cells → length cells ≡ id → IsRowCell kinds id c → new ≡ cells ++ c ∷ [] → AreRowCells kinds new
rows_push kinds cells new id c rows count row pushed = record {
  each = λ i d is.
      let P : List Cell → Type 0 = λ xs. slice_get xs i ≡ Some d in
      elim (row_cases cells c d i (subst P pushed is)) [
        | inl h ↦ rows.each i d h
        | inr h ↦
            let here : id ≡ i = sym (h.0 ∙ count) in
            let Q : ℕ → Type 0 = λ j. IsRowCell kinds j c in
            let R : Cell → Type 0 = IsRowCell kinds i in
            subst R h.1 (subst Q here row)
      ];
}

placed_row : (kinds : List Kind) (n id : ℕ) (c : Cell) → id < n → IsRowCell kinds id c → IsPlacedCell n id c
placed_row kinds n id cell.Free h row = absurd row
placed_row kinds n id (cell.Link j) h row = absurd row
placed_row kinds n id cell.One h row = tt
placed_row kinds n id (cell.Sum a b) h row = (omega (arith, row.0), omega (arith, row.1))
placed_row kinds n id (cell.Product a b) h row = (omega (arith, row.0), omega (arith, row.1))

placed_each : (n k : ℕ) (cs : List Cell) → ((i : ℕ) (c : Cell) → slice_get cs i ≡ Some c → IsPlacedCell n (k + i) c) → PlacedFrom n k cs
placed_each n k [] each = tt
placed_each n k (c ∷ cs) each =
    let here : k + 0 ≡ k = omega arith in
    let P : ℕ → Type 0 = λ i. IsPlacedCell n i c in
    (subst P here (each 0 c refl), placed_each n (suc k) cs (next n k c cs each))
  where
    next : (n k : ℕ) (c : Cell) (cs : List Cell) → ((i : ℕ) (d : Cell) → slice_get (c ∷ cs) i ≡ Some d → IsPlacedCell n (k + i) d) →
        (i : ℕ) (d : Cell) → slice_get cs i ≡ Some d → IsPlacedCell n (suc k + i) d
    next n k c cs each i d is =
        let there : k + suc i ≡ suc k + i = omega arith in
        let P : ℕ → Type 0 = λ j. IsPlacedCell n j d in
        subst P there (each (suc i) d is)

pub rows_placed : (kinds : List Kind) (cells : List Cell) → AreRowCells kinds cells → ArePlaced cells
rows_placed kinds cells rows = record {
  each = placed_each (length cells) 0 cells (λ i c is.
      let here : i ≡ 0 + i = omega arith in
      let P : ℕ → Type 0 = λ j. IsPlacedCell (length cells) j c in
      subst P here (placed_row kinds (length cells) i c (within_of cells i c is) (rows.each i c is)));
}

some_cell : (cells : List Cell) (i : ℕ) → i < length cells → (c : Cell) × (slice_get cells i ≡ Some c)
some_cell [] i h = absurd (omega arith)
some_cell (c ∷ cells) zero h = (c, refl)
some_cell (c ∷ cells) (suc i) h = some_cell cells i (omega arith)

-- the type of a row, where those of smaller ids are known
row_is : (kinds : List Kind) (f : Assignment) (id : ℕ) (c : Cell) → Fits f (f id) c → IsRowCell kinds id c → ((j : ℕ) → j < id → f j ≡ kind_at kinds j) → f id ≡ kind_at kinds id
row_is kinds f id cell.Free fits row before = absurd row
row_is kinds f id (cell.Link j) fits row before = absurd row
row_is kinds f id cell.One fits row before = fits ∙ sym row
row_is kinds f id (cell.Sum a b) fits row before =
    let left : f a ≡ kind_at kinds a = before a row.0 in
    let right : f b ≡ kind_at kinds b = before b row.1 in
    fits ∙ ap (λ x. Sum x (f b)) left ∙ ap (Sum (kind_at kinds a)) right ∙ sym row.2
row_is kinds f id (cell.Product a b) fits row before =
    let left : f a ≡ kind_at kinds a = before a row.0 in
    let right : f b ≡ kind_at kinds b = before b row.1 in
    fits ∙ ap (λ x. Product x (f b)) left ∙ ap (Product (kind_at kinds a)) right ∙ sym row.2

rows_below : (kinds : List Kind) (cells : List Cell) (f : Assignment) → AreRowCells kinds cells → FitFrom f 0 cells → (bound id : ℕ) → id < bound → id < length cells → f id ≡ kind_at kinds id
rows_below kinds cells f rows fits zero id h within = absurd (omega arith)
rows_below kinds cells f rows fits (suc bound) id h within =
    let there = some_cell cells id within in
    row_is kinds f id there.0 (fit_here f cells id there.0 fits there.1) (rows.each id there.0 there.1)
    (λ j less. rows_below kinds cells f rows fits bound j (omega arith) (omega arith))

-- each solution has the types of the table
pub rows_tied : (kinds : List Kind) (cells : List Cell) (f : Assignment) → AreRowCells kinds cells → FitFrom f 0 cells → (id : ℕ) → id < length cells → f id ≡ kind_at kinds id
rows_tied kinds cells f rows fits id within = rows_below kinds cells f rows fits (suc id) id (omega arith) within

given_front : (kinds : List Kind) (n i : ℕ) → i < n → given (take n kinds) i ≡ kind_at kinds i
given_front kinds zero i h = absurd (omega arith)
given_front [] (suc n) i h = refl
given_front (k ∷ kinds) (suc n) zero h = refl
given_front (k ∷ kinds) (suc n) (suc i) h = given_front kinds n i (omega arith)

row_fits : (kinds : List Kind) (n id : ℕ) (c : Cell) → id < n → IsRowCell kinds id c → Fits (given (take n kinds)) (given (take n kinds) id) c
row_fits kinds n id cell.Free h row = absurd row
row_fits kinds n id (cell.Link j) h row = absurd row
row_fits kinds n id cell.One h row = given_front kinds n id h ∙ row
row_fits kinds n id (cell.Sum a b) h row =
    let left : given (take n kinds) a ≡ kind_at kinds a = given_front kinds n a (omega (arith, row.0)) in
    let right : given (take n kinds) b ≡ kind_at kinds b = given_front kinds n b (omega (arith, row.1)) in
    given_front kinds n id h ∙ row.2 ∙ ap (λ x. Sum x (kind_at kinds b)) (sym left) ∙ ap (Sum (given (take n kinds) a)) (sym right)
row_fits kinds n id (cell.Product a b) h row =
    let left : given (take n kinds) a ≡ kind_at kinds a = given_front kinds n a (omega (arith, row.0)) in
    let right : given (take n kinds) b ≡ kind_at kinds b = given_front kinds n b (omega (arith, row.1)) in
    given_front kinds n id h ∙ row.2 ∙ ap (λ x. Product x (kind_at kinds b)) (sym left) ∙ ap (Product (given (take n kinds) a)) (sym right)

-- the types of the table are a solution
pub rows_fit : (kinds : List Kind) (cells : List Cell) → AreRowCells kinds cells → FitFrom (given (take (length cells) kinds)) 0 cells
rows_fit kinds cells rows =
    fit_each (given (take (length cells) kinds)) 0 cells (λ i c is.
    let here : i ≡ 0 + i = omega arith in
    let P : ℕ → Type 0 = λ j. Fits (given (take (length cells) kinds)) (given (take (length cells) kinds) j) c in
    subst P here (row_fits kinds (length cells) i c (within_of cells i c is) (rows.each i c is)))
