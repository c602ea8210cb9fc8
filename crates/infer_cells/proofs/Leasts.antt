-- Least types: one for each cell, below those of every solution, and a solution together.
use Rattle.std.proofs.Common.{◌≡◌, ℕ, zero, suc, ◌+◌, ◌<◌, List, [], ◌∷◌, length, Some, slice_get, refl, sym, subst, arith}
use Rattle.simplicity.specs.Types.{Kind, One, Sum, Product, IsBelow}
use Rattle.infer_cells.specs.declared.cell.Cell.{Cell}
use Rattle.infer_cells.specs.declared.cell.Cell.TheVariants as cell
use Rattle.infer_cells.specs.Cells.{Assignment, Fits, FitFrom, IsPlacedCell, ArePlaced}
use Rattle.infer_cells.specs.Walk.{Least, LeastFree, LeastLink, LeastOne, LeastSum, LeastProduct}
use Rattle.infer_cells.proofs.Fitting.{fit_here, placed_here}

pub least_below : (cells : List Cell) (f : Assignment) → FitFrom f 0 cells → (i : ℕ) (k : Kind) → Least cells i k → IsBelow k (f i)
least_below cells f h _ _ (LeastFree i e) = tt
least_below cells f h _ _ (LeastLink i j k e l) = let same : f i ≡ f j = fit_here f cells i (cell.Link j) h e in rw same (least_below cells f h j k l)
least_below cells f h _ _ (LeastOne i e) = tt
least_below cells f h _ _ (LeastSum i a b k m e l n) =
    let same : f i ≡ Sum (f a) (f b) = fit_here f cells i (cell.Sum a b) h e in
    rw same (least_below cells f h a k l, least_below cells f h b m n)
least_below cells f h _ _ (LeastProduct i a b k m e l n) =
    let same : f i ≡ Product (f a) (f b) = fit_here f cells i (cell.Product a b) h e in
    rw same (least_below cells f h a k l, least_below cells f h b m n)

-- what a cell's least type is made of
pub record Made (cells : List Cell) (x : Kind) (make : Kind → Kind → Kind) (a b : ℕ) : Type 0 where
  pub left : Kind
  pub right : Kind
  pub is : x ≡ make left right
  pub left_least : Least cells a left
  pub right_least : Least cells b right

free_is : (cells : List Cell) (p : ℕ) (x : Kind) → Least cells p x → slice_get cells p ≡ Some cell.Free → x ≡ One
free_is cells _ _ (LeastFree i e) is = refl
free_is cells _ _ (LeastLink i j k e l) is = absurd (cc)
free_is cells _ _ (LeastOne i e) is = absurd (cc)
free_is cells _ _ (LeastSum i a b k m e l n) is = absurd (cc)
free_is cells _ _ (LeastProduct i a b k m e l n) is = absurd (cc)

one_is : (cells : List Cell) (p : ℕ) (x : Kind) → Least cells p x → slice_get cells p ≡ Some cell.One → x ≡ One
one_is cells _ _ (LeastFree i e) is = absurd (cc)
one_is cells _ _ (LeastLink i j k e l) is = absurd (cc)
one_is cells _ _ (LeastOne i e) is = refl
one_is cells _ _ (LeastSum i a b k m e l n) is = absurd (cc)
one_is cells _ _ (LeastProduct i a b k m e l n) is = absurd (cc)

link_is : (cells : List Cell) (q : ℕ) (p : ℕ) (x : Kind) → Least cells p x → slice_get cells p ≡ Some (cell.Link q) → Least cells q x
link_is cells q _ _ (LeastFree i e) is = absurd (cc)
link_is cells q _ _ (LeastLink i j k e l) is = let same : j ≡ q = cc in rw (← same) l
link_is cells q _ _ (LeastOne i e) is = absurd (cc)
link_is cells q _ _ (LeastSum i a b k m e l n) is = absurd (cc)
link_is cells q _ _ (LeastProduct i a b k m e l n) is = absurd (cc)

sum_is : (cells : List Cell) (u v : ℕ) (p : ℕ) (x : Kind) → Least cells p x → slice_get cells p ≡ Some (cell.Sum u v) → Made cells x Sum u v
sum_is cells u v _ _ (LeastFree i e) is = absurd (cc)
sum_is cells u v _ _ (LeastLink i j k e l) is = absurd (cc)
sum_is cells u v _ _ (LeastOne i e) is = absurd (cc)
sum_is cells u v _ _ (LeastSum i a b k m e l n) is = let first : a ≡ u = cc in let second : b ≡ v = cc in record { left = k; right = m; is = refl; left_least = rw (← first) l; right_least = rw (← second) n }
sum_is cells u v _ _ (LeastProduct i a b k m e l n) is = absurd (cc)

product_is : (cells : List Cell) (u v : ℕ) (p : ℕ) (x : Kind) → Least cells p x → slice_get cells p ≡ Some (cell.Product u v) → Made cells x Product u v
product_is cells u v _ _ (LeastFree i e) is = absurd (cc)
product_is cells u v _ _ (LeastLink i j k e l) is = absurd (cc)
product_is cells u v _ _ (LeastOne i e) is = absurd (cc)
product_is cells u v _ _ (LeastSum i a b k m e l n) is = absurd (cc)
product_is cells u v _ _ (LeastProduct i a b k m e l n) is = let first : a ≡ u = cc in let second : b ≡ v = cc in record { left = k; right = m; is = refl; left_least = rw (← first) l; right_least = rw (← second) n }

pub least_same : (cells : List Cell) (i : ℕ) (k m : Kind) → Least cells i k → Least cells i m → k ≡ m
least_same cells _ _ y (LeastFree i e) h = sym (free_is cells i y h e)
least_same cells _ _ y (LeastOne i e) h = sym (one_is cells i y h e)
least_same cells _ _ y (LeastLink i j k e l) h = least_same cells j k y l (link_is cells j i y h e)
least_same cells _ _ y (LeastSum i a b k m e l n) h =
    let made = sum_is cells a b i y h e in
    let first : k ≡ made.left = least_same cells a k made.left l made.left_least in
    let second : m ≡ made.right = least_same cells b m made.right n made.right_least in
    let whole : y ≡ Sum made.left made.right = made.is in
    cc
least_same cells _ _ y (LeastProduct i a b k m e l n) h =
    let made = product_is cells a b i y h e in
    let first : k ≡ made.left = least_same cells a k made.left l made.left_least in
    let second : m ≡ made.right = least_same cells b m made.right n made.right_least in
    let whole : y ≡ Product made.left made.right = made.is in
    cc

-- types that go with each cell go with all
pub fit_each : (f : Assignment) (k : ℕ) (cs : List Cell) → ((i : ℕ) (c : Cell) → slice_get cs i ≡ Some c → Fits f (f (k + i)) c) → FitFrom f k cs
fit_each f k [] each = tt
fit_each f k (c ∷ cs) each =
    let here : k + 0 ≡ k = omega arith in
    let P : ℕ → Type 0 = λ i. Fits f (f i) c in
    (subst P here (each 0 c refl), fit_each f (suc k) cs (next f k c cs each))
  where
    next : (f : Assignment) (k : ℕ) (c : Cell) (cs : List Cell) → ((i : ℕ) (d : Cell) → slice_get (c ∷ cs) i ≡ Some d → Fits f (f (k + i)) d) →
        (i : ℕ) (d : Cell) → slice_get cs i ≡ Some d → Fits f (f (suc k + i)) d
    next f k c cs each i d is =
        let there : k + suc i ≡ suc k + i = omega arith in
        let P : ℕ → Type 0 = λ j. Fits f (f j) d in
        subst P there (each (suc i) d is)

-- a type for each cell that is its least one
AreLeast : List Cell → Assignment → Type 0
AreLeast cells g = (i : ℕ) → i < length cells → Least cells i (g i)

least_fits : (cells : List Cell) (g : Assignment) (i : ℕ) (c : Cell) → AreLeast cells g → i < length cells → slice_get cells i ≡ Some c →
    IsPlacedCell (length cells) i c → Fits g (g i) c
unfolding AreLeast
least_fits cells g i cell.Free all within is placed = tt
least_fits cells g i cell.One all within is placed = least_same cells i (g i) One (all i within) (LeastOne i is)
least_fits cells g i (cell.Link j) all within is placed = least_same cells i (g i) (g j) (all i within) (LeastLink i j (g j) is (all j (omega arith)))
least_fits cells g i (cell.Sum a b) all within is placed =
    least_same cells i (g i) (Sum (g a) (g b)) (all i within) (LeastSum i a b (g a) (g b) is (all a placed.0) (all b placed.1))
least_fits cells g i (cell.Product a b) all within is placed =
    least_same cells i (g i) (Product (g a) (g b)) (all i within) (LeastProduct i a b (g a) (g b) is (all a placed.0) (all b placed.1))

pub within_of : (cells : List Cell) (i : ℕ) (c : Cell) → slice_get cells i ≡ Some c → i < length cells
within_of [] i c is = absurd (cc)
within_of (d ∷ cells) zero c is = omega arith
within_of (d ∷ cells) (suc i) c is = omega (arith, within_of cells i c is)

pub least_solves : (cells : List Cell) (g : Assignment) → ArePlaced cells → ((i : ℕ) → i < length cells → Least cells i (g i)) → FitFrom g 0 cells
unfolding AreLeast
least_solves cells g placed all =
    fit_each g 0 cells (λ i c is.
    let here : i ≡ 0 + i = omega arith in
    let P : ℕ → Type 0 = λ j. Fits g (g j) c in
    subst P here (least_fits cells g i c all (within_of cells i c is) is (placed_here cells i c placed is)))
