-- Types that go with cells, one cell at a time.
use Rattle.std.proofs.Common.{◌≡◌, ℕ, zero, suc, ◌+◌, List, [], ◌∷◌, ◌++◌, length, Some, slice_get, refl, ap, subst, arith}
use Rattle.std.proofs.Math.ListN.{set}
use Rattle.infer_cells.specs.declared.cell.Cell.{Cell}
use Rattle.infer_cells.specs.declared.cell.Equation.{Equation}
use Rattle.infer_cells.specs.Cells.{Assignment, Fits, FitFrom, AreEqual, IsPlacedCell, PlacedFrom, ArePlaced, AreWithin}

pub fit_at : (f : Assignment) (k : ℕ) (cs : List Cell) (i : ℕ) (c : Cell) → FitFrom f k cs → slice_get cs i ≡ Some c → Fits f (f (k + i)) c
fit_at f k [] i c h is = absurd (cc)
fit_at f k (d ∷ cs) zero c h is =
    let same : d ≡ c = cc in
    let here : k ≡ k + 0 = omega arith in
    let P : Cell → Type 0 = λ e. Fits f (f (k + 0)) e in
    subst P same (let Q : ℕ → Type 0 = λ i. Fits f (f i) d in subst Q here h.0)
fit_at f k (d ∷ cs) (suc i) c h is =
    let here : suc k + i ≡ k + suc i = omega arith in
    let Q : ℕ → Type 0 = λ j. Fits f (f j) c in
    subst Q here (fit_at f (suc k) cs i c h.1 is)

pub fit_here : (f : Assignment) (cs : List Cell) (i : ℕ) (c : Cell) → FitFrom f 0 cs → slice_get cs i ≡ Some c → Fits f (f i) c
fit_here f cs i c h is =
    let here : 0 + i ≡ i = omega arith in
    let Q : ℕ → Type 0 = λ j. Fits f (f j) c in
    subst Q here (fit_at f 0 cs i c h is)

pub fit_set : (f : Assignment) (k : ℕ) (cs : List Cell) (i : ℕ) (c : Cell) → FitFrom f k cs → Fits f (f (k + i)) c → FitFrom f k (set cs i c)
fit_set f k [] i c h new = tt
fit_set f k (d ∷ cs) zero c h new =
    let here : k + 0 ≡ k = omega arith in
    let Q : ℕ → Type 0 = λ j. Fits f (f j) c in
    (subst Q here new, h.1)
fit_set f k (d ∷ cs) (suc i) c h new =
    let here : k + suc i ≡ suc k + i = omega arith in
    let Q : ℕ → Type 0 = λ j. Fits f (f j) c in
    (h.0, fit_set f (suc k) cs i c h.1 (subst Q here new))

-- what was there before a cell was replaced
pub fit_unset : (f : Assignment) (k : ℕ) (cs : List Cell) (i : ℕ) (c d : Cell) → slice_get cs i ≡ Some d → FitFrom f k (set cs i c) → Fits f (f (k + i)) d → FitFrom f k cs
fit_unset f k [] i c d is h old = tt
fit_unset f k (e ∷ cs) zero c d is h old =
    let same : d ≡ e = cc in
    let here : k + 0 ≡ k = omega arith in
    let P : Cell → Type 0 = λ b. Fits f (f k) b in
    let Q : ℕ → Type 0 = λ j. Fits f (f j) d in
    (subst P same (subst Q here old), h.1)
fit_unset f k (e ∷ cs) (suc i) c d is h old =
    let here : k + suc i ≡ suc k + i = omega arith in
    let Q : ℕ → Type 0 = λ j. Fits f (f j) d in
    (h.0, fit_unset f (suc k) cs i c d is h.1 (subst Q here old))

pub get_set_same : {A : Type 0} (cs : List A) (i : ℕ) (c d : A) → slice_get cs i ≡ Some d → slice_get (set cs i c) i ≡ Some c
get_set_same [] i c d is = absurd (cc)
get_set_same (e ∷ cs) zero c d is = refl
get_set_same (e ∷ cs) (suc i) c d is = get_set_same cs i c d is

pub get_set_other : {A : Type 0} (cs : List A) (i j : ℕ) (c : A) → ¬ (i ≡ j) → slice_get (set cs i c) j ≡ slice_get cs j
get_set_other [] i j c apart = refl
get_set_other (e ∷ cs) zero zero c apart = absurd (apart refl)
get_set_other (e ∷ cs) zero (suc j) c apart = refl
get_set_other (e ∷ cs) (suc i) zero c apart = refl
get_set_other (e ∷ cs) (suc i) (suc j) c apart = get_set_other cs i j c (λ e. apart (ap suc e))

pub placed_at : (n k : ℕ) (cs : List Cell) (i : ℕ) (c : Cell) → PlacedFrom n k cs → slice_get cs i ≡ Some c → IsPlacedCell n (k + i) c
placed_at n k [] i c h is = absurd (cc)
placed_at n k (d ∷ cs) zero c h is =
    let same : d ≡ c = cc in
    let here : k ≡ k + 0 = omega arith in
    let P : Cell → Type 0 = λ e. IsPlacedCell n (k + 0) e in
    let Q : ℕ → Type 0 = λ i. IsPlacedCell n i d in
    subst P same (subst Q here h.0)
placed_at n k (d ∷ cs) (suc i) c h is =
    let here : suc k + i ≡ k + suc i = omega arith in
    let Q : ℕ → Type 0 = λ j. IsPlacedCell n j c in
    subst Q here (placed_at n (suc k) cs i c h.1 is)

pub placed_here : (cs : List Cell) (i : ℕ) (c : Cell) → ArePlaced cs → slice_get cs i ≡ Some c → IsPlacedCell (length cs) i c
placed_here cs i c h is =
    let here : 0 + i ≡ i = omega arith in
    let Q : ℕ → Type 0 = λ j. IsPlacedCell (length cs) j c in
    subst Q here (placed_at (length cs) 0 cs i c h.each is)

pub placed_set : (n k : ℕ) (cs : List Cell) (i : ℕ) (c : Cell) → PlacedFrom n k cs → IsPlacedCell n (k + i) c → PlacedFrom n k (set cs i c)
placed_set n k [] i c h new = tt
placed_set n k (d ∷ cs) zero c h new =
    let here : k + 0 ≡ k = omega arith in
    let Q : ℕ → Type 0 = λ j. IsPlacedCell n j c in
    (subst Q here new, h.1)
placed_set n k (d ∷ cs) (suc i) c h new =
    let here : k + suc i ≡ suc k + i = omega arith in
    let Q : ℕ → Type 0 = λ j. IsPlacedCell n j c in
    (h.0, placed_set n (suc k) cs i c h.1 (subst Q here new))

pub equal_append : (f : Assignment) (es more : List Equation) → AreEqual f es → AreEqual f more → AreEqual f (es ++ more)
equal_append f [] more h g = g
equal_append f (e ∷ es) more h g = (h.0, equal_append f es more h.1 g)

pub equal_split : (f : Assignment) (es more : List Equation) → AreEqual f (es ++ more) → AreEqual f es × AreEqual f more
equal_split f [] more h = (tt, h)
equal_split f (e ∷ es) more h = let rest = equal_split f es more h.1 in ((h.0, rest.0), rest.1)

pub within_append : (n : ℕ) (es more : List Equation) → AreWithin n es → AreWithin n more → AreWithin n (es ++ more)
within_append n [] more h g = g
within_append n (e ∷ es) more h g = (h.0, h.1, within_append n es more h.2 g)

pub within_split : (n : ℕ) (es more : List Equation) → AreWithin n (es ++ more) → AreWithin n es × AreWithin n more
within_split n [] more h = (tt, h)
within_split n (e ∷ es) more h = let rest = within_split n es more h.2 in ((h.0, h.1, rest.0), rest.1)
