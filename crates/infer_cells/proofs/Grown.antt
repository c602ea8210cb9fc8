-- Cells that are appended, and assignments that are continued.
use Rattle.std.proofs.Common.{◌≡◌, ℕ, zero, suc, ◌+◌, ◌<◌, ◌≤◌, List, [], ◌∷◌, ◌++◌, length, Option, Some, None, slice_get, get_or, refl, ap, sym, subst, ◌∙◌, arith, length-append}
use Rattle.std.proofs.Math.ListN.{get_or-append}
use Rattle.simplicity.specs.Types.{Kind, One, Sum, Product}
use Rattle.simplicity.specs.Typing.{arrow}
use Rattle.infer_cells.specs.declared.cell.Cell.{Cell}
use Rattle.infer_cells.specs.declared.cell.Cell.TheVariants as cell
use Rattle.infer_cells.specs.declared.cell.Place.{Place}
use Rattle.infer_cells.specs.Cells.{Assignment, Fits, FitFrom, IsPlacedCell, PlacedFrom, ArePlaced}
use Rattle.infer_cells.specs.Emission.{entry, entries, IsWithinPlace, ArePlacesWithin}

pub fit_append : (f : Assignment) (k : ℕ) (xs ys : List Cell) → FitFrom f k xs → FitFrom f (k + length xs) ys → FitFrom f k (xs ++ ys)
fit_append f k [] ys g h =
    let here : k + 0 ≡ k = omega arith in
    let P : ℕ → Type 0 = λ i. FitFrom f i ys in
    subst P here h
fit_append f k (x ∷ xs) ys g h =
    let here : k + suc (length xs) ≡ suc k + length xs = omega arith in
    let P : ℕ → Type 0 = λ i. FitFrom f i ys in
    (g.0, fit_append f (suc k) xs ys g.1 (subst P here h))

pub fit_split : (f : Assignment) (k : ℕ) (xs ys : List Cell) → FitFrom f k (xs ++ ys) → FitFrom f k xs × FitFrom f (k + length xs) ys
fit_split f k [] ys h =
    let here : k ≡ k + 0 = omega arith in
    let P : ℕ → Type 0 = λ i. FitFrom f i ys in
    (tt, subst P here h)
fit_split f k (x ∷ xs) ys h =
    let here : suc k + length xs ≡ k + suc (length xs) = omega arith in
    let P : ℕ → Type 0 = λ i. FitFrom f i ys in
    let rest = fit_split f (suc k) xs ys h.1 in
    ((h.0, rest.0), subst P here rest.1)

placed_cell_more : (n m i : ℕ) (c : Cell) → n ≤ m → IsPlacedCell n i c → IsPlacedCell m i c
placed_cell_more n m i cell.Free le h = tt
placed_cell_more n m i cell.One le h = tt
placed_cell_more n m i (cell.Link j) le h = h
placed_cell_more n m i (cell.Sum a b) le h = (omega arith, omega arith)
placed_cell_more n m i (cell.Product a b) le h = (omega arith, omega arith)

pub placed_more : (n m i : ℕ) (cs : List Cell) → n ≤ m → PlacedFrom n i cs → PlacedFrom m i cs
placed_more n m i [] le h = tt
placed_more n m i (c ∷ cs) le h = (placed_cell_more n m i c le h.0, placed_more n m (suc i) cs le h.1)

pub placed_append : (n k : ℕ) (xs ys : List Cell) → PlacedFrom n k xs → PlacedFrom n (k + length xs) ys → PlacedFrom n k (xs ++ ys)
placed_append n k [] ys g h =
    let here : k + 0 ≡ k = omega arith in
    let P : ℕ → Type 0 = λ i. PlacedFrom n i ys in
    subst P here h
placed_append n k (x ∷ xs) ys g h =
    let here : k + suc (length xs) ≡ suc k + length xs = omega arith in
    let P : ℕ → Type 0 = λ i. PlacedFrom n i ys in
    (g.0, placed_append n (suc k) xs ys g.1 (subst P here h))

pub placed_grown : (cells news : List Cell) → ArePlaced cells → PlacedFrom (length cells + length news) (length cells) news → ArePlaced (cells ++ news)
placed_grown cells news old new =
    let long : length cells + length news ≡ length (cells ++ news) = omega (arith, length-append cells news) in
    let here : length cells ≡ 0 + length cells = omega arith in
    let P : ℕ → Type 0 = λ n. PlacedFrom n 0 (cells ++ news) in
    let Q : ℕ → Type 0 = λ i. PlacedFrom (length cells + length news) i news in
    record {
      each = subst P long (placed_append (length cells + length news) 0 cells news (placed_more (length cells) (length cells + length news) 0 cells (omega arith) old.each) (subst Q here new));
    }

-- the assignment that a list of types gives
abbrev pub given : List Kind → Assignment
given vs i = get_or vs i One

pub given_old : (vs more : List Kind) (i : ℕ) → i < length vs → given (vs ++ more) i ≡ given vs i
given_old vs more i h = get_or-append vs more One i h

pub given_new : (vs more : List Kind) (i j : ℕ) → i ≡ length vs + j → given (vs ++ more) i ≡ given more j
given_new [] more i j is = ap (given more) (let same : i ≡ j = omega arith in same)
given_new (v ∷ vs) more zero j is = absurd (omega arith)
given_new (v ∷ vs) more (suc i) j is = given_new vs more i j (omega arith)

fits_old : (vs more : List Kind) (i : ℕ) (x : Kind) (c : Cell) → IsPlacedCell (length vs) i c → i < length vs → Fits (given vs) x c → Fits (given (vs ++ more)) x c
fits_old vs more i x cell.Free placed within h = tt
fits_old vs more i x cell.One placed within h = h
fits_old vs more i x (cell.Link j) placed within h = h ∙ sym (given_old vs more j (omega arith))
fits_old vs more i x (cell.Sum a b) placed within h =
    h ∙ ap (λ k. Sum k (given vs b)) (sym (given_old vs more a placed.0)) ∙ ap (Sum (given (vs ++ more) a)) (sym (given_old vs more b placed.1))
fits_old vs more i x (cell.Product a b) placed within h =
    h ∙ ap (λ k. Product k (given vs b)) (sym (given_old vs more a placed.0)) ∙ ap (Product (given (vs ++ more) a)) (sym (given_old vs more b placed.1))

pub fit_old : (vs more : List Kind) (k : ℕ) (cs : List Cell) → PlacedFrom (length vs) k cs → k + length cs ≤ length vs → FitFrom (given vs) k cs → FitFrom (given (vs ++ more)) k cs
fit_old vs more k [] placed within h = tt
fit_old vs more k (c ∷ cs) placed within h =
    let same = given_old vs more k (omega arith) in
    let P : Kind → Type 0 = λ x. Fits (given (vs ++ more)) x c in
    (subst P (sym same) (fits_old vs more k (given vs k) c placed.0 (omega arith) h.0), fit_old vs more (suc k) cs placed.1 (omega arith) h.1)

pub place_within_at : (n : ℕ) (ps : List (Option Place)) (t : ℕ) (p : Place) → ArePlacesWithin n ps → slice_get ps t ≡ Some (Some p) → (p.source < n) × (p.target < n)
place_within_at n [] t p h is = absurd (cc)
place_within_at n (q ∷ ps) zero p h is = let same : q ≡ Some p = cc in let P : Option Place → Type 0 = IsWithinPlace n in subst P same h.0
place_within_at n (q ∷ ps) (suc t) p h is = place_within_at n ps t p h.1 is

within_place_more : (n m : ℕ) (p : Option Place) → n ≤ m → IsWithinPlace n p → IsWithinPlace m p
within_place_more n m None le h = tt
within_place_more n m (Some p) le h = (omega arith, omega arith)

pub places_within_more : (n m : ℕ) (ps : List (Option Place)) → n ≤ m → ArePlacesWithin n ps → ArePlacesWithin m ps
places_within_more n m [] le h = tt
places_within_more n m (p ∷ ps) le h = (within_place_more n m p le h.0, places_within_more n m ps le h.1)

pub places_within_push : (n : ℕ) (ps : List (Option Place)) (p : Option Place) → ArePlacesWithin n ps → IsWithinPlace n p → ArePlacesWithin n (ps ++ p ∷ [])
places_within_push n [] p h g = (g, tt)
places_within_push n (q ∷ ps) p h g = (h.0, places_within_push n ps p h.1 g)

-- equal arrows
pub same_arrow : (a b c d : Kind) → a ≡ c → b ≡ d → arrow a b ≡ arrow c d
same_arrow a b c d e f = ap (λ (x : Kind). arrow x b) e ∙ ap (λ (x : Kind). arrow c x) f

entry_old : (vs more : List Kind) (p : Option Place) → IsWithinPlace (length vs) p → entry (given (vs ++ more)) p ≡ entry (given vs) p
entry_old vs more None h = refl
entry_old vs more (Some p) h =
    ap Some (same_arrow (given (vs ++ more) p.source) (given (vs ++ more) p.target) (given vs p.source) (given vs p.target) (given_old vs more p.source h.0) (given_old vs more p.target h.1))

pub entries_old : (vs more : List Kind) (ps : List (Option Place)) → ArePlacesWithin (length vs) ps → entries (given (vs ++ more)) ps ≡ entries (given vs) ps
entries_old vs more [] h = refl
entries_old vs more (p ∷ ps) h =
    ap (λ e. e ∷ entries (given (vs ++ more)) ps) (entry_old vs more p h.0) ∙ ap (λ es. entry (given vs) p ∷ es) (entries_old vs more ps h.1)

pub entry_at : (f : Assignment) (ps : List (Option Place)) (t : ℕ) (o : Option Place) → slice_get ps t ≡ Some o → slice_get (entries f ps) t ≡ Some (entry f o)
entry_at f [] t o is = absurd (cc)
entry_at f (p ∷ ps) zero o is = let same : p ≡ o = cc in ap (λ q. Some (entry f q)) same
entry_at f (p ∷ ps) (suc t) o is = entry_at f ps t o is
