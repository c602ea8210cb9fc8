-- Paths of walks, and the marks of cells.
use Rattle.std.proofs.Common.{◌≡◌, ℕ, zero, suc, ◌+◌, ◌*◌, ◌<◌, ◌≤◌, ◌⊎◌, inl, inr, cond, List, [], ◌∷◌, ◌++◌, length, Some, slice_get, get_or, refl, ap, sym, subst, ◌∙◌, arith, length-append}
use Rattle.std.proofs.Math.ListN.{set, length-set}
use Rattle.std.proofs.lemmas.List.Sums.{sum_by-set}
use Rattle.std.proofs.Common.{mul_comm}
use Rattle.std.proofs.lemmas.Nat.{mul-add-lt}
use Rattle.std.proofs.lemmas.Option.{get_or_from_slice_get, slice_get_within, slice_get-get_or}
use Rattle.std.specs.List.{count_by}
use Rattle.simplicity.specs.Types.{Kind, One, Sum, Product, weight}
use Rattle.type_table.specs.Kinds.{Means, kind_at, IsGrown}
use Rattle.type_table.proofs.Growth.{kind_at-grown, grown_length}
use Rattle.infer_cells.specs.declared.cell.Cell.{Cell}
use Rattle.infer_cells.specs.declared.cell.Cell.TheVariants as cell
use Rattle.infer_cells.specs.declared.walk.Mark.{Mark}
use Rattle.infer_cells.specs.declared.walk.Mark.TheVariants as mark
use Rattle.infer_cells.specs.Cells.{Assignment, Fits, NoSolution, IsPlacedCell, ArePlaced}
use Rattle.infer_cells.specs.Walk.{Least, LeastFree, LeastLink, LeastOne, LeastSum, LeastProduct, IsLeastId, IsPart, IsDone, AreDone, IsReadyAt, IsPartAt, Has, AllBelow, Falls, rank, MarksMean, IsWalk, is_new, walk_load}
use Rattle.infer_cells.proofs.Fitting.{fit_here, placed_here, get_set_same, get_set_other}

pub cell_there : {A : Type 0} (xs : List A) (i : ℕ) (d x : A) → i < length xs → get_or xs i d ≡ x → slice_get xs i ≡ Some x
cell_there xs i d x within is = slice_get-get_or xs i d within ∙ ap Some is

-- what stands at a place once one was replaced
set_cases : {A : Type 0} (xs : List A) (i j : ℕ) (c x : A) → slice_get (set xs i c) j ≡ Some x → ((i ≡ j) × (c ≡ x)) ⊎ ((slice_get xs j ≡ Some x) × ¬ (i ≡ j))
set_cases [] i j c x is = absurd (cc)
set_cases (y ∷ xs) zero zero c x is = inl (refl, cc)
set_cases (y ∷ xs) zero (suc j) c x is = inr (is, λ e. cc)
set_cases (y ∷ xs) (suc i) zero c x is = inr (is, λ e. cc)
set_cases (y ∷ xs) (suc i) (suc j) c x is = more (set_cases xs i j c x is)
  where
    more : ((i ≡ j) × (c ≡ x)) ⊎ ((slice_get xs j ≡ Some x) × ¬ (i ≡ j)) → ((suc i ≡ suc j) × (c ≡ x)) ⊎ ((slice_get xs j ≡ Some x) × ¬ (suc i ≡ suc j))
    more (inl h) = inl (ap suc h.0, h.1)
    more (inr h) = inr (h.0, λ e. h.1 (omega (arith, e)))

has_front : (xs ys : List ℕ) (j : ℕ) → Has xs j → Has (xs ++ ys) j
has_front [] ys j h = absurd h
has_front (x ∷ xs) ys j (inl e) = inl e
has_front (x ∷ xs) ys j (inr h) = inr (has_front xs ys j h)

has_last : (xs : List ℕ) (t : ℕ) → Has (xs ++ t ∷ []) t
has_last [] t = inl refl
has_last (x ∷ xs) t = inr (has_last xs t)

has_cases : (xs : List ℕ) (t j : ℕ) → Has (xs ++ t ∷ []) j → Has xs j ⊎ (t ≡ j)
has_cases [] t j (inl e) = inr e
has_cases [] t j (inr h) = absurd h
has_cases (x ∷ xs) t j (inl e) = inl (inl e)
has_cases (x ∷ xs) t j (inr h) = elim (has_cases xs t j h) [ inl g ↦ inl (inr g) | inr e ↦ inr e ]

below_front : (r : ℕ → ℕ) (x : ℕ) (xs ys : List ℕ) → AllBelow r x (xs ++ ys) → AllBelow r x xs
below_front r x [] ys h = tt
below_front r x (y ∷ xs) ys h = (h.0, below_front r x xs ys h.1)

below_last : (r : ℕ → ℕ) (x : ℕ) (xs : List ℕ) (t : ℕ) → AllBelow r x (xs ++ t ∷ []) → r t < r x
below_last r x [] t h = h.0
below_last r x (y ∷ xs) t h = below_last r x xs t h.1

below_push : (r : ℕ → ℕ) (x : ℕ) (xs : List ℕ) (j : ℕ) → AllBelow r x xs → r j < r x → AllBelow r x (xs ++ j ∷ [])
below_push r x [] j h less = (less, tt)
below_push r x (y ∷ xs) j h less = (h.0, below_push r x xs j h.1 less)

falls_front : (r : ℕ → ℕ) (xs ys : List ℕ) → Falls r (xs ++ ys) → Falls r xs
falls_front r [] ys h = tt
falls_front r (x ∷ xs) ys h = (below_front r x xs ys h.0, falls_front r xs ys h.1)

falls_push : (r : ℕ → ℕ) (xs : List ℕ) (t j : ℕ) → Falls r (xs ++ t ∷ []) → r j < r t → Falls r ((xs ++ t ∷ []) ++ j ∷ [])
falls_push r [] t j h less = ((less, tt), (tt, tt))
falls_push r (x ∷ xs) t j h less =
    let last : r t < r x = below_last r x xs t h.0 in
    (below_push r x (xs ++ t ∷ []) j h.0 (omega arith), falls_push r xs t j h.1 less)

last_least : (r : ℕ → ℕ) (xs : List ℕ) (t j : ℕ) → Falls r (xs ++ t ∷ []) → Has (xs ++ t ∷ []) j → r t ≤ r j
last_least r [] t j h (inl e) = let same : r t ≡ r j = ap r e in omega arith
last_least r [] t j h (inr g) = absurd g
last_least r (x ∷ xs) t j h (inl e) = let same : r x ≡ r j = ap r e in let last : r t < r x = below_last r x xs t h.0 in omega arith
last_least r (x ∷ xs) t j h (inr g) = last_least r xs t j h.1 g

pub place_within : {A : Type 0} (xs : List A) (i : ℕ) (x : A) → slice_get xs i ≡ Some x → i < length xs
place_within [] i x is = absurd (cc)
place_within (y ∷ xs) zero x is = omega arith
place_within (y ∷ xs) (suc i) x is = omega (arith, place_within xs i x is)

part_of_within : (n i j : ℕ) (c : Cell) → IsPlacedCell n i c → i < n → IsPart c j → j < n
part_of_within n i j cell.Free placed within part = absurd part
part_of_within n i j cell.One placed within part = absurd part
part_of_within n i j (cell.Link k) placed within part = omega (arith, part, placed)
part_of_within n i j (cell.Sum a b) placed within (inl e) = omega (arith, e, placed.0)
part_of_within n i j (cell.Sum a b) placed within (inr e) = omega (arith, e, placed.1)
part_of_within n i j (cell.Product a b) placed within (inl e) = omega (arith, e, placed.0)
part_of_within n i j (cell.Product a b) placed within (inr e) = omega (arith, e, placed.1)

pub part_within : (cells : List Cell) (i j : ℕ) (c : Cell) → ArePlaced cells → i < length cells → slice_get cells i ≡ Some c → IsPart c j → j < length cells
part_within cells i j c placed within is part = part_of_within (length cells) i j c (placed_here cells i c placed is) within part

pub part_in : (cells : List Cell) (i j : ℕ) → ArePlaced cells → IsPartAt cells i j → j < length cells
part_in cells i j placed at = part_within cells i j at.holder placed (place_within cells i at.holder at.there) at.there at.part

rank_less : (n : ℕ) (f : Assignment) (i j : ℕ) → weight (f j) < weight (f i) → j < n → rank n f j < rank n f i
rank_less n f i j lighter within =
    let low : weight (f j) * n + j < n * weight (f i) = mul-add-lt (weight (f j)) n j (weight (f i)) lighter within in
    omega (arith, low, mul_comm n (weight (f i)))

rank_link : (n : ℕ) (f : Assignment) (i j : ℕ) → f i ≡ f j → j < i → rank n f j < rank n f i
rank_link n f i j same less =
    let equal : weight (f i) * n ≡ weight (f j) * n = ap (λ k. weight k * n) same in
    omega arith

part_lighter : (f : Assignment) (n i j : ℕ) (c : Cell) → Fits f (f i) c → IsPlacedCell n i c → i < n → IsPart c j → rank n f j < rank n f i
part_lighter f n i j cell.Free fits placed within part = absurd part
part_lighter f n i j cell.One fits placed within part = absurd part
part_lighter f n i j (cell.Link k) fits placed within part =
    let same : f i ≡ f j = fits ∙ ap f (sym part) in
    rank_link n f i j same (omega (arith, part, placed))
part_lighter f n i j (cell.Sum a b) fits placed within (inl e) =
    let whole : weight (f i) ≡ 1 + weight (f a) + weight (f b) = ap weight fits in
    let same : weight (f j) ≡ weight (f a) = ap (λ k. weight (f k)) e in
    rank_less n f i j (omega arith) (omega (arith, e, placed.0))
part_lighter f n i j (cell.Sum a b) fits placed within (inr e) =
    let whole : weight (f i) ≡ 1 + weight (f a) + weight (f b) = ap weight fits in
    let same : weight (f j) ≡ weight (f b) = ap (λ k. weight (f k)) e in
    rank_less n f i j (omega arith) (omega (arith, e, placed.1))
part_lighter f n i j (cell.Product a b) fits placed within (inl e) =
    let whole : weight (f i) ≡ 1 + weight (f a) + weight (f b) = ap weight fits in
    let same : weight (f j) ≡ weight (f a) = ap (λ k. weight (f k)) e in
    rank_less n f i j (omega arith) (omega (arith, e, placed.0))
part_lighter f n i j (cell.Product a b) fits placed within (inr e) =
    let whole : weight (f i) ≡ 1 + weight (f a) + weight (f b) = ap weight fits in
    let same : weight (f j) ≡ weight (f b) = ap (λ k. weight (f k)) e in
    rank_less n f i j (omega arith) (omega (arith, e, placed.1))

pub least_id_grown : (cells : List Cell) (kinds more : List Kind) (i id : ℕ) → IsGrown kinds more → IsLeastId cells kinds i id → IsLeastId cells more i id
least_id_grown cells kinds more i id g h =
    let longer = grown_length kinds more g in
    record { within = omega (arith, h.within); least = subst (Least cells i) (sym (kind_at-grown kinds more id g h.within)) h.least }

pub marks_grown : (cells : List Cell) (kinds more : List Kind) (marks : List Mark) → IsGrown kinds more → MarksMean cells kinds marks → MarksMean cells more marks
marks_grown cells kinds more marks g h i id is = least_id_grown cells kinds more i id g (h i id is)

new_count : (marks : List Mark) (i : ℕ) (c d : Mark) → slice_get marks i ≡ Some d → count_by is_new (set marks i c) + cond (is_new d) 1 0 ≡ count_by is_new marks + cond (is_new c) 1 0
new_count marks i c d is =
    let there : get_or marks i d ≡ d = get_or_from_slice_get marks i d d is in
    let within = slice_get_within marks i d is in
    ap (λ x. count_by is_new (set marks i c) + cond (is_new x) 1 0) (sym there) ∙ sum_by-set (λ x. cond (is_new x) 1 0) marks i c d within

-- an element stands at each place within
some_mark : (marks : List Mark) (i : ℕ) → i < length marks → (m : Mark) × (slice_get marks i ≡ Some m)
some_mark [] i h = absurd (omega arith)
some_mark (m ∷ marks) zero h = (m, refl)
some_mark (m ∷ marks) (suc i) h = some_mark marks i (omega arith)

module _ (cells : List Cell) (kinds : List Kind) (marks : List Mark) (path : List ℕ) (top : ℕ) (placed : ArePlaced cells) (walk : IsWalk cells kinds marks (path ++ top ∷ [])) where
  pub top_within : top < length cells
  top_within = walk.within top (has_last path top)

  -- a part that is open is above itself
  pub walk_none : (part : ℕ) → IsPartAt cells top part → slice_get marks part ≡ Some mark.Open → NoSolution cells []
  walk_none part at is = record {
    none = λ f s.
        let above : rank (length cells) f top ≤ rank (length cells) f part =
        last_least (rank (length cells) f) path top part (walk.falls f s.fits) (walk.open_on part is) in
        let under : rank (length cells) f part < rank (length cells) f top =
        part_lighter f (length cells) top part at.holder (fit_here f cells top at.holder s.fits at.there) (placed_here cells top at.holder placed at.there) top_within at.part in
        absurd (omega arith);
  }

  module _ (part : ℕ) (at : IsPartAt cells top part) (is : slice_get marks part ≡ Some mark.New) where
    pub walk_down : IsWalk cells kinds (set marks part mark.Open) ((path ++ top ∷ []) ++ part ∷ [])
    walk_down = record {
      count = length-set marks part mark.Open ∙ walk.count;
      done = λ i id there. elim (set_cases marks part i mark.Open (mark.Done id) there) [ inl h ↦ cc (h.1) | inr h ↦ walk.done i id h.0 ];
      open_on = λ i there. elim (set_cases marks part i mark.Open mark.Open there) [
        | inl h ↦ let P : ℕ → Type 0 = Has ((path ++ top ∷ []) ++ part ∷ []) in subst P h.0 (has_last (path ++ top ∷ []) part)
        | inr h ↦ has_front (path ++ top ∷ []) (part ∷ []) i (walk.open_on i h.0)
      ];
      within = λ i has. elim (has_cases (path ++ top ∷ []) part i has) [
        | inl h ↦ walk.within i h
        | inr e ↦ let less = part_within cells top part at.holder placed top_within at.there at.part in omega (arith, e)
      ];
      falls = λ f fits.
          falls_push (rank (length cells) f) path top part (walk.falls f fits)
          (part_lighter f (length cells) top part at.holder (fit_here f cells top at.holder fits at.there) (placed_here cells top at.holder placed at.there) top_within at.part);
    }

    pub down_kept : (i : ℕ) → Has (path ++ top ∷ []) i ⊎ IsDone marks i → Has ((path ++ top ∷ []) ++ part ∷ []) i ⊎ IsDone (set marks part mark.Open) i
    down_kept i (inl h) = inl (has_front (path ++ top ∷ []) (part ∷ []) i h)
    down_kept i (inr h) =
        let apart : ¬ (part ≡ i) = λ e. let there : slice_get marks part ≡ Some (mark.Done h.0) = rw e h.1 in cc in
        inr (h.0, get_set_other marks part i mark.Open apart ∙ h.1)

    pub down_less : walk_load (set marks part mark.Open) ((path ++ top ∷ []) ++ part ∷ []) < 1 + walk_load marks path
    down_less =
        let count : count_by is_new (set marks part mark.Open) + 1 ≡ count_by is_new marks + 0 = new_count marks part mark.Open mark.New is in
        omega (arith, count, length-append (path ++ top ∷ []) (part ∷ []), length-append path (top ∷ []))

  module _ (more : List Kind) (id : ℕ) (grown : IsGrown kinds more) (least : IsLeastId cells more top id) where
    pub walk_back : IsWalk cells more (set marks top (mark.Done id)) path
    walk_back = record {
      count = length-set marks top (mark.Done id) ∙ walk.count;
      done = λ i other there. elim (set_cases marks top i (mark.Done id) (mark.Done other) there) [
        | inl h ↦
            let same : id ≡ other = cc (h.1) in
            let P : ℕ → Type 0 = λ x. IsLeastId cells more x other in
            let Q : ℕ → Type 0 = λ x. IsLeastId cells more top x in
            subst P h.0 (subst Q same least)
        | inr h ↦ least_id_grown cells kinds more i other grown (walk.done i other h.0)
      ];
      open_on = λ i there. elim (set_cases marks top i (mark.Done id) mark.Open there) [
        | inl h ↦ cc (h.1)
        | inr h ↦ elim (has_cases path top i (walk.open_on i h.0)) [ inl g ↦ g | inr e ↦ absurd (h.1 e) ]
      ];
      within = λ i has. walk.within i (has_front path (top ∷ []) i has);
      falls = λ f fits. falls_front (rank (length cells) f) path (top ∷ []) (walk.falls f fits);
    }

    done_kept : (ms : List Mark) (t i : ℕ) → IsDone ms i → IsDone (set ms t (mark.Done id)) i
    done_kept [] t i h = h
    done_kept (m ∷ ms) zero zero h = (id, refl)
    done_kept (m ∷ ms) zero (suc i) h = h
    done_kept (m ∷ ms) (suc t) zero h = h
    done_kept (m ∷ ms) (suc t) (suc i) h = done_kept ms t i h

    pub back_kept : (i : ℕ) → Has (path ++ top ∷ []) i ⊎ IsDone marks i → Has path i ⊎ IsDone (set marks top (mark.Done id)) i
    back_kept i (inr h) = inr (done_kept marks top i h)
    back_kept i (inl h) = elim (has_cases path top i h) [
      | inl g ↦ inl g
      | inr e ↦
          let there = some_mark marks top (omega (arith, top_within, walk.count)) in
          let here : IsDone (set marks top (mark.Done id)) top = (id, get_set_same marks top (mark.Done id) there.0 there.1) in
          let P : ℕ → Type 0 = IsDone (set marks top (mark.Done id)) in
          inr (subst P e here)
    ]

    pub back_less : walk_load (set marks top (mark.Done id)) path < 1 + walk_load marks path
    back_less =
        let there = some_mark marks top (omega (arith, top_within, walk.count)) in
        let count : count_by is_new (set marks top (mark.Done id)) + cond (is_new there.0) 1 0 ≡ count_by is_new marks + 0 = new_count marks top (mark.Done id) there.0 there.1 in
        omega (arith, count)

-- a walk begins at a cell where none is open, and ends so
pub walk_start : (cells : List Cell) (kinds : List Kind) (marks : List Mark) (start : ℕ) → length marks ≡ length cells → start < length cells → MarksMean cells kinds marks →
    ((i : ℕ) → slice_get marks i ≡ Some mark.Open → ⊥) → IsWalk cells kinds marks (start ∷ [])
walk_start cells kinds marks start count within done closed = record {
  count = count;
  done = done;
  open_on = λ i is. absurd (closed i is);
  within = λ i has. elim has [ inl e ↦ omega (arith, e) | inr h ↦ absurd h ];
  falls = λ f fits. (tt, tt);
}

-- the least type of a cell from those of its parts
module _ (cells : List Cell) (kinds new : List Kind) (top id : ℕ) where
  pub made_free : slice_get cells top ≡ Some cell.Free → Means new id One → IsLeastId cells new top id
  made_free is m = record { within = m.within; least = subst (Least cells top) (sym m.is) (LeastFree top is) }

  pub made_one : slice_get cells top ≡ Some cell.One → Means new id One → IsLeastId cells new top id
  made_one is m = record { within = m.within; least = subst (Least cells top) (sym m.is) (LeastOne top is) }

  pub made_link : (j : ℕ) → slice_get cells top ≡ Some (cell.Link j) → IsLeastId cells kinds j id → IsLeastId cells kinds top id
  made_link j is h = record { within = h.within; least = LeastLink top j (kind_at kinds id) is h.least }

  pub made_sum : (a b x y : ℕ) → slice_get cells top ≡ Some (cell.Sum a b) → IsLeastId cells kinds a x → IsLeastId cells kinds b y →
      Means new id (Sum (kind_at kinds x) (kind_at kinds y)) → IsLeastId cells new top id
  made_sum a b x y is g h m = record { within = m.within; least = subst (Least cells top) (sym m.is) (LeastSum top a b (kind_at kinds x) (kind_at kinds y) is g.least h.least) }

  pub made_product : (a b x y : ℕ) → slice_get cells top ≡ Some (cell.Product a b) → IsLeastId cells kinds a x → IsLeastId cells kinds b y →
      Means new id (Product (kind_at kinds x) (kind_at kinds y)) → IsLeastId cells new top id
  made_product a b x y is g h m = record {
    within = m.within;
    least = subst (Least cells top) (sym m.is) (LeastProduct top a b (kind_at kinds x) (kind_at kinds y) is g.least h.least);
  }

-- the parts of a cell that is known
module _ (c : Cell) where
  pub parts_link : (j n : ℕ) → c ≡ cell.Link j → ((i : ℕ) → IsPart c i → i < n) → j < n
  parts_link j n is h = let P : Cell → Type 0 = λ d. IsPart d j in h j (subst P (sym is) refl)

  pub parts_sum : (a b n : ℕ) → c ≡ cell.Sum a b → ((i : ℕ) → IsPart c i → i < n) → (a < n) × (b < n)
  parts_sum a b n is h =
      let P : Cell → Type 0 = λ d. IsPart d a in
      let Q : Cell → Type 0 = λ d. IsPart d b in
      (h a (subst P (sym is) (inl refl)), h b (subst Q (sym is) (inr refl)))

  pub parts_product : (a b n : ℕ) → c ≡ cell.Product a b → ((i : ℕ) → IsPart c i → i < n) → (a < n) × (b < n)
  parts_product a b n is h =
      let P : Cell → Type 0 = λ d. IsPart d a in
      let Q : Cell → Type 0 = λ d. IsPart d b in
      (h a (subst P (sym is) (inl refl)), h b (subst Q (sym is) (inr refl)))

-- the cell at a number, by the value that is read there
pub part_at : (cells : List Cell) (i j : ℕ) (d : Cell) → i < length cells → IsPart (get_or cells i d) j → IsPartAt cells i j
part_at cells i j d within part = record { holder = get_or cells i d; there = slice_get-get_or cells i d within; part = part }

pub ready_at : (cells : List Cell) (marks : List Mark) (i : ℕ) (d : Cell) → i < length cells → AreDone marks (get_or cells i d) → IsReadyAt cells marks i
ready_at cells marks i d within done c is =
    let same : get_or cells i d ≡ c = get_or_from_slice_get cells i c d is in
    subst (AreDone marks) same done

-- a path that is empty leaves its first cell done
pub walk_end : (marks : List Mark) (path : List ℕ) (start : ℕ) → path ≡ [] → Has path start ⊎ IsDone marks start → IsDone marks start
walk_end marks path start empty (inl h) = let P : List ℕ → Type 0 = λ xs. Has xs start in absurd (subst P empty h)
walk_end marks path start empty (inr h) = h

pub done_not : (marks : List Mark) (path : List ℕ) (start : ℕ) (m : Mark) → path ≡ [] → Has path start ⊎ IsDone marks start → start < length marks → m ≡ get_or marks start m →
    (id : ℕ) × (m ≡ mark.Done id)
done_not marks path start m empty started within is =
    let done = walk_end marks path start empty started in
    let there : slice_get marks start ≡ Some m = slice_get-get_or marks start m within ∙ ap Some (sym is) in
    let same : m ≡ mark.Done done.0 = cc (there, done.1) in
    (done.0, same)

-- an element of a list with one more
last_cases : (xs : List ℕ) (y i x : ℕ) → slice_get (xs ++ y ∷ []) i ≡ Some x → (slice_get xs i ≡ Some x) ⊎ ((i ≡ length xs) × (y ≡ x))
last_cases [] y zero x is = inr (refl, cc)
last_cases [] y (suc i) x is = cc
last_cases (z ∷ xs) y zero x is = inl is
last_cases (z ∷ xs) y (suc i) x is = elim (last_cases xs y i x is) [ inl h ↦ inl h | inr h ↦ inr (ap suc h.0, h.1) ]

pub one_id_more : (cells : List Cell) (kinds more : List Kind) (ids new : List ℕ) (start id : ℕ) → IsGrown kinds more → length ids ≡ start →
    ((i x : ℕ) → slice_get ids i ≡ Some x → IsLeastId cells kinds i x) → IsLeastId cells more start id → new ≡ ids ++ id ∷ [] → (i x : ℕ) → slice_get new i ≡ Some x → IsLeastId cells more i x
one_id_more cells kinds more ids new start id grown count each last pushed i x is =
    let P : List ℕ → Type 0 = λ xs. slice_get xs i ≡ Some x in
    elim (last_cases ids id i x (subst P pushed is)) [
      | inl h ↦ least_id_grown cells kinds more i x grown (each i x h)
      | inr h ↦
          let here : start ≡ i = sym (h.0 ∙ count) in
          let Q : ℕ → Type 0 = λ j. IsLeastId cells more start j in
          let R : ℕ → Type 0 = λ j. IsLeastId cells more j x in
          subst R here (subst Q h.1 last)
    ]
