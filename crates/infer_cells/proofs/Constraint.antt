-- The cells of a list, one node after the other.
use Rattle.std.proofs.Common.{◌≡◌, ℕ, zero, suc, ◌+◌, ◌-◌, ◌<◌, ◌≤◌, ◌⊎◌, inl, inr, List, [], ◌∷◌, ◌++◌, length, take, Option, Some, None, slice_get, refl, ap, sym, subst, ◌∙◌, arith, length-append, length-take}
use Rattle.std.proofs.lemmas.Bool.{cases_lt}
use Rattle.std.proofs.lemmas.List.{map-append}
use Rattle.simplicity.specs.Types.{Kind}
use Rattle.simplicity.specs.Nodes as node
use Rattle.simplicity.specs.Nodes.{Node, IsShown, IsPlaced, HasRoot}
use Rattle.simplicity.specs.Typing as row
use Rattle.simplicity.specs.Typing.{Typing, Arrow, arrow, HasArrow, HasNoArrow, Meets, EntryMeets, EntriesMeet, IsTyping, IsTypingAt, HasNoTyping, source_of, target_of}
use Rattle.simplicity.proofs.Typings.{typing_length, entry_at, some_entry}
use Rattle.type_table.specs.Kinds.{kind_at}
use Rattle.infer_cells.specs.declared.cell.Cell.{Cell}
use Rattle.infer_cells.specs.declared.cell.Equation.{Equation}
use Rattle.infer_cells.specs.declared.cell.Place.{Place}
use Rattle.infer_cells.specs.Cells.{Assignment, FitFrom, AreEqual, Solution, SameSolutions, NoSolution, PlacedFrom, ArePlaced, AreWithin}
use Rattle.infer_cells.specs.Merged.{equation}
use Rattle.infer_cells.specs.Emission.{Emission, emitted, entry, entries, ArePlacesWithin}
use Rattle.infer_cells.specs.Constrained.{arrow_between, AreConstrained, AreRowCells, tie_equations, root_equations}
use Rattle.infer_cells.proofs.Grown.{given, fit_append, fit_split, fit_old, placed_grown, place_within_at, places_within_more, places_within_push, entries_old}
use Rattle.infer_cells.proofs.Grown as grown
use Rattle.infer_cells.proofs.Ready.{Shape, Shapes, Ready, ready_at, emitted_shape, EmittedWithin, emitted_within, shape_shown}
use Rattle.infer_cells.proofs.Sound.{get_more, sound_node}
use Rattle.infer_cells.proofs.Complete.{Agrees, node_continues}
use Rattle.infer_cells.proofs.RowCells.{rows_placed, rows_tied, rows_fit}

-- types for the cells, under which the places have the arrows of a typing
pub record Continued (cells : List Cell) (ps : List (Option Place)) (ts : Typing) (i : ℕ) : Type 0 where
  pub types : List Kind
  pub count : length types ≡ length cells
  pub fits : FitFrom (given types) 0 cells
  pub gives : entries (given types) ps ≡ take i ts

-- the cells after so many nodes
pub record Constrains (kinds : List Kind) (last : ℕ) (ns : List Node) (i : ℕ) (cells : List Cell) (ps : List (Option Place)) : Type 0 where
  pub placed : ArePlaced cells
  pub within : ArePlacesWithin (length cells) ps
  pub count : length ps ≡ i
  pub shapes : Shapes ns ps i
  pub rows : last < length cells
  pub tied : (f : Assignment) → FitFrom f 0 cells → (id : ℕ) → id ≤ last → f id ≡ kind_at kinds id
  pub sound : (f : Assignment) → FitFrom f 0 cells → IsTyping (take i ns) (entries f ps)
  pub complete : (ts : Typing) → IsTyping ns ts → Continued cells ps ts i

pub constrains_none : (kinds : List Kind) (last : ℕ) (ns : List Node) (cells : List Cell) → AreRowCells kinds cells → length cells ≡ last + 1 → last < length kinds → Constrains kinds last ns 0 cells []
constrains_none kinds last ns cells rows count less = record {
  placed = rows_placed kinds cells rows;
  within = tt;
  count = refl;
  shapes = λ j m h is. absurd (omega arith);
  rows = omega arith;
  tied = λ f fits id h. rows_tied kinds cells f rows fits id (omega arith);
  sound = λ f fits. tt;
  complete = λ ts typed. record {
    types = take (length cells) kinds;
    count = omega (arith, length-take (length cells) kinds);
    fits = rows_fit kinds cells rows;
    gives = refl;
  };
}

-- rows of the typing table stay as a typing grows
meets_more : (ts more : Typing) (n : Node) (a b : Kind) → Meets ts n a b → Meets (ts ++ more) n a b
meets_more ts more _ _ _ (row.Iden a) = row.Iden a
meets_more ts more _ _ _ (row.UnitNode a) = row.UnitNode a
meets_more ts more _ _ _ (row.Injl t a b c h) = row.Injl t a b c (get_more ts more t _ h)
meets_more ts more _ _ _ (row.Injr t a b c h) = row.Injr t a b c (get_more ts more t _ h)
meets_more ts more _ _ _ (row.Take t a b c h) = row.Take t a b c (get_more ts more t _ h)
meets_more ts more _ _ _ (row.Drop t a b c h) = row.Drop t a b c (get_more ts more t _ h)
meets_more ts more _ _ _ (row.Comp s t a b c g h) = row.Comp s t a b c (get_more ts more s _ g) (get_more ts more t _ h)
meets_more ts more _ _ _ (row.Case s t a b c d g h) = row.Case s t a b c d (get_more ts more s _ g) (get_more ts more t _ h)
meets_more ts more _ _ _ (row.AssertL s t a b c d g h) = row.AssertL s t a b c d (get_more ts more s _ g) (get_more ts more t _ h)
meets_more ts more _ _ _ (row.AssertR s t a b c d g h) = row.AssertR s t a b c d (get_more ts more s _ g) (get_more ts more t _ h)
meets_more ts more _ _ _ (row.Pair s t a b c g h) = row.Pair s t a b c (get_more ts more s _ g) (get_more ts more t _ h)
meets_more ts more _ _ _ (row.Fail e a b) = row.Fail e a b
meets_more ts more _ _ _ (row.Witness a b) = row.Witness a b
meets_more ts more _ _ _ (row.Word k n) = row.Word k n

entry_meets_more : (ts more : Typing) (n : Node) (e : Option Arrow) → EntryMeets ts n e → EntryMeets (ts ++ more) n e
entry_meets_more ts more n None h = h
entry_meets_more ts more n (Some a) h = meets_more ts more n a.source a.target h

-- a typing with one entry more, for one node more
entries_next : (ts more : Typing) (ns : List Node) (es : Typing) (n : Node) (e : Option Arrow) → EntriesMeet ts ns es → EntryMeets (ts ++ more) n e →
    EntriesMeet (ts ++ more) (ns ++ n ∷ []) (es ++ e ∷ [])
entries_next ts more [] [] n e h last = (last, tt)
entries_next ts more [] (f ∷ es) n e h last = elim h [ ]
entries_next ts more (m ∷ ns) [] n e h last = elim h [ ]
entries_next ts more (m ∷ ns) (f ∷ es) n e h last = (entry_meets_more ts more m f h.0, entries_next ts more ns es n e h.1 last)

take_next : {A : Type 0} (xs : List A) (i : ℕ) (x : A) → slice_get xs i ≡ Some x → take (suc i) xs ≡ take i xs ++ x ∷ []
take_next [] i x h = absurd (cc)
take_next (y ∷ xs) zero x h = let e : y ≡ x = cc in ap (λ z. z ∷ []) e
take_next (y ∷ xs) (suc i) x h = ap (λ rest. y ∷ rest) (take_next xs i x h)

get_last : {A : Type 0} (xs : List A) (x : A) (i : ℕ) → length xs ≡ i → slice_get (xs ++ x ∷ []) i ≡ Some x
get_last [] x zero e = refl
get_last [] x (suc i) e = absurd (omega arith)
get_last (y ∷ xs) x zero e = absurd (omega arith)
get_last (y ∷ xs) x (suc i) e = get_last xs x i (omega arith)

get_front : {A : Type 0} (xs ys : List A) (i : ℕ) → i < length xs → slice_get (xs ++ ys) i ≡ slice_get xs i
get_front [] ys i h = absurd (omega arith)
get_front (x ∷ xs) ys zero h = refl
get_front (x ∷ xs) ys (suc i) h = get_front xs ys i (omega arith)

get_taken : {A : Type 0} (xs : List A) (k i : ℕ) (x : A) → slice_get (take k xs) i ≡ Some x → slice_get xs i ≡ Some x
get_taken xs zero i x h = absurd (cc)
get_taken [] (suc k) i x h = absurd (cc)
get_taken (y ∷ xs) (suc k) zero x h = h
get_taken (y ∷ xs) (suc k) (suc i) x h = get_taken xs k i x h

-- the arrows at places, where the entries are those of a typing
agrees_by : (vs : List Kind) (ps : List (Option Place)) (ts : Typing) (i : ℕ) → entries (given vs) ps ≡ take i ts → Agrees vs ps ts
agrees_by vs ps ts i same = record {
  shown = λ t p is.
      let there = grown.entry_at (given vs) ps t (Some p) is in
      let P : Typing → Type 0 = λ es. slice_get es t ≡ Some (entry (given vs) (Some p)) in
      get_taken ts i t _ (subst P same there);
  hidden = λ t is.
      let there = grown.entry_at (given vs) ps t None is in
      let P : Typing → Type 0 = λ es. slice_get es t ≡ Some None in
      get_taken ts i t None (subst P same there);
}

-- types for a node's cells, whatever entry it has
pub record Goes (vs : List Kind) (e : Emission) (o : Option Arrow) : Type 0 where
  pub more : List Kind
  pub count : length more ≡ length e.cells
  pub fits : FitFrom (given (vs ++ more)) (length vs) e.cells
  pub equal : AreEqual (given (vs ++ more)) e.equations
  pub at : entry (given (vs ++ more)) e.at ≡ o

not_hidden : (ts : Typing) (n : Node) → EntryMeets ts n None → (h : List ℕ) × (n ≡ node.Hidden h)
not_hidden ts (node.Hidden h) m = (h, refl)
not_hidden ts _ m = elim m [ ]

goes : (vs : List Kind) (ps : List (Option Place)) (ts : Typing) (n : Node) (o : Option Arrow) → ArePlacesWithin (length vs) ps → Agrees vs ps ts → Ready ps n → EntryMeets ts n o →
    Goes vs (emitted (length vs) ps n) o
goes vs ps ts n (Some a) within agrees ready meets =
    let c = node_continues vs ps ts within agrees n a.source a.target ready meets in
    record { more = c.more; count = c.count; fits = c.fits; equal = c.equal; at = c.at }
goes vs ps ts n None within agrees ready meets =
    let hidden = not_hidden ts n meets in
    let P : Node → Type 0 = λ m. Goes vs (emitted (length vs) ps m) None in
    subst P (sym hidden.1) (record { more = []; count = refl; fits = tt; equal = tt; at = refl })

module _ (kinds : List Kind) (last : ℕ) (ns : List Node) (i : ℕ) (cells : List Cell) (ps : List (Option Place)) (n : Node) (placed : IsPlaced ns) (is : slice_get ns i ≡ Some n)
    (so_far : Constrains kinds last ns i cells ps) where
  ready : Ready ps n
  ready = ready_at ns ps i n placed is so_far.shapes

  abbrev e : Emission
  e = emitted (length cells) ps n

  fits_there : EmittedWithin (length cells) ps n
  fits_there = emitted_within (length cells) ps n so_far.within ready

  abbrev more_cells : List Cell
  more_cells = cells ++ (emitted (length cells) ps n).cells

  long : length cells + length (emitted (length cells) ps n).cells ≡ length (cells ++ (emitted (length cells) ps n).cells)
  long = sym (length-append cells (emitted (length cells) ps n).cells)

  pub next_placed : ArePlaced (cells ++ (emitted (length cells) ps n).cells)
  next_placed = placed_grown cells (emitted (length cells) ps n).cells so_far.placed fits_there.cells

  pub next_within : AreWithin (length (cells ++ (emitted (length cells) ps n).cells)) (emitted (length cells) ps n).equations
  next_within = let P : ℕ → Type 0 = λ k. AreWithin k (emitted (length cells) ps n).equations in subst P long fits_there.equations

  -- a typing goes on to the node's cells
  pub record Next (ts : Typing) : Type 0 where
    pub types : List Kind
    pub count : length types ≡ length (cells ++ (emitted (length cells) ps n).cells)
    pub solves : Solution (given types) (cells ++ (emitted (length cells) ps n).cells) (emitted (length cells) ps n).equations
    pub gives : entries (given types) (ps ++ (emitted (length cells) ps n).at ∷ []) ≡ take (suc i) ts

  next_by : (ts : Typing) (o : Option Arrow) → slice_get ts i ≡ Some o → (c : Continued cells ps ts i) → Goes c.types (emitted (length cells) ps n) o → Next ts
  next_by ts o there c g =
      let P : ℕ → Type 0 = λ k. PlacedFrom k 0 cells in
      let old : PlacedFrom (length c.types) 0 cells = subst P (sym c.count) so_far.placed.each in
      let few : 0 + length cells ≤ length c.types = omega (arith, c.count) in
      let here : length c.types ≡ 0 + length cells = omega (arith, c.count) in
      let Q : ℕ → Type 0 = λ k. FitFrom (given (c.types ++ g.more)) k (emitted (length cells) ps n).cells in
      let R : ℕ → Type 0 = λ k. ArePlacesWithin k ps in
      let within : ArePlacesWithin (length c.types) ps = subst R (sym c.count) so_far.within in
      record {
        types = c.types ++ g.more;
        count = length-append c.types g.more ∙ (let e : length c.types + length g.more ≡ length cells + length (emitted (length cells) ps n).cells = omega (arith, c.count, g.count) in e) ∙ long;
        solves = record {
          fits = fit_append (given (c.types ++ g.more)) 0 cells (emitted (length cells) ps n).cells (fit_old c.types g.more 0 cells old few c.fits) (subst Q here g.fits);
          equal = g.equal;
        };
        gives =
            map-append (entry (given (c.types ++ g.more))) ps ((emitted (length cells) ps n).at ∷ [])
            ∙ ap (λ es. es ++ entry (given (c.types ++ g.more)) (emitted (length cells) ps n).at ∷ []) (entries_old c.types g.more ps within ∙ c.gives)
            ∙ ap (λ x. take i ts ++ x ∷ []) g.at ∙ sym (take_next ts i o there);
      }

  pub next_of : (ts : Typing) → IsTyping ns ts → Next ts
  next_of ts typed =
      let o = some_entry ts ns ts i n typed is in
      let meets = entry_at ts ns ts i n o.0 typed is o.1 in
      let c = so_far.complete ts typed in
      let R : ℕ → Type 0 = λ k. ArePlacesWithin k ps in
      let within : ArePlacesWithin (length c.types) ps = subst R (sym c.count) so_far.within in
      let P : ℕ → Type 0 = λ k. Goes c.types (emitted k ps n) o.0 in
      next_by ts o.0 o.1 c (subst P c.count (goes c.types ps ts n o.0 within (agrees_by c.types ps ts i c.gives) ready meets))

  pub next_none : NoSolution (cells ++ (emitted (length cells) ps n).cells) (emitted (length cells) ps n).equations → (ts : Typing) → IsTyping ns ts → ⊥
  next_none none ts typed = let next = next_of ts typed in none.none (given next.types) next.solves

  module _ (solved : List Cell) (same : SameSolutions (cells ++ (emitted (length cells) ps n).cells) (emitted (length cells) ps n).equations solved [])
      (count : length solved ≡ length (cells ++ (emitted (length cells) ps n).cells)) (solved_placed : ArePlaced solved) where
    back : (f : Assignment) → FitFrom f 0 solved → Solution f (cells ++ (emitted (length cells) ps n).cells) (emitted (length cells) ps n).equations
    back f fits = same.back f (record { fits = fits; equal = tt })

    parts : (f : Assignment) → FitFrom f 0 solved → FitFrom f 0 cells × FitFrom f (length cells) (emitted (length cells) ps n).cells
    parts f fits =
        let both = fit_split f 0 cells (emitted (length cells) ps n).cells (back f fits).fits in
        let here : 0 + length cells ≡ length cells = omega arith in
        let P : ℕ → Type 0 = λ k. FitFrom f k (emitted (length cells) ps n).cells in
        (both.0, subst P here both.1)

    next_shape : (j : ℕ) (m : Node) → slice_get ns j ≡ Some m → (j < i) ⊎ (j ≡ i) → Shape m (slice_get (ps ++ (emitted (length cells) ps n).at ∷ []) j)
    next_shape j m there (inl less) =
        let P : Option (Option Place) → Type 0 = Shape m in
        subst P (sym (get_front ps ((emitted (length cells) ps n).at ∷ []) j (omega (arith, so_far.count)))) (so_far.shapes j m less there)
    next_shape j m there (inr here) =
        let at : slice_get ns i ≡ Some m = ap (slice_get ns) (sym here) ∙ there in
        let same_node : n ≡ m = cc (is, at) in
        let P : Node → Type 0 = λ x. Shape x (Some (emitted (length cells) ps n).at) in
        let Q : Option (Option Place) → Type 0 = Shape m in
        let last_one : slice_get (ps ++ (emitted (length cells) ps n).at ∷ []) j ≡ Some (emitted (length cells) ps n).at =
        get_last ps (emitted (length cells) ps n).at j (so_far.count ∙ sym here) in
        subst Q (sym last_one) (subst P same_node (emitted_shape (length cells) ps n ready))

    place_of_next : (j : ℕ) → j < suc i → (j < i) ⊎ (j ≡ i)
    place_of_next j h = elim (cases_lt j i) [ inl less ↦ inl less | inr more ↦ inr (omega arith) ]

    pub next_constrains : Constrains kinds last ns (suc i) solved (ps ++ (emitted (length cells) ps n).at ∷ [])
    next_constrains = record {
      placed = solved_placed;
      within =
          let P : ℕ → Type 0 = λ k. ArePlacesWithin k (ps ++ (emitted (length cells) ps n).at ∷ []) in
          subst P (long ∙ sym count)
          (places_within_push (length cells + length (emitted (length cells) ps n).cells) ps (emitted (length cells) ps n).at
          (places_within_more (length cells) (length cells + length (emitted (length cells) ps n).cells) ps (omega arith) so_far.within) fits_there.at);
      count = length-append ps ((emitted (length cells) ps n).at ∷ []) ∙ (let e : length ps + 1 ≡ suc i = omega (arith, so_far.count) in e);
      shapes = λ j m h there. next_shape j m there (place_of_next j h);
      rows = omega (arith, so_far.rows, count, long);
      tied = λ f fits id h. so_far.tied f (parts f fits).0 id h;
      sound = λ f fits.
          let both = parts f fits in
          let entry_meets = sound_node f (length cells) ps (entry f (emitted (length cells) ps n).at ∷ []) n ready both.1 (back f fits).equal in
          let all = entries_next (entries f ps) (entry f (emitted (length cells) ps n).at ∷ []) (take i ns) (entries f ps) n (entry f (emitted (length cells) ps n).at) (so_far.sound f both.0) entry_meets in
          let arrows = map-append (entry f) ps ((emitted (length cells) ps n).at ∷ []) in
          let P : Typing → Type 0 = λ es. EntriesMeet es (take i ns ++ n ∷ []) es in
          let Q : List Node → Type 0 = λ ms. IsTyping ms (entries f (ps ++ (emitted (length cells) ps n).at ∷ [])) in
          subst Q (sym (take_next ns i n is)) (subst P (sym arrows) all);
      complete = λ ts typed.
          let next = next_of ts typed in
          record {
            types = next.types;
            count = next.count ∙ sym count;
            fits = (same.forth (given next.types) next.solves).fits;
            gives = next.gives;
          };
    }

take_all : {A : Type 0} (xs : List A) (i : ℕ) → length xs ≤ i → take i xs ≡ xs
take_all [] zero h = refl
take_all [] (suc i) h = refl
take_all (x ∷ xs) zero h = absurd (omega arith)
take_all (x ∷ xs) (suc i) h = ap (λ rest. x ∷ rest) (take_all xs i (omega arith))

shown_there : (o : Option Node) → IsShown o → (m : Node) × (o ≡ Some m) × IsShown (Some m)
shown_there None h = elim h [ ]
shown_there (Some m) h = (m, refl, h)

-- all nodes, and the arrow of the root
module _ (kinds : List Kind) (source target : ℕ) (last : ℕ) (ns : List Node) (i : ℕ) (cells : List Cell) (ps : List (Option Place)) (rooted : HasRoot ns) (all : length ns ≤ i)
    (within_i : i ≤ length ns) (source_there : source ≤ last) (target_there : target ≤ last) (so_far : Constrains kinds last ns i cells ps) where
  root_place : (p : Place) × (slice_get ps (length ns - 1) ≡ Some (Some p))
  root_place =
      let m = shown_there (slice_get ns (length ns - 1)) rooted.0 in
      shape_shown m.0 (slice_get ps (length ns - 1)) m.2 (so_far.shapes (length ns - 1) m.0 (omega (arith, rooted.1)) m.1)

  last_place : slice_get ps (length ps - 1) ≡ Some (Some root_place.0)
  last_place =
      let same : length ps - 1 ≡ length ns - 1 = omega (arith, so_far.count) in
      ap (slice_get ps) same ∙ root_place.1

  equations_are : root_equations ps source target ≡ equation root_place.0.source source ∷ equation root_place.0.target target ∷ []
  equations_are = ap (λ o. tie_equations o source target) last_place

  pub finish_within : AreWithin (length cells) (root_equations ps source target)
  finish_within =
      let p = place_within_at (length cells) ps (length ps - 1) root_place.0 so_far.within last_place in
      let P : List Equation → Type 0 = AreWithin (length cells) in
      subst P (sym equations_are) (p.0, omega (arith, so_far.rows), (p.1, omega (arith, so_far.rows), tt))

  abbrev root : Arrow
  root = arrow_between kinds source target

  -- a typing with the root's arrow solves the equations too
  pub typing_solves : (ts : Typing) → IsTypingAt ns (arrow_between kinds source target) ts → (c : Continued cells ps ts i) → Solution (given c.types) cells (root_equations ps source target)
  typing_solves ts at c =
      let there = grown.entry_at (given c.types) ps (length ns - 1) (Some root_place.0) root_place.1 in
      let P : Typing → Type 0 = λ es. slice_get es (length ns - 1) ≡ Some (entry (given c.types) (Some root_place.0)) in
      let here : slice_get ts (length ns - 1) ≡ Some (entry (given c.types) (Some root_place.0)) = get_taken ts i (length ns - 1) _ (subst P c.gives there) in
      let same : Some (entry (given c.types) (Some root_place.0)) ≡ Some (Some (arrow_between kinds source target)) = sym here ∙ at.rooted in
      let first : given c.types root_place.0.source ≡ kind_at kinds source = ap source_of same in
      let second : given c.types root_place.0.target ≡ kind_at kinds target = ap target_of same in
      let Q : List Equation → Type 0 = AreEqual (given c.types) in
      record {
        fits = c.fits;
        equal = subst Q (sym equations_are)
            (first ∙ sym (so_far.tied (given c.types) c.fits source source_there), (second ∙ sym (so_far.tied (given c.types) c.fits target target_there), tt));
      }

  pub finish_none : NoSolution cells (root_equations ps source target) → HasNoTyping ns (arrow_between kinds source target)
  finish_none none ts at = let c = so_far.complete ts at.typed in none.none (given c.types) (typing_solves ts at c)

  pub finish : (solved : List Cell) → SameSolutions cells (root_equations ps source target) solved [] → length solved ≡ length cells → ArePlaced solved →
      AreConstrained ns (arrow_between kinds source target) solved ps
  finish solved same count placed = record {
    placed = placed;
    within = let P : ℕ → Type 0 = λ k. ArePlacesWithin k ps in subst P (sym count) so_far.within;
    sound = λ f fits.
        let s = same.back f (record { fits = fits; equal = tt }) in
        let Q : List Equation → Type 0 = AreEqual f in
        let equal = subst Q equations_are s.equal in
        let first : f root_place.0.source ≡ kind_at kinds source = equal.0 ∙ so_far.tied f s.fits source source_there in
        let second : f root_place.0.target ≡ kind_at kinds target = equal.1.0 ∙ so_far.tied f s.fits target target_there in
        let P : List Node → Type 0 = λ ms. IsTyping ms (entries f ps) in
        record {
          typed = subst P (take_all ns i all) (so_far.sound f s.fits);
          rooted = grown.entry_at f ps (length ns - 1) (Some root_place.0) root_place.1 ∙ ap (λ a. Some (Some a)) (grown.same_arrow _ _ _ _ first second);
        };
    complete = λ ts at.
        let c = so_far.complete ts at.typed in
        let whole : take i ts ≡ ts = take_all ts i (omega (arith, typing_length ts ns ts at.typed, all)) in
        record {
          types = given c.types;
          fits = (same.forth (given c.types) (typing_solves ts at c)).fits;
          gives = c.gives ∙ whole;
        };
  }
