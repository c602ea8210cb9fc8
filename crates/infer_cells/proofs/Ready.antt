-- The cells of a node's children.
use Rattle.std.proofs.Common.{◌≡◌, ℕ, zero, suc, ◌+◌, ◌<◌, List, length, take, Option, Some, None, slice_get, refl, ap, arith}
use Rattle.simplicity.specs.Nodes as node
use Rattle.simplicity.specs.Nodes.{Node, IsShown, CanFollow, IsPlaced}
use Rattle.simplicity.proofs.Unfold.{follows_at, sides_at, shown_before, ShownBefore, CaseSides, BothShown, RightHidden, LeftHidden}
use Rattle.infer_cells.specs.declared.cell.Place.{Place}
use Rattle.infer_cells.specs.Cells.{PlacedFrom, AreWithin}
use Rattle.infer_cells.specs.Emission.{place, place_at, doubles, emitted, emit_case, IsWithinPlace, ArePlacesWithin}
use Rattle.infer_cells.proofs.Grown.{place_within_at}

-- a hidden node has no place, each other one has
abbrev pub Shape : Node → Option (Option Place) → Type 0
Shape (node.Hidden h) o = o ≡ Some None
Shape n o = (p : Place) × (o ≡ Some (Some p))

abbrev pub Shown : List (Option Place) → ℕ → Type 0
Shown ps t = (p : Place) × (slice_get ps t ≡ Some (Some p))

pub data Sides (ps : List (Option Place)) (s t : ℕ) : Type 0 where
  Both : Shown ps s → Shown ps t → Sides ps s t
  NoRight : Shown ps s → slice_get ps t ≡ Some None → Sides ps s t
  NoLeft : slice_get ps s ≡ Some None → Shown ps t → Sides ps s t

-- the children of a node have their places
abbrev pub Ready : List (Option Place) → Node → Type 0
Ready ps (node.Injl t) = Shown ps t
Ready ps (node.Injr t) = Shown ps t
Ready ps (node.Take t) = Shown ps t
Ready ps (node.Drop t) = Shown ps t
Ready ps (node.Comp s t) = Shown ps s × Shown ps t
Ready ps (node.Pair s t) = Shown ps s × Shown ps t
Ready ps (node.Case s t) = Sides ps s t
Ready ps n = Unit {0}

-- each node up to one has its shape
abbrev pub Shapes : List Node → List (Option Place) → ℕ → Type 0
Shapes ns ps i = (j : ℕ) (m : Node) → j < i → slice_get ns j ≡ Some m → Shape m (slice_get ps j)

pub shape_shown : (m : Node) (o : Option (Option Place)) → IsShown (Some m) → Shape m o → (p : Place) × (o ≡ Some (Some p))
shape_shown (node.Hidden h) o shown s = elim shown [ ]
shape_shown _ o shown s = s

child_shown : (ns : List Node) (ps : List (Option Place)) (i t : ℕ) → Shapes ns ps i → ShownBefore ns i t → Shown ps t
child_shown ns ps i t shapes s = shape_shown s.child (slice_get ps t) s.shown (shapes t s.child s.earlier s.there)

sides_ready : (ns : List Node) (ps : List (Option Place)) (i s t : ℕ) → Shapes ns ps i → CaseSides ns i s t → Sides ps s t
sides_ready ns ps i s t shapes (BothShown g h) = Both (child_shown ns ps i s shapes g) (child_shown ns ps i t shapes h)
sides_ready ns ps i s t shapes (RightHidden h g there earlier) = NoRight (child_shown ns ps i s shapes g) (shapes t (node.Hidden h) earlier there)
sides_ready ns ps i s t shapes (LeftHidden h there earlier g) = NoLeft (shapes s (node.Hidden h) earlier there) (child_shown ns ps i t shapes g)

ready_by : (ns : List Node) (ps : List (Option Place)) (i : ℕ) (n : Node) → Shapes ns ps i → CanFollow (take i ns) n → Ready ps n
ready_by ns ps i node.Iden shapes h = tt
ready_by ns ps i node.UnitNode shapes h = tt
ready_by ns ps i (node.Injl t) shapes h = child_shown ns ps i t shapes (shown_before ns i t h)
ready_by ns ps i (node.Injr t) shapes h = child_shown ns ps i t shapes (shown_before ns i t h)
ready_by ns ps i (node.Take t) shapes h = child_shown ns ps i t shapes (shown_before ns i t h)
ready_by ns ps i (node.Drop t) shapes h = child_shown ns ps i t shapes (shown_before ns i t h)
ready_by ns ps i (node.Comp s t) shapes h = (child_shown ns ps i s shapes (shown_before ns i s h.0), child_shown ns ps i t shapes (shown_before ns i t h.1))
ready_by ns ps i (node.Pair s t) shapes h = (child_shown ns ps i s shapes (shown_before ns i s h.0), child_shown ns ps i t shapes (shown_before ns i t h.1))
ready_by ns ps i (node.Case s t) shapes h = sides_ready ns ps i s t shapes (sides_at ns i s t h)
ready_by ns ps i (node.Hidden b) shapes h = tt
ready_by ns ps i (node.Fail e) shapes h = tt
ready_by ns ps i node.Witness shapes h = tt
ready_by ns ps i (node.Word k m) shapes h = tt

pub ready_at : (ns : List Node) (ps : List (Option Place)) (i : ℕ) (n : Node) → IsPlaced ns → slice_get ns i ≡ Some n → Shapes ns ps i → Ready ps n
ready_at ns ps i n placed is shapes = ready_by ns ps i n shapes (follows_at ns i n placed is)

-- a node that is emitted has its shape
case_shape : (n : ℕ) (ps : List (Option Place)) (s t : ℕ) → Sides ps s t → (p : Place) × (Some (emit_case n (slice_get ps s) (slice_get ps t)).at ≡ Some (Some p))
case_shape n ps s t (Both g h) = rw (g.1, h.1) (place (n + 6) (g.0).target, refl)
case_shape n ps s t (NoRight g h) = rw (g.1, h) (place (n + 6) (g.0).target, refl)
case_shape n ps s t (NoLeft g h) = rw (g, h.1) (place (n + 6) (h.0).target, refl)

pub emitted_shape : (n : ℕ) (ps : List (Option Place)) (m : Node) → Ready ps m → Shape m (Some (emitted n ps m).at)
emitted_shape n ps (node.Hidden h) ready = refl
emitted_shape n ps (node.Case s t) ready = case_shape n ps s t ready
emitted_shape n ps node.Iden ready = (place n n, refl)
emitted_shape n ps node.UnitNode ready = (place n (n + 1), refl)
emitted_shape n ps (node.Injl t) ready = (place (place_at ps t).source (n + 1), refl)
emitted_shape n ps (node.Injr t) ready = (place (place_at ps t).source (n + 1), refl)
emitted_shape n ps (node.Take t) ready = (place (n + 1) (place_at ps t).target, refl)
emitted_shape n ps (node.Drop t) ready = (place (n + 1) (place_at ps t).target, refl)
emitted_shape n ps (node.Comp s t) ready = (place (place_at ps s).source (place_at ps t).target, refl)
emitted_shape n ps (node.Pair s t) ready = (place (place_at ps s).source n, refl)
emitted_shape n ps (node.Fail e) ready = (place n (n + 1), refl)
emitted_shape n ps node.Witness ready = (place n (n + 1), refl)
emitted_shape n ps (node.Word k m) ready = (place n (n + 1 + k), refl)

-- the place that a child has
pub child_at : (ps : List (Option Place)) (t : ℕ) → Shown ps t → slice_get ps t ≡ Some (Some (place_at ps t))
child_at ps t h = let e = h.1 in rw e refl

child_within : (n : ℕ) (ps : List (Option Place)) (t : ℕ) → ArePlacesWithin n ps → Shown ps t → ((place_at ps t).source < n) × ((place_at ps t).target < n)
child_within n ps t within h = place_within_at n ps t (place_at ps t) within (child_at ps t h)

-- what is emitted is among the cells that are there then
pub record EmittedWithin (n : ℕ) (ps : List (Option Place)) (m : Node) : Type 0 where
  pub cells : PlacedFrom (n + length (emitted n ps m).cells) n (emitted n ps m).cells
  pub equations : AreWithin (n + length (emitted n ps m).cells) (emitted n ps m).equations
  pub at : IsWithinPlace (n + length (emitted n ps m).cells) (emitted n ps m).at

length-doubles : (k i : ℕ) → length (doubles k i) ≡ k
length-doubles zero i = refl
length-doubles (suc k) i = ap suc (length-doubles k (suc i))

doubles_placed : (n k i j : ℕ) → i + k < n → PlacedFrom n j (doubles k i)
doubles_placed n zero i j h = tt
doubles_placed n (suc k) i j h = ((omega arith, omega arith), doubles_placed n k (suc i) (suc j) (omega arith))

case_within : (n : ℕ) (ps : List (Option Place)) (s t : ℕ) → ArePlacesWithin n ps → Sides ps s t → EmittedWithin n ps (node.Case s t)
case_within n ps s t within (Both g h) =
    let p = place_within_at n ps s g.0 within g.1 in
    let q = place_within_at n ps t h.0 within h.1 in
    record {
      cells = rw (g.1, h.1) (tt, (tt, (tt, ((omega arith, omega arith), ((omega arith, omega arith), ((omega arith, omega arith), ((omega arith, omega arith), tt)))))));
      equations = rw (g.1, h.1) (omega (arith, p), omega arith, (omega (arith, q), omega arith, (omega (arith, p), omega (arith, q), tt)));
      at = rw (g.1, h.1) (omega arith, omega (arith, p));
    }
case_within n ps s t within (NoRight g h) =
    let p = place_within_at n ps s g.0 within g.1 in
    record {
      cells = rw (g.1, h) (tt, (tt, (tt, ((omega arith, omega arith), ((omega arith, omega arith), ((omega arith, omega arith), ((omega arith, omega arith), tt)))))));
      equations = rw (g.1, h) (omega (arith, p), omega arith, tt);
      at = rw (g.1, h) (omega arith, omega (arith, p));
    }
case_within n ps s t within (NoLeft g h) =
    let q = place_within_at n ps t h.0 within h.1 in
    record {
      cells = rw (g, h.1) (tt, (tt, (tt, ((omega arith, omega arith), ((omega arith, omega arith), ((omega arith, omega arith), ((omega arith, omega arith), tt)))))));
      equations = rw (g, h.1) (omega (arith, q), omega arith, tt);
      at = rw (g, h.1) (omega arith, omega (arith, q));
    }

pub emitted_within : (n : ℕ) (ps : List (Option Place)) (m : Node) → ArePlacesWithin n ps → Ready ps m → EmittedWithin n ps m
emitted_within n ps (node.Hidden h) within ready = record { cells = tt; equations = tt; at = tt }
emitted_within n ps (node.Case s t) within ready = case_within n ps s t within ready
emitted_within n ps node.Iden within ready = record { cells = (tt, tt); equations = tt; at = (omega arith, omega arith) }
emitted_within n ps node.UnitNode within ready = record { cells = (tt, (tt, tt)); equations = tt; at = (omega arith, omega arith) }
emitted_within n ps (node.Injl t) within ready =
    let p = child_within n ps t within ready in
    record { cells = (tt, ((omega (arith, p), omega arith), tt)); equations = tt; at = (omega (arith, p), omega arith) }
emitted_within n ps (node.Injr t) within ready =
    let p = child_within n ps t within ready in
    record { cells = (tt, ((omega arith, omega (arith, p)), tt)); equations = tt; at = (omega (arith, p), omega arith) }
emitted_within n ps (node.Take t) within ready =
    let p = child_within n ps t within ready in
    record { cells = (tt, ((omega (arith, p), omega arith), tt)); equations = tt; at = (omega arith, omega (arith, p)) }
emitted_within n ps (node.Drop t) within ready =
    let p = child_within n ps t within ready in
    record { cells = (tt, ((omega arith, omega (arith, p)), tt)); equations = tt; at = (omega arith, omega (arith, p)) }
emitted_within n ps (node.Comp s t) within ready =
    let p = child_within n ps s within ready.0 in
    let q = child_within n ps t within ready.1 in
    record { cells = tt; equations = (omega (arith, p), omega (arith, q), tt); at = (omega (arith, p), omega (arith, q)) }
emitted_within n ps (node.Pair s t) within ready =
    let p = child_within n ps s within ready.0 in
    let q = child_within n ps t within ready.1 in
    record { cells = ((omega (arith, p), omega (arith, q)), tt); equations = (omega (arith, p), omega (arith, q), tt); at = (omega (arith, p), omega arith) }
emitted_within n ps (node.Fail e) within ready = record { cells = (tt, (tt, tt)); equations = tt; at = (omega arith, omega arith) }
emitted_within n ps node.Witness within ready = record { cells = (tt, (tt, tt)); equations = tt; at = (omega arith, omega arith) }
emitted_within n ps (node.Word k m) within ready =
    let long = length-doubles k (suc n) in
    record {
      cells = (tt, ((omega arith, omega arith), doubles_placed (n + suc (suc (length (doubles k (suc n))))) k (suc n) (suc (suc n)) (omega arith)));
      equations = tt;
      at = (omega arith, omega arith);
    }
