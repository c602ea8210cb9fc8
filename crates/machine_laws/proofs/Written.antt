-- What is written is the cells, and the cells are read back.
use Rattle.std.proofs.Common.{◌≡◌, refl, ap, sym, subst, ◌∙◌, ℕ, zero, suc, Bool, true, false, List, [], ◌∷◌, ◌++◌, drop, append_assoc}
use Rattle.std.proofs.lemmas.List.{length-replicate, append-nil}
use Rattle.simplicity.specs.Types.{Kind, Value, Inl, Inr, Pair, IsOf, size, pad_left, pad_right}
use Rattle.simplicity.specs.Cells.{Cell, Bit, Undefined, undefined, cells}
use Rattle.simplicity.specs.Machine.{Item, Write, Skip, writing}
use Rattle.simplicity.proofs.Values.{Of, OfOne, OfLeft, OfRight, OfPair, of_kind, is_of, cells_length}
use Rattle.machine_laws.specs.Written.{undefined_in_front, writing_cells, value_in, CellsAreValues}
use Rattle.machine_laws.proofs.Moves.{drop_front}

-- no undefined cell in front
abbrev Starts : List Cell → Type 0
Starts [] = Unit {0}
Starts (Bit b ∷ cs) = Unit {0}
Starts (Undefined ∷ cs) = ⊥

cells_start : (k : Kind) (v : Value) → Of k v → (ys : List Cell) → Starts ys → Starts (cells k v ++ ys)
cells_start _ _ OfOne ys h = h
cells_start _ _ (OfLeft a b u of) ys h = tt
cells_start _ _ (OfRight a b v of) ys h = tt
cells_start _ _ (OfPair a b u v of on) ys h =
    subst Starts (sym (append_assoc (cells a u) (cells b v) ys)) (cells_start a u of (cells b v ++ ys) (cells_start b v on ys h))

blanks_are : (n : ℕ) (ys : List Cell) → Starts ys → undefined_in_front (undefined n ++ ys) ≡ n
blanks_are zero [] h = refl
blanks_are zero (Bit b ∷ ys) h = refl
blanks_are zero (Undefined ∷ ys) h = absurd h
blanks_are (suc n) ys h = ap suc (blanks_are n ys h)

spelled_blanks : (n : ℕ) (ys : List Cell) → writing_cells (undefined n ++ ys) ≡ writing_cells ys
spelled_blanks zero ys = refl
spelled_blanks (suc n) ys = spelled_blanks n ys

-- a tag, its padding, and what is behind
tag_spelled : (bit : Bool) (n : ℕ) (xs ys : List Cell) (items : List Item) → Starts (xs ++ ys) → writing_cells (xs ++ ys) ≡ items ++ writing_cells ys →
    writing_cells (Bit bit ∷ ((undefined n ++ xs) ++ ys)) ≡ Write bit ∷ Skip n ∷ (items ++ writing_cells ys)
tag_spelled bit n xs ys items starts e =
    ap (λ (l : List Cell). Write bit ∷ Skip (undefined_in_front l) ∷ writing_cells l) (append_assoc (undefined n) xs ys)
    ∙ ap (λ (m : ℕ). Write bit ∷ Skip m ∷ writing_cells (undefined n ++ (xs ++ ys))) (blanks_are n (xs ++ ys) starts)
    ∙ ap (λ (l : List Item). Write bit ∷ Skip n ∷ l) (spelled_blanks n (xs ++ ys) ∙ e)

spelled_cells : (k : Kind) (v : Value) → Of k v → (ys : List Cell) → Starts ys → writing_cells (cells k v ++ ys) ≡ writing k v ++ writing_cells ys
spelled_cells _ _ OfOne ys h = refl
spelled_cells _ _ (OfLeft a b u of) ys h =
    tag_spelled false (pad_left a b) (cells a u) ys (writing a u) (cells_start a u of ys h) (spelled_cells a u of ys h)
spelled_cells _ _ (OfRight a b v of) ys h =
    tag_spelled true (pad_right a b) (cells b v) ys (writing b v) (cells_start b v of ys h) (spelled_cells b v of ys h)
spelled_cells _ _ (OfPair a b u v of on) ys h =
    ap writing_cells (append_assoc (cells a u) (cells b v) ys) ∙ spelled_cells a u of (cells b v ++ ys) (cells_start b v on ys h)
    ∙ ap (λ (l : List Item). writing a u ++ l) (spelled_cells b v on ys h) ∙ sym (append_assoc (writing a u) (writing b v) (writing_cells ys))

written : (k : Kind) (v : Value) → IsOf v k → writing k v ≡ writing_cells (cells k v)
written k v h =
    sym (append-nil (writing k v)) ∙ sym (spelled_cells k v (of_kind k v h) [] tt) ∙ ap writing_cells (append-nil (cells k v))

back_of : (k : Kind) (v : Value) → Of k v → (rest : List Cell) → value_in k (cells k v ++ rest) ≡ v
back_of _ _ OfOne rest = refl
back_of _ _ (OfLeft a b u of) rest =
    let n : ℕ = pad_left a b in
    ap (λ (l : List Cell). Inl (value_in a l)) (drop_front n (undefined n) (cells a u ++ rest) ((undefined n ++ cells a u) ++ rest) (append_assoc (undefined n) (cells a u) rest) (length-replicate n Undefined))
    ∙ ap Inl (back_of a u of rest)
back_of _ _ (OfRight a b v of) rest =
    let n : ℕ = pad_right a b in
    ap (λ (l : List Cell). Inr (value_in b l)) (drop_front n (undefined n) (cells b v ++ rest) ((undefined n ++ cells b v) ++ rest) (append_assoc (undefined n) (cells b v) rest) (length-replicate n Undefined))
    ∙ ap Inr (back_of b v of rest)
back_of _ _ (OfPair a b u v of on) rest =
    let split = append_assoc (cells a u) (cells b v) rest in
    let left : value_in a ((cells a u ++ cells b v) ++ rest) ≡ u = ap (value_in a) split ∙ back_of a u of (cells b v ++ rest) in
    let right : value_in b (drop (size a) ((cells a u ++ cells b v) ++ rest)) ≡ v =
    ap (value_in b) (drop_front (size a) (cells a u) (cells b v ++ rest) ((cells a u ++ cells b v) ++ rest) split (cells_length a u (is_of a u of))) ∙ back_of b v on rest in
    ap (λ (x : Value). Pair x (value_in b (drop (size a) ((cells a u ++ cells b v) ++ rest)))) left ∙ ap (Pair u) right

pub cells_are_values : CellsAreValues
cells_are_values = record { written = written; back = λ k v rest h. back_of k v (of_kind k v h) rest }
