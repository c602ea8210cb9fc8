-- The loops over the cells.
use Rattle.std.proofs.Common.{◌≡◌, ℕ, zero, suc, ◌+◌, ◌-◌, ◌<◌, ◌≤◌, ◌⊎◌, inl, inr, List, [], ◌∷◌, ◌++◌, length, take, drop, get_or, set, refl, sym, ap, ◌∙◌, arith, append_assoc, length-take-le, length-drop}
use Rattle.std.proofs.lemmas.List.{get_or-drop, get_or-take, get_or_append_left, set_split, length-replicate, length-map, map-append, take-map, drop-map, take_all}
use Rattle.std.proofs.lemmas.List.Edits as edits
use Rattle.std.proofs.lemmas.List.Edits.{paste_more, fill_from_more}
use Rattle.std.specs.Prelude.{replicate}
use lib.Seq as seq
use Rattle.simplicity.specs.Cells as spec
use Rattle.simplicity.specs.Cells.{undefined}
use Rattle.frame_stack.specs.declared.cells.Cell.{Cell}
use Rattle.frame_stack.specs.declared.cells.Cell.TheVariants as code
use Rattle.frame_stack.specs.Bits.{cell_of, cells_of}
use Rattle.frame_stack.specs.Parts.{part, paste}

module _ {A : Type 0} where
  -- this crate's word for the list after a loop that copies, and std's
  pub pasted : (at : ℕ) (d s : List A) (n : ℕ) → n ≤ length s → seq.paste d at s n ≡ paste at (take n s) d
  pasted at d s n h =
      append_assoc (take at d) (take n s) (drop (at + n) d) ∙ ap (λ (x : ℕ). take at d ++ (take n s ++ drop (at + x) d)) (sym (length-take-le n s h))

  pub set_is_paste : (at : ℕ) (x : A) (l : List A) → at < length l → set l at x ≡ paste at (x ∷ []) l
  set_is_paste at x l h = set_split l at x h ∙ ap (λ (i : ℕ). take at l ++ x ∷ drop i l) (let e : suc at ≡ at + 1 = omega arith in e)

  -- what stands where a copy reads is what stood there before the copy
  reads_below : (d s : List A) (to n i : ℕ) (z : A) → i < to → to ≤ length d → get_or (seq.paste d to s n) i z ≡ get_or d i z
  reads_below d s to n i z h within =
      let short : i < length (take to d) = omega (arith, length-take-le to d within) in
      ap (λ (x : List A). get_or x i z) (append_assoc (take to d) (take n s) (drop (to + n) d)) ∙ get_or_append_left (take to d) (take n s ++ drop (to + n) d) z i short ∙ get_or-take to d i z h

  reads_above : (d s : List A) (to n i : ℕ) (z : A) → to + n ≤ i → to ≤ length d → n ≤ length s → get_or (seq.paste d to s n) i z ≡ get_or d i z
  reads_above d s to n i z h within fits =
      let k : ℕ = i - (to + n) in
      let same : (to + n) + k ≡ i = omega arith in
      ap (λ (x : ℕ). get_or (seq.paste d to s n) x z) (sym same) ∙ sym (get_or-drop (to + n) (seq.paste d to s n) k z)
      ∙ ap (λ (x : List A). get_or x k z) (edits.drop-paste d to s n within fits) ∙ get_or-drop (to + n) d k z ∙ ap (λ (x : ℕ). get_or d x z) same

  pub shift_next : (d now next : List A) (from to n k : ℕ) (x z : A) → now ≡ seq.paste d to (drop from d) k → k < n → from + n ≤ length d → to + n ≤ length d →
      (to ≤ from) ⊎ (from + n ≤ to) → x ≡ get_or now (from + k) z → next ≡ set now (to + k) x → next ≡ seq.paste d to (drop from d) (k + 1)
  shift_next d now next from to n k x z is within fits room apart read written =
      let long : length (drop from d) ≡ length d - from = length-drop from d in
      let stood : get_or (seq.paste d to (drop from d) k) (from + k) z ≡ get_or d (from + k) z =
      elim apart [
        | inl down ↦ reads_above d (drop from d) to k (from + k) z (omega arith) (omega arith) (omega arith)
        | inr up ↦ reads_below d (drop from d) to k (from + k) z (omega arith) (omega arith)
      ] in
      let value : x ≡ get_or (drop from d) k z = read ∙ ap (λ (l : List A). get_or l (from + k) z) is ∙ stood ∙ sym (get_or-drop from d k z) in
      written ∙ ap (λ (l : List A). set l (to + k) x) is ∙ ap (λ (v : A). set (seq.paste d to (drop from d) k) (to + k) v) value
      ∙ paste_more d to (drop from d) k z (omega arith) (omega arith)

  pub clear_next : (d now next : List A) (at n k : ℕ) (y : A) → now ≡ seq.paste d at (replicate k y) k → k < n → at + n ≤ length d → next ≡ set now (at + k) y →
      next ≡ seq.paste d at (replicate (k + 1) y) (k + 1)
  clear_next d now next at n k y is within room written = written ∙ ap (λ (l : List A). set l (at + k) y) is ∙ fill_from_more d at k y (omega arith)

-- the same on the cells that the code's are
map_paste : (at : ℕ) (xs l : List Cell) → cells_of (paste at xs l) ≡ paste at (cells_of xs) (cells_of l)
map_paste at xs l =
    map-append cell_of (take at l) (xs ++ drop (at + length xs) l)
    ∙ ap (λ (x : List spec.Cell). x ++ cells_of (xs ++ drop (at + length xs) l)) (sym (take-map cell_of at l))
    ∙ ap (λ (x : List spec.Cell). take at (cells_of l) ++ x) (map-append cell_of xs (drop (at + length xs) l))
    ∙ ap (λ (x : List spec.Cell). take at (cells_of l) ++ (cells_of xs ++ x)) (sym (drop-map cell_of (at + length xs) l))
    ∙ ap (λ (n : ℕ). take at (cells_of l) ++ (cells_of xs ++ drop (at + n) (cells_of l))) (sym (length-map xs cell_of))

map_undefined : (n : ℕ) → cells_of (replicate n code.Undefined) ≡ undefined n
map_undefined zero = refl
map_undefined (suc n) = ap (λ (x : List spec.Cell). spec.Undefined ∷ x) (map_undefined n)

pub lengths : (d : List Cell) (old : List spec.Cell) → cells_of d ≡ old → length d ≡ length old
lengths d old is = sym (length-map d cell_of) ∙ ap length is

pub made_undefined : (n : ℕ) (d : List Cell) → d ≡ take n [] ++ replicate (n - 0) code.Undefined → cells_of d ≡ undefined n
made_undefined zero d is = ap cells_of is
made_undefined (suc n) d is =
    let e : suc n - 0 ≡ suc n = omega arith in
    ap cells_of is ∙ ap (λ (k : ℕ). cells_of (replicate k code.Undefined)) e ∙ map_undefined (suc n)

pub set_made : (d : List Cell) (old : List spec.Cell) (at : ℕ) (x : Cell) → cells_of d ≡ old → at < length old → cells_of (set d at x) ≡ paste at (cell_of x ∷ []) old
set_made d old at x is within =
    ap cells_of (set_is_paste at x d (omega (arith, lengths d old is))) ∙ map_paste at (x ∷ []) d ∙ ap (paste at (cell_of x ∷ [])) is

pub cleared : (d now : List Cell) (old : List spec.Cell) (at n k : ℕ) → cells_of d ≡ old → now ≡ seq.paste d at (replicate k code.Undefined) k → k ≡ n →
    cells_of now ≡ paste at (undefined n) old
cleared d now old at n k is made e =
    let all : List Cell = replicate k code.Undefined in
    let long : length all ≡ k = length-replicate k code.Undefined in
    ap cells_of (made ∙ pasted at d all k (omega arith) ∙ ap (λ (x : List Cell). paste at x d) (take_all k all (omega arith))) ∙ map_paste at all d
    ∙ ap (λ (x : List spec.Cell). paste at x (cells_of d)) (map_undefined k) ∙ ap (λ (x : ℕ). paste at (undefined x) (cells_of d)) e ∙ ap (paste at (undefined n)) is

pub shifted : (d now : List Cell) (old : List spec.Cell) (from to n k : ℕ) → cells_of d ≡ old → now ≡ seq.paste d to (drop from d) k → k ≡ n → from + n ≤ length old →
    cells_of now ≡ paste to (part from n old) old
shifted d now old from to n k is made e within =
    let fits : k ≤ length (drop from d) = omega (arith, length-drop from d, lengths d old is) in
    ap cells_of (made ∙ pasted to d (drop from d) k fits) ∙ map_paste to (take k (drop from d)) d
    ∙ ap (λ (x : List spec.Cell). paste to x (cells_of d)) (sym (take-map cell_of k (drop from d)) ∙ ap (take k) (sym (drop-map cell_of from d)))
    ∙ ap (λ (x : ℕ). paste to (part from x (cells_of d)) (cells_of d)) e ∙ ap (λ (x : List spec.Cell). paste to (part from n x) x) is
