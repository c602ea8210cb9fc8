-- Cells written one after the other into a new frame.
use Rattle.std.proofs.Common.{◌≡◌, ℕ, suc, ◌+◌, ◌-◌, ◌<◌, List, [], ◌∷◌, ◌++◌, length, take, get_or, refl, sym, ap, ◌∙◌, arith}
use Rattle.std.proofs.lemmas.List.{take_more, map_push}
use Rattle.simplicity.specs.Cells as spec
use Rattle.simplicity.specs.Cells.{Bit, Undefined, undefined}
use Rattle.simplicity.specs.Machine.{Frame}
use Rattle.frame_stack.specs.declared.cells.Cell.{Cell}
use Rattle.frame_stack.specs.Bits.{cell_of, cells_of}
use Rattle.frame_stack.specs.Stacks.{Stacks, on_top}
use Rattle.machine_moves.specs.Moves.{put_cell}

-- a frame of these cells, and so many undefined ones from its cursor on
abbrev pub filled : List spec.Cell → ℕ → Frame
filled cs n = record { before = cs; after = undefined n }

put_next : (x : spec.Cell) (cs : List spec.Cell) (n : ℕ) → put_cell x (filled cs (suc n)) ≡ filled (cs ++ x ∷ []) n
put_next (Bit b) cs n = refl
put_next Undefined cs n = refl

pub cell_next : (cells : List Cell) (i : ℕ) (x d : Cell) (b f g : Stacks) → f ≡ record b { writes = filled (cells_of (take i cells)) (length cells - i) ∷ [] } → i < length cells →
    x ≡ get_or cells i d → g ≡ record f { writes = on_top (put_cell (cell_of x)) f.writes } →
    g ≡ record b { writes = filled (cells_of (take (i + 1) cells)) (length cells - (i + 1)) ∷ [] }
cell_next cells i x d b f g is within read written =
    let left : ℕ = length cells - (i + 1) in
    let one_more : length cells - i ≡ suc left = omega arith in
    let more : cells_of (take i cells) ++ cell_of x ∷ [] ≡ cells_of (take (i + 1) cells) =
    ap (λ (y : Cell). cells_of (take i cells) ++ cell_of y ∷ []) read ∙ sym (map_push cell_of (take i cells) (get_or cells i d)) ∙ ap cells_of (sym (take_more cells i d within)) in
    written ∙ ap (λ (s : Stacks). let t : Stacks = record s { writes = on_top (put_cell (cell_of x)) s.writes } in t) is
    ∙ ap (λ (n : ℕ). let t : Stacks = record b { writes = put_cell (cell_of x) (filled (cells_of (take i cells)) n) ∷ [] } in t) one_more
    ∙ ap (λ (h : Frame). let t : Stacks = record b { writes = h ∷ [] } in t) (put_next (cell_of x) (cells_of (take i cells)) left)
    ∙ ap (λ (l : List spec.Cell). let t : Stacks = record b { writes = filled l left ∷ [] } in t) more
