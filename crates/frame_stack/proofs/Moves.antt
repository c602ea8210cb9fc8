-- The moves of frames: what each makes of the spans and the cells is what it makes of the frames.
use Rattle.std.proofs.Common.{◌≡◌, ℕ, zero, suc, ◌+◌, ◌-◌, ◌^◌, ◌<◌, ◌≤◌, List, [], ◌∷◌, ◌++◌, length, take, drop, map, refl, sym, ap, subst, ◌∙◌, arith}
use Rattle.std.specs.Prelude.{slice_get, Some}
use Rattle.std.proofs.lemmas.List.{length-map, length-replicate}
use Rattle.simplicity.specs.Cells.{Cell, Undefined, undefined}
use Rattle.simplicity.specs.Machine.{Frame, frame, put, forth, back, reset, held}
use Rattle.frame_stack.specs.declared.span.Span.{Span}
use Rattle.frame_stack.specs.Parts.{part, paste}
use Rattle.frame_stack.specs.Stacks.{Stacks, HasAfter, HasBefore, on_top, cells_ahead, all_cells, moved, cells_held, frames_held}
use Rattle.frame_stack.specs.Tops.{span, Spans}
use Rattle.frame_stack.specs.Laid.{frame_at, LieBelow, LieAbove, AreLaid, stacks_of}
use Rattle.frame_stack.proofs.Parts.{length_part, same_part, join_parts, part_of_drop, part_of_take, length_paste, part_below, part_above, part_in}
use Rattle.frame_stack.proofs.Lying.{frame_eq, stacks_eq, stays_below, stays_above, above_within, held_below, held_above, some_after}

-- the cells and spans lie as they must, and are these frames
pub record Makes (cs : List Cell) (reads writes : Spans) (low high : ℕ) (new : Stacks) : Type 0 where
  pub laid : AreLaid cs reads writes low high
  pub is : stacks_of cs reads writes ≡ new

abbrev pub spans : List Span → ℕ → Spans
spans ss n = record { tops = ss; places = n }

-- one frame
pub put_frame : (cs xs : List Cell) (s : Span) → s.start + s.len ≤ length cs → s.cursor + length xs ≤ s.len →
    frame_at (paste (s.start + s.cursor) xs cs) (span s.start s.len (s.cursor + length xs)) ≡ put xs (frame_at cs s)
put_frame cs xs s within fits =
    let at : ℕ = s.start + s.cursor in
    let new : List Cell = paste at xs cs in
    let left : ℕ = s.len - (s.cursor + length xs) in
    let front : part s.start (s.cursor + length xs) new ≡ part s.start s.cursor cs ++ xs =
    join_parts s.start s.cursor (length xs) new ∙ ap (λ (y : List Cell). y ++ part at (length xs) new) (part_below at xs cs s.start s.cursor (omega arith) (omega arith))
    ∙ ap (λ (y : List Cell). part s.start s.cursor cs ++ y) (part_in at xs cs (omega arith)) in
    let rest : part (s.start + (s.cursor + length xs)) left new ≡ drop (length xs) (part at (s.len - s.cursor) cs) =
    part_above at xs cs (s.start + (s.cursor + length xs)) left (omega arith) (omega arith)
    ∙ same_part (s.start + (s.cursor + length xs)) (at + length xs) left left cs (omega arith) refl ∙ sym (part_of_drop at (length xs) left cs)
    ∙ ap (λ (n : ℕ). drop (length xs) (part at n cs)) (let e : length xs + left ≡ s.len - s.cursor = omega arith in e) in
    frame_eq front rest

pub forth_frame : (cs : List Cell) (s : Span) (n : ℕ) → s.cursor + n ≤ s.len → frame_at cs (span s.start s.len (s.cursor + n)) ≡ forth n (frame_at cs s)
forth_frame cs s n fits =
    let at : ℕ = s.start + s.cursor in
    let left : ℕ = s.len - (s.cursor + n) in
    let front : part s.start (s.cursor + n) cs ≡ part s.start s.cursor cs ++ take n (part at (s.len - s.cursor) cs) =
    join_parts s.start s.cursor n cs ∙ ap (λ (y : List Cell). part s.start s.cursor cs ++ y) (sym (part_of_take at n (s.len - s.cursor) cs (omega arith))) in
    let rest : part (s.start + (s.cursor + n)) left cs ≡ drop n (part at (s.len - s.cursor) cs) =
    same_part (s.start + (s.cursor + n)) (at + n) left left cs (omega arith) refl ∙ sym (part_of_drop at n left cs)
    ∙ ap (λ (m : ℕ). drop n (part at m cs)) (let e : n + left ≡ s.len - s.cursor = omega arith in e) in
    frame_eq front rest

pub back_frame : (cs : List Cell) (s : Span) (n : ℕ) → s.start + s.len ≤ length cs → s.cursor ≤ s.len → n ≤ s.cursor →
    frame_at cs (span s.start s.len (s.cursor - n)) ≡ back n (frame_at cs s)
back_frame cs s n within in_frame fits =
    let keep : ℕ = s.cursor - n in
    let whole : List Cell = part s.start s.cursor cs in
    let long : length whole - n ≡ keep = ap (λ (m : ℕ). m - n) (length_part s.start s.cursor cs (omega arith)) in
    let front : part s.start keep cs ≡ take (length whole - n) whole =
    sym (part_of_take s.start keep s.cursor cs (omega arith)) ∙ ap (λ (m : ℕ). take m whole) (sym long) in
    let split : keep + n ≡ s.cursor = omega arith in
    let end : drop (length whole - n) whole ≡ part (s.start + keep) n cs =
    ap (λ (m : ℕ). drop m whole) long ∙ ap (λ (m : ℕ). drop keep (part s.start m cs)) (sym split) ∙ part_of_drop s.start keep n cs in
    let rest : part (s.start + keep) (s.len - keep) cs ≡ drop (length whole - n) whole ++ part (s.start + s.cursor) (s.len - s.cursor) cs =
    ap (λ (m : ℕ). part (s.start + keep) m cs) (let e : s.len - keep ≡ n + (s.len - s.cursor) = omega arith in e) ∙ join_parts (s.start + keep) n (s.len - s.cursor) cs
    ∙ ap (λ (y : List Cell). y ++ part (s.start + keep + n) (s.len - s.cursor) cs) (sym end)
    ∙ ap (λ (i : ℕ). drop (length whole - n) whole ++ part i (s.len - s.cursor) cs) (let e : s.start + keep + n ≡ s.start + s.cursor = omega arith in e) in
    frame_eq front rest

pub whole_frame : (cs : List Cell) (s : Span) → s.cursor ≤ s.len → (frame_at cs s).before ++ (frame_at cs s).after ≡ part s.start s.len cs
whole_frame cs s fits = sym (join_parts s.start s.cursor (s.len - s.cursor) cs) ∙ ap (λ (n : ℕ). part s.start n cs) (let e : s.cursor + (s.len - s.cursor) ≡ s.len = omega arith in e)

after_fits : (cs : List Cell) (s : Span) (n : ℕ) → s.cursor ≤ s.len → s.start + s.len ≤ length cs → n ≤ length (frame_at cs s).after → s.cursor + n ≤ s.len
after_fits cs s n in_frame within h = omega (arith, length_part (s.start + s.cursor) (s.len - s.cursor) cs (omega arith))

before_fits : (cs : List Cell) (s : Span) (n : ℕ) → s.cursor ≤ s.len → s.start + s.len ≤ length cs → n ≤ length (frame_at cs s).before → n ≤ s.cursor
before_fits cs s n in_frame within h = omega (arith, length_part s.start s.cursor cs (omega arith))

-- the moves, on stacks whose spans are written out
put_laid : (cs xs : List Cell) (rs ss : List Span) (s : Span) (p q low high : ℕ) → AreLaid cs (spans rs p) (spans (s ∷ ss) q) low high →
    HasAfter (length xs) (map (frame_at cs) (s ∷ ss)) →
    Makes (paste (s.start + s.cursor) xs cs) (spans rs p) (spans (span s.start s.len (s.cursor + length xs) ∷ ss) q) low high
    (record { reads = map (frame_at cs) rs; writes = on_top (put xs) (map (frame_at cs) (s ∷ ss)); room = length cs; places = p })
put_laid cs xs rs ss s p q low high laid has =
    let at : ℕ = s.start + s.cursor in
    let new : List Cell = paste at xs cs in
    let lie = laid.above in
    let start : s.start ≡ high = lie.0 in
    let end : s.start + s.len ≤ length cs = above_within (length cs) (s.start + s.len) ss lie.2 in
    let fits : s.cursor + length xs ≤ s.len = after_fits cs s (length xs) lie.1 end has in
    let long : length new ≡ length cs = length_paste at xs cs (omega arith) in
    record {
      laid = record {
        below = laid.below;
        above = subst (λ (n : ℕ). LieAbove n high (span s.start s.len (s.cursor + length xs) ∷ ss)) (sym long) (lie.0, fits, lie.2);
        apart = laid.apart;
        sized = rw long laid.sized;
        places = laid.places;
        small = laid.small;
        few = laid.few;
      };
      is = stacks_eq (stays_below cs new low rs laid.below (λ i n h. part_below at xs cs i n (omega (arith, laid.apart)) (omega arith)))
          (ap (λ (f : Frame). f ∷ map (frame_at new) ss) (put_frame cs xs s end fits)
          ∙ ap (λ (fs : List Frame). put xs (frame_at cs s) ∷ fs)
          (stays_above cs new (length cs) (s.start + s.len) ss lie.2 (λ i n h. part_above at xs cs i n (omega arith) (omega arith))))
          long refl;
    }

pub put_made : (cs new : List Cell) (R W V : Spans) (low high : ℕ) (s t : Span) (xs : List Cell) (old : Stacks) → AreLaid cs R W low high → stacks_of cs R W ≡ old →
    W.tops ≡ s ∷ drop 1 W.tops → HasAfter (length xs) old.writes → new ≡ paste (s.start + s.cursor) xs cs → t ≡ span s.start s.len (s.cursor + length xs) →
    V ≡ record W { tops = t ∷ drop 1 W.tops } → Makes new R V low high (record old { writes = on_top (put xs) old.writes })
put_made cs new R W V low high s t xs old laid is top has changed moved_on written =
    let same : W ≡ spans (s ∷ drop 1 W.tops) W.places = ap (λ (ss : List Span). spans ss W.places) top in
    let lie : AreLaid cs R (spans (s ∷ drop 1 W.tops) W.places) low high = subst (λ (x : Spans). AreLaid cs R x low high) same laid in
    let held_is : stacks_of cs R (spans (s ∷ drop 1 W.tops) W.places) ≡ old = ap (stacks_of cs R) (sym same) ∙ is in
    let has_top : HasAfter (length xs) (map (frame_at cs) (s ∷ drop 1 W.tops)) = subst (λ (o : Stacks). HasAfter (length xs) o.writes) (sym held_is) has in
    let made = put_laid cs xs R.tops (drop 1 W.tops) s R.places W.places low high lie has_top in
    let spans_is : V ≡ spans (span s.start s.len (s.cursor + length xs) ∷ drop 1 W.tops) W.places = written ∙ ap (λ (x : Span). spans (x ∷ drop 1 W.tops) W.places) moved_on in
    let all : Makes (paste (s.start + s.cursor) xs cs) R (spans (span s.start s.len (s.cursor + length xs) ∷ drop 1 W.tops) W.places) low high (record old { writes = on_top (put xs) old.writes }) =
    record { laid = made.laid; is = made.is ∙ ap (λ (o : Stacks). record o { writes = on_top (put xs) o.writes }) held_is } in
    subst (λ (x : List Cell). Makes x R V low high (record old { writes = on_top (put xs) old.writes })) (sym changed)
    (subst (λ (x : Spans). Makes (paste (s.start + s.cursor) xs cs) R x low high (record old { writes = on_top (put xs) old.writes })) (sym spans_is) all)

-- a write frame whose cursor alone moves
pub skip_made : (cs : List Cell) (R W V : Spans) (low high : ℕ) (s t : Span) (n : ℕ) (old : Stacks) → AreLaid cs R W low high → stacks_of cs R W ≡ old →
    W.tops ≡ s ∷ drop 1 W.tops → HasAfter n old.writes → t ≡ span s.start s.len (s.cursor + n) → V ≡ record W { tops = t ∷ drop 1 W.tops } →
    Makes cs R V low high (record old { writes = on_top (forth n) old.writes })
skip_made cs R W V low high s t n old laid is top has moved_on written =
    let same : W ≡ spans (s ∷ drop 1 W.tops) W.places = ap (λ (ss : List Span). spans ss W.places) top in
    let lie : AreLaid cs R (spans (s ∷ drop 1 W.tops) W.places) low high = subst (λ (x : Spans). AreLaid cs R x low high) same laid in
    let held_is : stacks_of cs R (spans (s ∷ drop 1 W.tops) W.places) ≡ old = ap (stacks_of cs R) (sym same) ∙ is in
    let has_top : HasAfter n (map (frame_at cs) (s ∷ drop 1 W.tops)) = subst (λ (o : Stacks). HasAfter n o.writes) (sym held_is) has in
    let lies = lie.above in
    let end : s.start + s.len ≤ length cs = above_within (length cs) (s.start + s.len) (drop 1 W.tops) lies.2 in
    let fits : s.cursor + n ≤ s.len = after_fits cs s n lies.1 end has_top in
    let spans_is : V ≡ spans (span s.start s.len (s.cursor + n) ∷ drop 1 W.tops) W.places = written ∙ ap (λ (x : Span). spans (x ∷ drop 1 W.tops) W.places) moved_on in
    let all : Makes cs R (spans (span s.start s.len (s.cursor + n) ∷ drop 1 W.tops) W.places) low high (record old { writes = on_top (forth n) old.writes }) =
    record {
      laid = record { below = lie.below; above = (lies.0, fits, lies.2); apart = lie.apart; sized = lie.sized; places = lie.places; small = lie.small; few = lie.few };
      is = stacks_eq refl (ap (λ (f : Frame). f ∷ map (frame_at cs) (drop 1 W.tops)) (forth_frame cs s n fits)) refl refl
          ∙ ap (λ (o : Stacks). record o { writes = on_top (forth n) o.writes }) held_is;
    } in
    subst (λ (x : Spans). Makes cs R x low high (record old { writes = on_top (forth n) old.writes })) (sym spans_is) all

-- a read frame whose cursor moves
turned : (cs : List Cell) (rs : List Span) (p : ℕ) (W : Spans) (low high : ℕ) (s : Span) (at : ℕ) (f : Frame → Frame) → AreLaid cs (spans (s ∷ rs) p) W low high → at ≤ s.len →
    frame_at cs (span s.start s.len at) ≡ f (frame_at cs s) →
    Makes cs (spans (span s.start s.len at ∷ rs) p) W low high
    (record { reads = on_top f (map (frame_at cs) (s ∷ rs)); writes = map (frame_at cs) W.tops; room = length cs; places = p })
turned cs rs p W low high s at f laid fits same =
    record {
      laid = record { below = (laid.below.0, fits, laid.below.2); above = laid.above; apart = laid.apart; sized = laid.sized; places = laid.places; small = laid.small; few = laid.few };
      is = stacks_eq (ap (λ (g : Frame). g ∷ map (frame_at cs) rs) same) refl refl refl;
    }

pub read_made : (cs : List Cell) (R W V : Spans) (low high : ℕ) (s t : Span) (at : ℕ) (f : Frame → Frame) (old : Stacks) → AreLaid cs R W low high → stacks_of cs R W ≡ old →
    R.tops ≡ s ∷ drop 1 R.tops → at ≤ s.len → frame_at cs (span s.start s.len at) ≡ f (frame_at cs s) → t ≡ span s.start s.len at → V ≡ record R { tops = t ∷ drop 1 R.tops } →
    Makes cs V W low high (record old { reads = on_top f old.reads })
read_made cs R W V low high s t at f old laid is top fits turns moved_on written =
    let same : R ≡ spans (s ∷ drop 1 R.tops) R.places = ap (λ (ss : List Span). spans ss R.places) top in
    let lie : AreLaid cs (spans (s ∷ drop 1 R.tops) R.places) W low high = subst (λ (x : Spans). AreLaid cs x W low high) same laid in
    let held_is : stacks_of cs (spans (s ∷ drop 1 R.tops) R.places) W ≡ old = ap (λ (x : Spans). stacks_of cs x W) (sym same) ∙ is in
    let made = turned cs (drop 1 R.tops) R.places W low high s at f lie fits turns in
    let spans_is : V ≡ spans (span s.start s.len at ∷ drop 1 R.tops) R.places = written ∙ ap (λ (x : Span). spans (x ∷ drop 1 R.tops) R.places) moved_on in
    let all : Makes cs (spans (span s.start s.len at ∷ drop 1 R.tops) R.places) W low high (record old { reads = on_top f old.reads }) =
    record { laid = made.laid; is = made.is ∙ ap (λ (o : Stacks). record o { reads = on_top f o.reads }) held_is } in
    subst (λ (x : Spans). Makes cs x W low high (record old { reads = on_top f old.reads })) (sym spans_is) all

-- what is known of the span on top
pub record IsWithin (cs : List Cell) (s : Span) : Type 0 where
  pub cursor : s.cursor ≤ s.len
  pub within : s.start + s.len ≤ length cs
  pub sized : length cs < 2 ^ 64

written_out : (cs : List Cell) (R W : Spans) (low high : ℕ) (s : Span) → AreLaid cs R W low high → W.tops ≡ s ∷ drop 1 W.tops → LieAbove (length cs) high (s ∷ drop 1 W.tops)
written_out cs R W low high s laid top = subst (λ (x : List Span). LieAbove (length cs) high x) top laid.above

read_out : (cs : List Cell) (R W : Spans) (low high : ℕ) (s : Span) → AreLaid cs R W low high → R.tops ≡ s ∷ drop 1 R.tops → LieBelow low (s ∷ drop 1 R.tops)
read_out cs R W low high s laid top = subst (λ (x : List Span). LieBelow low x) top laid.below

pub write_within : (cs : List Cell) (R W : Spans) (low high : ℕ) (s : Span) → AreLaid cs R W low high → W.tops ≡ s ∷ drop 1 W.tops → IsWithin cs s
write_within cs R W low high s laid top =
    let lie = written_out cs R W low high s laid top in
    record { cursor = lie.1; within = above_within (length cs) (s.start + s.len) (drop 1 W.tops) lie.2; sized = laid.sized }

pub read_within : (cs : List Cell) (R W : Spans) (low high : ℕ) (s : Span) → AreLaid cs R W low high → R.tops ≡ s ∷ drop 1 R.tops → IsWithin cs s
read_within cs R W low high s laid top =
    let lie = read_out cs R W low high s laid top in
    record { cursor = lie.1; within = omega (arith, lie.0, laid.apart, above_within (length cs) high W.tops laid.above); sized = laid.sized }

pub high_within : (cs : List Cell) (R W : Spans) (low high : ℕ) → AreLaid cs R W low high → high ≤ length cs
high_within cs R W low high laid = above_within (length cs) high W.tops laid.above

-- the top write frame begins where the write frames do
pub write_start : (cs : List Cell) (R W : Spans) (low high : ℕ) (s : Span) → AreLaid cs R W low high → W.tops ≡ s ∷ drop 1 W.tops → s.start ≡ high
write_start cs R W low high s laid top = (written_out cs R W low high s laid top).0

pub read_end : (cs : List Cell) (R W : Spans) (low high : ℕ) (s : Span) → AreLaid cs R W low high → R.tops ≡ s ∷ drop 1 R.tops → s.start + s.len ≡ low
read_end cs R W low high s laid top = (read_out cs R W low high s laid top).0

pub write_after : (cs : List Cell) (R W : Spans) (low high : ℕ) (s : Span) (n : ℕ) (old : Stacks) → AreLaid cs R W low high → stacks_of cs R W ≡ old →
    W.tops ≡ s ∷ drop 1 W.tops → HasAfter n old.writes → s.cursor + n ≤ s.len
write_after cs R W low high s n old laid is top has =
    let w = write_within cs R W low high s laid top in
    let here : HasAfter n (map (frame_at cs) (s ∷ drop 1 W.tops)) =
    subst (λ (x : List Span). HasAfter n (map (frame_at cs) x)) top (subst (λ (o : Stacks). HasAfter n o.writes) (sym is) has) in
    after_fits cs s n w.cursor w.within here

pub read_after : (cs : List Cell) (R W : Spans) (low high : ℕ) (s : Span) (n : ℕ) (old : Stacks) → AreLaid cs R W low high → stacks_of cs R W ≡ old →
    R.tops ≡ s ∷ drop 1 R.tops → HasAfter n old.reads → s.cursor + n ≤ s.len
read_after cs R W low high s n old laid is top has =
    let w = read_within cs R W low high s laid top in
    let here : HasAfter n (map (frame_at cs) (s ∷ drop 1 R.tops)) =
    subst (λ (x : List Span). HasAfter n (map (frame_at cs) x)) top (subst (λ (o : Stacks). HasAfter n o.reads) (sym is) has) in
    after_fits cs s n w.cursor w.within here

pub read_before : (cs : List Cell) (R W : Spans) (low high : ℕ) (s : Span) (n : ℕ) (old : Stacks) → AreLaid cs R W low high → stacks_of cs R W ≡ old →
    R.tops ≡ s ∷ drop 1 R.tops → HasBefore n old.reads → n ≤ s.cursor
read_before cs R W low high s n old laid is top has =
    let w = read_within cs R W low high s laid top in
    let here : HasBefore n (map (frame_at cs) (s ∷ drop 1 R.tops)) =
    subst (λ (x : List Span). HasBefore n (map (frame_at cs) x)) top (subst (λ (o : Stacks). HasBefore n o.reads) (sym is) has) in
    before_fits cs s n w.cursor w.within here

-- the cells that are copied
pub ahead : (cs : List Cell) (R W : Spans) (low high : ℕ) (s : Span) (n : ℕ) (old : Stacks) → AreLaid cs R W low high → stacks_of cs R W ≡ old →
    R.tops ≡ s ∷ drop 1 R.tops → HasAfter n old.reads → part (s.start + s.cursor) n cs ≡ cells_ahead n old.reads
ahead cs R W low high s n old laid is top has =
    let fits : s.cursor + n ≤ s.len = read_after cs R W low high s n old laid is top has in
    sym (part_of_take (s.start + s.cursor) n (s.len - s.cursor) cs (omega arith)) ∙ ap (λ (x : List Span). cells_ahead n (map (frame_at cs) x)) (sym top)
    ∙ ap (λ (o : Stacks). cells_ahead n o.reads) is

-- the cells that are taken
pub held_is : (cs : List Cell) (R W : Spans) (low high : ℕ) (old : Stacks) → AreLaid cs R W low high → stacks_of cs R W ≡ old → low + (length cs - high) ≡ cells_held old
held_is cs R W low high old laid is =
    let within : high ≤ length cs = high_within cs R W low high laid in
    let sum : low + (length cs - high) ≡ held (map (frame_at cs) R.tops) + held (map (frame_at cs) W.tops) =
    omega (arith, held_below cs low R.tops laid.below (omega (arith, laid.apart)), held_above cs high W.tops laid.above) in
    sum ∙ ap cells_held is

pub spare_is : (cs : List Cell) (R W : Spans) (low high : ℕ) (old : Stacks) → AreLaid cs R W low high → stacks_of cs R W ≡ old → high - low + cells_held old ≡ old.room
spare_is cs R W low high old laid is =
    omega (arith, held_is cs R W low high old laid is, high_within cs R W low high laid, laid.apart, ap (λ (o : Stacks). o.room) is)

-- a new frame fits between the stacks
pub new_fits : (cs : List Cell) (R W : Spans) (low high n : ℕ) (old : Stacks) → AreLaid cs R W low high → stacks_of cs R W ≡ old → n + cells_held old ≤ old.room → n + low ≤ high
new_fits cs R W low high n old laid is room = omega (arith, spare_is cs R W low high old laid is, laid.apart)

pub places_left : (cs : List Cell) (R W : Spans) (old : Stacks) → stacks_of cs R W ≡ old → frames_held old < old.places → length R.tops + length W.tops < R.places
places_left cs R W old is few =
    omega (arith, ap frames_held is, ap (λ (o : Stacks). o.places) is, length-map R.tops (frame_at cs), length-map W.tops (frame_at cs))

pub new_made : (cs new : List Cell) (R W V : Spans) (low high n : ℕ) (old : Stacks) → AreLaid cs R W low high → stacks_of cs R W ≡ old → n + cells_held old ≤ old.room →
    frames_held old < old.places → new ≡ paste (high - n) (undefined n) cs → V ≡ record W { tops = span (high - n) n 0 ∷ W.tops } →
    Makes new R V low (high - n) (record old { writes = frame (undefined n) ∷ old.writes })
new_made cs new R W V low high n old laid is room few changed written =
    let start : ℕ = high - n in
    let fits : n + low ≤ high = new_fits cs R W low high n old laid is room in
    let within : high ≤ length cs = high_within cs R W low high laid in
    let many : length (undefined n) ≡ n = length-replicate n Undefined in
    let next : List Cell = paste start (undefined n) cs in
    let long : length next ≡ length cs = length_paste start (undefined n) cs (omega arith) in
    let end : start + n ≡ high = omega arith in
    let there : part (start + 0) (n - 0) next ≡ undefined n =
    same_part (start + 0) start (n - 0) (length (undefined n)) next (omega arith) (omega arith) ∙ part_in start (undefined n) cs (omega arith) in
    let all : Makes next R (record W { tops = span start n 0 ∷ W.tops }) low start (record old { writes = frame (undefined n) ∷ old.writes }) =
    record {
      laid = record {
        below = laid.below;
        above = (refl, omega arith, subst (λ (m : ℕ). LieAbove m (start + n) W.tops) (sym long) (subst (λ (m : ℕ). LieAbove (length cs) m W.tops) (sym end) laid.above));
        apart = omega arith;
        sized = rw long laid.sized;
        places = laid.places;
        small = laid.small;
        few = omega (arith, places_left cs R W old is few);
      };
      is = stacks_eq (stays_below cs next low R.tops laid.below (λ i m h. part_below start (undefined n) cs i m (omega arith) (omega arith)))
          (ap (λ (f : Frame). f ∷ map (frame_at next) W.tops) (frame_eq refl there)
          ∙ ap (λ (fs : List Frame). frame (undefined n) ∷ fs)
          (stays_above cs next (length cs) high W.tops laid.above (λ i m h. part_above start (undefined n) cs i m (omega arith) (omega arith))))
          long refl
          ∙ ap (λ (o : Stacks). record o { writes = frame (undefined n) ∷ o.writes }) is;
    } in
    subst (λ (x : List Cell). Makes x R V low start (record old { writes = frame (undefined n) ∷ old.writes })) (sym changed)
    (subst (λ (x : Spans). Makes next R x low start (record old { writes = frame (undefined n) ∷ old.writes })) (sym written) all)

move_laid : (cs : List Cell) (rs ss : List Span) (s : Span) (p q low high : ℕ) → AreLaid cs (spans rs p) (spans (s ∷ ss) q) low high →
    Makes (paste low (part s.start s.len cs) cs) (spans (span low s.len 0 ∷ rs) p) (spans ss q) (low + s.len) (s.start + s.len)
    (record { reads = reset (frame_at cs s) ∷ map (frame_at cs) rs; writes = map (frame_at cs) ss; room = length cs; places = p })
move_laid cs rs ss s p q low high laid =
    let lie = laid.above in
    let start : s.start ≡ high = lie.0 in
    let end : s.start + s.len ≤ length cs = above_within (length cs) (s.start + s.len) ss lie.2 in
    let apart : low ≤ high = laid.apart in
    let xs : List Cell = part s.start s.len cs in
    let many : length xs ≡ s.len = length_part s.start s.len cs end in
    let new : List Cell = paste low xs cs in
    let long : length new ≡ length cs = length_paste low xs cs (omega arith) in
    let there : part (low + 0) (s.len - 0) new ≡ (frame_at cs s).before ++ (frame_at cs s).after =
    same_part (low + 0) low (s.len - 0) (length xs) new (omega arith) (omega arith) ∙ part_in low xs cs (omega arith) ∙ sym (whole_frame cs s lie.1) in
    record {
      laid = record {
        below = (refl, omega arith, laid.below);
        above = subst (λ (m : ℕ). LieAbove m (s.start + s.len) ss) (sym long) lie.2;
        apart = omega arith;
        sized = rw long laid.sized;
        places = laid.places;
        small = laid.small;
        few = omega (arith, laid.few);
      };
      is = stacks_eq
          (ap (λ (f : Frame). f ∷ map (frame_at new) rs) (frame_eq refl there)
          ∙ ap (λ (fs : List Frame). reset (frame_at cs s) ∷ fs) (stays_below cs new low rs laid.below (λ i n h. part_below low xs cs i n (omega arith) (omega arith))))
          (stays_above cs new (length cs) (s.start + s.len) ss lie.2 (λ i n h. part_above low xs cs i n (omega arith) (omega arith)))
          long refl;
    }

pub move_made : (cs new : List Cell) (R W U V : Spans) (low high : ℕ) (s : Span) (old : Stacks) → AreLaid cs R W low high → stacks_of cs R W ≡ old →
    W.tops ≡ s ∷ drop 1 W.tops → new ≡ paste low (part s.start s.len cs) cs → V ≡ record W { tops = drop 1 W.tops } → U ≡ record R { tops = span low s.len 0 ∷ R.tops } →
    Makes new U V (low + s.len) (s.start + s.len) (record old { reads = moved old.writes old.reads; writes = drop 1 old.writes })
move_made cs new R W U V low high s old laid is top changed left taken =
    let same : W ≡ spans (s ∷ drop 1 W.tops) W.places = ap (λ (ss : List Span). spans ss W.places) top in
    let lie : AreLaid cs R (spans (s ∷ drop 1 W.tops) W.places) low high = subst (λ (x : Spans). AreLaid cs R x low high) same laid in
    let frames : stacks_of cs R (spans (s ∷ drop 1 W.tops) W.places) ≡ old = ap (stacks_of cs R) (sym same) ∙ is in
    let made = move_laid cs R.tops (drop 1 W.tops) s R.places W.places low high lie in
    let new_stacks : Stacks = record old { reads = moved old.writes old.reads; writes = drop 1 old.writes } in
    let all : Makes (paste low (part s.start s.len cs) cs) (record R { tops = span low s.len 0 ∷ R.tops }) (record W { tops = drop 1 W.tops }) (low + s.len) (s.start + s.len) new_stacks =
    record { laid = made.laid; is = made.is ∙ ap (λ (o : Stacks). record o { reads = moved o.writes o.reads; writes = drop 1 o.writes }) frames } in
    subst (λ (x : List Cell). Makes x U V (low + s.len) (s.start + s.len) new_stacks) (sym changed)
    (subst (λ (x : Spans). Makes (paste low (part s.start s.len cs) cs) x V (low + s.len) (s.start + s.len) new_stacks) (sym taken)
    (subst (λ (x : Spans). Makes (paste low (part s.start s.len cs) cs) (record R { tops = span low s.len 0 ∷ R.tops }) x (low + s.len) (s.start + s.len) new_stacks) (sym left) all))

pub drop_made : (cs : List Cell) (R W U : Spans) (low high : ℕ) (s : Span) (old : Stacks) → AreLaid cs R W low high → stacks_of cs R W ≡ old →
    R.tops ≡ s ∷ drop 1 R.tops → U ≡ record R { tops = drop 1 R.tops } → Makes cs U W s.start high (record old { reads = drop 1 old.reads })
drop_made cs R W U low high s old laid is top left =
    let same : R ≡ spans (s ∷ drop 1 R.tops) R.places = ap (λ (ss : List Span). spans ss R.places) top in
    let lie : AreLaid cs (spans (s ∷ drop 1 R.tops) R.places) W low high = subst (λ (x : Spans). AreLaid cs x W low high) same laid in
    let frames : stacks_of cs (spans (s ∷ drop 1 R.tops) R.places) W ≡ old = ap (λ (x : Spans). stacks_of cs x W) (sym same) ∙ is in
    let all : Makes cs (record R { tops = drop 1 R.tops }) W s.start high (record old { reads = drop 1 old.reads }) =
    record {
      laid = record {
        below = lie.below.2;
        above = lie.above;
        apart = omega (arith, lie.below.0, lie.apart);
        sized = lie.sized;
        places = lie.places;
        small = lie.small;
        few = omega (arith, lie.few);
      };
      is = ap (λ (o : Stacks). record o { reads = drop 1 o.reads }) frames;
    } in
    subst (λ (x : Spans). Makes cs x W s.start high (record old { reads = drop 1 old.reads })) (sym left) all

-- the cells at places
get_dropped : (i k : ℕ) (l : List Cell) → slice_get (drop i l) k ≡ slice_get l (i + k)
get_dropped zero k l = ap (slice_get l) (let e : k ≡ zero + k = omega arith in e)
get_dropped (suc i) k [] = refl
get_dropped (suc i) k (x ∷ l) = get_dropped i k l ∙ ap (slice_get (x ∷ l)) (let e : suc (i + k) ≡ suc i + k = omega arith in e)

get_taken : (n k : ℕ) (l : List Cell) → k < n → slice_get (take n l) k ≡ slice_get l k
get_taken zero k l h = absurd (omega arith)
get_taken (suc n) k [] h = refl
get_taken (suc n) zero (x ∷ l) h = refl
get_taken (suc n) (suc k) (x ∷ l) h = get_taken n k l (omega arith)

first_is : (l : List Cell) (x : Cell) → slice_get l 0 ≡ Some x → take 1 l ≡ x ∷ []
first_is [] x e = absurd (cc)
first_is (y ∷ l) x e = let same : y ≡ x = cc in ap (λ (z : Cell). z ∷ []) same

pub one_part : (i : ℕ) (l : List Cell) (x : Cell) → slice_get l i ≡ Some x → part i 1 l ≡ x ∷ []
one_part i l x e = first_is (drop i l) x (get_dropped i 0 l ∙ ap (slice_get l) (let f : i + 0 ≡ i = omega arith in f) ∙ e)

pub top_cells : (cs : List Cell) (R W : Spans) (low high : ℕ) (s : Span) (old : Stacks) → AreLaid cs R W low high → stacks_of cs R W ≡ old →
    W.tops ≡ s ∷ drop 1 W.tops → all_cells old.writes ≡ part s.start s.len cs
top_cells cs R W low high s old laid is top =
    ap (λ (o : Stacks). all_cells o.writes) (sym is) ∙ ap (λ (x : List Span). all_cells (map (frame_at cs) x)) top
    ∙ whole_frame cs s (write_within cs R W low high s laid top).cursor

pub place_fits : (cs : List Cell) (R W : Spans) (low high : ℕ) (s : Span) (k : ℕ) (old : Stacks) → AreLaid cs R W low high → stacks_of cs R W ≡ old →
    W.tops ≡ s ∷ drop 1 W.tops → k < length (all_cells old.writes) → k < s.len
place_fits cs R W low high s k old laid is top has =
    omega (arith, ap length (top_cells cs R W low high s old laid is top), length_part s.start s.len cs (write_within cs R W low high s laid top).within)

pub cell_is : (cs : List Cell) (R W : Spans) (low high : ℕ) (s : Span) (k : ℕ) (x : Cell) (old : Stacks) → AreLaid cs R W low high → stacks_of cs R W ≡ old →
    W.tops ≡ s ∷ drop 1 W.tops → k < length (all_cells old.writes) → slice_get cs (s.start + k) ≡ Some x → slice_get (all_cells old.writes) k ≡ Some x
cell_is cs R W low high s k x old laid is top has read =
    ap (λ (l : List Cell). slice_get l k) (top_cells cs R W low high s old laid is top)
    ∙ get_taken s.len k (drop s.start cs) (place_fits cs R W low high s k old laid is top has) ∙ get_dropped s.start k cs ∙ read

-- a frame that must be there is there
pub some_write : (cs : List Cell) (R W : Spans) (n : ℕ) (old : Stacks) → stacks_of cs R W ≡ old → HasAfter n old.writes → 0 < length W.tops
some_write cs R W n old is has = some_after cs W.tops n (subst (λ (o : Stacks). HasAfter n o.writes) (sym is) has)

pub some_read : (cs : List Cell) (R W : Spans) (n : ℕ) (old : Stacks) → stacks_of cs R W ≡ old → HasAfter n old.reads → 0 < length R.tops
some_read cs R W n old is has = some_after cs R.tops n (subst (λ (o : Stacks). HasAfter n o.reads) (sym is) has)
