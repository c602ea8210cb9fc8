-- How frames lie: what stays where a part of the cells is replaced, and how much they take.
use Rattle.std.proofs.Common.{◌≡◌, ℕ, ◌+◌, ◌-◌, ◌<◌, ◌≤◌, List, [], ◌∷◌, length, map, refl, sym, ap, ◌∙◌, arith}
use Rattle.simplicity.specs.Cells.{Cell}
use Rattle.simplicity.specs.Machine.{Frame, width, held}
use Rattle.frame_stack.specs.declared.span.Span.{Span}
use Rattle.frame_stack.specs.Parts.{part}
use Rattle.frame_stack.specs.Stacks.{Stacks, HasAfter, HasBefore}
use Rattle.frame_stack.specs.Laid.{frame_at, LieBelow, LieAbove}
use Rattle.frame_stack.proofs.Parts.{length_part}

pub frame_eq : {a b c d : List Cell} → a ≡ c → b ≡ d → (let f : Frame = record { before = a; after = b } in let g : Frame = record { before = c; after = d } in f ≡ g)
frame_eq {b = b} {c = c} e h =
    ap (λ (x : List Cell). let f : Frame = record { before = x; after = b } in f) e ∙ ap (λ (x : List Cell). let f : Frame = record { before = c; after = x } in f) h

pub stacks_eq : {r s w x : List Frame} {m n p q : ℕ} → r ≡ s → w ≡ x → m ≡ n → p ≡ q →
    (let a : Stacks = record { reads = r; writes = w; room = m; places = p } in let b : Stacks = record { reads = s; writes = x; room = n; places = q } in a ≡ b)
stacks_eq {s = s} {w = w} {x = x} {m = m} {n = n} {p = p} e f g h =
    ap (λ (y : List Frame). let a : Stacks = record { reads = y; writes = w; room = m; places = p } in a) e
    ∙ ap (λ (y : List Frame). let a : Stacks = record { reads = s; writes = y; room = m; places = p } in a) f
    ∙ ap (λ (y : ℕ). let a : Stacks = record { reads = s; writes = x; room = y; places = p } in a) g
    ∙ ap (λ (y : ℕ). let a : Stacks = record { reads = s; writes = x; room = n; places = y } in a) h

-- frames whose parts stay are the same
pub stays_below : (cs ds : List Cell) (low : ℕ) (ss : List Span) → LieBelow low ss → ((i n : ℕ) → i + n ≤ low → part i n ds ≡ part i n cs) →
    map (frame_at ds) ss ≡ map (frame_at cs) ss
stays_below cs ds low [] lie same = refl
stays_below cs ds low (s ∷ ss) lie same =
    let here : frame_at ds s ≡ frame_at cs s =
    frame_eq (same s.start s.cursor (omega (arith, lie.0, lie.1))) (same (s.start + s.cursor) (s.len - s.cursor) (omega (arith, lie.0, lie.1))) in
    ap (λ (f : Frame). f ∷ map (frame_at ds) ss) here
    ∙ ap (λ (fs : List Frame). frame_at cs s ∷ fs) (stays_below cs ds s.start ss lie.2 (λ i n h. same i n (omega (arith, lie.0))))

pub stays_above : (cs ds : List Cell) (end high : ℕ) (ss : List Span) → LieAbove end high ss → ((i n : ℕ) → high ≤ i → part i n ds ≡ part i n cs) →
    map (frame_at ds) ss ≡ map (frame_at cs) ss
stays_above cs ds end high [] lie same = refl
stays_above cs ds end high (s ∷ ss) lie same =
    let here : frame_at ds s ≡ frame_at cs s =
    frame_eq (same s.start s.cursor (omega (arith, lie.0))) (same (s.start + s.cursor) (s.len - s.cursor) (omega (arith, lie.0))) in
    ap (λ (f : Frame). f ∷ map (frame_at ds) ss) here
    ∙ ap (λ (fs : List Frame). frame_at cs s ∷ fs) (stays_above cs ds end (s.start + s.len) ss lie.2 (λ i n h. same i n (omega (arith, lie.0))))

pub above_within : (end high : ℕ) (ss : List Span) → LieAbove end high ss → high ≤ end
above_within end high [] lie = omega arith
above_within end high (s ∷ ss) lie = omega (arith, lie.0, above_within end (s.start + s.len) ss lie.2)

-- a frame's cells
pub frame_width : (cs : List Cell) (s : Span) → s.cursor ≤ s.len → s.start + s.len ≤ length cs → width (frame_at cs s) ≡ s.len
frame_width cs s h within =
    omega (arith, length_part s.start s.cursor cs (omega arith), length_part (s.start + s.cursor) (s.len - s.cursor) cs (omega arith))

pub held_below : (cs : List Cell) (low : ℕ) (ss : List Span) → LieBelow low ss → low ≤ length cs → held (map (frame_at cs) ss) ≡ low
held_below cs low [] lie within = sym lie
held_below cs low (s ∷ ss) lie within =
    omega (arith, lie.0, frame_width cs s lie.1 (omega (arith, lie.0)), held_below cs s.start ss lie.2 (omega (arith, lie.0)))

pub held_above : (cs : List Cell) (high : ℕ) (ss : List Span) → LieAbove (length cs) high ss → held (map (frame_at cs) ss) + high ≡ length cs
held_above cs high [] lie = omega (arith, lie)
held_above cs high (s ∷ ss) lie =
    let within : s.start + s.len ≤ length cs = above_within (length cs) (s.start + s.len) ss lie.2 in
    omega (arith, lie.0, frame_width cs s lie.1 within, held_above cs (s.start + s.len) ss lie.2)

-- what is known of the frame on top of a stack that lies below, and of one that lies above
pub record IsTop (cs : List Cell) (s : Span) (n : ℕ) : Type 0 where
  pub cursor : s.cursor ≤ s.len
  pub within : s.start + s.len ≤ length cs
  pub after : n ≤ length (frame_at cs s).after → n ≤ s.len - s.cursor
  pub before : n ≤ length (frame_at cs s).before → n ≤ s.cursor

is_top : (cs : List Cell) (s : Span) (n : ℕ) → s.cursor ≤ s.len → s.start + s.len ≤ length cs → IsTop cs s n
is_top cs s n h within = record {
  cursor = h;
  within = within;
  after = λ fits. omega (arith, length_part (s.start + s.cursor) (s.len - s.cursor) cs (omega arith));
  before = λ fits. omega (arith, length_part s.start s.cursor cs (omega arith));
}

pub top_below : (cs : List Cell) (low : ℕ) (s : Span) (ss : List Span) (n : ℕ) → LieBelow low (s ∷ ss) → low ≤ length cs → IsTop cs s n
top_below cs low s ss n lie within = is_top cs s n lie.1 (omega (arith, lie.0))

pub top_above : (cs : List Cell) (high : ℕ) (s : Span) (ss : List Span) (n : ℕ) → LieAbove (length cs) high (s ∷ ss) → IsTop cs s n
top_above cs high s ss n lie = is_top cs s n lie.1 (above_within (length cs) (s.start + s.len) ss lie.2)

-- a stack with a frame on top has a span
pub some_after : (cs : List Cell) (ss : List Span) (n : ℕ) → HasAfter n (map (frame_at cs) ss) → 0 < length ss
some_after cs [] n h = absurd h
some_after cs (s ∷ ss) n h = omega arith

pub some_before : (cs : List Cell) (ss : List Span) (n : ℕ) → HasBefore n (map (frame_at cs) ss) → 0 < length ss
some_before cs [] n h = absurd h
some_before cs (s ∷ ss) n h = omega arith
