-- How frames lie in one buffer: read frames end to end from its start, write frames end to end up to its end.
use Rattle.std.specs.Prelude.{◌≡◌, ℕ, ◌+◌, ◌-◌, ◌^◌, ◌<◌, ◌≤◌, List, [], ◌∷◌, length, map}
use Rattle.simplicity.specs.Cells.{Cell}
use Rattle.simplicity.specs.Machine.{Frame}
use Rattle.frame_stack.specs.Parts.{part}
use Rattle.frame_stack.specs.Stacks.{Stacks}
use Rattle.frame_stack.specs.Tops.{Spans}
use Rattle.frame_stack.specs.declared.span.Span.{Span}

-- the frame that a span of the cells is
abbrev pub frame_at : List Cell → Span → Frame
frame_at cs s = record { before = part s.start s.cursor cs; after = part (s.start + s.cursor) (s.len - s.cursor) cs }

-- spans end to end, the first of them up to a place, and the last from the start
abbrev pub LieBelow : ℕ → List Span → Type 0
LieBelow low [] = low ≡ 0
LieBelow low (s ∷ ss) = (s.start + s.len ≡ low) × (s.cursor ≤ s.len) × LieBelow s.start ss

-- spans end to end, the first of them from a place, and the last up to the end
abbrev pub LieAbove : ℕ → ℕ → List Span → Type 0
LieAbove end high [] = high ≡ end
LieAbove end high (s ∷ ss) = (s.start ≡ high) × (s.cursor ≤ s.len) × LieAbove end (s.start + s.len) ss

pub record AreLaid (cells : List Cell) (reads writes : Spans) (low high : ℕ) : Type 0 where
  pub below : LieBelow low reads.tops
  pub above : LieAbove (length cells) high writes.tops
  pub apart : low ≤ high
  pub sized : length cells < 2 ^ 64
  pub places : reads.places ≡ writes.places
  pub small : reads.places < 2 ^ 32
  pub few : length reads.tops + length writes.tops ≤ reads.places

abbrev pub stacks_of : List Cell → Spans → Spans → Stacks
stacks_of cells reads writes = record {
  reads = map (frame_at cells) reads.tops;
  writes = map (frame_at cells) writes.tops;
  room = length cells;
  places = reads.places;
}
