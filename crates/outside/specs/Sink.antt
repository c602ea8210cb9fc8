-- A sink as its caller knows it, and what a call leaves in one whose contents are told.
use Rattle.std.specs.Prelude.{◌≡◌, ℕ, List, ◌++◌, take, Option, Some, None}

-- a sink as its caller knows it: the bytes that it has taken, where it tells them, and how many calls of `put` failed
pub record SinkState : Type 0 where
  pub contents : Option (List ℕ)
  pub faults : ℕ

-- the contents have this more at their end; contents that aren't told stay so
abbrev pub Gained : Option (List ℕ) → Option (List ℕ) → List ℕ → Type 0
Gained (Some old) new more = new ≡ Some (old ++ more)
Gained None new more = new ≡ None

-- the contents have some first bytes of the piece more at their end
abbrev pub GainedFront : Option (List ℕ) → Option (List ℕ) → List ℕ → Type 0
GainedFront old new piece = (kept : ℕ) × Gained old new (take kept piece)
