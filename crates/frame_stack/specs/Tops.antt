-- Spans as a stack keeps them: the first ones of its list, the last of those on top.
use Rattle.std.specs.Prelude.{ℕ, zero, suc, List, [], ◌∷◌}
use Rattle.std.specs.List.{slice_index_or}
use Rattle.frame_stack.specs.declared.span.Span.{Span}

abbrev pub span : ℕ → ℕ → ℕ → Span
span start len cursor = record { start = start; len = len; cursor = cursor }

-- the first spans of a list, the last of them first
abbrev pub tops : List Span → ℕ → List Span
tops ss zero = []
tops ss (suc n) = slice_index_or ss n (span 0 0 0) ∷ tops ss n

-- the spans of a stack with the top first, and how many it has places for
pub record Spans : Type 0 where
  pub tops : List Span
  pub places : ℕ
