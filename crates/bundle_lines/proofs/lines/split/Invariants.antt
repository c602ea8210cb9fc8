-- Invariants of `split`: the lines of a file: it is cut at each line feed, a carriage return before that
-- is dropped, and after a last line feed there is no further line.
use Rattle.std.proofs.Common.{◌≡◌, map}
use Rattle.std.specs.Prelude.{option_map}
use Rattle.bundle_lines.proofs.Cut.{IsCut}
use Rattle.bundle_lines.proofs.lines.split.Given as goal

abbrev pub invariant-parts : goal.invariant-parts
invariant-parts l = IsCut (map (λ part. part.now) l.yielded) l.lines (option_map (λ part. part.now) l.open)
