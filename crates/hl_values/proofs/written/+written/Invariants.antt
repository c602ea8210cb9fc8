-- Invariants of `written` in `written`.
use Rattle.std.proofs.Common.{◌≡◌, map, drop}
use Rattle.hl_values.specs.Written.{written, all_at, each_at}
use Rattle.hl_values.proofs.Reading.{ahead}
use Rattle.hl_values.proofs.written.+written.Given as goal

abbrev pub invariant-items_at-items : goal.invariant-items_at-items
invariant-items_at-items l = ahead l.values (all_at (map written (drop l.item-index l.item-items)) l.kind) ≡ all_at (map written l.fn.items) l.kind

abbrev pub invariant-parts_at-parts : goal.invariant-parts_at-parts
invariant-parts_at-parts l = ahead l.values (each_at (map written (drop l.place l.part-items)) (drop l.place l.kinds)) ≡ each_at (map written l.fn.parts) l.fn.kinds
