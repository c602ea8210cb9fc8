-- Invariants of `names` in `names`.
use Rattle.std.proofs.Common.{◌≡◌, ◌++◌, None, drop, map, replicate}
use Rattle.scope_layout.specs.Paths.{variable_path}
use Rattle.scope_layout.proofs.names.+names.Given as goal

abbrev pub invariant-to_part-parts : goal.invariant-to_part-parts
invariant-to_part-parts l = map (variable_path l.name) l.parts ≡ replicate l.place None ++ map (variable_path l.name) (drop l.place l.parts)
