-- Invariants of `patterns` in `pattern`.
use Rattle.std.proofs.Common.{◌≡◌, drop, map}
use Rattle.hl_rules.specs.Patterns.{pattern_walk, patterns_walk, items_walk}
use Rattle.hl_scope.proofs.pattern.+patterns.Given as goal

abbrev pub invariant-bind_parts-parts : goal.invariant-bind_parts-parts
invariant-bind_parts-parts l = patterns_walk (map pattern_walk (drop l.place l.parts)) (drop l.place l.kinds) l.bound ≡ patterns_walk (map pattern_walk l.parts) l.kinds l.initial.bound

abbrev pub invariant-bind_items-items : goal.invariant-bind_items-items
invariant-bind_items-items l = items_walk (map pattern_walk (drop l.part-index l.parts)) l.item l.bound ≡ items_walk (map pattern_walk l.parts) l.item l.initial.bound
