-- Invariants of `resolve`: the type that a written type stands for, after the aliases before it.
use Rattle.std.proofs.Common.{◌≡◌, map, drop}
use Rattle.std.specs.List.{All}
use Rattle.simplicityhl.specs.Kinds.{IsSound}
use Rattle.simplicityhl.specs.Written.{in_turn, walk}
use Rattle.hl_types.proofs.Walked.{after}
use Rattle.hl_types.proofs.written.+resolve.Given as goal

abbrev pub invariant-resolve_parts-parts : goal.invariant-resolve_parts-parts
invariant-resolve_parts-parts l = record {
  found : after l.kinds (in_turn (map (walk l.aliases) (drop l.text-index l.text-items))) ≡ in_turn (map (walk l.aliases) l.fn.texts);
  sound : All IsSound l.kinds;
}
