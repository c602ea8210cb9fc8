-- Invariants of `sound` in `sound`.
use Rattle.std.proofs.Common.{◌≡◌, map, drop}
use Rattle.std.specs.List.{list_all}
use Rattle.simplicityhl.specs.Kinds.{is_sound}
use Rattle.hl_eval.proofs.sound.+sound.Given as goal

abbrev pub invariant-are_sound-parts : goal.invariant-are_sound-parts
invariant-are_sound-parts l = list_all (λ part. part) (map is_sound (drop l.part-index l.part-items)) ≡ list_all (λ part. part) (map is_sound l.fn.parts)
