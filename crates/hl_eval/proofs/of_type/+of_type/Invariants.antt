-- Invariants of `of_type` in `of_type`.
use Rattle.std.proofs.Common.{◌≡◌, map, drop, is_some}
use Rattle.hl_meaning.specs.Values.{encoded, at_all, at_each}
use Rattle.hl_eval.proofs.of_type.+of_type.Given as goal

abbrev pub invariant-are_items_of-items : goal.invariant-are_items_of-items
invariant-are_items_of-items l = is_some (at_all (map encoded (drop l.item-index l.item-items)) l.kind) ≡ is_some (at_all (map encoded l.fn.items) l.kind)

abbrev pub invariant-are_parts_of-parts : goal.invariant-are_parts_of-parts
invariant-are_parts_of-parts l = is_some (at_each (map encoded (drop l.place l.part-items)) (drop l.place l.kinds)) ≡ is_some (at_each (map encoded l.fn.parts) l.fn.kinds)
