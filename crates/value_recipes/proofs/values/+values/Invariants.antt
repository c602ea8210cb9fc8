-- Invariants of the cycle `values`.
use Rattle.std.proofs.Common.{map, drop}
use Rattle.hl_terms.specs.Translated.{all_values, each_value, value_term}
use Rattle.type_table.specs.Kinds.{kind_at}
use Rattle.value_recipes.proofs.Going.{Going}
use Rattle.value_recipes.proofs.values.+values.Given as goal

abbrev pub invariant-add_parts-parts : goal.invariant-add_parts-parts
invariant-add_parts-parts l =
    Going l.fn.types l.types l.fn.terms l.terms l.ids.items (each_value (map value_term (drop l.place l.part-items)) (drop l.place l.kinds) (kind_at l.fn.types l.fn.source))
    (each_value (map value_term l.fn.parts) l.fn.kinds (kind_at l.fn.types l.fn.source))

abbrev pub invariant-add_items-items : goal.invariant-add_items-items
invariant-add_items-items l =
    Going l.fn.types l.types l.fn.terms l.terms l.ids.items (all_values (map value_term (drop l.item-index l.item-items)) l.kind (kind_at l.fn.types l.fn.source))
    (all_values (map value_term l.fn.items) l.fn.kind (kind_at l.fn.types l.fn.source))
