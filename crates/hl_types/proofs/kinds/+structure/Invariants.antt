-- Invariants of `structure`: the id of a type's form, the core type that its values are encoded in.
use Rattle.std.proofs.Common.{◌≡◌, ◌<◌, ◌++◌, length, map, drop, IsTrue}
use Rattle.std.specs.List.{list_all}
use Rattle.simplicityhl.specs.Kinds.{form}
use Rattle.type_table.specs.Kinds.{kind_at, IsGrown, IsDistinct}
use Rattle.hl_types.specs.Ids.{AreBelow}
use Rattle.simplicityhl.specs.Kinds.{is_sound}
use Rattle.hl_types.proofs.kinds.+structure.Given as goal

abbrev pub decreases-structure : goal.decreases-structure
decreases-structure l = goal.size-structure l

abbrev pub invariant-parts : goal.invariant-parts
invariant-parts l = record {
  sound : IsTrue (list_all (λ part. part) (map is_sound (drop l.part-index l.part-items)));
  within : AreBelow (length l.types) l.ids.items;
  are : map (kind_at l.types) l.ids.items ++ map form (drop l.part-index l.part-items) ≡ map form l.part-items;
  grown : IsGrown l.fn.types l.types;
  distinct : 0 < length l.ids.items → IsDistinct l.types;
}
