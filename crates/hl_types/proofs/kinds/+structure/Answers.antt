-- Answers to the goals of `structure`: the id of a type's form, the core type that its values are encoded in.
use Rattle.std.proofs.Common.{arith, refl, ap, length, map, IsTrue}
use Rattle.hl_syntax.specs.declared.kinds.HlType.TheVariants as kind
use Rattle.simplicityhl.specs.Kinds.{form}
use Rattle.type_table.proofs.Growth.{grown_self, grown_through}
use Rattle.simplicityhl.specs.Kinds.{is_sound}
use Rattle.hl_types.proofs.Parts.{sound_at, ids_at, tuple_means, either_means, list_means, sound-Tuple}
use Rattle.hl_types.proofs.kinds.+structure.Goals as goal

pub returns-in_ok-sum-in-Either-clause-ok : goal.returns-in_ok-sum-in-Either-clause-ok
returns-in_ok-sum-in-Either-clause-ok t c =
    let e = c.get-in-Either.ensures in let f = c.get-in-Either-2.ensures in
    rw (c.in-Either.is, ← e, ← f)
    (either_means _ _ _ _ _ _ _ _ c.in_ok-right-in-Either.ensures.grown c.in_ok-left-in-Either.ensures.ok c.in_ok-right-in-Either.ensures.ok c.in_ok-sum-in-Either.ensures.ok)

pub returns-in_ok-list_form-in-List-clause-ok : goal.returns-in_ok-list_form-in-List-clause-ok
returns-in_ok-list_form-in-List-clause-ok t c =
    let e = c.get-in-List.ensures in
    rw (c.in-List.is, ← e) (list_means _ _ _ _ _ _ _ c.in_ok-item-in-List.ensures.ok c.level_of.ensures.level c.in_ok-list_form-in-List.ensures.ok)

pub parts-init : goal.parts-init
parts-init t c =
    let items = c.as_slice-part-items.ensures in let sound : IsTrue (is_sound (kind.Tuple c.in-Tuple.parts)) = rw (← c.in-Tuple.is) c.requires in
    record {
      sound = rw (items, ← sound-Tuple c.in-Tuple.parts) sound;
      within = rw c.new-ids.ensures.items tt;
      are = rw c.new-ids.ensures.items refl;
      grown = grown_self c.args.types.now;
      distinct = λ h. absurd (let e = ap length c.new-ids.ensures.items in omega arith);
    }

pub parts-preserved : goal.parts-preserved
parts-preserved t c =
    let next = ids_at c.as_slice-part-items.result.now c.parts.part-index c.part-item.result c.parts-test.true c.part-item.is c.parts.types c.structure.new.types c.parts.ids.items
    c.in_ok-id-in-Tuple.id (map form c.as_slice-part-items.result.now) c.in_ok-id-in-Tuple.ensures.grown c.parts.invariant.within c.in_ok-id-in-Tuple.ensures.ok c.parts.invariant.are in
    record {
      sound = (sound_at c.as_slice-part-items.result.now c.parts.part-index c.part-item.result c.parts-test.true c.part-item.is c.parts.invariant.sound).1;
      within = rw c.in_ok-push-in-Tuple.ensures.items next.0;
      are = rw c.in_ok-push-in-Tuple.ensures.items next.1;
      grown = grown_through c.args.types.now c.parts.types c.structure.new.types c.parts.invariant.grown c.in_ok-id-in-Tuple.ensures.grown;
      distinct = λ _. c.in_ok-id-in-Tuple.ensures.distinct;
    }

pub returns-in_ok-tuple_form-in-Tuple-clause-ok : goal.returns-in_ok-tuple_form-in-Tuple-clause-ok
returns-in_ok-tuple_form-in-Tuple-clause-ok t c =
    let items = c.as_slice-part-items.ensures in
    let m = rw c.as_slice.ensures.value at c.in_ok-tuple_form-in-Tuple.ensures.ok in
    rw (c.in-Tuple.is, ← items)
    (tuple_means c.parts.types c.tuple_form.new.types c.parts.ids.items c.as_slice-part-items.result.now c.as_slice-part-items.result.now c.parts.part-index c.in_ok-tuple_form-in-Tuple.field-0
    c.parts-test.false c.parts.invariant.are m)
