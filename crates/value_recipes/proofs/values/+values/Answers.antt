-- Answers to the goals of the cycle `values`.
use Rattle.std.proofs.Common.{◌<◌, length, ap, arith}
use denote.Param.Weighed.{at_most}
use Rattle.hl_data.proofs.value.HlValue.TheLaws.{the_size}
use Rattle.hl_data.specs.declared.value.HlValue.{size-HlValue}
use Rattle.hl_data.specs.declared.value.HlValue.TheViews.{sized-List, sized-Left, sized-Right}
use Rattle.hl_terms.specs.Translated.{list_term, value_term}
use Rattle.simplicity.specs.Makes.{to_left, to_right, tuple, unit}
use Rattle.simplicityhl.specs.Kinds.{bound_level}
use Rattle.type_table.specs.Kinds.{kind_at}
use Rattle.term_core.specs.Terms.{term_at}
use Rattle.term_recipes.specs.Shapes.{terms_at}
use Rattle.term_recipes.proofs.Later.{made_is, stands_later, type_later, typed_same}
use Rattle.value_recipes.proofs.Cases.{array_is, left_is, list_is, nothing_is, right_is, tuple_is}
use Rattle.value_recipes.proofs.Encoded.{item_there, kind_there, part_there, sound_at}
use Rattle.value_recipes.proofs.Going.{item_goes, part_goes}
use Rattle.value_recipes.proofs.Layers.{either_sound, left_there, list_sound, list_there, right_there, value_typed}
use Rattle.value_recipes.proofs.values.+values.Goals as goal

pub add_items-add_value-requires : goal.add_items-add_value-requires
add_items-add_value-requires t c =
    let items = c.args.items.now in
    let less : c.items.item-index < length items = rw (← c.as_slice-item-items.ensures) c.items-test.true in
    let h = at_most the_size items c.items.item-index c.item-item.result less in
    let is = rw c.as_slice-item-items.ensures at c.item-item.is in
    let bound = rw (← is) at h in (
      omega (arith, bound, c.decreases),
      (
        c.items.invariant.stands,
        (
          type_later c.args.types.now c.items.types c.args.source c.items.invariant.grown c.requires.source,
          (
            c.requires.sound,
            item_there c.args.items.now c.as_slice-item-items.result.now c.items.item-index c.item-item.result c.args.kind.now c.requires.there c.as_slice-item-items.ensures c.items-test.true c.item-item.is,
          ),
        ),
      ),
    )

pub add_items-items-preserved : goal.add_items-items-preserved
add_items-items-preserved t c =
    item_goes c.args.types.now c.items.types c.add_value.new.types c.args.terms.now c.items.terms c.add_value.new.terms c.args.source c.items.ids.items c.push.new.self.items c.in_ok-id.id c.as_slice-item-items.result.now c.items.item-index c.item-item.result c.args.kind.now _
    c.items-test.true c.item-item.is c.requires.source c.in_ok-id.ensures.grown c.in_ok-id.ensures.kept c.in_ok-id.ensures.stands c.in_ok-id.ensures.ok c.in_ok-push.ensures.items c.items.invariant

pub add_parts-add_value-requires : goal.add_parts-add_value-requires
add_parts-add_value-requires t c =
    let parts = c.args.parts.now in
    let less : c.parts.place < length parts = rw (← c.as_slice-part-items.ensures) c.parts-test.true in
    let h = at_most the_size parts c.parts.place c.part-item.result less in
    let is = rw c.as_slice-part-items.ensures at c.part-item.is in
    let bound = rw (← is) at h in (
      omega (arith, bound, c.decreases),
      (
        c.parts.invariant.stands,
        (
          type_later c.args.types.now c.parts.types c.args.source c.parts.invariant.grown c.requires.source,
          (
            sound_at c.args.kinds.now c.parts.place c.get.result.now c.requires.sound c.get.ensures,
            part_there c.args.parts.now c.as_slice-part-items.result.now c.args.kinds.now c.parts.place c.part-item.result c.get.result.now c.requires.there c.as_slice-part-items.ensures c.parts-test.true c.part-item.is c.get.ensures,
          ),
        ),
      ),
    )

pub add_parts-parts-preserved : goal.add_parts-parts-preserved
add_parts-parts-preserved t c =
    part_goes c.args.types.now c.parts.types c.add_value.new.types c.args.terms.now c.parts.terms c.add_value.new.terms c.args.source c.parts.ids.items c.push.new.self.items c.in_ok-id.id c.as_slice-part-items.result.now c.parts.place c.part-item.result c.get.result.now _
    c.parts-test.true c.part-item.is c.requires.source c.in_ok-id.ensures.grown c.in_ok-id.ensures.kept c.in_ok-id.ensures.stands c.in_ok-id.ensures.ok c.in_ok-push.ensures.items c.args.kinds.now c.get.ensures c.parts.invariant

pub add_parts-get-requires : goal.add_parts-get-requires
add_parts-get-requires t c = kind_there c.args.parts.now c.as_slice-part-items.result.now c.args.kinds.now c.parts.place c.requires.there c.as_slice-part-items.ensures c.parts-test.true

pub add_value-add_tuple-requires-clause-typed : goal.add_value-add_tuple-requires-clause-typed
add_value-add_tuple-requires-clause-typed t c =
    let v = c.args.value.now in
    let k = c.args.kind.now in
    let a = kind_at c.args.types.now c.args.source in
    let some = c.as_slice.result.now in
    typed_same (tuple (kind_at c.add_parts.new.types c.args.source) (terms_at c.add_parts.new.types c.add_parts.new.terms some)) (value_term v k a)
    (tuple_is v k c.in-Tuple.parts c.in-Tuple-kind.kinds c.args.types.now c.add_parts.new.types c.add_parts.new.terms c.args.source c.in_ok-ids-in-Tuple.ids.items some
    c.in-Tuple.is c.in-Tuple-kind.is c.as_slice.ensures.value c.in_ok-ids-in-Tuple.ensures.grown c.requires.source c.in_ok-ids-in-Tuple.ensures.ok) (value_typed v k a c.requires.of_kind)

pub add_value-returns-in_ok-ids-in-Tuple-clause-ok : goal.add_value-returns-in_ok-ids-in-Tuple-clause-ok
add_value-returns-in_ok-ids-in-Tuple-clause-ok t c =
    let v = c.args.value.now in
    let k = c.args.kind.now in
    let some = c.as_slice.result.now in
    made_is c.add_tuple.new.types c.add_tuple.new.terms c.add_tuple.result (tuple (kind_at c.add_parts.new.types c.args.source) (terms_at c.add_parts.new.types c.add_parts.new.terms some)) (value_term v k (kind_at c.args.types.now c.args.source))
    (tuple_is v k c.in-Tuple.parts c.in-Tuple-kind.kinds c.args.types.now c.add_parts.new.types c.add_parts.new.terms c.args.source c.in_ok-ids-in-Tuple.ids.items some
    c.in-Tuple.is c.in-Tuple-kind.is c.as_slice.ensures.value c.in_ok-ids-in-Tuple.ensures.grown c.requires.source c.in_ok-ids-in-Tuple.ensures.ok) c.add_tuple.ensures.ok

pub add_value-add_tuple-requires-in-Array-clause-typed : goal.add_value-add_tuple-requires-in-Array-clause-typed
add_value-add_tuple-requires-in-Array-clause-typed t c =
    let v = c.args.value.now in
    let k = c.args.kind.now in
    let a = kind_at c.args.types.now c.args.source in
    let some = c.as_slice-in-Array.result.now in
    typed_same (tuple (kind_at c.add_items.new.types c.args.source) (terms_at c.add_items.new.types c.add_items.new.terms some)) (value_term v k a)
    (array_is v k c.in-Array.items c.in-Array-kind.item c.get.result.now c.in-Array-kind.field-1 c.args.types.now c.add_items.new.types c.add_items.new.terms c.args.source c.in_ok-ids-in-Array.ids.items some
    c.in-Array.is c.in-Array-kind.is c.get.ensures c.as_slice-in-Array.ensures.value c.in_ok-ids-in-Array.ensures.grown c.requires.source c.in_ok-ids-in-Array.ensures.ok) (value_typed v k a c.requires.of_kind)

pub add_value-returns-in_ok-ids-in-Array-clause-ok : goal.add_value-returns-in_ok-ids-in-Array-clause-ok
add_value-returns-in_ok-ids-in-Array-clause-ok t c =
    let v = c.args.value.now in
    let k = c.args.kind.now in
    let some = c.as_slice-in-Array.result.now in
    made_is c.add_tuple-in-Array.new.types c.add_tuple-in-Array.new.terms c.add_tuple-in-Array.result (tuple (kind_at c.add_items.new.types c.args.source) (terms_at c.add_items.new.types c.add_items.new.terms some)) (value_term v k (kind_at c.args.types.now c.args.source))
    (array_is v k c.in-Array.items c.in-Array-kind.item c.get.result.now c.in-Array-kind.field-1 c.args.types.now c.add_items.new.types c.add_items.new.terms c.args.source c.in_ok-ids-in-Array.ids.items some
    c.in-Array.is c.in-Array-kind.is c.get.ensures c.as_slice-in-Array.ensures.value c.in_ok-ids-in-Array.ensures.grown c.requires.source c.in_ok-ids-in-Array.ensures.ok) c.add_tuple-in-Array.ensures.ok

pub add_value-add_items-requires-in-List : goal.add_value-add_items-requires-in-List
add_value-add_items-requires-in-List t c = (
  omega (arith, sized-List c.in-List.items, ap size-HlValue c.in-List.is, c.decreases),
  (
    stands_later c.args.types.now c.structure.new.types c.args.terms.now c.requires.stands c.in_ok-form-in-List.ensures.grown,
    (
      type_later c.args.types.now c.structure.new.types c.args.source c.in_ok-form-in-List.ensures.grown c.requires.source,
      (
        list_sound c.args.kind.now c.in-List-kind.item c.get-in-List-2.result.now c.in-List-kind.bound c.in-List-kind.is c.get-in-List-2.ensures c.requires.sound,
        list_there c.args.value.now c.args.kind.now c.in-List.items c.in-List-kind.item c.get-in-List-2.result.now c.in-List-kind.bound c.in-List.is c.in-List-kind.is c.get-in-List-2.ensures c.requires.of_kind,
      ),
    ),
  ),
)

pub add_value-add_list-requires-clause-typed : goal.add_value-add_list-requires-clause-typed
add_value-add_list-requires-clause-typed t c =
    let v = c.args.value.now in
    let k = c.args.kind.now in
    let a = kind_at c.args.types.now c.args.source in
    let some = c.as_slice-in-List.result.now in
    let later = c.add_items-in-List.new.types in
    typed_same (list_term (kind_at later c.args.source) (kind_at later c.in_ok-form-in-List.form) (bound_level c.in-List-kind.bound) (terms_at later c.add_items-in-List.new.terms some)) (value_term v k a)
    (list_is v k c.in-List.items c.in-List-kind.item c.get-in-List-2.result.now c.get-in-List.result.now c.in-List-kind.bound c.args.types.now c.structure.new.types later c.add_items-in-List.new.terms c.args.source c.in_ok-form-in-List.form c.in_ok-ids-in-List.ids.items some
    c.in-List.is c.in-List-kind.is c.get-in-List-2.ensures c.get-in-List.ensures c.as_slice-in-List.ensures.value c.in_ok-form-in-List.ensures.grown c.in_ok-ids-in-List.ensures.grown c.requires.source
    (type_later c.args.types.now c.structure.new.types c.args.source c.in_ok-form-in-List.ensures.grown c.requires.source) c.in_ok-form-in-List.ensures.ok c.in_ok-ids-in-List.ensures.ok) (value_typed v k a c.requires.of_kind)

pub add_value-returns-in_ok-ids-in-List-clause-ok : goal.add_value-returns-in_ok-ids-in-List-clause-ok
add_value-returns-in_ok-ids-in-List-clause-ok t c =
    let v = c.args.value.now in
    let k = c.args.kind.now in
    let some = c.as_slice-in-List.result.now in
    let later = c.add_items-in-List.new.types in
    made_is c.add_list.new.types c.add_list.new.terms c.add_list.result (list_term (kind_at later c.args.source) (kind_at later c.in_ok-form-in-List.form) (bound_level c.in-List-kind.bound) (terms_at later c.add_items-in-List.new.terms some))
    (value_term v k (kind_at c.args.types.now c.args.source))
    (list_is v k c.in-List.items c.in-List-kind.item c.get-in-List-2.result.now c.get-in-List.result.now c.in-List-kind.bound c.args.types.now c.structure.new.types later c.add_items-in-List.new.terms c.args.source c.in_ok-form-in-List.form c.in_ok-ids-in-List.ids.items some
    c.in-List.is c.in-List-kind.is c.get-in-List-2.ensures c.get-in-List.ensures c.as_slice-in-List.ensures.value c.in_ok-form-in-List.ensures.grown c.in_ok-ids-in-List.ensures.grown c.requires.source
    (type_later c.args.types.now c.structure.new.types c.args.source c.in_ok-form-in-List.ensures.grown c.requires.source) c.in_ok-form-in-List.ensures.ok c.in_ok-ids-in-List.ensures.ok) c.add_list.ensures.ok

pub add_value-returns-in_ok-form-in-Nothing-clause-ok : goal.add_value-returns-in_ok-form-in-Nothing-clause-ok
add_value-returns-in_ok-form-in-Nothing-clause-ok t c =
    let one = c.structure-in-Nothing.new.types in
    made_is c.add_nothing.new.types c.add_nothing.new.terms c.add_nothing.result (to_left (kind_at one c.in_ok-form-in-Nothing.form) (unit (kind_at one c.args.source))) (value_term c.args.value.now c.args.kind.now (kind_at c.args.types.now c.args.source))
    (nothing_is c.args.value.now c.args.kind.now c.in-Option.item c.get-in-Nothing.result.now c.args.types.now one c.args.source c.in_ok-form-in-Nothing.form c.in-Nothing.is c.in-Option.is c.get-in-Nothing.ensures c.in_ok-form-in-Nothing.ensures.grown c.requires.source c.in_ok-form-in-Nothing.ensures.ok)
    c.add_nothing.ensures.ok

pub add_value-add_value-requires-in-Left : goal.add_value-add_value-requires-in-Left
add_value-add_value-requires-in-Left t c = (
  omega (arith, sized-Left c.in-Left.part, ap size-HlValue c.in-Left.is, ap size-HlValue c.get-in-Left-2.ensures, c.decreases),
  (
    stands_later c.args.types.now c.structure-in-Left.new.types c.args.terms.now c.requires.stands c.in_ok-other-in-Left.ensures.grown,
    (
      type_later c.args.types.now c.structure-in-Left.new.types c.args.source c.in_ok-other-in-Left.ensures.grown c.requires.source,
      (
        (either_sound c.args.kind.now c.in-Either.left c.in-Either.right c.get-in-Left-3.result.now c.get-in-Left.result.now c.in-Either.is c.get-in-Left-3.ensures c.get-in-Left.ensures c.requires.sound).0,
        left_there c.args.value.now c.args.kind.now c.in-Left.part c.get-in-Left-2.result.now c.in-Either.left c.in-Either.right c.get-in-Left-3.result.now c.in-Left.is c.in-Either.is c.get-in-Left-2.ensures c.get-in-Left-3.ensures c.requires.of_kind,
      ),
    ),
  ),
)

pub add_value-returns-in_ok-id-in-Left-clause-ok : goal.add_value-returns-in_ok-id-in-Left-clause-ok
add_value-returns-in_ok-id-in-Left-clause-ok t c =
    let two = c.add_value-in-Left.new.types in
    made_is c.add_to_left.new.types c.add_to_left.new.terms c.add_to_left.result (to_left (kind_at two c.in_ok-other-in-Left.other) (term_at two c.add_value-in-Left.new.terms c.in_ok-id-in-Left.id))
    (value_term c.args.value.now c.args.kind.now (kind_at c.args.types.now c.args.source))
    (left_is c.args.value.now c.args.kind.now c.in-Left.part c.get-in-Left-2.result.now c.in-Either.left c.in-Either.right c.get-in-Left-3.result.now c.get-in-Left.result.now c.args.types.now c.structure-in-Left.new.types two c.add_value-in-Left.new.terms c.args.source
    c.in_ok-other-in-Left.other c.in_ok-id-in-Left.id c.in-Left.is c.in-Either.is c.get-in-Left-2.ensures c.get-in-Left-3.ensures c.get-in-Left.ensures c.in_ok-other-in-Left.ensures.grown c.in_ok-id-in-Left.ensures.grown c.requires.source c.in_ok-other-in-Left.ensures.ok
    c.in_ok-id-in-Left.ensures.ok) c.add_to_left.ensures.ok

pub add_value-add_value-requires-in-Right : goal.add_value-add_value-requires-in-Right
add_value-add_value-requires-in-Right t c = (
  omega (arith, sized-Right c.in-Right.part, ap size-HlValue c.in-Right.is, ap size-HlValue c.get-in-Right-2.ensures, c.decreases),
  (
    stands_later c.args.types.now c.structure-in-Right.new.types c.args.terms.now c.requires.stands c.in_ok-other-in-Right.ensures.grown,
    (
      type_later c.args.types.now c.structure-in-Right.new.types c.args.source c.in_ok-other-in-Right.ensures.grown c.requires.source,
      (
        (either_sound c.args.kind.now c.in-Either-kind.left c.in-Either-kind.right c.get-in-Right.result.now c.get-in-Right-3.result.now c.in-Either-kind.is c.get-in-Right.ensures c.get-in-Right-3.ensures c.requires.sound).1,
        right_there c.args.value.now c.args.kind.now c.in-Right.part c.get-in-Right-2.result.now c.in-Either-kind.left c.in-Either-kind.right c.get-in-Right-3.result.now c.in-Right.is c.in-Either-kind.is c.get-in-Right-2.ensures c.get-in-Right-3.ensures c.requires.of_kind,
      ),
    ),
  ),
)

pub add_value-returns-in_ok-id-in-Right-clause-ok : goal.add_value-returns-in_ok-id-in-Right-clause-ok
add_value-returns-in_ok-id-in-Right-clause-ok t c =
    let two = c.add_value-in-Right.new.types in
    made_is c.add_to_right.new.types c.add_to_right.new.terms c.add_to_right.result (to_right (kind_at two c.in_ok-other-in-Right.other) (term_at two c.add_value-in-Right.new.terms c.in_ok-id-in-Right.id))
    (value_term c.args.value.now c.args.kind.now (kind_at c.args.types.now c.args.source))
    (right_is c.args.value.now c.args.kind.now c.in-Right.part c.get-in-Right-2.result.now c.in-Either-kind.left c.in-Either-kind.right c.get-in-Right.result.now c.get-in-Right-3.result.now c.args.types.now c.structure-in-Right.new.types two c.add_value-in-Right.new.terms c.args.source
    c.in_ok-other-in-Right.other c.in_ok-id-in-Right.id c.in-Right.is c.in-Either-kind.is c.get-in-Right-2.ensures c.get-in-Right.ensures c.get-in-Right-3.ensures c.in_ok-other-in-Right.ensures.grown c.in_ok-id-in-Right.ensures.grown c.requires.source c.in_ok-other-in-Right.ensures.ok
    c.in_ok-id-in-Right.ensures.ok) c.add_to_right.ensures.ok
