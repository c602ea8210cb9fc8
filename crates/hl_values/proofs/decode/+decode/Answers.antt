-- Answers to the goals of `decode` in `decode`.
use Rattle.std.proofs.Common.{◌<◌, length, arith, ap, refl}
use denote.Param.Weighed.{at_most}
use Rattle.hl_syntax.specs.declared.kinds.HlType.{size-HlType}
use Rattle.hl_syntax.specs.declared.kinds.HlType.TheViews.{sized-Tuple, sized-Array, sized-List}
use Rattle.core_data.specs.Data.{value_of}
use Rattle.hl_values.proofs.Decoding.{leaf_of, item_of, lent_long, sound_at, part_decoded, item_decoded, tuple_sound, tuple_there, tuple_are, tuple_decoded, item_sound, array_there, array_are, array_decoded, list_item_sound, list_there, list_are, list_decoded, parts_decoded, nothing_decoded}
use Rattle.hl_values.proofs.decode.+decode.Goals as goal

pub decode-push_parts-requires : goal.decode-push_parts-requires
decode-push_parts-requires t c = tuple_there _ _ c.in-Tuple.kinds c.in-Tuple.is c.requires.sound c.requires.of_form c.len.result c.len.ensures

pub decode-decode_parts-requires : goal.decode-decode_parts-requires
decode-decode_parts-requires t c =
    let size = sized-Tuple c.in-Tuple.kinds in let same = ap size-HlType c.in-Tuple.is in (
      omega (arith, size, same, c.decreases),
      (
        tuple_sound _ _ c.in-Tuple.kinds c.in-Tuple.is c.requires.sound c.requires.of_form,
        tuple_are _ _ c.in-Tuple.kinds c.in-Tuple.is c.requires.sound c.requires.of_form _ _ _ c.len.result c.len.ensures c.new-leaves.ensures.items c.in_ok-push_parts-in-Tuple.ensures c.as_slice.ensures.value,
      ),
    )

pub decode-push_parts-requires-in-Array : goal.decode-push_parts-requires-in-Array
decode-push_parts-requires-in-Array t c = array_there _ _ c.in-Array.item c.in-Array.count c.in-Array.is c.requires.sound c.requires.of_form

pub decode-decode_items-requires : goal.decode-decode_items-requires
decode-decode_items-requires t c =
    let size = sized-Array c.in-Array.item c.in-Array.count in let same = ap size-HlType c.in-Array.is in let item = ap size-HlType c.get.ensures in (
      omega (arith, size, same, item, c.decreases),
      (
        rw c.get.ensures (item_sound _ _ c.in-Array.item c.in-Array.count c.in-Array.is c.requires.sound c.requires.of_form),
        rw c.get.ensures (array_are _ _ c.in-Array.item c.in-Array.count c.in-Array.is c.requires.sound c.requires.of_form _ _ _ c.new-leaves-in-Array.ensures.items c.in_ok-push_parts-in-Array.ensures c.as_slice-in-Array.ensures.value),
      ),
    )

pub decode-push_items-requires-clause-list : goal.decode-push_items-requires-clause-list
decode-push_items-requires-clause-list t c =
    list_there _ _ c.in-List.item c.in-List.bound c.list_level.result c.in-List.is c.list_level.ensures.level c.requires.sound c.requires.of_form

pub decode-decode_items-requires-in-List : goal.decode-decode_items-requires-in-List
decode-decode_items-requires-in-List t c =
    let size = sized-List c.in-List.item c.in-List.bound in let same = ap size-HlType c.in-List.is in let item = ap size-HlType c.get-in-List.ensures in (
      omega (arith, size, same, item, c.decreases),
      (
        rw c.get-in-List.ensures (list_item_sound _ _ c.in-List.item c.in-List.bound c.list_level.result c.in-List.is c.list_level.ensures.level c.requires.sound c.requires.of_form),
        rw c.get-in-List.ensures (list_are _ _ c.in-List.item c.in-List.bound c.list_level.result c.in-List.is c.list_level.ensures.level c.requires.sound c.requires.of_form _ _ _ c.new-leaves-in-List.ensures.items c.in_ok-push_items-in-List.ensures c.as_slice-in-List.ensures.value),
      ),
    )

pub decode-returns-in_ok-decode_parts-in-Tuple : goal.decode-returns-in_ok-decode_parts-in-Tuple
decode-returns-in_ok-decode_parts-in-Tuple t c =
    tuple_decoded _ _ c.in-Tuple.kinds c.in-Tuple.is c.requires.sound c.requires.of_form _ _ _ c.len.result c.in_ok-decode_parts-in-Tuple.field-0 c.len.ensures c.new-leaves.ensures.items c.in_ok-push_parts-in-Tuple.ensures
    c.as_slice.ensures.value c.in_ok-decode_parts-in-Tuple.ensures

pub decode-returns-in_ok-decode_items-in-Array : goal.decode-returns-in_ok-decode_items-in-Array
decode-returns-in_ok-decode_items-in-Array t c =
    array_decoded _ _ c.in-Array.item c.in-Array.count c.in-Array.is c.requires.sound c.requires.of_form _ _ _ c.in_ok-decode_items-in-Array.field-0 c.new-leaves-in-Array.ensures.items c.in_ok-push_parts-in-Array.ensures
    c.as_slice-in-Array.ensures.value (rw c.get.ensures at c.in_ok-decode_items-in-Array.ensures)

pub decode-returns-in_ok-decode_items-in-List : goal.decode-returns-in_ok-decode_items-in-List
decode-returns-in_ok-decode_items-in-List t c =
    list_decoded _ _ c.in-List.item c.in-List.bound c.list_level.result c.in-List.is c.list_level.ensures.level c.requires.sound c.requires.of_form _ _ _ c.in_ok-decode_items-in-List.field-0 c.new-leaves-in-List.ensures.items
    c.in_ok-push_items-in-List.ensures c.as_slice-in-List.ensures.value (rw c.get-in-List.ensures at c.in_ok-decode_items-in-List.ensures)

pub decode_items-decode-requires : goal.decode_items-decode-requires
decode_items-decode-requires t c =
    (omega (arith, c.decreases), (c.requires.sound, item_of c.args.leaves.now c.args.kind.now c.leaves.leaf-index c.leaf-item.result c.requires.are_of c.leaves-test.true c.leaf-item.is))

pub decode_items-leaves-preserved : goal.decode_items-leaves-preserved
decode_items-leaves-preserved t c =
    rw c.in_ok-push.ensures.ok (item_decoded c.args.leaves.now c.args.kind.now c.leaves.leaf-index c.leaves.values c.leaf-item.result c.in_ok-value.value c.leaves.invariant c.leaves-test.true c.leaf-item.is c.in_ok-value.ensures)

pub decode_parts-bounds-leaves-place : goal.decode_parts-bounds-leaves-place
decode_parts-bounds-leaves-place t c =
    let long = lent_long c.args.leaves.now c.args.kinds.now c.requires.are_of in
    let same = ap length c.as_slice-kind-items.ensures in
    omega (arith, c.kinds-test.true)

pub decode-returns-in-Left : goal.decode-returns-in-Left
decode-returns-in-Left t c = nothing_decoded _ (value_of c.in-Left.field-0.value) _ c.in-Option.item c.in-Option.is (rw c.in-Left.is refl) c.requires.of_form

pub decode_parts-decode-requires : goal.decode_parts-decode-requires
decode_parts-decode-requires t c =
    let ks = c.args.kinds.now in
    let less : c.kinds.place < length ks = rw (← c.as_slice-kind-items.ensures) c.kinds-test.true in
    let is = rw c.as_slice-kind-items.ensures at c.kind-item.is in
    let h = at_most size-HlType ks c.kinds.place c.kind-item.result less in
    let bound = rw (← is) at h in (
      omega (arith, bound, c.decreases),
      (
        sound_at ks c.kinds.place c.kind-item.result c.requires.sound less is,
        leaf_of c.args.leaves.now ks c.kinds.place c.index-leaves-place.result c.kind-item.result c.requires.are_of less c.index-leaves-place.is is,
      ),
    )

pub decode_parts-kinds-preserved : goal.decode_parts-kinds-preserved
decode_parts-kinds-preserved t c =
    let long = lent_long c.args.leaves.now c.args.kinds.now c.requires.are_of in
    let same = ap length c.as_slice-kind-items.ensures in
    let less : c.kinds.place < length c.args.leaves.now = omega (arith, c.kinds-test.true) in
    rw c.in_ok-push.ensures.ok (part_decoded c.args.leaves.now c.as_slice-kind-items.result.now c.kinds.place c.kinds.values c.index-leaves-place.result c.kind-item.result c.in_ok-value.value c.kinds.invariant less c.index-leaves-place.is
    c.kinds-test.true c.kind-item.is c.in_ok-value.ensures)

pub decode_parts-returns : goal.decode_parts-returns
decode_parts-returns t c = parts_decoded c.args.leaves.now c.as_slice-kind-items.result.now c.args.kinds.now c.kinds.place c.kinds.values c.as_slice-kind-items.ensures c.kinds-test.false c.requires.are_of c.kinds.invariant
