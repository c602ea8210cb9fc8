-- Answers to the goals of `encode` in `encode`.
use Rattle.std.proofs.Common.{◌≡◌, ◌<◌, length, map, arith}
use Rattle.hl_meaning.specs.Values.{encoded, at_each}
use denote.Param.Weighed.{at_most}
use Rattle.hl_data.proofs.value.HlValue.TheLaws.{the_size}
use Rattle.hl_values.proofs.Encoding.{part_there, part_next, sound_at, tuple_made, array_made, list_made, list_fits}
use Rattle.hl_values.proofs.encode.+encode.Goals as goal

pub encode-list_of_last-requires-clause-few : goal.encode-list_of_last-requires-clause-few
encode-list_of_last-requires-clause-few t c =
    let n : c.len-count-in-List.result ≡ length c.in_ok-cores-in-List.cores.items = omega (arith, c.in_ok-cores-in-List.cores.ok) in
    list_fits c.args.value.now c.args.kind.now c.in-List-kind.item c.in-List-kind.bound c.list_level.result c.in-List.items c.in_ok-cores-in-List.cores.items c.len-count-in-List.result
    c.in-List.is c.in-List-kind.is c.requires.of_kind c.list_level.ensures.level (rw c.get-in-List.ensures at c.in_ok-cores-in-List.ensures) n

pub encode-returns-in_ok-tuple_of_last-in-Tuple : goal.encode-returns-in_ok-tuple_of_last-in-Tuple
encode-returns-in_ok-tuple_of_last-in-Tuple t c =
    let n : c.len-count.result ≡ length c.in_ok-cores-in-Tuple.cores.items = omega (arith, c.in_ok-cores-in-Tuple.cores.ok) in
    tuple_made c.args.value.now c.args.kind.now c.in-Tuple.parts c.in-Tuple-kind.kinds c.in_ok-cores-in-Tuple.cores.items c.tuple_of_last.new.values.items c.len-count.result c.in_ok-tuple_of_last-in-Tuple.field-0
    c.in-Tuple.is c.in-Tuple-kind.is c.in_ok-cores-in-Tuple.ensures n c.in_ok-tuple_of_last-in-Tuple.ensures

pub encode-returns-in_ok-tuple_of_last-in-Array : goal.encode-returns-in_ok-tuple_of_last-in-Array
encode-returns-in_ok-tuple_of_last-in-Array t c =
    let n : c.len-count-in-Array.result ≡ length c.in_ok-cores-in-Array.cores.items = omega (arith, c.in_ok-cores-in-Array.cores.ok) in
    array_made c.args.value.now c.args.kind.now c.in-Array-kind.item c.in-Array-kind.field-1 c.in-Array.items c.in_ok-cores-in-Array.cores.items c.tuple_of_last-in-Array.new.values.items
    c.len-count-in-Array.result c.in_ok-tuple_of_last-in-Array.field-0 c.in-Array.is c.in-Array-kind.is c.requires.of_kind (rw c.get.ensures at c.in_ok-cores-in-Array.ensures) n c.in_ok-tuple_of_last-in-Array.ensures

pub encode-returns-in_ok-list_of_last-in-List : goal.encode-returns-in_ok-list_of_last-in-List
encode-returns-in_ok-list_of_last-in-List t c =
    let n : c.len-count-in-List.result ≡ length c.in_ok-cores-in-List.cores.items = omega (arith, c.in_ok-cores-in-List.cores.ok) in
    list_made c.args.value.now c.args.kind.now c.in-List-kind.item c.in-List-kind.bound c.list_level.result c.in-List.items c.in_ok-cores-in-List.cores.items c.list_of_last.new.values.items
    c.len-count-in-List.result c.in_ok-list_of_last-in-List.field-0 c.in-List.is c.in-List-kind.is c.list_level.ensures.level (rw c.get-in-List.ensures at c.in_ok-cores-in-List.ensures) n
    c.in_ok-list_of_last-in-List.ensures

pub encode_parts-encode-requires : goal.encode_parts-encode-requires
encode_parts-encode-requires t c =
    let parts = c.args.parts.now in
    let less : c.parts.place < length parts = rw (← c.as_slice-part-items.ensures) c.parts-test.true in
    let h = at_most the_size parts c.parts.place c.part-item.result less in
    let is = rw c.as_slice-part-items.ensures at c.part-item.is in
    let bound = rw (← is) at h in (
      omega (arith, bound, c.decreases),
      (
        sound_at c.args.kinds.now c.parts.place c.get.result.now c.requires.sound c.get.ensures,
        part_there c.args.parts.now c.as_slice-part-items.result.now c.args.kinds.now c.parts.place c.part-item.result c.get.result.now c.requires.there c.as_slice-part-items.ensures c.parts-test.true c.part-item.is c.get.ensures,
      ),
    )

pub encode_parts-parts-preserved : goal.encode_parts-parts-preserved
encode_parts-parts-preserved t c =
    rw c.in_ok-push.ensures.items (part_next c.as_slice-part-items.result.now c.parts.place c.part-item.result c.parts-test.true c.part-item.is c.parts.cores.items c.in_ok-core.core c.args.kinds.now c.get.result.now
    (at_each (map encoded c.args.parts.now) c.args.kinds.now) c.get.ensures c.in_ok-core.ensures c.parts.invariant)
