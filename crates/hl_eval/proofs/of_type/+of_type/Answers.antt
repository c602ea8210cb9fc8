-- Answers to the goals of `of_type` in `of_type`.
use Rattle.std.proofs.Common.{◌≡◌, ◌<◌, ◌&&◌, true, false, nat_lt, length, map, is_some, sym, ap, ◌∙◌, arith, lt-ltb}
use denote.Param.Weighed.{at_most}
use Rattle.hl_data.proofs.value.HlValue.TheLaws.{the_size}
use Rattle.hl_meaning.specs.Values.{at_all, at_each, encoded}
use Rattle.hl_values.proofs.Encoding.{sound_at}
use Rattle.hl_eval.proofs.OfType.{unlike_counts, part_passes, part_fails, of_list, bound_sound, not_below}
use Rattle.hl_eval.proofs.of_type.+of_type.Goals as goal

pub are_parts_of-returns-then-len : goal.are_parts_of-returns-then-len
are_parts_of-returns-then-len t c = sym (unlike_counts c.args.parts.now c.args.kinds.now (λ same. c.if-len.true (omega arith)))

pub are_parts_of-is_value_of-requires : goal.are_parts_of-is_value_of-requires
are_parts_of-is_value_of-requires t c =
    let parts = c.args.parts.now in
    let less : c.parts.place < length parts = rw (← c.as_slice-part-items.ensures) c.parts-test.true in
    let h = at_most the_size parts c.parts.place c.part-item.result less in
    let is = rw c.as_slice-part-items.ensures at c.part-item.is in
    let bound = rw (← is) at h in (omega (arith, bound, c.decreases), sound_at c.args.kinds.now c.parts.place c.get.result.now c.requires c.get.ensures)

pub are_parts_of-returns-then-not-is_value_of : goal.are_parts_of-returns-then-not-is_value_of
are_parts_of-returns-then-not-is_value_of t c =
    let value = c.is_value_of.ensures in
    let test = c.if-not-is_value_of.true in
    let no : is_some (encoded c.part-item.result c.get.result.now) ≡ false = cc in
    part_fails c.as_slice-part-items.result.now c.parts.place c.part-item.result c.parts-test.true c.part-item.is c.args.kinds.now c.get.result.now (is_some (at_each (map encoded c.args.parts.now) c.args.kinds.now)) c.get.ensures no c.parts.invariant

pub are_parts_of-parts-preserved : goal.are_parts_of-parts-preserved
are_parts_of-parts-preserved t c =
    let value = c.is_value_of.ensures in
    let test = c.if-not-is_value_of.false in
    let is : is_some (encoded c.part-item.result c.get.result.now) ≡ true = cc in
    part_passes c.as_slice-part-items.result.now c.parts.place c.part-item.result c.parts-test.true c.part-item.is c.args.kinds.now c.get.result.now (is_some (at_each (map encoded c.args.parts.now) c.args.kinds.now)) c.get.ensures is c.parts.invariant

pub is_value_of-returns-then-len-bound : goal.is_value_of-returns-then-len-bound
is_value_of-returns-then-len-bound t c =
    let items = rw c.get-then-len-bound.ensures at c.are_items_of-then-len-bound.ensures in
    let long = c.len-in-List-value.ensures in
    let less : length c.in-List-value.items < c.in-List.bound = omega (arith, long, c.if-len-bound.true) in
    let value = of_list c.args.value.now c.args.kind.now c.in-List.item c.in-List-value.items c.in-List.bound c.in-List-value.is c.in-List.is (bound_sound c.args.kind.now c.in-List.item c.in-List.bound c.in-List.is c.requires) in
    items ∙ sym (value ∙ ap (λ b. b && is_some (at_all (map encoded c.in-List-value.items) c.in-List.item)) (lt-ltb (length c.in-List-value.items) c.in-List.bound less))

pub is_value_of-returns-else-len-bound : goal.is_value_of-returns-else-len-bound
is_value_of-returns-else-len-bound t c =
    let long = c.len-in-List-value.ensures in
    let no : nat_lt (length c.in-List-value.items) c.in-List.bound ≡ false = not_below (length c.in-List-value.items) c.in-List.bound (omega (arith, long, c.if-len-bound.false)) in
    let value = of_list c.args.value.now c.args.kind.now c.in-List.item c.in-List-value.items c.in-List.bound c.in-List-value.is c.in-List.is (bound_sound c.args.kind.now c.in-List.item c.in-List.bound c.in-List.is c.requires) in
    ap (λ n. nat_lt n c.in-List.bound) long ∙ no ∙ sym (value ∙ ap (λ b. b && is_some (at_all (map encoded c.in-List-value.items) c.in-List.item)) no)
