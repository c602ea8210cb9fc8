-- Answers to the goals of `same_type`: whether two types are the same as written out without aliases.
use Rattle.std.proofs.Common.{◌≡◌, ◌≢◌, refl, ◌≤◌, ◌<◌, ◌+◌, true, false, ◌&&◌, length, map, get_or, sym, ap, ◌∙◌, arith}
use Rattle.std.proofs.lemmas.List.{length-map, take_more}
use Rattle.std.proofs.lemmas.Option.{get_or_from_slice_get}
use Rattle.hl_syntax.specs.declared.kinds.HlType.TheVariants as kind
use Rattle.simplicityhl.specs.Same.{same_type}
use Rattle.hl_types.proofs.Equal.{same-Tuple, not_same_length, same_next, same_end, left_same}
use Rattle.hl_types.proofs.Tuples.{same_parts}
use Rattle.hl_types.proofs.same.+same_type.Goals as goal

pub returns-then-len-clause-same : goal.returns-then-len-clause-same
returns-then-len-clause-same t c =
    let parts = c.in-Tuple-Tuple.parts in
    let given = c.in-Tuple-Tuple.given in
    let apart : length (map same_type parts) ≢ length given = simp length-map (λ e. c.if-len.true (c.len.ensures ∙ e ∙ sym c.len-in-Tuple-Tuple.ensures)) in
    rw (c.in-Tuple-Tuple.is-0, c.in-Tuple-Tuple.is-1) (sym (same-Tuple parts given ∙ not_same_length (map same_type parts) given apart))

pub parts-init : goal.parts-init
parts-init t c = record {
  same = rw (c.as_slice-part-items.ensures, c.in-Tuple-Tuple.is-0, c.in-Tuple-Tuple.is-1) (sym (same-Tuple c.in-Tuple-Tuple.parts c.in-Tuple-Tuple.given));
  equal = refl;
}

pub returns-then-not-same_type-clause-same : goal.returns-then-not-same_type-clause-same
returns-then-not-same_type-clause-same t c =
    let next = same_next c.as_slice-part-items.result.now c.in-Tuple-Tuple.given c.parts.place c.part-item.result c.get.result.now c.parts-test.true c.part-item.is c.get.ensures in
    let no : false ≡ same_type c.part-item.result c.get.result.now = sym c.if-not-same_type.true ∙ c.same_type.ensures.same in
    sym (sym c.parts.invariant.same ∙ next ∙ ap (λ b. b && left_same c.as_slice-part-items.result.now c.in-Tuple-Tuple.given (c.parts.place + 1)) (sym no))

pub returns-then-not-same_type-clause-equal : goal.returns-then-not-same_type-clause-equal
returns-then-not-same_type-clause-equal t c = λ same.
    let whole : kind.Tuple c.in-Tuple-Tuple.parts ≡ kind.Tuple c.in-Tuple-Tuple.given = sym c.in-Tuple-Tuple.is-0 ∙ same ∙ c.in-Tuple-Tuple.is-1 in
    let parts = same_parts c.in-Tuple-Tuple.parts c.in-Tuple-Tuple.given whole in
    let items : c.as_slice-part-items.result.now ≡ c.in-Tuple-Tuple.given = c.as_slice-part-items.ensures ∙ parts in
    let there = get_or_from_slice_get c.in-Tuple-Tuple.given c.parts.place c.get.result.now c.part-item.result c.get.ensures in
    let kinds : c.part-item.result ≡ c.get.result.now = c.part-item.is ∙ ap (λ xs. get_or xs c.parts.place c.part-item.result) items ∙ there in
    let no : c.same_type.result ≡ false = c.if-not-same_type.true in
    (rw no at c.same_type.ensures.equal) kinds

pub parts-preserved : goal.parts-preserved
parts-preserved t c =
    let next = same_next c.as_slice-part-items.result.now c.in-Tuple-Tuple.given c.parts.place c.part-item.result c.get.result.now c.parts-test.true c.part-item.is c.get.ensures in
    let yes : same_type c.part-item.result c.get.result.now ≡ true = sym c.same_type.ensures.same ∙ c.if-not-same_type.false in
    record {
      same = ap (λ b. b && left_same c.as_slice-part-items.result.now c.in-Tuple-Tuple.given (c.parts.place + 1)) (sym yes) ∙ sym next ∙ c.parts.invariant.same;
      equal =
          let one = take_more c.as_slice-part-items.result.now c.parts.place c.part-item.result c.parts-test.true in
          let items : c.as_slice-part-items.result.now ≡ c.in-Tuple-Tuple.parts = c.as_slice-part-items.ensures in
          let less : c.parts.place < length c.in-Tuple-Tuple.given = omega (arith, ap length items) in
          let other = take_more c.in-Tuple-Tuple.given c.parts.place c.part-item.result less in
          let there = get_or_from_slice_get c.in-Tuple-Tuple.given c.parts.place c.get.result.now c.part-item.result c.get.ensures in
          let truth = c.if-not-same_type.false in
          let kinds : c.part-item.result ≡ c.get.result.now = rw truth at c.same_type.ensures.equal in
          let is = c.part-item.is in
          let h = c.parts.invariant.equal in
          cc;
    }

pub returns-after-parts-clause-same : goal.returns-after-parts-clause-same
returns-after-parts-clause-same t c =
    let same : length c.as_slice-part-items.result.now ≡ length c.in-Tuple-Tuple.given = ap length c.as_slice-part-items.ensures ∙ sym c.len.ensures ∙ c.if-len.false ∙ c.len-in-Tuple-Tuple.ensures in
    let past : length c.as_slice-part-items.result.now ≤ c.parts.place = c.parts-test.false in sym (sym c.parts.invariant.same ∙ same_end c.as_slice-part-items.result.now c.in-Tuple-Tuple.given c.parts.place same past)
