-- Answers to the goals of `append_code`: appends the compact code of a value; after an error some of it
-- may stand there.
use Rattle.std.proofs.Common.{ap, sym, ◌∙◌, ◌∷◌, ◌++◌, true, false, length, take, arith}
use Rattle.core_data.specs.Data.{value_of}
use Rattle.core_data.specs.Loads.{load}
use Rattle.core_data.specs.declared.data.CoreValue.{CoreValue}
use Rattle.simplicity.specs.Types.{code}
use Rattle.compact_codes.proofs.Parts.{left_out, tagged, paired, less_none, less_one, less_two, kept}
use Rattle.compact_codes.proofs.write.append_code.Goals as goal

pub loop-part-smaller-in-Unit : goal.loop-part-smaller-in-Unit
loop-part-smaller-in-Unit c =
    let worth = ap (λ (v : CoreValue). load (value_of v)) c.in-Unit.is in
    less_none c.loop-part.parts.items c.pop.new.self.items c.in-Some.part c.in-Some.ensures.items (omega (arith, worth))

pub loop-part-preserved-in-Unit : goal.loop-part-preserved-in-Unit
loop-part-preserved-in-Unit c = (
  left_out c.loop-part.bits c.loop-part.parts.items c.pop.new.self.items c.in-Some.part c.in-Some.ensures.items (c.args.bits.now ++ code (value_of c.args.value.now)) c.loop-part.invariant.0
      (ap (λ (v : CoreValue). code (value_of v)) c.in-Unit.is),
  c.loop-part.invariant.1,
)

pub loop-part-smaller-in-Continue-branch-3 : goal.loop-part-smaller-in-Continue-branch-3
loop-part-smaller-in-Continue-branch-3 c =
    let worth = ap (λ (v : CoreValue). load (value_of v)) c.in-Left.is in
    let inner = ap (λ (v : CoreValue). load (value_of v)) c.deref.ensures in
    less_one c.loop-part.parts.items c.pop.new.self.items c.in-Some.part c.in-Some.ensures.items c.deref.result c.push-in-Left-2.new.self.items (omega (arith, worth, inner)) c.in_ok-push-in-Left-2.ensures.items

pub loop-part-preserved-in-Continue-branch-3 : goal.loop-part-preserved-in-Continue-branch-3
loop-part-preserved-in-Continue-branch-3 c = (
  tagged c.loop-part.bits c.loop-part.parts.items c.pop.new.self.items c.in-Some.part c.in-Some.ensures.items (c.args.bits.now ++ code (value_of c.args.value.now)) c.loop-part.invariant.0
      false c.deref.result c.push-in-Left.new.self c.push-in-Left-2.new.self.items
      (ap (λ (v : CoreValue). code (value_of v)) c.in-Left.is ∙ ap (λ (v : CoreValue). false ∷ code (value_of v)) (sym c.deref.ensures))
      c.in_ok-push-in-Left.ensures.ok c.in_ok-push-in-Left-2.ensures.items,
  ap (take (length c.args.bits.now)) c.in_ok-push-in-Left.ensures.ok ∙ kept c.args.bits.now c.loop-part.bits false c.loop-part.invariant.1,
)

pub loop-part-smaller-in-Continue-branch-5 : goal.loop-part-smaller-in-Continue-branch-5
loop-part-smaller-in-Continue-branch-5 c =
    let worth = ap (λ (v : CoreValue). load (value_of v)) c.in-Right.is in
    let inner = ap (λ (v : CoreValue). load (value_of v)) c.deref-in-Right.ensures in
    less_one c.loop-part.parts.items c.pop.new.self.items c.in-Some.part c.in-Some.ensures.items c.deref-in-Right.result c.push-in-Right-2.new.self.items (omega (arith, worth, inner)) c.in_ok-push-in-Right-2.ensures.items

pub loop-part-preserved-in-Continue-branch-5 : goal.loop-part-preserved-in-Continue-branch-5
loop-part-preserved-in-Continue-branch-5 c = (
  tagged c.loop-part.bits c.loop-part.parts.items c.pop.new.self.items c.in-Some.part c.in-Some.ensures.items (c.args.bits.now ++ code (value_of c.args.value.now)) c.loop-part.invariant.0
      true c.deref-in-Right.result c.push-in-Right.new.self c.push-in-Right-2.new.self.items
      (ap (λ (v : CoreValue). code (value_of v)) c.in-Right.is ∙ ap (λ (v : CoreValue). true ∷ code (value_of v)) (sym c.deref-in-Right.ensures))
      c.in_ok-push-in-Right.ensures.ok c.in_ok-push-in-Right-2.ensures.items,
  ap (take (length c.args.bits.now)) c.in_ok-push-in-Right.ensures.ok ∙ kept c.args.bits.now c.loop-part.bits true c.loop-part.invariant.1,
)

pub loop-part-smaller : goal.loop-part-smaller
loop-part-smaller c =
    let worth = ap (λ (v : CoreValue). load (value_of v)) c.in-Pair.is in
    let second = ap (λ (v : CoreValue). load (value_of v)) c.deref-in-Pair.ensures in
    let first = ap (λ (v : CoreValue). load (value_of v)) c.deref-in-Pair-2.ensures in
    less_two c.loop-part.parts.items c.pop.new.self.items c.in-Some.part c.in-Some.ensures.items c.deref-in-Pair-2.result c.deref-in-Pair.result c.push-in-Pair.new.self.items c.push-in-Pair-2.new.self.items
    (omega (arith, worth, first, second)) c.in_ok-push-in-Pair.ensures.items c.in_ok-push-in-Pair-2.ensures.items

pub loop-part-preserved : goal.loop-part-preserved
loop-part-preserved c = (
  paired c.loop-part.bits c.loop-part.parts.items c.pop.new.self.items c.in-Some.part c.in-Some.ensures.items (c.args.bits.now ++ code (value_of c.args.value.now)) c.loop-part.invariant.0
      c.deref-in-Pair-2.result c.deref-in-Pair.result c.push-in-Pair.new.self.items c.push-in-Pair-2.new.self.items
      (ap (λ (v : CoreValue). code (value_of v)) c.in-Pair.is ∙ ap (λ (v : CoreValue). code (value_of v) ++ code (value_of c.in-Pair.second.value)) (sym c.deref-in-Pair-2.ensures)
      ∙ ap (λ (v : CoreValue). code (value_of c.deref-in-Pair-2.result.now) ++ code (value_of v)) (sym c.deref-in-Pair.ensures))
      c.in_ok-push-in-Pair.ensures.items c.in_ok-push-in-Pair-2.ensures.items,
  c.loop-part.invariant.1,
)
