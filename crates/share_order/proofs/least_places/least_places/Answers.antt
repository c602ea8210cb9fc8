-- Answers to the goals of `least_places` in `least_places`.
use Rattle.std.proofs.Common.{ap, ◌∙◌, ℕ, min, get_or, arith}
use Rattle.std.proofs.lemmas.List.{get_or_default}
use Rattle.std.proofs.lemmas.Option.{slice_get-get_or}
use Rattle.share_order.proofs.Leasts.{least_next, least_all}
use Rattle.share_order.proofs.least_places.least_places.Goals as goal

pub loop-index-preserved : goal.loop-index-preserved
loop-index-preserved c =
    let k = c.loop-index.index in
    let old = c.args.old.now in
    let new = c.args.new.now in
    let places = c.loop-index.places.items in
    let o = get_or old k 0 in
    let p = get_or new k 0 in
    let test = c.loop-index-test.true in
    let o_is = slice_get-get_or old k 0 test in
    let p_is = slice_get-get_or new k 0 (omega (arith, test, c.requires.each)) in
    let within = c.requires.within k p p_is in
    let here = get_or_default places p c.index.result.now 0 (omega (arith, within, c.loop-index.invariant.long)) in
    least_next old new k c.args.count c.args.bound places c.loop-index.invariant o p c.min.result o_is p_is within
    (c.min.ensures ∙ ap (λ (x : ℕ). min x o) (c.index.ensures ∙ here))

pub returns : goal.returns
returns c =
    least_all c.args.old.now c.args.new.now c.loop-index.index c.args.count c.args.bound c.loop-index.places.items c.loop-index.invariant c.loop-index-test.false c.requires.each
    c.requires.bound c.requires.onto
