-- Answers to the goals of `extend_works`.
use Rattle.std.proofs.Common.{◌∙◌, ◌∷◌, [], ap, length, length-append, arith}
use Rattle.cost_bound.proofs.Sizes.{more_works}
use Rattle.cost_bound.proofs.writing.extend_works.Goals as goal

pub loop-next-preserved : goal.loop-next-preserved
loop-next-preserved c = record {
  works = more_works c.args.types.now c.loop-next.works.items c.push.new.self.items c.work_of-work.result c.loop-next.next c.loop-next.invariant.works c.loop-next.invariant.next
      c.work_of-work.ensures c.in_ok-push.ensures.items;
  next = omega (arith, ap length c.in_ok-push.ensures.items ∙ length-append c.loop-next.works.items (c.work_of-work.result ∷ []));
}
