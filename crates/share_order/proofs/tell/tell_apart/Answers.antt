-- Answers to the goals of `tell_apart` in `tell`.
use Rattle.std.proofs.Common.{ap, ◌∙◌, arith, length, Some}
use Rattle.share_order.proofs.Told.{bound_of, told, none_told, none_next}
use Rattle.share_order.proofs.tell.tell_apart.Goals as goal

pub shape-shape-requires : goal.shape-shape-requires
shape-shape-requires c = (bound_of (length c.args.types.now) c.args.typing.now c.loop-index.index (Some c.in-Some.arrow) c.requires (c.get.ensures ∙ ap Some c.in-Some.is)).0

pub returns-in-Some : goal.returns-in-Some
returns-in-Some c = told c.args.types.now c.args.typing.now c.shape-shape.ensures.distinct c.requires

pub loop-index-preserved : goal.loop-index-preserved
loop-index-preserved c = none_next c.loop-index.index c.args.typing.now c.get.result.now c.loop-index.invariant c.get.ensures c.in-None.is

pub returns : goal.returns
returns c = none_told c.args.types.now c.args.typing.now c.loop-index.index (omega (arith, c.loop-index-test.false, c.len-index-end.ensures)) c.loop-index.invariant
