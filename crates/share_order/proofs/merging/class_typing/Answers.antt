-- Answers to the goals of `class_typing`: the arrows of the classes.
use Rattle.std.proofs.Common.{sym, ◌∙◌}
use Rattle.share_order.specs.Keys.{keys_of, arrows_in}
use Rattle.share_order.proofs.Gathers.{taken_next}
use Rattle.share_order.proofs.Emitted.{arrow_at}
use Rattle.share_order.proofs.merging.class_typing.Goals as goal

pub loop-index-preserved : goal.loop-index-preserved
loop-index-preserved c =
    c.in_ok-push-in-Some.ensures.ok
    ∙ taken_next (arrows_in (keys_of c.args.keys.now.keys)) c.loop-index.typing c.loop-index.index c.in-Some.key.now.arrow c.loop-index.invariant
    (arrow_at c.args.keys.now.keys c.loop-index.index c.in-Some.key.now (sym c.in-Some.ensures.key))
