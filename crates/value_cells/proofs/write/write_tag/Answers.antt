-- Answers to the goals of `write_tag`.
use Rattle.value_cells.proofs.Parts.{tag_first, blank_next}
use Rattle.value_cells.proofs.write.write_tag.Goals as goal

pub loop-done-init : goal.loop-done-init
loop-done-init c = tag_first _ _ c.args.tag c.in_ok-push.ensures.items

pub loop-done-preserved : goal.loop-done-preserved
loop-done-preserved c =
    blank_next c.args.cells.now.items c.loop-done.cells.items c.push-in-loop-done.new.self.items c.args.tag c.loop-done._done c.loop-done.invariant c.in_ok-push-2.ensures.items
