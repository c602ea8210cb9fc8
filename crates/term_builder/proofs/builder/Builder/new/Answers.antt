-- Answers to the goals of `new`.
use Rattle.simplicity.specs.Makes.{fail_root}
use Rattle.term_builder.proofs.Turns.{held_new}
use Rattle.term_builder.proofs.builder.Builder.new.Goals as goal

pub invariant_of-result : goal.invariant_of-result
unfolding fail_root
invariant_of-result c =
    (held_new c.unit.new.self c.new.result c.in_ok-here.here c.new-2.result c.new-3.result c.new-4.result.items c.in_ok-here.ensures.ok.within c.new.ensures c.new-2.ensures c.new-3.ensures c.new-4.ensures.items, c.fail_root.ensures)
