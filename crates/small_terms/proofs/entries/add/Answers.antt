-- Answers to the goals of `add` in `entries`.
use Rattle.std.proofs.Common.{refl, ◌∙◌, sym, ap, length}
use Rattle.small_terms.specs.Emitting.{found, added}
use Rattle.small_terms.proofs.entries.add.Goals as goal

pub returns-in-Some : goal.returns-in-Some
returns-in-Some c = found (rw (← c.as_slice.ensures.value) c.in-Some.ensures.found) refl

pub returns-in_ok-push-in-None : goal.returns-in_ok-push-in-None
returns-in_ok-push-in-None c = added (rw (← c.as_slice.ensures.value) c.in-None.ensures.none) (c.len-at.ensures ∙ sym c.as_slice.ensures.len ∙ ap length c.as_slice.ensures.value) c.in_ok-push-in-None.ensures.items
