-- Answers to the goals of `copies_form` in `forms`.
use Rattle.std.proofs.Common.{arith}
use Rattle.hl_types.proofs.Halves.{copies_even, copies_both}
use Rattle.hl_types.proofs.forms.+copies_form.Goals as goal

pub returns-then-count-eq0-2-clause-ok : goal.returns-then-count-eq0-2-clause-ok
returns-then-count-eq0-2-clause-ok t c = copies_even _ _ _ _ _ _ (omega arith) c.if-count-eq0-2.true c.in_ok-first.ensures.ok c.in_ok-product.ensures.ok

pub returns-clause-ok : goal.returns-clause-ok
returns-clause-ok t c =
    copies_both _ _ _ _ _ _ _ _ _ (omega arith) c.requires.there c.in_ok-first.ensures.grown c.in_ok-rest.ensures.grown c.in_ok-first.ensures.ok c.in_ok-rest.ensures.ok c.in_ok-product-2.ensures.ok
