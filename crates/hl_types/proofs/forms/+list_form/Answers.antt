-- Answers to the goals of `list_form` in `forms`.
use Rattle.std.proofs.Common.{arith}
use Rattle.hl_types.proofs.Halves.{list_next, shifted}
use Rattle.hl_types.proofs.forms.+list_form.Goals as goal

pub returns-clause-ok : goal.returns-clause-ok
returns-clause-ok t c =
    list_next _ _ _ _ _ _ _ _ _ _ _ (omega arith) c.requires.there c.in_ok-rest.ensures.grown c.in_ok-block.ensures.grown c.in_ok-choice.ensures.grown
    c.in_ok-rest.ensures.ok (let e = shifted c.args.level c.requires.few in rw e at c.in_ok-block.ensures.ok) c.in_ok-choice.ensures.ok c.in_ok-product.ensures.ok
