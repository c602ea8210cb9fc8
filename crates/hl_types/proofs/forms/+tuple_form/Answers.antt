-- Answers to the goals of `tuple_form` in `forms`.
use Rattle.std.proofs.Common.{arith}
use Rattle.hl_types.proofs.Halves.{below_take, below_drop, below_more, tuple_both}
use Rattle.type_table.proofs.Growth.{grown_length}
use Rattle.hl_types.proofs.forms.+tuple_form.Goals as goal

pub tuple_form-requires : goal.tuple_form-requires
tuple_form-requires t c =
    (omega arith, (rw c.split_at.ensures.front (below_take _ _ c.args.parts.now c.requires.there), λ _. c.requires.distinct (omega arith)))

pub tuple_form-requires-2 : goal.tuple_form-requires-2
tuple_form-requires-2 t c =
    (omega arith, (rw c.split_at.ensures.back (below_more _ _ _ (grown_length _ _ c.in_ok-first.ensures.grown) (below_drop _ _ c.args.parts.now c.requires.there)), λ _. c.in_ok-first.ensures.distinct))

pub returns-clause-ok : goal.returns-clause-ok
returns-clause-ok t c =
    tuple_both _ _ _ _ _ _ _ _ _ _ (omega arith) c.requires.there c.split_at.ensures.front c.split_at.ensures.back c.in_ok-first.ensures.grown c.in_ok-rest.ensures.grown
    c.in_ok-first.ensures.ok c.in_ok-rest.ensures.ok c.in_ok-product.ensures.ok
