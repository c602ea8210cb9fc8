-- Answers to the goals of `convert` in `conversion`.
use Rattle.std.proofs.Common.{◌≡◌, true, subst}
use Rattle.core_data.specs.Data.{value_of}
use Rattle.hl_meaning.specs.Mean.{are_alike}
use Rattle.simplicity.specs.Types.{IsOf}
use Rattle.hl_eval.proofs.Alike.{alike_forms}
use Rattle.hl_eval.proofs.conversion.convert.Goals as goal

pub from_core-requires-clause-of_form : goal.from_core-requires-clause-of_form
from_core-requires-clause-of_form c =
    let is = c.in_ok-are_alike.ensures in
    let test = c.if-not-branch.false in
    let alike : are_alike c.args.from.now c.args.to.now ≡ true = cc in
    subst (λ k. IsOf (value_of c.in_ok-core.core) k) (alike_forms c.args.from.now c.args.to.now alike) c.in_ok-core.ensures.is_of
