-- Answers to the goals of `bytes_fit` in `list`.
use Rattle.std.proofs.Common.{refl}
use Rattle.term_core.proofs.Carried.{bytes_below}
use Rattle.term_core.proofs.list.bytes_fit.Goals as goal

pub returns : goal.returns
returns c = (refl, bytes_below c.args.bytes.now (λ i. c.type_inv.bytes i))
