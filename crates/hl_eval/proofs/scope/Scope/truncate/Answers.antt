-- Answers to the goals of `truncate` in `scope`.
use Rattle.hl_eval.proofs.Names.{last_left}
use Rattle.hl_eval.proofs.scope.Scope.truncate.Goals as goal

pub returns : goal.returns
returns c =
    let few = rw (← c.self.view_is) at c.requires in
    rw (c.truncate.ensures.items, ← c.self.view_is) (last_left (λ b. record { name = b.name; value = b.value }) c.args.len c.self.inside.bindings.items few)
