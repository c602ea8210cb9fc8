-- Answers to the goals of `path`: the path to the value of a variable; None exactly where no pattern
-- binds the name.
use Rattle.std.proofs.Common.{sym, subst}
use Rattle.scope_layout.specs.Leads.{IsPath}
use Rattle.scope_layout.specs.declared.bound.Sort.TheVariants as sort
use Rattle.scope_layout.proofs.Scopes.{if_ok, paths_lead}
use Rattle.scope_layout.proofs.layout.Layout.path.Goals as goal

pub returns-clause-leads : goal.returns-clause-leads
returns-clause-leads c =
    if_ok c.path_to.result (λ found is. subst (IsPath sort.Variable c.args.name.now c.args.self.now) (sym is) (paths_lead sort.Variable c.args.name.now c.args.self.now)) c.path_to.ensures
