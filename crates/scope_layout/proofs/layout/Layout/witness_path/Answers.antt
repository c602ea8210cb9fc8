-- Answers to the goals of `witness_path`: the path to the value of a bound witness; None exactly where
-- no bound witness has the name.
use Rattle.std.proofs.Common.{sym, subst}
use Rattle.scope_layout.specs.Leads.{IsPath}
use Rattle.scope_layout.specs.declared.bound.Sort.TheVariants as sort
use Rattle.scope_layout.proofs.Scopes.{if_ok, paths_lead}
use Rattle.scope_layout.proofs.layout.Layout.witness_path.Goals as goal

pub returns-clause-leads : goal.returns-clause-leads
returns-clause-leads c =
    if_ok c.path_to.result (λ found is. subst (IsPath sort.Witness c.args.name.now c.args.self.now) (sym is) (paths_lead sort.Witness c.args.name.now c.args.self.now)) c.path_to.ensures
