-- Answers to the goals of `matching`: a match, which has two arms.
use Rattle.std.proofs.Common.{◌≡◌, List, [], ◌∷◌, Result, sym, subst}
use Rattle.hl_syntax.specs.declared.kinds.TypedName.{TypedName}
use Rattle.hl_data.specs.declared.typed.TypedForm.{TypedForm}
use Rattle.simplicityhl.specs.Written.{Broken}
use Rattle.hl_rules.specs.Exprs.{expr_walk}
use Rattle.hl_scope.specs.Checks.{ChecksMet}
use Rattle.hl_check.proofs.Pairs.{two_of}
use Rattle.hl_check.proofs.Rolled.{match_two}
use Rattle.hl_check.proofs.checking.Checking.matching.Goals as goal

pub returns-in-len2-clause-gives : goal.returns-in-len2-clause-gives
returns-in-len2-clause-gives g c =
    let k = c.args.self.now.checker.now in
    let are : c.args.arms.now ≡ c.one-item.result ∷ c.two-item.result ∷ [] = two_of c.args.arms.now c.one-item.result c.two-item.result c.in-len2.len_at_least c.in-len2.len_below c.one-item.is c.two-item.is in
    subst (λ (w : Result (TypedForm × List TypedName) Broken). ChecksMet w c.matched.result c.matched.new.body.met)
    (sym (match_two k (expr_walk k c.args.e.now) c.args.arms.now c.one-item.result c.two-item.result c.args.asked.span c.args.body.now.scope c.args.asked.expected.now c.args.asked.rule c.args.body.now.met are))
    c.matched.ensures.gives
