-- Answers to the goals of `root_sizes`.
use Rattle.cost_bound.proofs.Arrows.{found, none_found}
use Rattle.cost_bound.proofs.whole.root_sizes.Goals as goal

pub size-requires : goal.size-requires
size-requires c = (found _ _ c.args.root _ c.in-Some.arrow c.requires.there c.requires.light c.arrow_at.ensures c.in-Some.is).within.0

pub size-requires-in-Some : goal.size-requires-in-Some
size-requires-in-Some c = (found _ _ c.args.root _ c.in-Some.arrow c.requires.there c.requires.light c.arrow_at.ensures c.in-Some.is).within.1

pub returns-in-Some-clause-source : goal.returns-in-Some-clause-source
returns-in-Some-clause-source c = (found _ _ c.args.root _ c.in-Some.arrow c.requires.there c.requires.light c.arrow_at.ensures c.in-Some.is).source _ c.size.ensures

pub returns-in-Some-clause-target : goal.returns-in-Some-clause-target
returns-in-Some-clause-target c = (found _ _ c.args.root _ c.in-Some.arrow c.requires.there c.requires.light c.arrow_at.ensures c.in-Some.is).target _ c.size-in-Some.ensures

pub returns-in-None-clause-source : goal.returns-in-None-clause-source
returns-in-None-clause-source c = (none_found _ _ c.args.root _ c.arrow_at.ensures c.in-None.is).0

pub returns-in-None-clause-target : goal.returns-in-None-clause-target
returns-in-None-clause-target c = (none_found _ _ c.args.root _ c.arrow_at.ensures c.in-None.is).1
