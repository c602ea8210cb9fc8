-- Answers to the goals of `place_of`: the place of the first parameter of a name.
use Rattle.small_terms.proofs.Found.{name_here, none_further, none_at_all}
use Rattle.small_terms.proofs.build.place_of.Goals as goal

pub returns-then-eq-clause-found : goal.returns-then-eq-clause-found
returns-then-eq-clause-found c = name_here c.args.parameters.now c.loop-place.place c.index-parameters-place.result c.as_bytes.result.now c.args.name.now c.index-parameters-place.is c.as_bytes.ensures c.loop-place-test.true c.if-eq.ensures

pub loop-place-preserved : goal.loop-place-preserved
loop-place-preserved c = none_further c.args.parameters.now c.loop-place.place c.index-parameters-place.result c.as_bytes.result.now c.args.name.now c.index-parameters-place.is c.as_bytes.ensures c.loop-place-test.true c.if-eq.ensures c.loop-place.invariant

pub returns-clause-none : goal.returns-clause-none
returns-clause-none c = none_at_all c.args.parameters.now c.loop-place.place c.args.name.now c.loop-place-test.false c.loop-place.invariant
