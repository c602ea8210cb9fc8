-- Answers to the goals of `add_paired`: what two terms on one input give, as a pair.
use Rattle.term_core.specs.Terms.{term_at}
use Rattle.term_recipes.proofs.Meets.{pair_meets}
use Rattle.term_recipes.proofs.joined.add_paired.Goals as goal

pub add_pair-requires-clause-meets : goal.add_pair-requires-clause-meets
add_pair-requires-clause-meets c = pair_meets (term_at c.args.types.now c.args.terms.now c.args.first) (term_at c.args.types.now c.args.terms.now c.args.second) c.requires.typed
