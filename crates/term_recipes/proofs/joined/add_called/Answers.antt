-- Answers to the goals of `add_called`: one term and then another, as a call of a term with its arguments.
use Rattle.term_core.specs.Terms.{term_at}
use Rattle.term_recipes.proofs.Meets.{comp_meets}
use Rattle.term_recipes.proofs.joined.add_called.Goals as goal

pub add_comp-requires-clause-meets : goal.add_comp-requires-clause-meets
add_comp-requires-clause-meets c = comp_meets (term_at c.args.types.now c.args.terms.now c.args.arguments) (term_at c.args.types.now c.args.terms.now c.args.called) c.requires.typed
