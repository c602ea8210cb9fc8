-- Answers to the goals of `add_witness`: the witness of a number, from one type to another.
use Rattle.type_table.specs.Kinds.{kind_at}
use Rattle.type_table.proofs.Growth.{means_at}
use Rattle.term_makers.proofs.Made.{rows_are_made}
use Rattle.term_makers.proofs.makers.add_witness.Goals as goal

pub add-requires-clause-follows : goal.add-requires-clause-follows
add-requires-clause-follows c = (rows_are_made.witness c.args.types.now c.args.terms.now c.args.number c.args.source c.args.target (kind_at c.args.types.now c.args.source) (kind_at c.args.types.now c.args.target) (means_at c.args.types.now c.args.source c.requires.source) (means_at c.args.types.now c.args.target c.requires.target)).follows
