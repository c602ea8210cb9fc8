-- Answers to the goals of `add_iden`: the identity on the values of a type.
use Rattle.type_table.specs.Kinds.{kind_at}
use Rattle.type_table.proofs.Growth.{means_at}
use Rattle.term_makers.proofs.Made.{rows_are_made}
use Rattle.term_makers.proofs.makers.add_iden.Goals as goal

pub add-requires-clause-follows : goal.add-requires-clause-follows
add-requires-clause-follows c =
    (rows_are_made.iden c.args.types.now c.args.terms.now c.args.kind (kind_at c.args.types.now c.args.kind) (means_at c.args.types.now c.args.kind c.requires.kind)).follows
