-- Answers to the goals of `given`: what the jet of a case gives; None where an argument is no word.
use Rattle.std.proofs.Common.{lit<}
use Rattle.word_math.specs.Op.{jet_of}
use Rattle.core_rows.proofs.Called.{at_most_four, typed_words}
use Rattle.core_rows.proofs.formulas.given.Goals as goal

pub shared_whole_as_front-formula : goal.shared_whole_as_front-formula
shared_whole_as_front-formula c =
    (at_most_four (jet_of c.args.case.now.op) c.args.case.now.narrow c.args.case.now.wide c.args.case.now.count _ c.requires.call, lit< tt)

pub formula-requires-clause-typed : goal.formula-requires-clause-typed
formula-requires-clause-typed c =
    typed_words (jet_of c.args.case.now.op) c.args.case.now.narrow c.args.case.now.wide c.args.case.now.count _
    (rw (c.in_ok-word.ensures, c.in_ok-word-2.ensures, c.in_ok-word-3.ensures, c.in_ok-word-4.ensures) c.requires.call)
