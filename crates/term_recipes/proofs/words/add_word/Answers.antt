-- Answers to the goals of `add_word`: the word alone, from the unit type.
use Rattle.std.proofs.Common.{ap, ◌∙◌}
use Rattle.simplicity.specs.Types.{word_kind}
use Rattle.simplicity.specs.Widths.{level_of, word_of_width}
use Rattle.type_table.specs.Kinds.{Means}
use Rattle.term_makers.proofs.Made.{rows_are_made}
use Rattle.term_recipes.proofs.words.add_word.Goals as goal

pub add-requires-clause-follows : goal.add-requires-clause-follows
add-requires-clause-follows c =
    let to : Means c.word_arrow.new.types c.in_ok-unit.target (word_kind (level_of c.args.word.width)) = record { within = c.in_ok-unit.ensures.word.within; is = c.in_ok-unit.ensures.word.is ∙ ap word_of_width c.width.ensures.value } in
    (rows_are_made.word c.word_arrow.new.types c.args.terms.now c.args.word c.in_ok-unit.unit c.in_ok-unit.target c.in_ok-unit.ensures.unit to).follows
