-- Answers to the goals of `add_word_value`: a word, on inputs of a type.
use Rattle.std.proofs.Common.{sym, ap, ◌∙◌}
use Rattle.simplicity.specs.Arrows.{source, target}
use Rattle.simplicity.specs.Makes.{comp, unit, word}
use Rattle.simplicity.specs.Widths.{level_of}
use Rattle.hl_terms.specs.Translated.{word_term}
use Rattle.type_table.specs.Kinds.{kind_at}
use Rattle.term_core.specs.Terms.{term_at}
use Rattle.term_recipes.proofs.Later.{comp_same, made_is, term_later}
use Rattle.term_recipes.proofs.words.add_word_value.Goals as goal

pub add_comp-requires-clause-meets : goal.add_comp-requires-clause-meets
add_comp-requires-clause-meets c =
    let kind = kind_at c.args.types.now c.args.source in
    let later = term_at c.add_word.new.types c.add_word.new.terms in
    let here = term_later c.add_unit.new.types c.add_word.new.types c.add_unit.new.terms c.add_word.new.terms c.in_ok-unit.unit c.in_ok-unit.ensures.stands c.in_ok-word.ensures.grown c.in_ok-word.ensures.kept c.in_ok-unit.ensures.ok.within ∙ c.in_ok-unit.ensures.ok.is in
    ap target here ∙ sym (ap source c.in_ok-word.ensures.ok.is)

pub returns-clause-ok : goal.returns-clause-ok
returns-clause-ok c =
    let kind = kind_at c.args.types.now c.args.source in
    let later = term_at c.add_word.new.types c.add_word.new.terms in
    let here = term_later c.add_unit.new.types c.add_word.new.types c.add_unit.new.terms c.add_word.new.terms c.in_ok-unit.unit c.in_ok-unit.ensures.stands c.in_ok-word.ensures.grown c.in_ok-word.ensures.kept c.in_ok-unit.ensures.ok.within ∙ c.in_ok-unit.ensures.ok.is in
    let same = comp_same (later c.in_ok-unit.unit) (later c.in_ok-word.word) (unit kind) (word (level_of c.args.word.width) c.args.word.number) here c.in_ok-word.ensures.ok.is in
    made_is c.add_word.new.types c.add_comp.new.terms c.add_comp.result (comp (later c.in_ok-unit.unit) (later c.in_ok-word.word)) (word_term kind c.args.word.width c.args.word.number) same c.add_comp.ensures.ok
