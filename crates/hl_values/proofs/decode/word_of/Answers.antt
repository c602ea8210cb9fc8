-- Answers to the goals of `word_of`: the word of a width that a core value is.
use Rattle.hl_values.proofs.Decoding.{no_word, word_found}
use Rattle.hl_values.proofs.decode.word_of.Goals as goal

pub unreachable-requires : goal.unreachable-requires
unreachable-requires c = no_word _ c.args.width c.requires.sound c.requires.of_width c.in_default.ensures.none

pub returns : goal.returns
returns c =
    let found = word_found _ c.args.width c.in-Some.word c.requires.sound c.requires.of_width c.in-Some.ensures.found c.width-width.ensures.fits in
    record { value = found.0; width = found.1 }
