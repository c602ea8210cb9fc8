-- Measures of `append_natural`: appends the code of a natural; after an error some of it may stand there.
use Rattle.cell_bits.proofs.writer.+append_natural.Given as goal

abbrev pub decreases-append_natural : goal.decreases-append_natural
decreases-append_natural l = l.value
