-- Answers to the goals of `word_root` in `word`.
use Rattle.root_hash.proofs.Words.{wide_by}
use Rattle.root_hash.proofs.word.word_root.Goals as goal

pub returns-then-level-eq8 : goal.returns-then-level-eq8
returns-then-level-eq8 c =
    wide_by c.word_level-level.result _ c.args.word.now.number c.double.result c.narrow_root-first.result c.narrow_root-second.result c.word_level-level.ensures.value
    c.if-level-eq8.true (rw c.high.ensures at c.narrow_root-first.ensures) (rw c.low.ensures at c.narrow_root-second.ensures) c.double.ensures
