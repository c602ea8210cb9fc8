-- Invariants of `word`: the type of the words of so many bits, which is 1, 2, 4, up to 256.
use Rattle.simplicity.specs.Types.{word_kind}
use Rattle.type_table.specs.Kinds.{Means, IsGrown, IsDistinct}
use Rattle.type_table.proofs.table.TypeTable.word.Given as goal

abbrev pub invariant-loop-level : goal.invariant-loop-level
invariant-loop-level l = record {
  means : Means l.self l.id (word_kind l._level);
  grown : IsGrown l.fn.self l.self;
  distinct : IsDistinct l.self;
}
