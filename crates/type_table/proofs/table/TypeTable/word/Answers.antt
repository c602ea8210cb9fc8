-- Answers to the goals of `word`: the type of the words of so many bits, which is 1, 2, 4, up to 256.
use Rattle.std.proofs.Common.{◌≡◌, ℕ, subst, arith}
use Rattle.simplicity.specs.Types.{word_kind}
use Rattle.type_table.specs.Kinds.{Means}
use Rattle.type_table.proofs.Growth.{grown_through}
use Rattle.type_table.proofs.Words.{bit_means, doubled_means, word_means}
use Rattle.type_table.proofs.table.TypeTable.word.Goals as goal

pub loop-level-init : goal.loop-level-init
loop-level-init c = record {
  means = bit_means _ _ _ _ c.in_ok-unit.ensures.ok c.in_ok-id.ensures.ok;
  grown = grown_through _ _ _ c.in_ok-unit.ensures.grown c.in_ok-id.ensures.grown;
  distinct = c.in_ok-id.ensures.distinct;
}

pub loop-level-preserved : goal.loop-level-preserved
loop-level-preserved c = record {
  means = doubled_means _ _ _ _ _ c.loop-level.invariant.means c.in_ok-id-2.ensures.ok;
  grown = grown_through _ _ _ c.loop-level.invariant.grown c.in_ok-id-2.ensures.grown;
  distinct = c.in_ok-id-2.ensures.distinct;
}

pub returns-clause-ok : goal.returns-clause-ok
returns-clause-ok c =
    let last : c.loop-level._level ≡ c.ilog2-level-end.result = omega (arith, c.loop-level.auto._level-end, c.loop-level-test.false) in
    word_means c.loop-level.self c.loop-level.id c.ilog2-level-end.result c.args.width c.requires c.ilog2-level-end.ensures.power_le c.ilog2-level-end.ensures.next_power_gt
    (let Q : ℕ → Type 0 = λ k. Means c.loop-level.self c.loop-level.id (word_kind k) in subst Q last c.loop-level.invariant.means)
