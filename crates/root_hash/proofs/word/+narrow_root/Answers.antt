-- Answers to the goals of `narrow_root`: the root of the word of 2^level bits with a number.
use Rattle.std.proofs.Common.{arith}
use Rattle.root_hash.proofs.Words.{narrow_by}
use Rattle.root_hash.proofs.word.+narrow_root.Goals as goal

pub returns : goal.returns
returns t c =
    narrow_by c.args.level c.half_width-behind.result c.args.number c.double.result c.narrow_root-first.result c.narrow_root-second.result (omega arith)
    c.half_width-behind.ensures.value c.half_width-behind.ensures.small c.narrow_root-first.ensures c.narrow_root-second.ensures c.double.ensures
