-- Answers to the goals of `block_type`: the type of 2 ^ level items of a type.
use Rattle.std.proofs.Common.{◌<◌, arith}
use Rattle.type_table.specs.Kinds.{kind_at}
use Rattle.term_recipes.proofs.Blocks.{doubled_ok}
use Rattle.term_recipes.proofs.listed.+block_type.Goals as goal

pub returns-clause-ok : goal.returns-clause-ok
returns-clause-ok t c =
    let above : 0 < c.args.level = omega arith in
    doubled_ok c.block_type.new.types c.product.new.self c.args.level c.in_ok-half.half (kind_at c.args.types.now c.args.item) c.product.result above c.in_ok-half.ensures.ok c.product.ensures.ok
