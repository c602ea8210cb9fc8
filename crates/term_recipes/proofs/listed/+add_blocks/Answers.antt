-- Answers to the goals of `add_blocks`: the list of a level, its blocks from the longest on.
use Rattle.std.proofs.Common.{◌-◌, ◌<◌, arith}
use Rattle.simplicity.specs.Makes.{pair}
use Rattle.type_table.specs.Kinds.{kind_at}
use Rattle.term_core.specs.Terms.{term_at}
use Rattle.hl_terms.specs.Translated.{list_term}
use Rattle.term_recipes.specs.Shapes.{terms_at}
use Rattle.term_recipes.proofs.Blocks.{block_typed, blocks_made, list_later, rest_typed}
use Rattle.term_recipes.proofs.Halved.{there_drop, there_later}
use Rattle.term_recipes.proofs.Later.{made_is, type_later, typed_same}
use Rattle.term_recipes.proofs.listed.+add_blocks.Goals as goal

pub add_block-requires-clause-typed : goal.add_block-requires-clause-typed
add_block-requires-clause-typed t c =
    let kind = kind_at c.args.types.now in
    let above : 0 < c.args.level = omega arith in
    block_typed c.args.types.now c.args.terms.now (kind c.args.source) (kind c.args.item) c.args.level c.block_size.result c.args.items.now c.split_at.result.0.now c.split_at.result.1.now above c.block_size.ensures.size c.split_at.ensures.front c.split_at.ensures.back c.requires.typed

pub add_blocks-requires : goal.add_blocks-requires
add_blocks-requires t c =
    let kind = kind_at c.args.types.now in
    let back = c.split_at.result.1.now in
    let above : 0 < c.args.level = omega arith in
    let there = there_drop c.args.terms.now c.block_size.result c.args.items.now back c.split_at.ensures.back c.requires.items in (
      omega arith,
      (
        c.in_ok-block.ensures.stands,
        (
          type_later c.args.types.now c.add_block.new.types c.args.source c.in_ok-block.ensures.grown c.requires.source,
          (
            type_later c.args.types.now c.add_block.new.types c.args.item c.in_ok-block.ensures.grown c.requires.item,
            (
              omega (arith, c.requires.few),
              (
                there_later c.args.terms.now c.add_block.new.terms back c.in_ok-block.ensures.kept there,
                typed_same (list_term (kind_at c.add_block.new.types c.args.source) (kind_at c.add_block.new.types c.args.item) (c.args.level - 1) (terms_at c.add_block.new.types c.add_block.new.terms back))
                    (list_term (kind c.args.source) (kind c.args.item) (c.args.level - 1) (terms_at c.args.types.now c.args.terms.now back))
                    (list_later c.args.types.now c.add_block.new.types c.args.terms.now c.add_block.new.terms c.args.source c.args.item (c.args.level - 1) back c.requires.stands c.in_ok-block.ensures.grown c.in_ok-block.ensures.kept c.requires.source c.requires.item there)
                    (rest_typed c.args.types.now c.args.terms.now (kind c.args.source) (kind c.args.item) c.args.level c.block_size.result c.args.items.now c.split_at.result.0.now back above c.block_size.ensures.size c.split_at.ensures.front c.split_at.ensures.back c.requires.typed),
              ),
            ),
          ),
        ),
      ),
    )

pub add_paired-requires-clause-typed : goal.add_paired-requires-clause-typed
add_paired-requires-clause-typed t c =
    let kind = kind_at c.args.types.now in
    let later = term_at c.add_blocks.new.types c.add_blocks.new.terms in
    let back = c.split_at.result.1.now in
    let above : 0 < c.args.level = omega arith in
    let there = there_drop c.args.terms.now c.block_size.result c.args.items.now back c.split_at.ensures.back c.requires.items in
    let made = pair (later c.in_ok-block.block) (later c.in_ok-rest.rest) in
    let wanted = list_term (kind c.args.source) (kind c.args.item) c.args.level (terms_at c.args.types.now c.args.terms.now c.args.items.now) in
    let same =
    blocks_made c.args.types.now c.add_block.new.types c.add_blocks.new.types c.args.terms.now c.add_block.new.terms c.add_blocks.new.terms c.args.source c.args.item c.args.level c.block_size.result c.in_ok-block.block c.in_ok-rest.rest c.args.items.now c.split_at.result.0.now back above c.block_size.ensures.size c.split_at.ensures.front c.split_at.ensures.back
    c.requires.stands c.in_ok-block.ensures.stands c.in_ok-block.ensures.grown c.in_ok-rest.ensures.grown c.in_ok-block.ensures.kept c.in_ok-rest.ensures.kept c.requires.source c.requires.item there c.in_ok-block.ensures.ok c.in_ok-rest.ensures.ok in
    typed_same made wanted same c.requires.typed

pub returns-clause-ok : goal.returns-clause-ok
returns-clause-ok t c =
    let kind = kind_at c.args.types.now in
    let later = term_at c.add_blocks.new.types c.add_blocks.new.terms in
    let back = c.split_at.result.1.now in
    let above : 0 < c.args.level = omega arith in
    let there = there_drop c.args.terms.now c.block_size.result c.args.items.now back c.split_at.ensures.back c.requires.items in
    let made = pair (later c.in_ok-block.block) (later c.in_ok-rest.rest) in
    let wanted = list_term (kind c.args.source) (kind c.args.item) c.args.level (terms_at c.args.types.now c.args.terms.now c.args.items.now) in
    let same =
    blocks_made c.args.types.now c.add_block.new.types c.add_blocks.new.types c.args.terms.now c.add_block.new.terms c.add_blocks.new.terms c.args.source c.args.item c.args.level c.block_size.result c.in_ok-block.block c.in_ok-rest.rest c.args.items.now c.split_at.result.0.now back above c.block_size.ensures.size c.split_at.ensures.front c.split_at.ensures.back
    c.requires.stands c.in_ok-block.ensures.stands c.in_ok-block.ensures.grown c.in_ok-rest.ensures.grown c.in_ok-block.ensures.kept c.in_ok-rest.ensures.kept c.requires.source c.requires.item there c.in_ok-block.ensures.ok c.in_ok-rest.ensures.ok in
    made_is c.add_paired.new.types c.add_paired.new.terms c.add_paired.result made wanted same c.add_paired.ensures.ok
