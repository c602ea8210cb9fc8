-- Answers to the goals of `push_items`: puts the items of a list at a level at the end.
use Rattle.std.proofs.Common.{arith, ◌≡◌, refl}
use Rattle.core_data.specs.Data.{value_of}
use Rattle.simplicity.specs.Types.{Pair, Inr}
use Rattle.hl_values.proofs.Leaving.{level_some, rest_there, block_there, item_pushed, block_pushed}
use Rattle.hl_values.proofs.decode.+push_items.Goals as goal

pub push_parts-requires : goal.push_parts-requires
push_parts-requires t c =
    let pair : value_of c.args.list.now ≡ Pair (value_of c.in-Pair.choice.value) (value_of c.in-Pair.rest.value) = rw c.in-Pair.is refl in
    let choice : value_of c.in-Pair.choice.value ≡ Inr (value_of c.in-Right-deref.block.value) = rw (← c.deref-in-Pair.ensures, c.in-Right-deref.is) refl in
    rw c.deref-in-Right-deref.ensures (block_there c.args.level _ _ _ _ c.requires.low c.requires.list pair choice)

pub push_items-requires : goal.push_items-requires
push_items-requires t c =
    let pair : value_of c.args.list.now ≡ Pair (value_of c.in-Pair.choice.value) (value_of c.in-Pair.rest.value) = rw c.in-Pair.is refl in
    let some = level_some c.args.level _ _ _ c.requires.list pair in
    let low = c.requires.low in
    (omega arith, (rw c.deref-in-Right-deref-2.ensures (rest_there c.args.level _ _ _ c.requires.list pair), omega arith))

pub returns-in-Right-deref : goal.returns-in-Right-deref
returns-in-Right-deref t c =
    let pair : value_of c.args.list.now ≡ Pair (value_of c.in-Pair.choice.value) (value_of c.in-Pair.rest.value) = rw c.in-Pair.is refl in
    let choice : value_of c.in-Pair.choice.value ≡ Inr (value_of c.in-Right-deref.block.value) = rw (← c.deref-in-Pair.ensures, c.in-Right-deref.is) refl in
    block_pushed _ _ _ c.args.level _ _ _ _ c.requires.low pair choice (rw c.deref-in-Right-deref.ensures at c.in_ok-push_parts-in-Pair.ensures) (rw c.deref-in-Right-deref-2.ensures at c.in_ok-push_items-in-Pair.ensures)

pub returns-in_ok-push-in-Right : goal.returns-in_ok-push-in-Right
returns-in_ok-push-in-Right t c =
    let right : value_of c.args.list.now ≡ Inr (value_of c.in-Right.item.value) = rw c.in-Right.is refl in
    item_pushed _ _ c.deref.result c.args.level _ (value_of c.in-Right.item.value) right (rw c.deref.ensures refl) c.in_ok-push-in-Right.ensures.items
