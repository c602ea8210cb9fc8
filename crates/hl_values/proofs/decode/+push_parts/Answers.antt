-- Answers to the goals of `push_parts`: puts the parts of a tuple by halves, of which there are so many,
-- at the end.
use Rattle.std.proofs.Common.{arith, ◌≡◌, refl}
use Rattle.core_data.specs.Data.{value_of}
use Rattle.simplicity.specs.Types.{Pair}
use Rattle.hl_values.proofs.Leaving.{first_half, second_half, halves_pushed}
use Rattle.hl_values.proofs.decode.+push_parts.Goals as goal

pub push_parts-requires : goal.push_parts-requires
push_parts-requires t c =
    let pair : value_of c.args.tuple.now ≡ Pair (value_of c.in-Pair.first.value) (value_of c.in-Pair.rest.value) = rw c.in-Pair.is refl in
    (omega arith, rw c.deref.ensures (first_half c.args.count _ _ _ (omega arith) c.requires pair))

pub push_parts-requires-in-Pair : goal.push_parts-requires-in-Pair
push_parts-requires-in-Pair t c =
    let pair : value_of c.args.tuple.now ≡ Pair (value_of c.in-Pair.first.value) (value_of c.in-Pair.rest.value) = rw c.in-Pair.is refl in
    (omega arith, rw c.deref-in-Pair.ensures (second_half c.args.count _ _ _ (omega arith) c.requires pair))

pub returns : goal.returns
returns t c =
    let pair : value_of c.args.tuple.now ≡ Pair (value_of c.in-Pair.first.value) (value_of c.in-Pair.rest.value) = rw c.in-Pair.is refl in
    halves_pushed _ _ _ c.args.count _ _ _ (omega arith) pair (rw c.deref.ensures at c.in_ok-push_parts-in-Pair.ensures) (rw c.deref-in-Pair.ensures at c.in_ok-push_parts-in-Pair-2.ensures)
