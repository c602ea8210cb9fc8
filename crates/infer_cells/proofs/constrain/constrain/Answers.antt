-- Answers to the goals of `constrain` in `constrain`.
use Rattle.std.proofs.Common.{arith, max}
use Rattle.infer_cells.proofs.Constraint.{constrains_none, finish, finish_none, finish_within}
use Rattle.infer_cells.proofs.Steps.{on_no_typing}
use Rattle.infer_cells.proofs.Turns.{turn_at, turn_under, turn_placed, turn_within, turn_none, turn_next, all_seen, few_seen, work_is, same_by, none_by, within_by}
use Rattle.infer_cells.proofs.constrain.constrain.Goals as goal

pub loop-node-init : goal.loop-node-init
loop-node-init c = record {
  so_far =
      rw c.in_ok-places.ensures.items
      (constrains_none c.args.types.now (max c.args.source c.args.target) c.args.nodes.now c.in_ok-cells.cells.items c.in_ok-cells.ensures.rows
      (rw c.max.ensures at c.in_ok-cells.ensures.count) (omega (arith, c.requires.source, c.requires.target)));
  nothing = c.new-work.ensures.items;
}

pub emit-requires : goal.emit-requires
emit-requires c =
    turn_under c.args.types.now _ c.args.nodes.now c.loop-node.node-index c.loop-node.cells.items c.loop-node.places.items c.as_slice.result.now _ (turn_at c.args.types.now _ c.as_slice-node-items.result.now c.args.nodes.now c.loop-node.node-index c.loop-node.cells.items c.loop-node.places.items c.node-item.result c.node-item.is c.as_slice-node-items.ensures.nodes c.as_slice-node-items.ensures.placed c.loop-node-test.true c.loop-node.invariant.so_far) c.as_slice.ensures.value

pub solve-requires-clause-placed : goal.solve-requires-clause-placed
solve-requires-clause-placed c =
    turn_placed c.args.types.now _ c.args.nodes.now c.loop-node.node-index c.loop-node.cells.items c.loop-node.places.items c.as_slice.result.now _ (turn_at c.args.types.now _ c.as_slice-node-items.result.now c.args.nodes.now c.loop-node.node-index c.loop-node.cells.items c.loop-node.places.items c.node-item.result c.node-item.is c.as_slice-node-items.ensures.nodes c.as_slice-node-items.ensures.placed c.loop-node-test.true c.loop-node.invariant.so_far) c.as_slice.ensures.value c.emit.new.cells.items c.loop-node.work.items c.emit.new.work.items c.loop-node.invariant.nothing c.in_ok-place.ensures.cells c.in_ok-place.ensures.equations

pub solve-requires-clause-within : goal.solve-requires-clause-within
solve-requires-clause-within c =
    turn_within c.args.types.now _ c.args.nodes.now c.loop-node.node-index c.loop-node.cells.items c.loop-node.places.items c.as_slice.result.now _ (turn_at c.args.types.now _ c.as_slice-node-items.result.now c.args.nodes.now c.loop-node.node-index c.loop-node.cells.items c.loop-node.places.items c.node-item.result c.node-item.is c.as_slice-node-items.ensures.nodes c.as_slice-node-items.ensures.placed c.loop-node-test.true c.loop-node.invariant.so_far) c.as_slice.ensures.value c.emit.new.cells.items c.loop-node.work.items c.emit.new.work.items c.loop-node.invariant.nothing c.in_ok-place.ensures.cells c.in_ok-place.ensures.equations

pub returns-in-Err-clause-none : goal.returns-in-Err-clause-none
returns-in-Err-clause-none c =
    on_no_typing c.in-Err.refusal _ _ (turn_none c.args.types.now _ c.args.nodes.now c.loop-node.node-index c.loop-node.cells.items c.loop-node.places.items c.as_slice.result.now _ (turn_at c.args.types.now _ c.as_slice-node-items.result.now c.args.nodes.now c.loop-node.node-index c.loop-node.cells.items c.loop-node.places.items c.node-item.result c.node-item.is c.as_slice-node-items.ensures.nodes c.as_slice-node-items.ensures.placed c.loop-node-test.true c.loop-node.invariant.so_far) c.as_slice.ensures.value c.emit.new.cells.items c.loop-node.work.items c.emit.new.work.items c.loop-node.invariant.nothing c.in_ok-place.ensures.cells c.in_ok-place.ensures.equations _) c.in-Err.ensures.none

pub loop-node-preserved : goal.loop-node-preserved
loop-node-preserved c = record {
  so_far =
      turn_next c.args.types.now _ c.args.nodes.now c.loop-node.node-index c.loop-node.cells.items c.loop-node.places.items c.as_slice.result.now _ (turn_at c.args.types.now _ c.as_slice-node-items.result.now c.args.nodes.now c.loop-node.node-index c.loop-node.cells.items c.loop-node.places.items c.node-item.result c.node-item.is c.as_slice-node-items.ensures.nodes c.as_slice-node-items.ensures.placed c.loop-node-test.true c.loop-node.invariant.so_far) c.as_slice.ensures.value c.emit.new.cells.items c.loop-node.work.items c.emit.new.work.items c.loop-node.invariant.nothing c.in_ok-place.ensures.cells c.in_ok-place.ensures.equations
      c.solve.new.cells.items c.in_ok-place.place c.append.new.places.items c.in-Ok.ensures.same c.in-Ok.ensures.length c.in-Ok.ensures.placed c.in_ok-place.ensures.at
      c.in_ok-append.ensures;
  nothing = c.in-Ok.ensures.done;
}

pub solve-requires-2-clause-within : goal.solve-requires-2-clause-within
solve-requires-2-clause-within c =
    within_by _ _ _ (work_is c.loop-node.work.items c.tie.new.work.items _ c.loop-node.invariant.nothing (rw c.as_slice-2.ensures.value at c.in_ok-tie.ensures)) (finish_within c.args.types.now c.args.source c.args.target (max c.args.source c.args.target) c.args.nodes.now c.loop-node.node-index c.loop-node.cells.items c.loop-node.places.items c.requires.rooted (all_seen c.as_slice-node-items.result.now c.args.nodes.now c.loop-node.node-index c.as_slice-node-items.ensures.nodes c.loop-node-test.false) (few_seen c.as_slice-node-items.result.now c.args.nodes.now c.loop-node.node-index c.as_slice-node-items.ensures.nodes c.loop-node.auto.node-index-end) (omega arith) (omega arith) c.loop-node.invariant.so_far)

pub returns-in-Ok-solve-clause-ok : goal.returns-in-Ok-solve-clause-ok
returns-in-Ok-solve-clause-ok c =
    finish c.args.types.now c.args.source c.args.target (max c.args.source c.args.target) c.args.nodes.now c.loop-node.node-index c.loop-node.cells.items c.loop-node.places.items c.requires.rooted (all_seen c.as_slice-node-items.result.now c.args.nodes.now c.loop-node.node-index c.as_slice-node-items.ensures.nodes c.loop-node-test.false) (few_seen c.as_slice-node-items.result.now c.args.nodes.now c.loop-node.node-index c.as_slice-node-items.ensures.nodes c.loop-node.auto.node-index-end) (omega arith) (omega arith) c.loop-node.invariant.so_far c.solve-2.new.cells.items (same_by _ _ _ _ (work_is c.loop-node.work.items c.tie.new.work.items _ c.loop-node.invariant.nothing (rw c.as_slice-2.ensures.value at c.in_ok-tie.ensures)) c.in-Ok-solve.ensures.same) c.in-Ok-solve.ensures.length c.in-Ok-solve.ensures.placed

pub returns-in-Err-solve-clause-none : goal.returns-in-Err-solve-clause-none
returns-in-Err-solve-clause-none c =
    on_no_typing c.in-Err-solve.refusal _ _ (λ h. finish_none c.args.types.now c.args.source c.args.target (max c.args.source c.args.target) c.args.nodes.now c.loop-node.node-index c.loop-node.cells.items c.loop-node.places.items c.requires.rooted (all_seen c.as_slice-node-items.result.now c.args.nodes.now c.loop-node.node-index c.as_slice-node-items.ensures.nodes c.loop-node-test.false) (few_seen c.as_slice-node-items.result.now c.args.nodes.now c.loop-node.node-index c.as_slice-node-items.ensures.nodes c.loop-node.auto.node-index-end) (omega arith) (omega arith) c.loop-node.invariant.so_far (none_by _ _ _ (work_is c.loop-node.work.items c.tie.new.work.items _ c.loop-node.invariant.nothing (rw c.as_slice-2.ensures.value at c.in_ok-tie.ensures)) h)) c.in-Err-solve.ensures.none
