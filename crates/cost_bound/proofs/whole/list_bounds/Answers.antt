-- Answers to the goals of `list_bounds`.
use Rattle.std.proofs.Common.{◌≡◌, ◌∙◌, ◌≤◌, ap, min, length, arith}
use Rattle.std.specs.Prelude.{option_map}
use Rattle.std.proofs.lemmas.List.{map_push, length-map}
use Rattle.simplicity.specs.Typing.{Typing}
use Rattle.infer_cells.specs.Typings.{arrow_in, typing_in}
use Rattle.cost_bound.specs.Numbers.{entry_of, entries_of, stated_entries}
use Rattle.cost_bound.proofs.Arrows.{bound_there, light_there, get_map}
use Rattle.cost_bound.proofs.Listed.{more_bounds, all_bounds}
use Rattle.cost_bound.proofs.whole.list_bounds.Goals as goal

pub entry_bounds-requires-clause-arrow : goal.entry_bounds-requires-clause-arrow
entry_bounds-requires-clause-arrow c = bound_there _ c.args.typing.now c.loop-place.place _ c.requires.there c.get-in-loop-place.ensures

pub entry_bounds-requires-clause-light : goal.entry_bounds-requires-clause-light
entry_bounds-requires-clause-light c = light_there _ c.args.typing.now c.loop-place.place _ c.requires.light c.get-in-loop-place.ensures

pub loop-place-preserved : goal.loop-place-preserved
loop-place-preserved c =
    let ts : Typing = typing_in c.args.types.now c.args.typing.now in
    record {
      works = c.in_ok-entry.ensures.works;
      entries = more_bounds ts c.args.nodes.now c.loop-place.place _ (arrow_in c.args.types.now c.get-in-loop-place.result.now) (entries_of c.loop-place.entries.items)
          (entries_of c.push.new.self.items) (entry_of c.in_ok-entry.entry) c.get.ensures
          (get_map (arrow_in c.args.types.now) c.args.typing.now c.loop-place.place ∙ ap (option_map (arrow_in c.args.types.now)) c.get-in-loop-place.ensures)
          c.loop-place.invariant.entries (rw c.as_slice.ensures.value at c.in_ok-entry.ensures.entry)
          (ap entries_of c.in_ok-push.ensures.items ∙ map_push entry_of c.loop-place.entries.items c.in_ok-entry.entry);
    }

pub returns : goal.returns
returns c =
    let ts : Typing = typing_in c.args.types.now c.args.typing.now in
    let long : length ts ≡ length c.args.typing.now = length-map c.args.typing.now (arrow_in c.args.types.now) in
    let past : min (length c.args.nodes.now) (length ts) ≤ c.loop-place.place = omega arith in
    c.loop-place.invariant.entries ∙ ap stated_entries (all_bounds ts c.args.nodes.now c.loop-place.place past)
