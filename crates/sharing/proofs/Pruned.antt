-- A program is pruned to one result at most: hiding is one, its cut is placed, and reordering is one.
use Rattle.std.proofs.Common.{◌≡◌, ap, sym, subst, ◌∙◌, List}
use Rattle.simplicity.specs.Types.{UnitValue, One, shrink_all}
use Rattle.simplicity.specs.Nodes.{Node}
use Rattle.simplicity.specs.Typing.{Typing, arrow, witness_targets}
use Rattle.simplicity.specs.Pruning.{IsCut, IsReordered, values_at, gathered_numbers}
use Rattle.sharing.specs.Laws.{PrunedIsOne}
use Rattle.sharing.proofs.Cuts.{hiding_cuts, hiding_is_one, cuts_are_placed, cut_full}
use Rattle.sharing.proofs.Reordered.{reordered_is_one}

pub pruned_is_one : PrunedIsOne
pruned_is_one ns ms ls w us vs left other placed full a b =
    let is_cut : IsCut ns a.hidden = hiding_cuts ns a.hidden w UnitValue a.hide in
    let same : b.hidden ≡ a.hidden = hiding_is_one ns b.hidden a.hidden w UnitValue b.hide a.hide in
    let again : IsReordered a.hidden (arrow One One) ls vs b.places = subst (λ (hidden : List Node). IsReordered hidden (arrow One One) ls vs b.places) same b.reordered in
    let one = reordered_is_one a.hidden ms ls us vs a.places b.places (arrow One One) (cuts_are_placed ns a.hidden placed is_cut) (cut_full ns a.hidden full is_cut) a.reordered again in (
      one.0,
      one.1,
      a.values
          ∙ ap (λ (hidden : List Node). shrink_all (values_at w (gathered_numbers hidden)) (witness_targets ms us)) (sym same)
          ∙ ap (λ (l : List Node). shrink_all (values_at w (gathered_numbers b.hidden)) (witness_targets l us)) one.0
          ∙ ap (λ (ts : Typing). shrink_all (values_at w (gathered_numbers b.hidden)) (witness_targets ls ts)) one.1
          ∙ sym b.values,
    )
