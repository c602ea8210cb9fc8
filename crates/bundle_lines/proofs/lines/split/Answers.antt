-- Answers to the goals of `split`: the lines of a file: it is cut at each line feed, a carriage return
-- before that is dropped, and after a last line feed there is no further line.
use Rattle.std.proofs.Common.{rules, ◌≡◌, refl, sym, subst, ap, ◌∙◌, ℕ, List, [], ◌∷◌, ◌++◌, length, Some, Bor, inl, inr}
use Rattle.std.specs.Prelude.{option_map, map, ◌==◌}
use Rattle.std.proofs.lemmas.List.{map-append, append-nil}
use Rattle.std.specs.Slice.Iter as slice
use Rattle.std.proofs.lemmas.Iterator.Splits.{YieldsList-from_slice_split}
use Rattle.std.proofs.lemmas.Iterator.Consumers.{YieldsList-end}
use Rattle.bundle_lines.proofs.Cut.{IsCut, ended_line, one_more, finished, shown_or}
use Rattle.bundle_lines.proofs.lines.split.Goals as goal
use Rattle.bundle_lines.proofs.lines.split.Goals.{in-Some-open+in_ok-line+in_ok-push, in_default, then-not-is_empty+in_ok-line-2+in_ok-push-2, then-not-is_empty-via-then-not-is_empty, then-not-is_empty-via-else-not-is_empty+then-is_empty, else-not-is_empty+else-is_empty}
use borrow.Author.Tests.{tests}

pub parts-preserved : goal.parts-preserved
parts-preserved c =
    let now : Bor (List ℕ) → List ℕ = λ part. part.now in
    let all = map-append now c.parts.yielded (c.in-Some.part ∷ []) in
    let more = one_more _ _ c.in-Some.part.now (option_map now c.parts.open) c.parts.invariant in
    let gained : c.parts.lines ++ ended_line (option_map now c.parts.open) ≡ c.match-open.lines = elim c.match-open.branch [
      | in-Some-open+in_ok-line+in_ok-push w ↦
          ap (λ last. c.parts.lines ++ ended_line (option_map now last)) w.in-Some-open.is
          ∙ ap (λ (line : List ℕ). c.parts.lines ++ line ∷ []) (sym w.without_return.ensures ∙ sym w.in_ok-line.ensures)
          ∙ sym w.in_ok-push.ensures.ok ∙ sym w.lines-is
      | in_default w ↦ ap (λ last. c.parts.lines ++ ended_line (option_map now last)) w.in_default.is ∙ append-nil c.parts.lines ∙ sym w.lines-is
    ] in
    subst (λ (parts : List (List ℕ)). IsCut parts c.match-open.lines (Some c.in-Some.part.now)) (sym all)
    (subst (λ (lines : List (List ℕ)). IsCut (map now c.parts.yielded ++ c.in-Some.part.now ∷ []) lines (Some c.in-Some.part.now)) gained more)

pub returns : goal.returns
returns c =
    let now : Bor (List ℕ) → List ℕ = λ part. part.now in
    let same = c.into_iter-part-iterator.ensures.into_iter_gives in
    let found = YieldsList-from_slice_split _ (λ b. b == 10) c.args.text.now (ap slice.split_rest same ∙ c.split-part-items.ensures.rest)
    (ap slice.split_done same ∙ c.split-part-items.ensures.done) (ap slice.split_callee same ∙ c.split-part-items.ensures.closure) (λ x b q k. (refl, k.called.met ∙ ap (λ n. n == 10) k.shows)) in
    let all = YieldsList-end found c.parts.yielded _ c.parts.yielded_by _ _ c.in-None.is c.next.ensures.steps in
    let cut = subst (λ (parts : List (List ℕ)). IsCut parts c.parts.lines (option_map now c.parts.open)) all.0 c.parts.invariant in
    let last = ap now c.unwrap_or-last.ensures ∙ shown_or c.parts.open _ refl in
    let empty = ap (λ (part : List ℕ). length part == 0) last in
    finished c.args.text.now c.parts.lines c.if-not-is_empty.lines (option_map now c.parts.open) cut (elim c.if-not-is_empty.branch [
      | then-not-is_empty+in_ok-line-2+in_ok-push-2 w ↦ inl (
        w.lines-is ∙ w.in_ok-push-2.ensures.ok ∙ ap (λ (line : List ℕ). c.parts.lines ++ line ∷ []) (w.in_ok-line-2.ensures ∙ last),
        elim w.then-not-is_empty.branch [
          | then-not-is_empty-via-then-not-is_empty v ↦ inl (v.if-not-is_empty.ensures ∙ empty)
          | then-not-is_empty-via-else-not-is_empty+then-is_empty v ↦ inr v.if-is_empty.ensures
        ],
      )
      | else-not-is_empty+else-is_empty w ↦ inr (w.lines-is, w.if-not-is_empty.ensures ∙ empty, w.if-is_empty.ensures)
    ])
