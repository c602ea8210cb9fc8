-- Answers to the goals of `gather_parts`: the terms of forms that have several parts.
use Rattle.std.proofs.Common.{◌≡◌, ◌≤◌, ◌∙◌, refl, sym, ap, subst, length, take, arith}
use Rattle.std.proofs.lemmas.List.{length-take-le}
use Rattle.term_builder.specs.State.{state_of}
use Rattle.term_builder.specs.Steps.{MayMake}
use Rattle.translate.proofs.Calls.{call_within, call_state, not_missing}
use Rattle.translate.proofs.Shown.{shown}
use Rattle.translate.specs.Forms.{MayGather, gather_last}
use Rattle.translate.specs.Here.{before_of}
use Rattle.translate.proofs.gather.gather_parts.Goals as goal

pub slice_bounds-before-end : goal.slice_bounds-before-end
slice_bounds-before-end c =
    sym (length-take-le c.args.place.count c.as_slice.result.now (subst (λ fs. c.args.place.count ≤ length fs) (sym (c.as_slice.ensures ∙ c.functions.ensures)) c.requires.known.within))

pub call-requires-clause-place : goal.call-requires-clause-place
call-requires-clause-place c =
    call_within c.args.place c.in-Call.name.now c.in-Some.index (rw (c.as_str.ensures, c.as_slice.ensures, c.functions.ensures) at (sym c.position_of.ensures ∙ c.in-Some.is)) (state_of c.args.builder.now).kept c.requires.kept

pub call-requires-clause-makes : goal.call-requires-clause-makes
call-requires-clause-makes c =
    subst (MayMake c.args.count (state_of c.args.builder.now))
    (ap (λ h. gather_last c.args.place h c.args.kind.now c.args.count (state_of c.args.builder.now)) c.in-Call.is
    ∙ call_state c.args.place c.in-Call.name.now c.in-Some.index (rw (c.as_str.ensures, c.as_slice.ensures, c.functions.ensures) at (sym c.position_of.ensures ∙ c.in-Some.is)) (state_of c.args.builder.now) c.requires.kept c.in-Call.name refl c.args.kind.now c.args.count)
    c.requires.makes

pub unreachable-requires-in-None : goal.unreachable-requires-in-None
unreachable-requires-in-None c =
    let may = subst (λ h. MayGather c.args.place h c.args.kind.now) c.in-Call.is c.requires.may in
    not_missing c.in-Call.name.now (before_of c.args.place) may.0 may.1 (rw (c.as_str.ensures, c.as_slice.ensures, c.functions.ensures) at (sym c.position_of.ensures ∙ c.in-None.is))

pub returns-in-Some : goal.returns-in-Some
returns-in-Some c =
    shown _ _ _ _ c.call.ensures
    (sym (ap (λ h. gather_last c.args.place h c.args.kind.now c.args.count (state_of c.args.builder.now)) c.in-Call.is
    ∙ call_state c.args.place c.in-Call.name.now c.in-Some.index (rw (c.as_str.ensures, c.as_slice.ensures, c.functions.ensures) at (sym c.position_of.ensures ∙ c.in-Some.is)) (state_of c.args.builder.now) c.requires.kept c.in-Call.name refl c.args.kind.now c.args.count))
