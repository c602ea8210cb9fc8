-- A term with its arrows is the term, starts where it was let start, and is typed if it can start there.
use Rattle.std.proofs.Common.{◌≡◌, List, refl, sym, subst}
use Rattle.simplicity.specs.Types.{Kind, One, word_kind}
use Rattle.simplicity.specs.Terms.{Term}
use Rattle.simplicity.specs.Terms as plain
use Rattle.simplicity.specs.Typing.{arrow, IsTyped}
use Rattle.simplicity.specs.Canon.{erased}
use Rattle.simplicity.specs.Canon as term
use Rattle.simplicity.specs.Arrows.{source, target, MeetsRow, IsTypedTerm, AreWitnesses}
use Rattle.simplicity.specs.Arrows as row
use Rattle.simplicity.specs.Makes.{first_of, second_of, left_of, right_of}
use Rattle.simplicity.specs.Flowed.{flowed, leads_to, left_source, right_source, StartsFrom}
use Rattle.simplicity.specs.TermLaws.{FlowedIsTyped}
use Rattle.simplicity.proofs.Arrows.{starts, goes, places_typed}

pub arrows_erase : (t : Term) (a : Kind) → erased (flowed t a) ≡ t
arrows_erase plain.Iden a = refl
arrows_erase plain.UnitTerm a = refl
arrows_erase (plain.Comp s t) a = rw (arrows_erase s a, arrows_erase t (leads_to s a)) refl
arrows_erase (plain.Injl t) a = rw (arrows_erase t a) refl
arrows_erase (plain.Injr t) a = rw (arrows_erase t a) refl
arrows_erase (plain.Case s t) a = rw (arrows_erase s (left_source a), arrows_erase t (right_source a)) refl
arrows_erase (plain.PairTerm s t) a = rw (arrows_erase s a, arrows_erase t a) refl
arrows_erase (plain.Take t) a = rw (arrows_erase t (first_of a)) refl
arrows_erase (plain.Drop t) a = rw (arrows_erase t (second_of a)) refl
arrows_erase (plain.Word k n) a = refl
arrows_erase (plain.Witness n) a = refl
arrows_erase (plain.AssertL s h) a = rw (arrows_erase s (left_source a)) refl
arrows_erase (plain.AssertR h t) a = rw (arrows_erase t (right_source a)) refl
arrows_erase (plain.Fail e) a = refl

pub source_flowed : (t : Term) (a : Kind) → source (flowed t a) ≡ a
source_flowed plain.Iden a = refl
source_flowed plain.UnitTerm a = refl
source_flowed (plain.Comp s t) a = refl
source_flowed (plain.Injl t) a = refl
source_flowed (plain.Injr t) a = refl
source_flowed (plain.Case s t) a = refl
source_flowed (plain.PairTerm s t) a = refl
source_flowed (plain.Take t) a = refl
source_flowed (plain.Drop t) a = refl
source_flowed (plain.Word k n) a = refl
source_flowed (plain.Witness n) a = refl
source_flowed (plain.AssertL s h) a = refl
source_flowed (plain.AssertR h t) a = refl
source_flowed (plain.Fail e) a = refl

-- the arrow of a term from a source
pub arrow_flowed : (t : Term) (a : Kind) → row.declared_arrow (flowed t a) ≡ arrow a (leads_to t a)
arrow_flowed t a = starts (flowed t a) a (source_flowed t a)

pub flowed_typed : (t : Term) (a : Kind) → StartsFrom t a → IsTypedTerm (flowed t a)
flowed_typed plain.Iden a h = row.Iden a
flowed_typed plain.UnitTerm a h = row.UnitTerm a
flowed_typed (plain.Comp s t) a h = (
  row.Comp (flowed s a) (flowed t (leads_to s a)) a (leads_to s a) (leads_to t (leads_to s a)) (arrow_flowed s a) (arrow_flowed t (leads_to s a)),
  flowed_typed s a h.0,
  flowed_typed t (leads_to s a) h.1,
)
flowed_typed (plain.Injl t) a h = (row.Injl (flowed t a) a (leads_to t a) One (arrow_flowed t a), flowed_typed t a h)
flowed_typed (plain.Injr t) a h = (row.Injr (flowed t a) a One (leads_to t a) (arrow_flowed t a), flowed_typed t a h)
flowed_typed (plain.Case s t) a h =
    let u = flowed s (left_source a) in
    let v = flowed t (right_source a) in (
      subst (λ b. MeetsRow (term.Case (arrow b (target (flowed s (left_source a)))) (flowed s (left_source a)) (flowed t (right_source a)))) (sym h.0)
          (row.Case u v (left_of (first_of a)) (right_of (first_of a)) (second_of a) (leads_to s (left_source a)) (arrow_flowed s (left_source a))
          (goes v (right_source a) (leads_to s (left_source a)) (source_flowed t (right_source a)) (sym h.3))),
      flowed_typed s (left_source a) h.1,
      flowed_typed t (right_source a) h.2,
    )
flowed_typed (plain.PairTerm s t) a h =
    (row.Pair (flowed s a) (flowed t a) a (leads_to s a) (leads_to t a) (arrow_flowed s a) (arrow_flowed t a), flowed_typed s a h.0, flowed_typed t a h.1)
flowed_typed (plain.Take t) a h = (
  subst (λ b. MeetsRow (term.Take (arrow b (leads_to t (first_of a))) (flowed t (first_of a)))) (sym h.0)
      (row.Take (flowed t (first_of a)) (first_of a) (second_of a) (leads_to t (first_of a)) (arrow_flowed t (first_of a))),
  flowed_typed t (first_of a) h.1,
)
flowed_typed (plain.Drop t) a h = (
  subst (λ b. MeetsRow (term.Drop (arrow b (leads_to t (second_of a))) (flowed t (second_of a)))) (sym h.0)
      (row.Drop (flowed t (second_of a)) (first_of a) (second_of a) (leads_to t (second_of a)) (arrow_flowed t (second_of a))),
  flowed_typed t (second_of a) h.1,
)
flowed_typed (plain.Word k n) a h = subst (λ b. MeetsRow (term.Word (arrow b (word_kind k)) k n)) (sym h) (row.Word k n)
flowed_typed (plain.Witness n) a h = absurd h
flowed_typed (plain.AssertL s e) a h = (
  subst (λ b. MeetsRow (term.AssertL (arrow b (leads_to s (left_source a))) (flowed s (left_source a)) e)) (sym h.0)
      (row.AssertL (flowed s (left_source a)) e (left_of (first_of a)) (right_of (first_of a)) (second_of a) (leads_to s (left_source a)) (arrow_flowed s (left_source a))),
  flowed_typed s (left_source a) h.1,
)
flowed_typed (plain.AssertR e t) a h = (
  subst (λ b. MeetsRow (term.AssertR (arrow b (leads_to t (right_source a))) e (flowed t (right_source a)))) (sym h.0)
      (row.AssertR e (flowed t (right_source a)) (left_of (first_of a)) (right_of (first_of a)) (second_of a) (leads_to t (right_source a)) (arrow_flowed t (right_source a))),
  flowed_typed t (right_source a) h.1,
)
flowed_typed (plain.Fail e) a h = row.Fail e a One

-- it has no witnesses
none_asked : (ws : List Kind) (t : Term) (a : Kind) → StartsFrom t a → AreWitnesses ws (flowed t a)
none_asked ws plain.Iden a h = tt
none_asked ws plain.UnitTerm a h = tt
none_asked ws (plain.Comp s t) a h = (none_asked ws s a h.0, none_asked ws t (leads_to s a) h.1)
none_asked ws (plain.Injl t) a h = none_asked ws t a h
none_asked ws (plain.Injr t) a h = none_asked ws t a h
none_asked ws (plain.Case s t) a h = (none_asked ws s (left_source a) h.1, none_asked ws t (right_source a) h.2)
none_asked ws (plain.PairTerm s t) a h = (none_asked ws s a h.0, none_asked ws t a h.1)
none_asked ws (plain.Take t) a h = none_asked ws t (first_of a) h.1
none_asked ws (plain.Drop t) a h = none_asked ws t (second_of a) h.1
none_asked ws (plain.Word k n) a h = tt
none_asked ws (plain.Witness n) a h = absurd h
none_asked ws (plain.AssertL s e) a h = none_asked ws s (left_source a) h.1
none_asked ws (plain.AssertR e t) a h = none_asked ws t (right_source a) h.1
none_asked ws (plain.Fail e) a h = tt

pub tree_typed : (ws : List Kind) (t : Term) (a : Kind) → StartsFrom t a → IsTyped ws t a (leads_to t a)
tree_typed ws t a h =
    subst (λ b. IsTyped ws t b (leads_to t a)) (source_flowed t a)
    (subst (λ u. IsTyped ws u (source (flowed t a)) (leads_to t a)) (arrows_erase t a) (places_typed ws (flowed t a) (flowed_typed t a h) (none_asked ws t a h)))

pub flowed_is_typed : FlowedIsTyped
flowed_is_typed = record { erases = arrows_erase; starts = source_flowed; places = flowed_typed; typed = tree_typed }
