-- Steps at the end, and values at the end.
use Rattle.std.proofs.Common.{◌≡◌, ◌+◌, ◌*◌, ◌<◌, List, [], ◌∷◌, ◌++◌, refl, ap, sym, ◌∙◌, arith, Option, Some, None, reverse, map}
use Rattle.std.specs.Prelude.{IsSome}
use denote.Bor.{Bor}
use Rattle.std.proofs.lemmas.List.{reverse-append, map-append}
use Rattle.simplicity.specs.Types.{Kind, One, Sum, Product, Value, UnitValue, Inl, Inr, Pair, IsOf, IsBelow, shrink}
use Rattle.core_data.specs.Above.{IsOfAbove}
use Rattle.core_data.specs.Data.{kind_of, value_of}
use Rattle.core_data.specs.declared.data.CoreType.{CoreType}
use Rattle.core_data.specs.declared.data.CoreValue.{CoreValue}
use Rattle.core_data.specs.declared.shrunk.Step.{Step}
use Rattle.core_data.specs.declared.shrunk.Step.TheVariants as step
use Rattle.core_data.specs.Loads.{load}
use Rattle.core_data.specs.Steps.{tagged, joined, cut, stack_of, before, after_step, after_steps, step_turns, turns, Goes}

pub stack_of-push : (values : List CoreValue) (v : CoreValue) → stack_of (values ++ v ∷ []) ≡ value_of v ∷ stack_of values
stack_of-push values v = ap reverse (map-append value_of values (v ∷ [])) ∙ reverse-append (map value_of values) (value_of v ∷ [])

pub after_steps-append : (steps more : List Step) (stack : Option (List Value)) → after_steps (steps ++ more) stack ≡ after_steps steps (after_steps more stack)
after_steps-append [] more stack = refl
after_steps-append (first ∷ steps) more stack = ap (after_step first) (after_steps-append steps more stack)

pub turns-append : (steps more : List Step) → turns (steps ++ more) ≡ turns more + turns steps
turns-append [] more = omega arith
turns-append (first ∷ steps) more = omega (arith, turns-append steps more)

-- a value of a type at or above another is shrunk to it
cut_is : (k t : Kind) (v : Value) → IsOf v t → IsBelow k t → cut v k ≡ Some (shrink v k)
cut_is One t v is below = refl
cut_is (Sum a b) One v is below = elim below [ ]
cut_is (Sum a b) (Product c d) v is below = elim below [ ]
cut_is (Sum a b) (Sum c d) UnitValue is below = elim is [ ]
cut_is (Sum a b) (Sum c d) (Pair u v) is below = elim is [ ]
cut_is (Sum a b) (Sum c d) (Inl u) is below = ap (tagged Inl) (cut_is a c u is below.0)
cut_is (Sum a b) (Sum c d) (Inr u) is below = ap (tagged Inr) (cut_is b d u is below.1)
cut_is (Product a b) One v is below = elim below [ ]
cut_is (Product a b) (Sum c d) v is below = elim below [ ]
cut_is (Product a b) (Product c d) UnitValue is below = elim is [ ]
cut_is (Product a b) (Product c d) (Inl u) is below = elim is [ ]
cut_is (Product a b) (Product c d) (Inr u) is below = elim is [ ]
cut_is (Product a b) (Product c d) (Pair u v) is below =
    let first = cut_is a c u is.0 below.0 in
    let second = cut_is b d v is.1 below.1 in
    cc

pub cut_above : (v : Value) (k : Kind) → IsOfAbove v k → cut v k ≡ Some (shrink v k)
cut_above v k above = cut_is k above.kind v above.is_of above.above

-- tags and a pair, after the steps that shrink what is in them
left_after : (o : Option Value) (stack : List Value) → after_step step.TagLeft (before o stack) ≡ before (tagged Inl o) stack
left_after None stack = refl
left_after (Some v) stack = refl

right_after : (o : Option Value) (stack : List Value) → after_step step.TagRight (before o stack) ≡ before (tagged Inr o) stack
right_after None stack = refl
right_after (Some v) stack = refl

pair_after : (u v : Bor CoreValue) (k m : Bor CoreType) (o p : Option Value) (stack : List Value) → cut (value_of u.now) (kind_of k.now) ≡ o → cut (value_of v.now) (kind_of m.now) ≡ p →
    after_step step.JoinPair (after_step (step.Shrink v m) (before o stack)) ≡ before (joined o p) stack
pair_after u v k m None p stack e f = refl
pair_after u v k m (Some a) None stack e f = ap (λ q. after_step step.JoinPair (before q (a ∷ stack))) f
pair_after u v k m (Some a) (Some b) stack e f = ap (λ q. after_step step.JoinPair (before q (a ∷ stack))) f

load_some : (v : Value) → 0 < load v
load_some UnitValue = omega arith
load_some (Inl a) = omega arith
load_some (Inr a) = omega arith
load_some (Pair a b) = omega arith

pub unit_made : (steps : List Step) (stack : List Value) (v : Value) → Goes steps steps (Some (UnitValue ∷ stack)) (UnitValue ∷ stack) (2 * load v)
unit_made steps stack v = record { after = refl; less = let some = load_some v in omega arith }

module _ (old new : List Step) (stack : List Value) where
  pub left_planned : (u : Bor CoreValue) (k : Bor CoreType) → new ≡ old ++ step.TagLeft ∷ step.Shrink u k ∷ [] →
      Goes old new (before (tagged Inl (cut (value_of u.now) (kind_of k.now))) stack) stack (2 * (load (value_of u.now) + 1))
  left_planned u k is = record {
    after = ap (λ s. after_steps s (Some stack)) is ∙ after_steps-append old (step.TagLeft ∷ step.Shrink u k ∷ []) (Some stack)
        ∙ ap (after_steps old) (left_after (cut (value_of u.now) (kind_of k.now)) stack);
    less = let count = ap turns is ∙ turns-append old (step.TagLeft ∷ step.Shrink u k ∷ []) in omega arith;
  }

  pub right_planned : (u : Bor CoreValue) (k : Bor CoreType) → new ≡ old ++ step.TagRight ∷ step.Shrink u k ∷ [] →
      Goes old new (before (tagged Inr (cut (value_of u.now) (kind_of k.now))) stack) stack (2 * (load (value_of u.now) + 1))
  right_planned u k is = record {
    after = ap (λ s. after_steps s (Some stack)) is ∙ after_steps-append old (step.TagRight ∷ step.Shrink u k ∷ []) (Some stack)
        ∙ ap (after_steps old) (right_after (cut (value_of u.now) (kind_of k.now)) stack);
    less = let count = ap turns is ∙ turns-append old (step.TagRight ∷ step.Shrink u k ∷ []) in omega arith;
  }

  pub pair_planned : (u v : Bor CoreValue) (k m : Bor CoreType) → new ≡ old ++ step.JoinPair ∷ step.Shrink v m ∷ step.Shrink u k ∷ [] →
      Goes old new (before (joined (cut (value_of u.now) (kind_of k.now)) (cut (value_of v.now) (kind_of m.now))) stack) stack (2 * (2 * load (value_of u.now) + load (value_of v.now) + 1))
  pair_planned u v k m is = record {
    after = ap (λ s. after_steps s (Some stack)) is ∙ after_steps-append old (step.JoinPair ∷ step.Shrink v m ∷ step.Shrink u k ∷ []) (Some stack)
        ∙ ap (after_steps old) (pair_after u v k m (cut (value_of u.now) (kind_of k.now)) (cut (value_of v.now) (kind_of m.now)) stack refl refl);
    less = let count = ap turns is ∙ turns-append old (step.JoinPair ∷ step.Shrink v m ∷ step.Shrink u k ∷ []) in omega arith;
  }

-- where steps on give something, the step before them can be taken
none_after_step : (taken : Step) → after_step taken None ≡ None
none_after_step (step.Shrink v k) = refl
none_after_step step.TagLeft = refl
none_after_step step.TagRight = refl
none_after_step step.JoinPair = refl

none_after : (steps : List Step) → after_steps steps None ≡ None
none_after [] = refl
none_after (first ∷ steps) = ap (after_step first) (none_after steps) ∙ none_after_step first

some_before : (o : Option (List Value)) (steps : List Step) (end : List Value) → after_steps steps o ≡ Some end → IsSome o
some_before (Some stack) steps end e = refl
some_before None steps end e = let n = none_after steps in cc

pub can_take : (steps : List Step) (taken : Step) (stack : List Value) (end : List Value) → after_steps (steps ++ taken ∷ []) (Some stack) ≡ Some end →
    IsSome (after_step taken (Some stack))
can_take steps taken stack end e = some_before (after_step taken (Some stack)) steps end (sym (after_steps-append steps (taken ∷ []) (Some stack)) ∙ e)

-- the loop's invariant and its measure, a step on
module _ (old rest new : List Step) (taken : Step) (stack next : List Value) (is : old ≡ rest ++ taken ∷ []) (goes : Goes rest new (after_step taken (Some stack)) next (step_turns taken)) where
  pub after_one : (end : List Value) → after_steps old (Some stack) ≡ Some end → after_steps new (Some next) ≡ Some end
  after_one end e = goes.after ∙ sym (after_steps-append rest (taken ∷ []) (Some stack)) ∙ ap (λ s. after_steps s (Some stack)) (sym is) ∙ e

  pub less_after : turns new < turns old
  less_after = let count = ap turns is ∙ turns-append rest (taken ∷ []) in omega (arith, goes.less)
