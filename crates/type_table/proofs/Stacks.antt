-- Steps at the end, and trees at the end.
use Rattle.std.proofs.Common.{◌≡◌, ℕ, ◌+◌, ◌*◌, ◌<◌, List, [], ◌∷◌, ◌++◌, length, refl, ap, sym, ◌∙◌, arith, Option, Some, None, reverse, map}
use Rattle.std.proofs.lemmas.List.{reverse-append, map-append}
use Rattle.core_data.specs.declared.data.CoreType.{CoreType}
use Rattle.core_data.specs.Data.{kind_of}
use Rattle.simplicity.specs.Types.{Kind, One, weight}
use Rattle.std.specs.Prelude.{IsSome}
use Rattle.type_table.specs.Kinds.{kind_at, HasShape}
use Rattle.type_table.specs.declared.shape.Shape.TheVariants as shape
use Rattle.std.proofs.lemmas.Option.{slice_get-get_or}
use Rattle.type_table.specs.declared.tree.Step.{Step}
use Rattle.type_table.specs.declared.tree.Step.TheVariants.{Make, JoinSum, JoinProduct}
use Rattle.type_table.specs.Steps.{stack_of, after_step, after_steps, before, step_load, load}

pub stack_of-push : (trees : List CoreType) (tree : CoreType) → stack_of (trees ++ tree ∷ []) ≡ kind_of tree ∷ stack_of trees
stack_of-push trees tree = ap reverse (map-append kind_of trees (tree ∷ [])) ∙ reverse-append (map kind_of trees) (kind_of tree ∷ [])

pub after_steps-push : (kinds : List Kind) (steps : List Step) (step : Step) (stack : Option (List Kind)) →
    after_steps kinds (steps ++ step ∷ []) stack ≡ after_steps kinds steps (after_step kinds step stack)
after_steps-push kinds [] step stack = refl
after_steps-push kinds (first ∷ steps) step stack = ap (after_step kinds first) (after_steps-push kinds steps step stack)

pub load-push : (kinds : List Kind) (steps : List Step) (step : Step) → load kinds (steps ++ step ∷ []) ≡ step_load kinds step + load kinds steps
load-push kinds [] step = refl
load-push kinds (first ∷ steps) step = omega (arith, load-push kinds steps step)

none_after_step : (kinds : List Kind) (step : Step) → after_step kinds step None ≡ None
none_after_step kinds (Make id) = refl
none_after_step kinds JoinSum = refl
none_after_step kinds JoinProduct = refl

pub none_after : (kinds : List Kind) (steps : List Step) → after_steps kinds steps None ≡ None
none_after kinds [] = refl
none_after kinds (step ∷ steps) = ap (after_step kinds step) (none_after kinds steps) ∙ none_after_step kinds step

-- a step that makes a tree, taken
pub made : (kinds : List Kind) (id : ℕ) (stack : List Kind) → id < length kinds → after_step kinds (Make id) (Some stack) ≡ Some (kind_at kinds id ∷ stack)
made kinds id stack h = ap (λ kind. before kind stack) (slice_get-get_or kinds id One h)

planned : (kinds : List Kind) (steps : List Step) (join : Step) (left right : ℕ) (stack : List Kind) → left < length kinds → right < length kinds →
    after_steps kinds (steps ++ join ∷ Make right ∷ Make left ∷ []) (Some stack) ≡ after_steps kinds steps (after_step kinds join (Some (kind_at kinds right ∷ kind_at kinds left ∷ stack)))
planned kinds [] join left right stack h g =
    ap (λ s. after_step kinds join (after_step kinds (Make right) s)) (made kinds left stack h) ∙ ap (after_step kinds join) (made kinds right (kind_at kinds left ∷ stack) g)
planned kinds (first ∷ steps) join left right stack h g = ap (after_step kinds first) (planned kinds steps join left right stack h g)

planned_load : (kinds : List Kind) (steps : List Step) (join : Step) (left right : ℕ) →
    load kinds (steps ++ join ∷ Make right ∷ Make left ∷ []) ≡ step_load kinds join + 2 * weight (kind_at kinds right) + 2 * weight (kind_at kinds left) + load kinds steps
planned_load kinds [] join left right = omega arith
planned_load kinds (first ∷ steps) join left right = omega (arith, planned_load kinds steps join left right)

module _ (kinds : List Kind) (steps : List Step) (id : ℕ) (within : id < length kinds) (stack : List Kind) where
  pub one_made : HasShape kinds id shape.One → after_steps kinds steps (Some (One ∷ stack)) ≡ after_steps kinds steps (Some (kind_at kinds id ∷ stack))
  one_made is = ap (λ k. after_steps kinds steps (Some (k ∷ stack))) (sym is.is)

  pub sum_planned : (left right : ℕ) → HasShape kinds id (shape.Sum left right) → (new : List Step) → new ≡ steps ++ JoinSum ∷ Make right ∷ Make left ∷ [] →
      (after_steps kinds new (Some stack) ≡ after_steps kinds steps (Some (kind_at kinds id ∷ stack))) × (load kinds new < 2 * weight (kind_at kinds id) + load kinds steps)
  sum_planned left right is new e =
      let l : left < length kinds = omega (arith, is.parts) in let r : right < length kinds = omega (arith, is.parts) in
      let heavy = ap weight is.is in let more = ap (load kinds) e ∙ planned_load kinds steps JoinSum left right in
      (ap (λ s. after_steps kinds s (Some stack)) e ∙ planned kinds steps JoinSum left right stack l r ∙ ap (λ k. after_steps kinds steps (Some (k ∷ stack))) (sym is.is), omega arith)

  pub product_planned : (left right : ℕ) → HasShape kinds id (shape.Product left right) → (new : List Step) → new ≡ steps ++ JoinProduct ∷ Make right ∷ Make left ∷ [] →
      (after_steps kinds new (Some stack) ≡ after_steps kinds steps (Some (kind_at kinds id ∷ stack))) × (load kinds new < 2 * weight (kind_at kinds id) + load kinds steps)
  product_planned left right is new e =
      let l : left < length kinds = omega (arith, is.parts) in let r : right < length kinds = omega (arith, is.parts) in
      let heavy = ap weight is.is in let more = ap (load kinds) e ∙ planned_load kinds steps JoinProduct left right in
      (ap (λ s. after_steps kinds s (Some stack)) e ∙ planned kinds steps JoinProduct left right stack l r ∙ ap (λ k. after_steps kinds steps (Some (k ∷ stack))) (sym is.is), omega arith)

-- where steps on give something, the step before them can be taken
some_before : (o : Option (List Kind)) (kinds : List Kind) (steps : List Step) (end : List Kind) → after_steps kinds steps o ≡ Some end → IsSome o
some_before (Some stack) kinds steps end e = refl
some_before None kinds steps end e = let n = none_after kinds steps in cc

pub can_take : (kinds : List Kind) (steps : List Step) (step : Step) (stack : List Kind) (end : List Kind) →
    after_steps kinds (steps ++ step ∷ []) (Some stack) ≡ Some end → IsSome (after_step kinds step (Some stack))
can_take kinds steps step stack end e = some_before (after_step kinds step (Some stack)) kinds steps end (sym (after_steps-push kinds steps step (Some stack)) ∙ e)

-- the loop's invariant and its measure, a step on
pub after_one : (kinds : List Kind) (old rest new : List Step) (step : Step) (stack next : List Kind) (end : List Kind) → old ≡ rest ++ step ∷ [] →
    after_steps kinds old (Some stack) ≡ Some end → after_steps kinds new (Some next) ≡ after_steps kinds rest (after_step kinds step (Some stack)) → after_steps kinds new (Some next) ≡ Some end
after_one kinds old rest new step stack next end is e f = f ∙ sym (after_steps-push kinds rest step (Some stack)) ∙ ap (λ s. after_steps kinds s (Some stack)) (sym is) ∙ e

pub less_after : (kinds : List Kind) (old rest new : List Step) (step : Step) → old ≡ rest ++ step ∷ [] → load kinds new < step_load kinds step + load kinds rest → load kinds new < load kinds old
less_after kinds old rest new step is h = rw (is, load-push kinds rest step) h
