-- What steps that are left make of the trees that are made.
use Rattle.std.specs.Prelude.{ℕ, ◌+◌, ◌*◌, List, [], ◌∷◌, reverse, map, slice_get, Option, Some, None}
use Rattle.core_data.specs.declared.data.CoreType.{CoreType}
use Rattle.core_data.specs.Data.{kind_of}
use Rattle.simplicity.specs.Types.{Kind, Sum, Product, weight}
use Rattle.type_table.specs.Kinds.{kind_at}
use Rattle.type_table.specs.declared.tree.Step.{Step}
use Rattle.type_table.specs.declared.tree.Step.TheVariants.{Make, JoinSum, JoinProduct}

-- the types of trees, the last one first
abbrev pub stack_of : List CoreType → List Kind
stack_of trees = reverse (map kind_of trees)

-- a type before others, where it is there
abbrev pub before : Option Kind → List Kind → Option (List Kind)
before (Some kind) stack = Some (kind ∷ stack)
before None stack = None

-- what a step makes of a stack; none where it can't be taken
abbrev pub after_step : List Kind → Step → Option (List Kind) → Option (List Kind)
after_step kinds (Make id) (Some stack) = before (slice_get kinds id) stack
after_step kinds JoinSum (Some (right ∷ left ∷ stack)) = Some (Sum left right ∷ stack)
after_step kinds JoinProduct (Some (right ∷ left ∷ stack)) = Some (Product left right ∷ stack)
after_step kinds _ _ = None

-- what steps make of a stack, the last one first
abbrev pub after_steps : List Kind → List Step → Option (List Kind) → Option (List Kind)
after_steps kinds [] stack = stack
after_steps kinds (step ∷ steps) stack = after_step kinds step (after_steps kinds steps stack)

-- how many turns a step is worth, and steps are
abbrev pub step_load : List Kind → Step → ℕ
step_load kinds (Make id) = 2 * weight (kind_at kinds id)
step_load kinds JoinSum = 1
step_load kinds JoinProduct = 1

abbrev pub load : List Kind → List Step → ℕ
load kinds [] = 0
load kinds (step ∷ steps) = step_load kinds step + load kinds steps
