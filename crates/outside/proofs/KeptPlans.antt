-- A plan that is added counts where its call had none.
use Rattle.std.proofs.Common.{◌≡◌, ◌≢◌, ℕ, [], ◌∷◌, ◌++◌, List, Some, arith}
use Rattle.std.specs.Option.{option_or}
use Rattle.std.proofs.lemmas.Bool.Decides.{nat_tests}
use Rattle.outside.specs.declared.memory_sink.PlannedFault.{PlannedFault}
use Rattle.outside.specs.Plans.{kept_in, AddsPlan}

kept_in-push : (plans : List PlannedFault) (plan : PlannedFault) → kept_in (plans ++ plan ∷ []) plan.call ≡ option_or (kept_in plans plan.call) (Some plan.kept)
kept_in-push [] plan = grind (arith, nat_tests)
kept_in-push (p ∷ plans) plan = grind (arith, nat_tests, kept_in-push plans plan)

kept_in-push_other : (plans : List PlannedFault) (plan : PlannedFault) (call : ℕ) → call ≢ plan.call → kept_in (plans ++ plan ∷ []) call ≡ kept_in plans call
kept_in-push_other [] plan call apart = grind (arith, nat_tests)
kept_in-push_other (p ∷ plans) plan call apart = grind (arith, nat_tests, kept_in-push_other plans plan call apart)

pub AddsPlan-push : (plans : List PlannedFault) (plan : PlannedFault) → AddsPlan (kept_in plans) (kept_in (plans ++ plan ∷ [])) plan.call plan.kept
AddsPlan-push plans plan = record { added = kept_in-push plans plan; others = kept_in-push_other plans plan }
