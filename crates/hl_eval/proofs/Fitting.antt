-- Calls that fit a checked program.
use Rattle.std.proofs.Common.{◌≡◌, ℕ, List, Some, sym, ◌∙◌, subst}
use Rattle.hl_data.specs.declared.typed.TypedFunction.{TypedFunction}
use Rattle.hl_data.specs.declared.value.HlValue.{HlValue}
use Rattle.hl_meaning.specs.Answer.{gives, stuck}
use Rattle.hl_meaning.specs.Mean.{meaning}
use Rattle.hl_meaning.specs.Scopes.{Binding}
use Rattle.hl_rules.specs.Programs.{Checked}
use Rattle.hl_progress.proofs.Programs.{checked_answers}
use Rattle.hl_progress.specs.Calls.{FitsCall}
use Rattle.hl_meaning.specs.Entries.{IsValueOf}
use Rattle.hl_progress.specs.Held.{HasAnswer}
use Rattle.hl_typed.specs.Typed.{BreaksNothing}
use Rattle.hl_eval.specs.Evaluated.{IsResultOf}

module _ (program : Checked) (functions : List TypedFunction) (name : List ℕ) (argument : HlValue) (witness : List Binding) (are : functions ≡ program.functions) (b : BreaksNothing program) (call : FitsCall program name argument witness) where
  has_answer : HasAnswer call.function.result (meaning functions name witness argument)
  has_answer = subst (λ fs. HasAnswer call.function.result (meaning fs name witness argument)) (sym are) (checked_answers b.program b.asked b.entries program.edition b.end program b.is b.valued name argument witness call)

  pub never_stuck : meaning functions name witness argument ≡ stuck → ⊥
  never_stuck is = subst (HasAnswer call.function.result) is has_answer

  pub of_result : (v : HlValue) → meaning functions name witness argument ≡ gives v → IsResultOf program name v
  of_result v is f there =
      let fits : IsValueOf v call.function.result = subst (HasAnswer call.function.result) is has_answer in
      let some : Some call.function ≡ Some f = sym call.there ∙ there in
      let same : call.function ≡ f = cc in
      subst (λ (g : TypedFunction). IsValueOf v g.result) same fits
