-- Meanings among the functions and witnesses that an evaluator has.
use Rattle.std.specs.Prelude.{ℕ, ◌≡◌, ◌<◌, List, length, Some, slice_get}
use Rattle.hl_data.specs.declared.typed.TypedExpr.{TypedExpr}
use Rattle.hl_data.specs.declared.value.HlValue.{HlValue}
use Rattle.hl_data.specs.declared.value.HlValue.TheVariants as value
use Rattle.hl_meaning.specs.Answer.{Answer, gives}
use Rattle.hl_meaning.specs.Jets.{jet_answer}
use Rattle.hl_meaning.specs.Scopes.{Binding}
use Rattle.hl_meaning.specs.Mean.{Function, Meaning, functions_of, function_of, call_of, mean}
use Rattle.hl_eval.specs.Bindings.{bindings_of}
use Rattle.hl_eval.specs.declared.evaluator.Evaluator.{Evaluator}
use Rattle.hl_eval.specs.declared.uses.Gathering.{Gathering}
use Rattle.hl_eval.specs.declared.uses.Gathering.TheVariants as how

abbrev pub witness_in : Evaluator → List Binding
witness_in s = bindings_of s.witness.now

abbrev pub functions_in : Evaluator → List Function
functions_in s = functions_of (witness_in s) s.functions.now

abbrev pub mean_in : Evaluator → TypedExpr → Meaning
mean_in s e = mean (functions_in s) (witness_in s) e

-- what holds of the function at a place
abbrev pub ForFunction : Evaluator → ℕ → (Function → Type 0) → Type 0
ForFunction s place claim = (f : Function) → slice_get (functions_in s) place ≡ Some f → claim f

-- the place of the function that a name means
pub record IsPlaceOf (s : Evaluator) (name : List ℕ) (place : ℕ) : Type 0 where
  pub within : place < length s.functions.now
  pub function : Function
  pub there : slice_get (functions_in s) place ≡ Some function
  pub means : function_of (functions_in s) (witness_in s) name ≡ Some function

-- what comes of the values of the parts
abbrev pub gathered_of : Evaluator → Gathering → List HlValue → Answer HlValue
gathered_of s how.Tuple vs = gives (value.Tuple vs)
gathered_of s how.Array vs = gives (value.Array vs)
gathered_of s how.List vs = gives (value.List vs)
gathered_of s (how.Jet name) vs = jet_answer name.now vs
gathered_of s (how.Call name) vs = call_of (functions_in s) (witness_in s) name.now vs
