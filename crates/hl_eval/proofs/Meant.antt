-- The meaning of a function by its place.
use Rattle.std.proofs.Common.{◌≡◌, ℕ, List, find, bytes_eq, Some, None, ap}
use Rattle.hl_data.specs.declared.typed.TypedFunction.{TypedFunction}
use Rattle.hl_data.specs.declared.value.HlValue.{HlValue}
use Rattle.hl_meaning.specs.Answer.{stuck, shaped}
use Rattle.hl_meaning.specs.Scopes.{Binding}
use Rattle.hl_meaning.specs.Mean.{Function, functions_of, parts_of, meaning}

module _ (fs : List TypedFunction) (name : List ℕ) (witness : List Binding) (argument : HlValue) where
  pub meaning_none : find (λ f. bytes_eq name f.name) (functions_of witness fs) ≡ None → meaning fs name witness argument ≡ stuck
  unfolding meaning
  meaning_none e = ap (λ o. shaped o (λ f. shaped (parts_of f.params argument) f.run)) e

  pub meaning_at : (g : Function) → find (λ f. bytes_eq name f.name) (functions_of witness fs) ≡ Some g → meaning fs name witness argument ≡ shaped (parts_of g.params argument) g.run
  unfolding meaning
  meaning_at g e = ap (λ o. shaped o (λ f. shaped (parts_of f.params argument) f.run)) e
