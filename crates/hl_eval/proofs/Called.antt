-- Functions by their places.
use Rattle.std.proofs.Common.{◌≡◌, ℕ, zero, suc, ◌+◌, ◌<◌, ◌≤◌, cond, not, List, [], ◌∷◌, ◌++◌, length, take, get_or, find, position, bytes_eq, Some, None, refl, sym, ap, ◌∙◌, arith, append_assoc, append-nil}
use Rattle.std.specs.Prelude.{slice_get, nat_lt}
use Rattle.std.specs.List.{position_or_len}
use Rattle.std.proofs.lemmas.List.Folds.{find_at}
use Rattle.std.proofs.lemmas.Option.{slice_get_past, slice_get-get_or}
use Rattle.std.proofs.lemmas.Bool.Decides.{nat_tests}
use Rattle.hl_data.specs.declared.typed.TypedFunction.{TypedFunction}
use Rattle.hl_meaning.specs.Scopes.{Binding}
use Rattle.hl_meaning.specs.Mean.{Function, function_after, functions_after, functions_of}

module _ (witness : List Binding) where
  same_place : (name : List ℕ) (before : List Function) (fs : List TypedFunction) →
      position_or_len (λ g. bytes_eq name g.name) (functions_after witness before fs) ≡ position_or_len (λ f. bytes_eq name f.name) fs
  same_place name before [] = refl
  same_place name before (f ∷ fs) = ap (λ n. cond (not (bytes_eq name f.name)) (1 + n) 0) (same_place name (before ++ function_after witness before f ∷ []) fs)

  same_length : (before : List Function) (fs : List TypedFunction) → length (functions_after witness before fs) ≡ length fs
  same_length before [] = refl
  same_length before (f ∷ fs) = ap suc (same_length (before ++ function_after witness before f ∷ []) fs)

  at_after : (before : List Function) (fs : List TypedFunction) (p : ℕ) (f : TypedFunction) → slice_get fs p ≡ Some f →
      slice_get (functions_after witness before fs) p ≡ Some (function_after witness (before ++ functions_after witness before (take p fs)) f)
  at_after before [] p f e = cc
  at_after before (g ∷ fs) zero f e =
      let same : g ≡ f = cc in ap (λ h. Some (function_after witness before h)) same ∙ ap (λ b. Some (function_after witness b f)) (sym (append-nil before))
  at_after before (g ∷ fs) (suc p) f e =
      let first = function_after witness before g in
      at_after (before ++ first ∷ []) fs p f e
      ∙ ap (λ b. Some (function_after witness b f)) (append_assoc before (first ∷ []) (functions_after witness (before ++ first ∷ []) (take p fs)))

  -- the function at a place sees those before it
  pub function_at : (fs : List TypedFunction) (p : ℕ) (f : TypedFunction) → slice_get fs p ≡ Some f → slice_get (functions_of witness fs) p ≡ Some (function_after witness (functions_of witness (take p fs)) f)
  unfolding functions_of
  function_at fs p f e = at_after [] fs p f e

  placed : (n len p : ℕ) → cond (nat_lt n len) (Some n) None ≡ Some p → n ≡ p
  placed n len p e = grind (arith, nat_tests)

  -- the function that a name means, by its place
  pub function_found : (name : List ℕ) (fs : List TypedFunction) (p : ℕ) → Some p ≡ position (λ f. bytes_eq name f.name) fs → find (λ g. bytes_eq name g.name) (functions_of witness fs) ≡ slice_get (functions_of witness fs) p
  unfolding functions_of
  function_found name fs p e =
      find_at (λ g. bytes_eq name g.name) (functions_after witness [] fs)
      ∙ ap (slice_get (functions_after witness [] fs)) (same_place name [] fs ∙ placed (position_or_len (λ f. bytes_eq name f.name) fs) (length fs) p (sym e))

  -- the function at a place, where there are so many
  pub some_at : (fs : List TypedFunction) (p : ℕ) → p < length fs → (f : TypedFunction) × (slice_get fs p ≡ Some f)
  some_at [] p h = absurd (omega arith)
  some_at (f ∷ fs) zero h = (f, refl)
  some_at (f ∷ fs) (suc p) h = some_at fs p (omega arith)

  pub found : (name : List ℕ) (fs : List TypedFunction) (p : ℕ) → p < length fs → Some p ≡ position (λ f. bytes_eq name f.name) fs →
      (g : Function) × (slice_get (functions_of witness fs) p ≡ Some g) × (find (λ g. bytes_eq name g.name) (functions_of witness fs) ≡ Some g)
  found name fs p h e =
      let f = some_at fs p h in let at = function_at fs p f.0 f.1 in
      (function_after witness (functions_of witness (take p fs)) f.0, at, function_found name fs p e ∙ at)

  past : (n len : ℕ) → cond (nat_lt n len) (Some n) None ≡ None → len ≤ n
  past n len e = grind (arith, nat_tests)

  pub function_missing : (name : List ℕ) (fs : List TypedFunction) → None ≡ position (λ f. bytes_eq name f.name) fs → find (λ g. bytes_eq name g.name) (functions_of witness fs) ≡ None
  unfolding functions_of
  function_missing name fs e =
      let far : length fs ≤ position_or_len (λ f. bytes_eq name f.name) fs = past _ (length fs) (sym e) in
      find_at (λ g. bytes_eq name g.name) (functions_after witness [] fs)
      ∙ slice_get_past (functions_after witness [] fs) (position_or_len (λ g. bytes_eq name g.name) (functions_after witness [] fs)) (let a = same_place name [] fs in let b = same_length [] fs in omega arith)

  -- what the function at a place is
  pub at_place : (fs : List TypedFunction) (p : ℕ) (d : TypedFunction) (g : Function) → p < length fs → slice_get (functions_of witness fs) p ≡ Some g →
      g ≡ function_after witness (functions_of witness (take p fs)) (get_or fs p d)
  at_place fs p d g h e = let there = function_at fs p (get_or fs p d) (slice_get-get_or fs p d h) in cc
