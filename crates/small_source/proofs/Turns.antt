-- One turn of the loop over the parameters.
use Rattle.std.proofs.Common.{◌≡◌, ℕ, suc, ◌+◌, ◌-◌, ◌<◌, cond, List, [], ◌∷◌, ◌++◌, Some, refl, arith}
use Rattle.small_source.specs.Tokens.{Placed}
use Rattle.small_source.specs.Read.{◌>>=◌, parameter_read, goes_on_read, parameters_read}

pub parameters_turn : (k : ℕ) (before : List (List ℕ)) (ps : List Placed) → k < 8 → parameters_read (8 - k) before ps ≡ (parameter_read before ps >>= (λ name. goes_on_read name.1 >>= (λ next. cond next.0 (parameters_read (8 - (k + 1)) (before ++ name.0 ∷ []) next.1) (Some (before ++ name.0 ∷ [], next.1)))))
unfolding parameters_read
parameters_turn k before ps h =
    let e : 8 - k ≡ suc (8 - (k + 1)) = omega arith in rw e refl
