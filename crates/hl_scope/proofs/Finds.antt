-- What holds of each holds of the first that is found.
use Rattle.std.proofs.Common.{suc, ◌<◌, Bool, true, false, cond, List, [], ◌∷◌, length, find, arith, Some, IfSome}
use Rattle.std.specs.List.{All}

pub found_holds : {A : Type 0} (P : A → Type 0) (p : A → Bool) (xs : List A) → All P xs → IfSome (find p xs) P
found_holds P p [] h = tt
found_holds P p (x ∷ xs) h =
    let first : 0 < suc (length xs) = omega arith in
    elim (p x) as (λ b. IfSome (cond b (Some x) (find p xs)) P) [
      | true ↦ h 0 x first
      | false ↦ found_holds P p xs (λ k d less. h (suc k) d (omega arith))
    ]
