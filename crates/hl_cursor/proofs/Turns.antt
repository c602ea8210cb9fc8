-- One turn of a loop.
use Rattle.std.proofs.Common.{◌≡◌, ℕ, suc, ◌+◌, ◌-◌, ◌<◌, ◌≤◌, refl, ap, ◌∙◌, arith}
use Rattle.hl_syntax.specs.declared.token.Token.{Token}
use Rattle.std.proofs.Common.{List}
use Rattle.hl_grammar.specs.Readers.{Outcome, Reader, turns, dead}

pub turn : {X A : Type 0} (read : (X → Reader A) → X → Reader A) (n k : ℕ) (found : X) → k < suc n → turns read (suc n - k) found ≡ read (turns read (suc n - (k + 1))) found
unfolding turns
turn read n k found below = let e : suc n - k ≡ suc (suc n - (k + 1)) = omega arith in rw e refl

pub over : {X A : Type 0} (read : (X → Reader A) → X → Reader A) (n k : ℕ) (found : X) (ts : List Token) → suc n ≤ k → turns read (suc n - k) found ts ≡ dead ts
unfolding turns
over read n k found ts done = let e : suc n - k ≡ 0 = omega arith in rw e refl

-- what is read in the turns that are left, by the next of them
pub next_turn : {X A : Type 0} (read : (X → Reader A) → X → Reader A) (n k : ℕ) (found : X) (ts : List Token) (outcome : Outcome A) → outcome ≡ turns read (suc n - k) found ts → k < suc n → outcome ≡ read (turns read (suc n - (k + 1))) found ts
next_turn {A} read n k found ts outcome is below = is ∙ ap (λ (reader : Reader A). reader ts) (turn read n k found below)
