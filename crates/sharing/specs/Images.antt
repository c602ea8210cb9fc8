-- The images of a list of indices, each once, in the order in which they first come (this project's own).
use Rattle.std.specs.Prelude.{ℕ, List, [], ◌∷◌}
use Rattle.simplicity.specs.Order.{has, unless_ended}

-- the list with the number at its end, unless it is there
abbrev pub added : ℕ → List ℕ → List ℕ
added j acc = unless_ended (has j acc) j (λ d. d) acc

abbrev pub into : (ℕ → ℕ) → List ℕ → List ℕ → List ℕ
into f acc [] = acc
into f acc (i ∷ is) = into f (added (f i) acc) is

abbrev pub images : (ℕ → ℕ) → List ℕ → List ℕ
images f is = into f [] is
