-- Tuples by halves: none of them is the empty tuple, one is itself, more are the first half, rounded down, beside the rest.
-- The division is this project's own.
use Rattle.std.specs.Prelude.{ℕ, zero, suc, ◌/◌, List, [], ◌∷◌, length, take, drop, replicate}
use Rattle.simplicity.specs.Types.{Kind, One, Product, Value, UnitValue, Pair}

-- what joins a list by halves; so many turns are enough as the list is long
abbrev pub halves : {A : Type 0} → ℕ → A → (A → A → A) → List A → A
halves turns empty join [] = empty
halves turns empty join (x ∷ []) = x
halves zero empty join (x ∷ y ∷ more) = empty
halves (suc turns) empty join (x ∷ y ∷ more) =
    join (halves turns empty join (take (length (x ∷ y ∷ more) / 2) (x ∷ y ∷ more))) (halves turns empty join (drop (length (x ∷ y ∷ more) / 2) (x ∷ y ∷ more)))

-- a tuple of values, and its type
abbrev pub tuple_value : List Value → Value
tuple_value vs = halves (length vs) UnitValue Pair vs

abbrev pub tuple_kind : List Kind → Kind
tuple_kind ks = halves (length ks) One Product ks

-- the type of so many values of one type
abbrev pub copies_kind : ℕ → Kind → Kind
copies_kind count k = tuple_kind (replicate count k)
