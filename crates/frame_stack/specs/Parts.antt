-- Parts of a list, and the one change of the cells: some of them replaced by others.
use Rattle.std.specs.Prelude.{ℕ, ◌+◌, List, ◌++◌, length, take, drop}

-- so many items from a place on
abbrev pub part : {A : Type 0} → ℕ → ℕ → List A → List A
part at n xs = take n (drop at xs)

-- the list with these items from a place on
abbrev pub paste : {A : Type 0} → ℕ → List A → List A → List A
paste at new xs = take at xs ++ (new ++ drop (at + length new) xs)
