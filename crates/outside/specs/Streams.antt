-- What a reader that tells what it has left, and a writer that tells what it took, lose and gain.
use Rattle.std.specs.Prelude.{◌≡◌, ℕ, ◌<◌, List, ◌++◌, length, Option, Some, None, IfSome, IsSomeAnd}
use Rattle.std.specs.Io.KnownBytes.{Appends}

-- where the bytes that were left are told, these are all of them
abbrev pub IsAllOf : Option (List ℕ) → List ℕ → Type 0
IsAllOf told bytes = IfSome told (λ left. bytes ≡ left)

-- where the bytes that were left are told, they are more than the limit
abbrev pub IsMoreThan : ℕ → Option (List ℕ) → Type 0
IsMoreThan limit told = IfSome told (λ left. limit < length left)

-- where the bytes of a file are told, a reader of it tells that it has them left
abbrev pub HasLeft : Option (List ℕ) → Option (List ℕ) → Type 0
HasLeft told left = IfSome told (λ bytes. left ≡ Some bytes)

-- what was read and what is left are what they were together; nothing is said where what was left isn't told
abbrev pub KeepsWhole : Option (List ℕ) → Option (List ℕ) → List ℕ → List ℕ → Type 0
KeepsWhole None left read_before read = Unit {0}
KeepsWhole (Some left_before) left read_before read = IsSomeAnd left (λ rest. read ++ rest ≡ read_before ++ left_before)

-- bytes moved from the front of what a reader has left to the end of what was read of it
abbrev pub Moves : {F : Type 0} → (F → Option (List ℕ)) → F → F → List ℕ → List ℕ → Type 0
Moves remaining before after read_before read = KeepsWhole (remaining before) (remaining after) read_before read

-- some first bytes of the piece were written, and these are the rest of it
pub record Went (old new : Option (List ℕ)) (piece rest : List ℕ) : Type 0 where
  pub done : List ℕ
  pub appended : Appends old new done
  pub whole : done ++ rest ≡ piece

-- some first bytes of the piece were written
abbrev pub AppendsFront : Option (List ℕ) → Option (List ℕ) → List ℕ → Type 0
AppendsFront old new piece = (rest : List ℕ) × Went old new piece rest

-- a writer took the whole piece
abbrev pub Takes : {W : Type 0} → (W → Option (List ℕ)) → W → W → List ℕ → Type 0
Takes contents before after piece = Appends (contents before) (contents after) piece

-- a writer took some first bytes of the piece
abbrev pub TakesFront : {W : Type 0} → (W → Option (List ℕ)) → W → W → List ℕ → Type 0
TakesFront contents before after piece = AppendsFront (contents before) (contents after) piece
