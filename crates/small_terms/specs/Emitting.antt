-- How the nodes of a plan come into a list: a node that stands there already is used again, another is added at the end.
use Rattle.std.specs.Prelude.{◌≡◌, ℕ, List, [], ◌∷◌, ◌++◌, length, slice_get, Some}
use Rattle.small_terms.specs.declared.entries.Entry.{Entry}
use Rattle.small_terms.specs.declared.entries.SmallNode.TheVariants as code
use Rattle.small_terms.specs.Plan.{Plan, Whole, First, Rest, Both}

-- an entry is at a place of the new list, which is the old one where it had the entry
pub data Adds : List Entry → Entry → List Entry → ℕ → Type 0 where
  found : {old new : List Entry} {entry : Entry} {at : ℕ} → slice_get old at ≡ Some entry → new ≡ old → Adds old entry new at
  added : {old new : List Entry} {entry : Entry} {at : ℕ} → ((i : ℕ) → ¬ (slice_get old i ≡ Some entry)) → at ≡ length old → new ≡ old ++ entry ∷ [] → Adds old entry new at

-- the plan's nodes are in the new list, its own at a place
pub data Emits : List Entry → Plan → List Entry → ℕ → Type 0 where
  whole : {old new : List Entry} {at : ℕ} → Adds old (record { node = code.Iden; count = 1 }) new at → Emits old Whole new at
  first : {old one new : List Entry} {count child at : ℕ} {part : Plan} → Emits old part one child → Adds one (record { node = code.Take child; count = count }) new at → Emits old (First count part) new at
  rest : {old one new : List Entry} {count child at : ℕ} {part : Plan} → Emits old part one child → Adds one (record { node = code.Drop child; count = count }) new at → Emits old (Rest count part) new at
  both : {old one two new : List Entry} {count left right at : ℕ} {l r : Plan} → Emits old l one left → Emits one r two right → Adds two (record { node = code.Pair left right; count = count }) new at → Emits old (Both count l r) new at
