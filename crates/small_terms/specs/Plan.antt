-- Terms that pick and pair the parts of a tuple of bytes, each part with the number of bytes that it is given.
use Rattle.std.specs.Prelude.{◌≡◌, ℕ, ◌-◌, ◌/◌, ◌<◌, ◌≤◌, List, length, slice_get, Some}
use Rattle.small_source.specs.Small.{SmallBody, Named, Paired}
use Rattle.simplicity.specs.Terms as term
use Rattle.simplicity.specs.Terms.{Term}

-- the whole of one byte; a part of the first half, or of the rest, of so many; a pair of parts of so many
pub data Plan : Type 0 where
  Whole : Plan
  First : (count : ℕ) (part : Plan) → Plan
  Rest : (count : ℕ) (part : Plan) → Plan
  Both : (count : ℕ) (left right : Plan) → Plan

-- how many bytes it is given
abbrev pub count_of : Plan → ℕ
count_of Whole = 1
count_of (First count part) = count
count_of (Rest count part) = count
count_of (Both count left right) = count

abbrev pub term_of : Plan → Term
term_of Whole = term.Iden
term_of (First count part) = term.Take (term_of part)
term_of (Rest count part) = term.Drop (term_of part)
term_of (Both count left right) = term.PairTerm (term_of left) (term_of right)

-- the plan picks the byte at a place among so many
pub data Picks : ℕ → ℕ → Plan → Type 0 where
  whole : {count place : ℕ} → count ≡ 1 → place ≡ 0 → Picks count place Whole
  first : {count place : ℕ} {part : Plan} → 1 < count → place < count / 2 → Picks (count / 2) place part → Picks count place (First count part)
  rest : {count place : ℕ} {part : Plan} → 1 < count → count / 2 ≤ place → Picks (count - count / 2) (place - count / 2) part → Picks count place (Rest count part)

-- a name stands at a place, and not before it
pub record IsFirst (names : List (List ℕ)) (name : List ℕ) (place : ℕ) : Type 0 where
  pub there : slice_get names place ≡ Some name
  pub before : (i : ℕ) → i < place → ¬ (slice_get names i ≡ Some name)

-- the plan picks and pairs the parameters as a body names them
pub data Makes : List (List ℕ) → SmallBody → Plan → Type 0 where
  named : {parameters : List (List ℕ)} {name : List ℕ} {start place : ℕ} {plan : Plan} → IsFirst parameters name place → Picks (length parameters) place plan → Makes parameters (Named name start) plan
  paired : {parameters : List (List ℕ)} {a b : SmallBody} {left right : Plan} → Makes parameters a left → Makes parameters b right → Makes parameters (Paired a b) (Both (length parameters) left right)
