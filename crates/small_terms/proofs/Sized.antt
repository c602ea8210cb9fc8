-- Plans whose parts have as many bytes as they are given, and what they give.
use Rattle.std.proofs.Common.{◌≡◌, ℕ, ◌-◌, ◌/◌, ◌<◌, List, length, refl}
use Rattle.simplicity.specs.Types.{Kind, Product, word_kind}
use Rattle.small_source.specs.Small.{SmallBody}
use Rattle.small_terms.specs.Plan.{Plan, Whole, First, Rest, Both, Picks, whole, first, rest, Makes, named, paired, count_of}
use Rattle.small_terms.specs.Tuples.{result_kind}
use Rattle.small_terms.proofs.Paths.{picks_count}

abbrev pub Fits : Plan → Type 0
Fits Whole = Unit {0}
Fits (First count part) = (1 < count) × (count_of part ≡ count / 2) × Fits part
Fits (Rest count part) = (1 < count) × (count_of part ≡ count - count / 2) × Fits part
Fits (Both count left right) = (count_of left ≡ count) × (count_of right ≡ count) × Fits left × Fits right

-- the type of what a plan gives
abbrev pub target_of : Plan → Kind
target_of Whole = word_kind 3
target_of (First count part) = target_of part
target_of (Rest count part) = target_of part
target_of (Both count left right) = Product (target_of left) (target_of right)

picks_fits : {count place : ℕ} {plan : Plan} → Picks count place plan → Fits plan
picks_fits (whole one at) = tt
picks_fits (first some less p) = (some, picks_count p, picks_fits p)
picks_fits (rest some past p) = (some, picks_count p, picks_fits p)

picks_target : {count place : ℕ} {plan : Plan} → Picks count place plan → target_of plan ≡ word_kind 3
picks_target (whole one at) = refl
picks_target (first some less p) = picks_target p
picks_target (rest some past p) = picks_target p

pub makes_count : {names : List (List ℕ)} {body : SmallBody} {plan : Plan} → Makes names body plan → count_of plan ≡ length names
makes_count (named f p) = picks_count p
makes_count (paired m n) = refl

pub makes_fits : {names : List (List ℕ)} {body : SmallBody} {plan : Plan} → Makes names body plan → Fits plan
makes_fits (named f p) = picks_fits p
makes_fits (paired m n) = (makes_count m, makes_count n, makes_fits m, makes_fits n)

pub makes_target : {names : List (List ℕ)} {body : SmallBody} {plan : Plan} → Makes names body plan → target_of plan ≡ result_kind body
makes_target (named f p) = picks_target p
makes_target (paired m n) = rw (makes_target m, makes_target n) refl
