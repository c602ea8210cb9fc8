-- A body that knows its names has a plan, which gives what the body names and is small.
use Rattle.std.proofs.Common.{◌≡◌, ℕ, zero, suc, ◌+◌, ◌*◌, ◌^◌, ◌<◌, ◌≤◌, max, Bool, true, false, ◌||◌, List, [], ◌∷◌, length, map, slice_get, Option, Some, None, refl, ap, ◌∙◌, arith, bytes_eq, if◌then◌else◌, pow-suc}
use Rattle.std.proofs.lemmas.Slice.Eq.{bytes_eq-Decides}
use Rattle.std.proofs.Math.Nat.{pow-le-pow_right}
use Rattle.simplicity.specs.Types.{word_value}
use Rattle.simplicity.specs.Terms.{meaning}
use Rattle.small_source.specs.Names.{is_among}
use Rattle.small_source.specs.Small.{SmallBody, Named, Paired, nesting}
use Rattle.small_terms.specs.Plan.{Plan, Whole, First, Rest, Both, Picks, whole, first, rest, Makes, named, paired, IsFirst, term_of}
use Rattle.small_terms.specs.Result.{Span, byte_named, result_value, unless_known, or_else, first_unknown}
use Rattle.small_terms.specs.Tuples.{bytes_value}
use Rattle.small_terms.proofs.Lists.{get_within}
use Rattle.small_terms.proofs.Paths.{picks, picked}

-- a name that is among the names has a first place
first_place_next : (n : List ℕ) (names : List (List ℕ)) (name : List ℕ) (b : Bool) → bytes_eq n name ≡ b → (b || is_among names name) ≡ true → (is_among names name ≡ true → (place : ℕ) × IsFirst names name place) → (place : ℕ) × IsFirst (n ∷ names) name place
first_place_next n names name true test there later =
    (0, record { there = ap Some ((bytes_eq-Decides n name).0 test); before = λ i less. absurd (omega arith) })
first_place_next n names name false test there later =
    let p : (place : ℕ) × IsFirst names name place = later there in
    (suc p.0, record { there = p.1.there; before = before p.0 p.1 })
  where
    before : (place : ℕ) → IsFirst names name place → (i : ℕ) → i < suc place → ¬ (slice_get (n ∷ names) i ≡ Some name)
    before place f zero less here =
        let e : n ≡ name = cc in
        let yes : bytes_eq n name ≡ true = (bytes_eq-Decides n name).1 e in
        cc
    before place f (suc i) less here = f.before i (omega arith) here

first_place : (names : List (List ℕ)) (name : List ℕ) → is_among names name ≡ true → (place : ℕ) × IsFirst names name place
first_place [] name there = cc
first_place (n ∷ names) name there = first_place_next n names name (bytes_eq n name) refl there (first_place names name)

known_among : (b : Bool) (span : Span) → unless_known b span ≡ None → b ≡ true
known_among true span known = refl
known_among false span known = cc

both_known : (a b : Option Span) → or_else a b ≡ None → (a ≡ None) × (b ≡ None)
both_known (Some x) b known = cc
both_known None b known = (refl, known)

pub planned : (names : List (List ℕ)) (body : SmallBody) → first_unknown names body ≡ None → (plan : Plan) × Makes names body plan
planned names (Named name start) known =
    let f : (place : ℕ) × IsFirst names name place = first_place names name (known_among (is_among names name) (start, length name) known) in
    let p : (plan : Plan) × Picks (length names) f.0 plan = picks (length names) f.0 (get_within names f.0 name f.1.there) in
    (p.0, named f.1 p.1)
planned names (Paired a b) known =
    let k : (first_unknown names a ≡ None) × (first_unknown names b ≡ None) = both_known (first_unknown names a) (first_unknown names b) known in
    let p : (plan : Plan) × Makes names a plan = planned names a k.0 in
    let q : (plan : Plan) × Makes names b plan = planned names b k.1 in
    (Both (length names) p.0 q.0, paired p.1 q.1)

-- the byte at a name's first place
first_byte : (names : List (List ℕ)) (bytes : List ℕ) (name : List ℕ) (place : ℕ) → length bytes ≡ length names → slice_get names place ≡ Some name → ((i : ℕ) → i < place → ¬ (slice_get names i ≡ Some name)) → slice_get bytes place ≡ Some (byte_named names bytes name)
first_byte [] bytes name place same there before = cc
first_byte (n ∷ names) [] name place same there before = absurd (omega arith)
first_byte (n ∷ names) (b ∷ bytes) name zero same there before =
    let yes : bytes_eq n name ≡ true = (bytes_eq-Decides n name).1 cc in
    rw yes refl
first_byte (n ∷ names) (b ∷ bytes) name (suc place) same there before =
    other (bytes_eq n name) refl (first_byte names bytes name place (omega arith) there (λ i less. before (suc i) (omega arith)))
  where
    other : (c : Bool) → bytes_eq n name ≡ c → slice_get bytes place ≡ Some (byte_named names bytes name) → slice_get bytes place ≡ Some (if c then b else byte_named names bytes name)
    other true test later = absurd (before 0 (omega arith) (ap Some ((bytes_eq-Decides n name).0 test)))
    other false test later = later

get_map : {X Y : Type 0} (f : X → Y) (xs : List X) (i : ℕ) (x : X) → slice_get xs i ≡ Some x → slice_get (map f xs) i ≡ Some (f x)
get_map f [] i x there = cc
get_map f (z ∷ xs) zero x there = let e : z ≡ x = cc in rw e refl
get_map f (z ∷ xs) (suc i) x there = get_map f xs i x there

length-words : (bytes : List ℕ) → length (map (word_value 3) bytes) ≡ length bytes
length-words [] = refl
length-words (b ∷ bytes) = ap suc (length-words bytes)

-- the plan of a body gives what the body names
pub made_value : {names : List (List ℕ)} {body : SmallBody} {plan : Plan} → Makes names body plan → (bytes : List ℕ) → length bytes ≡ length names → meaning (term_of plan) [] (bytes_value bytes) ≡ Some (result_value names bytes body)
made_value (named {parameters = names} {name = name} {place = place} f p) bytes same =
    picked p (map (word_value 3) bytes) (word_value 3 (byte_named names bytes name)) (length-words bytes ∙ same) (get_map (word_value 3) bytes place (byte_named names bytes name) (first_byte names bytes name place same f.there f.before))
made_value (paired m n) bytes same = rw (made_value m bytes same, made_value n bytes same) refl

-- how many nodes a plan has at most
abbrev pub node_count : Plan → ℕ
node_count Whole = 1
node_count (First count part) = 1 + node_count part
node_count (Rest count part) = 1 + node_count part
node_count (Both count left right) = 1 + (node_count left + node_count right)

picks_few : {count place : ℕ} {plan : Plan} → Picks count place plan → node_count plan ≤ count
picks_few (whole one here) = omega arith
picks_few {count} (first some less p) = omega (arith, picks_few p)
picks_few {count} (rest some past p) = omega (arith, picks_few p)

power_max : (a b : ℕ) → (2 ^ a ≤ 2 ^ max a b) × (2 ^ b ≤ 2 ^ max a b)
power_max a b = (pow-le-pow_right (omega arith) {i = a} {j = max a b} (omega arith), pow-le-pow_right (omega arith) {i = b} {j = max a b} (omega arith))

pub made_few : {names : List (List ℕ)} {body : SmallBody} {plan : Plan} → Makes names body plan → length names ≤ 8 → node_count plan + 1 ≤ 9 * 2 ^ nesting body
made_few (named f p) few = omega (arith, picks_few p)
made_few (paired {a = a} {b = b} m n) few =
    omega (arith, made_few m few, made_few n few, power_max (nesting a) (nesting b), pow-suc 2 (max (nesting a) (nesting b)))
