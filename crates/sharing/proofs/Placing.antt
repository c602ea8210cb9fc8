-- The least old places are one list, however the nodes are said to go.
use Rattle.std.proofs.Common.{◌≡◌, ap, sym, ◌∙◌, ℕ, List, length, Some, arith}
use Rattle.simplicity.specs.Nodes.{Node}
use Rattle.simplicity.specs.Order.{IsReached, post_order}
use Rattle.simplicity.specs.Places.{Became, ArePlaces}
use Rattle.sharing.proofs.Merging.{within_of, there_at}
use Rattle.sharing.proofs.Merged.{same_elements}
use Rattle.sharing.proofs.Orderly.{position}

-- two maps send the nodes that are reached to the same places
abbrev pub GoAlike : List Node → (ℕ → ℕ) → (ℕ → ℕ) → Type 0
GoAlike ns f h = (old : ℕ) → IsReached ns old → f (position old (post_order ns)) ≡ h (position old (post_order ns))

became_by : (ns : List Node) (f h : ℕ → ℕ) (old new : ℕ) → GoAlike ns f h → Became ns h old new → Became ns f old new
became_by ns f h old new alike from = record { reached = from.reached; goes = alike old from.reached ∙ from.goes }

pub places_are_one : (ns ms ls : List Node) (f h : ℕ → ℕ) (ps qs : List ℕ) → length ms ≡ length ls → GoAlike ns f h → ArePlaces ns ms f ps → ArePlaces ns ls h qs → ps ≡ qs
places_are_one ns ms ls f h ps qs many alike a b =
    let p = a.count in
    let q = b.count in
    same_elements ps qs (omega (arith, p, q, many))
    (λ i k e.
    let l = within_of ps i k e in
    let other = there_at qs i (omega (arith, p, q, many, l)) in
    let up = a.least i k other.0 e (became_by ns f h other.0 i alike (b.became i other.0 other.1)) in
    let down = b.least i other.0 k other.1 (became_by ns h f k i (λ old r. sym (alike old r)) (a.became i k e)) in
    let same : other.0 ≡ k = omega (arith, up, down) in
    other.1 ∙ ap Some same)
