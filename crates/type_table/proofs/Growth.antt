-- What a table keeps when it grows.
use Rattle.std.proofs.Common.{◌≡◌, ℕ, ◌<◌, ◌≤◌, List, [], ◌++◌, length, refl, ap, ◌∙◌, arith, append_assoc, append-nil, length-append}
use Rattle.std.proofs.Math.ListN.{get_or-append}
use Rattle.simplicity.specs.Types.{Kind, One}
use Rattle.type_table.specs.Kinds.{Means, kind_at, IsGrown}

-- an id in the table means the type at it
pub means_at : (kinds : List Kind) (id : ℕ) → id < length kinds → Means kinds id (kind_at kinds id)
means_at kinds id h = record { within = h; is = refl }

pub grown_self : (kinds : List Kind) → IsGrown kinds kinds
grown_self kinds = record { more = []; is = rw append-nil refl }

pub grown_through : (old middle new : List Kind) → IsGrown old middle → IsGrown middle new → IsGrown old new
grown_through old middle new g h = record { more = g.more ++ h.more; is = h.is ∙ ap (λ ks. ks ++ h.more) g.is ∙ append_assoc old g.more h.more }

pub grown_length : (old new : List Kind) → IsGrown old new → length old ≤ length new
grown_length old new g = omega (arith, ap length g.is ∙ length-append old g.more)

pub kind_at-grown : (old new : List Kind) (id : ℕ) → IsGrown old new → id < length old → kind_at new id ≡ kind_at old id
kind_at-grown old new id g h = ap (λ ks. kind_at ks id) g.is ∙ get_or-append old g.more One id h

pub means_grown : (old new : List Kind) (id : ℕ) (kind : Kind) → IsGrown old new → Means old id kind → Means new id kind
means_grown old new id kind g h =
    let longer = grown_length old new g in record { within = omega (arith, h.within); is = kind_at-grown old new id g h.within ∙ h.is }
