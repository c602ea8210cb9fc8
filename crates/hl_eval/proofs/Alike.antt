-- Types that are alike.
use Rattle.std.proofs.Common.{◌≡◌, Bool, true, false, ◌&&◌, refl}
use Rattle.hl_syntax.specs.declared.kinds.HlType.{HlType}
use Rattle.hl_meaning.specs.Mean.{are_alike}
use Rattle.simplicityhl.specs.Kinds.{is_sound}
use Rattle.hl_meaning.specs.Values.{same_kind}
use Rattle.simplicityhl.specs.Kinds.{form}
use Rattle.hl_types.proofs.Alike.{same_kind-true}

both_true : (a b : Bool) → a && b ≡ true → (a ≡ true) × (b ≡ true)
both_true true b h = (refl, h)
both_true false b h = cc

-- types that are alike have one form
pub alike_forms : (from to : HlType) → are_alike from to ≡ true → form from ≡ form to
alike_forms from to h =
    let both = both_true (is_sound from) (is_sound to && same_kind (form from) (form to)) h in
    same_kind-true (form from) (form to) (both_true (is_sound to) (same_kind (form from) (form to)) both.1).1
