-- Conversions between types of one form.
use Rattle.std.proofs.Common.{◌≡◌, true, ◌&&◌, Option, Some, None, refl, ap, ◌∙◌, subst}
use Rattle.std.specs.Prelude.{IsSome, option_and_then}
use Rattle.hl_data.specs.declared.value.HlValue.{HlValue}
use Rattle.hl_syntax.specs.declared.kinds.HlType.{HlType}
use Rattle.simplicity.specs.Types.{IsOf, Kind, One, Sum, Product}
use Rattle.simplicityhl.specs.Kinds.{form, IsSound}
use Rattle.hl_meaning.specs.Mean.{converted, are_alike}
use Rattle.simplicityhl.specs.Kinds.{is_sound}
use Rattle.hl_meaning.specs.Values.{encoded, decoded, same_kind}
use Rattle.hl_values.proofs.Coding.{sound_good}
use Rattle.hl_meaning.specs.Entries.{IsValueOf}
use Rattle.hl_progress.specs.Held.{HasAnswer}
use Rattle.hl_progress.proofs.Answers.{known_value}
use Rattle.hl_typing.proofs.Sound.{and_true}

some_is : {A : Type 0} (o : Option A) → IsSome o → (a : A) × (o ≡ Some a)
some_is (Some a) h = (a, refl)
some_is None h = absurd (cc)

same_itself : (k : Kind) → same_kind k k ≡ true
same_itself One = refl
same_itself (Sum a b) = and_true (same_kind a a) (same_kind b b) (same_itself a) (same_itself b)
same_itself (Product a b) = and_true (same_kind a a) (same_kind b b) (same_itself a) (same_itself b)

pub converted_holds : (from to : HlType) (v : HlValue) → IsSound from → IsSound to → form from ≡ form to → IsValueOf v from → HasAnswer to (converted from to v)
converted_holds from to v sound_from sound_to same fits =
    let alike : same_kind (form from) (form to) ≡ true = subst (λ k. same_kind (form from) k ≡ true) same (same_itself (form from)) in
    let are : are_alike from to ≡ true = and_true (is_sound from) (is_sound to && same_kind (form from) (form to)) sound_from (and_true (is_sound to) (same_kind (form from) (form to)) sound_to alike) in
    let cell = some_is (encoded v from) fits in
    let of : IsOf cell.0 (form to) = subst (IsOf cell.0) same ((sound_good from sound_from).there v cell.0 cell.1).0 in
    let found = (sound_good to sound_to).back cell.0 of in
    let is : option_and_then (decoded to) (encoded v from) ≡ Some found.value = ap (option_and_then (decoded to)) cell.1 ∙ found.decoded in
    let there : IsValueOf found.value to = rw found.encoded refl in
    rw are (known_value to (option_and_then (decoded to) (encoded v from)) found.value is there)
