-- What is encoded at one type and decoded at another of the same form is encoded there in the same core value.
use Rattle.std.proofs.Common.{◌≡◌, sym, ap, ◌∙◌, subst}
use Rattle.hl_meaning.specs.Values.{encoded}
use Rattle.value_codes.proofs.Codes.{values_code}
use Rattle.simplicity.specs.Types.{IsOf}
use Rattle.simplicityhl.specs.Kinds.{form}
use Rattle.hl_term_laws.specs.Renders.{Recodes}
use Rattle.hl_term_laws.proofs.Encoded.{some_same}

pub recodes : Recodes
recodes from to v u c sound_from sound_to same e found =
    let of : IsOf c (form to) = subst (IsOf c) same (values_code.there from sound_from v c e).0 in
    let back = values_code.back to sound_to c of in
    let is : back.value ≡ u = some_same back.value u (sym back.decodes ∙ found) in
    ap (λ x. encoded x to) (sym is) ∙ back.encodes
