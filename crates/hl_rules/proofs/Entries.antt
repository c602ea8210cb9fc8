-- Entries whose values are of their types.
use Rattle.std.proofs.Common.{◌≡◌, ℕ, zero, suc, Bool, List, [], ◌∷◌, Some, refl, sym, ap, ◌∙◌, arith}
use Rattle.hl_syntax.specs.declared.kinds.HlType.TheOpen.{HlType-F}
use Rattle.hl_syntax.specs.declared.kinds.HlType.TheFolds.{fold-HlType, fold-roll-HlType}
use Rattle.hl_syntax.specs.declared.kinds.HlType.TheViews.{out-HlType, out-roll-HlType}
use Rattle.hl_syntax.specs.declared.kinds.HlType.TheVariants as kind
use Rattle.hl_data.specs.declared.value.Entry.{Entry}
use Rattle.hl_data.specs.declared.value.HlValue.TheFolds.{fold-roll-HlValue}
use Rattle.hl_data.specs.declared.value.HlValue.TheOpen.{HlValue-F}
use Rattle.hl_data.specs.declared.value.HlValue.TheVariants as value
use Rattle.simplicity.specs.Types.{bit_value}
use Rattle.simplicityhl.specs.Kinds.{sound_step}
use Rattle.hl_meaning.specs.Values.{Encoding, encode_at, encode_step, encoded}
use Rattle.hl_meaning.specs.Entries.{AreValued, IsValued}

pub no_entry : AreValued []
no_entry i d less = absurd (omega arith)

pub one_entry : (e : Entry) → IsValued e → AreValued (e ∷ [])
one_entry e h zero d less = h
one_entry e h (suc i) d less = absurd (omega arith)

-- an entry of a truth value
pub truth_entry : (name : List ℕ) (b : Bool) → IsValued (record { name = name; kind = kind.Bool; value = value.Bool b })
truth_entry name b =
    let shape : out-HlType kind.Bool ≡ HlType-F.Bool = ap out-HlType (sym kind.rolls-Bool) ∙ out-roll-HlType HlType-F.Bool in
    let made : encoded (value.Bool b) kind.Bool ≡ Some (bit_value b) =
    ap (λ v. encoded v kind.Bool) (sym (value.rolls-Bool b)) ∙ ap (λ (e : Encoding). e kind.Bool) (fold-roll-HlValue Encoding encode_step (HlValue-F.Bool b)) ∙ ap (λ k. encode_at (HlValue-F.Bool b) k) shape in
    record {
      kind = ap (λ k. fold-HlType Bool sound_step k) (sym kind.rolls-Bool) ∙ fold-roll-HlType Bool sound_step HlType-F.Bool;
      value = rw made refl;
    }
