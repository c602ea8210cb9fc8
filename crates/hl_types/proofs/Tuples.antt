-- Types of tuples.
use Rattle.std.proofs.Common.{◌≡◌, List, sym, ap, ◌∙◌}
use Rattle.hl_syntax.specs.declared.kinds.HlType.{HlType}
use Rattle.hl_syntax.specs.declared.kinds.HlType.TheVariants as kind
use Rattle.hl_syntax.specs.declared.kinds.HlType.TheOpen.{HlType-F}
use Rattle.hl_syntax.specs.declared.kinds.HlType.TheViews.{out-HlType, out-roll-HlType}

out-Tuple : (parts : List HlType) → out-HlType (kind.Tuple parts) ≡ HlType-F.Tuple parts
out-Tuple parts = ap out-HlType (sym (kind.rolls-Tuple parts)) ∙ out-roll-HlType (HlType-F.Tuple parts)

-- of equal tuples' types the parts are equal
pub same_parts : (parts given : List HlType) → kind.Tuple parts ≡ kind.Tuple given → parts ≡ given
same_parts parts given same =
    let layers = sym (out-Tuple parts) ∙ ap out-HlType same ∙ out-Tuple given in
    cc
