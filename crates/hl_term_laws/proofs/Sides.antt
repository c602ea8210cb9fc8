-- Patterns and sides whose shapes have the forms of their types.
use Rattle.std.specs.Prelude.{◌≡◌}
use Rattle.hl_data.specs.declared.typed.TypedSide.{TypedSide}
use Rattle.hl_data.specs.declared.typed.TypedSide.TheVariants as sides
use Rattle.hl_syntax.specs.declared.kinds.HlType.{HlType}
use Rattle.hl_syntax.specs.declared.kinds.HlType.TheOpen.{HlType-F}
use Rattle.hl_syntax.specs.declared.tree.Pattern.{Pattern}
use Rattle.simplicityhl.specs.Kinds.{form}
use Rattle.hl_terms.specs.Shapes.{kind_of, pattern_shape}

abbrev pub PatternFits : Pattern → HlType → Type 0
PatternFits p k = kind_of (pattern_shape p k) ≡ form k

-- the side on the left and the one on the right take the values of a type apart
pub data SidesFit : HlType-F HlType → TypedSide → TypedSide → Type 0 where
  FitsEither : (p q : Pattern) (k l : HlType) → PatternFits p k → PatternFits q l → SidesFit (HlType-F.Either k l) (sides.Left p k) (sides.Right q l)
  FitsOption : (q : Pattern) (k : HlType) → PatternFits q k → SidesFit (HlType-F.Option k) sides.Nothing (sides.Some q k)
  FitsBool : SidesFit HlType-F.Bool sides.False sides.True
