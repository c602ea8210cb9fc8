-- Types that are the same as written out, and core types that are the same.
use Rattle.std.specs.Prelude.{Bool, true, false, ◌&&◌, nat_eq, List, [], ◌∷◌}
use Rattle.hl_syntax.specs.declared.kinds.HlType.{HlType}
use Rattle.hl_syntax.specs.declared.kinds.HlType.TheOpen.{HlType-F}
use Rattle.hl_syntax.specs.declared.kinds.HlType.TheViews.{out-HlType}
use Rattle.hl_syntax.specs.declared.kinds.HlType.TheFolds.{fold-HlType}
use Rattle.simplicity.specs.Types.{Kind, One, Sum, Product}

-- whether types are the same, given for each of the first ones the test of being the same as it
abbrev pub all_same : List (HlType → Bool) → List HlType → Bool
all_same [] [] = true
all_same (test ∷ tests) (k ∷ ks) = test k && all_same tests ks
all_same _ _ = false

abbrev pub same_shape : HlType-F (HlType → Bool) → HlType-F HlType → Bool
same_shape HlType-F.Bool HlType-F.Bool = true
same_shape (HlType-F.UInt m) (HlType-F.UInt n) = nat_eq m n
same_shape (HlType-F.Tuple tests) (HlType-F.Tuple parts) = all_same tests parts
same_shape (HlType-F.Array test m) (HlType-F.Array item n) = test item && nat_eq m n
same_shape (HlType-F.List test m) (HlType-F.List item n) = test item && nat_eq m n
same_shape (HlType-F.Option test) (HlType-F.Option item) = test item
same_shape (HlType-F.Either first second) (HlType-F.Either left right) = first left && second right
same_shape _ _ = false

-- whether two types are the same as written out without aliases
abbrev pub same_type : HlType → HlType → Bool
same_type a b = fold-HlType (HlType → Bool) (λ shape other. same_shape shape (out-HlType other)) a b

-- whether two core types are the same
abbrev pub same_kind : Kind → Kind → Bool
same_kind One One = true
same_kind (Sum a b) (Sum c d) = same_kind a c && same_kind b d
same_kind (Product a b) (Product c d) = same_kind a c && same_kind b d
same_kind _ _ = false
