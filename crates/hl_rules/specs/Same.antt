-- Types of the source language: their shapes, and which are the same as written out.
use Rattle.std.specs.Prelude.{ℕ, List, [], Option, Some, None}
use Rattle.hl_syntax.specs.declared.kinds.HlType.{HlType}
use Rattle.hl_syntax.specs.declared.kinds.HlType.TheOpen.{HlType-F}
use Rattle.hl_syntax.specs.declared.kinds.HlType.TheViews.{out-HlType}
use Rattle.hl_syntax.specs.declared.kinds.HlType.TheVariants as kind
pub use Rattle.simplicityhl.specs.Same.{same_kind, all_same, same_shape, same_type}

-- the type of the empty tuple
abbrev pub unit_type : HlType
unit_type = kind.Tuple []

-- Parts of types, where a type has the shape.

abbrev pub width_in : HlType-F HlType → Option ℕ
width_in (HlType-F.UInt width) = Some width
width_in _ = None

abbrev pub parts_in : HlType-F HlType → Option (List HlType)
parts_in (HlType-F.Tuple parts) = Some parts
parts_in _ = None

abbrev pub array_in : HlType-F HlType → Option (HlType × ℕ)
array_in (HlType-F.Array item count) = Some (item, count)
array_in _ = None

abbrev pub list_in : HlType-F HlType → Option (HlType × ℕ)
list_in (HlType-F.List item bound) = Some (item, bound)
list_in _ = None

abbrev pub option_in : HlType-F HlType → Option HlType
option_in (HlType-F.Option item) = Some item
option_in _ = None

abbrev pub either_in : HlType-F HlType → Option (HlType × HlType)
either_in (HlType-F.Either left right) = Some (left, right)
either_in _ = None

-- of a type of numbers its width
abbrev pub width_of : HlType → Option ℕ
width_of k = width_in (out-HlType k)

-- of a tuple's type the types of its parts
abbrev pub parts_of : HlType → Option (List HlType)
parts_of k = parts_in (out-HlType k)

-- of an array's type the type of its items and their number
abbrev pub array_of : HlType → Option (HlType × ℕ)
array_of k = array_in (out-HlType k)

-- of a list's type the type of its items and its bound
abbrev pub list_of : HlType → Option (HlType × ℕ)
list_of k = list_in (out-HlType k)

-- of an option's type the type of its item
abbrev pub option_of : HlType → Option HlType
option_of k = option_in (out-HlType k)

-- of an either's type the types of its left and its right
abbrev pub either_of : HlType → Option (HlType × HlType)
either_of k = either_in (out-HlType k)
