-- Source types, and the core types that are their forms.
use Rattle.std.specs.Prelude.{ℕ, zero, suc, ◌^◌, Bool, true, ◌&&◌, nat_eq, nat_lt, List, [], ◌∷◌, IsTrue}
use Rattle.std.specs.List.{position_or_len, list_all}
use Rattle.hl_syntax.specs.declared.kinds.HlType.{HlType}
use Rattle.hl_syntax.specs.declared.kinds.HlType.TheOpen.{HlType-F}
use Rattle.hl_syntax.specs.declared.kinds.HlType.TheFolds.{fold-HlType}
use Rattle.simplicity.specs.Tuples.{tuple_kind, copies_kind}
use Rattle.simplicity.specs.Types.{Kind, One, Sum, Product}
use Rattle.simplicity.specs.Widths.{level_of, word_of_width}

-- the bounds of lists; the bound 2 ^ (k + 1) has level k
abbrev pub list_bounds : List ℕ
list_bounds = 2 ∷ 4 ∷ 8 ∷ 16 ∷ 32 ∷ 64 ∷ 128 ∷ 256 ∷ 512 ∷ 1024 ∷ 2048 ∷ 4096 ∷ 8192 ∷ 16384 ∷ 32768 ∷ 65536 ∷ []

abbrev pub bound_level : ℕ → ℕ
bound_level bound = position_or_len (nat_eq bound) list_bounds

-- the form of lists with the bound 2: nothing or an item; of lists with twice a bound: nothing or a block of so many items as
-- the bound, beside a list with the bound
abbrev pub list_kind : ℕ → Kind → Kind
list_kind zero item = Sum One item
list_kind (suc level) item = Product (Sum One (copies_kind (2 ^ suc level) item)) (list_kind level item)

-- the form of a type from the forms of its parts
abbrev pub form_step : HlType-F Kind → Kind
form_step HlType-F.Bool = Sum One One
form_step (HlType-F.UInt width) = word_of_width width
form_step (HlType-F.Tuple parts) = tuple_kind parts
form_step (HlType-F.Array item count) = copies_kind count item
form_step (HlType-F.List item bound) = list_kind (bound_level bound) item
form_step (HlType-F.Option item) = Sum One item
form_step (HlType-F.Either left right) = Sum left right

-- the core type that values of a type are encoded in
abbrev pub form : HlType → Kind
form kind = fold-HlType Kind form_step kind

-- whether a width is one of words, a count within the greatest, a bound a power of two from 2 up to it
abbrev pub is_width : ℕ → Bool
is_width width = nat_lt (level_of width) 9 && nat_eq width (2 ^ level_of width)

abbrev pub is_count : ℕ → Bool
is_count count = nat_lt count 65537

abbrev pub is_bound : ℕ → Bool
is_bound bound = nat_lt (bound_level bound) 16 && nat_eq bound (2 ^ suc (bound_level bound))

abbrev pub sound_step : HlType-F Bool → Bool
sound_step HlType-F.Bool = true
sound_step (HlType-F.UInt width) = is_width width
sound_step (HlType-F.Tuple parts) = list_all (λ part. part) parts
sound_step (HlType-F.Array item count) = item && is_count count
sound_step (HlType-F.List item bound) = item && is_bound bound
sound_step (HlType-F.Option item) = item
sound_step (HlType-F.Either left right) = left && right

-- whether a type has sound widths, counts and bounds
abbrev pub is_sound : HlType → Bool
is_sound kind = fold-HlType Bool sound_step kind

abbrev pub IsSound : HlType → Type 0
IsSound kind = IsTrue (is_sound kind)
