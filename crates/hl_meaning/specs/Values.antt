-- Source values: which are of a type, and the core values that they are encoded in.
use Rattle.std.specs.Prelude.{ℕ, zero, suc, ◌+◌, ◌*◌, ◌/◌, ◌^◌, Bool, true, false, ◌&&◌, nat_eq, nat_lt, List, [], ◌∷◌, ◌++◌, length, map, take, drop, replicate, Option, Some, None, option_map, option_and_then, if◌then◌else◌}
use Rattle.hl_data.specs.declared.value.HlValue.{HlValue}
use Rattle.hl_data.specs.declared.value.HlValue.TheVariants as value
use Rattle.hl_data.specs.declared.value.HlValue.TheOpen.{HlValue-F}
use Rattle.hl_data.specs.declared.value.HlValue.TheFolds.{fold-HlValue}
use Rattle.hl_syntax.specs.declared.kinds.HlType.{HlType}
use Rattle.hl_syntax.specs.declared.kinds.HlType.TheOpen.{HlType-F}
use Rattle.hl_syntax.specs.declared.kinds.HlType.TheViews.{out-HlType}
use Rattle.hl_syntax.specs.declared.kinds.HlType.TheFolds.{fold-HlType}
use Rattle.jets.specs.Unsigned.{Unsigned, is_width}
use Rattle.simplicity.specs.Tuples.{tuple_value}
use Rattle.simplicity.specs.Types.{Value, UnitValue, Inl, Inr, Pair, bit_value, word_value, word_count}
use Rattle.simplicity.specs.Widths.{level_of}
use Rattle.simplicityhl.specs.Kinds.{bound_level}
pub use Rattle.simplicityhl.specs.Same.{same_kind}

-- two answers beside one another, each where it is there
abbrev pub beside : {A B C : Type 0} → (A → B → C) → Option A → Option B → Option C
beside join (Some a) (Some b) = Some (join a b)
beside join _ _ = None

-- all of a list, where each is there
abbrev pub all_there : {A : Type 0} → List (Option A) → Option (List A)
all_there [] = Some []
all_there (x ∷ xs) = beside (λ y ys. y ∷ ys) x (all_there xs)

-- Encoding: a value is of a type exactly where it is encoded at it.

abbrev pub Encoding : Type 0
Encoding = HlType → Option Value

-- each at the type at its place, as many as there are types
abbrev pub at_each : List Encoding → List HlType → Option (List Value)
at_each [] [] = Some []
at_each (part ∷ parts) (k ∷ ks) = beside (λ v vs. v ∷ vs) (part k) (at_each parts ks)
at_each _ _ = None

-- each at one type
abbrev pub at_all : List Encoding → HlType → Option (List Value)
at_all parts k = all_there (map (λ part. part k) parts)

-- fewer items than 2 ^ (level + 1): nothing or an item; or, where there are as many as half of that, a block of the first of them,
-- beside a list of half the bound with the rest
abbrev pub list_value : ℕ → List Value → Option Value
list_value zero [] = Some (Inl UnitValue)
list_value zero (v ∷ []) = Some (Inr v)
list_value zero _ = None
list_value (suc level) vs =
    if nat_lt (length vs) (2 ^ suc level) then option_map (Pair (Inl UnitValue)) (list_value level vs)
    else option_map (Pair (Inr (tuple_value (take (2 ^ suc level) vs)))) (list_value level (drop (2 ^ suc level) vs))

-- a number of the width
abbrev pub is_number_of : ℕ → Unsigned → Bool
is_number_of width u = nat_eq u.width width && nat_lt u.number (2 ^ width)

-- a value from the encodings of its parts, at a type
abbrev pub encode_at : HlValue-F Encoding → HlType-F HlType → Option Value
encode_at (HlValue-F.Bool b) HlType-F.Bool = Some (bit_value b)
encode_at (HlValue-F.Number u) (HlType-F.UInt width) = if is_number_of width u then Some (word_value (level_of width) u.number) else None
encode_at (HlValue-F.Tuple parts) (HlType-F.Tuple kinds) = option_map tuple_value (at_each parts kinds)
encode_at (HlValue-F.Array parts) (HlType-F.Array item count) = if nat_eq (length parts) count then option_map tuple_value (at_all parts item) else None
encode_at (HlValue-F.List parts) (HlType-F.List item bound) = option_and_then (list_value (bound_level bound)) (at_all parts item)
encode_at HlValue-F.Nothing (HlType-F.Option item) = Some (Inl UnitValue)
encode_at (HlValue-F.Some part) (HlType-F.Option item) = option_map Inr (part item)
encode_at (HlValue-F.Left part) (HlType-F.Either left right) = option_map Inl (part left)
encode_at (HlValue-F.Right part) (HlType-F.Either left right) = option_map Inr (part right)
encode_at _ _ = None

abbrev pub encode_step : HlValue-F Encoding → Encoding
encode_step v kind = encode_at v (out-HlType kind)

-- the core value that a value of the type is encoded in; none where the value isn't of the type
abbrev pub encoded : HlValue → HlType → Option Value
encoded v kind = fold-HlValue Encoding encode_step v kind

-- Decoding.

abbrev pub Decoding : Type 0
Decoding = Value → Option HlValue

-- the parts of a tuple by halves, each decoded; so many turns are enough as there are parts
abbrev pub untupled : ℕ → List Decoding → Value → Option (List HlValue)
untupled turns [] UnitValue = Some []
untupled turns (part ∷ []) v = option_map (λ x. x ∷ []) (part v)
untupled (suc turns) (part ∷ other ∷ parts) (Pair a b) =
    beside (λ xs ys. xs ++ ys) (untupled turns (take (length (part ∷ other ∷ parts) / 2) (part ∷ other ∷ parts)) a)
    (untupled turns (drop (length (part ∷ other ∷ parts) / 2) (part ∷ other ∷ parts)) b)
untupled _ _ _ = None

abbrev pub copies_of : ℕ → Decoding → Value → Option (List HlValue)
copies_of count part v = untupled count (replicate count part) v

-- the items of a list
abbrev pub items_of : ℕ → Decoding → Value → Option (List HlValue)
items_of zero part (Inl UnitValue) = Some []
items_of zero part (Inr v) = option_map (λ x. x ∷ []) (part v)
items_of (suc level) part (Pair (Inl UnitValue) rest) = items_of level part rest
items_of (suc level) part (Pair (Inr block) rest) = beside (λ xs ys. xs ++ ys) (copies_of (2 ^ suc level) part block) (items_of level part rest)
items_of _ _ _ = None

abbrev pub bit_of : Value → Option Bool
bit_of (Inl UnitValue) = Some false
bit_of (Inr UnitValue) = Some true
bit_of _ = None

-- the number of a word of 2 ^ k bits
abbrev pub number_of : ℕ → Value → Option ℕ
number_of zero (Inl UnitValue) = Some 0
number_of zero (Inr UnitValue) = Some 1
number_of (suc k) (Pair a b) = beside (λ high low. high * word_count k + low) (number_of k a) (number_of k b)
number_of _ _ = None

abbrev pub word_of : ℕ → ℕ → HlValue
word_of width number = value.Number (record { width = width; number = number })

-- a number of a width that words have, where it fits
abbrev pub word_at : ℕ → ℕ → Option HlValue
word_at width number = if is_width width && nat_lt number (2 ^ width) then Some (word_of width number) else None

abbrev pub option_of : Decoding → Value → Option HlValue
option_of part (Inl UnitValue) = Some value.Nothing
option_of part (Inr v) = option_map value.Some (part v)
option_of _ _ = None

abbrev pub either_of : Decoding → Decoding → Value → Option HlValue
either_of left right (Inl v) = option_map value.Left (left v)
either_of left right (Inr v) = option_map value.Right (right v)
either_of _ _ _ = None

abbrev pub decode_step : HlType-F Decoding → Decoding
decode_step HlType-F.Bool v = option_map value.Bool (bit_of v)
decode_step (HlType-F.UInt width) v = option_map (word_of width) (number_of (level_of width) v)
decode_step (HlType-F.Tuple parts) v = option_map value.Tuple (untupled (length parts) parts v)
decode_step (HlType-F.Array item count) v = option_map value.Array (copies_of count item v)
decode_step (HlType-F.List item bound) v = option_map value.List (items_of (bound_level bound) item v)
decode_step (HlType-F.Option item) v = option_of item v
decode_step (HlType-F.Either left right) v = either_of left right v

-- the value of the type that is encoded in a core value; none where the core value isn't of the type's form
abbrev pub decoded : HlType → Value → Option HlValue
decoded kind v = fold-HlType Decoding decode_step kind v
