-- How values are printed.
use Rattle.std.specs.Prelude.{ℕ, zero, suc, ◌+◌, ◌*◌, ◌/◌, ◌%◌, ◌^◌, Bool, true, false, nat_eq, nat_lt, List, [], ◌∷◌, ◌++◌, length, codes, if◌then◌else◌}
use Rattle.std.specs.Fmt.{decimal}
use Rattle.hl_data.specs.declared.value.HlValue.{HlValue}
use Rattle.hl_data.specs.declared.value.HlValue.TheOpen.{HlValue-F}
use Rattle.hl_data.specs.declared.value.HlValue.TheFolds.{fold-HlValue}
use Rattle.jets.specs.Unsigned.{Unsigned}

-- a hexadecimal digit, in lower case
abbrev pub hexadecimal_digit : ℕ → ℕ
hexadecimal_digit d = if nat_lt d 10 then 48 + d else 87 + d

-- so many hexadecimal digits of a number, the last ones, from the left
abbrev pub hexadecimal : ℕ → ℕ → List ℕ
hexadecimal zero n = []
hexadecimal (suc k) n = hexadecimal_digit (n / 2 ^ (4 * k) % 16) ∷ hexadecimal k n

-- decimal; of 256 bits `0x` and 64 digits
abbrev pub number_text : Unsigned → List ℕ
number_text u = if nat_eq u.width 256 then codes "0x" ++ hexadecimal 64 u.number else decimal u.number

abbrev pub truth_text : Bool → List ℕ
truth_text true = codes "true"
truth_text false = codes "false"

-- texts with `, ` between them
abbrev pub joined : List (List ℕ) → List ℕ
joined [] = []
joined (x ∷ []) = x
joined (x ∷ y ∷ xs) = x ++ codes ", " ++ joined (y ∷ xs)

-- what stands before the text at a place
abbrev pub separator : ℕ → List ℕ
separator zero = []
separator (suc place) = codes ", "

-- the end of a tuple of so many parts: of one alone, with a comma
abbrev pub tuple_end : ℕ → List ℕ
tuple_end count = if nat_eq count 1 then codes ",)" else codes ")"

abbrev pub print_step : HlValue-F (List ℕ) → List ℕ
print_step (HlValue-F.Bool b) = truth_text b
print_step (HlValue-F.Number u) = number_text u
print_step (HlValue-F.Tuple parts) = codes "(" ++ joined parts ++ tuple_end (length parts)
print_step (HlValue-F.Array items) = codes "[" ++ joined items ++ codes "]"
print_step (HlValue-F.List items) = codes "list![" ++ joined items ++ codes "]"
print_step HlValue-F.Nothing = codes "None"
print_step (HlValue-F.Some part) = codes "Some(" ++ part ++ codes ")"
print_step (HlValue-F.Left part) = codes "Left(" ++ part ++ codes ")"
print_step (HlValue-F.Right part) = codes "Right(" ++ part ++ codes ")"

-- the text of a value
abbrev pub printed : HlValue → List ℕ
printed v = fold-HlValue (List ℕ) print_step v
