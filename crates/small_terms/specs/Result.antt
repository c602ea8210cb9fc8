-- What a small source gives on bytes, and the names that it doesn't know.
use Rattle.std.specs.Prelude.{ℕ, Bool, true, false, List, ◌∷◌, length, Option, Some, None, bytes_eq, if◌then◌else◌}
use Rattle.simplicity.specs.Types.{Value, Pair, word_value}
use Rattle.small_source.specs.Names.{is_among}
use Rattle.small_source.specs.Small.{SmallBody, Named, Paired}

-- the byte that is given for the first parameter of a name; 0 where there is none
abbrev pub byte_named : List (List ℕ) → List ℕ → List ℕ → ℕ
byte_named (parameter ∷ more) (byte ∷ bytes) name =
    if bytes_eq parameter name then byte else byte_named more bytes name
byte_named _ _ name = 0

-- the value of a body where the parameters are these bytes
abbrev pub result_value : List (List ℕ) → List ℕ → SmallBody → Value
result_value parameters bytes (Named name place) = word_value 3 (byte_named parameters bytes name)
result_value parameters bytes (Paired left right) = Pair (result_value parameters bytes left) (result_value parameters bytes right)

-- where a name stands in the text: the place of its first byte, and how many bytes it has
abbrev pub Span : Type 0
Span = ℕ × ℕ

abbrev pub or_else : Option Span → Option Span → Option Span
or_else (Some span) other = Some span
or_else None other = other

abbrev pub unless_known : Bool → Span → Option Span
unless_known true span = None
unless_known false span = Some span

-- the first name of a body, from the left, that is no parameter
abbrev pub first_unknown : List (List ℕ) → SmallBody → Option Span
first_unknown parameters (Named name place) = unless_known (is_among parameters name) (place, length name)
first_unknown parameters (Paired left right) = or_else (first_unknown parameters left) (first_unknown parameters right)
