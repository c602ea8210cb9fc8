-- Tuples of bytes, and the type of what a body gives.
use Rattle.std.specs.Prelude.{ℕ, List, map}
use Rattle.small_source.specs.Small.{SmallBody, Named, Paired}
use Rattle.simplicity.specs.Tuples.{tuple_value, copies_kind}
use Rattle.simplicity.specs.Types.{Kind, Product, Value, word_kind, word_value}

-- a tuple of bytes, and its type
abbrev pub bytes_value : List ℕ → Value
bytes_value bytes = tuple_value (map (word_value 3) bytes)

abbrev pub bytes_kind : ℕ → Kind
bytes_kind count = copies_kind count (word_kind 3)

-- the type of what a body gives
abbrev pub result_kind : SmallBody → Kind
result_kind (Named name place) = word_kind 3
result_kind (Paired left right) = Product (result_kind left) (result_kind right)
