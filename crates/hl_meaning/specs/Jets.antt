-- What a call of a jet gives over source values.
use Rattle.std.specs.Prelude.{ℕ, nat_eq, List, [], ◌∷◌, bytes_eq, find, Option, Some, None, if◌then◌else◌, not}
use Rattle.hl_data.specs.declared.value.HlValue.{HlValue}
use Rattle.hl_data.specs.declared.value.HlValue.TheOpen.{HlValue-F}
use Rattle.hl_data.specs.declared.value.HlValue.TheVariants as value
use Rattle.hl_data.specs.declared.value.HlValue.TheViews.{out-HlValue}
use Rattle.jets.specs.Formula.{bit, numbers}
use Rattle.jets.specs.Jet.{Kind, Truth, Number, Row, rows}
use Rattle.hl_meaning.specs.Answer.{Answer, gives, fails, shaped}
use Rattle.hl_meaning.specs.Values.{beside, is_number_of, word_of}

-- a value as a number of its type; a truth value is 0 or 1
abbrev pub number_at : Kind → HlValue-F HlValue → Option ℕ
number_at Truth (HlValue-F.Bool b) = Some (bit b)
number_at (Number width) (HlValue-F.Number u) = if is_number_of width u then Some u.number else None
number_at _ _ = None

abbrev pub numbers_at : List Kind → List HlValue → Option (List ℕ)
numbers_at [] [] = Some []
numbers_at (k ∷ ks) (v ∷ vs) = beside (λ n ns. n ∷ ns) (number_at k (out-HlValue v)) (numbers_at ks vs)
numbers_at _ _ = None

-- a number as a value of its type
abbrev pub value_at : Kind → ℕ → HlValue
value_at Truth n = value.Bool (not (nat_eq n 0))
value_at (Number width) n = word_of width n

abbrev pub values_at : List Kind → List ℕ → List HlValue
values_at (k ∷ ks) (n ∷ ns) = value_at k n ∷ values_at ks ns
values_at _ _ = []

-- one result is itself; none and two are a tuple
abbrev pub result_of : List HlValue → HlValue
result_of (v ∷ []) = v
result_of vs = value.Tuple vs

-- a jet that gives no numbers fails
abbrev pub answer_at : List Kind → Option (List ℕ) → Answer HlValue
answer_at kinds (Some results) = gives (result_of (values_at kinds results))
answer_at kinds None = fails

abbrev pub row_answer : List HlValue → Row → Answer HlValue
row_answer arguments row = shaped (numbers_at row.arguments arguments) (λ ns. answer_at row.results (numbers row.jet row.narrow row.wide ns))

-- what the jet of a name gives for its arguments
unfoldable pub jet_answer : List ℕ → List HlValue → Answer HlValue
jet_answer name arguments = shaped (find (λ row. bytes_eq name row.name) rows) (row_answer arguments)
