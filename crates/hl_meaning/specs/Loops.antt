-- What loops give, by what their function gives: the recursions of loops at source values.
use Rattle.std.specs.Prelude.{ℕ, Bool, nat_eq, List, [], ◌∷◌}
use Rattle.std.specs.List.{list_any}
use Rattle.hl_data.specs.declared.value.HlValue.{HlValue}
use Rattle.hl_data.specs.declared.value.HlValue.TheOpen.{HlValue-F}
use Rattle.hl_data.specs.declared.value.HlValue.TheVariants as value
use Rattle.hl_data.specs.declared.value.HlValue.TheViews.{out-HlValue}
use Rattle.simplicity.specs.Loops.{Answering, Side, OnLeft, OnRight, OnNeither, Sides}
use Rattle.simplicity.specs.Loops as loop
use Rattle.hl_meaning.specs.Answer.{Answer, gives, stuck, and_then}
use Rattle.hl_meaning.specs.Values.{word_of}

-- a function of a program: what it gives for its arguments
abbrev pub Calls : Type 0
Calls = List HlValue → Answer HlValue

abbrev pub source_answering : Answering HlValue (Answer HlValue)
source_answering = record { gives = gives; and_then = and_then; stuck = stuck }

-- the side of a value of this shape
abbrev pub source_side : HlValue-F HlValue → Side HlValue
source_side (HlValue-F.Left v) = OnLeft v
source_side (HlValue-F.Right v) = OnRight v
source_side _ = OnNeither

abbrev pub source_sides : Sides HlValue
source_sides = record { side = λ v. source_side (out-HlValue v); left = value.Left; right = value.Right }

-- the items one after the other from the first, each with what was made of those before
abbrev pub folded : Calls → List HlValue → HlValue → Answer HlValue
folded f = loop.folded source_answering (λ item made. f (item ∷ made ∷ []))

-- Left ends the loop, Right goes on
abbrev pub go_on : (HlValue → Answer HlValue) → HlValue-F HlValue → Answer HlValue
go_on next v = loop.go_on source_answering source_sides next (source_side v)

-- the widths of a counter
abbrev pub is_counter_width : ℕ → Bool
is_counter_width width = list_any (nat_eq width) (1 ∷ 2 ∷ 4 ∷ 8 ∷ 16 ∷ [])

-- the counter goes up turn by turn; Left ends the loop, and after the last turn Right holds what was made
abbrev pub counted : Calls → (width : ℕ) (context : HlValue) (turns counter : ℕ) → HlValue → Answer HlValue
counted f width context = loop.counted source_answering source_sides (λ counter made. f (made ∷ context ∷ word_of width counter ∷ []))
