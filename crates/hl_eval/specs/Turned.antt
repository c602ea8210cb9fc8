-- What a turn of a loop comes to.
use Rattle.hl_data.specs.declared.value.HlValue.{HlValue}
use Rattle.hl_data.specs.declared.value.HlValue.TheOpen.{HlValue-F}
use Rattle.hl_meaning.specs.Answer.{Answer, gives, stuck}
use Rattle.hl_eval.specs.declared.turn.Turn.{Turn}
use Rattle.hl_eval.specs.declared.turn.Turn.TheVariants as turn

-- Left is the last turn, Right goes on
abbrev pub turned : HlValue-F HlValue → Answer Turn
turned (HlValue-F.Left v) = gives (turn.Last v)
turned (HlValue-F.Right v) = gives (turn.Next v)
turned _ = stuck
