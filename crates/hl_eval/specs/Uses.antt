-- What expressions do with the values of their parts.
use Rattle.std.specs.Prelude.{List, Option}
use Rattle.hl_data.specs.declared.value.HlValue.{HlValue}
use Rattle.hl_data.specs.declared.value.HlValue.TheOpen.{HlValue-F}
use Rattle.hl_data.specs.declared.value.HlValue.TheVariants as value
use Rattle.hl_data.specs.declared.value.HlValue.TheViews.{out-HlValue}
use Rattle.hl_meaning.specs.Answer.{Answer, gives}
use Rattle.hl_meaning.specs.Mean.{asserted, unwrapped, unwrapped_left, unwrapped_right, none_tested, items_in_list, items_in_array}
use Rattle.hl_eval.specs.declared.uses.Use.{Use}
use Rattle.hl_eval.specs.declared.uses.Use.TheVariants as how
use Rattle.hl_eval.specs.declared.uses.Items.{Items}
use Rattle.hl_eval.specs.declared.uses.Items.TheVariants as from

abbrev pub use_of : Use → HlValue → Answer HlValue
use_of how.Assert v = asserted (out-HlValue v)
use_of how.Dbg v = gives v
use_of how.Unwrap v = unwrapped (out-HlValue v)
use_of how.UnwrapLeft v = unwrapped_left (out-HlValue v)
use_of how.UnwrapRight v = unwrapped_right (out-HlValue v)
use_of how.IsNone v = none_tested (out-HlValue v)
use_of how.Left v = gives (value.Left v)
use_of how.Right v = gives (value.Right v)
use_of how.Some v = gives (value.Some v)

abbrev pub items_in : Items → HlValue-F HlValue → Option (List HlValue)
items_in from.List v = items_in_list v
items_in from.Array v = items_in_array v
