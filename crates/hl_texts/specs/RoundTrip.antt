-- Reading what was printed.
use Rattle.std.specs.Prelude.{◌≡◌, ◌⊎◌, ℕ, suc, ◌<◌, ◌≤◌, List, [], ◌∷◌, max, Result, Ok, Err}
use Rattle.hl_data.specs.declared.value.HlValue.{HlValue}
use Rattle.hl_data.specs.declared.value.HlValue.TheOpen.{HlValue-F}
use Rattle.hl_data.specs.declared.value.HlValue.TheFolds.{fold-HlValue}
use Rattle.hl_syntax.specs.declared.kinds.HlType.{HlType}
use Rattle.simplicityhl.specs.Grammar.{most_depth}
use Rattle.simplicityhl.specs.Kinds.{IsSound}
use Rattle.hl_meaning.specs.Entries.{IsValueOf}
use Rattle.hl_values.specs.Printed.{printed}
use Rattle.hl_values.specs.Reads.{IsNoValueText, ReadsValue}
use Rattle.hl_values.specs.Written.{IsValueText}
use Rattle.hl_values.specs.declared.refusal.ValueRefusal.{ValueRefusal}
use Rattle.hl_values.specs.declared.refusal.ValueRefusal.TheVariants.{OutOfMemory}

abbrev pub greatest : List ℕ → ℕ
greatest [] = 0
greatest (n ∷ ns) = max n (greatest ns)

-- how deep a value with these parts is nested: one without parts once, any other once more than its deepest part
abbrev pub nesting_step : HlValue-F ℕ → ℕ
nesting_step (HlValue-F.Bool b) = 1
nesting_step (HlValue-F.Number u) = 1
nesting_step (HlValue-F.Tuple parts) = suc (greatest parts)
nesting_step (HlValue-F.Array items) = suc (greatest items)
nesting_step (HlValue-F.List items) = suc (greatest items)
nesting_step HlValue-F.Nothing = 1
nesting_step (HlValue-F.Some part) = suc part
nesting_step (HlValue-F.Left part) = suc part
nesting_step (HlValue-F.Right part) = suc part

-- how deep a value is nested
abbrev pub nesting : HlValue → ℕ
nesting v = fold-HlValue ℕ nesting_step v

-- the printed text of a value of a sound type, nested as deep as the grammar allows, is a value text of the type for that value
abbrev pub PrintedIsRead : Type 0
PrintedIsRead = (kind : HlType) (v : HlValue) → IsSound kind → IsValueOf v kind → nesting v ≤ most_depth → IsValueText (printed v) kind v

-- the printed text of one that is nested deeper is no value text of the type
abbrev pub DeeperIsNoText : Type 0
DeeperIsNoText = (kind : HlType) (v : HlValue) → IsSound kind → IsValueOf v kind → most_depth < nesting v → IsNoValueText (printed v) kind

-- a text is a value text of a type for one value at most
abbrev pub TextIsOne : Type 0
TextIsOne = (text : List ℕ) (kind : HlType) (v w : HlValue) → IsValueText text kind v → IsValueText text kind w → v ≡ w

-- what reading the printed text answers is the value, unless memory was short
abbrev pub ReadsAgain : Type 0
ReadsAgain =
    (kind : HlType) (v : HlValue) (answer : Result HlValue ValueRefusal) → IsSound kind → IsValueOf v kind → nesting v ≤ most_depth → ReadsValue (printed v) kind answer →
    (answer ≡ Ok v) ⊎ (answer ≡ Err OutOfMemory)
