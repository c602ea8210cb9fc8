-- The arguments of a jet as words.
use Rattle.std.specs.Prelude.{◌≡◌, List, map, Some, None}
use Rattle.hl_data.specs.declared.value.HlValue.{HlValue}
use Rattle.jets.specs.Jet.{Kind, width_of}
use Rattle.jets.specs.Unsigned.{Unsigned}
use Rattle.hl_meaning.specs.Jets.{numbers_at}
use Rattle.word_math.specs.Answer.{numbers_of, widths_of}
use Rattle.hl_eval.specs.declared.fault.EvalFault.{EvalFault}
use Rattle.hl_eval.specs.declared.fault.EvalFault.TheVariants as fault

-- words of the types with the arguments' numbers
pub record AreWords (kinds : List Kind) (arguments : List HlValue) (words : List Unsigned) : Type 0 where
  pub numbers : numbers_at kinds arguments ≡ Some (numbers_of words)
  pub widths : widths_of words ≡ map width_of kinds

abbrev pub IsUnlike : List Kind → List HlValue → EvalFault → Type 0
IsUnlike kinds arguments fault.Failed = ⊥
IsUnlike kinds arguments fault.NoAnswer = numbers_at kinds arguments ≡ None
IsUnlike kinds arguments fault.OutOfMemory = Unit {0}
