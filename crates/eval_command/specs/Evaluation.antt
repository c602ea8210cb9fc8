-- What evaluating a function of a source answers, by the bytes of its files.
use Rattle.std.specs.Prelude.{◌≡◌, ◌≢◌, ℕ, List, [], Option, Some, None, codes}
use Rattle.hl_data.specs.declared.typed.TypedFunction.{TypedFunction}
use Rattle.hl_data.specs.declared.value.Entry.{Entry}
use Rattle.hl_data.specs.declared.value.HlValue.{HlValue}
use Rattle.hl_data.specs.declared.value.HlValue.TheVariants as value
use Rattle.hl_eval.specs.Bindings.{bindings_of}
use Rattle.hl_meaning.specs.Answer as meanings
use Rattle.hl_meaning.specs.Mean.{meaning}
use Rattle.hl_progress.specs.Calls.{argument_type, function_of}
use Rattle.hl_rules.specs.Programs.{Checked}
use Rattle.hl_rules.specs.Same.{unit_type}
use Rattle.hl_syntax.specs.declared.kinds.HlType.{HlType}
use Rattle.hl_values.specs.Printed.{printed}
use Rattle.hl_values.specs.Reads.{IsNoValueText}
use Rattle.hl_values.specs.Written.{IsValueText}
use Rattle.checked_source.specs.Steps.{Asked, IsCheckedSource, IsWitnesses, object_of, wanted}
use Rattle.command_outcome.specs.declared.names.DataCause.TheVariants.{Missing, NotValue}
use Rattle.command_outcome.specs.declared.status.Status.{Status}
use Rattle.command_outcome.specs.Answer.{Answer, Never, IsDone}
use Rattle.command_outcome.specs.Leads.{Step}
use Rattle.command_outcome.specs.Refusals.{IsData, IsFailure}
use Rattle.command_outcome.specs.Texts.{value_line}

-- what an evaluation is given beside its source: what is asked of the source, the witness file, and the text of the argument
pub record Given : Type 0 where
  pub asked : Asked
  pub witness : Option (List ℕ)
  pub input : Option (List ℕ)

-- The argument: where no text is given it is `()`, and is missing where the type is another.
pub data IsArgument (kind : HlType) (input : Option (List ℕ)) (Next : HlValue → Answer) (status : Status) (out err : List ℕ) : Type 0 where
  empty : input ≡ None → kind ≡ unit_type → Next (value.Tuple []) status out err → IsArgument kind input Next status out err
  missing : input ≡ None → kind ≢ unit_type → IsData Missing (codes "input") status out err → IsArgument kind input Next status out err
  value_text : (text : List ℕ) (v : HlValue) → input ≡ Some text → IsValueText text kind v → Next v status out err → IsArgument kind input Next status out err
  no_value : (text : List ℕ) → input ≡ Some text → IsNoValueText text kind → IsData NotValue (codes "input") status out err → IsArgument kind input Next status out err

abbrev pub IsArgumentOf : Option TypedFunction → Option (List ℕ) → Step HlValue
IsArgumentOf None input Next = Never
IsArgumentOf (Some function) input Next = IsArgument (argument_type function.params) input Next

-- What the function means: a value, which is printed, or failure.
abbrev pub AfterMeaning : meanings.Answer HlValue → Answer
AfterMeaning (meanings.gives v) = IsDone (value_line (printed v))
AfterMeaning meanings.fails = IsFailure
AfterMeaning meanings.stuck = Never

-- The steps, the last first.

abbrev pub FromArgument : Given → Checked → List Entry → Answer
FromArgument given program witness =
    IsArgumentOf (function_of program.functions given.asked.function) given.input (λ argument. AfterMeaning (meaning program.functions given.asked.function (bindings_of witness) argument))

abbrev pub FromWitnesses : Given → Checked → Answer
FromWitnesses given program = IsWitnesses (object_of given.witness) (wanted given.asked.function program) (FromArgument given program)

abbrev pub IsEvaluation : Given → List ℕ → Answer
IsEvaluation given text = IsCheckedSource given.asked text (FromWitnesses given)
