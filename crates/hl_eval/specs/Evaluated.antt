-- What a call of a checked program's function answers.
use Rattle.std.specs.Prelude.{◌≡◌, ℕ, List, Result, Ok, Err, Some}
use Rattle.hl_data.specs.declared.typed.TypedFunction.{TypedFunction}
use Rattle.hl_data.specs.declared.value.HlValue.{HlValue}
use Rattle.hl_meaning.specs.Answer.{Answer, gives, fails}
use Rattle.hl_rules.specs.Programs.{Checked}
use Rattle.hl_progress.specs.Calls.{function_of}
use Rattle.hl_meaning.specs.Entries.{IsValueOf}
use Rattle.hl_eval.specs.declared.refusal.EvalRefusal.{EvalRefusal}
use Rattle.hl_eval.specs.declared.refusal.EvalRefusal.TheVariants as refusal

-- the value that the meaning gives, or failure exactly where it fails; memory may always be short
abbrev pub IsEvaluated : Answer HlValue → Result HlValue EvalRefusal → Type 0
IsEvaluated answer (Ok v) = answer ≡ gives v
IsEvaluated answer (Err refusal.Failed) = answer ≡ fails
IsEvaluated answer (Err refusal.OutOfMemory) = Unit {0}

-- the value is of the result type of the program's function of the name
abbrev pub IsResultOf : Checked → List ℕ → HlValue → Type 0
IsResultOf program name value = (f : TypedFunction) → function_of program.functions name ≡ Some f → IsValueOf value f.result
