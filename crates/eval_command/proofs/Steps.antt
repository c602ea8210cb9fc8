-- The steps of an evaluation.
use Rattle.std.proofs.Common.{◌≡◌, ◌≢◌, ℕ, List, [], Option, Some, None, Result, Ok, Err, refl, sym, ap, ◌∙◌, subst, codes}
use Rattle.std.specs.declared.string.String.{String}
use Rattle.std.specs.Option.{option_copied}
use denote.Bor.{Bor}
use Rattle.hl_data.specs.declared.typed.TypedFunction.{TypedFunction}
use Rattle.hl_data.specs.declared.value.HlValue.{HlValue}
use Rattle.hl_data.specs.declared.value.HlValue.TheVariants as value
use Rattle.hl_meaning.specs.Answer as meanings
use Rattle.hl_progress.specs.Calls.{argument_type, function_of}
use Rattle.hl_rules.specs.Same.{unit_type}
use Rattle.hl_syntax.specs.declared.kinds.HlType.{HlType}
use Rattle.hl_values.specs.Printed.{printed}
use Rattle.hl_values.specs.Reads.{IsNoValueText}
use Rattle.hl_values.specs.Written.{IsValueText}
use Rattle.command_outcome.specs.declared.names.DataCause.TheVariants as causes
use Rattle.command_outcome.specs.declared.status.Status.{Status}
use Rattle.command_outcome.specs.declared.status.Status.TheVariants.{Done}
use Rattle.command_outcome.specs.declared.stop.Stop.{Stop}
use Rattle.command_outcome.specs.Answer.{Answer, Never}
use Rattle.command_outcome.specs.Leads.{Leads}
use Rattle.command_outcome.specs.Refusals.{IsData, IsFailure}
use Rattle.command_outcome.specs.Stops.{GivesLine, Stops}
use Rattle.command_outcome.specs.Texts.{value_line}
use Rattle.command_outcome.proofs.Leading.{Grows, led_line, stopped}
use Rattle.command_outcome.proofs.Stopping.{stops_in}
use Rattle.eval_command.specs.Evaluation.{AfterMeaning, IsArgument, IsArgumentOf, missing, no_value, empty, value_text}

-- The argument.
grows_argument : (kind : HlType) (input : Option (List ℕ)) → Grows (IsArgument kind input)
grows_argument kind input A B s o e more (empty given is a) = empty given is (more (value.Tuple []) a)
grows_argument kind input A B s o e more (missing given other a) = missing given other a
grows_argument kind input A B s o e more (value_text text v given is a) = value_text text v given is (more v a)
grows_argument kind input A B s o e more (no_value text given none a) = no_value text given none a

pub empty_read : (kind : HlType) (input : Option (List ℕ)) (v : HlValue) → input ≡ None → kind ≡ unit_type → v ≡ value.Tuple [] → Leads (IsArgument kind input) (Ok v)
empty_read kind input v none is made = λ s o e. empty none is (sym made)

pub value_read : (kind : HlType) (input : Option (List ℕ)) (text : List ℕ) (v : HlValue) → input ≡ Some text → IsValueText text kind v → Leads (IsArgument kind input) (Ok v)
value_read kind input text v given is = λ s o e. value_text text v given is refl

pub missing_stops : (kind : HlType) (input : Option (List ℕ)) (stop : Stop) → input ≡ None → kind ≢ unit_type → Stops (IsData causes.Missing (codes "input")) stop → Leads {X = HlValue} (IsArgument kind input) (Err stop)
missing_stops kind input stop none other is = stops_in (IsData causes.Missing (codes "input")) (IsArgument kind input (λ _. Never)) stop (λ s o e a. missing none other a) is

pub no_value_stops : (kind : HlType) (input : Option (List ℕ)) (text : List ℕ) (stop : Stop) → input ≡ Some text → IsNoValueText text kind → Stops (IsData causes.NotValue (codes "input")) stop → Leads {X = HlValue} (IsArgument kind input) (Err stop)
no_value_stops kind input text stop given none is = stops_in (IsData causes.NotValue (codes "input")) (IsArgument kind input (λ _. Never)) stop (λ s o e a. no_value text given none a) is

-- The meaning.
pub value_given : (answer : meanings.Answer HlValue) (v : HlValue) (text line : List ℕ) → answer ≡ meanings.gives v → text ≡ printed v → line ≡ value_line text → AfterMeaning answer Done line []
value_given answer v text line is shown lined = rw is (record { status_is = refl; text_is = lined ∙ ap value_line shown; nothing = refl })

pub failure_stops : (answer : meanings.Answer HlValue) (stop : Stop) → answer ≡ meanings.fails → Stops IsFailure stop → Stops (AfterMeaning answer) stop
failure_stops answer stop fails is = rw fails is

-- The function of a name.
pub found_is : (fs gs : List TypedFunction) (name : List ℕ) (o : Option (Bor TypedFunction)) (f : Bor TypedFunction) → o ≡ Some f → option_copied o ≡ function_of fs name → fs ≡ gs → function_of gs name ≡ Some f.now
found_is fs gs name o f is found same = sym (ap (λ hs. function_of hs name) same) ∙ (sym found ∙ ap option_copied is)

pub argument_of_read : {G : Type 0} (found : Option TypedFunction) (f : TypedFunction) (kind : HlType) (input : Option (List ℕ)) (Next : HlValue → Answer) (v : HlValue) (r : Result (String G) Stop) → found ≡ Some f → kind ≡ argument_type f.params → Leads (IsArgument kind input) (Ok v) → GivesLine (Next v) r → GivesLine (IsArgumentOf found input Next) r
argument_of_read found f kind input Next v r is typed read given =
    rw is (led_line (IsArgument (argument_type f.params) input) Next v r (grows_argument (argument_type f.params) input) (subst (λ k. Leads (IsArgument k input) (Ok v)) typed read) given)

pub argument_of_stops : (found : Option TypedFunction) (f : TypedFunction) (kind : HlType) (input : Option (List ℕ)) (Next : HlValue → Answer) (stop : Stop) → found ≡ Some f → kind ≡ argument_type f.params → Leads {X = HlValue} (IsArgument kind input) (Err stop) → Stops (IsArgumentOf found input Next) stop
argument_of_stops found f kind input Next stop is typed read =
    rw is (stopped (IsArgument (argument_type f.params) input) Next stop (grows_argument (argument_type f.params) input) (subst (λ k. Leads {X = HlValue} (IsArgument k input) (Err stop)) typed read))
