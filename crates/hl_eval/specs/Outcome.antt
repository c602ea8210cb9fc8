-- What the code answers for what a part of a program gives.
use Rattle.std.specs.Prelude.{◌≡◌, Result, Ok, Err, Option, Some, None}
use Rattle.hl_meaning.specs.Answer.{Answer, gives, fails, stuck}
use Rattle.hl_meaning.specs.Mean.{Meaning, StatementMeaning}
use Rattle.hl_meaning.specs.Scopes.{Scope}
use Rattle.hl_eval.specs.Over.{IsOver}
use Rattle.hl_eval.specs.declared.fault.EvalFault.{EvalFault}
use Rattle.hl_eval.specs.declared.fault.EvalFault.TheVariants as fault

-- a fault is that of the answer; memory may always be short
abbrev pub HasFault : {A : Type 0} → Answer A → EvalFault → Type 0
HasFault answer fault.Failed = answer ≡ fails
HasFault answer fault.NoAnswer = answer ≡ stuck
HasFault answer fault.OutOfMemory = Unit {0}

-- the value exactly where the answer has it
abbrev pub AnswersMeaning : {A : Type 0} → Answer A → Result A EvalFault → Type 0
AnswersMeaning answer (Ok v) = answer ≡ gives v
AnswersMeaning answer (Err e) = HasFault answer e

-- a fault because no such scope is there, or for want of memory
abbrev pub IsLacking : Option Scope → EvalFault → Type 0
IsLacking wanted fault.Failed = ⊥
IsLacking wanted fault.NoAnswer = wanted ≡ None
IsLacking wanted fault.OutOfMemory = Unit {0}

-- the scope that is wanted, exactly where it is there
abbrev pub Leaves : {A : Type 0} → Option Scope → Result A EvalFault → Scope → Type 0
Leaves wanted (Ok _) new = wanted ≡ Some new
Leaves wanted (Err e) new = IsLacking wanted e

-- what a statement does to a scope, whatever comes after it
pub record Continues (s : StatementMeaning) (old new : Scope) : Type 0 where
  pub over : IsOver new old
  pub next : (after : Meaning) → s after old ≡ after new

pub record Stops (s : StatementMeaning) (old : Scope) (e : EvalFault) : Type 0 where
  pub fault : (after : Meaning) → HasFault (s after old) e

abbrev pub Goes : {A : Type 0} → StatementMeaning → Scope → Result A EvalFault → Scope → Type 0
Goes s old (Ok _) new = Continues s old new
Goes s old (Err e) new = Stops s old e
