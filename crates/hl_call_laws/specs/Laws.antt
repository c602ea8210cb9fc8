-- The laws of calls: the term of a function of a typed program gives what a call of it means.
use Rattle.std.specs.Prelude.{◌≡◌, ℕ, List, bytes_eq, find, Option, Some, None}
use Rattle.hl_data.specs.declared.typed.TypedFunction.{TypedFunction}
use Rattle.hl_data.specs.declared.value.HlValue.{HlValue}
use Rattle.hl_syntax.specs.declared.kinds.HlType.{HlType}
use Rattle.simplicity.specs.Arrows.{source, target, IsTypedTerm}
use Rattle.simplicity.specs.Canon.{erased}
use Rattle.simplicity.specs.Terms as core
use Rattle.simplicity.specs.Types.{Value}
use Rattle.simplicityhl.specs.Kinds.{form}
use Rattle.hl_meaning.specs.Answer.{Answer, gives, fails, stuck}
use Rattle.hl_meaning.specs.Mean.{meaning}
use Rattle.hl_meaning.specs.Scopes.{Binding}
use Rattle.hl_meaning.specs.Values.{encoded}
use Rattle.hl_rules.specs.Programs.{Checked}
use Rattle.hl_typing.specs.Programs.{ProgramTyped, witnesses_of}
use Rattle.hl_progress.specs.Calls.{FitsCall, argument_type}
use Rattle.hl_terms.specs.Translated.{Expansions, FunctionTerm}
use Rattle.hl_terms.specs.Programs.{program_terms}
use Rattle.hl_term_laws.specs.Renders.{Encodes, AreGiven, JetsRendered, LoopsRendered}
use Rattle.hl_expansions.specs.Expansions.{expansions}

-- the encoding of the value that is given, and failure exactly where it fails; and one of both is the case
abbrev pub Agrees : HlType → Answer HlValue → Option Value → Type 0
Agrees k (gives v) d = Encodes v k d
Agrees k fails d = d ≡ None
Agrees k stuck d = ⊥

-- the term of the function of a name: from the type of its one argument to that of its result, typed at every place, and on the core
-- value it agrees with what the source gives
pub record CallAgrees (terms : List FunctionTerm) (name : List ℕ) (f : TypedFunction) (a : Answer HlValue) (w : List Value) (input : Value) : Type 0 where
  pub term : FunctionTerm
  pub there : find (λ t. bytes_eq name t.name) terms ≡ Some term
  pub from : source term.term ≡ form (argument_type f.params)
  pub to : target term.term ≡ form f.result
  pub typed : IsTypedTerm term.term
  pub agrees : Agrees f.result a (core.meaning (erased term.term) w input)

-- each call of a typed program that fits it, on the encoding of its argument, with the encodings of the witnesses that it may name,
-- whatever jets and loops are made of
abbrev pub CallsAgree : Type 0
CallsAgree =
    (x : Expansions) (edition : ℕ) (program : Checked) → JetsRendered x → LoopsRendered x → ProgramTyped program →
    (name : List ℕ) (argument : HlValue) (given : List Binding) (call : FitsCall program name argument given) (input : Value) (w : List Value) →
    encoded argument (argument_type call.function.params) ≡ Some input → AreGiven (witnesses_of name program.witnesses) given w →
    CallAgrees (program_terms x edition program.witnesses program.functions) name call.function (meaning program.functions name given argument) w input

-- the same with the jets and the loops of this compiler
abbrev pub CompiledCallsAgree : Type 0
CompiledCallsAgree =
    (edition : ℕ) (program : Checked) → ProgramTyped program → (name : List ℕ) (argument : HlValue) (given : List Binding)
    (call : FitsCall program name argument given) (input : Value) (w : List Value) →
    encoded argument (argument_type call.function.params) ≡ Some input → AreGiven (witnesses_of name program.witnesses) given w →
    CallAgrees (program_terms expansions edition program.witnesses program.functions) name call.function
    (meaning program.functions name given argument) w input
