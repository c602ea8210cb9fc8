-- An evaluation has one answer, which is settled.
use Rattle.std.proofs.Common.{◌≡◌, ℕ, List, Option, Some, None, Ok, sym, ap, ◌∙◌, subst}
use Rattle.hl_data.specs.declared.typed.TypedFunction.{TypedFunction}
use Rattle.hl_data.specs.declared.value.Entry.{Entry}
use Rattle.hl_data.specs.declared.value.HlValue.{HlValue}
use Rattle.hl_eval.specs.Bindings.{bindings_of}
use Rattle.hl_files.specs.Reads.{IsOneReading, IsOneWantedReading}
use Rattle.hl_grammar.specs.Laws.{HasFronts, IsOne as IsOneTree}
use Rattle.hl_meaning.specs.Answer as meanings
use Rattle.hl_meaning.specs.Mean.{meaning}
use Rattle.hl_progress.specs.Calls.{argument_type, function_of}
use Rattle.hl_rules.specs.Programs.{Checked}
use Rattle.hl_syntax.specs.declared.kinds.HlType.{HlType}
use Rattle.hl_values.specs.Reads.{IsNoValueText}
use Rattle.hl_values.specs.Written.{IsValueText, written}
use Rattle.simplicityhl.specs.Grammar as grammar
use Rattle.simplicityhl.specs.Grammar.{Stands, most_depth}
use Rattle.simplicityhl.specs.Tokens.{Lexed}
use Rattle.checked_source.specs.Steps.{object_of, wanted}
use Rattle.checked_source.proofs.One.{one_checked, one_witnesses, settled_checked, settled_witnesses}
use Rattle.command_outcome.specs.Answer.{Answer, IsOneWhole, AreSettled}
use Rattle.command_outcome.proofs.OneSource.{one_refusal, one_done, settled_refusal, settled_done}
use Rattle.eval_command.specs.Evaluation.{Given, AfterMeaning, IsArgument, IsArgumentOf, FromArgument, FromWitnesses, IsEvaluation, missing, no_value, empty, value_text}
use Rattle.eval_command.specs.Law.{EvaluationIsOne}

settled_meaning : (answer : meanings.Answer HlValue) → AreSettled (AfterMeaning answer)
settled_meaning (meanings.gives v) s o e a = settled_done _ s o e a
settled_meaning meanings.fails s o e a = settled_refusal _ _ tt s o e a
settled_meaning meanings.stuck s o e a = absurd a

settled_argument : (Next : HlValue → Answer) → ((v : HlValue) → AreSettled (Next v)) → (kind : HlType) (input : Option (List ℕ)) → AreSettled (IsArgument kind input Next)
settled_argument Next each kind input s o e (empty given is a) = each _ s o e a
settled_argument Next each kind input s o e (missing given other a) = settled_refusal _ _ tt s o e a
settled_argument Next each kind input s o e (value_text text v given is a) = each v s o e a
settled_argument Next each kind input s o e (no_value text given none a) = settled_refusal _ _ tt s o e a

settled_argument_of : (Next : HlValue → Answer) → ((v : HlValue) → AreSettled (Next v)) → (function : Option TypedFunction) (input : Option (List ℕ)) → AreSettled (IsArgumentOf function input Next)
settled_argument_of Next each None input s o e a = absurd a
settled_argument_of Next each (Some f) input s o e a = settled_argument Next each (argument_type f.params) input s o e a

settled_from_argument : (given : Given) (program : Checked) (witness : List Entry) → AreSettled (FromArgument given program witness)
settled_from_argument given program witness s o e a =
    settled_argument_of (λ argument. AfterMeaning (meaning program.functions given.asked.function (bindings_of witness) argument)) (λ v. settled_meaning (meaning program.functions given.asked.function (bindings_of witness) v)) (function_of program.functions given.asked.function) given.input s o e a

settled_from_witnesses : (given : Given) (program : Checked) → AreSettled (FromWitnesses given program)
settled_from_witnesses given program s o e a = settled_witnesses (FromArgument given program) (settled_from_argument given program) (object_of given.witness) (wanted given.asked.function program) s o e a

pub settled_evaluation : (given : Given) (text : List ℕ) → AreSettled (IsEvaluation given text)
settled_evaluation given text s o e a = settled_checked (FromWitnesses given) (settled_from_witnesses given) given.asked text s o e a

-- all of a text
abbrev whole : List ℕ → List ℕ
whole = λ out. out

one_meaning : (answer : meanings.Answer HlValue) → IsOneWhole (AfterMeaning answer)
one_meaning (meanings.gives v) s t o p e f a b = one_done whole _ s t o p e f a b
one_meaning meanings.fails s t o p e f a b = one_refusal whole _ _ s t o p e f a b
one_meaning meanings.stuck s t o p e f a b = absurd a

same_value : IsOneTree grammar.value → (text : List ℕ) (kind : HlType) (v w : HlValue) → IsValueText text kind v → IsValueText text kind w → v ≡ w
same_value one text kind v w a b =
    let lexed : ◌≡◌ {A = Lexed} (Ok a.found) (Ok b.found) = sym a.lexed ∙ b.lexed in
    let found : a.found ≡ b.found = cc in
    let stands : Stands grammar.value most_depth a.found b.tree = subst (λ ts. Stands grammar.value most_depth ts b.tree) (sym found) b.stands in
    let tree : a.tree ≡ b.tree = one a.found a.tree b.tree (most_depth, a.stands) (most_depth, stands) in
    let walked : ◌≡◌ {A = Option HlValue} (Some v) (Some w) = sym a.walked ∙ (ap (λ x. written x kind) tree ∙ b.walked) in
    cc

same_text : (input : Option (List ℕ)) (a b : List ℕ) → input ≡ Some a → input ≡ Some b → a ≡ b
same_text input a b p q = let e : ◌≡◌ {A = Option (List ℕ)} (Some a) (Some b) = sym p ∙ q in cc

one_argument : IsOneTree grammar.value → (Next : HlValue → Answer) → ((v : HlValue) → IsOneWhole (Next v)) → (kind : HlType) (input : Option (List ℕ)) → IsOneWhole (IsArgument kind input Next)
one_argument one Next each kind input s t o p e f (empty none is a) (empty none' is' b) = each _ s t o p e f a b
one_argument one Next each kind input s t o p e f (empty none is a) (missing none' other b) = absurd (other is)
one_argument one Next each kind input s t o p e f (empty none is a) (value_text text v here is' b) = absurd (cc)
one_argument one Next each kind input s t o p e f (empty none is a) (no_value text here is' b) = absurd (cc)
one_argument one Next each kind input s t o p e f (missing none other a) (empty none' is b) = absurd (other is)
one_argument one Next each kind input s t o p e f (missing none other a) (missing none' other' b) = one_refusal whole _ _ s t o p e f a b
one_argument one Next each kind input s t o p e f (missing none other a) (value_text text v here is b) = absurd (cc)
one_argument one Next each kind input s t o p e f (missing none other a) (no_value text here is b) = absurd (cc)
one_argument one Next each kind input s t o p e f (value_text text v here is a) (empty none is' b) = absurd (cc)
one_argument one Next each kind input s t o p e f (value_text text v here is a) (missing none other b) = absurd (cc)
one_argument one Next each kind input s t o p e f (value_text text v here is a) (value_text text' w here' is' b) =
    let moved : IsValueText text kind w = subst (λ x. IsValueText x kind w) (same_text input text' text here' here) is' in
    each v s t o p e f a (subst (λ x. Next x t p f) (same_value one text kind w v moved is) b)
one_argument one Next each kind input s t o p e f (value_text text v here is a) (no_value text' here' is' b) =
    let moved : IsNoValueText text kind = subst (λ x. IsNoValueText x kind) (same_text input text' text here' here) is' in absurd (moved.none v is)
one_argument one Next each kind input s t o p e f (no_value text here is a) (empty none is' b) = absurd (cc)
one_argument one Next each kind input s t o p e f (no_value text here is a) (missing none other b) = absurd (cc)
one_argument one Next each kind input s t o p e f (no_value text here is a) (value_text text' v here' is' b) =
    let moved : IsNoValueText text' kind = subst (λ x. IsNoValueText x kind) (same_text input text text' here here') is in absurd (moved.none v is')
one_argument one Next each kind input s t o p e f (no_value text here is a) (no_value text' here' is' b) = one_refusal whole _ _ s t o p e f a b

one_argument_of : IsOneTree grammar.value → (Next : HlValue → Answer) → ((v : HlValue) → IsOneWhole (Next v)) → (function : Option TypedFunction) (input : Option (List ℕ)) → IsOneWhole (IsArgumentOf function input Next)
one_argument_of one Next each None input s t o p e f a b = absurd a
one_argument_of one Next each (Some g) input s t o p e f a b = one_argument one Next each (argument_type g.params) input s t o p e f a b

one_from_argument : IsOneTree grammar.value → (given : Given) (program : Checked) (witness : List Entry) → IsOneWhole (FromArgument given program witness)
one_from_argument value given program witness s t o p e f a b =
    one_argument_of value (λ argument. AfterMeaning (meaning program.functions given.asked.function (bindings_of witness) argument)) (λ argument. one_meaning (meaning program.functions given.asked.function (bindings_of witness) argument)) (function_of program.functions given.asked.function) given.input s t o p e f a b

one_from_witnesses : IsOneTree grammar.value → IsOneWantedReading → (given : Given) (program : Checked) → IsOneWhole (FromWitnesses given program)
one_from_witnesses value reading given program s t o p e f a b =
    one_witnesses whole reading (object_of given.witness) (wanted given.asked.function program) (FromArgument given program) (one_from_argument value given program) s t o p e f a b

pub one_evaluation : IsOneTree grammar.program → HasFronts grammar.program → IsOneTree grammar.value → IsOneReading → IsOneWantedReading → EvaluationIsOne
one_evaluation tree law value reading wanted_reading given text s t o p e f a b =
    one_checked whole tree law reading (FromWitnesses given) (one_from_witnesses value wanted_reading given) given.asked text s t o p e f a b
