-- What the words ask for and what the files hold have one outcome.
use Rattle.std.proofs.Common.{◌≡◌, ℕ, List, [], ◌∷◌, refl}
use Rattle.simplicityhl.specs.Grammar.{program}
use Rattle.hl_grammar.specs.Laws.{HasFronts, IsOne as IsOneTree}
use Rattle.command_outcome.specs.Answer.{IsOneIn, IsOneWhole}
use Rattle.command_outcome.proofs.OneSource.{one_refusal, one_source}
use Rattle.command_files.specs.Files.{after_named, next_named}
use Rattle.command_files.proofs.Whole.{one_reading}
use Rattle.command_words.specs.Words.{Evaluation, Reading, BuildOf, EvalOf, Misfit}
use Rattle.eval_command.specs.Law.{EvaluationIsOne}
use Rattle.top_call.specs.Outcome.{AfterFiles, IsSmallOutcome, OutcomeIsOne, EvalOutcomeIsOne, files_of, given}
use Rattle.top_call.proofs.Small.{one_small}

one_eval_after : EvaluationIsOne → (asked : Evaluation) (found : List (List ℕ)) → IsOneWhole (AfterFiles (EvalOf asked) found)
one_eval_after one asked [] s t o p e f a b = absurd a
one_eval_after one asked (source ∷ found) s t o p e f a b = one (given asked (next_named asked.args found) (next_named asked.witness (after_named asked.args found))) source s t o p e f a b

pub one_eval_outcome : EvaluationIsOne → EvalOutcomeIsOne
one_eval_outcome one asked contents s t o p e f a b = one_reading (λ out. out) (files_of (EvalOf asked)) (AfterFiles (EvalOf asked)) (one_eval_after one asked) contents s t o p e f a b

-- nothing of a text
abbrev nothing : List ℕ → List ℕ
nothing = λ out. []

one_after : IsOneTree program → HasFronts program → EvaluationIsOne → (reading : Reading) (found : List (List ℕ)) → IsOneIn nothing (AfterFiles reading found)
one_after tree law one (Misfit index) found s t o p e f a b = one_refusal nothing _ _ s t o p e f a b
one_after tree law one (BuildOf file asked) [] s t o p e f a b = absurd a
one_after tree law one (BuildOf file asked) (source ∷ found) s t o p e f a b = one_source nothing law tree (λ _. IsSmallOutcome source asked) (λ _. one_small source asked) source s t o p e f a b
one_after tree law one (EvalOf asked) found s t o p e f a b = let same = one_eval_after one asked found s t o p e f a b in (same.0, (refl, same.1.1))

pub one_outcome : IsOneTree program → HasFronts program → EvaluationIsOne → OutcomeIsOne
one_outcome tree law one reading contents s t o p e f a b = let same = one_reading nothing (files_of reading) (AfterFiles reading) (one_after tree law one reading) contents s t o p e f a b in (same.0, same.1.1)
