-- A source, the entries and the rules have one answer where what comes after them has one, and it is settled where that is.
use Rattle.std.proofs.Common.{◌≡◌, ◌≢◌, ℕ, List, length, Option, Some, None, Result, Ok, Err, subst}
use Rattle.hl_data.specs.declared.value.Entry.{Entry}
use Rattle.hl_files.specs.Params.{param_names}
use Rattle.hl_files.specs.Reads.{IsOneReading, IsOneWantedReading}
use Rattle.hl_files.specs.declared.refusal.TextRefusal.{TextRefusal}
use Rattle.hl_files.specs.declared.refusal.TextRefusal.TheVariants as text_refusal
use Rattle.hl_files.specs.declared.refusal.WantedRefusal.{WantedRefusal}
use Rattle.hl_files.specs.declared.refusal.WantedRefusal.TheVariants as wanted_refusal
use Rattle.hl_grammar.specs.Laws.{HasFronts, IsOne as IsOneTree}
use Rattle.hl_rules.specs.Programs.{Checked, checked}
use Rattle.hl_syntax.specs.declared.kinds.TypedName.{TypedName}
use Rattle.hl_syntax.specs.declared.tree.Item.{Item}
use Rattle.simplicityhl.specs.Grammar as grammar
use Rattle.simplicityhl.specs.Written.{Broken, breaks_rule, breaks_limit}
use Rattle.command_outcome.specs.declared.status.Status.{Status}
use Rattle.command_outcome.specs.Answer.{Answer, IsOneIn, AreSettled}
use Rattle.command_outcome.proofs.OneSource.{one_source, one_refusal, settled_refusal, settled_source}
use Rattle.checked_source.specs.Steps.{AfterArgs, AfterRules, AfterWitnesses, Asked, FromArgs, FromRules, IsArgs, IsBadArgs, IsBadProgram, IsBadWitnesses, IsCheckedSource, IsGivenWitnesses, IsWitnesses, object_of}

-- Settled answers.

settled_bad_args : (refusal : TextRefusal) → AreSettled (IsBadArgs refusal)
settled_bad_args text_refusal.NotJson s o e a = settled_refusal _ _ tt s o e a
settled_bad_args (text_refusal.BadEntry name) s o e a = settled_refusal _ _ tt s o e a
settled_bad_args (text_refusal.BadValue name) s o e a = settled_refusal _ _ tt s o e a
settled_bad_args text_refusal.OutOfMemory s o e a = absurd a

settled_bad_witnesses : (refusal : WantedRefusal) → AreSettled (IsBadWitnesses refusal)
settled_bad_witnesses wanted_refusal.NotJson s o e a = settled_refusal _ _ tt s o e a
settled_bad_witnesses (wanted_refusal.Missing name) s o e a = settled_refusal _ _ tt s o e a
settled_bad_witnesses (wanted_refusal.BadEntry name) s o e a = settled_refusal _ _ tt s o e a
settled_bad_witnesses (wanted_refusal.TypeDiffers name) s o e a = settled_refusal _ _ tt s o e a
settled_bad_witnesses (wanted_refusal.BadValue name) s o e a = settled_refusal _ _ tt s o e a
settled_bad_witnesses wanted_refusal.OutOfMemory s o e a = absurd a

settled_bad_program : (broken : Broken) → AreSettled (IsBadProgram broken)
settled_bad_program (breaks_rule rule span) s o e a = settled_refusal _ _ tt s o e a
settled_bad_program (breaks_limit limit span) s o e a = settled_refusal _ _ tt s o e a

settled_rules : (Next : Checked → Answer) → ((p : Checked) → AreSettled (Next p)) → (found : Result Checked Broken) → AreSettled (AfterRules found Next)
settled_rules Next each (Ok p) s o e a = each p s o e a
settled_rules Next each (Err broken) s o e a = settled_bad_program broken s o e a

settled_after_args : (Next : List Entry → Answer) → ((es : List Entry) → AreSettled (Next es)) → (found : Result (List Entry) TextRefusal) → AreSettled (AfterArgs found Next)
settled_after_args Next each (Ok es) s o e a = each es s o e a
settled_after_args Next each (Err refusal) s o e a = settled_bad_args refusal s o e a

settled_after_witnesses : (Next : List Entry → Answer) → ((es : List Entry) → AreSettled (Next es)) → (found : Result (List Entry) WantedRefusal) → AreSettled (AfterWitnesses found Next)
settled_after_witnesses Next each (Ok es) s o e a = each es s o e a
settled_after_witnesses Next each (Err refusal) s o e a = settled_bad_witnesses refusal s o e a

pub settled_witnesses : (Next : List Entry → Answer) → ((es : List Entry) → AreSettled (Next es)) → (file : List ℕ) (names : List TypedName) → AreSettled (IsWitnesses file names Next)
settled_witnesses Next each file names s o e a = settled_after_witnesses Next each a.found s o e a.answer

pub settled_given : (Next : Option (List Entry) → Answer) → ((es : Option (List Entry)) → AreSettled (Next es)) → (file : Option (List ℕ)) (names : List TypedName) → AreSettled (IsGivenWitnesses file names Next)
settled_given Next each None names s o e a = each None s o e a
settled_given Next each (Some file) names s o e a = settled_witnesses (λ es. Next (Some es)) (λ es. each (Some es)) file names s o e a

settled_from_args : (Next : Checked → Answer) → ((p : Checked) → AreSettled (Next p)) → (asked : Asked) (end : ℕ) (tree : List Item) → AreSettled (FromArgs asked end tree Next)
settled_from_args Next each asked end tree s o e a = settled_after_args (λ params. FromRules asked end tree params Next) (λ params. settled_rules Next each (checked tree asked.function params asked.edition end)) a.found s o e a.answer

pub settled_checked : (Next : Checked → Answer) → ((p : Checked) → AreSettled (Next p)) → (asked : Asked) (text : List ℕ) → AreSettled (IsCheckedSource asked text Next)
settled_checked Next each asked text s o e a = settled_source (λ tree. FromArgs asked (length text) tree Next) (settled_from_args Next each asked (length text)) text s o e a

-- One answer, of whose text on `out` a part is seen.

module _ (part : List ℕ → List ℕ) where
  one_bad_args : (refusal : TextRefusal) → IsOneIn part (IsBadArgs refusal)
  one_bad_args text_refusal.NotJson s t o p e f a b = one_refusal part _ _ s t o p e f a b
  one_bad_args (text_refusal.BadEntry name) s t o p e f a b = one_refusal part _ _ s t o p e f a b
  one_bad_args (text_refusal.BadValue name) s t o p e f a b = one_refusal part _ _ s t o p e f a b
  one_bad_args text_refusal.OutOfMemory s t o p e f a b = absurd a

  one_bad_witnesses : (refusal : WantedRefusal) → IsOneIn part (IsBadWitnesses refusal)
  one_bad_witnesses wanted_refusal.NotJson s t o p e f a b = one_refusal part _ _ s t o p e f a b
  one_bad_witnesses (wanted_refusal.Missing name) s t o p e f a b = one_refusal part _ _ s t o p e f a b
  one_bad_witnesses (wanted_refusal.BadEntry name) s t o p e f a b = one_refusal part _ _ s t o p e f a b
  one_bad_witnesses (wanted_refusal.TypeDiffers name) s t o p e f a b = one_refusal part _ _ s t o p e f a b
  one_bad_witnesses (wanted_refusal.BadValue name) s t o p e f a b = one_refusal part _ _ s t o p e f a b
  one_bad_witnesses wanted_refusal.OutOfMemory s t o p e f a b = absurd a

  one_bad_program : (broken : Broken) → IsOneIn part (IsBadProgram broken)
  one_bad_program (breaks_rule rule span) s t o p e f a b = one_refusal part _ _ s t o p e f a b
  one_bad_program (breaks_limit limit span) s t o p e f a b = one_refusal part _ _ s t o p e f a b

  one_rules : (Next : Checked → Answer) → ((p : Checked) → IsOneIn part (Next p)) → (found : Result Checked Broken) → IsOneIn part (AfterRules found Next)
  one_rules Next each (Ok program) s t o p e f a b = each program s t o p e f a b
  one_rules Next each (Err broken) s t o p e f a b = one_bad_program broken s t o p e f a b

  one_after_args : (Next : List Entry → Answer) → ((es : List Entry) → IsOneIn part (Next es)) → (found : Result (List Entry) TextRefusal) → IsOneIn part (AfterArgs found Next)
  one_after_args Next each (Ok es) s t o p e f a b = each es s t o p e f a b
  one_after_args Next each (Err refusal) s t o p e f a b = one_bad_args refusal s t o p e f a b

  args_answered : (Next : List Entry → Answer) (found : Result (List Entry) TextRefusal) (s : Status) (o e : List ℕ) → AfterArgs found Next s o e → found ≢ Err text_refusal.OutOfMemory
  args_answered Next found s o e a is = let never : AfterArgs (Err text_refusal.OutOfMemory) Next s o e = subst (λ r. AfterArgs r Next s o e) is a in never

  one_args : IsOneReading → (file : List ℕ) (names : List (List ℕ)) (Next : List Entry → Answer) → ((es : List Entry) → IsOneIn part (Next es)) → IsOneIn part (IsArgs file names Next)
  one_args law file names Next each s t o p e f a b =
      let same : b.found ≡ a.found = law file names b.found a.found b.read a.read (args_answered Next b.found t p f b.answer) (args_answered Next a.found s o e a.answer) in
      one_after_args Next each a.found s t o p e f a.answer (subst (λ r. AfterArgs r Next t p f) same b.answer)

  one_after_witnesses : (Next : List Entry → Answer) → ((es : List Entry) → IsOneIn part (Next es)) → (found : Result (List Entry) WantedRefusal) → IsOneIn part (AfterWitnesses found Next)
  one_after_witnesses Next each (Ok es) s t o p e f a b = each es s t o p e f a b
  one_after_witnesses Next each (Err refusal) s t o p e f a b = one_bad_witnesses refusal s t o p e f a b

  witnesses_answered : (Next : List Entry → Answer) (found : Result (List Entry) WantedRefusal) (s : Status) (o e : List ℕ) → AfterWitnesses found Next s o e → found ≢ Err wanted_refusal.OutOfMemory
  witnesses_answered Next found s o e a is = let never : AfterWitnesses (Err wanted_refusal.OutOfMemory) Next s o e = subst (λ r. AfterWitnesses r Next s o e) is a in never

  pub one_witnesses : IsOneWantedReading → (file : List ℕ) (names : List TypedName) (Next : List Entry → Answer) → ((es : List Entry) → IsOneIn part (Next es)) → IsOneIn part (IsWitnesses file names Next)
  one_witnesses law file names Next each s t o p e f a b =
      let same : b.found ≡ a.found = law file names b.found a.found b.read a.read (witnesses_answered Next b.found t p f b.answer) (witnesses_answered Next a.found s o e a.answer) in
      one_after_witnesses Next each a.found s t o p e f a.answer (subst (λ r. AfterWitnesses r Next t p f) same b.answer)

  pub one_given : IsOneWantedReading → (file : Option (List ℕ)) (names : List TypedName) (Next : Option (List Entry) → Answer) → ((es : Option (List Entry)) → IsOneIn part (Next es)) → IsOneIn part (IsGivenWitnesses file names Next)
  one_given law None names Next each s t o p e f a b = each None s t o p e f a b
  one_given law (Some file) names Next each s t o p e f a b = one_witnesses law file names (λ es. Next (Some es)) (λ es. each (Some es)) s t o p e f a b

  pub one_checked : IsOneTree grammar.program → HasFronts grammar.program → IsOneReading → (Next : Checked → Answer) → ((p : Checked) → IsOneIn part (Next p)) → (asked : Asked) (text : List ℕ) → IsOneIn part (IsCheckedSource asked text Next)
  one_checked tree law reading Next each asked text s t o p e f a b =
      one_source part law tree (λ items. FromArgs asked (length text) items Next) (λ items. one_args reading (object_of asked.args) (param_names items) (λ params. FromRules asked (length text) items params Next) (λ params. one_rules Next each (checked items asked.function params asked.edition (length text)))) text s t o p e f a b
