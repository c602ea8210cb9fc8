-- What may be answered after reads.
use Rattle.std.proofs.Common.{◌≡◌, ℕ, suc, List, [], ◌∷◌, length, Option, Result, Ok, Err, refl, sym, ap, ◌∙◌, subst}
use Rattle.std.specs.declared.string.String.{String}
use Rattle.std.specs.declared.vec.Vec.{Vec}
use Rattle.outside.specs.Files.{Held, StoreState}
use Rattle.command_outcome.specs.declared.status.Status.{Status}
use Rattle.command_outcome.specs.declared.status.Status.TheVariants.{Done, SourceRefused, WordsRefused, ProgramFailed, ReadFault, WriteFault, NoMemory, BitsRefused, DataRefused, LimitReached}
use Rattle.command_outcome.specs.declared.stop.Stop.{Stop}
use Rattle.command_outcome.specs.Answer.{Never, IsSettled, AreSettled}
use Rattle.command_outcome.specs.Stops.{GivesLine, Stops}
use Rattle.command_outcome.proofs.OneSource.{settled_refusal}
use Rattle.command_outcome.proofs.Stopping.{stops_in, gives_in}
use Rattle.command_files.specs.Files.{File, IsFileRead, after_named, next_named, not_held, too_long, whole}
use Rattle.command_files.specs.Reads.{AreReadFrom, IsFirstUnread, IsUnread, WereRead, fault, raises, refused, texts_of}
use Rattle.command_files.proofs.Whole.{all_whole, cut_off, name_there}
use Rattle.command_words.specs.Words.{Reading, BuildOf, EvalOf, Misfit}
use Rattle.eval_command.proofs.One.{settled_evaluation}
use Rattle.top_call.proofs.Small.{settled_build}
use Rattle.top_call.specs.Answer.{IsAllowed, IsLastRead, NamesRead, outcome, read_fault}
use Rattle.top_call.specs.Outcome.{AfterFiles, files_of, given}

-- What is answered to files that were read is settled.
pub settled_after : (reading : Reading) (found : List (List ℕ)) → AreSettled (AfterFiles reading found)
settled_after (Misfit index) found s o e a = settled_refusal _ _ tt s o e a
settled_after (BuildOf file asked) [] s o e a = absurd a
settled_after (BuildOf file asked) (source ∷ found) s o e a = settled_build asked source s o e a
settled_after (EvalOf asked) [] s o e a = absurd a
settled_after (EvalOf asked) (source ∷ found) s o e a = settled_evaluation (given asked (next_named asked.args found) (next_named asked.witness (after_named asked.args found))) source s o e a

module _ (reading : Reading) (before after : StoreState) where
  names_settled : (s : Status) (e : List ℕ) → IsSettled s → NamesRead reading before after s e
  names_settled Done e is = tt
  names_settled SourceRefused e is = tt
  names_settled WordsRefused e is = tt
  names_settled ProgramFailed e is = tt
  names_settled ReadFault e is = absurd is
  names_settled WriteFault e is = tt
  names_settled NoMemory e is = tt
  names_settled BitsRefused e is = tt
  names_settled DataRefused e is = tt
  names_settled LimitReached e is = tt

  names_file : (file : File) (content : Option (List ℕ)) (s : Status) (o e : List ℕ) → IsLastRead reading before after file.name → IsFileRead file content (λ _. Never) s o e → NamesRead reading before after s e
  names_file file content s o e last (not_held none is) = rw is.status_is (file.name, last, is.line_is)
  names_file file content s o e last (too_long bytes here long is) = rw is.status_is tt
  names_file file content s o e last (whole bytes here few is) = absurd is

  -- the first file that isn't read
  unread : (s : Status) (o e : List ℕ) (h : IsFirstUnread (files_of reading) before after s o e) → IsUnread before.held h.file before.faults after.faults s o e → IsAllowed reading before after s o e
  unread s o e h (fault risen a) = read_fault h.file.name (record { place = h.place; named = name_there (files_of reading) h.place h.file h.there; read = h.reads }) risen a
  unread s o e h (refused content holds a) =
      let cut = cut_off before.held (files_of reading) h.place h.file h.found content (AfterFiles reading) s o e h.there h.were holds a in
      let last : IsLastRead reading before after h.file.name = record { place = h.place; named = name_there (files_of reading) h.place h.file h.there; read = h.reads } in
      outcome cut.contents cut.hold cut.answer (h.reads ∙ ap (λ n. raises n before.reads) (sym cut.count)) (names_file h.file content s o e last a)

  allowed_unread : (s : Status) (o e : List ℕ) → IsFirstUnread (files_of reading) before after s o e → IsAllowed reading before after s o e
  allowed_unread s o e h = unread s o e h h.unread

  -- all files are read
  allowed_answered : (found : List (List ℕ)) → WereRead before.held (files_of reading) found → after.reads ≡ raises (length (files_of reading)) before.reads → (s : Status) (o e : List ℕ) → AfterFiles reading found s o e → IsAllowed reading before after s o e
  allowed_answered found were read s o e a =
      let all = all_whole before.held (files_of reading) found (AfterFiles reading) s o e were a in
      outcome all.contents all.hold all.answer (read ∙ ap (λ n. raises n before.reads) (sym all.count)) (names_settled s e (settled_after reading found s o e a))

  pub files_stop : (files : List File) (stop : Stop) → files ≡ files_of reading → Stops (IsFirstUnread files before after) stop → Stops (IsAllowed reading before after) stop
  files_stop files stop are is = stops_in (IsFirstUnread (files_of reading) before after) (IsAllowed reading before after) stop allowed_unread (subst (λ fs. Stops (IsFirstUnread fs before after) stop) are is)

  pub files_answered : {G H : Type 0} (files : List File) (found : Vec (Vec ℕ G) G) (r : Result (String H) Stop) → files ≡ files_of reading → AreReadFrom before after files (Ok found) → GivesLine (AfterFiles reading (texts_of found.items)) r → GivesLine (IsAllowed reading before after) r
  files_answered files found r are is given =
      let read : WereRead before.held (files_of reading) (texts_of found.items) × (after.reads ≡ raises (length (files_of reading)) before.reads) =
      subst (λ fs. WereRead before.held fs (texts_of found.items) × (after.reads ≡ raises (length fs) before.reads)) are is in
      gives_in (AfterFiles reading (texts_of found.items)) (IsAllowed reading before after) r (allowed_answered (texts_of found.items) read.0 read.1) given

-- as many texts were found as files are named
were_as_many : (held : Held) (files : List File) (found : List (List ℕ)) → WereRead held files found → length found ≡ length files
were_as_many held [] [] were = refl
were_as_many held [] (bytes ∷ found) were = absurd were
were_as_many held (file ∷ files) [] were = absurd were
were_as_many held (file ∷ files) (bytes ∷ found) were = ap suc (were_as_many held files found were.1)

texts_as_many : {G : Type 0} (found : List (Vec ℕ G)) → length (texts_of found) ≡ length found
texts_as_many [] = refl
texts_as_many (v ∷ found) = ap suc (texts_as_many found)

pub as_many : {G : Type 0} (before after : StoreState) (files named : List File) (found : Vec (Vec ℕ G) G) → files ≡ named → AreReadFrom before after files (Ok found) → length found.items ≡ length named
as_many before after files named found are is = sym (texts_as_many found.items) ∙ (were_as_many before.held files (texts_of found.items) is.0 ∙ ap length are)
