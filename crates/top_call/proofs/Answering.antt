-- What writing a composed text makes of the answer.
use Rattle.std.proofs.Common.{◌≡◌, inl, inr, ℕ, List, [], Option, Some, None, refl, sym, ap, append-nil}
use Rattle.outside.specs.Files.{StoreState}
use Rattle.outside.specs.Sink.{SinkState, Gained}
use Rattle.command_outcome.specs.declared.status.Status.{Status}
use Rattle.command_outcome.specs.declared.status.Status.TheVariants.{Done, SourceRefused, WordsRefused, ProgramFailed, ReadFault, WriteFault, NoMemory, BitsRefused, DataRefused, LimitReached}
use Rattle.command_outcome.specs.Answer.{Answer, AreSettled}
use Rattle.command_files.specs.Files.{Contents}
use Rattle.command_files.proofs.Whole.{files_lack}
use Rattle.command_words.specs.Words.{Reading}
use Rattle.top_call.specs.Answer.{IsAllowed, outcome, read_fault, no_memory, IsAnswer, on_err, on_out, Took}
use Rattle.top_call.specs.Answered.{IsPut, IsDelivered}
use Rattle.top_call.specs.Outcome.{AfterFiles, IsOutcome, files_of}
use Rattle.top_call.proofs.Allowed.{settled_after}

gained_nothing : (contents : Option (List ℕ)) → Gained contents contents []
gained_nothing (Some bytes) = ap Some (sym (append-nil bytes))
gained_nothing None = refl

took_nothing : (sink : SinkState) → Took sink sink []
took_nothing sink = record { gained = gained_nothing sink.contents; faultless = refl }

-- no outcome is WriteFault
abbrev NoWrite : Answer → Type 0
NoWrite A = (o e : List ℕ) → A WriteFault o e → ⊥

no_write_settled : (A : Answer) → AreSettled A → NoWrite A
no_write_settled A settled o e a = settled WriteFault o e a

no_write_outcome : (reading : Reading) (contents : Contents) → NoWrite (IsOutcome reading contents)
no_write_outcome reading contents o e a =
    files_lack WriteFault o e (λ is. let w : WriteFault ≡ ReadFault = is in absurd (cc)) (λ is. let w : WriteFault ≡ LimitReached = is in absurd (cc)) (files_of reading) (AfterFiles reading) (λ found. no_write_settled _ (settled_after reading found) o e) contents a

no_write_allowed : (reading : Reading) (before after : StoreState) → NoWrite (IsAllowed reading before after)
no_write_allowed reading before after o e (outcome contents holds is counted names) = no_write_outcome reading contents o e is
no_write_allowed reading before after o e (read_fault file last risen is) = let w : WriteFault ≡ ReadFault = is.status_is in absurd (cc)
no_write_allowed reading before after o e (no_memory is) = let w : WriteFault ≡ NoMemory = is.status_is in absurd (cc)

written_answer : (reading : Reading) (before after : StoreState) (status : Status) (o e : List ℕ) (out out' err err' : SinkState) → IsAllowed reading before after status o e → Took out out' o → Took err err' e → IsAnswer (IsAllowed reading before after) status out out' err err'
written_answer reading before after Done o e out out' err err' allowed a b = record { out_text = o; err_text = e; allowed = allowed; on_out = a; on_err = b }
written_answer reading before after SourceRefused o e out out' err err' allowed a b = record { out_text = o; err_text = e; allowed = allowed; on_out = a; on_err = b }
written_answer reading before after WordsRefused o e out out' err err' allowed a b = record { out_text = o; err_text = e; allowed = allowed; on_out = a; on_err = b }
written_answer reading before after ProgramFailed o e out out' err err' allowed a b = record { out_text = o; err_text = e; allowed = allowed; on_out = a; on_err = b }
written_answer reading before after ReadFault o e out out' err err' allowed a b = record { out_text = o; err_text = e; allowed = allowed; on_out = a; on_err = b }
written_answer reading before after WriteFault o e out out' err err' allowed a b = absurd (no_write_allowed reading before after o e allowed)
written_answer reading before after NoMemory o e out out' err err' allowed a b = record { out_text = o; err_text = e; allowed = allowed; on_out = a; on_err = b }
written_answer reading before after BitsRefused o e out out' err err' allowed a b = record { out_text = o; err_text = e; allowed = allowed; on_out = a; on_err = b }
written_answer reading before after DataRefused o e out out' err err' allowed a b = record { out_text = o; err_text = e; allowed = allowed; on_out = a; on_err = b }
written_answer reading before after LimitReached o e out out' err err' allowed a b = record { out_text = o; err_text = e; allowed = allowed; on_out = a; on_err = b }

-- a text was put on `err`
pub refused_answer : (reading : Reading) (before after : StoreState) (status result : Status) (text : List ℕ) (out err err' : SinkState) → IsAllowed reading before after status [] text → IsPut status err err' text result → IsAnswer (IsAllowed reading before after) result out out err err'
refused_answer reading before after status result text out err err' allowed (inl (is, took)) =
    rw is (written_answer reading before after status [] text out out err err' allowed (took_nothing out) took)
refused_answer reading before after status result text out err err' allowed (inr (is, failed)) =
    rw is (on_err status [] text allowed (took_nothing out) failed)

-- a text was put on `out`
pub delivered_answer : (reading : Reading) (before after : StoreState) (result : Status) (text : List ℕ) (out out' err err' : SinkState) → IsAllowed reading before after Done text [] → IsDelivered out out' err err' text result → IsAnswer (IsAllowed reading before after) result out out' err err'
delivered_answer reading before after result text out out' err err' allowed (inl (is, took, same)) =
    rw (is, same) (written_answer reading before after Done text [] out out' err err allowed took (took_nothing err))
delivered_answer reading before after result text out out' err err' allowed (inr (is, failed, told)) =
    rw is (on_out text allowed failed told)
