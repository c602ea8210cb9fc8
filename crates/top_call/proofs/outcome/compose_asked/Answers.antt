-- Answers to the goals of `compose_asked`: the text of what is asked for: the files are read in their
-- order, and then it is answered.
use Rattle.std.proofs.Common.{length, map, ap, ◌∙◌}
use Rattle.command_words.specs.Asked.{reading_of}
use Rattle.command_files.specs.Reads.{file_of}
use Rattle.top_call.specs.Outcome.{files_of}
use Rattle.top_call.proofs.Allowed.{as_many, files_answered, files_stop}
use Rattle.top_call.proofs.outcome.compose_asked.Goals as goal

pub answer-requires : goal.answer-requires
answer-requires g c =
    ap length c.as_slice-in-Ok-read_files.ensures.value
    ∙ as_many (g.F.Files.state c.args.files.now) (g.F.Files.state c.read_files.new.files) (map file_of c.as_slice.result.now) (files_of (reading_of c.args.asked)) c.in-Ok-read_files.found
    (ap (map file_of) c.as_slice.ensures.value ∙ c.in-Ok.ensures) c.in-Ok-read_files.ensures.read

pub returns-in-Ok-read_files-clause-allowed : goal.returns-in-Ok-read_files-clause-allowed
returns-in-Ok-read_files-clause-allowed g c =
    files_answered (reading_of c.args.asked) (g.F.Files.state c.args.files.now) (g.F.Files.state c.read_files.new.files) (map file_of c.as_slice.result.now) c.in-Ok-read_files.found c.answer.result
    (ap (map file_of) c.as_slice.ensures.value ∙ c.in-Ok.ensures) c.in-Ok-read_files.ensures.read (rw c.as_slice-in-Ok-read_files.ensures.value at c.answer.ensures)

pub returns-clause-allowed : goal.returns-clause-allowed
returns-clause-allowed g c =
    files_stop (reading_of c.args.asked) (g.F.Files.state c.args.files.now) (g.F.Files.state c.read_files.new.files) (map file_of c.as_slice.result.now) c.in-Err.stop
    (ap (map file_of) c.as_slice.ensures.value ∙ c.in-Ok.ensures) c.in-Err.ensures.read
