-- Answers to the goals of `simphl`: runs a command: reads the files that its words name, composes its
-- text, and writes it to `out`, or why not to `err`.
use Rattle.std.proofs.Common.{refl}
use Rattle.top_call.specs.Answer.{no_memory}
use Rattle.command_words.specs.Words.{reading, texts}
use Rattle.top_call.proofs.Answering.{delivered_answer, refused_answer}
use Rattle.top_call.proofs.top.simphl.Goals as goal

pub returns-in-Ok-clause-answer : goal.returns-in-Ok-clause-answer
returns-in-Ok-clause-answer g c =
    delivered_answer (reading (texts c.args.words.now)) _ _ _ _ _ _ _ _ c.in-Ok.ensures.allowed (rw c.as_bytes.ensures.value at c.deliver.ensures)

pub returns-in-Err-Refused-clause-answer : goal.returns-in-Err-Refused-clause-answer
returns-in-Err-Refused-clause-answer g c =
    refused_answer (reading (texts c.args.words.now)) _ _ _ _ _ _ _ _ (rw c.in-Err-Refused.field-0-is at c.in-Err-Refused.ensures.allowed) (rw c.as_bytes-in-Err-Refused.ensures.value at c.refuse.ensures)

pub returns-in-Err-OutOfMemory-clause-answer : goal.returns-in-Err-OutOfMemory-clause-answer
returns-in-Err-OutOfMemory-clause-answer g c =
    refused_answer (reading (texts c.args.words.now)) _ _ _ _ _ _ _ _ (no_memory (record { status_is = refl; nothing = refl; line_is = refl })) (rw c.no_memory_line.ensures at c.refuse-in-Err-OutOfMemory.ensures)
