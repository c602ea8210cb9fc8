-- Answers to the goals of `type_and_text` in `texts`.
use Rattle.serde_json.specs.View.{view}
use Rattle.hl_files.proofs.Typing.{no_type_text}
use Rattle.hl_files.proofs.texts.type_and_text.Goals as goal

pub returns-in-Err-NotType-clause-typed : goal.returns-in-Err-NotType-clause-typed
returns-in-Err-NotType-clause-typed c = no_type_text (view c.args.entry.now) c.in-Some.written.now c.in-Some.ensures (rw c.in-Err-NotType.field-0-is at c.in-Err-NotType.ensures.read)
