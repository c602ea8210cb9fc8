-- Answers to the goals of `from_core`: the value that is encoded in a core value of the type's form.
use Rattle.core_data.specs.Data.{value_of}
use Rattle.hl_values.proofs.Coding.{sound_good}
use Rattle.hl_values.proofs.decode.from_core.Goals as goal

pub returns-clause-decoded : goal.returns-clause-decoded
returns-clause-decoded c = ((sound_good c.args.kind.now c.requires.sound).there c.in_ok-decode.field-0 (value_of c.args.value.now) c.in_ok-decode.ensures).1
