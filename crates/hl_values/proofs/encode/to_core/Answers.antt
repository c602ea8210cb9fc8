-- Answers to the goals of `to_core`: the core value that a value is encoded in at its type.
use Rattle.core_data.specs.Data.{value_of}
use Rattle.hl_values.proofs.Coding.{sound_good}
use Rattle.hl_values.proofs.encode.to_core.Goals as goal

pub returns-clause-is_of : goal.returns-clause-is_of
returns-clause-is_of c = ((sound_good c.args.kind.now c.requires.sound).there c.args.value.now (value_of c.in_ok-encode.field-0) c.in_ok-encode.ensures).0

pub returns-clause-decoded : goal.returns-clause-decoded
returns-clause-decoded c = ((sound_good c.args.kind.now c.requires.sound).there c.args.value.now (value_of c.in_ok-encode.field-0) c.in_ok-encode.ensures).1
