-- Answers to the goals of `given_entries`: the same of a file that is given, and nothing where none is.
use Rattle.std.proofs.Common.{ap}
use Rattle.std.specs.Option.{option_copied}
use Rattle.checked_source.proofs.Leading.{given_read, given_stop}
use Rattle.checked_source.proofs.witness.given_entries.Goals as goal

pub returns-in-Ok-clause-read : goal.returns-in-Ok-clause-read
returns-in-Ok-clause-read c = given_read (option_copied c.args.file) c.in-Some.bytes.now _ c.in-Ok.entries (ap option_copied c.in-Some.is) c.in-Ok.ensures.read

pub returns-in-Err-clause-read : goal.returns-in-Err-clause-read
returns-in-Err-clause-read c = given_stop (option_copied c.args.file) c.in-Some.bytes.now _ c.in-Err.stop (ap option_copied c.in-Some.is) c.in-Err.ensures.read
