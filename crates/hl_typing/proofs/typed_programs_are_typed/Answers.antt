-- Answers to the goals of `typed_programs_are_typed`: a typed program is typed by the rules.
use Rattle.hl_typing.proofs.Programs.{unbroken_typed}
use Rattle.hl_typing.proofs.typed_programs_are_typed.Goals as goal

pub returns : goal.returns
returns c = unbroken_typed c.args.program.now c.breaks_nothing.ensures
