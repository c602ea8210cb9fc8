-- Answers to the goals of `alias`: what is known after an alias.
use Rattle.hl_check.specs.Knowns.{known_of}
use Rattle.hl_check.specs.declared.program.Walked.{Walked}
use Rattle.hl_check.proofs.Whole.{alias_refused}
use Rattle.hl_check.proofs.program.alias.Goals as goal

pub returns-in_err-declare_alias-clause-gives : goal.returns-in_err-declare_alias-clause-gives
returns-in_err-declare_alias-clause-gives c =
    alias_refused (λ (x : Unit {0}). c.declare_alias.new.aliases) (λ (next : Walked). (known_of next, next.met)) (known_of c.args.known) c.args.name.now c.args.text.now c.args.known.met c.in_err-declare_alias.field-0.0 c.from_residual.result
    c.in_err-declare_alias.ensures.answers c.from_residual.ensures.1
