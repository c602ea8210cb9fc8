-- Answers to the goals of `check`: walks a program of an edition of the language, 1 or 2, of which the
-- function `asked` is asked for.
use Rattle.std.proofs.Common.{◌∙◌, ap, sym, subst, Bool, List, [], Ok, Err}
use Rattle.hl_syntax.specs.declared.rules.Rule.TheVariants.{K20}
use Rattle.hl_syntax.specs.declared.tree.Item.{Item}
use Rattle.hl_data.specs.declared.typed.TypedFunction.{TypedFunction}
use Rattle.hl_rules.specs.Declared.{has_function}
use Rattle.hl_rules.specs.Programs.{Checked, items_walk}
use Rattle.hl_rules.specs.Steps.{needs}
use Rattle.hl_scope.specs.Checks.{Checks, ChecksAs}
use Rattle.hl_check.specs.Knowns.{known_of}
use Rattle.hl_check.specs.declared.program.Walked.{Walked}
use Rattle.hl_check.proofs.Whole.{asked_refused, program_found, program_refused, told_broken}
use Rattle.hl_check.proofs.program.check.Goals as goal

pub returns-in_err-known : goal.returns-in_err-known
returns-in_err-known c =
    let answers = program_refused c.args.program.now c.args.asked.now c.args.params.now c.args.edition c.args.end (λ (found : Checked). found) c.in_err-known.field-0.0 c.from_residual.result
    (λ (known : Walked). (known_of known, known.met)) (subst (λ (xs : List Item). ChecksAs (λ (known : Walked). (known_of known, known.met)) (items_walk c.args.params.now c.args.edition (record { aliases = []; functions = [] }) xs []) (Err c.in_err-known.field-0.0)) c.as_slice.ensures c.in_err-known.ensures) c.from_residual.ensures.1 in
    record { answers = answers; broken = told_broken c.args.program.now c.args.asked.now c.args.params.now c.args.edition c.args.end c.from_residual.result answers }

pub returns-in_err-needs : goal.returns-in_err-needs
returns-in_err-needs c =
    let answers = asked_refused c.args.program.now c.args.asked.now c.args.params.now c.args.edition c.args.end (λ (found : Checked). found) c.in_err-needs.field-0.0 c.from_residual-in_err-needs.result
    c.in_ok-known.known.aliases c.in_ok-known.known.functions c.in_ok-known.known.met (rw c.as_slice.ensures at c.in_ok-known.ensures) (subst (λ (holds : Bool). Checks (needs holds K20 (record { start = c.args.end; end = c.args.end })) (Err c.in_err-needs.field-0.0)) (c.has_function.ensures ∙ ap (λ (functions : List TypedFunction). has_function functions c.args.asked.now) c.as_slice-2.ensures) c.in_err-needs.ensures) c.from_residual-in_err-needs.ensures.1 in
    record { answers = answers; broken = told_broken c.args.program.now c.args.asked.now c.args.params.now c.args.edition c.args.end c.from_residual-in_err-needs.result answers }

pub returns-clause-answers : goal.returns-clause-answers
returns-clause-answers c =
    program_found c.args.program.now c.args.asked.now c.args.params.now c.args.edition c.args.end c.in_ok-known.known.aliases c.in_ok-known.known.functions c.in_ok-known.known.met c.in_ok-witnesses.witnesses
    (rw c.as_slice.ensures at c.in_ok-known.ensures) (rw (c.has_function.ensures, c.as_slice-2.ensures) at c.in_ok-needs.ensures) c.in_ok-witnesses.ensures
    ∙ ap Ok (sym c.new.ensures)
