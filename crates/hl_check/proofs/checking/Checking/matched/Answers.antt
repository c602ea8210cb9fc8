-- Answers to the goals of `matched` in `checking`.
use Rattle.std.proofs.Common.{◌++◌, refl}
use Rattle.hl_syntax.specs.declared.rules.Rule.TheVariants.{K6}
use Rattle.hl_rules.specs.Exprs.{expr_walk}
use Rattle.hl_check.proofs.Matches.{match_refused}
use Rattle.hl_check.proofs.Rolled.{match_found}
use Rattle.hl_check.proofs.checking.Checking.matched.Goals as goal

pub returns-clause-gives : goal.returns-clause-gives
returns-clause-gives g c =
    let k = c.args.self.now.checker.now in
    rw (c.in_ok-match_form.ensures, c.in_ok-one.ensures, c.in_ok-two.ensures)
    (match_found k.aliases (expr_walk k c.args.e.now) (record { side = c.args.one.now.side; body = expr_walk k c.args.one.now.body }) (record { side = c.args.two.now.side; body = expr_walk k c.args.two.now.body }) c.args.asked.span c.args.body.now.scope c.args.asked.expected.now c.args.asked.rule
    c.in_ok-first.first c.in_ok-second.second c.in_ok-first.first_bound c.in_ok-second.second_bound c.in_ok-value.value c.in_ok-first_body.first_body c.in_ok-second_body.second_body
    c.args.body.now.met c.taken_apart.new.body.met c.arm_body.new.body.met c.arm_body-2.new.body.met
    (rw c.are_sides.ensures at c.in_ok-needs.ensures)
    (rw c.aliases.ensures.is at c.in_ok-first.ensures.answers)
    (rw c.aliases-2.ensures.is at c.in_ok-second.ensures.answers)
    (rw (c.get.ensures, c.get-2.ensures) at c.in_ok-value.ensures.gives)
    (rw c.in_ok-value.ensures.scope at c.in_ok-first_body.ensures.gives)
    (rw (c.in_ok-first_body.ensures.scope, c.in_ok-value.ensures.scope) at c.in_ok-second_body.ensures.gives))

pub returns-in_err-second_body-clause-gives : goal.returns-in_err-second_body-clause-gives
returns-in_err-second_body-clause-gives g c =
    let k = c.args.self.now.checker.now in
    match_refused k.aliases (expr_walk k c.args.e.now) (record { side = c.args.one.now.side; body = expr_walk k c.args.one.now.body }) (record { side = c.args.two.now.side; body = expr_walk k c.args.two.now.body }) c.args.asked.span c.args.body.now.scope c.args.asked.expected.now c.args.asked.rule
    c.in_ok-first.first c.in_ok-second.second c.in_ok-first.first_bound c.in_ok-second.second_bound c.in_ok-value.value c.in_ok-first_body.first_body
    c.args.body.now.met c.taken_apart.new.body.met c.arm_body.new.body.met
    (expr_walk k c.args.two.now.body (c.in_ok-second.second_bound ++ c.arm_body.new.body.scope) c.args.asked.expected.now K6 c.arm_body.new.body.met)
    c.arm_body-2.new.body.met c.in_err-second_body.field-0.0 c.from_residual-in_err-second_body.result
    (rw c.are_sides.ensures at c.in_ok-needs.ensures)
    (rw c.aliases.ensures.is at c.in_ok-first.ensures.answers)
    (rw c.aliases-2.ensures.is at c.in_ok-second.ensures.answers)
    (rw (c.get.ensures, c.get-2.ensures) at c.in_ok-value.ensures.gives)
    (rw c.in_ok-value.ensures.scope at c.in_ok-first_body.ensures.gives)
    (rw (c.in_ok-first_body.ensures.scope, c.in_ok-value.ensures.scope) refl)
    c.in_err-second_body.ensures.gives c.from_residual-in_err-second_body.ensures.1
