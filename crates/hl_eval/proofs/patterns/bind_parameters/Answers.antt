-- Answers to the goals of `bind_parameters` in `patterns`.
use Rattle.std.proofs.Common.{[], ◌∷◌, ◌≡◌, length, Some, ap, sym, ◌∙◌, arith, length-append}
use Rattle.hl_meaning.specs.Mean.{named}
use Rattle.hl_eval.proofs.Onto.{rest_all, rest_next, rest_over, rest_short}
use Rattle.hl_eval.proofs.patterns.bind_parameters.Goals as goal

pub returns-then-len : goal.returns-then-len
returns-then-len c =
    rest_short named c.args.params.now c.args.arguments c.args.scope.now
    (λ e. c.if-len.true (c.len.ensures ∙ c.into_vec-arguments.result.ok.0 ∙ ap length c.into_vec-arguments.ensures ∙ e ∙ sym c.len-2.ensures))

pub arguments-init : goal.arguments-init
arguments-init c =
    rw c.into_vec-arguments.ensures
    (rest_all named c.args.params.now c.args.arguments c.args.scope.now
    (sym (ap length c.into_vec-arguments.ensures) ∙ sym c.into_vec-arguments.result.ok.0 ∙ sym c.len.ensures ∙ c.if-len.false ∙ c.len-2.ensures))

pub get-requires : goal.get-requires
get-requires c =
    omega (arith, ap length c.in-Some.ensures.items, length-append c.pop.new.self.items (c.in-Some.argument ∷ []), c.arguments.invariant.fits, c.len-in-Some.ensures, c.pop.new.self.ok.0)

pub arguments-smaller : goal.arguments-smaller
arguments-smaller c = omega (arith, ap length c.in-Some.ensures.items, length-append c.pop.new.self.items (c.in-Some.argument ∷ []))

pub arguments-preserved : goal.arguments-preserved
arguments-preserved c =
    let at : c.len-in-Some.result ≡ length c.pop.new.self.items = c.len-in-Some.ensures ∙ c.pop.new.self.ok.0 in
    rest_next named c.args.params.now c.arguments.arguments.items c.pop.new.self.items c.args.arguments c.in-Some.argument c.get.result.now c.arguments.scope c.bind.new.self c.args.scope.now
    c.arguments.invariant c.in-Some.ensures.items (rw at at c.get.ensures) (ap Some (sym c.in_ok-bind.ensures))

pub returns : goal.returns
returns c =
    rest_over named c.args.params.now c.arguments.arguments.items c.args.arguments c.arguments.scope c.args.scope.now c.arguments.invariant (sym c.arguments.arguments.ok.0 ∙ c.in_default.ensures.cases.0)
