-- Answers to the goals of `bindings` in `patterns`.
use Rattle.std.proofs.Common.{[], ◌∷◌, ◌≡◌, length, ap, sym, ◌∙◌, arith, length-append}
use Rattle.hl_meaning.specs.Scopes.{bound}
use Rattle.hl_eval.proofs.Exits.{leaves_exit}
use Rattle.hl_eval.proofs.Onto.{rest_all, rest_next, rest_none, rest_over, rest_short}
use Rattle.hl_eval.proofs.patterns.+bindings.Goals as goal

pub bind_each-returns-then-len : goal.bind_each-returns-then-len
bind_each-returns-then-len t c =
    rest_short bound c.args.patterns.now c.args.values c.args.scope.now
    (λ e. c.if-len.true (c.len.ensures ∙ c.into_vec-values.result.ok.0 ∙ ap length c.into_vec-values.ensures ∙ e ∙ sym c.len-2.ensures))

pub bind_each-values-init : goal.bind_each-values-init
bind_each-values-init t c =
    rw c.into_vec-values.ensures
    (rest_all bound c.args.patterns.now c.args.values c.args.scope.now
    (sym (ap length c.into_vec-values.ensures) ∙ sym c.into_vec-values.result.ok.0 ∙ sym c.len.ensures ∙ c.if-len.false ∙ c.len-2.ensures))

pub bind_each-get-requires : goal.bind_each-get-requires
bind_each-get-requires t c =
    omega (arith, ap length c.in-Some.ensures.items, length-append c.pop.new.self.items (c.in-Some.value ∷ []), c.values.invariant.fits, c.len-in-Some.ensures, c.pop.new.self.ok.0)

pub bind_each-values-smaller : goal.bind_each-values-smaller
bind_each-values-smaller t c = omega (arith, ap length c.in-Some.ensures.items, length-append c.pop.new.self.items (c.in-Some.value ∷ []))

pub bind_each-values-preserved : goal.bind_each-values-preserved
bind_each-values-preserved t c =
    let at : c.len-in-Some.result ≡ length c.pop.new.self.items = c.len-in-Some.ensures ∙ c.pop.new.self.ok.0 in
    rest_next bound c.args.patterns.now c.values.values.items c.pop.new.self.items c.args.values c.in-Some.value c.get.result.now c.values.scope c.bind.new.scope c.args.scope.now
    c.values.invariant c.in-Some.ensures.items (rw at at c.get.ensures) c.in_ok-bind.ensures

pub bind_each-returns : goal.bind_each-returns
bind_each-returns t c =
    rest_over bound c.args.patterns.now c.values.values.items c.args.values c.values.scope c.args.scope.now c.values.invariant (sym c.values.values.ok.0 ∙ c.in_default.ensures.cases.0)

pub bind_each-returns-in_err-bind : goal.bind_each-returns-in_err-bind
bind_each-returns-in_err-bind t c =
    let at : c.len-in-Some.result ≡ length c.pop.new.self.items = c.len-in-Some.ensures ∙ c.pop.new.self.ok.0 in
    leaves_exit _ _ _ _ _ c.from_residual.ensures.1
    (rest_none bound c.args.patterns.now c.values.values.items c.pop.new.self.items c.args.values c.in-Some.value c.get.result.now c.values.scope c.args.scope.now
    c.values.invariant c.in-Some.ensures.items (rw at at c.get.ensures))
    c.in_err-bind.ensures
