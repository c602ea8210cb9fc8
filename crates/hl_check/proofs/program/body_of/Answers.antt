-- Answers to the goals of `body_of`: the body of a function at the result's type, in a box, where the
-- parameters are in scope; and the witnesses that were met up to its end.
use Rattle.std.proofs.Common.{◌≡◌, ◌∙◌, ap, sym, refl, Ok, List}
use Rattle.hl_syntax.specs.declared.kinds.TypedName.{TypedName}
use Rattle.hl_syntax.specs.declared.rules.Rule.TheVariants.{K6}
use Rattle.hl_data.specs.declared.typed.TypedExpr.{TypedExpr}
use Rattle.hl_rules.specs.Exprs.{expr_walk}
use Rattle.hl_scope.specs.Contexts.{context_of}
use Rattle.hl_check.proofs.Rolled.{passed}
use Rattle.hl_check.proofs.Whole.{bound_all, refused_as}
use Rattle.hl_check.proofs.program.body_of.Goals as goal

pub returns-in_err-found : goal.returns-in_err-found
returns-in_err-found c =
    let known = c.args.known.now in
    let context = context_of known.aliases known.functions c.args.setting.entries.now c.args.setting.edition c.args.name.now.text in
    let scope : c.bind.new.self ≡ c.args.params.now = bound_all c.args.params.now c.in_ok-copy_names.field-0 c.bind.new.self c.new-scope.result c.in_ok-bind.ensures c.new-scope.ensures (c.in_ok-copy_names.ensures ∙ c.as_slice.ensures) in
    let met : c.in_ok-met.met ≡ known.met = c.in_ok-met.ensures ∙ c.as_slice-2.ensures in
    let checker : c.new-checker.result ≡ context = c.new-checker.ensures ∙ rw c.as_str.ensures refl in
    let walk = expr_walk c.new-checker.result c.args.e.now c.bind.new.self c.args.kind.now K6 c.in_ok-met.met in
    let here = expr_walk context c.args.e.now c.args.params.now c.args.kind.now K6 known.met in
    passed (λ x. x) here c.in_err-found.field-0.0 c.from_residual-in_err-found.result
    (refused_as (λ (x : TypedExpr). (x, c.expr.new.body.met)) (λ (x : TypedExpr × List TypedName). x) walk here c.in_err-found.field-0.0 (rw (checker, scope, met) refl) c.in_err-found.ensures.gives)
    c.from_residual-in_err-found.ensures.1

pub returns : goal.returns
returns c =
    let known = c.args.known.now in
    let context = context_of known.aliases known.functions c.args.setting.entries.now c.args.setting.edition c.args.name.now.text in
    let scope : c.bind.new.self ≡ c.args.params.now = bound_all c.args.params.now c.in_ok-copy_names.field-0 c.bind.new.self c.new-scope.result c.in_ok-bind.ensures c.new-scope.ensures (c.in_ok-copy_names.ensures ∙ c.as_slice.ensures) in
    let met : c.in_ok-met.met ≡ known.met = c.in_ok-met.ensures ∙ c.as_slice-2.ensures in
    let checker : c.new-checker.result ≡ context = c.new-checker.ensures ∙ rw c.as_str.ensures refl in
    (rw (checker, scope, met) at c.in_ok-found.ensures.gives) ∙ ap (λ (found : TypedExpr). Ok (found, c.expr.new.body.met)) (sym c.in_ok-new.ensures)
