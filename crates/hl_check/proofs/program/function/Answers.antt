-- Answers to the goals of `function`: a function's head, and then its body; and the witnesses that were
-- met up to its end.
use Rattle.std.proofs.Common.{◌≡◌, ◌∙◌, ap, sym, Ok, Result, List, ℕ}
use Rattle.hl_syntax.specs.declared.kinds.TypedName.{TypedName}
use Rattle.hl_data.specs.declared.typed.TypedExpr.{TypedExpr}
use Rattle.hl_data.specs.declared.typed.TypedFunction.{TypedFunction}
use Rattle.simplicityhl.specs.Written.{Broken}
use Rattle.hl_rules.specs.Declared.{head_walk}
use Rattle.hl_scope.specs.Heads.{head_of}
use Rattle.hl_check.specs.Knowns.{known_of}
use Rattle.hl_check.proofs.Whole.{function_found, function_refused}
use Rattle.hl_check.proofs.program.function.Goals as goal

pub returns-in_err-found-clause-gives : goal.returns-in_err-found-clause-gives
returns-in_err-found-clause-gives c =
    let known = known_of c.args.known.now in
    let head = head_of (c.in_ok-params.params, c.in_ok-params.kind) in
    let is : head_walk known.aliases known.functions c.args.name.now c.args.parts.now c.args.text.now ≡ Ok head = rw c.as_slice-functions.ensures at c.in_ok-params.ensures.answers in
    function_refused c.args.setting.entries.now c.args.setting.edition known c.args.name.now c.args.parts.now c.args.text.now c.args.e.now c.args.known.now.met head
    c.in_err-found.field-0.0 c.from_residual-in_err-found.result is c.in_err-found.ensures c.from_residual-in_err-found.ensures.1

pub returns-clause-gives : goal.returns-clause-gives
returns-clause-gives c =
    let known = known_of c.args.known.now in
    let head = head_of (c.in_ok-params.params, c.in_ok-params.kind) in
    let is : head_walk known.aliases known.functions c.args.name.now c.args.parts.now c.args.text.now ≡ Ok head = rw c.as_slice-functions.ensures at c.in_ok-params.ensures.answers in
    let answer : List ℕ → TypedExpr → Result (TypedFunction × List TypedName) Broken =
    λ name found. Ok (record { name = name; params = c.in_ok-params.params; result = c.in_ok-params.kind; body = found }, c.in_ok-found.met) in
    function_found c.args.setting.entries.now c.args.setting.edition known c.args.name.now c.args.parts.now c.args.text.now c.args.e.now c.args.known.now.met head
    c.in_ok-found.found c.in_ok-found.met is c.in_ok-found.ensures
    ∙ ap (λ name. answer name c.in_ok-found.found) (sym c.in_ok-copied.ensures) ∙ ap (λ found. answer c.in_ok-copied.copied found) (sym c.into_inner.ensures)
