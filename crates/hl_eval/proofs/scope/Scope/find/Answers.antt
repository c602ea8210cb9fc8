-- Answers to the goals of `find` in `scope`.
use Rattle.std.proofs.Common.{ap, sym, ◌∙◌, option_map}
use Rattle.hl_meaning.specs.Scopes.{meant}
use Rattle.hl_eval.proofs.Names.{meant_last}
use Rattle.hl_eval.proofs.scope.Scope.find.Goals as goal

pub returns-in-Some : goal.returns-in-Some
returns-in-Some c =
    let found = rw (c.as_str.ensures, c.as_slice.ensures.value) at c.in-Some.ensures in
    ap (meant c.args.name.now) (sym c.self.view_is) ∙ meant_last (λ b. record { name = b.name; value = b.value }) c.args.name.now c.self.inside.bindings.items
    ∙ ap (option_map (λ b. b.value)) (sym found)

pub returns-in-None : goal.returns-in-None
returns-in-None c =
    let found = rw (c.as_str.ensures, c.as_slice.ensures.value) at c.in-None.ensures in
    ap (meant c.args.name.now) (sym c.self.view_is) ∙ meant_last (λ b. record { name = b.name; value = b.value }) c.args.name.now c.self.inside.bindings.items
    ∙ ap (option_map (λ b. b.value)) (sym found)
