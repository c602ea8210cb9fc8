-- Answers to the goals of `witness_of` in `evaluator`.
use Rattle.std.proofs.Common.{ap, sym, ◌∙◌, option_map}
use Rattle.hl_meaning.specs.Answer.{known, gives}
use Rattle.hl_eval.proofs.Names.{meant_of}
use Rattle.hl_eval.proofs.evaluator.Evaluator.witness_of.Goals as goal

pub returns-in_ok-copy_value-in-Some : goal.returns-in_ok-copy_value-in-Some
returns-in_ok-copy_value-in-Some c =
    let found = rw c.as_str.ensures at c.in-Some.ensures in
    ap known (meant_of (λ e. record { name = e.name; value = e.value }) c.args.name.now c.args.self.now.witness.now ∙ ap (option_map (λ e. e.value)) (sym found))
    ∙ ap gives (sym c.in_ok-copy_value-in-Some.ensures)

pub returns-in-None : goal.returns-in-None
returns-in-None c =
    let found = rw c.as_str.ensures at c.in-None.ensures in
    ap known (meant_of (λ e. record { name = e.name; value = e.value }) c.args.name.now c.args.self.now.witness.now ∙ ap (option_map (λ e. e.value)) (sym found))
