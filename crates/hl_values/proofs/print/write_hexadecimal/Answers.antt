-- Answers to the goals of `write_hexadecimal`: the 32 hexadecimal digits of a number.
use Rattle.std.proofs.Common.{◌++◌, [], ◌∷◌, ap, ◌∙◌}
use Rattle.std.specs.Prelude.{string_bytes}
use Rattle.hl_values.proofs.Printing.{digit_written, digit_small}
use Rattle.hl_values.proofs.print.write_hexadecimal.Goals as goal

pub loop-done-preserved : goal.loop-done-preserved
loop-done-preserved c =
    let small = digit_small c.hexadecimal_digit.result _ c.hexadecimal_digit.ensures in
    let ascii = c.in_ok-push.ensures.ascii small in
    let bytes = c.in_ok-push.ensures.bytes in
    digit_written _ _ _ c.loop-done.done c.args.number c.loop-done-test.true c.loop-done.invariant
    (bytes ∙ ap (λ t. string_bytes c.loop-done.text ++ t) (ascii ∙ ap (λ d. d ∷ []) c.hexadecimal_digit.ensures))
