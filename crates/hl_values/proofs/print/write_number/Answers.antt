-- Answers to the goals of `write_number`: a number in decimal, or of 256 bits as `0x` and 64 digits.
use Rattle.std.proofs.Common.{sym, ◌∙◌}
use Rattle.hl_values.proofs.Printing.{wide_written}
use Rattle.hl_values.proofs.print.write_number.Goals as goal

pub returns-then-width-eq256 : goal.returns-then-width-eq256
returns-then-width-eq256 c =
    wide_written _ _ _ _ c.args.word.now c.high.result c.low.result (sym c.width.ensures.value ∙ c.if-width-eq256.true) c.high.ensures c.low.ensures c.in_ok-push_str.ensures.bytes c.in_ok-write_hexadecimal.ensures
    c.in_ok-write_hexadecimal-2.ensures
