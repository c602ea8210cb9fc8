-- Answers to the goals of `count_of`: the number that a word's digits spell, or 65,537 where it is more.
use Rattle.std.proofs.Common.{◌≡◌, refl, ◌<◌, ◌+◌, ◌*◌, ◌-◌, min, true, false, length, get_or, arith, sym, ◌∙◌}
use Rattle.std.specs.Char.{is_ascii_digit}
use Rattle.simplicityhl.specs.Tokens.{decimal_value}
use Rattle.hl_types.proofs.Decimals.{most, digit_read, other_read}
use Rattle.hl_types.proofs.counts.count_of.Goals as goal
use Rattle.hl_types.proofs.counts.count_of.Goals.{then-is_ascii_digit, else-is_ascii_digit}

pub loop-byte-preserved : goal.loop-byte-preserved
loop-byte-preserved c =
    let word = c.args.word.now in
    let place = c.loop-byte.byte-index in
    let short : place < length word = c.loop-byte-test.true in
    elim c.if-is_ascii_digit.branch [
      | then-is_ascii_digit w ↦
          let is : is_ascii_digit (get_or word place 0) ≡ true = sym c.is_ascii_digit.ensures.value ∙ w.if-is_ascii_digit.true in
          let next : c.if-is_ascii_digit.value ≡ min (c.loop-byte.value * 10 + (get_or word place 0 - 48)) most = w.value-is ∙ rw (w.min-value.ensures, w.from.ensures) refl in
          record { small = omega arith; read = rw next (digit_read c.loop-byte.value word place 0 (min (decimal_value word) most) short is c.loop-byte.invariant.read) }
      | else-is_ascii_digit w ↦
          let is : is_ascii_digit (get_or word place 0) ≡ false = sym c.is_ascii_digit.ensures.value ∙ w.if-is_ascii_digit.false in
          record { small = omega (arith, w.value-is); read = rw w.value-is (other_read c.loop-byte.value word place 0 (min (decimal_value word) most) short is c.loop-byte.invariant.read) }
    ]
