-- Answers to the goals of `decimal_fits` in `literal`.
use Rattle.std.proofs.Common.{rules, [], ◌≡◌, ◌<◌, ◌≤◌, ◌+◌, ◌*◌, ◌-◌, ℕ, true, length, drop, get_or, arith, sym, ◌∙◌}
use Rattle.std.specs.Prelude.{filter}
use Rattle.std.specs.Char.{is_ascii_digit}
use Rattle.std.proofs.lemmas.List.{drop_all}
use Rattle.simplicityhl.specs.Tokens.{decimal_value}
use Rattle.hl_lex.proofs.Decimals.{digit_read, grows, decimal_from}
use Rattle.hl_lex.proofs.literal.decimal_fits.Goals as goal

pub returns-in-None : goal.returns-in-None
returns-in-None c =
    let word = c.args.word.now in
    let value = c.loop-byte.value in
    let place = c.loop-byte.byte-index in
    let short : place < length word = c.loop-byte-test.true in
    let digit : is_ascii_digit (get_or word place 0) ≡ true = sym c.is_ascii_digit.ensures.value ∙ c.if-is_ascii_digit.true in
    let next : ℕ = value * 10 + (get_or word place 0 - 48) in
    let whole : decimal_from next (drop (place + 1) word) ≡ decimal_value word = sym (digit_read value word place 0 short digit) ∙ c.loop-byte.invariant.read in
    let more : next ≤ decimal_from next (drop (place + 1) word) = grows next (filter is_ascii_digit (drop (place + 1) word)) in
    (λ no. Prim.cc, λ fits. absurd (c.in-None.ensures (omega arith)))

pub returns : goal.returns
returns c =
    let word = c.args.word.now in
    let value = c.loop-byte.value in
    let end : drop c.loop-byte.byte-index word ≡ [] = drop_all c.loop-byte.byte-index word c.loop-byte-test.false in
    let whole : value ≡ decimal_value word = rw end at c.loop-byte.invariant.read in
    (λ yes. omega arith, λ fits. search rules)
