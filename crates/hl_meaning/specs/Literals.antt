-- The numbers that literals spell.
use Rattle.std.specs.Prelude.{ℕ, ◌+◌, ◌*◌, not, ◌==◌, List, drop, filter, fold, if◌then◌else◌}
use Rattle.std.specs.Char.{digit_value, is_ascii_digit}
use Rattle.std.specs.Str.{byte}
use Rattle.simplicityhl.specs.Tokens.{are_digits, is_hexadecimal, decimal_value}

-- the number that digits of a base spell, `_` between them left out
abbrev pub based_value : ℕ → List ℕ → ℕ
based_value base digits = fold (λ n c. n * base + digit_value c) 0 (filter (λ c. not (c == byte "_")) digits)

-- a decimal, or digits after `0x` or after `0b`
abbrev pub literal_value : List ℕ → ℕ
literal_value word =
    if are_digits is_ascii_digit word then decimal_value word
    else (if is_hexadecimal word then based_value 16 (drop 2 word) else based_value 2 (drop 2 word))
