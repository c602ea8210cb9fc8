-- A number below 2 ^ 256 in two halves.
use Rattle.std.specs.Prelude.{ℕ, ◌≡◌, ◌+◌, ◌*◌, ◌/◌, ◌%◌, ◌^◌, ◌<◌}
use Rattle.std.proofs.Common.{arith}
use Rattle.word_math.specs.declared.word.Word.TheInside.{Inside}

pub halves_back : (width high low : ℕ) → low < 2 ^ 128
    → (let w : Inside = record { width = width; high = (high * 2 ^ 128 + low) / 2 ^ 128; low = (high * 2 ^ 128 + low) % 2 ^ 128 } in w)
    ≡ record { width = width; high = high; low = low }
halves_back width high low small =
    let h : (high * 2 ^ 128 + low) / 2 ^ 128 ≡ high = omega arith in
    let l : (high * 2 ^ 128 + low) % 2 ^ 128 ≡ low = omega arith in
    cc
