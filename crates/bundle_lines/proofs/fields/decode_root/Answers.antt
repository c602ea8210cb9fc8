-- Answers to the goals of `decode_root`: the root that a line of 64 hexadecimal digits spells, in either
-- case.
use Rattle.std.proofs.Common.{◌≡◌, sym, subst}
use Rattle.std.specs.Prelude.{IsOk}
use Rattle.hex.proofs.HexLemmas.{IsOk-decode_sized}
use Rattle.bundle_lines.proofs.fields.decode_root.Goals as goal

pub returns-in-Err-clause-err : goal.returns-in-Err-clause-err
returns-in-Err-clause-err c = λ digits.
    let told : IsOk c.from_hex.result = subst IsOk (sym c.from_hex.ensures) ((IsOk-decode_sized c.args.line.now 32).1 digits) in
    let failed = subst IsOk c.in-Err.is told in
    absurd (cc)
