-- Answers to the goals of `read_compact`: reads the value of a type whose compact code stands next.
use Rattle.std.proofs.Common.{◌≡◌, ◌≤◌, length, arith}
use Rattle.type_table.specs.Kinds.{kind_at}
use Rattle.compact_codes.proofs.Codes.{read_if, ended_if}
use Rattle.compact_codes.proofs.read.read_compact.Goals as goal

pub returns-then-is_err-clause-ends : goal.returns-then-is_err-clause-ends
returns-then-is_err-clause-ends c =
    let place : c.at-start.result ≡ c.args.bits.now.at = c.at-start.ensures.place in
    let within : c.at-start.result ≤ length c.args.bits.now.bits = c.at-start.ensures.within in
    ended_if c.read_parts-answer.result (kind_at c.args.types.now c.args.kind) c.args.bits.now (omega (arith, place, within)) c.read_parts-answer.ensures.ends

pub returns-else-is_err-clause-value : goal.returns-else-is_err-clause-value
returns-else-is_err-clause-value c =
    read_if c.read_parts-answer.result (kind_at c.args.types.now c.args.kind) c.args.bits.now c.read_parts-answer.new.bits c.read_parts-answer.ensures.value c.read_parts-answer.ensures.on
