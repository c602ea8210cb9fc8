-- Invariants of `fill`: reads as many bytes as there is room for.
use Rattle.std.proofs.Common.{◌≡◌, ◌-◌, length, take}
use Rattle.spelling.specs.Reading.{read_bytes}
use Rattle.cell_bits.specs.Places.{rest}
use Rattle.bit_codec.proofs.Fields.{bytes_from}
use Rattle.bit_codec.proofs.node.fill.Given as goal

abbrev pub invariant-loop-place : goal.invariant-loop-place
invariant-loop-place l =
    (read_bytes (length l.fn.bytes) l.fn.bits.at (rest l.fn.bits) ≡ bytes_from (take l.place l.bytes) (length l.fn.bytes - l.place) l.bits.at (rest l.bits))
    × (l.bits.bits ≡ l.fn.bits.bits) × (length l.bytes ≡ length l.fn.bytes)
