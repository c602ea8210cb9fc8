-- Answers to the goals of `stream_determines_law`: values of given types and the bytes of their stream
-- determine each other.
use Rattle.simplicity.proofs.Spell.{one_stream_bytes, one_stream}
use Rattle.simplicity.proofs.stream_determines_law.Goals as goal

pub returns : goal.returns
returns c = record { bytes = one_stream_bytes; values = one_stream }
