-- Answers to the goals of `write_whole`: writes the whole piece, in as many parts as the stream takes it.
use Rattle.outside.proofs.Written.{went_on}
use Rattle.outside.proofs.std_sink.write_whole.Goals as goal

pub parts-preserved : goal.parts-preserved
parts-preserved g c = went_on _ _ _ _ c.parts.rest.now c.in-Ok.count c.parts.invariant c.in-Ok.ensures.bytes
