-- Invariants of `write_whole`: writes the whole piece, in as many parts as the stream takes it.
use Rattle.std.proofs.Common.{length}
use Rattle.outside.specs.Streams.{Went}
use Rattle.outside.proofs.std_sink.write_whole.Given as goal

abbrev pub invariant-parts : goal.invariant-parts
invariant-parts g l = Went (g.W.Write.contents l.fn.stream) (g.W.Write.contents l.stream) l.fn.piece l.rest

abbrev pub decreases-parts : goal.decreases-parts
decreases-parts g l = length l.rest
