-- Invariants of `read_rest`: the rest of a file, of which it reads at most one byte more than the limit.
use Rattle.std.proofs.Common.{◌≤◌, [], vec_len}
use Rattle.outside.specs.Streams.{KeepsWhole}
use Rattle.outside.proofs.host_files.read_rest.Given as goal

abbrev pub invariant-parts : goal.invariant-parts
invariant-parts g l = (vec_len l.bytes ≤ l.limit) × KeepsWhole (g.F.Read.remaining l.fn.file) (g.F.Read.remaining l.file) [] l.bytes.items
