-- Invariants of `parameters`: the parameters, and the parenthesis after them.
use Rattle.std.proofs.Common.{◌≡◌, ◌-◌, []}
use Rattle.small_source.specs.Read.{parameters_read}
use Rattle.small_source.proofs.read.parameters.Given as goal

abbrev pub invariant-loop : goal.invariant-loop
invariant-loop l = parameters_read 8 [] l.fn.cursor ≡ parameters_read (8 - l.counter) l.names.items l.cursor
