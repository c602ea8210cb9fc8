-- Invariants of `unbuilt`: what is left of the functions decides.
use Rattle.std.proofs.Common.{◌≡◌, drop}
use Rattle.hl_constructs.specs.Held.{in_program}
use Rattle.hl_constructs.proofs.search.unbuilt.Given as goal

abbrev pub invariant-functions : goal.invariant-functions
invariant-functions l = in_program (drop l.function-index l.function-items) ≡ in_program l.fn.program.functions
