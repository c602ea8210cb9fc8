-- Invariants of `function_named`: the function of a name.
use Rattle.std.proofs.Common.{◌≡◌}
use Rattle.std.proofs.Math.ListN.{drop}
use Rattle.hl_progress.specs.Calls.{function_of}
use Rattle.eval_command.proofs.evaluation.function_named.Given as goal

abbrev pub invariant-functions : goal.invariant-functions
invariant-functions l = function_of (drop l.one-index l.functions) l.name ≡ function_of l.functions l.name
