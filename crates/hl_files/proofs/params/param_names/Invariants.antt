-- Invariants of `param_names`: the names of the parameters that stand in a program, in any of its
-- functions, each once and in the order in which they first stand.
use Rattle.std.proofs.Common.{◌≡◌, drop}
use Rattle.std.specs.Prelude.{flat_map}
use Rattle.hl_files.specs.Params.{in_item, param_names, with_names}
use Rattle.hl_files.proofs.params.param_names.Given as goal

abbrev pub invariant-items : goal.invariant-items
invariant-items l = with_names l.names (flat_map in_item (drop l.item-index l.item-items)) ≡ param_names l.fn.program
