-- Invariants of `jet_types`: the source types that are there.
use Rattle.std.proofs.Common.{◌≡◌, ◌++◌, drop, map}
use Rattle.jet_table.specs.Rows.{kinds_of}
use Rattle.hl_rules.specs.Exprs.{jet_type}
use Rattle.hl_scope.proofs.signature.jet_types.Given as goal

abbrev pub invariant-loop-kind : goal.invariant-loop-kind
invariant-loop-kind l = l.types ++ map jet_type (kinds_of (drop l.kind-index l.kinds)) ≡ map jet_type (kinds_of l.kinds)
