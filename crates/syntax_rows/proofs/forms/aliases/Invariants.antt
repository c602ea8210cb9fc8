-- Invariants of `aliases`: `type X = u2; type Y = X;`
use Rattle.hl_types.specs.Walks.{AreSound}
use Rattle.syntax_rows.proofs.forms.aliases.Given as goal

abbrev pub invariant-loop-name : goal.invariant-loop-name
invariant-loop-name l = AreSound l.aliases
