-- Measures of `write_kind`: writes a core type, where 2 is a bit.
use Rattle.syntax_rows.proofs.forms.+write_kind.Given as goal

abbrev pub decreases-write_kind : goal.decreases-write_kind
decreases-write_kind l = l.id
