-- Measures of `tuple_form` in `forms`.
use Rattle.std.proofs.Common.{length}
use Rattle.hl_types.proofs.forms.+tuple_form.Given as goal

abbrev pub decreases-tuple_form : goal.decreases-tuple_form
decreases-tuple_form l = length l.parts.now
