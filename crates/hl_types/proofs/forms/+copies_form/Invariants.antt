-- Measures of `copies_form` in `forms`.
use Rattle.hl_types.proofs.forms.+copies_form.Given as goal

abbrev pub decreases-copies_form : goal.decreases-copies_form
decreases-copies_form l = l.count
