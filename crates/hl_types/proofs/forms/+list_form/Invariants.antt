-- Measures of `list_form` in `forms`.
use Rattle.hl_types.proofs.forms.+list_form.Given as goal

abbrev pub decreases-list_form : goal.decreases-list_form
decreases-list_form l = l.level
