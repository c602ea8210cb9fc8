-- Measures of `type_text` in `type_texts`.
use Rattle.hl_bindings.proofs.type_texts.+type_text.Given as goal

abbrev pub decreases-type_text : goal.decreases-type_text
decreases-type_text l = l.depth
