-- What is asked of a jet's result.
use Rattle.jet_table.specs.Rows.{row_of}
use Rattle.jet_table.specs.declared.row.JetRow.{JetRow}
use Rattle.hl_rules.specs.Exprs.{jet_result}
use Rattle.hl_rules.specs.Same.{same_type}
use Rattle.hl_rules.specs.Steps.{Step, needs}
use Rattle.hl_scope.specs.declared.asked.Asked.{Asked}

-- a jet's result is of the type that is asked, or the rule is broken that is named where it isn't
abbrev pub result_fits : JetRow → Asked → Step (Unit {0})
result_fits row asked = needs (same_type (jet_result (row_of row)) asked.expected.now) asked.rule asked.span
