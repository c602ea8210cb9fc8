-- Answers to the goals of `read_value`: the value of the type that a text is.
use Rattle.hl_values.proofs.OfKind.{of_kind}
use Rattle.hl_values.proofs.Texts.{value_found, value_refused_at, text_refused}
use Rattle.hl_values.proofs.read.read_value.Goals as goal

pub returns-in-Ok-value_at-clause-read : goal.returns-in-Ok-value_at-clause-read
returns-in-Ok-value_at-clause-read c = value_found c.args.text.now c.args.kind.now c.in-Ok.tree c.in-Ok-value_at.value c.in-Ok.ensures (rw c.get.ensures at c.in-Ok-value_at.ensures)

pub returns-in-Ok-value_at-clause-of_kind : goal.returns-in-Ok-value_at-clause-of_kind
returns-in-Ok-value_at-clause-of_kind c = of_kind c.args.kind.now c.requires c.get.result.now c.in-Ok-value_at.value c.in-Ok-value_at.ensures

pub returns-in-Ok-clause-read : goal.returns-in-Ok-clause-read
returns-in-Ok-clause-read c = value_refused_at c.args.text.now c.args.kind.now c.in-Ok.tree c.get.result.now c.in-Err-value_at.refusal c.in-Ok.ensures c.get.ensures c.in-Err-value_at.ensures

pub returns-clause-read : goal.returns-clause-read
returns-clause-read c = text_refused c.args.text.now c.args.kind.now c.in-Err.refusal c.in-Err.ensures
