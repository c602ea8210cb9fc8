-- Answers to the goals of `leave`: leaves the outermost variables alone, so many.
use Rattle.std.proofs.Common.{◌∙◌, ap, reverse}
use Rattle.hl_scope.proofs.Outer.{outer_left}
use Rattle.hl_scope.proofs.scope.Scope.leave.Goals as goal

pub returns : goal.returns
returns c inner outer e len = ap reverse c.truncate.ensures.items ∙ outer_left c.self.inside.names.items inner outer c.args.outer (c.self.view_is ∙ e) len
