-- Answers to the goals of `SpanStack::len`.
use Rattle.std.proofs.Common.{sym, ap, length, ◌∙◌}
use Rattle.frame_stack.specs.Tops.{Spans}
use Rattle.frame_stack.proofs.Spans.{tops_length}
use Rattle.frame_stack.proofs.span.SpanStack.len.Goals as goal

pub returns : goal.returns
returns c = sym (tops_length c.self.inside.spans.items c.self.inside.count) ∙ ap (λ (x : Spans). length x.tops) c.self.view_is
