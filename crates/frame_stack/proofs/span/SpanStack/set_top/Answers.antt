-- Answers to the goals of `SpanStack::set_top`.
use Rattle.frame_stack.proofs.Spans.{replaced}
use Rattle.frame_stack.proofs.span.SpanStack.set_top.Goals as goal

pub returns : goal.returns
returns c = replaced c.self.inside.spans.items c.self.inside.count c.args.span c.args.self.now c.self.view_is c.self.invariant c.requires
