-- Answers to the goals of `SpanStack::push`.
use Rattle.std.proofs.Common.{length-set, arith}
use Rattle.frame_stack.proofs.Spans.{fits, pushed}
use Rattle.frame_stack.proofs.span.SpanStack.push.Goals as goal

pub index_mut-requires : goal.index_mut-requires
index_mut-requires c = omega (arith, c.self.inside.spans.ok.0, fits c.self.inside.spans.items c.self.inside.count c.args.self.now c.self.view_is c.requires)

pub invariant_of-self : goal.invariant_of-self
invariant_of-self c =
    omega (arith, length-set c.self.inside.spans.items c.self.inside.count c.args.span, fits c.self.inside.spans.items c.self.inside.count c.args.self.now c.self.view_is c.requires)

pub returns : goal.returns
returns c = pushed c.self.inside.spans.items c.self.inside.count c.args.span c.args.self.now c.self.view_is c.requires
