-- Answers to the goals of `make`: makes the tree of a type, or leaves the steps that make it.
use Rattle.std.proofs.Common.{[]}
use Rattle.type_table.specs.Steps.{stack_of}
use Rattle.type_table.proofs.Stacks.{one_made, stack_of-push, sum_planned, product_planned}
use Rattle.type_table.proofs.table.TypeTable.make.Goals as goal

pub returns-in_ok-push-in-One-clause-after : goal.returns-in_ok-push-in-One-clause-after
returns-in_ok-push-in-One-clause-after c =
    rw (c.in_ok-push-in-One.ensures.items, stack_of-push) (one_made c.args.self.now c.args.steps.now.items c.args.id c.requires (stack_of c.args.trees.now.items) c.in-One.ensures.shape)

pub returns-in_ok-plan-in-Sum-clause-after : goal.returns-in_ok-plan-in-Sum-clause-after
returns-in_ok-plan-in-Sum-clause-after c = (sum_planned c.args.self.now c.args.steps.now.items c.args.id c.requires (stack_of c.args.trees.now.items) _ _ c.in-Sum.ensures.shape _ c.in_ok-plan-in-Sum.ensures).0

pub returns-in_ok-plan-in-Sum-clause-less : goal.returns-in_ok-plan-in-Sum-clause-less
returns-in_ok-plan-in-Sum-clause-less c = (sum_planned c.args.self.now c.args.steps.now.items c.args.id c.requires [] _ _ c.in-Sum.ensures.shape _ c.in_ok-plan-in-Sum.ensures).1

pub returns-in_ok-plan-in-Product-clause-after : goal.returns-in_ok-plan-in-Product-clause-after
returns-in_ok-plan-in-Product-clause-after c = (product_planned c.args.self.now c.args.steps.now.items c.args.id c.requires (stack_of c.args.trees.now.items) _ _ c.in-Product.ensures.shape _ c.in_ok-plan-in-Product.ensures).0

pub returns-in_ok-plan-in-Product-clause-less : goal.returns-in_ok-plan-in-Product-clause-less
returns-in_ok-plan-in-Product-clause-less c = (product_planned c.args.self.now c.args.steps.now.items c.args.id c.requires [] _ _ c.in-Product.ensures.shape _ c.in_ok-plan-in-Product.ensures).1
