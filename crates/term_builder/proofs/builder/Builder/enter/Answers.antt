-- Answers to the goals of `enter`.
use Rattle.std.proofs.Common.{◌∙◌, sym, ap, subst}
use Rattle.type_table.specs.Kinds.{kind_at}
use Rattle.term_builder.proofs.Turns.{held_scope, scope_entered, held_then}
use Rattle.term_builder.specs.State.{state_of, Held, IsHeld}
use Rattle.term_builder.specs.Steps.{kind_of_core, entered}
use Rattle.term_builder.proofs.builder.Builder.enter.Goals as goal

pub invariant_of-self : goal.invariant_of-self
invariant_of-self c =
    (held_then (record { kinds = c.self.inside.types; rows = c.self.inside.terms; here = c.self.inside.here; outer = c.self.inside.outer; made = c.self.inside.made; kept = c.self.inside.kept.items }) c.self.invariant.0 c.id_of.new.self c.self.view_is c.product.new.self c.product.ensures.grown, c.self.invariant.1)

pub invariant_of-self-in_err-push : goal.invariant_of-self-in_err-push
invariant_of-self-in_err-push c =
    (subst (λ o. IsHeld (record { kinds = c.product.new.self; rows = c.self.inside.terms; here = c.self.inside.here; outer = o; made = c.self.inside.made; kept = c.self.inside.kept.items })) (sym c.in_err-push.ensures.err) (held_then (record { kinds = c.self.inside.types; rows = c.self.inside.terms; here = c.self.inside.here; outer = c.self.inside.outer; made = c.self.inside.made; kept = c.self.inside.kept.items }) c.self.invariant.0 c.id_of.new.self c.self.view_is c.product.new.self c.product.ensures.grown), c.self.invariant.1)

pub invariant_of-self-2 : goal.invariant_of-self-2
invariant_of-self-2 c =
    (held_scope (record { kinds = c.self.inside.types; rows = c.self.inside.terms; here = c.self.inside.here; outer = c.self.inside.outer; made = c.self.inside.made; kept = c.self.inside.kept.items }) c.self.invariant.0 c.product.new.self c.product.ensures.grown c.in_ok-both.both c.push.new.self c.in_ok-both.ensures.ok.within c.in_ok-push.ensures.ok, c.self.invariant.1)

pub returns : goal.returns
returns c =
    scope_entered (record { kinds = c.self.inside.types; rows = c.self.inside.terms; here = c.self.inside.here; outer = c.self.inside.outer; made = c.self.inside.made; kept = c.self.inside.kept.items }) c.self.invariant.0 c.product.new.self c.product.ensures.grown c.in_ok-both.both c.in_ok-part.part c.in_ok-both.ensures.ok c.push.new.self c.in_ok-push.ensures.ok ∙ ap (entered (kind_at c.self.inside.types c.in_ok-part.part)) (ap state_of c.self.view_is) ∙ ap (λ k. entered k (state_of c.id_of.new.self)) (ap (λ (h : Held). kind_at h.kinds c.in_ok-part.part) c.self.view_is ∙ c.in_ok-part.ensures.ok.is) ∙ ap (entered (kind_of_core c.args.kind)) c.in_ok-part.ensures.same
