-- Answers to the goals of `leave`: the scope around this one.
use Rattle.std.proofs.Common.{◌<◌, suc, length, subst, sym, ◌∙◌, arith}
use Rattle.std.specs.List.{All}
use Rattle.term_builder.proofs.builder.Builder.leave.Goals as goal

pub invariant_of-self : goal.invariant_of-self
invariant_of-self c =
    let h = subst (All (λ id. id < length c.self.inside.types)) c.in-Some.ensures.some c.self.invariant.0.outer in
    (record { stands = c.self.invariant.0.stands; here = h 0 0 (omega arith); outer = λ k d less. h (suc k) d (omega (arith, less)); made = c.self.invariant.0.made; kept = c.self.invariant.0.kept }, c.self.invariant.1)

pub invariant_of-self-in_default : goal.invariant_of-self-in_default
invariant_of-self-in_default c =
    (record { stands = c.self.invariant.0.stands; here = c.self.invariant.0.here; outer = subst (All (λ id. id < length c.self.inside.types)) (c.in_default.ensures.none.0 ∙ sym c.in_default.ensures.none.1) c.self.invariant.0.outer; made = c.self.invariant.0.made; kept = c.self.invariant.0.kept }, c.self.invariant.1)
