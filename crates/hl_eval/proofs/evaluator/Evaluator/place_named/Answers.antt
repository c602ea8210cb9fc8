-- Answers to the goals of `place_named` in `evaluator`.
use Rattle.std.proofs.Common.{refl}
use Rattle.hl_eval.specs.Here.{witness_in}
use Rattle.hl_eval.proofs.Called.{found, function_missing}
use Rattle.hl_eval.proofs.evaluator.Evaluator.place_named.Goals as goal

pub returns-in-Some : goal.returns-in-Some
returns-in-Some c =
    let place = c.in-Some.ensures.place in
    let f = found (witness_in c.args.self.now) c.args.name.now c.args.self.now.functions.now c.in-Some.place c.in-Some.ensures.within place in
    record { within = c.in-Some.ensures.within; function = f.0; there = f.1; means = f.2 }

pub returns-in-None : goal.returns-in-None
returns-in-None c =
    let place = c.in-None.ensures.place in
    (refl, function_missing (witness_in c.args.self.now) c.args.name.now c.args.self.now.functions.now place)
