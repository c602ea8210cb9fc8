-- Answers to the goals of `compiled_calls_agree_law`: the law of calls with this compiler's jets and
-- loops.
use Rattle.hl_call_laws.proofs.Calls.{compiled_calls_agree}
use Rattle.hl_call_laws.proofs.compiled_calls_agree_law.Goals as goal

pub returns : goal.returns
returns c = compiled_calls_agree
