-- Answers to the goals of `calls_agree_law`: each call of a typed program that fits it: the term of the
-- function that is called, on the encoding of the argument, gives the encoding of the value that the
-- call gives, and fails exactly where the call fails; one of both is the case.
use Rattle.hl_call_laws.proofs.Calls.{calls_agree}
use Rattle.hl_call_laws.proofs.calls_agree_law.Goals as goal

pub returns : goal.returns
returns c = calls_agree
