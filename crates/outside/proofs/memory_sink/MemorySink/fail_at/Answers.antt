-- Answers to the goals of `fail_at`: makes the call of `put` with this number fail, after it kept so
-- many bytes of its piece, or as many as there are and have room.
use Rattle.outside.proofs.KeptPlans.{AddsPlan-push}
use Rattle.outside.proofs.memory_sink.MemorySink.fail_at.Goals as goal

pub returns-clause-ok : goal.returns-clause-ok
returns-clause-ok c =
    rw c.in_ok-push.ensures.items (AddsPlan-push c.args.self.now.planned.items (record { call = c.args.call; kept = c.args.kept }))
