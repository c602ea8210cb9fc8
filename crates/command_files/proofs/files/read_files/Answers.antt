-- Answers to the goals of `read_files`: reads files one after the other, up to the first that isn't read.
use Rattle.std.proofs.Common.{refl}
use Rattle.command_files.proofs.Reached.{more_reads, one_more, unread_stops}
use Rattle.command_files.proofs.files.read_files.Goals as goal

pub returns-in_err-bytes-clause-reads : goal.returns-in_err-bytes-clause-reads
returns-in_err-bytes-clause-reads g c =
    more_reads c.args.named.now _ (g.F.Files.state c.named.files) _ c.named.file-index c.named-test.true _ c.named.invariant c.in_err-bytes.ensures.reads

pub returns-in_err-bytes-clause-read : goal.returns-in_err-bytes-clause-read
returns-in_err-bytes-clause-read g c =
    unread_stops c.args.named.now _ (g.F.Files.state c.named.files) _ c.named.file-index c.named-test.true _ c.named.invariant c.in_err-bytes.ensures.reads _ c.in_err-bytes.field-0.0 c.from_residual.result c.in_err-bytes.ensures.file c.from_residual.ensures.1

pub returns-in_err-push-clause-reads : goal.returns-in_err-push-clause-reads
returns-in_err-push-clause-reads g c =
    more_reads c.args.named.now _ (g.F.Files.state c.named.files) _ c.named.file-index c.named-test.true _ c.named.invariant c.in_ok-bytes.ensures.reads

pub named-preserved : goal.named-preserved
named-preserved g c =
    one_more c.args.named.now _ (g.F.Files.state c.named.files) _ c.named.file-index c.named-test.true _ c.named.invariant c.in_ok-bytes.ensures.reads _ c.named.found.items c.push.new.self.items c.in_ok-bytes.bytes refl c.in_ok-push.ensures.items c.in_ok-bytes.ensures.held c.in_ok-bytes.ensures.never_fall c.in_ok-bytes.ensures.file
