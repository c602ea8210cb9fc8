-- Answers to the goals of `entries_at`: the entries of names that a file has.
use Rattle.serde_json.specs.View.{view}
use Rattle.hl_files.specs.declared.refusal.TextRefusal.TheVariants.{OutOfMemory}
use Rattle.hl_files.specs.Reads.{FindsAt}
use Rattle.hl_files.proofs.Readings.{entry_next}
use Rattle.hl_files.proofs.Turning.{refused, passed_nothing, passed_all}
use Rattle.hl_files.proofs.named.entries_at.Goals as goal
use Rattle.hl_files.proofs.named.entries_at.Goals.{in-Some+in_ok-push, in_default}

pub returns-in_err-entry-clause-finds : goal.returns-in_err-entry-clause-finds
returns-in_err-entry-clause-finds c =
    refused (FindsAt (view c.args.file.now)) c.as_slice-name-items.result.now c.names.name-index c.name-item.result c.names-test.true c.name-item.is c.args.names.now c.as_slice-name-items.ensures
    c.names.entries c.in_err-entry.field-0.0 c.from_residual.result c.in_err-entry.ensures.finds c.names.invariant.passed c.from_residual.ensures.1

pub returns-in_err-push-clause-finds : goal.returns-in_err-push-clause-finds
returns-in_err-push-clause-finds c =
    refused (FindsAt (view c.args.file.now)) c.as_slice-name-items.result.now c.names.name-index c.name-item.result c.names-test.true c.name-item.is c.args.names.now c.as_slice-name-items.ensures
    c.names.entries OutOfMemory c.from_residual-in_err-push.result tt c.names.invariant.passed c.from_residual-in_err-push.ensures.1

pub names-preserved : goal.names-preserved
names-preserved c =
    elim c.match-branch-2.branch [
      | in-Some+in_ok-push w ↦
          let n = entry_next (FindsAt (view c.args.file.now)) c.as_slice-name-items.result.now c.names.name-index c.name-item.result c.names-test.true c.name-item.is
          c.names.entries w.push.new.self c.in_ok-entry.field-0 w.in-Some.entry w.in-Some.is w.in_ok-push.ensures.ok c.in_ok-entry.ensures.finds c.in_ok-entry.ensures.valued c.names.invariant.passed c.names.invariant.valued in
          rw w.entries-is (record { passed = n.0; valued = n.1 })
      | in_default w ↦
          let p = passed_nothing (FindsAt (view c.args.file.now)) c.as_slice-name-items.result.now c.names.name-index c.name-item.result c.names-test.true c.name-item.is
          c.names.entries (rw w.in_default.is at c.in_ok-entry.ensures.finds) c.names.invariant.passed in
          rw w.entries-is (record { passed = p; valued = c.names.invariant.valued })
    ]

pub returns-clause-finds : goal.returns-clause-finds
returns-clause-finds c =
    passed_all (FindsAt (view c.args.file.now)) c.as_slice-name-items.result.now c.args.names.now c.as_slice-name-items.ensures c.names.name-index c.names.entries c.names-test.false c.names.invariant.passed
