-- Answers to the goals of `entries_for`: the entries of wanted names.
use Rattle.std.proofs.Common.{Some, refl}
use Rattle.serde_json.specs.View.{view}
use Rattle.hl_files.specs.declared.refusal.WantedRefusal.TheVariants.{OutOfMemory}
use Rattle.hl_files.specs.Reads.{WantedAt}
use Rattle.hl_files.specs.Turns.{Always}
use Rattle.hl_files.proofs.Readings.{entry_next}
use Rattle.hl_files.proofs.Turning.{refused, passed_all}
use Rattle.hl_files.proofs.asked.entries_for.Goals as goal

pub returns-in_err-entry-clause-finds : goal.returns-in_err-entry-clause-finds
returns-in_err-entry-clause-finds c =
    refused (Always (WantedAt (view c.args.file.now))) c.as_slice-one-items.result.now c.wanted.one-index c.one-item.result c.wanted-test.true c.one-item.is c.args.wanted.now c.as_slice-one-items.ensures
    c.wanted.entries c.in_err-entry.field-0.0 c.from_residual.result c.in_err-entry.ensures.finds c.wanted.invariant.passed c.from_residual.ensures.1

pub returns-in_err-push-clause-finds : goal.returns-in_err-push-clause-finds
returns-in_err-push-clause-finds c =
    refused (Always (WantedAt (view c.args.file.now))) c.as_slice-one-items.result.now c.wanted.one-index c.one-item.result c.wanted-test.true c.one-item.is c.args.wanted.now c.as_slice-one-items.ensures
    c.wanted.entries OutOfMemory c.from_residual-in_err-push.result tt c.wanted.invariant.passed c.from_residual-in_err-push.ensures.1

pub wanted-preserved : goal.wanted-preserved
wanted-preserved c =
    let n = entry_next (Always (WantedAt (view c.args.file.now))) c.as_slice-one-items.result.now c.wanted.one-index c.one-item.result c.wanted-test.true c.one-item.is
    c.wanted.entries c.push.new.self (Some c.in_ok-entry.entry) c.in_ok-entry.entry refl c.in_ok-push.ensures.ok c.in_ok-entry.ensures.finds c.in_ok-entry.ensures.valued c.wanted.invariant.passed c.wanted.invariant.valued in
    record { passed = n.0; valued = n.1 }

pub returns-clause-finds : goal.returns-clause-finds
returns-clause-finds c =
    passed_all (Always (WantedAt (view c.args.file.now))) c.as_slice-one-items.result.now c.args.wanted.now c.as_slice-one-items.ensures c.wanted.one-index c.wanted.entries c.wanted-test.false c.wanted.invariant.passed
