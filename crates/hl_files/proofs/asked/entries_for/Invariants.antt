-- Invariants of `entries_for`: the entries of wanted names.
use Rattle.serde_json.specs.View.{view}
use Rattle.hl_meaning.specs.Entries.{AreValued}
use Rattle.hl_files.specs.Reads.{WantedAt}
use Rattle.hl_files.specs.Turns.{Always}
use Rattle.hl_files.proofs.Turning.{Passed}
use Rattle.hl_files.proofs.asked.entries_for.Given as goal

abbrev pub invariant-wanted : goal.invariant-wanted
invariant-wanted l = record {
  passed : Passed (Always (WantedAt (view l.file))) l.one-items l.one-index l.entries;
  valued : AreValued l.entries;
}
