-- Invariants of `entries_at`: the entries of names that a file has.
use Rattle.serde_json.specs.View.{view}
use Rattle.hl_meaning.specs.Entries.{AreValued}
use Rattle.hl_files.specs.Reads.{FindsAt}
use Rattle.hl_files.proofs.Turning.{Passed}
use Rattle.hl_files.proofs.named.entries_at.Given as goal

abbrev pub invariant-names : goal.invariant-names
invariant-names l = record {
  passed : Passed (FindsAt (view l.file)) l.name-items l.name-index l.entries;
  valued : AreValued l.entries;
}
