-- Invariants of `items`: the items, one after the other.
use Rattle.std.proofs.Common.{◌≡◌, [], drop}
use Rattle.hl_rules.specs.Programs.{items_walk}
use Rattle.hl_check.specs.Knowns.{IsSoundKnown, known_of}
use Rattle.hl_check.proofs.program.items.Given as goal

abbrev pub invariant-items : goal.invariant-items
invariant-items l =
    let entries = l.setting.entries.now in
    let edition = l.setting.edition in
    record {
      found : items_walk entries edition (known_of l.known) (drop l.one-index l.program) l.known.met ≡ items_walk entries edition (record { aliases = []; functions = [] }) l.program [];
      sound : IsSoundKnown (known_of l.known);
    }
