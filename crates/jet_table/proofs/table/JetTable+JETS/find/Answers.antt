-- Answers to the goals of `find`: the place of the jet with a name.
use Rattle.std.proofs.Common.{◌≡◌, map, Contains, slice_get, option_map, Some, IfSome, IfNone, subst}
use Rattle.jets.specs.Jet.{row_name}
use Rattle.jet_table.proofs.Found.{found, found_within, absent}
use Rattle.jet_table.proofs.table.JetTable+JETS.find.Goals as goal

pub returns-clause-there : goal.returns-clause-there
returns-clause-there c =
    subst (λ rows. IfSome c.place_of.result (λ place. option_map row_name (slice_get rows place) ≡ Some c.args.name.now))
    c.self.view_is (found c.args.name.now c.self.inside.rows c.place_of.result c.place_of.ensures)

pub returns-clause-absent : goal.returns-clause-absent
returns-clause-absent c =
    subst (λ rows. IfNone c.place_of.result (¬ Contains (map row_name rows) c.args.name.now))
    c.self.view_is (absent c.args.name.now c.self.inside.rows c.place_of.result c.place_of.ensures)

pub returns-clause-within : goal.returns-clause-within
returns-clause-within c = found_within c.args.name.now c.self.inside.rows _ c.place_of.result c.self.invariant.0 c.place_of.ensures
