-- Answers to the goals of `row`: the row at a place.
use Rattle.std.proofs.Common.{◌<◌, length, arith, sym, ap, ◌∙◌, slice_get}
use Rattle.jet_table.proofs.Found.{row_at_place}
use Rattle.jet_table.proofs.Listed.{row_is}
use Rattle.jet_table.proofs.Packed.{packed_at}
use Rattle.jet_table.proofs.table.JetTable+JETS.row.Goals as goal

pub returns-clause-there : goal.returns-clause-there
returns-clause-there c =
    let within : c.args.place < length c.self.inside.rows = omega (arith, c.self.invariant.0) in
    ap (λ rows. slice_get rows c.args.place) (sym c.self.view_is) ∙ row_at_place c.self.inside.rows c.args.place _ within

pub returns-clause-jet : goal.returns-clause-jet
returns-clause-jet c = λ is.
    let within : c.args.place < length c.self.inside.rows = omega (arith, c.self.invariant.0) in
    row_is c.args.self.now c.args.place _ is
    (ap (λ rows. slice_get rows c.args.place) (sym c.self.view_is) ∙ row_at_place c.self.inside.rows c.args.place _ within)

pub returns-clause-packed : goal.returns-clause-packed
returns-clause-packed c =
    let within : c.args.place < length c.self.inside.rows = omega (arith, c.self.invariant.0) in
    packed_at c.self.inside.rows c.args.place _ within c.self.invariant.1
