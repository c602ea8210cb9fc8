-- Answers to the goals of `next_part`: the first part of a cell that has no id yet.
use Rattle.std.proofs.Common.{length}
use Rattle.infer_cells.proofs.Paths.{parts_link, parts_sum, parts_product}
use Rattle.infer_cells.proofs.walk.next_part.Goals as goal

pub undone-requires : goal.undone-requires
undone-requires c = parts_link c.args.cell c.in-Link.other (length c.args.marks.now) c.in-Link.is c.requires

pub first_undone-requires-clause-first : goal.first_undone-requires-clause-first
first_undone-requires-clause-first c = (parts_sum c.args.cell c.in-Sum.first c.in-Sum.second (length c.args.marks.now) c.in-Sum.is c.requires).0

pub first_undone-requires-clause-second : goal.first_undone-requires-clause-second
first_undone-requires-clause-second c = (parts_sum c.args.cell c.in-Sum.first c.in-Sum.second (length c.args.marks.now) c.in-Sum.is c.requires).1

pub first_undone-requires-in-Product-clause-first : goal.first_undone-requires-in-Product-clause-first
first_undone-requires-in-Product-clause-first c =
    (parts_product c.args.cell c.in-Product.first c.in-Product.second (length c.args.marks.now) c.in-Product.is c.requires).0

pub first_undone-requires-in-Product-clause-second : goal.first_undone-requires-in-Product-clause-second
first_undone-requires-in-Product-clause-second c =
    (parts_product c.args.cell c.in-Product.first c.in-Product.second (length c.args.marks.now) c.in-Product.is c.requires).1
