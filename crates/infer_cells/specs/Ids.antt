-- The arrows of places by the ids of their cells.
use Rattle.std.specs.Prelude.{ℕ, List, map, Option, Some, None}
use Rattle.std.specs.List.{slice_index_or}
use Rattle.infer_cells.specs.declared.cell.Place.{Place}
use Rattle.infer_cells.specs.declared.typing.NodeArrow.{NodeArrow}

abbrev pub id_arrow : List ℕ → Option Place → Option NodeArrow
id_arrow ids None = None
id_arrow ids (Some p) = Some (record { source = slice_index_or ids p.source 0; target = slice_index_or ids p.target 0 })

abbrev pub id_arrows : List ℕ → List (Option Place) → List (Option NodeArrow)
id_arrows ids ps = map (id_arrow ids) ps
