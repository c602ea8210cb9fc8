-- The code's cells as the definition's.
use Rattle.std.specs.Prelude.{true, false, List, map}
use Rattle.simplicity.specs.Cells as spec
use Rattle.frame_stack.specs.declared.cells.Cell.{Cell}
use Rattle.frame_stack.specs.declared.cells.Cell.TheVariants as code

abbrev pub cell_of : Cell → spec.Cell
cell_of code.Zero = spec.Bit false
cell_of code.One = spec.Bit true
cell_of code.Undefined = spec.Undefined

abbrev pub cells_of : List Cell → List spec.Cell
cells_of cs = map cell_of cs
