-- Invariants of `read_files`: reads files one after the other, up to the first that isn't read.
use Rattle.command_files.specs.Reads.{texts_of}
use Rattle.command_files.proofs.Reached.{Reached}
use Rattle.command_files.proofs.files.read_files.Given as goal

abbrev pub invariant-named : goal.invariant-named
invariant-named g l = Reached l.named (g.F.Files.state l.fn.files) (g.F.Files.state l.files) l.file-index (texts_of l.found.items)
