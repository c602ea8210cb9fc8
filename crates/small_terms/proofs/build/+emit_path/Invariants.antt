-- Measures of `emit_path`: adds the nodes that lead to the byte at a place among so many.
use Rattle.small_terms.proofs.build.+emit_path.Given as goal

abbrev pub decreases-emit_path : goal.decreases-emit_path
decreases-emit_path l = l.count
