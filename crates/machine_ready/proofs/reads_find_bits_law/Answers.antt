-- Answers to the goals of `reads_find_bits_law`.
use Rattle.machine_ready.proofs.Going.{reads_find_bits}
use Rattle.machine_ready.proofs.reads_find_bits_law.Goals as goal

pub returns : goal.returns
returns c = reads_find_bits
