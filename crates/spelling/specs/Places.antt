-- The places of a reading (this project's own).
use Rattle.std.specs.Prelude.{◌≡◌, ℕ, ◌+◌, ◌*◌, List, Bool, length}
use Rattle.simplicity.specs.Nodes.{Node}
use Rattle.simplicity.specs.Spelling.{node_bits}
use Rattle.spelling.specs.Reading.{Read, Got, Refused, EndOfBits, read_node, read_program}

-- of so many bits in all: a reading goes on at the number of those read, and where the bits end it is refused at the number of all
abbrev pub IsOf : {A : Type 0} → ℕ → Read A → Type 0
IsOf all (Got a at rest) = at + length rest ≡ all
IsOf all (Refused (EndOfBits at)) = at ≡ all
IsOf all (Refused r) = Unit {0}

-- where the bits of a program end too soon it is refused at the number of all its bits, and a node is read from where it stands to where it ends
pub record PlacesCount : Type 0 where
  pub ends : (bytes : List ℕ) (at : ℕ) → read_program bytes ≡ Refused (EndOfBits at) → at ≡ 8 * length bytes
  pub whole : (bytes : List ℕ) (ns : List Node) (end : ℕ) (rest : List Bool) → read_program bytes ≡ Got ns end rest → end + length rest ≡ 8 * length bytes
  pub nodes : (i at end : ℕ) (bits rest : List Bool) (n : Node) → read_node i at bits ≡ Got n end rest → end ≡ at + length (node_bits i n)
