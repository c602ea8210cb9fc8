-- The greatest numbers that are allowed of a program and of its runs, and those that 64 bits hold (this project's own).
use Rattle.std.specs.Prelude.{ℕ, ◌-◌, ◌^◌, min}

-- the number, or 2 ^ 64 - 1 from there on
abbrev pub capped : ℕ → ℕ
capped n = min n (2 ^ 64 - 1)

-- L5: the weight of a type, which is the nodes of its tree
abbrev pub most_weight : ℕ
most_weight = 4194304

-- L6: the nodes of a program
abbrev pub most_nodes : ℕ
most_nodes = 1048576

-- L7, L8 and L9: the bounds of a program's work, of its cells and of its frames
abbrev pub most_work : ℕ
most_work = 2 ^ 32

abbrev pub most_cells : ℕ
most_cells = 2 ^ 26

abbrev pub most_frames : ℕ
most_frames = 65536
