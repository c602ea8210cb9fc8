-- What is left to do on the way through a tree that is turned to the right: a turn takes a node off, or moves one from the left part to the right.
use Rattle.std.specs.Prelude.{ℕ, ◌+◌, ◌*◌}
use Rattle.simplicity.specs.Types.{Kind, One, Sum, Product, Value, UnitValue, Inl, Inr, Pair}

abbrev pub load : Value → ℕ
load UnitValue = 1
load (Inl a) = load a + 1
load (Inr a) = load a + 1
load (Pair a b) = 2 * load a + load b + 1

abbrev pub kind_load : Kind → ℕ
kind_load One = 1
kind_load (Sum a b) = 2 * kind_load a + kind_load b + 1
kind_load (Product a b) = 2 * kind_load a + kind_load b + 1
