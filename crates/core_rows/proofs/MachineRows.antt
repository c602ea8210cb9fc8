-- The machine's rows where the sides of a sum differ in size, by computing: nothing takes no cell beside its tag, a byte eight.
use Rattle.std.proofs.Common.{◌≡◌, refl, ℕ, true, false, [], ◌∷◌}
use Rattle.simplicity.specs.Types.{Kind, One, Sum, Product, Inl, Inr, UnitValue, word_kind}
use Rattle.simplicity.specs.Nodes as node
use Rattle.simplicity.specs.Machine.{Program, At, Write, Skip, Read, writing, row, side_at}

left_of_byte : (p : Program) (i t : ℕ) (a : Kind) → row p i (node.Injl t) a (Sum One (word_kind 3)) ≡ Write false ∷ Skip 8 ∷ At t ∷ []
left_of_byte p i t a = refl

byte_on_the_left : (p : Program) (i t : ℕ) (a : Kind) → row p i (node.Injl t) a (Sum (word_kind 3) One) ≡ Write false ∷ Skip 0 ∷ At t ∷ []
byte_on_the_left p i t a = refl

right_of_byte : (p : Program) (i t : ℕ) (a : Kind) → row p i (node.Injr t) a (Sum (word_kind 3) One) ≡ Write true ∷ Skip 8 ∷ At t ∷ []
right_of_byte p i t a = refl

byte_on_the_right : (p : Program) (i t : ℕ) (a : Kind) → row p i (node.Injr t) a (Sum One (word_kind 3)) ≡ Write true ∷ Skip 0 ∷ At t ∷ []
byte_on_the_right p i t a = refl

-- a case goes past the tag and the padding of its side
case_of_byte : (p : Program) (i s t : ℕ) (c d : Kind) → row p i (node.Case s t) (Product (Sum One (word_kind 3)) c) d ≡ Read (side_at p.typing s 9) (side_at p.typing t 1) ∷ []
case_of_byte p i s t c d = refl

-- the same padding where a value of a witness is written
written_left : writing (Sum One (word_kind 3)) (Inl UnitValue) ≡ Write false ∷ Skip 8 ∷ []
written_left = refl

written_right : writing (Sum (word_kind 3) One) (Inr UnitValue) ≡ Write true ∷ Skip 8 ∷ []
written_right = refl
