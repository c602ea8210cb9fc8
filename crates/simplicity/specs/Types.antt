-- Core types and values (Simplicity Technical Report, "Types"), with the sizes that the Bit Machine gives them.
use Rattle.std.specs.Prelude.{ℕ, zero, suc, ◌+◌, ◌-◌, ◌/◌, ◌%◌, ◌^◌, max, Bool, true, false, nat_eq, List, [], ◌∷◌, ◌++◌}

-- a type: one value, either of two, both of two
pub data Kind : Type 0 where
  One : Kind
  Sum : (a b : Kind) → Kind
  Product : (a b : Kind) → Kind

-- a value: the empty tuple, a value tagged left or right, a pair
pub data Value : Type 0 where
  UnitValue : Value
  Inl : (a : Value) → Value
  Inr : (b : Value) → Value
  Pair : (a b : Value) → Value

-- the value is of the type
abbrev pub IsOf : Value → Kind → Type 0
IsOf UnitValue One = Unit {0}
IsOf (Inl a) (Sum s t) = IsOf a s
IsOf (Inr b) (Sum s t) = IsOf b t
IsOf (Pair a b) (Product s t) = IsOf a s × IsOf b t
IsOf _ _ = ⊥

-- how many cells a value of the type takes
abbrev pub size : Kind → ℕ
size One = 0
size (Sum a b) = 1 + max (size a) (size b)
size (Product a b) = size a + size b

-- how many cells stay undefined after a tag on the left, and on the right
abbrev pub pad_left : Kind → Kind → ℕ
pad_left a b = max (size a) (size b) - size a

abbrev pub pad_right : Kind → Kind → ℕ
pad_right a b = max (size a) (size b) - size b

-- how many nodes the type's tree has
abbrev pub weight : Kind → ℕ
weight One = 1
weight (Sum a b) = 1 + weight a + weight b
weight (Product a b) = 1 + weight a + weight b

-- the compact code of a value: a bit for each tag, and no padding
abbrev pub code : Value → List Bool
code UnitValue = []
code (Inl a) = false ∷ code a
code (Inr b) = true ∷ code b
code (Pair a b) = code a ++ code b

-- each value is of the type at its place
abbrev pub AreOf : List Value → List Kind → Type 0
AreOf [] [] = Unit {0}
AreOf (v ∷ vs) (k ∷ ks) = IsOf v k × AreOf vs ks
AreOf _ _ = ⊥

-- the first type is the second with some of its parts replaced by the unit type
abbrev pub IsBelow : Kind → Kind → Type 0
IsBelow One _ = Unit {0}
IsBelow (Sum a b) (Sum c d) = IsBelow a c × IsBelow b d
IsBelow (Product a b) (Product c d) = IsBelow a c × IsBelow b d
IsBelow _ _ = ⊥

-- the value with those parts cut that the type has as the unit type
abbrev pub shrink : Value → Kind → Value
shrink v One = UnitValue
shrink (Inl a) (Sum s t) = Inl (shrink a s)
shrink (Inr b) (Sum s t) = Inr (shrink b t)
shrink (Pair a b) (Product s t) = Pair (shrink a s) (shrink b t)
shrink v _ = v

-- each value shrunk to the type at its place
abbrev pub shrink_all : List Value → List Kind → List Value
shrink_all [] _ = []
shrink_all (v ∷ vs) [] = v ∷ vs
shrink_all (v ∷ vs) (k ∷ ks) = shrink v k ∷ shrink_all vs ks

-- the word type of 2 ^ k bits: a bit, or two halves
abbrev pub word_kind : ℕ → Kind
word_kind zero = Sum One One
word_kind (suc k) = Product (word_kind k) (word_kind k)

-- a bit as a value
abbrev pub bit_value : Bool → Value
bit_value false = Inl UnitValue
bit_value true = Inr UnitValue

-- whether the number is odd
abbrev pub is_odd : ℕ → Bool
is_odd n = nat_eq (n % 2) 1

-- how many words of 2 ^ k bits there are
abbrev pub word_count : ℕ → ℕ
word_count k = 2 ^ 2 ^ k

-- the number as a word of 2 ^ k bits, the half of the high bits first
abbrev pub word_value : ℕ → ℕ → Value
word_value zero n = bit_value (is_odd n)
word_value (suc k) n = Pair (word_value k (n / word_count k)) (word_value k (n % word_count k))
