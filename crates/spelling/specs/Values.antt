-- Reading of a value's compact code, by its type (after the Simplicity Technical Report, "Serialization").
use Rattle.std.specs.Prelude.{◌≡◌, ℕ, ◌+◌, ◌<◌, cond, List, ◌++◌, Bool, length}
use Rattle.simplicity.specs.Types.{Kind, One, Sum, Product, Value, UnitValue, Inl, Inr, Pair, IsOf, code}
use Rattle.spelling.specs.Reading.{Got, Refused, Refusal, EndOfBits, Reading, then, give, one_bit}

-- nothing for the unit type, a tag and the value of its side, one value after the other
abbrev pub read_value : Kind → Reading Value
read_value One at bits = Got UnitValue at bits
read_value (Sum a b) at bits = then (one_bit at bits) (λ right at' bits'.
    cond right (then (read_value b at' bits') (λ v. give (Inr v))) (then (read_value a at' bits') (λ v. give (Inl v))))
read_value (Product a b) at bits = then (read_value a at bits) (λ u at' bits'. then (read_value b at' bits') (λ v. give (Pair u v)))

-- a value of a type is read exactly where its code stands, and no bit more
pub record ValuesAreRead : Type 0 where
  pub gets : (k : Kind) (v : Value) (at : ℕ) (rest : List Bool) → IsOf v k → read_value k at (code v ++ rest) ≡ Got v (at + length (code v)) rest
  pub only : (k : Kind) (v : Value) (at end : ℕ) (bits rest : List Bool) → read_value k at bits ≡ Got v end rest →
      IsOf v k × (bits ≡ code v ++ rest) × (end ≡ at + length (code v))

-- the bits end inside a value of the type
pub record IsCut (k : Kind) (bits : List Bool) : Type 0 where
  pub value : Value
  pub is_of : IsOf value k
  pub more : List Bool
  pub some : 0 < length more
  pub stands : code value ≡ bits ++ more

-- a value is refused exactly where the bits end inside one, at their number
pub record ValuesAreRefused : Type 0 where
  pub cut : (k : Kind) (at : ℕ) (bits : List Bool) → IsCut k bits → read_value k at bits ≡ Refused (EndOfBits (at + length bits))
  pub only : (k : Kind) (at : ℕ) (bits : List Bool) (r : Refusal) → read_value k at bits ≡ Refused r → (r ≡ EndOfBits (at + length bits)) × IsCut k bits
