-- Laws of reading (this project's own).
use Rattle.std.specs.Prelude.{◌≡◌, ℕ, ◌+◌, ◌<◌, ◌≤◌, ◌^◌, ◌⊎◌, List, ◌∷◌, ◌++◌, Bool, true, length}
use Rattle.simplicity.specs.Nodes.{Node}
use Rattle.simplicity.specs.Spelling.{Spelled, natural, IsNatural}
use Rattle.simplicity.specs.Limits.{most_nodes}
use Rattle.spelling.specs.Reading.{Got, Refused, Refusal, EndOfBits, NaturalTooLarge, read_natural, read_program}
use Rattle.spelling.specs.Reading.{then}
use Rattle.spelling.specs.Parts.{ones, powers}

-- a natural is read exactly where its bits stand, and no bit more
pub record NaturalsAreRead : Type 0 where
  pub gets : (x at : ℕ) (rest : List Bool) → 0 < x → x < 2 ^ 32 → read_natural at (natural x ++ rest) ≡ Got x (at + length (natural x)) rest
  pub only : (x at end : ℕ) (bits rest : List Bool) → read_natural at bits ≡ Got x end rest →
      (0 < x) × (x < 2 ^ 32) × (bits ≡ natural x ++ rest) × (end ≡ at + length (natural x))

-- a length part of 32 or more stands whole in the bits: the natural's own, or one within that
pub data HasLongPart : List Bool → Type 0 where
  PartHere : (n : ℕ) (code rest : List Bool) → IsNatural n code → 32 ≤ n → HasLongPart (true ∷ (code ++ rest))
  PartWithin : (bits : List Bool) → HasLongPart bits → HasLongPart (true ∷ bits)

-- a natural is refused as too large, at its first bit, exactly where a long length part stands whole, and else where the bits end, at their number
pub record NaturalsAreRefused : Type 0 where
  pub too_large : (at : ℕ) (bits : List Bool) → HasLongPart bits → read_natural at bits ≡ Refused (NaturalTooLarge at)
  pub only : (at : ℕ) (bits : List Bool) (r : Refusal) → read_natural at bits ≡ Refused r →
      (r ≡ EndOfBits (at + length bits)) ⊎ ((r ≡ NaturalTooLarge at) × HasLongPart bits)

-- a natural is as many parts as ones stand first
abbrev pub NaturalsHaveParts : Type 0
NaturalsHaveParts = (at : ℕ) (bits : List Bool) → read_natural at bits ≡ then (ones at bits) (λ n. powers at n 1)

-- two codes of naturals that begin one list of bits are one code, and what follows is the same
abbrev pub NaturalsArePrefixFree : Type 0
NaturalsArePrefixFree = (x y : ℕ) (us vs : List Bool) → 0 < x → 0 < y → natural x ++ us ≡ natural y ++ vs → (x ≡ y) × (us ≡ vs)

-- a program is read exactly where its bytes spell a list of few nodes, and as that list
pub record ProgramsAreRead : Type 0 where
  pub gets : (bytes : List ℕ) (ns : List Node) → Spelled bytes ns → length ns ≤ most_nodes → (end : ℕ) × (rest : List Bool) × (read_program bytes ≡ Got ns end rest)
  pub only : (bytes : List ℕ) (ns : List Node) (end : ℕ) (rest : List Bool) → read_program bytes ≡ Got ns end rest → Spelled bytes ns × (length ns ≤ most_nodes)
  pub none : (bytes : List ℕ) (r : Refusal) (ns : List Node) → read_program bytes ≡ Refused r → Spelled bytes ns → length ns ≤ most_nodes → ⊥
