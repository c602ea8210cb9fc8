-- Why a program's bits are refused, in the words of their fields (this project's own, after the Simplicity Technical Report, "Serialization").
use Rattle.std.specs.Prelude.{◌≡◌, ℕ, ◌+◌, ◌^◌, ◌<◌, ◌≤◌, List, ◌∷◌, ◌++◌, Bool, true, false, length}
use Rattle.simplicity.specs.Spelling.{number_bits, natural}
use Rattle.spelling.specs.Reading.{Refusal, EndOfBits, NaturalTooLarge, JetCode, Disconnect, Reserved, BadDistance, WordTooWide, read_natural, read_node, Refused}
use Rattle.spelling.specs.Laws.{HasLongPart}

-- a natural's code goes on where the bits end, and no length part of 32 or more stands whole in them
pub record EndsNatural (bits : List Bool) : Type 0 where
  pub value : ℕ
  pub positive : 0 < value
  pub more : List Bool
  pub some : 0 < length more
  pub stands : natural value ≡ bits ++ more
  pub short : HasLongPart bits → ⊥

-- a natural is refused where the bits end in it, at their number, or for a long length part, at its first bit
pub data NaturalStops (at : ℕ) (bits : List Bool) : Refusal → Type 0 where
  NaturalEnds : EndsNatural bits → NaturalStops at bits (EndOfBits (at + length bits))
  NaturalLong : HasLongPart bits → NaturalStops at bits (NaturalTooLarge at)

-- the distance to a child is refused as a natural, or because it is greater than the node's index
pub data ChildStops (i at : ℕ) (bits : List Bool) : Refusal → Type 0 where
  DistanceStops : (r : Refusal) → NaturalStops at bits r → ChildStops i at bits r
  DistanceFar : (d : ℕ) (rest : List Bool) → bits ≡ natural d ++ rest → i < d → d < 2 ^ 32 → ChildStops i at bits (BadDistance i)

-- the codes of nodes with one child (injl, injr, take, drop), and with two (comp, case, pair)
pub data IsOneCode : ℕ → Type 0 where
  InjlCode : IsOneCode 4
  InjrCode : IsOneCode 5
  TakeCode : IsOneCode 6
  DropCode : IsOneCode 7

pub data IsTwoCode : ℕ → Type 0 where
  CompCode : IsTwoCode 0
  CaseCode : IsTwoCode 1
  PairCode : IsTwoCode 2

-- how many bits a code has, by those that it begins with: of words and jets two, of hidden nodes and witnesses four, of all others five
abbrev pub code_width : List Bool → ℕ
code_width (true ∷ _) = 2
code_width (false ∷ true ∷ true ∷ _) = 4
code_width _ = 5

-- a node is refused while it is read: of what stood before, each field was whole and fits
pub data NodeStops (i at : ℕ) (bits : List Bool) : Refusal → Type 0 where
  CodeEnds : length bits < code_width bits → NodeStops i at bits (EndOfBits (at + length bits))
  JetStands : (rest : List Bool) → bits ≡ number_bits 2 3 ++ rest → NodeStops i at bits (JetCode at)
  DisconnectStands : (rest : List Bool) → bits ≡ number_bits 5 3 ++ rest → NodeStops i at bits (Disconnect at)
  ReservedStands : (rest : List Bool) → bits ≡ number_bits 5 11 ++ rest → NodeStops i at bits (Reserved at)
  ChildRefused : (c : ℕ) (rest : List Bool) (r : Refusal) → IsOneCode c → bits ≡ number_bits 5 c ++ rest → ChildStops i (at + 5) rest r → NodeStops i at bits r
  LeftRefused : (c : ℕ) (rest : List Bool) (r : Refusal) → IsTwoCode c → bits ≡ number_bits 5 c ++ rest → ChildStops i (at + 5) rest r → NodeStops i at bits r
  RightRefused : (c d : ℕ) (rest : List Bool) (r : Refusal) → IsTwoCode c → 0 < d → d ≤ i → d < 2 ^ 32 → bits ≡ number_bits 5 c ++ (natural d ++ rest) →
      ChildStops i (at + 5 + length (natural d)) rest r → NodeStops i at bits r
  HiddenEnds : (rest : List Bool) → bits ≡ number_bits 4 6 ++ rest → length rest < 256 → NodeStops i at bits (EndOfBits (at + length bits))
  FailEnds : (rest : List Bool) → bits ≡ number_bits 5 10 ++ rest → length rest < 512 → NodeStops i at bits (EndOfBits (at + length bits))
  LevelRefused : (rest : List Bool) (r : Refusal) → bits ≡ number_bits 2 2 ++ rest → NaturalStops (at + 2) rest r → NodeStops i at bits r
  LevelFar : (n : ℕ) (rest : List Bool) → bits ≡ number_bits 2 2 ++ (natural n ++ rest) → 9 < n → n < 2 ^ 32 → NodeStops i at bits (WordTooWide i)
  WordEnds : (k : ℕ) (rest : List Bool) → bits ≡ number_bits 2 2 ++ (natural (k + 1) ++ rest) → k ≤ 8 → length rest < 2 ^ k → NodeStops i at bits (EndOfBits (at + length bits))

-- a natural and a node are refused exactly so
pub record RefusalsAreNamed : Type 0 where
  pub natural_only : (at : ℕ) (bits : List Bool) (r : Refusal) → read_natural at bits ≡ Refused r → NaturalStops at bits r
  pub natural_gets : (at : ℕ) (bits : List Bool) (r : Refusal) → NaturalStops at bits r → read_natural at bits ≡ Refused r
  pub node_only : (i at : ℕ) (bits : List Bool) (r : Refusal) → read_node i at bits ≡ Refused r → NodeStops i at bits r
  pub node_gets : (i at : ℕ) (bits : List Bool) (r : Refusal) → NodeStops i at bits r → read_node i at bits ≡ Refused r
