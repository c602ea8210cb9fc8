-- Why a program's bits are refused, from the first field to the last (this project's own).
use Rattle.std.specs.Prelude.{◌≡◌, ℕ, ◌+◌, ◌-◌, ◌*◌, ◌/◌, ◌^◌, ◌<◌, ◌≤◌, ◌⊎◌, List, [], ◌∷◌, ◌++◌, Bool, true, false, length, replicate, slice_get}
use Rattle.simplicity.specs.Nodes.{Node, Case, children, AreUnder, IsHidden, IsShown, IsPlaced}
use Rattle.simplicity.specs.Carried.{IsCarried, AreCarried}
use Rattle.simplicity.specs.Limits.{most_nodes}
use Rattle.simplicity.specs.Spelling.{byte_bits, natural, node_bits, nodes_bits}
use Rattle.spelling.specs.Reading.{Refusal, TooManyNodes, HiddenPlace, BothHidden, HiddenRoot, BadPadding, Refused, read_program}
use Rattle.spelling.specs.Refusals.{NaturalStops, NodeStops}

-- one of the children is hidden
abbrev pub SomeHidden : List Node → List ℕ → Type 0
SomeHidden ns [] = ⊥
SomeHidden ns (i ∷ is) = IsHidden (slice_get ns i) ⊎ SomeHidden ns is

abbrev pub IsCase : Node → Type 0
IsCase (Case l r) = Unit {0}
IsCase _ = ⊥

-- a node stands whole in the bits after these nodes, its children are among them, and what it carries fits
pub record StandsAfter (ns : List Node) (n : Node) (bits : List Bool) : Type 0 where
  pub under : AreUnder (length ns) (children n)
  pub fits : IsCarried n
  pub rest : List Bool
  pub stands : bits ≡ node_bits (length ns) n ++ rest

-- the node after these is refused: while it is read, or where it stands, for its place
pub data NextStops (ns : List Node) (at : ℕ) (bits : List Bool) : Refusal → Type 0 where
  NodeRefused : (r : Refusal) → NodeStops (length ns) at bits r → NextStops ns at bits r
  ChildHidden : (n : Node) → StandsAfter ns n bits → (IsCase n → ⊥) → SomeHidden ns (children n) → NextStops ns at bits (HiddenPlace (length ns))
  SidesHidden : (i j : ℕ) → StandsAfter ns (Case i j) bits → IsHidden (slice_get ns i) → IsHidden (slice_get ns j) →
      NextStops ns at bits (BothHidden (length ns))

-- a number of nodes within the limit and these nodes stand in the bits, up to a place, fit and are in their places
pub record Begins (count : ℕ) (ns : List Node) (bits rest : List Bool) (at : ℕ) : Type 0 where
  pub some : 0 < count
  pub few : count ≤ most_nodes
  pub placed : IsPlaced ns
  pub fits : AreCarried ns
  pub stands : bits ≡ natural count ++ (nodes_bits 0 ns ++ rest)
  pub place : at ≡ length (natural count) + length (nodes_bits 0 ns)

-- the last node of a list
abbrev pub last_of : List Node → ℕ
last_of ns = length ns - 1

-- why bits are refused: of what stood before, each field was whole and fits
pub data ProgramStops (bits : List Bool) : Refusal → Type 0 where
  CountRefused : (r : Refusal) → NaturalStops 0 bits r → ProgramStops bits r
  CountPasses : (n : ℕ) (rest : List Bool) → bits ≡ natural n ++ rest → most_nodes < n → n < 2 ^ 32 → ProgramStops bits TooManyNodes
  NextRefused : (count at : ℕ) (ns : List Node) (rest : List Bool) (r : Refusal) → Begins count ns bits rest at → length ns < count →
      NextStops ns at rest r → ProgramStops bits r
  RootHidden : (at : ℕ) (ns : List Node) (rest : List Bool) → Begins (length ns) ns bits rest at → IsHidden (slice_get ns (last_of ns)) →
      ProgramStops bits HiddenRoot
  PaddingHasOne : (at zeros : ℕ) (ns : List Node) (more : List Bool) → Begins (length ns) ns bits (replicate zeros false ++ true ∷ more) at →
      IsShown (slice_get ns (last_of ns)) →
      ProgramStops bits (BadPadding (at + zeros))
  PaddingLong : (at zeros : ℕ) (ns : List Node) → Begins (length ns) ns bits (replicate zeros false) at → IsShown (slice_get ns (last_of ns)) →
      8 ≤ zeros →
      ProgramStops bits (BadPadding (8 * ((at + 7) / 8)))

-- a program is refused exactly so
pub record ProgramsAreRefused : Type 0 where
  pub only : (bytes : List ℕ) (r : Refusal) → read_program bytes ≡ Refused r → ProgramStops (byte_bits bytes) r
  pub gets : (bytes : List ℕ) (r : Refusal) → ProgramStops (byte_bits bytes) r → read_program bytes ≡ Refused r
