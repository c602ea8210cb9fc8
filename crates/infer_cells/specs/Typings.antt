-- A typing by the ids of a table of types.
use Rattle.std.specs.Prelude.{ℕ, ◌<◌, List, [], ◌∷◌, map, Option, Some, None}
use Rattle.simplicity.specs.Types.{Kind}
use Rattle.simplicity.specs.Nodes.{Node}
use Rattle.simplicity.specs.Typing.{Arrow, arrow, Typing, IsLeast, IsLight}
use Rattle.simplicity.specs.Limits.{most_weight}
use Rattle.type_table.specs.Kinds.{kind_at}
use Rattle.infer_cells.specs.declared.typing.NodeArrow.{NodeArrow}
use Rattle.infer_cells.specs.declared.refusal.InferRefusal.{InferRefusal}
use Rattle.infer_cells.specs.declared.refusal.InferRefusal.TheVariants as refusal

-- the arrow between the types of a node's ids
abbrev pub arrow_in : List Kind → Option NodeArrow → Option Arrow
arrow_in kinds None = None
arrow_in kinds (Some a) = Some (arrow (kind_at kinds a.source) (kind_at kinds a.target))

abbrev pub typing_in : List Kind → List (Option NodeArrow) → Typing
typing_in kinds typing = map (arrow_in kinds) typing

-- the ids are below a number
abbrev pub IsBelowBound : ℕ → Option NodeArrow → Type 0
IsBelowBound n None = Unit {0}
IsBelowBound n (Some a) = (a.source < n) × (a.target < n)

abbrev pub AreBelowBound : ℕ → List (Option NodeArrow) → Type 0
AreBelowBound n [] = Unit {0}
AreBelowBound n (a ∷ typing) = IsBelowBound n a × AreBelowBound n typing

-- the least typing has a type above the limit
pub record LeastIsHeavy (ns : List Node) (root : Arrow) : Type 0 where
  pub typing : Typing
  pub least : IsLeast ns root typing
  pub heavy : IsLight most_weight typing → ⊥

-- what a refusal says: of no typing the one, of a type that is too large the other
abbrev pub Refuses : InferRefusal → Type 0 → Type 0 → Type 0
Refuses refusal.NoTyping untyped heavy = untyped
Refuses refusal.TypeTooLarge untyped heavy = heavy
Refuses refusal.OutOfMemory untyped heavy = Unit {0}
