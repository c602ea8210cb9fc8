-- The different subterms of a term in order, and why a term has no canonical list within the limits.
use Rattle.std.specs.Prelude.{◌≡◌, ℕ, ◌<◌, List, length, map, Option, None}
use Rattle.std.specs.List.{slice_index_or}
use Rattle.simplicity.specs.Arrows.{declared_arrow}
use Rattle.simplicity.specs.Canon.{Declared, ListsSubterms, IsCanon}
use Rattle.simplicity.specs.Limits.{most_weight, most_nodes}
use Rattle.simplicity.specs.Nodes.{Node, witness_number}
use Rattle.simplicity.specs.Order.{IsOrdered}
use Rattle.simplicity.specs.Pruning.{gathered}
use Rattle.simplicity.specs.Typing.{Typing, Arrow, IsLight, IsTypingAt}
use Rattle.infer_cells.specs.Typings.{LeastIsHeavy}
use Rattle.infer_cells.specs.declared.typing.NodeArrow.{NodeArrow}
use Rattle.share_order.specs.declared.refusal.CanonRefusal.{CanonRefusal}
use Rattle.share_order.specs.declared.refusal.CanonRefusal.TheVariants as canon

-- the arrows at these indices, in their order
abbrev pub arrows_at : List (Option NodeArrow) → List ℕ → List (Option NodeArrow)
arrows_at arrows is = map (λ i. slice_index_or arrows i None) is

-- the name of a witness by its number
abbrev pub name_at : List ℕ → ℕ → ℕ
name_at names k = slice_index_or names k 0

-- the different subterms of a term in left-first post-order, with a name for each witness node; their declared arrows
-- are a typing
pub record AreSubterms (t : Declared) (ns : List Node) (names : List ℕ) : Type 0 where
  pub declared : Typing
  pub lists : ListsSubterms t ns declared names
  pub ordered : IsOrdered ns
  pub typed : IsTypingAt ns (declared_arrow t) declared
  pub named : length names ≡ witness_number ns (length ns)

-- the least typing of the term's different subterms has a type above the limit
pub record CanonIsHeavy (t : Declared) (root : Arrow) : Type 0 where
  pub list : List Node
  pub declared : Typing
  pub names : List ℕ
  pub subterms : ListsSubterms t list declared names
  pub heavy : LeastIsHeavy (gathered list) root

-- the canonical list has no type above the limit, but too many nodes
pub record CanonIsLong (t : Declared) (root : Arrow) : Type 0 where
  pub nodes : List Node
  pub typing : Typing
  pub names : List ℕ
  pub canon : IsCanon t root nodes typing names
  pub light : IsLight most_weight typing
  pub long : most_nodes < length nodes

-- a refusal of a term that was to have a canonical list at an arrow
abbrev pub RefusesCanon : Declared → Arrow → CanonRefusal → Type 0
RefusesCanon t root canon.TypeTooLarge = CanonIsHeavy t root
RefusesCanon t root canon.TooManyNodes = CanonIsLong t root
RefusesCanon t root canon.OutOfMemory = Unit {0}
