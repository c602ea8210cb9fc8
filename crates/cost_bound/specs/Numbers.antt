-- The code's bounds and works as the definition's.
use Rattle.std.specs.Prelude.{◌≡◌, ℕ, ◌+◌, ◌<◌, ◌≤◌, List, length, map, Option, Some, None, option_map}
use Rattle.std.specs.List.{slice_index_or}
use Rattle.simplicity.specs.Types.{Kind, Sum, weight, pad_left, pad_right}
use Rattle.simplicity.specs.Limits.{capped, most_weight}
use Rattle.simplicity.specs.Bounds as spec
use Rattle.simplicity.specs.Bounds.{writing_work, stated, leaf, above}
use Rattle.type_table.specs.Kinds.{kind_at}
use Rattle.cost_bound.specs.declared.bound.Bounds.{Bounds}

-- the bounds that the code's are
abbrev pub numbers : Bounds → spec.Bounds
numbers b = record { work = b.work; cells = b.cells; frames = b.frames; depth = b.depth }

abbrev pub entry_of : Option Bounds → Option spec.Bounds
entry_of b = option_map numbers b

abbrev pub entries_of : List (Option Bounds) → List (Option spec.Bounds)
entries_of bs = map entry_of bs

-- bounds of nodes, each number as 64 bits hold it
abbrev pub stated_entries : List (Option spec.Bounds) → List (Option spec.Bounds)
stated_entries bs = map (option_map stated) bs

-- the bounds of a run, by the cells of its input and of its result
abbrev pub beside_frames : ℕ → ℕ → spec.Bounds → spec.Bounds
beside_frames source target t = record { work = t.work; cells = source + target + t.cells; frames = 2 + t.frames; depth = t.depth }

-- an entry that may be missing
abbrev pub flattened : {A : Type 0} → Option (Option A) → Option A
flattened (Some o) = o
flattened None = None

-- the bounds of a term that tags its child's value, by its target
abbrev pub injl_bounds : spec.Bounds → Kind → spec.Bounds
injl_bounds t (Sum b c) = above (2 + pad_left b c) t
injl_bounds t _ = leaf 0

abbrev pub injr_bounds : spec.Bounds → Kind → spec.Bounds
injr_bounds t (Sum b c) = above (2 + pad_right b c) t
injr_bounds t _ = leaf 0

-- the works of writing values of the first types of a table; those of types above the limit may be wrong
pub record AreWorks (kinds : List Kind) (works : List ℕ) : Type 0 where
  pub each : (id : ℕ) → id < length works → weight (kind_at kinds id) ≤ most_weight → slice_index_or works id 0 ≡ capped (writing_work (kind_at kinds id))
