-- Bounds on a run from the bits alone (after the Simplicity Technical Report, "Static Analysis"; the formulas are this project's own).
use Rattle.std.specs.Prelude.{ℕ, ◌+◌, ◌-◌, max, List, [], ◌∷◌, ◌++◌, length, Option, Some, None, slice_get}
use Rattle.simplicity.specs.Limits.{capped}
use Rattle.simplicity.specs.Types.{Kind, One, Sum, Product, size, pad_left, pad_right, word_kind}
use Rattle.simplicity.specs.Nodes.{Node}
use Rattle.simplicity.specs.Nodes as node
use Rattle.simplicity.specs.Typing.{Typing, Arrow, root_arrow, target_at}

-- the greatest work of writing a value of the type
abbrev pub writing_work : Kind → ℕ
writing_work One = 0
writing_work (Sum a b) = 1 + max (1 + pad_left a b + writing_work a) (1 + pad_right a b + writing_work b)
writing_work (Product a b) = writing_work a + writing_work b

-- the bounds of a term: its work, the cells and frames that it takes beside those that are there, and its depth, the nodes on its tree's longest way down;
-- the depth bounds the nodes that a run has open at once, begun and not yet done, and not the items left to do, of which an open node may have many
pub record Bounds : Type 0 where
  pub work : ℕ
  pub cells : ℕ
  pub frames : ℕ
  pub depth : ℕ

-- the bounds of a term without children, of this work
abbrev pub leaf : ℕ → Bounds
leaf n = record { work = n; cells = 0; frames = 0; depth = 1 }

-- the bounds of a term with one child, of this work beside it
abbrev pub above : ℕ → Bounds → Bounds
above n t = record { work = n + t.work; cells = t.cells; frames = t.frames; depth = 1 + t.depth }

-- the bounds of a term that evaluates both children, and of one that evaluates one of them
abbrev pub both : Bounds → Bounds → Bounds
both s t = record { work = s.work + t.work; cells = max s.cells t.cells; frames = max s.frames t.frames; depth = 1 + max s.depth t.depth }

abbrev pub either : Bounds → Bounds → Bounds
either s t = record { work = 3 + max s.work t.work; cells = max s.cells t.cells; frames = max s.frames t.frames; depth = 1 + max s.depth t.depth }

-- the bounds of a composition with so many cells between
abbrev pub through : ℕ → Bounds → Bounds → Bounds
through n s t = record {
  work = 3 + n + s.work + t.work;
  cells = n + max s.cells t.cells;
  frames = 1 + max s.frames t.frames;
  depth = 1 + max s.depth t.depth;
}

-- the bounds at an index; the last case is none of a typed list
abbrev pub bounds_of : Option (Option Bounds) → Bounds
bounds_of (Some (Some b)) = b
bounds_of _ = leaf 0

abbrev pub bounds_at : List (Option Bounds) → ℕ → Bounds
bounds_at bs i = bounds_of (slice_get bs i)

-- of a case, or of an assertion, whose one side is hidden
abbrev pub case_bounds : Option (Option Bounds) → Option (Option Bounds) → Bounds
case_bounds (Some (Some s)) (Some (Some t)) = either s t
case_bounds (Some (Some s)) _ = above 3 s
case_bounds _ t = above 3 (bounds_of t)

-- the bounds of a node with this arrow, after those of the nodes before it; the last case is none of a typed list
abbrev pub node_bounds : Typing → List (Option Bounds) → Node → Kind → Kind → Bounds
node_bounds ts bs node.Iden a b = leaf (1 + size a)
node_bounds ts bs node.UnitNode a b = leaf 1
node_bounds ts bs (node.Fail e) a b = leaf 1
node_bounds ts bs node.Witness a b = leaf (writing_work b)
node_bounds ts bs (node.Word k n) a b = leaf (writing_work (word_kind k))
node_bounds ts bs (node.Injl t) a (Sum b c) = above (2 + pad_left b c) (bounds_at bs t)
node_bounds ts bs (node.Injr t) a (Sum b c) = above (2 + pad_right b c) (bounds_at bs t)
node_bounds ts bs (node.Take t) a b = above 0 (bounds_at bs t)
node_bounds ts bs (node.Drop t) a b = above 2 (bounds_at bs t)
node_bounds ts bs (node.Pair s t) a b = both (bounds_at bs s) (bounds_at bs t)
node_bounds ts bs (node.Case s t) a b = case_bounds (slice_get bs s) (slice_get bs t)
node_bounds ts bs (node.Comp s t) a b = through (size (target_at ts s)) (bounds_at bs s) (bounds_at bs t)
node_bounds ts bs _ a b = leaf 0

-- none for a hidden node
abbrev pub entry_bounds : Typing → List (Option Bounds) → Node → Option Arrow → Option Bounds
entry_bounds ts bs n None = None
entry_bounds ts bs n (Some a) = Some (node_bounds ts bs n a.source a.target)

abbrev pub bounds_from : Typing → List (Option Bounds) → List Node → Typing → List (Option Bounds)
bounds_from ts bs (n ∷ ns) (entry ∷ entries) = bounds_from ts (bs ++ entry_bounds ts bs n entry ∷ []) ns entries
bounds_from ts bs _ _ = bs

-- the bounds of each node of a typed list
abbrev pub node_list_bounds : List Node → Typing → List (Option Bounds)
node_list_bounds ns ts = bounds_from ts [] ns ts

-- the bounds of a run of the list: those of its root, with the two frames that a run begins with
abbrev pub whole : Arrow → Bounds → Bounds
whole a t = record { work = t.work; cells = size a.source + size a.target + t.cells; frames = 2 + t.frames; depth = t.depth }

abbrev pub bounds : List Node → Typing → Bounds
bounds ns ts = whole (root_arrow ns ts) (bounds_at (node_list_bounds ns ts) (length ns - 1))

-- the bounds as a program states them, in 64 bits each
abbrev pub stated : Bounds → Bounds
stated b = record { work = capped b.work; cells = capped b.cells; frames = capped b.frames; depth = capped b.depth }
