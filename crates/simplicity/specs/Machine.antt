-- The Bit Machine (Simplicity Technical Report, "Bit Machine" and "Executing Simplicity"; the counts of work are this project's own).
use Rattle.std.specs.Prelude.{◌≡◌, ℕ, ◌+◌, ◌-◌, max, Bool, true, false, nat_le, List, [], ◌∷◌, ◌++◌, length, take, drop, Option, Some, None, slice_get}
use Rattle.simplicity.specs.Types.{Kind, Sum, Product, Value, Inl, Inr, Pair, IsOf, AreOf, size, pad_left, pad_right, word_kind, word_value}
use Rattle.simplicity.specs.Cells.{Cell, Bit, cells, undefined}
use Rattle.simplicity.specs.Nodes.{Node, IsPlaced, witness_number}
use Rattle.simplicity.specs.Nodes as node
use Rattle.simplicity.specs.Typing.{Typing, Arrow, IsTypingAt, target_at, root_arrow, witness_targets}

-- a frame: its cells before the cursor, and those from the cursor on
pub record Frame : Type 0 where
  pub before : List Cell
  pub after : List Cell

-- a frame of these cells, with the cursor at its start
abbrev pub frame : List Cell → Frame
frame cs = record { before = []; after = cs }

abbrev pub width : Frame → ℕ
width f = length f.before + length f.after

-- the cursor some cells onward, or back
abbrev pub forth : ℕ → Frame → Frame
forth n f = record { before = f.before ++ take n f.after; after = drop n f.after }

abbrev pub back : ℕ → Frame → Frame
back n f = record { before = take (length f.before - n) f.before; after = drop (length f.before - n) f.before ++ f.after }

-- these cells in place of those at the cursor, and the cursor behind them
abbrev pub put : List Cell → Frame → Frame
put cs f = record { before = f.before ++ cs; after = drop (length cs) f.after }

-- the cursor at the start again
abbrev pub reset : Frame → Frame
reset f = frame (f.before ++ f.after)

-- a side that a read may choose: a node, behind so many cells, or a hidden one
pub data Side : Type 0 where
  Shown : (cells node : ℕ) → Side
  Closed : Side

-- what there is to do: a node of the list, or an instruction; a read chooses by its cell, and `Failing` is the one item of `fail`
pub data Item : Type 0 where
  At : (node : ℕ) → Item
  Write : (bit : Bool) → Item
  Skip : (n : ℕ) → Item
  Copy : (n : ℕ) → Item
  Forward : (n : ℕ) → Item
  Back : (n : ℕ) → Item
  NewFrame : (n : ℕ) → Item
  MoveFrame : Item
  DropFrame : Item
  Nop : Item
  Read : (left right : Side) → Item
  Failing : Item

-- a list with a typing, and the values of its witness nodes in their order
pub record Program : Type 0 where
  pub nodes : List Node
  pub typing : Typing
  pub witness : List Value

-- what a run is given: a placed list with a typing at this arrow, a value of its type for each witness node, and a value of the source
pub record IsInput (p : Program) (root : Arrow) (v : Value) : Type 0 where
  pub placed : IsPlaced p.nodes
  pub typed : IsTypingAt p.nodes root p.typing
  pub witness : AreOf p.witness (witness_targets p.nodes p.typing)
  pub input : IsOf v root.source

-- how a value is written
abbrev pub writing : Kind → Value → List Item
writing (Sum a b) (Inl u) = Write false ∷ Skip (pad_left a b) ∷ writing a u
writing (Sum a b) (Inr v) = Write true ∷ Skip (pad_right a b) ∷ writing b v
writing (Product a b) (Pair u v) = writing a u ++ writing b v
writing _ _ = []

-- how the value of a witness node is written; the last case is none of a program whose witness has a value for each
abbrev pub writing_of : Kind → Option Value → List Item
writing_of b (Some v) = writing b v
writing_of b None = Failing ∷ []

-- the side of a case at an index, behind so many cells; the last case is none of a typed list
abbrev pub side_of : ℕ → ℕ → Option (Option Arrow) → Side
side_of i n (Some (Some a)) = Shown n i
side_of i n _ = Closed

abbrev pub side_at : Typing → ℕ → ℕ → Side
side_at ts i n = side_of i n (slice_get ts i)

-- the items of a node with its arrow: its row of the table; the last case is none of a typed list
abbrev pub row : Program → ℕ → Node → Kind → Kind → List Item
row p i node.Iden a b = Copy (size a) ∷ []
row p i (node.Comp s t) a b = NewFrame (size (target_at p.typing s)) ∷ At s ∷ MoveFrame ∷ At t ∷ DropFrame ∷ []
row p i node.UnitNode a b = Nop ∷ []
row p i (node.Injl t) a (Sum b c) = Write false ∷ Skip (pad_left b c) ∷ At t ∷ []
row p i (node.Injr t) a (Sum b c) = Write true ∷ Skip (pad_right b c) ∷ At t ∷ []
row p i (node.Case s t) (Product (Sum a b) c) d = Read (side_at p.typing s (1 + pad_left a b)) (side_at p.typing t (1 + pad_right a b)) ∷ []
row p i (node.Pair s t) a b = At s ∷ At t ∷ []
row p i (node.Take t) a b = At t ∷ []
row p i (node.Drop t) (Product a b) c = Forward (size a) ∷ At t ∷ Back (size a) ∷ []
row p i node.Witness a b = writing_of b (slice_get p.witness (witness_number p.nodes i))
row p i (node.Word k n) a b = writing (word_kind k) (word_value k n)
row p i _ _ _ = Failing ∷ []

-- the items of the node at an index
abbrev pub row_of : Program → ℕ → Option Node → Option (Option Arrow) → List Item
row_of p i (Some n) (Some (Some a)) = row p i n a.source a.target
row_of p i _ _ = Failing ∷ []

abbrev pub row_at : Program → ℕ → List Item
row_at p i = row_of p i (slice_get p.nodes i) (slice_get p.typing i)

-- what a run has cost so far: its instructions, their work, and its peaks of cells and of frames over both stacks
pub record Totals : Type 0 where
  pub count : ℕ
  pub work : ℕ
  pub cells : ℕ
  pub frames : ℕ

-- what is left to do, the stacks of frames with their tops first, and the totals
pub record State : Type 0 where
  pub items : List Item
  pub reads : List Frame
  pub writes : List Frame
  pub totals : Totals

-- the cells of a stack
abbrev pub held : List Frame → ℕ
held [] = 0
held (f ∷ fs) = width f + held fs

-- the totals once an instruction of this work has led to these stacks
abbrev pub charged : ℕ → List Frame → List Frame → Totals → Totals
charged work reads writes t = record {
  count = t.count + 1;
  work = t.work + work;
  cells = max t.cells (held reads + held writes);
  frames = max t.frames (length reads + length writes);
}

-- what comes of a state: the next one, the end, failure, or nothing where an instruction doesn't find its frames and cells
pub data Turn : Type 0 where
  Next : (state : State) → Turn
  Ends : Turn
  Fails : Turn
  Stuck : Turn

-- the state after an instruction of this work
abbrev pub went : ℕ → List Item → List Frame → List Frame → Totals → Turn
went work items reads writes t = Next (record { items = items; reads = reads; writes = writes; totals = charged work reads writes t })

abbrev pub where_held : Bool → Turn → Turn
where_held true turn = turn
where_held false turn = Stuck

-- the side that a read has chosen: its node, with the cursor before it and back again; at a hidden side the read fails
abbrev pub chosen : Side → List Item → List Frame → List Frame → Totals → Turn
chosen (Shown n i) rest reads writes t = went 1 (Forward n ∷ At i ∷ Back n ∷ rest) reads writes t
chosen Closed rest reads writes t = Fails

abbrev pub choose : List Cell → Side → Side → List Item → List Frame → List Frame → Totals → Turn
choose (Bit false ∷ cs) left right rest reads writes t = chosen left rest reads writes t
choose (Bit true ∷ cs) left right rest reads writes t = chosen right rest reads writes t
choose _ left right rest reads writes t = Stuck

-- one turn by the item in front: a node gives way to its row, which is no step, and an instruction is one step; one that fails adds nothing to the totals
abbrev pub turn_on : Program → List Item → List Frame → List Frame → Totals → Turn
turn_on p [] reads writes t = Ends
turn_on p (At i ∷ rest) reads writes t = Next (record { items = row_at p i ++ rest; reads = reads; writes = writes; totals = t })
turn_on p (Write b ∷ rest) reads (g ∷ gs) t = where_held (nat_le 1 (length g.after)) (went 1 rest reads (put (Bit b ∷ []) g ∷ gs) t)
turn_on p (Skip n ∷ rest) reads (g ∷ gs) t = where_held (nat_le n (length g.after)) (went (1 + n) rest reads (forth n g ∷ gs) t)
turn_on p (Copy n ∷ rest) (f ∷ fs) (g ∷ gs) t =
    where_held (nat_le n (length f.after)) (where_held (nat_le n (length g.after)) (went (1 + n) rest (f ∷ fs) (put (take n f.after) g ∷ gs) t))
turn_on p (Forward n ∷ rest) (f ∷ fs) writes t = where_held (nat_le n (length f.after)) (went 1 rest (forth n f ∷ fs) writes t)
turn_on p (Back n ∷ rest) (f ∷ fs) writes t = where_held (nat_le n (length f.before)) (went 1 rest (back n f ∷ fs) writes t)
turn_on p (NewFrame n ∷ rest) reads writes t = went (1 + n) rest reads (frame (undefined n) ∷ writes) t
turn_on p (MoveFrame ∷ rest) reads (g ∷ gs) t = went 1 rest (reset g ∷ reads) gs t
turn_on p (DropFrame ∷ rest) (f ∷ fs) writes t = went 1 rest fs writes t
turn_on p (Nop ∷ rest) reads writes t = went 1 rest reads writes t
turn_on p (Read left right ∷ rest) (f ∷ fs) writes t = choose f.after left right rest (f ∷ fs) writes t
turn_on p (Failing ∷ rest) reads writes t = Fails
turn_on p _ _ _ _ = Stuck

abbrev pub turn : Program → State → Turn
turn p s = turn_on p s.items s.reads s.writes s.totals

-- turns lead from the one state to the other
pub data Reaches (p : Program) : State → State → Type 0 where
  Here : (s : State) → Reaches p s s
  Onward : (s u z : State) → turn p s ≡ Next u → Reaches p u z → Reaches p s z

-- the state before a run on a value: its cells in one read frame, and one write frame for the result
abbrev pub start : Program → Value → State
start p v =
    let a = root_arrow p.nodes p.typing in
    record {
      items = At (length p.nodes - 1) ∷ [];
      reads = frame (cells a.source v) ∷ [];
      writes = frame (undefined (size a.target)) ∷ [];
      totals = record { count = 0; work = 0; cells = size a.source + size a.target; frames = 2 };
    }

-- the run on the value ends in this state
pub record RunEnds (p : Program) (v : Value) (z : State) : Type 0 where
  pub reached : Reaches p (start p v) z
  pub ends : turn p z ≡ Ends

-- the run on the value fails in this state
pub record RunFails (p : Program) (v : Value) (z : State) : Type 0 where
  pub reached : Reaches p (start p v) z
  pub fails : turn p z ≡ Fails

-- the run ends with this value in its one write frame
abbrev pub HoldsResult : Kind → Value → State → Type 0
HoldsResult b u z = z.writes ≡ record { before = cells b u; after = [] } ∷ []
