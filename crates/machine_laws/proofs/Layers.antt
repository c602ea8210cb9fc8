-- The items left to do are those of nodes inside one another, so of at most as many as the root's tree is deep.
use Rattle.std.proofs.Common.{◌≡◌, ◌<◌, refl, ap, sym, subst, ◌∙◌, ℕ, suc, ◌+◌, ◌-◌, ◌≤◌, List, [], ◌∷◌, ◌++◌, length, Option, Some, None, Bool, true, false, nat_le, arith}
use Rattle.std.specs.Prelude.{slice_get}
use Rattle.simplicity.specs.Types.{Kind, Sum, Product, Value, Inl, Inr, Pair, pad_left, pad_right, word_kind, word_value}
use Rattle.simplicity.specs.Cells.{Cell, Bit, Undefined}
use Rattle.simplicity.specs.Nodes.{Node, IsPlaced, witness_number}
use Rattle.simplicity.specs.Nodes as node
use Rattle.simplicity.specs.Typing.{Typing, Arrow, arrow, arrow_of, root_arrow, HasArrow, HasNoArrow, Meets, target_at}
use Rattle.simplicity.specs.Typing as kinds
use Rattle.simplicity.specs.Bounds.{Bounds, bounds_at, case_bounds, node_bounds}
use Rattle.simplicity.specs.Machine.{IsInput, Frame, Side, Shown, Closed, Item, At, Write, Skip, Copy, Forward, Back, NewFrame, MoveFrame, DropFrame, Nop, Read, Failing, Program, State, Totals, Turn, Next, turn, turn_on, where_held, choose, chosen, Reaches, Here, Onward, start, writing, writing_of, side_of, side_at, row, row_of, row_at}
use Rattle.simplicity.proofs.Typings.{some_node, meets_at}
use Rattle.machine_laws.specs.Laws.{ItemsAreLayered, LayersMove, RowsGoBack}
use Rattle.machine_laws.specs.Layers.{Remains, RemainsNode, RemainsRow, RemainsBehind, RemainsLeft, RemainsRight, Layer, layer, items_of, depth_at, AreNested, NoLayer, InFront, IsSideBefore, AreBefore}
use Rattle.simplicity.proofs.Unfold.{children_under, follows_at}
use Rattle.simplicity.proofs.Listed.{bounds_are, bounds_hidden}
use Rattle.machine_laws.proofs.Simulation.{IsFit, listed, entry_shown, both_sides, left_side, right_side}

-- every node has a depth of at least one
case_deep : (o q : Option (Option Bounds)) → 1 ≤ (case_bounds o q).depth
case_deep (Some (Some s)) (Some (Some t)) = omega arith
case_deep (Some (Some s)) (Some None) = omega arith
case_deep (Some (Some s)) None = omega arith
case_deep (Some None) q = omega arith
case_deep None q = omega arith

node_deep : (ts : Typing) (bs : List (Option Bounds)) (n : Node) (a b : Kind) → 1 ≤ (node_bounds ts bs n a b).depth
node_deep ts bs (node.Injl t) a (Sum b c) = omega arith
node_deep ts bs (node.Injr t) a (Sum b c) = omega arith
node_deep ts bs (node.Take t) a b = omega arith
node_deep ts bs (node.Drop t) a b = omega arith
node_deep ts bs (node.Comp s t) a b = omega arith
node_deep ts bs (node.Pair s t) a b = omega arith
node_deep ts bs (node.Case s t) a b = case_deep (slice_get bs s) (slice_get bs t)
node_deep ts bs _ a b = omega arith

deep : (p : Program) (j : ℕ) (a b : Kind) → IsFit p → HasArrow p.typing j a b → 1 ≤ depth_at p j
deep p j a b fit has =
    let there = some_node p.typing p.nodes p.typing j (Some (arrow a b)) fit.typed has in
    let e : bounds_at (listed p) j ≡ node_bounds p.typing (listed p) there.0 a b = bounds_are p.nodes p.typing j there.0 a b fit.placed there.1 has in
    omega (arith, ap (λ (m : Bounds). m.depth) e, node_deep p.typing (listed p) there.0 a b)

-- the nodes among the items are less deep
abbrev IsNodeUnder : Program → ℕ → ℕ → Type 0
IsNodeUnder p d j = (1 ≤ depth_at p j) × (suc (depth_at p j) ≤ d)

abbrev IsSideUnder : Program → ℕ → Side → Type 0
IsSideUnder p d (Shown n j) = IsNodeUnder p d j
IsSideUnder p d Closed = Unit {0}

abbrev IsUnder : Program → ℕ → Item → Type 0
IsUnder p d (At j) = IsNodeUnder p d j
IsUnder p d (Read l r) = IsSideUnder p d l × IsSideUnder p d r
IsUnder p d _ = Unit {0}

abbrev AreUnder : Program → ℕ → List Item → Type 0
AreUnder p d [] = Unit {0}
AreUnder p d (x ∷ xs) = IsUnder p d x × AreUnder p d xs

append_under : (p : Program) (d : ℕ) (xs ys : List Item) → AreUnder p d xs → AreUnder p d ys → AreUnder p d (xs ++ ys)
append_under p d [] ys h g = g
append_under p d (x ∷ xs) ys h g = (h.0, append_under p d xs ys h.1 g)

writing_under : (p : Program) (d : ℕ) (b : Kind) (u : Value) → AreUnder p d (writing b u)
writing_under p d (Sum a b) (Inl u) = (tt, (tt, writing_under p d a u))
writing_under p d (Sum a b) (Inr u) = (tt, (tt, writing_under p d b u))
writing_under p d (Product a b) (Pair u v) = append_under p d (writing a u) (writing b v) (writing_under p d a u) (writing_under p d b v)
writing_under p d _ _ = tt

written_under : (p : Program) (d : ℕ) (b : Kind) (o : Option Value) → AreUnder p d (writing_of b o)
written_under p d b None = (tt, tt)
written_under p d b (Some u) = writing_under p d b u

shown_under : (p : Program) (d j n : ℕ) (a b : Kind) → HasArrow p.typing j a b → IsNodeUnder p d j → IsSideUnder p d (side_at p.typing j n)
shown_under p d j n a b has h = subst (λ (s : Side). IsSideUnder p d s) (sym (ap (side_of j n) has)) h

hidden_under : (p : Program) (d j n : ℕ) → HasNoArrow p.typing j → IsSideUnder p d (side_at p.typing j n)
hidden_under p d j n none = subst (λ (s : Side). IsSideUnder p d s) (sym (ap (side_of j n) none)) tt

listed_entry : (p : Program) (j : ℕ) (a b : Kind) → IsFit p → HasArrow p.typing j a b → slice_get (listed p) j ≡ Some (Some (bounds_at (listed p) j))
listed_entry p j a b fit has =
    let there = some_node p.typing p.nodes p.typing j (Some (arrow a b)) fit.typed has in
    entry_shown p j there.0 a b fit there.1 has

listed_none : (p : Program) (j : ℕ) → IsFit p → HasNoArrow p.typing j → slice_get (listed p) j ≡ Some None
listed_none p j fit none =
    let there = some_node p.typing p.nodes p.typing j None fit.typed none in
    bounds_hidden p.nodes p.typing j there.0 there.1 none

node_under : (p : Program) (i : ℕ) (n : Node) (a b : Kind) → IsFit p → depth_at p i ≡ (node_bounds p.typing (listed p) n a b).depth → Meets p.typing n a b →
    AreUnder p (depth_at p i) (row p i n a b)
node_under p i _ _ _ fit e (kinds.Iden a) = (tt, tt)
node_under p i _ _ _ fit e (kinds.UnitNode a) = (tt, tt)
node_under p i _ _ _ fit e (kinds.Injl t a b c h) = (tt, (tt, ((deep p t a b fit h, omega (arith, e)), tt)))
node_under p i _ _ _ fit e (kinds.Injr t a b c h) = (tt, (tt, ((deep p t a c fit h, omega (arith, e)), tt)))
node_under p i _ _ _ fit e (kinds.Take t a b c h) = ((deep p t a c fit h, omega (arith, e)), tt)
node_under p i _ _ _ fit e (kinds.Drop t a b c h) = (tt, ((deep p t b c fit h, omega (arith, e)), (tt, tt)))
node_under p i _ _ _ fit e (kinds.Comp s t a b c g h) =
    (tt, ((deep p s a b fit g, omega (arith, e)), (tt, ((deep p t b c fit h, omega (arith, e)), (tt, tt)))))
node_under p i _ _ _ fit e (kinds.Case s t a b c d g h) =
    let f = both_sides (listed p) s t (listed_entry p s (Product a c) d fit g) (listed_entry p t (Product b c) d fit h) in
    let q = ap (λ (m : Bounds). m.depth) f in (
      (
        shown_under p (depth_at p i) s (1 + pad_left a b) (Product a c) d g (deep p s (Product a c) d fit g, omega (arith, e, q)),
        shown_under p (depth_at p i) t (1 + pad_right a b) (Product b c) d h (deep p t (Product b c) d fit h, omega (arith, e, q)),
      ),
      tt,
    )
node_under p i _ _ _ fit e (kinds.AssertL s t a b c d g h) =
    let f = left_side (listed p) s t (listed_entry p s (Product a c) d fit g) (listed_none p t fit h) in
    let q = ap (λ (m : Bounds). m.depth) f in (
      (
        shown_under p (depth_at p i) s (1 + pad_left a b) (Product a c) d g (deep p s (Product a c) d fit g, omega (arith, e, q)),
        hidden_under p (depth_at p i) t (1 + pad_right a b) h,
      ),
      tt,
    )
node_under p i _ _ _ fit e (kinds.AssertR s t a b c d g h) =
    let f = right_side (listed p) s t (listed_none p s fit g) in
    let q = ap (λ (m : Bounds). m.depth) f in (
      (
        hidden_under p (depth_at p i) s (1 + pad_left a b) g,
        shown_under p (depth_at p i) t (1 + pad_right a b) (Product b c) d h (deep p t (Product b c) d fit h, omega (arith, e, q)),
      ),
      tt,
    )
node_under p i _ _ _ fit e (kinds.Pair s t a b c g h) = ((deep p s a b fit g, omega (arith, e)), ((deep p t a c fit h, omega (arith, e)), tt))
node_under p i _ _ _ fit e (kinds.Fail bytes a b) = (tt, tt)
node_under p i _ _ _ fit e (kinds.Witness a b) = written_under p (depth_at p i) b (slice_get p.witness (witness_number p.nodes i))
node_under p i _ _ _ fit e (kinds.Word k n) = writing_under p (depth_at p i) (word_kind k) (word_value k n)

row_under_of : (p : Program) (i : ℕ) (o : Option Node) (e : Option (Option Arrow)) → IsFit p → slice_get p.nodes i ≡ o → slice_get p.typing i ≡ e →
    AreUnder p (depth_at p i) (row_of p i o e)
row_under_of p i None e fit is has = (tt, tt)
row_under_of p i (Some n) None fit is has = (tt, tt)
row_under_of p i (Some n) (Some None) fit is has = (tt, tt)
row_under_of p i (Some n) (Some (Some a)) fit is has =
    node_under p i n a.source a.target fit (ap (λ (m : Bounds). m.depth) (bounds_are p.nodes p.typing i n a.source a.target fit.placed is has))
    (meets_at p.typing p.nodes i n a.source a.target fit.typed is has)

row_under : (p : Program) (i : ℕ) → IsFit p → AreUnder p (depth_at p i) (row_at p i)
row_under p i fit = row_under_of p i (slice_get p.nodes i) (slice_get p.typing i) fit refl refl

-- what is left of a node has nodes that are less deep, unless it is the node itself
data Fits (p : Program) (i : ℕ) (xs : List Item) : Type 0 where
  FitsUnder : AreUnder p (depth_at p i) xs → Fits p i xs
  FitsNode : xs ≡ At i ∷ [] → Fits p i xs

behind_fits : (p : Program) (i : ℕ) (x : Item) (xs : List Item) → Fits p i (x ∷ xs) → Fits p i xs
behind_fits p i x xs (FitsUnder h) = FitsUnder h.1
behind_fits p i x [] (FitsNode e) = FitsUnder tt
behind_fits p i x (y ∷ xs) (FitsNode e) = absurd (cc)

left_fits : (p : Program) (i n j : ℕ) (right : Side) (xs : List Item) → Fits p i (Read (Shown n j) right ∷ xs) → Fits p i (Forward n ∷ At j ∷ Back n ∷ xs)
left_fits p i n j right xs (FitsUnder h) = FitsUnder (tt, (h.0.0, (tt, h.1)))
left_fits p i n j right xs (FitsNode e) = absurd (cc)

right_fits : (p : Program) (i n j : ℕ) (left : Side) (xs : List Item) → Fits p i (Read left (Shown n j) ∷ xs) → Fits p i (Forward n ∷ At j ∷ Back n ∷ xs)
right_fits p i n j left xs (FitsUnder h) = FitsUnder (tt, (h.0.1, (tt, h.1)))
right_fits p i n j left xs (FitsNode e) = absurd (cc)

fits : (p : Program) (i : ℕ) (xs : List Item) → IsFit p → Remains p i xs → Fits p i xs
fits p i _ fit RemainsNode = FitsNode refl
fits p i xs fit (RemainsRow _ e) = FitsUnder (subst (λ (l : List Item). AreUnder p (depth_at p i) l) (sym e) (row_under p i fit))
fits p i xs fit (RemainsBehind x _ r) = behind_fits p i x xs (fits p i (x ∷ xs) fit r)
fits p i _ fit (RemainsLeft n j right xs r) = left_fits p i n j right xs (fits p i (Read (Shown n j) right ∷ xs) fit r)
fits p i _ fit (RemainsRight n j left xs r) = right_fits p i n j left xs (fits p i (Read left (Shown n j) ∷ xs) fit r)

lower : (p : Program) (most low high : ℕ) (ls : List Layer) → AreNested p most high ls → low ≤ high → AreNested p most low ls
lower p most low _ _ (NoLayer high h) g = NoLayer low (omega (arith, h, g))
lower p most low _ _ (InFront high l ls h r nest) g = InFront low l ls (omega (arith, h, g)) r nest

few_by : (p : Program) (most low : ℕ) (ls : List Layer) → AreNested p most low ls → low + length ls ≤ suc most
few_by p most _ _ (NoLayer low h) = omega (arith, h)
few_by p most _ _ (InFront low l ls h r nest) = omega (arith, h, few_by p most (suc (depth_at p l.node)) ls nest)

few : (p : Program) (most : ℕ) (ls : List Layer) → AreNested p most 1 ls → length ls ≤ most
few p most ls nest = omega (arith, few_by p most 1 ls nest)

behind : (p : Program) (most i : ℕ) (x : Item) (xs : List Item) (ls : List Layer) → AreNested p most 1 (layer i (x ∷ xs) ∷ ls) → AreNested p most 1 (layer i xs ∷ ls)
behind p most i x xs ls (InFront _ _ _ h r nest) = InFront 1 (layer i xs) ls h (RemainsBehind x xs r) nest

left_chosen : (p : Program) (most i n j : ℕ) (right : Side) (xs : List Item) (ls : List Layer) → AreNested p most 1 (layer i (Read (Shown n j) right ∷ xs) ∷ ls) →
    AreNested p most 1 (layer i (Forward n ∷ At j ∷ Back n ∷ xs) ∷ ls)
left_chosen p most i n j right xs ls (InFront _ _ _ h r nest) = InFront 1 (layer i (Forward n ∷ At j ∷ Back n ∷ xs)) ls h (RemainsLeft n j right xs r) nest

right_chosen : (p : Program) (most i n j : ℕ) (left : Side) (xs : List Item) (ls : List Layer) → AreNested p most 1 (layer i (Read left (Shown n j) ∷ xs) ∷ ls) →
    AreNested p most 1 (layer i (Forward n ∷ At j ∷ Back n ∷ xs) ∷ ls)
right_chosen p most i n j left xs ls (InFront _ _ _ h r nest) = InFront 1 (layer i (Forward n ∷ At j ∷ Back n ∷ xs)) ls h (RemainsRight n j left xs r) nest

ended : (p : Program) (most : ℕ) (l : Layer) (ls : List Layer) → AreNested p most 1 (l ∷ ls) → AreNested p most 1 ls
ended p most l ls (InFront _ _ _ h r nest) = lower p most 1 (suc (depth_at p l.node)) ls nest (omega arith)

remains : (p : Program) (most low : ℕ) (l : Layer) (ls : List Layer) → AreNested p most low (l ∷ ls) → Remains p l.node l.items
remains p most low l ls (InFront _ _ _ h r nest) = r

-- a node goes in front of the layer that has it
entered : (p : Program) (most i j : ℕ) (xs : List Item) (ls : List Layer) → IsNodeUnder p (depth_at p i) j → AreNested p most 1 (layer i (At j ∷ xs) ∷ ls) →
    AreNested p most 1 (layer j (row_at p j) ∷ layer i xs ∷ ls)
entered p most i j xs ls under (InFront _ _ _ h r nest) =
    InFront 1 (layer j (row_at p j)) (layer i xs ∷ ls) under.0 (RemainsRow (row_at p j) refl)
    (InFront (suc (depth_at p j)) (layer i xs) ls under.1 (RemainsBehind (At j) xs r) nest)

enters_by : (p : Program) (most i j : ℕ) (xs : List Item) (ls : List Layer) → (j ≡ i → ⊥) → Fits p i (At j ∷ xs) → AreNested p most 1 (layer i (At j ∷ xs) ∷ ls) →
    AreNested p most 1 (layer j (row_at p j) ∷ layer i xs ∷ ls)
enters_by p most i j xs ls other (FitsUnder h) nest = entered p most i j xs ls h.0 nest
enters_by p most i j xs ls other (FitsNode e) nest = let same : j ≡ i = cc in absurd (other same)

-- the layer of the item in front
record Front (p : Program) (most : ℕ) (x : Item) (rest : List Item) : Type 0 where
  index : ℕ
  left : List Item
  others : List Layer
  nested : AreNested p most 1 (layer index (x ∷ left) ∷ others)
  same : rest ≡ left ++ items_of others

front_by : (p : Program) (most : ℕ) (x : Item) (rest : List Item) (l : Layer) (ls : List Layer) (xs : List Item) → l.items ≡ xs → AreNested p most 1 (l ∷ ls) →
    l.items ++ items_of ls ≡ x ∷ rest → (items_of ls ≡ x ∷ rest → Front p most x rest) → Front p most x rest
front_by p most x rest l ls [] e nest g more = more (ap (λ (q : List Item). q ++ items_of ls) (sym e) ∙ g)
front_by p most x rest l ls (y ∷ xs) e nest g more =
    let whole : y ∷ (xs ++ items_of ls) ≡ x ∷ rest = ap (λ (q : List Item). q ++ items_of ls) (sym e) ∙ g in
    let first : y ≡ x = cc in
    let after : rest ≡ xs ++ items_of ls = cc in
    let items : l.items ≡ x ∷ xs = e ∙ ap (λ (q : Item). q ∷ xs) first in
    record {
      index = l.node;
      left = xs;
      others = ls;
      nested = subst (λ (q : List Item). AreNested p most 1 (layer l.node q ∷ ls)) items nest;
      same = after;
    }

front_of : (p : Program) (most : ℕ) (x : Item) (rest : List Item) (ls : List Layer) → AreNested p most 1 ls → items_of ls ≡ x ∷ rest → Front p most x rest
front_of p most x rest [] nest g = absurd (cc)
front_of p most x rest (l ∷ ls) nest g =
    front_by p most x rest l ls l.items refl nest g (λ e. front_of p most x rest ls (ended p most l ls nest) e)

-- the items are those of nested layers
record Nest (p : Program) (most : ℕ) (items : List Item) : Type 0 where
  layers : List Layer
  nested : AreNested p most 1 layers
  same : items ≡ items_of layers

front : (p : Program) (most : ℕ) (x : Item) (rest : List Item) → Nest p most (x ∷ rest) → Front p most x rest
front p most x rest nest = front_of p most x rest nest.layers nest.nested (sym nest.same)

-- the items behind the one in front
behind_nest : (p : Program) (most : ℕ) (x : Item) (rest : List Item) → Nest p most (x ∷ rest) → Nest p most rest
behind_nest p most x rest nest =
    let f = front p most x rest nest in
    record { layers = layer f.index f.left ∷ f.others; nested = behind p most f.index x f.left f.others f.nested; same = f.same }

-- a node gives way to its row
root_row : (p : Program) (most i : ℕ) (xs : List Item) (ls : List Layer) → AreNested p most 1 (layer i xs ∷ ls) → AreNested p most 1 (layer i (row_at p i) ∷ ls)
root_row p most i xs ls (InFront _ _ _ h r nest) = InFront 1 (layer i (row_at p i)) ls h (RemainsRow (row_at p i) refl) nest

enter_by : (p : Program) (most j : ℕ) (rest : List Item) (f : Front p most (At j) rest) → Fits p f.index (At j ∷ f.left) → Nest p most (row_at p j ++ rest)
enter_by p most j rest f (FitsUnder h) =
    record {
      layers = layer j (row_at p j) ∷ layer f.index f.left ∷ f.others;
      nested = entered p most f.index j f.left f.others h.0 f.nested;
      same = ap (λ (l : List Item). row_at p j ++ l) f.same;
    }
enter_by p most j rest f (FitsNode e) =
    let i : ℕ = f.index in
    let g : At j ∷ f.left ≡ At i ∷ [] = e in
    let one : i ≡ j = cc in
    let none : f.left ≡ [] = cc in
    let all : rest ≡ items_of f.others = f.same ∙ ap (λ (l : List Item). l ++ items_of f.others) none in
    record {
      layers = layer j (row_at p j) ∷ f.others;
      nested = subst (λ (q : ℕ). AreNested p most 1 (layer q (row_at p q) ∷ f.others)) one (root_row p most i (At j ∷ f.left) f.others f.nested);
      same = ap (λ (l : List Item). row_at p j ++ l) all;
    }

enter_nest : (p : Program) (most j : ℕ) (rest : List Item) → IsFit p → Nest p most (At j ∷ rest) → Nest p most (row_at p j ++ rest)
enter_nest p most j rest fit nest =
    let f = front p most (At j) rest nest in
    enter_by p most j rest f (fits p f.index (At j ∷ f.left) fit (remains p most 1 (layer f.index (At j ∷ f.left)) f.others f.nested))

left_nest : (p : Program) (most n j : ℕ) (right : Side) (rest : List Item) → Nest p most (Read (Shown n j) right ∷ rest) → Nest p most (Forward n ∷ At j ∷ Back n ∷ rest)
left_nest p most n j right rest nest =
    let f = front p most (Read (Shown n j) right) rest nest in
    record {
      layers = layer f.index (Forward n ∷ At j ∷ Back n ∷ f.left) ∷ f.others;
      nested = left_chosen p most f.index n j right f.left f.others f.nested;
      same = ap (λ (l : List Item). Forward n ∷ At j ∷ Back n ∷ l) f.same;
    }

right_nest : (p : Program) (most n j : ℕ) (left : Side) (rest : List Item) → Nest p most (Read left (Shown n j) ∷ rest) → Nest p most (Forward n ∷ At j ∷ Back n ∷ rest)
right_nest p most n j left rest nest =
    let f = front p most (Read left (Shown n j)) rest nest in
    record {
      layers = layer f.index (Forward n ∷ At j ∷ Back n ∷ f.left) ∷ f.others;
      nested = right_chosen p most f.index n j left f.left f.others f.nested;
      same = ap (λ (l : List Item). Forward n ∷ At j ∷ Back n ∷ l) f.same;
    }

-- each turn keeps the layers
abbrev Keeps : Program → ℕ → Turn → Type 0
Keeps p most (Next u) = Nest p most u.items
Keeps p most _ = Unit {0}

held_keeps : (p : Program) (most : ℕ) (b : Bool) (turn : Turn) → Keeps p most turn → Keeps p most (where_held b turn)
held_keeps p most true turn h = h
held_keeps p most false turn h = tt

chosen_left : (p : Program) (most : ℕ) (left right : Side) (rest : List Item) (rs ws : List Frame) (t : Totals) → Nest p most (Read left right ∷ rest) →
    Keeps p most (chosen left rest rs ws t)
chosen_left p most (Shown n j) right rest rs ws t nest = left_nest p most n j right rest nest
chosen_left p most Closed right rest rs ws t nest = tt

chosen_right : (p : Program) (most : ℕ) (left right : Side) (rest : List Item) (rs ws : List Frame) (t : Totals) → Nest p most (Read left right ∷ rest) →
    Keeps p most (chosen right rest rs ws t)
chosen_right p most left (Shown n j) rest rs ws t nest = right_nest p most n j left rest nest
chosen_right p most left Closed rest rs ws t nest = tt

choose_keeps : (p : Program) (most : ℕ) (cs : List Cell) (left right : Side) (rest : List Item) (rs ws : List Frame) (t : Totals) →
    Nest p most (Read left right ∷ rest) → Keeps p most (choose cs left right rest rs ws t)
choose_keeps p most (Bit false ∷ cs) left right rest rs ws t nest = chosen_left p most left right rest rs ws t nest
choose_keeps p most (Bit true ∷ cs) left right rest rs ws t nest = chosen_right p most left right rest rs ws t nest
choose_keeps p most (Undefined ∷ cs) left right rest rs ws t nest = tt
choose_keeps p most [] left right rest rs ws t nest = tt

turn_keeps : (p : Program) (most : ℕ) (items : List Item) (rs ws : List Frame) (t : Totals) → IsFit p → Nest p most items → Keeps p most (turn_on p items rs ws t)
turn_keeps p most [] rs ws t fit nest = tt
turn_keeps p most (At i ∷ rest) rs ws t fit nest = enter_nest p most i rest fit nest
turn_keeps p most (Write b ∷ rest) rs (g ∷ gs) t fit nest = held_keeps p most (nat_le 1 (length g.after)) _ (behind_nest p most (Write b) rest nest)
turn_keeps p most (Skip n ∷ rest) rs (g ∷ gs) t fit nest = held_keeps p most (nat_le n (length g.after)) _ (behind_nest p most (Skip n) rest nest)
turn_keeps p most (Copy n ∷ rest) (f ∷ fs) (g ∷ gs) t fit nest =
    held_keeps p most (nat_le n (length f.after)) _ (held_keeps p most (nat_le n (length g.after)) _ (behind_nest p most (Copy n) rest nest))
turn_keeps p most (Forward n ∷ rest) (f ∷ fs) ws t fit nest = held_keeps p most (nat_le n (length f.after)) _ (behind_nest p most (Forward n) rest nest)
turn_keeps p most (Back n ∷ rest) (f ∷ fs) ws t fit nest = held_keeps p most (nat_le n (length f.before)) _ (behind_nest p most (Back n) rest nest)
turn_keeps p most (NewFrame n ∷ rest) rs ws t fit nest = behind_nest p most (NewFrame n) rest nest
turn_keeps p most (MoveFrame ∷ rest) rs (g ∷ gs) t fit nest = behind_nest p most MoveFrame rest nest
turn_keeps p most (DropFrame ∷ rest) (f ∷ fs) ws t fit nest = behind_nest p most DropFrame rest nest
turn_keeps p most (Nop ∷ rest) rs ws t fit nest = behind_nest p most Nop rest nest
turn_keeps p most (Read left right ∷ rest) (f ∷ fs) ws t fit nest = choose_keeps p most f.after left right rest (f ∷ fs) ws t nest
turn_keeps p most (Failing ∷ rest) rs ws t fit nest = tt
turn_keeps p most _ _ _ t fit nest = tt

reach_keeps : (p : Program) (most : ℕ) (s z : State) → IsFit p → Nest p most s.items → Reaches p s z → Nest p most z.items
reach_keeps p most s _ fit nest (Here _) = nest
reach_keeps p most s z fit nest (Onward _ u _ e r) =
    reach_keeps p most u z fit (subst (Keeps p most) e (turn_keeps p most s.items s.reads s.writes s.totals fit nest)) r

fit_of : (p : Program) (root : Arrow) (v : Value) → IsInput p root v → IsFit p
fit_of p root v h = record { placed = h.placed; typed = h.typed.typed; witness = h.witness }

first_layer : (p : Program) (root : Arrow) (v : Value) → IsInput p root v → (xs : List Item) → Remains p (length p.nodes - 1) xs →
    AreNested p (depth_at p (length p.nodes - 1)) 1 (layer (length p.nodes - 1) xs ∷ [])
first_layer p root v h xs r =
    let i : ℕ = length p.nodes - 1 in
    InFront 1 (layer i xs) [] (deep p i root.source root.target (fit_of p root v h) h.typed.rooted) r (NoLayer (suc (depth_at p i)) (omega arith))

pub items_are_layered : ItemsAreLayered
items_are_layered p root v h z q =
    let i : ℕ = length p.nodes - 1 in
    let most : ℕ = depth_at p i in
    let first : Nest p most (At i ∷ []) = record { layers = layer i (At i ∷ []) ∷ []; nested = first_layer p root v h (At i ∷ []) RemainsNode; same = refl } in
    let last : Nest p most z.items = reach_keeps p most (start p v) z (fit_of p root v h) first q in
    record { layers = last.layers; nested = last.nested; same = last.same; few = few p most last.layers last.nested }

pub layers_move : LayersMove
layers_move = record {
  few = few;
  first = λ p root v h. first_layer p root v h (row_at p (length p.nodes - 1)) (RemainsRow (row_at p (length p.nodes - 1)) refl);
  enters = λ p root v most i j xs ls h other nest.
      enters_by p most i j xs ls other (fits p i (At j ∷ xs) (fit_of p root v h) (remains p most 1 (layer i (At j ∷ xs)) ls nest)) nest;
  behind = behind;
  left = left_chosen;
  right = right_chosen;
  ends = ended;
}

-- the nodes in a row stand before its node
append_before : (i : ℕ) (xs ys : List Item) → AreBefore i xs → AreBefore i ys → AreBefore i (xs ++ ys)
append_before i [] ys h g = g
append_before i (x ∷ xs) ys h g = (h.0, append_before i xs ys h.1 g)

writing_before : (i : ℕ) (b : Kind) (u : Value) → AreBefore i (writing b u)
writing_before i (Sum a b) (Inl u) = (tt, (tt, writing_before i a u))
writing_before i (Sum a b) (Inr u) = (tt, (tt, writing_before i b u))
writing_before i (Product a b) (Pair u v) = append_before i (writing a u) (writing b v) (writing_before i a u) (writing_before i b v)
writing_before i _ _ = tt

written_before : (i : ℕ) (b : Kind) (o : Option Value) → AreBefore i (writing_of b o)
written_before i b None = (tt, tt)
written_before i b (Some u) = writing_before i b u

side_before : (i j n : ℕ) (o : Option (Option Arrow)) → j < i → IsSideBefore i (side_of j n o)
side_before i j n None h = tt
side_before i j n (Some None) h = tt
side_before i j n (Some (Some a)) h = h

node_before : (p : Program) (i : ℕ) (n : Node) (a b : Kind) → node.AreUnder i (node.children n) → Meets p.typing n a b → AreBefore i (row p i n a b)
node_before p i _ _ _ u (kinds.Iden a) = (tt, tt)
node_before p i _ _ _ u (kinds.UnitNode a) = (tt, tt)
node_before p i _ _ _ u (kinds.Injl t a b c h) = (tt, (tt, (u.0, tt)))
node_before p i _ _ _ u (kinds.Injr t a b c h) = (tt, (tt, (u.0, tt)))
node_before p i _ _ _ u (kinds.Take t a b c h) = (u.0, tt)
node_before p i _ _ _ u (kinds.Drop t a b c h) = (tt, (u.0, (tt, tt)))
node_before p i _ _ _ u (kinds.Comp s t a b c g h) = (tt, (u.0, (tt, (u.1.0, (tt, tt)))))
node_before p i _ _ _ u (kinds.Case s t a b c d g h) =
    ((side_before i s (1 + pad_left a b) (slice_get p.typing s) u.0, side_before i t (1 + pad_right a b) (slice_get p.typing t) u.1.0), tt)
node_before p i _ _ _ u (kinds.AssertL s t a b c d g h) =
    ((side_before i s (1 + pad_left a b) (slice_get p.typing s) u.0, side_before i t (1 + pad_right a b) (slice_get p.typing t) u.1.0), tt)
node_before p i _ _ _ u (kinds.AssertR s t a b c d g h) =
    ((side_before i s (1 + pad_left a b) (slice_get p.typing s) u.0, side_before i t (1 + pad_right a b) (slice_get p.typing t) u.1.0), tt)
node_before p i _ _ _ u (kinds.Pair s t a b c g h) = (u.0, (u.1.0, tt))
node_before p i _ _ _ u (kinds.Fail bytes a b) = (tt, tt)
node_before p i _ _ _ u (kinds.Witness a b) = written_before i b (slice_get p.witness (witness_number p.nodes i))
node_before p i _ _ _ u (kinds.Word k n) = writing_before i (word_kind k) (word_value k n)

row_before : (p : Program) (i : ℕ) (o : Option Node) (e : Option (Option Arrow)) → IsFit p → slice_get p.nodes i ≡ o → slice_get p.typing i ≡ e →
    AreBefore i (row_of p i o e)
row_before p i None e fit is has = (tt, tt)
row_before p i (Some n) None fit is has = (tt, tt)
row_before p i (Some n) (Some None) fit is has = (tt, tt)
row_before p i (Some n) (Some (Some a)) fit is has =
    node_before p i n a.source a.target (children_under p.nodes i n (follows_at p.nodes i n fit.placed is))
    (meets_at p.typing p.nodes i n a.source a.target fit.typed is has)

pub rows_go_back : RowsGoBack
rows_go_back p root v h i = row_before p i (slice_get p.nodes i) (slice_get p.typing i) (fit_of p root v h) refl refl
