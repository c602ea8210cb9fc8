-- The nodes of a row weigh less than the node.
use Rattle.std.proofs.Common.{◌≡◌, ℕ, suc, ◌+◌, ◌*◌, ◌^◌, ◌<◌, ◌≤◌, List, [], ◌∷◌, ◌++◌, Option, Some, None, refl, arith}
use Rattle.std.specs.Prelude.{slice_get}
use Rattle.std.proofs.Math.Nat.{pow-le-pow_right, pow-succ', one-le-pow}
use Rattle.simplicity.specs.Types.{Kind, Sum, Product, Value, Inl, Inr, Pair, word_kind, word_value}
use Rattle.simplicity.specs.Typing.{Arrow}
use Rattle.simplicity.specs.Nodes.{Node, witness_number}
use Rattle.simplicity.specs.Nodes as node
use Rattle.simplicity.specs.Machine.{Program, Item, writing, writing_of, row, row_of}
use Rattle.machine_laws.specs.Layers.{AreBefore}
use Rattle.machine_laws.proofs.Layers.{rows_go_back}
use Rattle.machine_ready.specs.Ready.{load, RowsAreLighter}

load_append : (xs ys : List Item) → load (xs ++ ys) ≡ load xs + load ys
load_append [] ys = omega arith
load_append (x ∷ xs) ys = omega (arith, load_append xs ys)

writing_load : (k : Kind) (v : Value) → load (writing k v) ≡ 0
writing_load (Sum a b) (Inl u) = omega (arith, writing_load a u)
writing_load (Sum a b) (Inr u) = omega (arith, writing_load b u)
writing_load (Product a b) (Pair u v) = omega (arith, load_append (writing a u) (writing b v), writing_load a u, writing_load b v)
writing_load _ _ = refl

written_load : (k : Kind) (o : Option Value) → load (writing_of k o) ≡ 0
written_load k (Some v) = writing_load k v
written_load k None = refl

-- a node before weighs no more than a quarter
lighter : (i j : ℕ) → j < i → 4 ^ suc j ≤ 4 ^ i
lighter i j h = pow-le-pow_right {n = 4} (omega arith) {i = suc j} {j = i} (omega arith)

row_load : (p : Program) (i : ℕ) (n : Node) (a b : Kind) → AreBefore i (row p i n a b) → load (row p i n a b) ≤ 2 * 4 ^ i
row_load p i (node.Comp s t) a b h = omega (arith, lighter i s h.1.0, lighter i t h.1.1.1.0)
row_load p i (node.Injl t) a (Sum b c) h = omega (arith, lighter i t h.1.1.0)
row_load p i (node.Injr t) a (Sum b c) h = omega (arith, lighter i t h.1.1.0)
row_load p i (node.Case s t) (Product (Sum a b) c) d h = omega arith
row_load p i (node.Pair s t) a b h = omega (arith, lighter i s h.0, lighter i t h.1.0)
row_load p i (node.Take t) a b h = omega (arith, lighter i t h.0)
row_load p i (node.Drop t) (Product a b) c h = omega (arith, lighter i t h.1.0)
row_load p i node.Witness a b h = omega (arith, written_load b (slice_get p.witness (witness_number p.nodes i)))
row_load p i (node.Word k n) a b h = omega (arith, writing_load (word_kind k) (word_value k n))
row_load p i _ _ _ h = omega arith

of_load : (p : Program) (i : ℕ) (o : Option Node) (e : Option (Option Arrow)) → AreBefore i (row_of p i o e) → load (row_of p i o e) ≤ 2 * 4 ^ i
of_load p i (Some n) (Some (Some a)) h = row_load p i n a.source a.target h
of_load p i (Some n) (Some None) h = omega arith
of_load p i (Some n) None h = omega arith
of_load p i None e h = omega arith

pub rows_are_lighter : RowsAreLighter
rows_are_lighter p root v input i =
    omega (arith, of_load p i (slice_get p.nodes i) (slice_get p.typing i) (rows_go_back p root v input i), pow-succ' 4 i, one-le-pow i 4 (omega arith))
