-- Laws of the core language that every layer above may cite (this project's own).
use Rattle.std.specs.Prelude.{◌≡◌, ℕ, ◌<◌, List, ◌++◌, Bool, length, Some, None, slice_get}
use Rattle.simplicity.specs.Types.{Kind, Value, IsOf, AreOf, IsBelow, size, code, shrink}
use Rattle.simplicity.specs.Cells.{cells}
use Rattle.simplicity.specs.Terms as term
use Rattle.simplicity.specs.Terms.{Term, Answer, meaning}
use Rattle.simplicity.specs.Typing.{Typing, Arrow, IsLeast, HasArrow, IsTyping, IsTyped, witness_targets}
use Rattle.simplicity.specs.Nodes.{Node, IsPlaced, IsShown, Unfolds, tree_of_node}
use Rattle.simplicity.specs.Order.{IsOrdered, IsInPlace}
use Rattle.simplicity.specs.Accepted.{Accepted}
use Rattle.simplicity.specs.Roots.{root, word_term}
use Rattle.simplicity.specs.Carried.{AreBelow256}
use Rattle.simplicity.specs.Spelling.{Spelled, IsNatural, IsStream, natural}

-- a value of a type has as many cells as the type's size
abbrev pub CellsFill : Type 0
CellsFill = (k : Kind) (v : Value) → IsOf v k → length (cells k v) ≡ size k

-- where two bit strings begin with the codes of values of one type, these are the same value, and the rest is the same
abbrev pub CodeDetermines : Type 0
CodeDetermines = (k : Kind) (u v : Value) (xs ys : List Bool) → IsOf u k → IsOf v k → code u ++ xs ≡ code v ++ ys → (u ≡ v) × (xs ≡ ys)

-- `≤` on types is a partial order
pub record BelowOrders : Type 0 where
  pub reflexive : (a : Kind) → IsBelow a a
  pub transitive : (a b c : Kind) → IsBelow a b → IsBelow b c → IsBelow a c
  pub antisymmetric : (a b : Kind) → IsBelow a b → IsBelow b a → a ≡ b

-- a value shrunk to a type at or below its own is of that type
abbrev pub ShrinkKeeps : Type 0
ShrinkKeeps = (s t : Kind) (v : Value) → IsOf v t → IsBelow s t → IsOf (shrink v s) s

-- an answer is failure or a value of the type
abbrev pub IsAnswerOf : Answer → Kind → Type 0
IsAnswerOf None k = Unit {0}
IsAnswerOf (Some v) k = IsOf v k

-- the meaning of a typed term on a value of its source is failure or a value of its target
abbrev pub MeaningKeeps : Type 0
MeaningKeeps = (ks : List Kind) (w : List Value) (t : Term) (a b : Kind) (v : Value) → AreOf w ks → IsTyped ks t a b → IsOf v a → IsAnswerOf (meaning t w v) b

-- each shown node of a placed list unfolds to its tree
abbrev pub NodesUnfold : Type 0
NodesUnfold = (ns : List Node) (i : ℕ) → IsPlaced ns → IsShown (slice_get ns i) → Unfolds ns i (tree_of_node ns i)

-- the tree of a node of a placed and typed list has the node's arrow, where the witnesses have the targets of their nodes
abbrev pub TreesAreTyped : Type 0
TreesAreTyped = (ns : List Node) (ts : Typing) (i : ℕ) (a b : Kind) → IsPlaced ns → IsTyping ns ts → HasArrow ts i a b →
    IsTyped (witness_targets ns ts) (tree_of_node ns i) a b

-- the function and the relation for naturals agree
pub record NaturalsAgree : Type 0 where
  pub holds : (x : ℕ) → 0 < x → IsNatural x (natural x)
  pub only : (x : ℕ) (bits : List Bool) → IsNatural x bits → bits ≡ natural x

-- a list and the bytes that spell it determine each other
pub record SpellingDetermines : Type 0 where
  pub bytes : (xs ys : List ℕ) (ns : List Node) → AreBelow256 xs → AreBelow256 ys → Spelled xs ns → Spelled ys ns → xs ≡ ys
  pub list : (xs : List ℕ) (ns ms : List Node) → Spelled xs ns → Spelled xs ms → ns ≡ ms

-- values of given types and the bytes of their stream determine each other
pub record StreamDetermines : Type 0 where
  pub bytes : (xs ys : List ℕ) (ks : List Kind) (vs : List Value) → AreBelow256 xs → AreBelow256 ys → IsStream xs ks vs → IsStream ys ks vs → xs ≡ ys
  pub values : (xs : List ℕ) (ks : List Kind) (us vs : List Value) → IsStream xs ks us → IsStream xs ks vs → us ≡ vs

-- a list has at most one least typing with a root arrow
abbrev pub LeastIsOne : Type 0
LeastIsOne = (ns : List Node) (root : Arrow) (ts us : Typing) → IsLeast ns root ts → IsLeast ns root us → ts ≡ us

-- a program and a stream are accepted at an arrow as at most one list, typing and witness
pub record AcceptedAsOne : Type 0 where
  pub list : (program stream : List ℕ) (root : Arrow) (ns ms : List Node) (ts us : Typing) (v w : List Value) →
      Accepted program stream root ns ts v → Accepted program stream root ms us w → ns ≡ ms
  pub typing : (program stream : List ℕ) (root : Arrow) (ns : List Node) (ts us : Typing) (v w : List Value) →
      Accepted program stream root ns ts v → Accepted program stream root ns us w → ts ≡ us
  pub witness : (program stream : List ℕ) (root : Arrow) (ns : List Node) (ts : Typing) (v w : List Value) →
      Accepted program stream root ns ts v → Accepted program stream root ns ts w → v ≡ w

-- a word has the root and the meaning of its term
pub record WordsAreTerms : Type 0 where
  pub same_root : (k n : ℕ) → root (term.Word k n) ≡ root (word_term k n)
  pub same_meaning : (k n : ℕ) (w : List Value) (v : Value) → meaning (term.Word k n) w v ≡ meaning (word_term k n) w v

-- each node of an ordered list is in its place
abbrev pub OrderPlaces : Type 0
OrderPlaces = (ns : List Node) (i : ℕ) → IsOrdered ns → i < length ns → IsInPlace ns i
