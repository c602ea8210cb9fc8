-- Terms with a declared arrow at every place, and the canonical list of one (this project's own).
use Rattle.std.specs.Prelude.{◌≡◌, ℕ, ◌+◌, ◌-◌, ◌<◌, List, length, map, Some, None, slice_get}
use Rattle.std.specs.Option.{unwrap_or}
use Rattle.simplicity.specs.Terms.{Term}
use Rattle.simplicity.specs.Terms as term
use Rattle.simplicity.specs.Nodes.{Node, IsPlaced, witness_number}
use Rattle.simplicity.specs.Nodes as node
use Rattle.simplicity.specs.Order.{IsReached}
use Rattle.simplicity.specs.Typing.{Typing, Arrow}
use Rattle.simplicity.specs.Shared.{IsShared}
use Rattle.simplicity.specs.Pruning.{IsReordered, gathered_numbers}

-- a term with an arrow at every place
pub data Declared : Type 0 where
  Iden : (arrow : Arrow) → Declared
  Comp : (arrow : Arrow) (s t : Declared) → Declared
  UnitTerm : (arrow : Arrow) → Declared
  Injl : (arrow : Arrow) (t : Declared) → Declared
  Injr : (arrow : Arrow) (t : Declared) → Declared
  Case : (arrow : Arrow) (s t : Declared) → Declared
  PairTerm : (arrow : Arrow) (s t : Declared) → Declared
  Take : (arrow : Arrow) (t : Declared) → Declared
  Drop : (arrow : Arrow) (t : Declared) → Declared
  Witness : (arrow : Arrow) (number : ℕ) → Declared
  Word : (arrow : Arrow) (k number : ℕ) → Declared
  AssertL : (arrow : Arrow) (s : Declared) (hidden : List ℕ) → Declared
  AssertR : (arrow : Arrow) (hidden : List ℕ) (t : Declared) → Declared
  Fail : (arrow : Arrow) (entropy : List ℕ) → Declared

-- the term alone
abbrev pub erased : Declared → Term
erased (Iden a) = term.Iden
erased (Comp a s t) = term.Comp (erased s) (erased t)
erased (UnitTerm a) = term.UnitTerm
erased (Injl a t) = term.Injl (erased t)
erased (Injr a t) = term.Injr (erased t)
erased (Case a s t) = term.Case (erased s) (erased t)
erased (PairTerm a s t) = term.PairTerm (erased s) (erased t)
erased (Take a t) = term.Take (erased t)
erased (Drop a t) = term.Drop (erased t)
erased (Witness a n) = term.Witness n
erased (Word a k n) = term.Word k n
erased (AssertL a s h) = term.AssertL (erased s) h
erased (AssertR a h t) = term.AssertR h (erased t)
erased (Fail a e) = term.Fail e

-- a node of a list stands for a declared term: its declared arrow is the one at its place, a hidden side has none,
-- and its witness nodes have these names in their order
pub data Stands (ns : List Node) (ds : Typing) (names : List ℕ) : ℕ → Declared → Type 0 where
  StandsIden : (i : ℕ) (a : Arrow) → slice_get ns i ≡ Some node.Iden → slice_get ds i ≡ Some (Some a) → Stands ns ds names i (Iden a)
  StandsUnit : (i : ℕ) (a : Arrow) → slice_get ns i ≡ Some node.UnitNode → slice_get ds i ≡ Some (Some a) → Stands ns ds names i (UnitTerm a)
  StandsInjl : (i j : ℕ) (a : Arrow) (t : Declared) → slice_get ns i ≡ Some (node.Injl j) → slice_get ds i ≡ Some (Some a) →
      Stands ns ds names j t → Stands ns ds names i (Injl a t)
  StandsInjr : (i j : ℕ) (a : Arrow) (t : Declared) → slice_get ns i ≡ Some (node.Injr j) → slice_get ds i ≡ Some (Some a) →
      Stands ns ds names j t → Stands ns ds names i (Injr a t)
  StandsTake : (i j : ℕ) (a : Arrow) (t : Declared) → slice_get ns i ≡ Some (node.Take j) → slice_get ds i ≡ Some (Some a) →
      Stands ns ds names j t → Stands ns ds names i (Take a t)
  StandsDrop : (i j : ℕ) (a : Arrow) (t : Declared) → slice_get ns i ≡ Some (node.Drop j) → slice_get ds i ≡ Some (Some a) →
      Stands ns ds names j t → Stands ns ds names i (Drop a t)
  StandsComp : (i j k : ℕ) (a : Arrow) (s t : Declared) → slice_get ns i ≡ Some (node.Comp j k) → slice_get ds i ≡ Some (Some a) →
      Stands ns ds names j s → Stands ns ds names k t → Stands ns ds names i (Comp a s t)
  StandsCase : (i j k : ℕ) (a : Arrow) (s t : Declared) → slice_get ns i ≡ Some (node.Case j k) → slice_get ds i ≡ Some (Some a) →
      Stands ns ds names j s → Stands ns ds names k t → Stands ns ds names i (Case a s t)
  StandsPair : (i j k : ℕ) (a : Arrow) (s t : Declared) → slice_get ns i ≡ Some (node.Pair j k) → slice_get ds i ≡ Some (Some a) →
      Stands ns ds names j s → Stands ns ds names k t → Stands ns ds names i (PairTerm a s t)
  StandsAssertL : (i j k : ℕ) (a : Arrow) (s : Declared) (h : List ℕ) → slice_get ns i ≡ Some (node.Case j k) → slice_get ds i ≡ Some (Some a) →
      Stands ns ds names j s → slice_get ns k ≡ Some (node.Hidden h) → slice_get ds k ≡ Some None → Stands ns ds names i (AssertL a s h)
  StandsAssertR : (i j k : ℕ) (a : Arrow) (h : List ℕ) (t : Declared) → slice_get ns i ≡ Some (node.Case j k) → slice_get ds i ≡ Some (Some a) →
      slice_get ns j ≡ Some (node.Hidden h) → slice_get ds j ≡ Some None → Stands ns ds names k t → Stands ns ds names i (AssertR a h t)
  StandsFail : (i : ℕ) (a : Arrow) (e : List ℕ) → slice_get ns i ≡ Some (node.Fail e) → slice_get ds i ≡ Some (Some a) → Stands ns ds names i (Fail a e)
  StandsWitness : (i number : ℕ) (a : Arrow) → slice_get ns i ≡ Some node.Witness → slice_get ds i ≡ Some (Some a) →
      slice_get names (witness_number ns i) ≡ Some number → Stands ns ds names i (Witness a number)
  StandsWord : (i k n : ℕ) (a : Arrow) → slice_get ns i ≡ Some (node.Word k n) → slice_get ds i ≡ Some (Some a) → Stands ns ds names i (Word a k n)

-- how many witness leaves the term has
abbrev pub leaves : Declared → ℕ
leaves (Witness a n) = 1
leaves (Comp a s t) = leaves s + leaves t
leaves (Case a s t) = leaves s + leaves t
leaves (PairTerm a s t) = leaves s + leaves t
leaves (Injl a t) = leaves t
leaves (Injr a t) = leaves t
leaves (Take a t) = leaves t
leaves (Drop a t) = leaves t
leaves (AssertL a s h) = leaves s
leaves (AssertR a h t) = leaves t
leaves _ = 0

-- the list has the different subterms of the term, its root the term itself; each witness leaf has a node of its own, so equal subterms hold none
pub record ListsSubterms (t : Declared) (ns : List Node) (ds : Typing) (names : List ℕ) : Type 0 where
  pub placed : IsPlaced ns
  pub whole : Stands ns ds names (length ns - 1) t
  pub reached : (i : ℕ) → i < length ns → IsReached ns i
  pub different : IsShared ns ds
  pub alone : witness_number ns (length ns) ≡ leaves t

-- the names at these numbers
abbrev pub names_at : List ℕ → List ℕ → List ℕ
names_at names numbers = map (λ k. unwrap_or (slice_get names k) 0) numbers

-- the canonical list of a term at an arrow, with the names of its witness nodes in their order
pub record IsCanon (t : Declared) (root : Arrow) (ms : List Node) (us : Typing) (new_names : List ℕ) : Type 0 where
  pub list : List Node
  pub declared : Typing
  pub names : List ℕ
  pub places : List ℕ
  pub subterms : ListsSubterms t list declared names
  pub reordered : IsReordered list root ms us places
  pub named : new_names ≡ names_at names (gathered_numbers list)
