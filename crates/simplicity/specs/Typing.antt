-- The typing of a list (Simplicity Technical Report, "Core Simplicity", types of terms; that the least typing makes free variables the unit type is its rule of type inference).
use Rattle.std.specs.Prelude.{◌≡◌, ℕ, ◌-◌, ◌≤◌, List, [], ◌∷◌, length, Option, Some, None, slice_get}
use Rattle.simplicity.specs.Types.{Kind, One, Sum, Product, IsBelow, weight, word_kind}
use Rattle.simplicity.specs.Nodes.{Node, IsHidden}
use Rattle.simplicity.specs.Nodes as node
use Rattle.simplicity.specs.Terms.{Term}
use Rattle.simplicity.specs.Terms as term

-- from a source type to a target type
pub record Arrow : Type 0 where
  pub source : Kind
  pub target : Kind

abbrev pub arrow : Kind → Kind → Arrow
arrow a b = record { source = a; target = b }

-- an arrow for each node, and none for a hidden one
abbrev pub Typing : Type 0
Typing = List (Option Arrow)

-- the node at an index has the arrow
abbrev pub HasArrow : Typing → ℕ → Kind → Kind → Type 0
HasArrow ts i a b = slice_get ts i ≡ Some (Some (arrow a b))

-- the node at an index is hidden
abbrev pub HasNoArrow : Typing → ℕ → Type 0
HasNoArrow ts i = slice_get ts i ≡ Some None

-- the typing table: a node meets an arrow where its children have theirs
pub data Meets (ts : Typing) : Node → Kind → Kind → Type 0 where
  Iden : (a : Kind) → Meets ts node.Iden a a
  UnitNode : (a : Kind) → Meets ts node.UnitNode a One
  Injl : (t : ℕ) (a b c : Kind) → HasArrow ts t a b → Meets ts (node.Injl t) a (Sum b c)
  Injr : (t : ℕ) (a b c : Kind) → HasArrow ts t a c → Meets ts (node.Injr t) a (Sum b c)
  Take : (t : ℕ) (a b c : Kind) → HasArrow ts t a c → Meets ts (node.Take t) (Product a b) c
  Drop : (t : ℕ) (a b c : Kind) → HasArrow ts t b c → Meets ts (node.Drop t) (Product a b) c
  Comp : (s t : ℕ) (a b c : Kind) → HasArrow ts s a b → HasArrow ts t b c → Meets ts (node.Comp s t) a c
  Case : (s t : ℕ) (a b c d : Kind) → HasArrow ts s (Product a c) d → HasArrow ts t (Product b c) d → Meets ts (node.Case s t) (Product (Sum a b) c) d
  AssertL : (s t : ℕ) (a b c d : Kind) → HasArrow ts s (Product a c) d → HasNoArrow ts t → Meets ts (node.Case s t) (Product (Sum a b) c) d
  AssertR : (s t : ℕ) (a b c d : Kind) → HasNoArrow ts s → HasArrow ts t (Product b c) d → Meets ts (node.Case s t) (Product (Sum a b) c) d
  Pair : (s t : ℕ) (a b c : Kind) → HasArrow ts s a b → HasArrow ts t a c → Meets ts (node.Pair s t) a (Product b c)
  Fail : (e : List ℕ) (a b : Kind) → Meets ts (node.Fail e) a b
  Witness : (a b : Kind) → Meets ts node.Witness a b
  Word : (k n : ℕ) → Meets ts (node.Word k n) One (word_kind k)

-- a hidden node has no arrow, each other one an arrow that it meets
abbrev pub EntryMeets : Typing → Node → Option Arrow → Type 0
EntryMeets ts n None = IsHidden (Some n)
EntryMeets ts n (Some a) = Meets ts n a.source a.target

abbrev pub EntriesMeet : Typing → List Node → Typing → Type 0
EntriesMeet ts [] [] = Unit {0}
EntriesMeet ts (n ∷ ns) (entry ∷ entries) = EntryMeets ts n entry × EntriesMeet ts ns entries
EntriesMeet ts _ _ = ⊥

-- the typing is one of the list
abbrev pub IsTyping : List Node → Typing → Type 0
IsTyping ns ts = EntriesMeet ts ns ts

-- the typing is one of the list, with this arrow at its root
pub record IsTypingAt (ns : List Node) (root : Arrow) (ts : Typing) : Type 0 where
  pub typed : IsTyping ns ts
  pub rooted : slice_get ts (length ns - 1) ≡ Some (Some root)

-- `≤` on entries and on typings: at each node, on both sides of the arrow
abbrev pub IsEntryBelow : Option Arrow → Option Arrow → Type 0
IsEntryBelow None None = Unit {0}
IsEntryBelow (Some a) (Some b) = IsBelow a.source b.source × IsBelow a.target b.target
IsEntryBelow _ _ = ⊥

abbrev pub IsTypingBelow : Typing → Typing → Type 0
IsTypingBelow [] [] = Unit {0}
IsTypingBelow (a ∷ ts) (b ∷ us) = IsEntryBelow a b × IsTypingBelow ts us
IsTypingBelow _ _ = ⊥

-- the least typing with this root arrow
pub record IsLeast (ns : List Node) (root : Arrow) (ts : Typing) : Type 0 where
  pub typing : IsTypingAt ns root ts
  pub least : (us : Typing) → IsTypingAt ns root us → IsTypingBelow ts us

-- no typing has this root arrow
abbrev pub HasNoTyping : List Node → Arrow → Type 0
HasNoTyping ns root = (ts : Typing) → IsTypingAt ns root ts → ⊥

-- the source and the target of the node at an index; the unit type where it has no arrow
abbrev pub source_of : Option (Option Arrow) → Kind
source_of (Some (Some a)) = a.source
source_of _ = One

abbrev pub target_of : Option (Option Arrow) → Kind
target_of (Some (Some a)) = a.target
target_of _ = One

abbrev pub source_at : Typing → ℕ → Kind
source_at ts i = source_of (slice_get ts i)

abbrev pub target_at : Typing → ℕ → Kind
target_at ts i = target_of (slice_get ts i)

-- the arrow of the root; the last case is none of a typed list
abbrev pub arrow_of : Option (Option Arrow) → Arrow
arrow_of (Some (Some a)) = a
arrow_of _ = arrow One One

abbrev pub root_arrow : List Node → Typing → Arrow
root_arrow ns ts = arrow_of (slice_get ts (length ns - 1))

-- the target types of the witness nodes, in the order of the list
abbrev pub witness_targets : List Node → Typing → List Kind
witness_targets (node.Witness ∷ ns) (Some a ∷ ts) = a.target ∷ witness_targets ns ts
witness_targets (n ∷ ns) (a ∷ ts) = witness_targets ns ts
witness_targets _ _ = []

-- no type of the typing has a weight above the number
abbrev pub IsEntryLight : ℕ → Option Arrow → Type 0
IsEntryLight most None = Unit {0}
IsEntryLight most (Some a) = (weight a.source ≤ most) × (weight a.target ≤ most)

abbrev pub IsLight : ℕ → Typing → Type 0
IsLight most [] = Unit {0}
IsLight most (a ∷ ts) = IsEntryLight most a × IsLight most ts

-- the typing table on trees, where the witnesses have these types
pub data IsTyped (ws : List Kind) : Term → Kind → Kind → Type 0 where
  TypedIden : (a : Kind) → IsTyped ws term.Iden a a
  TypedUnit : (a : Kind) → IsTyped ws term.UnitTerm a One
  TypedInjl : (t : Term) (a b c : Kind) → IsTyped ws t a b → IsTyped ws (term.Injl t) a (Sum b c)
  TypedInjr : (t : Term) (a b c : Kind) → IsTyped ws t a c → IsTyped ws (term.Injr t) a (Sum b c)
  TypedTake : (t : Term) (a b c : Kind) → IsTyped ws t a c → IsTyped ws (term.Take t) (Product a b) c
  TypedDrop : (t : Term) (a b c : Kind) → IsTyped ws t b c → IsTyped ws (term.Drop t) (Product a b) c
  TypedComp : (s t : Term) (a b c : Kind) → IsTyped ws s a b → IsTyped ws t b c → IsTyped ws (term.Comp s t) a c
  TypedCase : (s t : Term) (a b c d : Kind) → IsTyped ws s (Product a c) d → IsTyped ws t (Product b c) d → IsTyped ws (term.Case s t) (Product (Sum a b) c) d
  TypedAssertL : (s : Term) (h : List ℕ) (a b c d : Kind) → IsTyped ws s (Product a c) d → IsTyped ws (term.AssertL s h) (Product (Sum a b) c) d
  TypedAssertR : (h : List ℕ) (t : Term) (a b c d : Kind) → IsTyped ws t (Product b c) d → IsTyped ws (term.AssertR h t) (Product (Sum a b) c) d
  TypedPair : (s t : Term) (a b c : Kind) → IsTyped ws s a b → IsTyped ws t a c → IsTyped ws (term.PairTerm s t) a (Product b c)
  TypedFail : (e : List ℕ) (a b : Kind) → IsTyped ws (term.Fail e) a b
  TypedWitness : (n : ℕ) (a b : Kind) → slice_get ws n ≡ Some b → IsTyped ws (term.Witness n) a b
  TypedWord : (k n : ℕ) → IsTyped ws (term.Word k n) One (word_kind k)
