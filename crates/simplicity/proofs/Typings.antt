-- A typing of a list, entry by entry.
use Rattle.std.proofs.Common.{◌≡◌, refl, ap, ◌∙◌, ℕ, zero, suc, List, [], ◌∷◌, length, Option, Some, None, arith}
use Rattle.std.specs.Prelude.{slice_get}
use Rattle.simplicity.specs.Types.{Kind}
use Rattle.simplicity.specs.Nodes.{Node, IsShown, IsHidden}
use Rattle.simplicity.specs.Nodes as node
use Rattle.simplicity.specs.Typing.{Typing, Arrow, HasArrow, HasNoArrow, Meets, EntryMeets, EntriesMeet}

-- a typing has an entry for each node
pub typing_length : (ts : Typing) (ns : List Node) (es : Typing) → EntriesMeet ts ns es → length es ≡ length ns
typing_length ts [] [] h = refl
typing_length ts [] (e ∷ es) h = elim h [ ]
typing_length ts (n ∷ ns) [] h = elim h [ ]
typing_length ts (n ∷ ns) (e ∷ es) h = ap suc (typing_length ts ns es h.1)

-- the entry of a node
pub entry_at : (ts : Typing) (ns : List Node) (es : Typing) (i : ℕ) (n : Node) (e : Option Arrow) → EntriesMeet ts ns es → slice_get ns i ≡ Some n →
    slice_get es i ≡ Some e → EntryMeets ts n e
entry_at ts [] es i n f h is has = absurd (cc)
entry_at ts (m ∷ ns) [] i n f h is has = elim h [ ]
entry_at ts (m ∷ ns) (e ∷ es) zero n f h is has =
    let same_node : m ≡ n = cc in
    let same_entry : e ≡ f = cc in
    rw (← same_node, ← same_entry) h.0
entry_at ts (m ∷ ns) (e ∷ es) (suc i) n f h is has = entry_at ts ns es i n f h.1 is has

-- a node whose entry is an arrow meets it
pub meets_at : (ts : Typing) (ns : List Node) (i : ℕ) (n : Node) (a b : Kind) → EntriesMeet ts ns ts → slice_get ns i ≡ Some n →
    HasArrow ts i a b → Meets ts n a b
meets_at ts ns i n a b h is has = entry_at ts ns ts i n (Some (record { source = a; target = b })) h is has

-- the entry of a hidden node is none
pub hidden_meets : (ts : Typing) (h : List ℕ) (e : Option Arrow) → EntryMeets ts (node.Hidden h) e → e ≡ None
hidden_meets ts h None meets = refl
hidden_meets ts h (Some a) meets = elim meets [ ]

-- there is an entry at each node
pub some_entry : (ts : Typing) (ns : List Node) (es : Typing) (i : ℕ) (n : Node) → EntriesMeet ts ns es → slice_get ns i ≡ Some n →
    (e : Option Arrow) × (slice_get es i ≡ Some e)
some_entry ts [] es i n h is = absurd (cc)
some_entry ts (m ∷ ns) [] i n h is = elim h [ ]
some_entry ts (m ∷ ns) (e ∷ es) zero n h is = (e, refl)
some_entry ts (m ∷ ns) (e ∷ es) (suc i) n h is = some_entry ts ns es i n h.1 is

-- a list has these elements from an index on
abbrev pub HasFrom : {A : Type 0} → List A → ℕ → List A → Type 0
HasFrom xs k [] = Unit {0}
HasFrom xs k (y ∷ ys) = (slice_get xs k ≡ Some y) × HasFrom xs (suc k) ys

has_from_rest : {A : Type 0} (x : A) (xs : List A) (k : ℕ) (ys : List A) → HasFrom (x ∷ xs) (suc k) ys → HasFrom xs k ys
has_from_rest x xs k [] h = tt
has_from_rest x xs k (y ∷ ys) h = (h.0, has_from_rest x xs (suc k) ys h.1)

-- a list that has these elements, and no more, is the list of them
pub same_list : {A : Type 0} (xs ys : List A) → length xs ≡ length ys → HasFrom xs 0 ys → xs ≡ ys
same_list [] [] e h = refl
same_list [] (y ∷ ys) e h = absurd (omega arith)
same_list (x ∷ xs) [] e h = absurd (omega arith)
same_list (x ∷ xs) (y ∷ ys) e h =
    let front : x ≡ y = cc in
    let rest : xs ≡ ys = same_list xs ys (omega arith) (has_from_rest x xs 0 ys h.1) in
    cc

-- a hidden node of a typed list has no arrow
pub hidden_at : (ts : Typing) (ns : List Node) (i : ℕ) (h : List ℕ) → EntriesMeet ts ns ts → slice_get ns i ≡ Some (node.Hidden h) → HasNoArrow ts i
hidden_at ts ns i h typed is =
    let entry = some_entry ts ns ts i (node.Hidden h) typed is in
    let none : entry.0 ≡ None = hidden_meets ts h entry.0 (entry_at ts ns ts i (node.Hidden h) entry.0 typed is entry.1) in
    entry.1 ∙ ap Some none

-- there is a node at each entry
pub some_node : (ts : Typing) (ns : List Node) (es : Typing) (i : ℕ) (e : Option Arrow) → EntriesMeet ts ns es → slice_get es i ≡ Some e →
    (n : Node) × (slice_get ns i ≡ Some n)
some_node ts ns [] i e h is = absurd (cc)
some_node ts [] (f ∷ es) i e h is = elim h [ ]
some_node ts (n ∷ ns) (f ∷ es) zero e h is = (n, refl)
some_node ts (n ∷ ns) (f ∷ es) (suc i) e h is = some_node ts ns es i e h.1 is
