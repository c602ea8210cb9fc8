-- What the terms of loops mean, the recursions over what their functions mean, and their arrows.
use Rattle.std.specs.Prelude.{◌≡◌, ℕ, suc, ◌-◌, ◌/◌, ◌<◌, List, length, Some}
use Rattle.simplicity.specs.Arrows.{IsTypedFrom}
use Rattle.simplicity.specs.Canon.{Declared, erased}
use Rattle.simplicity.specs.Loops.{core_folded, core_ran}
use Rattle.simplicity.specs.Terms.{Answer, meaning}
use Rattle.simplicity.specs.Tuples.{tuple_value, copies_kind}
use Rattle.simplicity.specs.Types.{Kind, Sum, Product, Value, Pair, word_kind, word_value, word_count}
use Rattle.simplicityhl.specs.Kinds.{list_kind}
use Rattle.hl_meaning.specs.Values.{list_value}
use Rattle.loop_laws.specs.Trees.{in_turn, array_fold, list_fold, while_at}

-- what a function's term gives on an item and what was made before
abbrev pub on_items : List Value → Declared → Value → Value → Answer
on_items w f item made = meaning (erased f) w (Pair item made)

-- a fold over the tuple of so many items, whatever its function's term is
abbrev pub ArraysFold : Type 0
ArraysFold = (w : List Value) (f : Declared) (vs : List Value) (a : Value) →
    meaning (erased (array_fold f (length vs))) w (Pair (tuple_value vs) a) ≡ core_folded (on_items w f) vs a

-- more than one item: the first half, rounded down, and then the rest
abbrev pub ArraysHalve : Type 0
ArraysHalve = (f : Declared) (count : ℕ) → 1 < count → array_fold f count ≡ in_turn (array_fold f (count / 2)) (array_fold f (count - count / 2))

-- a fold over a list of fewer than 2 ^ (level + 1) items
abbrev pub ListsFold : Type 0
ListsFold = (w : List Value) (f : Declared) (level : ℕ) (vs : List Value) (c a : Value) → list_value level vs ≡ Some c →
    meaning (erased (list_fold f level)) w (Pair c a) ≡ core_folded (on_items w f) vs a

-- what a function's term gives at a count of 2 ^ k bits
abbrev pub at_count : List Value → Declared → ℕ → Value → ℕ → Value → Answer
at_count w f k context n made = meaning (erased f) w (Pair made (Pair context (word_value k n)))

-- a turn for each count, on what the turn before gave as Right; the last turn's answer is the loop's
abbrev pub WhilesRun : Type 0
WhilesRun = (w : List Value) (k : ℕ) (f : Declared) (context a : Value) (more : ℕ) → suc more ≡ word_count k →
    meaning (erased (while_at k f)) w (Pair a context) ≡ core_ran (at_count w f k context) more 0 a

-- folds are typed at every place, from the type of the items and what is made to the type of what is made
abbrev pub FoldsTyped : Type 0
FoldsTyped = (f : Declared) (item made : Kind) → IsTypedFrom f (Product item made) made →
    ((count : ℕ) → IsTypedFrom (array_fold f count) (Product (copies_kind count item) made) made)
    × ((level : ℕ) → IsTypedFrom (list_fold f level) (Product (list_kind level item) made) made)

-- and loops with a counter are, from what is made and the context to the type of a turn's answer
abbrev pub WhilesTyped : Type 0
WhilesTyped = (k : ℕ) (f : Declared) (made context end : Kind) → IsTypedFrom f (Product made (Product context (word_kind k))) (Sum end made) →
    IsTypedFrom (while_at k f) (Product made context) (Sum end made)
