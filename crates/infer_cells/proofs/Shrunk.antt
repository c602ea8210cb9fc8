-- A list under lower types, by way of its tree.
use Rattle.std.proofs.Common.{◌≡◌, refl, ap, sym, ◌∙◌, subst, ℕ, zero, suc, ◌-◌, List, [], ◌∷◌, length, Option, Some, None, slice_get}
use Rattle.simplicity.specs.Types.{Kind, One, Sum, Product, Value, UnitValue, Inl, Inr, Pair, IsOf, AreOf, IsBelow, shrink, shrink_all}
use Rattle.simplicity.specs.Terms.{Answer, meaning}
use Rattle.simplicity.specs.Nodes.{Node, IsPlaced, IsShown, HasRoot, tree_of}
use Rattle.simplicity.specs.Nodes as node
use Rattle.simplicity.specs.Typing.{Typing, Arrow, HasArrow, IsTyping, IsTypingAt, IsTypingBelow, EntryMeets, EntriesMeet, IsLeast, arrow_of, root_arrow, witness_targets}
use Rattle.simplicity.specs.Laws.{ShrinkKeeps, MeaningKeeps, TreesAreTyped, IsAnswerOf}
use Rattle.infer_cells.specs.Shrunk.{shrunk, Lowered, FitsTyping, ShrinkLaw}
use Rattle.infer_cells.proofs.Shrinking.{shrunk_meaning}

-- a shown node of a typed list has an arrow
entry_shown : (ts : Typing) (n : Node) (e : Option Arrow) → EntryMeets ts n e → IsShown (Some n) → e ≡ Some (arrow_of (Some e))
entry_shown ts n (Some a) meets shown = refl
entry_shown ts (node.Hidden h) None meets shown = elim shown [ ]
entry_shown ts n None meets shown = elim meets [ ]

arrow_shown : (ts : Typing) (ns : List Node) (es : Typing) (i : ℕ) → EntriesMeet ts ns es → IsShown (slice_get ns i) →
    slice_get es i ≡ Some (Some (arrow_of (slice_get es i)))
arrow_shown ts [] es i h shown = elim shown [ ]
arrow_shown ts (n ∷ ns) [] i h shown = elim h [ ]
arrow_shown ts (n ∷ ns) (e ∷ es) zero h shown = ap Some (entry_shown ts n e h.0 shown)
arrow_shown ts (n ∷ ns) (e ∷ es) (suc i) h shown = arrow_shown ts ns es i h.1 shown

-- the arrow that a typed list's root has
root_has : (ns : List Node) (ts : Typing) → HasRoot ns → IsTyping ns ts → HasArrow ts (length ns - 1) (root_arrow ns ts).source (root_arrow ns ts).target
root_has ns ts rooted typed = arrow_shown ts ns ts (length ns - 1) typed rooted.0

-- types at or below, at a place and at the witness nodes
below_at : (low high : Typing) (i : ℕ) → IsTypingBelow low high → IsBelow (arrow_of (slice_get low i)).source (arrow_of (slice_get high i)).source
below_at [] [] i below = tt
below_at [] (b ∷ high) i below = elim below [ ]
below_at (a ∷ low) [] i below = elim below [ ]
below_at (None ∷ low) (b ∷ high) zero below = tt
below_at (Some a ∷ low) (None ∷ high) zero below = elim below.0 [ ]
below_at (Some a ∷ low) (Some b ∷ high) zero below = below.0.0
below_at (a ∷ low) (b ∷ high) (suc i) below = below_at low high i below.1

-- each type at or below the one at its place
AreBelow : List Kind → List Kind → Type 0
AreBelow [] [] = Unit {0}
AreBelow (k ∷ ks) (l ∷ ls) = IsBelow k l × AreBelow ks ls
AreBelow _ _ = ⊥

shrunk_all : ShrinkKeeps → (ks ls : List Kind) (w : List Value) → AreBelow ks ls → AreOf w ls → AreOf (shrink_all w ks) ks
unfolding AreBelow
shrunk_all keeps [] [] [] below are = tt
shrunk_all keeps [] [] (v ∷ w) below are = elim are [ ]
shrunk_all keeps [] (l ∷ ls) w below are = elim below [ ]
shrunk_all keeps (k ∷ ks) [] w below are = elim below [ ]
shrunk_all keeps (k ∷ ks) (l ∷ ls) [] below are = elim are [ ]
shrunk_all keeps (k ∷ ks) (l ∷ ls) (v ∷ w) below are = (keeps k l v are.0 below.0, shrunk_all keeps ks ls w below.1 are.1)

targets_below : (ts : Typing) (ns : List Node) (low high : Typing) → EntriesMeet ts ns low → IsTypingBelow low high → AreBelow (witness_targets ns low) (witness_targets ns high)
unfolding AreBelow
targets_below ts [] low high typed below = tt
targets_below ts (n ∷ ns) [] high typed below = elim typed [ ]
targets_below ts (n ∷ ns) (a ∷ low) [] typed below = elim below [ ]
targets_below ts (node.Witness ∷ ns) (None ∷ low) (b ∷ high) typed below = elim typed.0 [ ]
targets_below ts (node.Witness ∷ ns) (Some a ∷ low) (None ∷ high) typed below = elim below.0 [ ]
targets_below ts (node.Witness ∷ ns) (Some a ∷ low) (Some b ∷ high) typed below = (below.0.1, targets_below ts ns low high typed.1 below.1)
targets_below ts (n ∷ ns) (a ∷ low) (b ∷ high) typed below = targets_below ts ns low high typed.1 below.1

module _ (typed : TreesAreTyped) (keeps : ShrinkKeeps) (ns : List Node) (low high : Typing) (w : List Value) (v : Value) (lowered : Lowered ns low high) where
  lower_gives : meaning (tree_of ns) (shrink_all w (witness_targets ns low)) (shrink v (root_arrow ns low).source) ≡ shrunk (meaning (tree_of ns) w v) (root_arrow ns low).target
  lower_gives =
      shrunk_meaning (witness_targets ns low) w (tree_of ns) (root_arrow ns low).source (root_arrow ns low).target v
      (typed ns low (length ns - 1) (root_arrow ns low).source (root_arrow ns low).target lowered.placed lowered.low_typed (root_has ns low lowered.rooted lowered.low_typed))

  lower_fits : FitsTyping ns high w v → FitsTyping ns low (shrink_all w (witness_targets ns low)) (shrink v (root_arrow ns low).source)
  lower_fits fits = record {
    witnesses = shrunk_all keeps (witness_targets ns low) (witness_targets ns high) w (targets_below low ns low high lowered.low_typed lowered.below) fits.witnesses;
    input = keeps (root_arrow ns low).source (root_arrow ns high).source v fits.input (below_at low high (length ns - 1) lowered.below);
  }

pub shrink_law : TreesAreTyped → ShrinkKeeps → ShrinkLaw
shrink_law typed keeps = record {
  gives = lower_gives typed keeps;
  fits = lower_fits typed keeps;
}

-- shrinking a value to its own type leaves it
shrink_self : (k : Kind) (v : Value) → IsOf v k → shrink v k ≡ v
shrink_self One UnitValue h = refl
shrink_self One (Inl u) h = elim h [ ]
shrink_self One (Inr v) h = elim h [ ]
shrink_self One (Pair u v) h = elim h [ ]
shrink_self (Sum a b) UnitValue h = elim h [ ]
shrink_self (Sum a b) (Inl u) h = ap Inl (shrink_self a u h)
shrink_self (Sum a b) (Inr v) h = ap Inr (shrink_self b v h)
shrink_self (Sum a b) (Pair u v) h = elim h [ ]
shrink_self (Product a b) UnitValue h = elim h [ ]
shrink_self (Product a b) (Inl u) h = elim h [ ]
shrink_self (Product a b) (Inr v) h = elim h [ ]
shrink_self (Product a b) (Pair u v) h =
    let left = shrink_self a u h.0 in
    let right = shrink_self b v h.1 in
    cc

shrunk_self : (x : Answer) (k : Kind) → IsAnswerOf x k → shrunk x k ≡ x
shrunk_self None k is = refl
shrunk_self (Some v) k is = ap Some (shrink_self k v is)

-- the law at equal root arrows
module _ (typed : TreesAreTyped) (keeps : ShrinkKeeps) (answers : MeaningKeeps) (ns : List Node) (root : Arrow) (least ts : Typing) (w : List Value) (v : Value)
    (placed : IsPlaced ns) (rooted : HasRoot ns) (is_least : IsLeast ns root least) (typing : IsTypingAt ns root ts) (fits : FitsTyping ns ts w v) where
  low_root : root_arrow ns least ≡ root
  low_root = ap arrow_of is_least.typing.rooted

  high_root : root_arrow ns ts ≡ root
  high_root = ap arrow_of typing.rooted

  lowered : Lowered ns least ts
  lowered = record { placed = placed; rooted = rooted; low_typed = is_least.typing.typed; high_typed = typing.typed; below = is_least.least ts typing }

  input_of : IsOf v root.source
  input_of = let P : Arrow → Type 0 = λ a. IsOf v a.source in subst P high_root fits.input

  tree_answers : IsAnswerOf (meaning (tree_of ns) w v) root.target
  tree_answers =
      answers (witness_targets ns ts) w (tree_of ns) root.source root.target v fits.witnesses
      (typed ns ts (length ns - 1) root.source root.target placed typing.typed typing.rooted) input_of

  pub same_result : meaning (tree_of ns) (shrink_all w (witness_targets ns least)) v ≡ meaning (tree_of ns) w v
  same_result =
      let given : Value → Answer = meaning (tree_of ns) (shrink_all w (witness_targets ns least)) in
      let input : shrink v (root_arrow ns least).source ≡ v = ap (λ a. shrink v a.source) low_root ∙ shrink_self root.source v input_of in
      ap given (sym input) ∙ lower_gives typed keeps ns least ts w v lowered ∙ ap (λ a. shrunk (meaning (tree_of ns) w v) a.target) low_root
      ∙ shrunk_self (meaning (tree_of ns) w v) root.target tree_answers
