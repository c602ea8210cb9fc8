-- The arrows of rows are a typing of their list.
use Rattle.std.proofs.Common.{◌≡◌, ℕ, ◌<◌, List, [], ◌∷◌, ◌++◌, refl, ap, ◌∙◌, Option, Some, None, slice_get}
use Rattle.std.specs.Prelude.{replicate}
use Rattle.simplicity.specs.Types.{Kind, Product}
use Rattle.simplicity.specs.Nodes.{Node, AreUnder}
use Rattle.simplicity.specs.Typing as typing
use Rattle.simplicity.specs.Typing.{Arrow, arrow, Typing, Meets, EntryMeets, EntriesMeet, IsTyping}
use Rattle.simplicity.specs.Canon.{Declared}
use Rattle.simplicity.specs.Arrows as row
use Rattle.simplicity.specs.Arrows.{declared_arrow, MeetsRow, IsTypedTerm}
use Rattle.simplicity.specs.Widths.{level_of}
use Rattle.term_core.specs.declared.table_node.Node.{Node as RowNode}
use Rattle.term_core.specs.declared.table_node.Node.TheVariants as code
use Rattle.term_core.specs.Terms.{child_ids, term_of, node_term}
use Rattle.infer_cells.specs.declared.typing.NodeArrow.{NodeArrow}
use Rattle.infer_cells.specs.Typings.{typing_in}
use Rattle.row_lists.specs.Rows.{listed, hidden_nodes, hidden_arrows, SideAt}
use Rattle.row_lists.proofs.Meaning.{arrow_means}
use Rattle.row_lists.proofs.Steps.{get_more}

-- the arrow of a row's term is the row's
pub own_arrow : (n : RowNode) (ts : List Declared) (a : Arrow) → declared_arrow (node_term ts n a) ≡ a
own_arrow code.Iden ts a = refl
own_arrow code.Unit ts a = refl
own_arrow (code.Injl i) ts a = refl
own_arrow (code.Injr i) ts a = refl
own_arrow (code.Take i) ts a = refl
own_arrow (code.Drop i) ts a = refl
own_arrow (code.Comp i j) ts a = refl
own_arrow (code.Case i j) ts a = refl
own_arrow (code.Pair i j) ts a = refl
own_arrow (code.AssertL i b) ts a = refl
own_arrow (code.AssertR b i) ts a = refl
own_arrow code.Fail ts a = refl
own_arrow (code.Witness n) ts a = refl
own_arrow (code.Word w) ts a = refl

-- a typed term meets the typing table at its root
pub root_meets : (n : RowNode) (ts : List Declared) (a : Arrow) → IsTypedTerm (node_term ts n a) → MeetsRow (node_term ts n a)
root_meets code.Iden ts a typed = typed
root_meets code.Unit ts a typed = typed
root_meets (code.Injl i) ts a typed = typed.0
root_meets (code.Injr i) ts a typed = typed.0
root_meets (code.Take i) ts a typed = typed.0
root_meets (code.Drop i) ts a typed = typed.0
root_meets (code.Comp i j) ts a typed = typed.0
root_meets (code.Case i j) ts a typed = typed.0
root_meets (code.Pair i j) ts a typed = typed.0
root_meets (code.AssertL i b) ts a typed = typed.0
root_meets (code.AssertR b i) ts a typed = typed.0
root_meets code.Fail ts a typed = typed
root_meets (code.Witness n) ts a typed = typed
root_meets (code.Word w) ts a typed = typed

-- a node meets an arrow in a longer typing too
meets_more : (ts us : Typing) (n : Node) (a b : Kind) → Meets ts n a b → Meets (ts ++ us) n a b
meets_more ts us _ _ _ (typing.Iden a) = typing.Iden a
meets_more ts us _ _ _ (typing.UnitNode a) = typing.UnitNode a
meets_more ts us _ _ _ (typing.Injl t a b c h) = typing.Injl t a b c (get_more ts us t (Some (arrow a b)) h)
meets_more ts us _ _ _ (typing.Injr t a b c h) = typing.Injr t a b c (get_more ts us t (Some (arrow a c)) h)
meets_more ts us _ _ _ (typing.Take t a b c h) = typing.Take t a b c (get_more ts us t (Some (arrow a c)) h)
meets_more ts us _ _ _ (typing.Drop t a b c h) = typing.Drop t a b c (get_more ts us t (Some (arrow b c)) h)
meets_more ts us _ _ _ (typing.Comp s t a b c h g) = typing.Comp s t a b c (get_more ts us s (Some (arrow a b)) h) (get_more ts us t (Some (arrow b c)) g)
meets_more ts us _ _ _ (typing.Case s t a b c d h g) = typing.Case s t a b c d (get_more ts us s (Some (arrow (Product a c) d)) h) (get_more ts us t (Some (arrow (Product b c) d)) g)
meets_more ts us _ _ _ (typing.AssertL s t a b c d h g) = typing.AssertL s t a b c d (get_more ts us s (Some (arrow (Product a c) d)) h) (get_more ts us t None g)
meets_more ts us _ _ _ (typing.AssertR s t a b c d h g) = typing.AssertR s t a b c d (get_more ts us s None h) (get_more ts us t (Some (arrow (Product b c) d)) g)
meets_more ts us _ _ _ (typing.Pair s t a b c h g) = typing.Pair s t a b c (get_more ts us s (Some (arrow a b)) h) (get_more ts us t (Some (arrow a c)) g)
meets_more ts us _ _ _ (typing.Fail e a b) = typing.Fail e a b
meets_more ts us _ _ _ (typing.Witness a b) = typing.Witness a b
meets_more ts us _ _ _ (typing.Word k n) = typing.Word k n

entry_more : (ts us : Typing) (n : Node) (e : Option Arrow) → EntryMeets ts n e → EntryMeets (ts ++ us) n e
entry_more ts us n None h = h
entry_more ts us n (Some a) h = meets_more ts us n a.source a.target h

entries_more : (ts us : Typing) (ns : List Node) (es : Typing) → EntriesMeet ts ns es → EntriesMeet (ts ++ us) ns es
entries_more ts us [] [] h = h
entries_more ts us [] (e ∷ es) h = h
entries_more ts us (n ∷ ns) [] h = h
entries_more ts us (n ∷ ns) (e ∷ es) h = (entry_more ts us n e h.0, entries_more ts us ns es h.1)

entries_both : (ts : Typing) (ns ms : List Node) (es fs : Typing) → EntriesMeet ts ns es → EntriesMeet ts ms fs → EntriesMeet ts (ns ++ ms) (es ++ fs)
entries_both ts [] ms [] fs h g = g
entries_both ts [] ms (e ∷ es) fs h g = absurd h
entries_both ts (n ∷ ns) ms [] fs h g = absurd h
entries_both ts (n ∷ ns) ms (e ∷ es) fs h g = (h.0, entries_both ts ns ms es fs h.1 g)

-- nodes that go to the end of a typed list
pub typed_on : (ns ms : List Node) (ts us : Typing) → IsTyping ns ts → EntriesMeet (ts ++ us) ms us → IsTyping (ns ++ ms) (ts ++ us)
typed_on ns ms ts us h g = entries_both (ts ++ us) ns ms ts us (entries_more ts us ns ts h) g

-- the node of a row meets the row's arrow, where its children have theirs
module _ (ts : List Declared) (us : Typing) (place : ℕ → ℕ) (id : ℕ) (has : (i : ℕ) → i < id → slice_get us (place i) ≡ Some (Some (declared_arrow (term_of ts i)))) where
  child : (i : ℕ) (a : Arrow) → i < id → declared_arrow (term_of ts i) ≡ a → slice_get us (place i) ≡ Some (Some a)
  child i a l e = has i l ∙ ap (λ (x : Arrow). Some (Some x)) e

  abbrev pub NoArrowAt : ℕ → RowNode → Type 0
  NoArrowAt hidden (code.AssertL i b) = slice_get us hidden ≡ Some None
  NoArrowAt hidden (code.AssertR b i) = slice_get us hidden ≡ Some None
  NoArrowAt hidden _ = Unit {0}

  pub row_meets : (n : RowNode) (a : Arrow) (hidden : ℕ) → AreUnder id (child_ids n) → MeetsRow (node_term ts n a) → NoArrowAt hidden n → Meets us (listed place hidden n) a.source a.target
  row_meets code.Iden _ hidden under (row.Iden a) side = typing.Iden a
  row_meets code.Unit _ hidden under (row.UnitTerm a) side = typing.UnitNode a
  row_meets (code.Injl i) _ hidden under (row.Injl t a b c e) side = typing.Injl (place i) a b c (child i (arrow a b) under.0 e)
  row_meets (code.Injr i) _ hidden under (row.Injr t a b c e) side = typing.Injr (place i) a b c (child i (arrow a c) under.0 e)
  row_meets (code.Take i) _ hidden under (row.Take t a b c e) side = typing.Take (place i) a b c (child i (arrow a c) under.0 e)
  row_meets (code.Drop i) _ hidden under (row.Drop t a b c e) side = typing.Drop (place i) a b c (child i (arrow b c) under.0 e)
  row_meets (code.Comp i j) _ hidden under (row.Comp s t a b c e f) side = typing.Comp (place i) (place j) a b c (child i (arrow a b) under.0 e) (child j (arrow b c) under.1.0 f)
  row_meets (code.Case i j) _ hidden under (row.Case s t a b c d e f) side =
      typing.Case (place i) (place j) a b c d (child i (arrow (Product a c) d) under.0 e) (child j (arrow (Product b c) d) under.1.0 f)
  row_meets (code.Pair i j) _ hidden under (row.Pair s t a b c e f) side = typing.Pair (place i) (place j) a b c (child i (arrow a b) under.0 e) (child j (arrow a c) under.1.0 f)
  row_meets (code.AssertL i h) _ hidden under (row.AssertL s b a k c d e) side = typing.AssertL (place i) hidden a k c d (child i (arrow (Product a c) d) under.0 e) side
  row_meets (code.AssertR h i) _ hidden under (row.AssertR b t a k c d e) side = typing.AssertR hidden (place i) a k c d side (child i (arrow (Product k c) d) under.0 e)
  row_meets code.Fail _ hidden under (row.Fail e a b) side = typing.Fail (replicate 64 0) a b
  row_meets (code.Witness n) _ hidden under (row.Witness m a b) side = typing.Witness a b
  row_meets (code.Word w) _ hidden under (row.Word k m) side = typing.Word (level_of w.width) w.number

-- a hidden side has no arrow
pub hidden_meets : (n : RowNode) (kinds : List Kind) (us : Typing) → EntriesMeet us (hidden_nodes n) (typing_in kinds (hidden_arrows n))
hidden_meets code.Iden kinds us = tt
hidden_meets code.Unit kinds us = tt
hidden_meets (code.Injl i) kinds us = tt
hidden_meets (code.Injr i) kinds us = tt
hidden_meets (code.Take i) kinds us = tt
hidden_meets (code.Drop i) kinds us = tt
hidden_meets (code.Comp i j) kinds us = tt
hidden_meets (code.Case i j) kinds us = tt
hidden_meets (code.Pair i j) kinds us = tt
hidden_meets (code.AssertL i b) kinds us = (tt, tt)
hidden_meets (code.AssertR b i) kinds us = (tt, tt)
hidden_meets code.Fail kinds us = tt
hidden_meets (code.Witness n) kinds us = tt
hidden_meets (code.Word w) kinds us = tt

pub side_none : (n : RowNode) (kinds : List Kind) (ts : List Declared) (us : Typing) (place : ℕ → ℕ) (id : ℕ) (has : (i : ℕ) → i < id → slice_get us (place i) ≡ Some (Some (declared_arrow (term_of ts i))))
    (ns : List Node) (arrows : List (Option NodeArrow)) (hidden : ℕ) → us ≡ typing_in kinds arrows → SideAt ns arrows hidden n → NoArrowAt ts us place id has hidden n
side_none code.Iden kinds ts us place id has ns arrows hidden is side = tt
side_none code.Unit kinds ts us place id has ns arrows hidden is side = tt
side_none (code.Injl i) kinds ts us place id has ns arrows hidden is side = tt
side_none (code.Injr i) kinds ts us place id has ns arrows hidden is side = tt
side_none (code.Take i) kinds ts us place id has ns arrows hidden is side = tt
side_none (code.Drop i) kinds ts us place id has ns arrows hidden is side = tt
side_none (code.Comp i j) kinds ts us place id has ns arrows hidden is side = tt
side_none (code.Case i j) kinds ts us place id has ns arrows hidden is side = tt
side_none (code.Pair i j) kinds ts us place id has ns arrows hidden is side = tt
side_none (code.AssertL i b) kinds ts us place id has ns arrows hidden is side = ap (λ (xs : Typing). slice_get xs hidden) is ∙ arrow_means kinds arrows hidden None side.1
side_none (code.AssertR b i) kinds ts us place id has ns arrows hidden is side = ap (λ (xs : Typing). slice_get xs hidden) is ∙ arrow_means kinds arrows hidden None side.1
side_none code.Fail kinds ts us place id has ns arrows hidden is side = tt
side_none (code.Witness n) kinds ts us place id has ns arrows hidden is side = tt
side_none (code.Word w) kinds ts us place id has ns arrows hidden is side = tt
