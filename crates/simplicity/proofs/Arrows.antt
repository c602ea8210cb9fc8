-- Each way to make a term keeps to the typing table where the types of its parts go together, and what keeps to it at every place is typed as a tree.
use Rattle.std.proofs.Common.{◌≡◌, ℕ, List, refl, sym, ap, ◌∙◌, subst}
use Rattle.simplicity.specs.Types.{Kind, Product}
use Rattle.simplicity.specs.Terms as bare
use Rattle.simplicity.specs.Typing.{Arrow, arrow, IsTyped}
use Rattle.simplicity.specs.Typing as tree
use Rattle.simplicity.specs.Canon.{Declared, erased}
use Rattle.simplicity.specs.Canon as term
use Rattle.simplicity.specs.Arrows.{declared_arrow, source, target, MeetsRow, IsTypedTerm, AreWitnesses}
use Rattle.simplicity.specs.Arrows as row
use Rattle.simplicity.specs.Makes.{comp, pair, on_first, on_second, to_left, to_right, by_tag, only_left, only_right, fail_root, zero_bytes}
use Rattle.simplicity.specs.TermLaws.{MadeIsTyped, PlacesAreTyped}

-- the arrow of a term whose source is known, and of one whose target is known too
pub starts : (t : Declared) (a : Kind) → source t ≡ a → declared_arrow t ≡ arrow a (target t)
starts t a e = ap (λ k. arrow k (target t)) e

pub goes : (t : Declared) (a b : Kind) → source t ≡ a → target t ≡ b → declared_arrow t ≡ arrow a b
goes t a b e f = ap (λ k. arrow k (target t)) e ∙ ap (arrow a) f

pub typed_comp : (s t : Declared) → IsTypedTerm s → IsTypedTerm t → target s ≡ source t → IsTypedTerm (comp s t)
typed_comp s t h k e = (row.Comp s t (source s) (target s) (target t) refl (starts t (target s) (sym e)), h, k)

pub typed_pair : (s t : Declared) → IsTypedTerm s → IsTypedTerm t → source t ≡ source s → IsTypedTerm (pair s t)
typed_pair s t h k e = (row.Pair s t (source s) (target s) (target t) refl (starts t (source s) e), h, k)

pub typed_first : (b : Kind) (t : Declared) → IsTypedTerm t → IsTypedTerm (on_first b t)
typed_first b t h = (row.Take t (source t) b (target t) refl, h)

pub typed_second : (a : Kind) (t : Declared) → IsTypedTerm t → IsTypedTerm (on_second a t)
typed_second a t h = (row.Drop t a (source t) (target t) refl, h)

pub typed_left : (b : Kind) (t : Declared) → IsTypedTerm t → IsTypedTerm (to_left b t)
typed_left b t h = (row.Injl t (source t) (target t) b refl, h)

pub typed_right : (a : Kind) (t : Declared) → IsTypedTerm t → IsTypedTerm (to_right a t)
typed_right a t h = (row.Injr t (source t) a (target t) refl, h)

pub typed_tag : (a b c : Kind) (s t : Declared) → IsTypedTerm s → IsTypedTerm t → source s ≡ Product a c → source t ≡ Product b c → target t ≡ target s →
    IsTypedTerm (by_tag a b c s t)
typed_tag a b c s t h k e f g = (row.Case s t a b c (target s) (starts s (Product a c) e) (goes t (Product b c) (target s) f g), h, k)

pub typed_only_left : (a b c : Kind) (s : Declared) → IsTypedTerm s → source s ≡ Product a c → IsTypedTerm (only_left a b c s)
typed_only_left a b c s h e = (row.AssertL s fail_root a b c (target s) (starts s (Product a c) e), h)

pub typed_only_right : (a b c : Kind) (t : Declared) → IsTypedTerm t → source t ≡ Product b c → IsTypedTerm (only_right a b c t)
typed_only_right a b c t h e = (row.AssertR fail_root t a b c (target t) (starts t (Product b c) e), h)

pub made_is_typed : MadeIsTyped
made_is_typed = record {
  iden = λ a. row.Iden a;
  unit = λ a. row.UnitTerm a;
  fail = λ a b. row.Fail zero_bytes a b;
  word = λ k n. row.Word k n;
  witness = λ a b n. row.Witness n a b;
  comp = typed_comp;
  pair = typed_pair;
  on_first = typed_first;
  on_second = typed_second;
  to_left = typed_left;
  to_right = typed_right;
  by_tag = typed_tag;
  only_left = typed_only_left;
  only_right = typed_only_right;
}

module _ (ws : List Kind) where
  -- a part by its arrow
  abbrev HasTree : Declared → Arrow → Type 0
  HasTree t a = IsTyped ws (erased t) a.source a.target

  at : (t : Declared) (a b : Kind) → declared_arrow t ≡ arrow a b → HasTree t (declared_arrow t) → IsTyped ws (erased t) a b
  at t a b e h = subst (λ (r : Arrow). IsTyped ws (erased t) r.source r.target) e h

  iden_tree : (a : Arrow) → MeetsRow (term.Iden a) → IsTyped ws bare.Iden a.source a.target
  iden_tree _ (row.Iden a) = tree.TypedIden a

  unit_tree : (a : Arrow) → MeetsRow (term.UnitTerm a) → IsTyped ws bare.UnitTerm a.source a.target
  unit_tree _ (row.UnitTerm a) = tree.TypedUnit a

  fail_tree : (a : Arrow) (e : List ℕ) → MeetsRow (term.Fail a e) → IsTyped ws (bare.Fail e) a.source a.target
  fail_tree _ _ (row.Fail e a b) = tree.TypedFail e a b

  word_tree : (a : Arrow) (k n : ℕ) → MeetsRow (term.Word a k n) → IsTyped ws (bare.Word k n) a.source a.target
  word_tree _ _ _ (row.Word k n) = tree.TypedWord k n

  injl_tree : (a : Arrow) (t : Declared) → MeetsRow (term.Injl a t) → HasTree t (declared_arrow t) → IsTyped ws (bare.Injl (erased t)) a.source a.target
  injl_tree _ _ (row.Injl t a b c e) h = tree.TypedInjl (erased t) a b c (at t a b e h)

  injr_tree : (a : Arrow) (t : Declared) → MeetsRow (term.Injr a t) → HasTree t (declared_arrow t) → IsTyped ws (bare.Injr (erased t)) a.source a.target
  injr_tree _ _ (row.Injr t a b c e) h = tree.TypedInjr (erased t) a b c (at t a c e h)

  take_tree : (a : Arrow) (t : Declared) → MeetsRow (term.Take a t) → HasTree t (declared_arrow t) → IsTyped ws (bare.Take (erased t)) a.source a.target
  take_tree _ _ (row.Take t a b c e) h = tree.TypedTake (erased t) a b c (at t a c e h)

  drop_tree : (a : Arrow) (t : Declared) → MeetsRow (term.Drop a t) → HasTree t (declared_arrow t) → IsTyped ws (bare.Drop (erased t)) a.source a.target
  drop_tree _ _ (row.Drop t a b c e) h = tree.TypedDrop (erased t) a b c (at t b c e h)

  comp_tree : (a : Arrow) (s t : Declared) → MeetsRow (term.Comp a s t) → HasTree s (declared_arrow s) → HasTree t (declared_arrow t) →
      IsTyped ws (bare.Comp (erased s) (erased t)) a.source a.target
  comp_tree _ _ _ (row.Comp s t a b c e f) h k = tree.TypedComp (erased s) (erased t) a b c (at s a b e h) (at t b c f k)

  pair_tree : (a : Arrow) (s t : Declared) → MeetsRow (term.PairTerm a s t) → HasTree s (declared_arrow s) → HasTree t (declared_arrow t) →
      IsTyped ws (bare.PairTerm (erased s) (erased t)) a.source a.target
  pair_tree _ _ _ (row.Pair s t a b c e f) h k = tree.TypedPair (erased s) (erased t) a b c (at s a b e h) (at t a c f k)

  case_tree : (a : Arrow) (s t : Declared) → MeetsRow (term.Case a s t) → HasTree s (declared_arrow s) → HasTree t (declared_arrow t) →
      IsTyped ws (bare.Case (erased s) (erased t)) a.source a.target
  case_tree _ _ _ (row.Case s t a b c d e f) h k =
      tree.TypedCase (erased s) (erased t) a b c d (at s (Product a c) d e h) (at t (Product b c) d f k)

  assertl_tree : (a : Arrow) (s : Declared) (h : List ℕ) → MeetsRow (term.AssertL a s h) → HasTree s (declared_arrow s) →
      IsTyped ws (bare.AssertL (erased s) h) a.source a.target
  assertl_tree _ _ _ (row.AssertL s h a b c d e) k = tree.TypedAssertL (erased s) h a b c d (at s (Product a c) d e k)

  assertr_tree : (a : Arrow) (h : List ℕ) (t : Declared) → MeetsRow (term.AssertR a h t) → HasTree t (declared_arrow t) →
      IsTyped ws (bare.AssertR h (erased t)) a.source a.target
  assertr_tree _ _ _ (row.AssertR h t a b c d e) k = tree.TypedAssertR h (erased t) a b c d (at t (Product b c) d e k)

  pub places_typed : (t : Declared) → IsTypedTerm t → AreWitnesses ws t → IsTyped ws (erased t) (source t) (target t)
  places_typed (term.Iden a) h g = iden_tree a h
  places_typed (term.UnitTerm a) h g = unit_tree a h
  places_typed (term.Fail a e) h g = fail_tree a e h
  places_typed (term.Word a k n) h g = word_tree a k n h
  places_typed (term.Witness a n) h g = tree.TypedWitness n a.source a.target g
  places_typed (term.Injl a t) h g = injl_tree a t h.0 (places_typed t h.1 g)
  places_typed (term.Injr a t) h g = injr_tree a t h.0 (places_typed t h.1 g)
  places_typed (term.Take a t) h g = take_tree a t h.0 (places_typed t h.1 g)
  places_typed (term.Drop a t) h g = drop_tree a t h.0 (places_typed t h.1 g)
  places_typed (term.Comp a s t) h g = comp_tree a s t h.0 (places_typed s h.1 g.0) (places_typed t h.2 g.1)
  places_typed (term.PairTerm a s t) h g = pair_tree a s t h.0 (places_typed s h.1 g.0) (places_typed t h.2 g.1)
  places_typed (term.Case a s t) h g = case_tree a s t h.0 (places_typed s h.1 g.0) (places_typed t h.2 g.1)
  places_typed (term.AssertL a s e) h g = assertl_tree a s e h.0 (places_typed s h.1 g)
  places_typed (term.AssertR a e t) h g = assertr_tree a e t h.0 (places_typed t h.1 g)

pub places_are_typed : PlacesAreTyped
places_are_typed ws t h g = places_typed ws t h g
