-- Arrows by ids, and the arrows that they mean.
use Rattle.std.proofs.Common.{◌≡◌, refl, ap, sym, subst, ◌∙◌, ℕ, zero, suc, ◌+◌, ◌<◌, ◌≤◌, List, [], ◌∷◌, length, Option, Some, None, arith}
use Rattle.std.specs.Prelude.{slice_get}
use Rattle.simplicity.specs.Types.{Kind}
use Rattle.simplicity.specs.Typing.{Arrow, source_of, target_of}
use Rattle.type_table.specs.Kinds.{IsDistinct}
use Rattle.infer_cells.specs.Typings.{arrow_in, IsBelowBound, AreBelowBound}
use Rattle.infer_cells.specs.declared.typing.NodeArrow.{NodeArrow}
use Rattle.sharing.proofs.Merging.{within_of}
use Rattle.share_order.specs.Told.{AreTold}
use Rattle.share_order.proofs.Classing.{at_or_before}

pub bound_of : (n : ℕ) (ids : List (Option NodeArrow)) (i : ℕ) (a : Option NodeArrow) → AreBelowBound n ids → slice_get ids i ≡ Some a → IsBelowBound n a
bound_of n [] i a h e = absurd (cc)
bound_of n (b ∷ ids) zero a h e = let same : b ≡ a = cc in subst (IsBelowBound n) same h.0
bound_of n (b ∷ ids) (suc i) a h e = bound_of n ids i a h.1 e

pub bound_by : (n : ℕ) (ids : List (Option NodeArrow)) → ((i : ℕ) (a : Option NodeArrow) → slice_get ids i ≡ Some a → IsBelowBound n a) → AreBelowBound n ids
bound_by n [] on = tt
bound_by n (a ∷ ids) on = (on 0 a refl, bound_by n ids (λ i b e. on (suc i) b e))

arrow_told : (kinds : List Kind) (a b : Option NodeArrow) → IsDistinct kinds → IsBelowBound (length kinds) a → IsBelowBound (length kinds) b → arrow_in kinds a ≡ arrow_in kinds b → a ≡ b
arrow_told kinds None None d l m e = refl
arrow_told kinds None (Some b) d l m e = absurd (cc)
arrow_told kinds (Some a) None d l m e = absurd (cc)
arrow_told kinds (Some a) (Some b) d l m e =
    let from : a.source ≡ b.source = d.same a.source b.source l.0 m.0 (ap (λ (o : Option Arrow). source_of (Some o)) e) in
    let to : a.target ≡ b.target = d.same a.target b.target l.1 m.1 (ap (λ (o : Option Arrow). target_of (Some o)) e) in
    ap (λ (x : ℕ). Some (record { source = x; target = a.target })) from ∙ ap (λ (x : ℕ). Some (record { source = b.source; target = x })) to

pub told : (kinds : List Kind) (ids : List (Option NodeArrow)) → IsDistinct kinds → AreBelowBound (length kinds) ids → AreTold kinds ids
told kinds ids d h = record { same = λ i j a b a_is b_is e. arrow_told kinds a b d (bound_of (length kinds) ids i a h a_is) (bound_of (length kinds) ids j b h b_is) e }

-- where there are none, none are to be told apart
pub record NoneYet (k : ℕ) (ids : List (Option NodeArrow)) : Type 0 where
  pub each : (i : ℕ) (a : Option NodeArrow) → i < k → slice_get ids i ≡ Some a → a ≡ None

pub none_next : (k : ℕ) (ids : List (Option NodeArrow)) (a : Option NodeArrow) → NoneYet k ids → slice_get ids k ≡ Some a → a ≡ None → NoneYet (k + 1) ids
none_next k ids a before is none = record {
  each = λ i b l b_is.
      at_or_before i k (omega (arith, l))
      (λ m. before.each i b m b_is)
      (λ e. let same : Some a ≡ Some b = sym is ∙ ap (slice_get ids) (sym e) ∙ b_is in let one : a ≡ b = cc in sym one ∙ none);
}

pub none_told : (kinds : List Kind) (ids : List (Option NodeArrow)) (k : ℕ) → length ids ≤ k → NoneYet k ids → AreTold kinds ids
none_told kinds ids k l none = record {
  same = λ i j a b a_is b_is e.
      let inside = within_of ids i a a_is in
      let other = within_of ids j b b_is in
      none.each i a (omega arith) a_is ∙ sym (none.each j b (omega arith) b_is);
}
