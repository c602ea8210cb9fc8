-- Typings as lists, one entry at a time, and the least typing.
use Rattle.std.proofs.Common.{◌≡◌, ℕ, zero, suc, ◌+◌, ◌<◌, ◌≤◌, List, [], ◌∷◌, length, take, Option, Some, None, get_or, refl, ap, sym, subst, ◌∙◌, arith, add-one}
use Rattle.std.proofs.lemmas.Option.{slice_get-get_or}
use Rattle.simplicity.specs.Types.{Kind, IsBelow}
use Rattle.simplicity.specs.Nodes.{Node}
use Rattle.simplicity.specs.Typing.{Typing, Arrow, arrow, IsTypingBelow, IsLeast, IsLight, IsEntryLight, HasNoTyping}
use Rattle.type_table.specs.Kinds.{kind_at}
use Rattle.infer_cells.specs.declared.cell.Cell.{Cell}
use Rattle.infer_cells.specs.declared.cell.Place.{Place}
use Rattle.infer_cells.specs.declared.typing.NodeArrow.{NodeArrow}
use Rattle.infer_cells.specs.Cells.{Assignment, FitFrom, NoSolution}
use Rattle.infer_cells.specs.Emission.{entries, IsWithinPlace, ArePlacesWithin}
use Rattle.infer_cells.specs.Constrained.{AreConstrained}
use Rattle.infer_cells.specs.Ids.{id_arrows}
use Rattle.infer_cells.specs.Typings.{arrow_in, typing_in, IsBelowBound, AreBelowBound}
use Rattle.infer_cells.specs.Walk.{AreLeastIds, IsLeastId}
use Rattle.infer_cells.proofs.Leasts.{least_below, least_solves}

pub item_within : (n : ℕ) (ps : List (Option Place)) (i : ℕ) (d : Option Place) → ArePlacesWithin n ps → i < length ps → IsWithinPlace n (get_or ps i d)
item_within n [] i d h within = absurd (omega arith)
item_within n (q ∷ ps) zero d h within = h.0
item_within n (q ∷ ps) (suc i) d h within = item_within n ps i d h.1 (omega arith)

pub take_all : {A : Type 0} (xs : List A) (i : ℕ) → length xs ≤ i → take i xs ≡ xs
take_all [] zero h = refl
take_all [] (suc i) h = refl
take_all (x ∷ xs) zero h = absurd (omega arith)
take_all (x ∷ xs) (suc i) h = ap (λ rest. x ∷ rest) (take_all xs i (omega arith))

pub bound_at : (n : ℕ) (t : List (Option NodeArrow)) (i : ℕ) (d : Option NodeArrow) → AreBelowBound n t → i < length t → IsBelowBound n (get_or t i d)
bound_at n [] i d h within = absurd (omega arith)
bound_at n (b ∷ t) zero d h within = h.0
bound_at n (b ∷ t) (suc i) d h within = bound_at n t i d h.1 (omega arith)

light_suc : (most : ℕ) (kinds : List Kind) (t : List (Option NodeArrow)) (i : ℕ) (d : Option NodeArrow) → i < length t → IsLight most (typing_in kinds (take i t)) →
    IsEntryLight most (arrow_in kinds (get_or t i d)) → IsLight most (typing_in kinds (take (suc i) t))
light_suc most kinds [] i d within before last = absurd (omega arith)
light_suc most kinds (b ∷ t) zero d within before last = (last, tt)
light_suc most kinds (b ∷ t) (suc i) d within before last = (before.0, light_suc most kinds t i d (omega arith) before.1 last)

pub light_next : (most : ℕ) (kinds : List Kind) (t : List (Option NodeArrow)) (i : ℕ) (d : Option NodeArrow) → i < length t → IsLight most (typing_in kinds (take i t)) →
    IsEntryLight most (arrow_in kinds (get_or t i d)) → IsLight most (typing_in kinds (take (i + 1) t))
light_next most kinds t i d within before last = rw add-one (light_suc most kinds t i d within before last)

pub light_at : (most : ℕ) (kinds : List Kind) (t : List (Option NodeArrow)) (i : ℕ) (d : Option NodeArrow) → i < length t → IsLight most (typing_in kinds t) →
    IsEntryLight most (arrow_in kinds (get_or t i d))
light_at most kinds [] i d within light = absurd (omega arith)
light_at most kinds (b ∷ t) zero d within light = light.0
light_at most kinds (b ∷ t) (suc i) d within light = light_at most kinds t i d (omega arith) light.1

pub light_all : (most : ℕ) (kinds : List Kind) (t : List (Option NodeArrow)) (i : ℕ) → length t ≤ i → IsLight most (typing_in kinds (take i t)) → IsLight most (typing_in kinds t)
light_all most kinds t i past light = let P : List (Option NodeArrow) → Type 0 = λ xs. IsLight most (typing_in kinds xs) in subst P (take_all t i past) light

-- the ids of cells give the least typing
module _ (ns : List Node) (root : Arrow) (cells : List Cell) (ps : List (Option Place)) (kinds : List Kind) (ids : List ℕ) (constrained : AreConstrained ns root cells ps)
    (least : AreLeastIds cells kinds ids) where
  types : Assignment
  types i = kind_at kinds (get_or ids i 0)

  each : (i : ℕ) → i < length cells → IsLeastId cells kinds i (get_or ids i 0)
  each i within = least.each i (get_or ids i 0) (slice_get-get_or ids i 0 (omega (arith, least.count)))

  fits : FitFrom types 0 cells
  unfolding types
  fits = least_solves cells (λ i. kind_at kinds (get_or ids i 0)) constrained.placed (λ i within. (each i within).least)

  below : (f : Assignment) → FitFrom f 0 cells → (i : ℕ) → i < length cells → IsBelow (types i) (f i)
  unfolding types
  below f solves i within = least_below cells f solves i (kind_at kinds (get_or ids i 0)) (each i within).least

  entries_below : (f : Assignment) → FitFrom f 0 cells → (qs : List (Option Place)) → ArePlacesWithin (length cells) qs → IsTypingBelow (entries types qs) (entries f qs)
  entries_below f solves [] h = tt
  entries_below f solves (None ∷ qs) h = (tt, entries_below f solves qs h.1)
  entries_below f solves (Some p ∷ qs) h = ((below f solves p.source h.0.0, below f solves p.target h.0.1), entries_below f solves qs h.1)

  typing_is : (qs : List (Option Place)) → typing_in kinds (id_arrows ids qs) ≡ entries types qs
  unfolding types
  typing_is [] = refl
  typing_is (None ∷ qs) = ap (λ es. None ∷ es) (typing_is qs)
  typing_is (Some p ∷ qs) = ap (λ es. Some (arrow (kind_at kinds (get_or ids p.source 0)) (kind_at kinds (get_or ids p.target 0))) ∷ es) (typing_is qs)

  pub ids_least : (typing : List (Option NodeArrow)) → typing ≡ id_arrows ids ps → IsLeast ns root (typing_in kinds typing)
  ids_least typing made =
      let P : Typing → Type 0 = IsLeast ns root in
      let same : typing_in kinds typing ≡ entries types ps = ap (typing_in kinds) made ∙ typing_is ps in
      subst P (sym same)
      (record {
        typing = constrained.sound types fits;
        least = λ us at.
            let s = constrained.complete us at in
            let Q : Typing → Type 0 = IsTypingBelow (entries types ps) in
            subst Q s.gives (entries_below s.types s.fits ps constrained.within);
      })

  arrows_within : (qs : List (Option Place)) → ArePlacesWithin (length cells) qs → AreBelowBound (length kinds) (id_arrows ids qs)
  arrows_within [] h = tt
  arrows_within (None ∷ qs) h = (tt, arrows_within qs h.1)
  arrows_within (Some p ∷ qs) h = (((each p.source h.0.0).within, (each p.target h.0.1).within), arrows_within qs h.1)

  pub ids_within : (typing : List (Option NodeArrow)) → typing ≡ id_arrows ids ps → AreBelowBound (length kinds) typing
  ids_within typing made = let P : List (Option NodeArrow) → Type 0 = AreBelowBound (length kinds) in subst P (sym made) (arrows_within ps constrained.within)

pub places_by : (cells : List Cell) (kinds : List Kind) (ids : List ℕ) (ps : List (Option Place)) → AreLeastIds cells kinds ids → ArePlacesWithin (length cells) ps → ArePlacesWithin (length ids) ps
places_by cells kinds ids ps least within = let P : ℕ → Type 0 = λ n. ArePlacesWithin n ps in subst P (sym least.count) within

-- cells without a solution are of a list without a typing
pub no_typing : (ns : List Node) (root : Arrow) (cells : List Cell) (ps : List (Option Place)) → AreConstrained ns root cells ps → NoSolution cells [] → HasNoTyping ns root
no_typing ns root cells ps constrained none ts at = let s = constrained.complete ts at in none.none s.types (record { fits = s.fits; equal = tt })
