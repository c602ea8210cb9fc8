-- Linking a cell to one of a lower number.
use Rattle.std.proofs.Common.{◌≡◌, ℕ, ◌+◌, ◌<◌, true, cond, List, ◌∷◌, ◌++◌, length, Some, None, slice_get, get_or, ap, sym, subst, ◌∙◌, arith, length-append}
use Rattle.std.proofs.Math.ListN.{set, length-set}
use Rattle.std.proofs.lemmas.List.Sums.{sum_by-set}
use Rattle.std.proofs.lemmas.Option.{get_or_from_slice_get, slice_get_within}
use Rattle.std.specs.List.{count_by}
use Rattle.simplicity.specs.Types.{Kind}
use Rattle.infer_cells.specs.declared.cell.Cell.{Cell}
use Rattle.infer_cells.specs.declared.cell.Cell.TheVariants as cell
use Rattle.infer_cells.specs.declared.cell.Equation.{Equation}
use Rattle.infer_cells.specs.Cells.{Assignment, Fits, FitFrom, AreEqual, SameSolutions, NoSolution, IsPlacedCell, PlacedFrom, ArePlaced, AreWithin, is_root, load, RootPair}
use Rattle.infer_cells.specs.Merged.{merged, merged_parts, equation}
use Rattle.infer_cells.proofs.Fitting.{fit_here, fit_set, fit_unset, get_set_same, get_set_other, placed_here, placed_set, equal_append, equal_split, within_append}
use Rattle.infer_cells.proofs.Merges.{merge_forth, merge_back, merge_none, merge_placed, merge_root, parts_within, parts_few}

-- the cells once the second links to the first, which holds the content
abbrev pub linked : List Cell → ℕ → ℕ → Cell → List Cell
linked cells low high e = set (set cells low e) high (cell.Link low)

set_count : (cells : List Cell) (i : ℕ) (c d : Cell) → slice_get cells i ≡ Some d → count_by is_root (set cells i c) + cond (is_root d) 1 0 ≡ count_by is_root cells + cond (is_root c) 1 0
set_count cells i c d is =
    let there : get_or cells i d ≡ d = get_or_from_slice_get cells i d d is in
    let within = slice_get_within cells i d is in
    ap (λ x. count_by is_root (set cells i c) + cond (is_root x) 1 0) (sym there) ∙ sum_by-set (λ x. cond (is_root x) 1 0) cells i c d within

module _ (cells : List Cell) (low high : ℕ) (c d e : Cell) (pair : RootPair cells low high c d) where
  apart : ¬ (low ≡ high)
  apart same = absurd (omega (arith, pair.order))

  -- the types that go with both go with their content
  moved : (f : Assignment) → f low ≡ f high → Fits f (f high) d → Fits f (f low) d
  moved f same h = let P : Kind → Type 0 = λ x. Fits f x d in subst P (sym same) h

  forth : (f : Assignment) → merged c d ≡ Some e → FitFrom f 0 cells → f low ≡ f high → FitFrom f 0 (linked cells low high e) × AreEqual f (merged_parts c d)
  forth f is h same =
      let both = merge_forth f (f low) c d e is (fit_here f cells low c h pair.first) (moved f same (fit_here f cells high d h pair.second)) in
      let zero_low : low ≡ 0 + low = omega arith in
      let zero_high : high ≡ 0 + high = omega arith in
      let P : ℕ → Type 0 = λ i. Fits f (f i) e in
      let Q : ℕ → Type 0 = λ i. f i ≡ f low in
      (fit_set f 0 (set cells low e) high (cell.Link low) (fit_set f 0 cells low e h (subst P zero_low both.0)) (subst Q zero_high (sym same)), both.1)

  at_high : slice_get (set cells low e) high ≡ Some d
  at_high = get_set_other cells low high e apart ∙ pair.second

  at_low : slice_get (linked cells low high e) low ≡ Some e
  at_low = get_set_other (set cells low e) high low (cell.Link low) (λ s. apart (sym s)) ∙ get_set_same cells low e c pair.first

  back : (f : Assignment) → merged c d ≡ Some e → FitFrom f 0 (linked cells low high e) → AreEqual f (merged_parts c d) → FitFrom f 0 cells × (f low ≡ f high)
  back f is h parts =
      let same : f high ≡ f low = fit_here f (linked cells low high e) high (cell.Link low) h (get_set_same (set cells low e) high (cell.Link low) d at_high) in
      let both = merge_back f (f low) c d e is (fit_here f (linked cells low high e) low e h at_low) parts in
      let zero_low : low ≡ 0 + low = omega arith in
      let zero_high : high ≡ 0 + high = omega arith in
      let P : ℕ → Type 0 = λ i. Fits f (f i) c in
      let Q : ℕ → Type 0 = λ i. Fits f (f i) d in
      let R : Kind → Type 0 = λ x. Fits f x d in
      let once = fit_unset f 0 (set cells low e) high (cell.Link low) d at_high h (subst Q zero_high (subst R (sym same) both.1)) in
      (fit_unset f 0 cells low e c pair.first once (subst P zero_low both.0), sym same)

  pub link_same : (es : List Equation) → merged c d ≡ Some e → SameSolutions cells (equation low high ∷ es) (linked cells low high e) (es ++ merged_parts c d)
  link_same es is = record {
    forth = λ f s.
        let both = forth f is s.fits s.equal.0 in
        record { fits = both.0; equal = equal_append f es (merged_parts c d) s.equal.1 both.1 };
    back = λ f s.
        let rest = equal_split f es (merged_parts c d) s.equal in
        let both = back f is s.fits rest.1 in
        record { fits = both.0; equal = (both.1, rest.0) };
  }

  pub link_none : (es : List Equation) → merged c d ≡ None → NoSolution cells (equation low high ∷ es)
  link_none es is = record {
    none = λ f s.
        merge_none f (f low) c d pair.first_root pair.second_root is (fit_here f cells low c s.fits pair.first)
        (moved f s.equal.0 (fit_here f cells high d s.fits pair.second));
  }

  pub link_length : length (linked cells low high e) ≡ length cells
  link_length = length-set (set cells low e) high (cell.Link low) ∙ length-set cells low e

  pub link_placed : merged c d ≡ Some e → ArePlaced cells → ArePlaced (linked cells low high e)
  link_placed is placed =
      let content : IsPlacedCell (length cells) low e = merge_placed (length cells) low high c d e pair.second_root is (placed_here cells low c placed pair.first) (placed_here cells high d placed pair.second) in
      let zero_low : low ≡ 0 + low = omega arith in
      let less : low < 0 + high = omega (arith, pair.order) in
      let P : ℕ → Type 0 = λ i. IsPlacedCell (length cells) i e in
      let Q : ℕ → Type 0 = λ n. PlacedFrom n 0 (linked cells low high e) in
      record { each = subst Q (sym link_length) (placed_set (length cells) 0 (set cells low e) high (cell.Link low) (placed_set (length cells) 0 cells low e placed.each (subst P zero_low content)) less) }

  pub link_within : (es : List Equation) → ArePlaced cells → AreWithin (length cells) es → AreWithin (length (linked cells low high e)) (es ++ merged_parts c d)
  link_within es placed within =
      let P : ℕ → Type 0 = λ n. AreWithin n (es ++ merged_parts c d) in
      subst P (sym link_length)
      (within_append (length cells) es (merged_parts c d) within (parts_within (length cells) low high c d (placed_here cells low c placed pair.first) (placed_here cells high d placed pair.second)))

  pub link_less : (es : List Equation) → merged c d ≡ Some e → load (linked cells low high e) (es ++ merged_parts c d) < 1 + load cells es
  link_less es is =
      let r : is_root e ≡ true = merge_root c d e pair.second_root is in
      let one = set_count cells low e c pair.first in
      let two = set_count (set cells low e) high (cell.Link low) d at_high in
      let one' : count_by is_root (set cells low e) + 1 ≡ count_by is_root cells + 1 = rw (pair.first_root, r) at one in
      let two' : count_by is_root (linked cells low high e) + 1 ≡ count_by is_root (set cells low e) + 0 = rw pair.second_root at two in
      omega (arith, one', two', length-append es (merged_parts c d), parts_few c d)
