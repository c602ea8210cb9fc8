-- One equation after the other.
use Rattle.std.proofs.Common.{◌≡◌, ℕ, ◌+◌, ◌<◌, List, [], ◌∷◌, ◌++◌, length, Some, get_or, sym, ap, subst, ◌∙◌, arith, length-append}
use Rattle.std.proofs.lemmas.Option.{slice_get-get_or}
use Rattle.infer_cells.specs.declared.cell.Cell.{Cell}
use Rattle.infer_cells.specs.declared.cell.Cell.TheVariants as cell
use Rattle.infer_cells.specs.declared.cell.Equation.{Equation}
use Rattle.infer_cells.specs.declared.refusal.SolveRefusal.{SolveRefusal}
use Rattle.infer_cells.specs.declared.refusal.SolveRefusal.TheVariants as refusal
use Rattle.infer_cells.specs.Cells.{Assignment, FitFrom, SameSolutions, NoSolution, OnNoTyping, ArePlaced, AreWithin, load}
use Rattle.infer_cells.specs.Merged.{equation}
use Rattle.infer_cells.proofs.Fitting.{fit_here, placed_here, equal_append, equal_split, within_split}

pub follow_less : (cells : List Cell) (at next : ℕ) → ArePlaced cells → at < length cells → get_or cells at cell.Free ≡ cell.Link next → next < at
follow_less cells at next placed within is = placed_here cells at (cell.Link next) placed (slice_get-get_or cells at cell.Free within ∙ ap Some is)

pub follow_same : (cells : List Cell) (at next : ℕ) → at < length cells → get_or cells at cell.Free ≡ cell.Link next → (f : Assignment) → FitFrom f 0 cells → f at ≡ f next
follow_same cells at next within is f h = fit_here f cells at (cell.Link next) h (slice_get-get_or cells at cell.Free within ∙ ap Some is)

pub on_no_typing : (e : SolveRefusal) (P Q : Type 0) → (P → Q) → OnNoTyping e P → OnNoTyping e Q
on_no_typing refusal.NoTyping P Q f h = f h
on_no_typing refusal.OutOfMemory P Q f h = tt

pub same_self : (cells : List Cell) (es : List Equation) → SameSolutions cells es cells es
same_self cells es = record { forth = λ f s. s; back = λ f s. s }

pub same_through : (a b c : List Cell) (es fs gs : List Equation) → SameSolutions a es b fs → SameSolutions b fs c gs → SameSolutions a es c gs
same_through a b c es fs gs g h = record { forth = λ f s. h.forth f (g.forth f s); back = λ f s. g.back f (h.back f s) }

pub none_through : (a b : List Cell) (es fs : List Equation) → SameSolutions a es b fs → NoSolution b fs → NoSolution a es
none_through a b es fs g h = record { none = λ f s. h.none f (g.forth f s) }

-- the last equation as the first
pub last_first : (cells : List Cell) (es : List Equation) (e : Equation) → SameSolutions cells (es ++ e ∷ []) cells (e ∷ es)
last_first cells es e = record {
  forth = λ f s.
      let rest = equal_split f es (e ∷ []) s.equal in
      record { fits = s.fits; equal = (rest.1.0, rest.0) };
  back = λ f s. record { fits = s.fits; equal = equal_append f es (e ∷ []) s.equal.1 (s.equal.0, tt) };
}

pub within_last : (n : ℕ) (es : List Equation) (e : Equation) → AreWithin n (es ++ e ∷ []) → AreWithin n (e ∷ es)
within_last n es e h = let rest = within_split n es (e ∷ []) h in (rest.1.0, rest.1.1, rest.0)

-- equations between cells at the ends of links, in either order, are those between the cells that they begin at
module _ (cells : List Cell) (es : List Equation) (e : Equation) (left right : ℕ) (at_left : (f : Assignment) → FitFrom f 0 cells → f left ≡ f e.left)
    (at_right : (f : Assignment) → FitFrom f 0 cells → f right ≡ f e.right) where
  pub found_same : SameSolutions cells (e ∷ es) cells (equation left right ∷ es)
  found_same = record {
    forth = λ f s. record { fits = s.fits; equal = (at_left f s.fits ∙ s.equal.0 ∙ sym (at_right f s.fits), s.equal.1) };
    back = λ f s. record { fits = s.fits; equal = (sym (at_left f s.fits) ∙ s.equal.0 ∙ at_right f s.fits, s.equal.1) };
  }

  pub found_turned : SameSolutions cells (e ∷ es) cells (equation right left ∷ es)
  found_turned = record {
    forth = λ f s. record { fits = s.fits; equal = (at_right f s.fits ∙ sym s.equal.0 ∙ sym (at_left f s.fits), s.equal.1) };
    back = λ f s. record { fits = s.fits; equal = (sym (at_left f s.fits) ∙ sym s.equal.0 ∙ at_right f s.fits, s.equal.1) };
  }

  pub found_one : left ≡ right → SameSolutions cells (e ∷ es) cells es
  found_one same = record {
    forth = λ f s. record { fits = s.fits; equal = s.equal.1 };
    back = λ f s. record { fits = s.fits; equal = (sym (at_left f s.fits) ∙ ap f same ∙ at_right f s.fits, s.equal) };
  }

pub pop_less : (cells new : List Cell) (work es fs : List Equation) (e : Equation) → work ≡ es ++ e ∷ [] → load new fs < 1 + load cells es → load new fs < load cells work
pop_less cells new work es fs e is h = omega (arith, ap length is, length-append es (e ∷ []))

-- what is left to solve, with the last equation first
pub turned : (start cells : List Cell) (given work rest : List Equation) (e : Equation) → SameSolutions start given cells work → work ≡ rest ++ e ∷ [] → SameSolutions start given cells (e ∷ rest)
turned start cells given work rest e same is =
    let P : List Equation → Type 0 = λ es. SameSolutions start given cells es in
    same_through start cells cells given (rest ++ e ∷ []) (e ∷ rest) (subst P is same) (last_first cells rest e)
