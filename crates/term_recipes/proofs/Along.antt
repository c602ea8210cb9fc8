-- Paths cut into two, and the types along them.
use Rattle.std.proofs.Common.{◌≡◌, ℕ, zero, suc, ◌+◌, ◌<◌, List, [], ◌∷◌, ◌++◌, length, map, take, drop, get_or, refl, sym, ap, ◌∙◌, arith}
use Rattle.std.proofs.lemmas.List.{map-append, take-append-drop}
use Rattle.scope_layout.specs.declared.path.Step as code
use Rattle.layout_laws.specs.Scopes.{step_of}
use Rattle.hl_terms.specs.Paths.{Step, ToFirst, ToSecond, path_term}
use Rattle.simplicity.specs.Canon.{Declared}
use Rattle.simplicity.specs.Makes.{iden}
use Rattle.simplicity.specs.Types.{Kind}
use Rattle.type_table.specs.Kinds.{kind_at, Means, IsGrown}
use Rattle.type_table.proofs.Growth.{grown_through}
use Rattle.term_recipes.specs.Shapes.{along, end_of, part_at, on_part}

pub path_is : (k : Kind) (ss : List Step) → path_term k ss ≡ along k ss (iden (end_of k ss))
path_is k [] = refl
path_is k (ToFirst ∷ ss) = ap (on_part k ToFirst) (path_is (part_at k ToFirst) ss)
path_is k (ToSecond ∷ ss) = ap (on_part k ToSecond) (path_is (part_at k ToSecond) ss)

pub along_append : (k : Kind) (ss rest : List Step) (t : Declared) → along k (ss ++ rest) t ≡ along k ss (along (end_of k ss) rest t)
along_append k [] rest t = refl
along_append k (s ∷ ss) rest t = ap (on_part k s) (along_append (part_at k s) ss rest t)

-- a type in a table that grew, from which the steps that are left lead to the end
pub record Led (old new : List Kind) (kind : ℕ) (left : List Step) (end : Kind) : Type 0 where
  pub grown : IsGrown old new
  pub within : kind < length new
  pub is : end_of (kind_at new kind) left ≡ end

pub led_on : (old middle new : List Kind) (kind next : ℕ) (s : Step) (left : List Step) (end : Kind) → Led old middle kind (s ∷ left) end → IsGrown middle new →
    Means new next (part_at (kind_at middle kind) s) → Led old new next left end
led_on old middle new kind next s left end h g m = record {
  grown = grown_through old middle new h.grown g;
  within = m.within;
  is = ap (λ k. end_of k left) m.is ∙ h.is;
}

-- steps that are cut into two, over a term that stays
pub along_halves : (k end : Kind) (ss front back : List code.Step) (n : ℕ) (t : Declared) → front ≡ take n ss → back ≡ drop n ss → end ≡ end_of k (map step_of front) →
    along k (map step_of ss) t ≡ along k (map step_of front) (along end (map step_of back) t)
along_halves k end ss front back n t front_is back_is end_is =
    ap (λ l. along k (map step_of l) t) (sym (take-append-drop n ss) ∙ ap (λ l. l ++ drop n ss) (sym front_is) ∙ ap (λ l. front ++ l) (sym back_is))
    ∙ ap (λ l. along k l t) (map-append step_of front back)
    ∙ along_append k (map step_of front) (map step_of back) t
    ∙ ap (λ e. along k (map step_of front) (along e (map step_of back) t)) (sym end_is)

pub steps_next : (ss : List code.Step) (i : ℕ) (d : code.Step) → i < length ss → drop i (map step_of ss) ≡ step_of (get_or ss i d) ∷ drop (i + 1) (map step_of ss)
steps_next [] i d h = absurd (omega arith)
steps_next (s ∷ ss) zero d h = refl
steps_next (s ∷ ss) (suc i) d h = let e : suc i + 1 ≡ suc (i + 1) = omega arith in rw e (steps_next ss i d (omega arith))
