-- What holds of a table after a row was found again or added.
use Rattle.std.proofs.Common.{◌≡◌, ℕ, ◌⊎◌, inl, inr, List, [], ◌∷◌, ◌++◌, length, slice_get, Some, Result, Ok, refl, sym, ap, ◌∙◌, subst}
use Rattle.std.specs.declared.alloc.AllocError.{AllocError}
use Rattle.std.proofs.lemmas.List.{length-map, map-append}
use Rattle.simplicity.specs.Types.{Kind}
use Rattle.term_core.specs.declared.keyed.KeyedRow.{KeyedRow}
use Rattle.term_core.specs.declared.table_node.TermRow.{TermRow}
use Rattle.term_core.specs.Rows.{IsFoundAt, IsNew, AreDistinct}
use Rattle.term_core.specs.Keys.{rows_of, IsKeyed}
use Rattle.term_core.specs.Terms.{terms, row_term, MayFollow, StandsOver, MeansTerm, KeepsRows}
use Rattle.term_core.proofs.Growth.{kept_self, kept_on, stands_on, means_last, means_there}
use Rattle.term_core.proofs.Keys.{Found, Added, distinct_on, last_at}

pub record AfterAdd (kinds : List Kind) (old new : List TermRow) (row : TermRow) (id : ℕ) : Type 0 where
  pub means : MeansTerm kinds new id (row_term kinds (terms kinds old) row)
  pub at : slice_get new id ≡ Some row
  pub found : (i : ℕ) → IsFoundAt old i row → (◌≡◌ {A = Result ℕ AllocError} (Ok id) (Ok i)) × (new ≡ old)
  pub added : IsNew old row → (id ≡ length old) × (new ≡ old ++ row ∷ [])
  pub kept : KeepsRows old new
  pub stands : StandsOver kinds new
  pub distinct : AreDistinct new

module _ (kinds : List Kind) (old : List TermRow) (row : TermRow) (id : ℕ) (stands : StandsOver kinds old) (distinct : AreDistinct old) where
  after_found : IsFoundAt old id row → AfterAdd kinds old old row id
  after_found there = record {
    means = means_there kinds old id row stands there.at;
    at = there.at;
    found = λ i other. (ap Ok (distinct.same id i row there other), refl);
    added = λ absent. absurd (absent id there);
    kept = kept_self old;
    stands = stands;
    distinct = distinct;
  }

  after_added : MayFollow kinds (terms kinds old) row → IsNew old row → id ≡ length old → AfterAdd kinds old (old ++ row ∷ []) row id
  after_added follows absent at = record {
    means = means_last kinds old row id at;
    at = ap (slice_get (old ++ row ∷ [])) at ∙ last_at old row;
    found = λ i other. absurd (absent i other);
    added = λ _. (at, refl);
    kept = kept_on old row;
    stands = stands_on kinds old row stands follows;
    distinct = distinct_on old row distinct absent;
  }

-- the same of a table that is seen as its rows
module _ (kinds : List Kind) (keys new : List KeyedRow) (old : List TermRow) (key : KeyedRow) (id : ℕ) (seen : rows_of keys ≡ old) (keyed : IsKeyed keys) where
  after_key : StandsOver kinds old → MayFollow kinds (terms kinds old) key.row → Found keys new key id ⊎ Added keys new key id → AfterAdd kinds old (rows_of new) key.row id
  after_key stands follows (inl found) =
      let P : List TermRow → Type 0 = λ rows. AfterAdd kinds old rows key.row id in
      let At : List TermRow → Type 0 = λ rows. IsFoundAt rows id key.row in
      subst P (sym (ap rows_of found.is ∙ seen)) (after_found kinds old key.row id stands (subst AreDistinct seen keyed.distinct) (subst At seen found.at))
  after_key stands follows (inr added) =
      let P : List TermRow → Type 0 = λ rows. AfterAdd kinds old rows key.row id in
      let New : List TermRow → Type 0 = λ rows. IsNew rows key.row in
      let is = ap rows_of added.is ∙ map-append (λ (k : KeyedRow). k.row) keys (key ∷ []) ∙ ap (λ rows. rows ++ key.row ∷ []) seen in
      let at = added.at ∙ sym (length-map keys (λ (k : KeyedRow). k.row)) ∙ ap length seen in
      subst P (sym is) (after_added kinds old key.row id stands (subst AreDistinct seen keyed.distinct) follows (subst New seen added.absent) at)

  pub after_add : (row : TermRow) → key.row ≡ row → StandsOver kinds old → MayFollow kinds (terms kinds old) row → Found keys new key id ⊎ Added keys new key id → AfterAdd kinds old (rows_of new) row id
  after_add row is stands follows outcome =
      let P : TermRow → Type 0 = λ r. AfterAdd kinds old (rows_of new) r id in
      let May : TermRow → Type 0 = MayFollow kinds (terms kinds old) in
      subst P is (after_key stands (subst May (sym is) follows) outcome)

  -- where no key is equal
  pub nowhere : (row : TermRow) → key.row ≡ row → IsNew (rows_of keys) key.row → IsNew old row
  nowhere row is absent =
      let P : TermRow → Type 0 = IsNew old in
      let New : List TermRow → Type 0 = λ rows. IsNew rows key.row in
      subst P is (subst New seen absent)
