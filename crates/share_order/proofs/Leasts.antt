-- The least old place of each new one, found in one pass.
use Rattle.std.proofs.Common.{◌≡◌, ap, sym, subst, ◌∙◌, ℕ, ◌+◌, ◌<◌, ◌≤◌, min, List, length, set, get_or, replicate, Some, inl, inr, arith}
use Rattle.std.specs.Prelude.{slice_get, ◌⊎◌}
use Rattle.std.proofs.lemmas.List.{get_or-set_same, get_or-set_other, length-set, length-replicate, get_or-replicate}
use Rattle.std.proofs.lemmas.Option.{get_or_from_slice_get}
use Rattle.std.proofs.lemmas.Bool.{cases_eq}
use Rattle.sharing.proofs.Merging.{within_of, there_at}
use Rattle.sharing.proofs.Merged.{Split, Less, More, split}
use Rattle.share_order.specs.Least.{Went, AreLeast}
use Rattle.share_order.proofs.Classing.{at_or_before}

-- among the first of them an old place went to a new one, or none did yet
pub data SoFar (old new : List ℕ) (k bound to from : ℕ) : Type 0 where
  Not : from ≡ bound → SoFar old new k bound to from
  At : (index : ℕ) → index < k → slice_get old index ≡ Some from → slice_get new index ≡ Some to → SoFar old new k bound to from

pub record LeastSoFar (old new : List ℕ) (k count bound : ℕ) (places : List ℕ) : Type 0 where
  pub long : length places ≡ count
  pub went : (to : ℕ) → to < count → SoFar old new k bound to (get_or places to 0)
  pub least : (index from to : ℕ) → index < k → slice_get old index ≡ Some from → slice_get new index ≡ Some to → get_or places to 0 ≤ from

pub least_none : (old new : List ℕ) (count bound : ℕ) → LeastSoFar old new 0 count bound (replicate count bound)
least_none old new count bound = record {
  long = length-replicate count bound;
  went = λ to l. Not (get_or-replicate count to bound 0 l);
  least = λ index from to l. absurd (omega arith);
}

later : (old new : List ℕ) (k bound to from : ℕ) → SoFar old new k bound to from → SoFar old new (k + 1) bound to from
later old new k bound to from (Not e) = Not e
later old new k bound to from (At index l a b) = At index (omega (arith, l)) a b

data Smaller (a b : ℕ) : ℕ → Type 0 where
  First : a ≤ b → Smaller a b a
  Second : b ≤ a → Smaller a b b

smaller_by : (a b c : ℕ) → c ≡ min a b → Split a b → Smaller a b c
smaller_by a b c e (Less l) = let same : a ≡ c = omega (arith, e, l) in subst (Smaller a b) same (First (omega (arith, l)))
smaller_by a b c e (More l) = let same : b ≡ c = omega (arith, e, l) in subst (Smaller a b) same (Second l)

module _ (old new : List ℕ) (k count bound : ℕ) (places : List ℕ) (before : LeastSoFar old new k count bound places) (o p v : ℕ) (o_is : slice_get old k ≡ Some o)
    (p_is : slice_get new k ≡ Some p) (p_within : p < count) (v_is : v ≡ min (get_or places p 0) o) where
  here : get_or (set places p v) p 0 ≡ v
  here = let c = before.long in get_or-set_same places p v 0 (omega (arith, c, p_within))

  went_by : (c : ℕ) → Smaller (get_or places p 0) o c → SoFar old new (k + 1) bound p c
  went_by _ (First l) = later old new k bound p (get_or places p 0) (before.went p p_within)
  went_by _ (Second l) = At k (omega arith) o_is p_is

  went_next : (to : ℕ) → to < count → (to ≡ p) ⊎ (to ≡ p → ⊥) → SoFar old new (k + 1) bound to (get_or (set places p v) to 0)
  went_next to l (inl e) =
      subst (λ (x : ℕ). SoFar old new (k + 1) bound x (get_or (set places p v) x 0)) (sym e)
      (subst (SoFar old new (k + 1) bound p) (sym here) (went_by v (smaller_by (get_or places p 0) o v v_is (split (get_or places p 0) o))))
  went_next to l (inr apart) =
      subst (SoFar old new (k + 1) bound to) (sym (get_or-set_other places p to v 0 apart)) (later old new k bound to (get_or places to 0) (before.went to l))

  least_by : (index from to : ℕ) → get_or places to 0 ≤ from → (to ≡ p) ⊎ (to ≡ p → ⊥) → get_or (set places p v) to 0 ≤ from
  least_by index from to l (inl e) =
      let at : get_or (set places p v) to 0 ≡ v = ap (λ (x : ℕ). get_or (set places p v) x 0) e ∙ here in
      let was : get_or places to 0 ≡ get_or places p 0 = ap (λ (x : ℕ). get_or places x 0) e in
      omega (arith, at, was, l, v_is)
  least_by index from to l (inr apart) = let at = get_or-set_other places p to v 0 apart in omega (arith, at, l)

  pub least_next : LeastSoFar old new (k + 1) count bound (set places p v)
  least_next = record {
    long = length-set places p v ∙ before.long;
    went = λ to l. went_next to l (cases_eq to p);
    least = λ index from to l from_is to_is.
        at_or_before index k (omega (arith, l))
        (λ m. least_by index from to (before.least index from to m from_is to_is) (cases_eq to p))
        (λ e.
        let from_same : Some from ≡ Some o = sym from_is ∙ ap (slice_get old) e ∙ o_is in
        let to_same : Some to ≡ Some p = sym to_is ∙ ap (slice_get new) e ∙ p_is in
        let f : from ≡ o = cc in
        let t : to ≡ p = cc in
        let at : get_or (set places p v) to 0 ≡ v = ap (λ (x : ℕ). get_or (set places p v) x 0) t ∙ here in
        omega (arith, at, f, v_is));
  }

went_of : (old new : List ℕ) (k bound to from : ℕ) → (from ≡ bound → ⊥) → SoFar old new k bound to from → Went old new from to
went_of old new k bound to from none (Not e) = absurd (none e)
went_of old new k bound to from none (At index l a b) = record { index = index; from_there = a; to_there = b }

pub least_all : (old new : List ℕ) (k count bound : ℕ) (places : List ℕ) → LeastSoFar old new k count bound places → length old ≤ k → length new ≡ length old →
    ((i j : ℕ) → slice_get old i ≡ Some j → j < bound) → ((j : ℕ) → j < count → (i : ℕ) × (slice_get new i ≡ Some j)) → AreLeast old new count places
least_all old new k count bound places all past many within onto = record {
  long = all.long;
  went = λ to from is.
      let c = all.long in
      let l = within_of places to from is in
      let at = get_or_from_slice_get places to from 0 is in
      let index = onto to (omega (arith, c, l)) in
      let inside = within_of new index.0 to index.1 in
      let other = there_at old index.0 (omega (arith, inside, many)) in
      let low = all.least index.0 other.0 to (omega (arith, inside, many, past)) other.1 index.1 in
      let few = within index.0 other.0 other.1 in
      went_of old new k bound to from (λ e. absurd (omega (arith, at, low, few, e))) (subst (SoFar old new k bound to) at (all.went to (omega (arith, c, l))));
  least = λ to from other is went.
      let at = get_or_from_slice_get places to from 0 is in
      let inside = within_of old went.index other went.from_there in
      let low = all.least went.index other to (omega (arith, inside, past)) went.from_there went.to_there in
      omega (arith, at, low);
}
