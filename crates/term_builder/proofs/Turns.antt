-- What a call of a builder leaves: terms in place of those that it took, and all else as before.
use Rattle.std.proofs.Common.{get_or, ◌≡◌, ℕ, zero, suc, ◌<◌, length, List, [], ◌∷◌, map, take, drop, reverse, Some, Result, Ok, Err, refl, sym, ap, ◌∙◌, subst, arith}
use Rattle.std.specs.Prelude.{OnOk, OnErr, slice_get}
use Rattle.std.specs.List.{All}
use Rattle.std.specs.declared.alloc.AllocError.{AllocError}
use Rattle.indexmap.proofs.ReorderLemmas.{map-reverse}
use Rattle.simplicity.specs.Arrows.{IsTypedTerm}
use Rattle.simplicity.specs.Canon.{Declared}
use Rattle.simplicity.specs.Types.{Kind, Product}
use Rattle.type_table.proofs.Growth as types
use Rattle.type_table.specs.Kinds.{kind_at, Means, IsGrown}
use Rattle.term_core.proofs.Growth.{kept_self, standing_stays, terms_stay}
use Rattle.term_core.specs.declared.table_node.TermRow.{TermRow}
use Rattle.term_core.specs.Terms.{term_at, StandsOver, MeansTerm, KeepsRows}
use Rattle.term_builder.proofs.Grown.{over, held_grown, held_put, state_put, state_over, wider, one_more}
use Rattle.term_builder.specs.State.{Held, IsHeld, State, state_of}
use Rattle.term_builder.specs.Steps.{entered, kept_at, with_made, on_last, on_last_two, on_last_three, on_last_many, IsLastTyped}

pub on_ok : {A P Q : Type 0} (r : Result A AllocError) → (P → Q) → OnOk r P → OnOk r Q
on_ok (Ok _) f h = f h
on_ok (Err _) f h = tt

-- The terms that are taken.

module _ (at : ℕ → Declared) where
  pub one : (f : Declared → Declared) (ids : List ℕ) (v : ℕ) → ids ≡ v ∷ drop 1 ids → f (at v) ∷ drop 1 (map at ids) ≡ on_last f (map at ids)
  one f [] v e = absurd (cc)
  one f (x ∷ xs) v e = let same : v ≡ x = cc in ap (λ i. f (at i) ∷ map at xs) same

  pub two : (f : Declared → Declared → Declared) (ids : List ℕ) (v w : ℕ) → ids ≡ w ∷ drop 1 ids → slice_get ids 1 ≡ Some v → f (at v) (at w) ∷ drop 2 (map at ids) ≡ on_last_two f (map at ids)
  two f [] v w e h = absurd (cc)
  two f (x ∷ []) v w e h = absurd (cc)
  two f (x ∷ y ∷ xs) v w e h = let same : w ≡ x = cc in let next : v ≡ y = cc in ap (λ i. f (at i) (at w) ∷ map at xs) next ∙ ap (λ i. f (at y) (at i) ∷ map at xs) same

  pub three : (f : Declared → Declared → Declared → Declared) (ids : List ℕ) (u v w : ℕ) → ids ≡ w ∷ drop 1 ids → slice_get ids 1 ≡ Some v → slice_get ids 2 ≡ Some u →
      f (at u) (at v) (at w) ∷ drop 3 (map at ids) ≡ on_last_three f (map at ids)
  three f [] u v w e h i = absurd (cc)
  three f (x ∷ []) u v w e h i = absurd (cc)
  three f (x ∷ y ∷ []) u v w e h i = absurd (cc)
  three f (x ∷ y ∷ z ∷ xs) u v w e h i =
      let same : w ≡ x = cc in let next : v ≡ y = cc in let third : u ≡ z = cc in
      ap (λ k. f (at k) (at v) (at w) ∷ map at xs) third ∙ ap (λ k. f (at z) (at k) (at w) ∷ map at xs) next ∙ ap (λ k. f (at z) (at y) (at k) ∷ map at xs) same

  map_take : (n : ℕ) (ids : List ℕ) → map at (take n ids) ≡ take n (map at ids)
  map_take zero ids = refl
  map_take (suc n) [] = refl
  map_take (suc n) (x ∷ xs) = ap (λ l. at x ∷ l) (map_take n xs)

  pub many : (f : List Declared → Declared) (ids : List ℕ) (n : ℕ) (parts : List ℕ) → parts ≡ reverse (take n ids) → f (map at parts) ∷ drop n (map at ids) ≡ on_last_many n f (map at ids)
  many f ids n parts e = ap (λ l. f l ∷ drop n (map at ids)) (ap (map at) e ∙ map-reverse at (take n ids) ∙ ap reverse (map_take n ids))

-- After ids of types were made, and after a row was added.

module _ (h : Held) (held : IsHeld h) (now : Held) (view : h ≡ now) (k1 : List Kind) (g1 : IsGrown h.kinds k1) where
  pub stands_then : StandsOver k1 h.rows
  stands_then = standing_stays h.kinds k1 h.rows held.stands g1

  abbrev pub then : Held
  then = over h k1 h.rows h.made

  pub held_then : IsHeld then
  held_then = held_grown h held k1 h.rows g1 (kept_self h.rows) stands_then

  pub same_then : state_of then ≡ state_of now
  same_then = state_over h held k1 h.rows g1 (kept_self h.rows) stands_then ∙ ap state_of view

  pub typed_by : (target : State → State) (n : ℕ) (t : Declared) → with_made (t ∷ drop n (state_of then).made) (state_of then) ≡ target (state_of then) → IsLastTyped (target (state_of now)).made → IsTypedTerm t
  typed_by target n t e typed = subst (λ (s : State). IsLastTyped s.made) (sym e) (subst (λ s. IsLastTyped (target s).made) (sym same_then) typed)

  module _ (kinds : List Kind) (rows : List TermRow) (grown : IsGrown k1 kinds) (keeps : KeepsRows h.rows rows) (stands : StandsOver kinds rows) where
    pub held_after : IsHeld (over h kinds rows h.made)
    held_after = held_grown then held_then kinds rows grown keeps stands

    pub held_done : (made : List ℕ) (n id : ℕ) → made ≡ id ∷ drop n h.made → id < length rows → IsHeld (over h kinds rows made)
    held_done made n id e less = subst (λ l. IsHeld (over h kinds rows l)) (sym e) (held_put then held_then kinds rows grown keeps stands n id less)

    pub done : (target : State → State) (made : List ℕ) (n id : ℕ) (t : Declared) → made ≡ id ∷ drop n h.made → MeansTerm kinds rows id t →
        with_made (t ∷ drop n (state_of then).made) (state_of then) ≡ target (state_of then) → state_of (over h kinds rows made) ≡ target (state_of now)
    done target made n id t e m is =
        ap (λ l. state_of (over h kinds rows l)) e ∙ state_put then held_then kinds rows grown keeps stands n id t m ∙ is ∙ ap target same_then

-- Where a stack takes an id in place of others, or keeps what it has for want of memory.
pub held_either : (h : Held) → IsHeld h → (kinds : List Kind) (rows : List TermRow) → IsGrown h.kinds kinds → KeepsRows h.rows rows → StandsOver kinds rows → {A : Type 0} (r : Result A AllocError) (made : List ℕ) (n id : ℕ) → id < length rows →
    OnOk r (made ≡ id ∷ drop n h.made) → OnErr r (made ≡ h.made) → IsHeld (over h kinds rows made)
held_either h held kinds rows g k s (Ok _) made n id less e f = subst (λ l. IsHeld (over h kinds rows l)) (sym e) (held_put h held kinds rows g k s n id less)
held_either h held kinds rows g k s (Err _) made n id less e f = subst (λ l. IsHeld (over h kinds rows l)) (sym f) (held_grown h held kinds rows g k s)

-- Kept terms.

length_map : {A B : Type 0} (f : A → B) (xs : List A) → length (map f xs) ≡ length xs
length_map f [] = refl
length_map f (x ∷ xs) = ap suc (length_map f xs)

pub place_within : (h now : Held) → h ≡ now → (place : ℕ) → place < length (state_of now).kept → place < length h.kept
place_within h now view place less = omega (arith, less, length_map (term_at now.kinds now.rows) now.kept, ap (λ (x : Held). length x.kept) view)

kept_map : (at : ℕ → Declared) (ids : List ℕ) (place d : ℕ) → place < length ids → at (get_or ids place d) ≡ kept_at (map at ids) place
kept_map at [] place d less = absurd (omega (arith, less))
kept_map at (x ∷ xs) zero d less = refl
kept_map at (x ∷ xs) (suc place) d less = kept_map at xs place d (omega (arith, less))

pub kept_term : (h : Held) → IsHeld h → (kinds : List Kind) (rows : List TermRow) → IsGrown h.kinds kinds → KeepsRows h.rows rows → (place id : ℕ) → place < length h.kept → id ≡ get_or h.kept place id → term_at kinds rows id ≡ kept_at (state_of h).kept place
kept_term h held kinds rows g k place id less at =
    let there : id < length h.rows = subst (λ i. i < length h.rows) (sym at) (held.kept place id less) in
    terms_stay h.kinds kinds h.rows rows id held.stands g k there ∙ ap (term_at h.kinds h.rows) at ∙ kept_map (term_at h.kinds h.rows) h.kept place id less

-- Scopes.

pub held_scope : (h : Held) → IsHeld h → (kinds : List Kind) → IsGrown h.kinds kinds → (here : ℕ) (outer : List ℕ) → here < length kinds → outer ≡ h.here ∷ h.outer →
    IsHeld (record { kinds = kinds; rows = h.rows; here = here; outer = outer; made = h.made; kept = h.kept })
held_scope h held kinds g here outer less is =
    let far = types.grown_length h.kinds kinds g in
    record {
      stands = standing_stays h.kinds kinds h.rows held.stands g;
      here = less;
      outer = subst (All (λ i. i < length kinds)) (sym is) (one_more h.here h.outer (length kinds) (omega (arith, held.here, far)) (wider h.outer (length h.kinds) (length kinds) far held.outer));
      made = held.made;
      kept = held.kept;
    }

pub scope_entered : (h : Held) → IsHeld h → (kinds : List Kind) → IsGrown h.kinds kinds → (both part : ℕ) → Means kinds both (Product (kind_at h.kinds part) (kind_at h.kinds h.here)) → (outer : List ℕ) → outer ≡ h.here ∷ h.outer →
    state_of (record { kinds = kinds; rows = h.rows; here = both; outer = outer; made = h.made; kept = h.kept }) ≡ entered (kind_at h.kinds part) (state_of h)
scope_entered h held kinds g both part m outer is =
    let same = state_over h held kinds h.rows g (kept_self h.rows) (standing_stays h.kinds kinds h.rows held.stands g) in
    let here = ap (λ (s : State). s.here) same in
    let around = ap (λ (s : State). s.outer) same in
    let made = ap (λ (s : State). s.made) same in
    let kept = ap (λ (s : State). s.kept) same in
    ap (λ o. state_of (record { kinds = kinds; rows = h.rows; here = both; outer = o; made = h.made; kept = h.kept })) is ∙ rw (m.is, here, around, made, kept) refl

-- A builder that has made nothing.
pub held_new : (kinds : List Kind) (rows : List TermRow) (here : ℕ) (outer made kept : List ℕ) → here < length kinds → rows ≡ [] → outer ≡ [] → made ≡ [] → kept ≡ [] →
    IsHeld (record { kinds = kinds; rows = rows; here = here; outer = outer; made = made; kept = kept })
held_new kinds rows here outer made kept less r o m k = record {
  stands = subst (StandsOver kinds) (sym r) (record { each = tt });
  here = less;
  outer = subst (All (λ i. i < length kinds)) (sym o) (λ k d none. absurd (omega (arith, none)));
  made = subst (All (λ i. i < length rows)) (sym m) (λ k d none. absurd (omega (arith, none)));
  kept = subst (All (λ i. i < length rows)) (sym k) (λ k d none. absurd (omega (arith, none)));
}
