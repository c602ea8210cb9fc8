-- What a builder holds when its tables grow: the ids stay in the tables, and mean the same.
use Rattle.std.proofs.Common.{◌≡◌, ℕ, zero, suc, ◌<◌, ◌≤◌, length, List, [], ◌∷◌, map, drop, get_or, refl, ap, ◌∙◌, arith}
use Rattle.std.specs.List.{All}
use Rattle.simplicity.specs.Canon.{Declared}
use Rattle.simplicity.specs.Types.{Kind}
use Rattle.type_table.proofs.Growth as types
use Rattle.type_table.specs.Kinds.{kind_at, IsGrown}
use Rattle.term_core.proofs.Growth.{kept_length, terms_stay}
use Rattle.term_core.specs.declared.table_node.TermRow.{TermRow}
use Rattle.term_core.specs.Terms.{term_at, StandsOver, MeansTerm, KeepsRows}
use Rattle.term_builder.specs.State.{Held, IsHeld, state_of}
use Rattle.term_builder.specs.Steps.{with_made}

-- lists of ids whose items are below a bound

pub wider : (ids : List ℕ) (n m : ℕ) → n ≤ m → All (λ id. id < n) ids → All (λ id. id < m) ids
wider ids n m far h = λ k d less. omega (arith, far, h k d less)

pub one_more : (id : ℕ) (ids : List ℕ) (m : ℕ) → id < m → All (λ i. i < m) ids → All (λ i. i < m) (id ∷ ids)
one_more id ids m first h = λ k d less. at k d less
  where
    at : (k d : ℕ) → k < suc (length ids) → get_or (id ∷ ids) k d < m
    at zero d less = first
    at (suc k) d less = h k d (omega (arith, less))

pub without : (n : ℕ) (ids : List ℕ) (m : ℕ) → All (λ i. i < m) ids → All (λ i. i < m) (drop n ids)
without zero ids m h = h
without (suc n) [] m h = h
without (suc n) (id ∷ ids) m h = without n ids m (λ k d less. h (suc k) d (omega (arith, less)))

-- maps over ids that are in the tables

same_terms : (kinds more : List Kind) (rows new : List TermRow) → StandsOver kinds rows → IsGrown kinds more → KeepsRows rows new → (ids : List ℕ) → All (λ id. id < length rows) ids → map (term_at more new) ids ≡ map (term_at kinds rows) ids
same_terms kinds more rows new s g k [] h = refl
same_terms kinds more rows new s g k (id ∷ ids) h =
    ap (λ t. t ∷ map (term_at more new) ids) (terms_stay kinds more rows new id s g k (h 0 0 (omega arith)))
    ∙ ap (λ ts. term_at kinds rows id ∷ ts) (same_terms kinds more rows new s g k ids (λ k d less. h (suc k) d (omega (arith, less))))

same_kinds : (kinds more : List Kind) → IsGrown kinds more → (ids : List ℕ) → All (λ id. id < length kinds) ids → map (kind_at more) ids ≡ map (kind_at kinds) ids
same_kinds kinds more g [] h = refl
same_kinds kinds more g (id ∷ ids) h =
    ap (λ t. t ∷ map (kind_at more) ids) (types.kind_at-grown kinds more id g (h 0 0 (omega arith)))
    ∙ ap (λ ts. kind_at kinds id ∷ ts) (same_kinds kinds more g ids (λ k d less. h (suc k) d (omega (arith, less))))

map_drop : {A B : Type 0} (f : A → B) (n : ℕ) (xs : List A) → map f (drop n xs) ≡ drop n (map f xs)
map_drop f zero xs = refl
map_drop f (suc n) [] = refl
map_drop f (suc n) (x ∷ xs) = map_drop f n xs

-- new tables

pub record Grew (h : Held) (kinds : List Kind) (rows : List TermRow) : Type 0 where
  pub grown : IsGrown h.kinds kinds
  pub kept : KeepsRows h.rows rows
  pub stands : StandsOver kinds rows

abbrev pub over : Held → List Kind → List TermRow → List ℕ → Held
over h kinds rows made = record { kinds = kinds; rows = rows; here = h.here; outer = h.outer; made = made; kept = h.kept }

module _ (h : Held) (held : IsHeld h) (kinds : List Kind) (rows : List TermRow) (grown : IsGrown h.kinds kinds) (keeps : KeepsRows h.rows rows) (stands : StandsOver kinds rows) where
  longer_kinds : length h.kinds ≤ length kinds
  longer_kinds = types.grown_length h.kinds kinds grown

  longer_rows : length h.rows ≤ length rows
  longer_rows = kept_length h.rows rows keeps

  pub held_with : (made : List ℕ) → All (λ id. id < length rows) made → IsHeld (over h kinds rows made)
  held_with made all = record {
    stands = stands;
    here = omega (arith, held.here, longer_kinds);
    outer = wider h.outer (length h.kinds) (length kinds) longer_kinds held.outer;
    made = all;
    kept = wider h.kept (length h.rows) (length rows) longer_rows held.kept;
  }

  pub made_there : All (λ id. id < length rows) h.made
  made_there = wider h.made (length h.rows) (length rows) longer_rows held.made

  pub held_grown : IsHeld (over h kinds rows h.made)
  held_grown = held_with h.made made_there

  pub held_put : (n id : ℕ) → id < length rows → IsHeld (over h kinds rows (id ∷ drop n h.made))
  held_put n id less = held_with (id ∷ drop n h.made) (one_more id (drop n h.made) (length rows) less (without n h.made (length rows) made_there))

  pub state_put : (n id : ℕ) (t : Declared) → MeansTerm kinds rows id t → state_of (over h kinds rows (id ∷ drop n h.made)) ≡ with_made (t ∷ drop n (state_of h).made) (state_of h)
  state_put n id t m =
      let a = types.kind_at-grown h.kinds kinds h.here grown held.here in
      let b = same_kinds h.kinds kinds grown h.outer held.outer in
      let c = same_terms h.kinds kinds h.rows rows held.stands grown keeps h.made held.made in
      let d = same_terms h.kinds kinds h.rows rows held.stands grown keeps h.kept held.kept in
      let e = map_drop (term_at kinds rows) n h.made in
      let f = m.is in
      rw (a, b, d, e, f, c) refl

  pub state_over : state_of (over h kinds rows h.made) ≡ state_of h
  state_over =
      let a = types.kind_at-grown h.kinds kinds h.here grown held.here in
      let b = same_kinds h.kinds kinds grown h.outer held.outer in
      let c = same_terms h.kinds kinds h.rows rows held.stands grown keeps h.made held.made in
      let d = same_terms h.kinds kinds h.rows rows held.stands grown keeps h.kept held.kept in
      rw (a, b, d, c) refl
