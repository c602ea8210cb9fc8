-- What rows say of their types, and a row at the end.
use Rattle.std.proofs.Common.{◌≡◌, ℕ, zero, suc, ◌<◌, ◌≤◌, ◌⊎◌, inl, inr, List, [], ◌∷◌, ◌++◌, length, refl, ap, sym, ◌∙◌, subst, arith, Some, get_or, length-append, slice_get}
use Rattle.std.proofs.lemmas.Option.{slice_get-get_or, slice_get_within}
use Rattle.std.proofs.Math.ListN.{get_or-append}
use Rattle.std.proofs.Math.Seq.{get_or-append_seam}
use Rattle.simplicity.specs.Types.{Kind, One, size, weight}
use Rattle.type_table.specs.declared.shape.Shape.{Shape}
use Rattle.type_table.specs.declared.shape.Shape.TheVariants as shape
use Rattle.type_table.specs.Kinds.{Means, kind_at, kind_in, IsGrown, IsDistinct, AreBelow}
use Rattle.simplicity.specs.Limits.{capped}
use Rattle.std.proofs.lemmas.Bool.{cases_lt}
use Rattle.type_table.specs.Rows.{Row, kinds_after, kinds_of, IsRow, IsTable}

pub kinds_after-push : (before : List Kind) (rows : List Row) (row : Row) → kinds_after before (rows ++ row ∷ []) ≡ kinds_after before rows ++ kind_in (kinds_after before rows) row.0 ∷ []
kinds_after-push before [] row = refl
kinds_after-push before (first ∷ rows) row = kinds_after-push (before ++ kind_in before first.0 ∷ []) rows row

-- what more types leave
pub kind_at-more : (kinds more : List Kind) (id : ℕ) → id < length kinds → kind_at (kinds ++ more) id ≡ kind_at kinds id
kind_at-more kinds more id h = get_or-append kinds more One id h

pub kind_in-more : (kinds more : List Kind) (s : Shape) → AreBelow (length kinds) s → kind_in (kinds ++ more) s ≡ kind_in kinds s
kind_in-more kinds more shape.One h = refl
kind_in-more kinds more (shape.Sum l r) h =
    let e = kind_at-more kinds more l h.0 in let f = kind_at-more kinds more r h.1 in cc
kind_in-more kinds more (shape.Product l r) h =
    let e = kind_at-more kinds more l h.0 in let f = kind_at-more kinds more r h.1 in cc

pub below_more : (m n : ℕ) (s : Shape) → m ≤ n → AreBelow m s → AreBelow n s
below_more m n shape.One h b = tt
below_more m n (shape.Sum l r) h b = (omega arith, omega arith)
below_more m n (shape.Product l r) h b = (omega arith, omega arith)

-- in a table without a type twice, shapes of equal types are equal
same_shapes : (kinds : List Kind) → IsDistinct kinds → (s t : Shape) → AreBelow (length kinds) s → AreBelow (length kinds) t → kind_in kinds s ≡ kind_in kinds t → s ≡ t
same_shapes kinds d shape.One shape.One hs ht e = refl
same_shapes kinds d shape.One (shape.Sum k m) hs ht e = cc
same_shapes kinds d shape.One (shape.Product k m) hs ht e = cc
same_shapes kinds d (shape.Sum i j) shape.One hs ht e = cc
same_shapes kinds d (shape.Sum i j) (shape.Product k m) hs ht e = cc
same_shapes kinds d (shape.Product i j) shape.One hs ht e = cc
same_shapes kinds d (shape.Product i j) (shape.Sum k m) hs ht e = cc
same_shapes kinds d (shape.Sum i j) (shape.Sum k m) hs ht e =
    let p : kind_at kinds i ≡ kind_at kinds k = cc in let q : kind_at kinds j ≡ kind_at kinds m = cc in
    let f = d.same i k hs.0 ht.0 p in let g = d.same j m hs.1 ht.1 q in cc
same_shapes kinds d (shape.Product i j) (shape.Product k m) hs ht e =
    let p : kind_at kinds i ≡ kind_at kinds k = cc in let q : kind_at kinds j ≡ kind_at kinds m = cc in
    let f = d.same i k hs.0 ht.0 p in let g = d.same j m hs.1 ht.1 q in cc

-- what a row says of its type, and a row's numbers from those of its parts
pub row_at : (rows : List Row) (d : Row) → IsTable rows → (id : ℕ) → id < length rows → IsRow (kinds_of rows) id (get_or rows id d)
row_at rows d table id h = table.each id (get_or rows id d) (slice_get-get_or rows id d h)

-- a list with an item at its end
at_push : {X : Type 0} (xs : List X) (x y : X) (i : ℕ) → slice_get (xs ++ x ∷ []) i ≡ Some y → (slice_get xs i ≡ Some y) ⊎ ((i ≡ length xs) × (x ≡ y))
at_push [] x y zero h = inr (refl, cc)
at_push [] x y (suc i) h = cc
at_push (z ∷ xs) x y zero h = inl h
at_push (z ∷ xs) x y (suc i) h = elim (at_push xs x y i h) [ inl p ↦ inl p | inr p ↦ inr (omega (arith, p.0), p.1) ]

row_more : (kinds more : List Kind) (id : ℕ) (row : Row) → id < length kinds → IsRow kinds id row → IsRow (kinds ++ more) id row
row_more kinds more id row h is =
    let e = kind_at-more kinds more id h in
    let f = kind_in-more kinds more row.0 (below_more id (length kinds) row.0 (omega arith) is.shape.parts) in
    record {
      shape = record { parts = is.shape.parts; is = e ∙ is.shape.is ∙ sym f };
      size = is.size ∙ ap (λ k. capped (size k)) (sym e);
      weight = is.weight ∙ ap (λ k. capped (weight k)) (sym e);
    }

-- a row that says what is so of a type that the rows before it don't mean
pub record Follows (rows : List Row) (row : Row) : Type 0 where
  pub below : AreBelow (length rows) row.0
  pub size : row.1.size ≡ capped (size (kind_in (kinds_of rows) row.0))
  pub weight : row.1.weight ≡ capped (weight (kind_in (kinds_of rows) row.0))
  pub absent : (id : ℕ) (other : Row) → slice_get rows id ≡ Some other → ¬ (other.0 ≡ row.0)

module _ (rows : List Row) (row : Row) (table : IsTable rows) (follows : Follows rows row) where
  abbrev kinds : List Kind
  kinds = kinds_of rows

  abbrev kind : Kind
  kind = kind_in (kinds_of rows) row.0

  pub kinds-push : kinds_of (rows ++ row ∷ []) ≡ kinds_of rows ++ kind_in (kinds_of rows) row.0 ∷ []
  kinds-push = kinds_after-push [] rows row

  last_row : IsRow (kinds ++ kind ∷ []) (length kinds) row
  last_row =
      let e : kind_at (kinds ++ kind ∷ []) (length kinds) ≡ kind = get_or-append_seam kinds kind [] One in
      let b : AreBelow (length kinds) row.0 = rw table.count follows.below in
      let f = kind_in-more kinds (kind ∷ []) row.0 b in
      record {
        shape = record { parts = b; is = e ∙ sym f };
        size = follows.size ∙ ap (λ k. capped (size k)) (sym e);
        weight = follows.weight ∙ ap (λ k. capped (weight k)) (sym e);
      }

  row_in : (id : ℕ) (other : Row) → (slice_get rows id ≡ Some other) ⊎ ((id ≡ length rows) × (row ≡ other)) → IsRow (kinds ++ kind ∷ []) id other
  row_in id other (inl h) =
      let within = slice_get_within rows id other h in let count = table.count in
      row_more kinds (kind ∷ []) id other (omega arith) (table.each id other h)
  row_in id other (inr h) =
      let P : Row → Type 0 = λ r. IsRow (kinds ++ kind ∷ []) id r in
      subst P h.1 (let Q : ℕ → Type 0 = λ n. IsRow (kinds ++ kind ∷ []) n row in subst Q (table.count ∙ sym h.0) last_row)

  not_there : (i : ℕ) → i < length kinds → kind_at kinds i ≡ kind → ⊥
  not_there i h e =
      let count = table.count in
      let b : i < length rows = omega arith in
      let is = row_at rows row table i b in
      follows.absent i (get_or rows i row) (slice_get-get_or rows i row b)
      (same_shapes kinds table.distinct (get_or rows i row).0 row.0 (below_more i (length kinds) (get_or rows i row).0 (omega arith) is.shape.parts) (rw table.count follows.below) (sym is.shape.is ∙ e))

  -- where an id is, and what it means
  place : (i : ℕ) → i < length (kinds ++ kind ∷ []) → ((i < length kinds) × (kind_at (kinds ++ kind ∷ []) i ≡ kind_at kinds i)) ⊎ ((i ≡ length kinds) × (kind_at (kinds ++ kind ∷ []) i ≡ kind))
  place i h = elim (cases_lt i (length kinds)) [
    | inl p ↦ inl (p, kind_at-more kinds (kind ∷ []) i p)
    | inr p ↦ let l = length-append kinds (kind ∷ []) in let e : i ≡ length kinds = omega arith in inr (e, ap (kind_at (kinds ++ kind ∷ [])) e ∙ get_or-append_seam kinds kind [] One)
  ]

  distinct_in : (i j : ℕ) → kind_at (kinds ++ kind ∷ []) i ≡ kind_at (kinds ++ kind ∷ []) j →
      ((i < length kinds) × (kind_at (kinds ++ kind ∷ []) i ≡ kind_at kinds i)) ⊎ ((i ≡ length kinds) × (kind_at (kinds ++ kind ∷ []) i ≡ kind)) →
      ((j < length kinds) × (kind_at (kinds ++ kind ∷ []) j ≡ kind_at kinds j)) ⊎ ((j ≡ length kinds) × (kind_at (kinds ++ kind ∷ []) j ≡ kind)) → i ≡ j
  distinct_in i j e (inl h) (inl g) = table.distinct.same i j h.0 g.0 (sym h.1 ∙ e ∙ g.1)
  distinct_in i j e (inl h) (inr g) = absurd (not_there i h.0 (sym h.1 ∙ e ∙ g.1))
  distinct_in i j e (inr h) (inl g) = absurd (not_there j g.0 (sym g.1 ∙ sym e ∙ h.1))
  distinct_in i j e (inr h) (inr g) = h.0 ∙ sym g.0

  pub table-push : IsTable (rows ++ row ∷ [])
  table-push = record {
    count = ap length kinds-push ∙ simp length-append (omega (arith, table.count));
    each = λ id other h. let P : List Kind → Type 0 = λ ks. IsRow ks id other in subst P (sym kinds-push) (row_in id other (at_push rows row other id h));
    distinct = let P : List Kind → Type 0 = IsDistinct in subst P (sym kinds-push) (record { same = λ i j h g e. distinct_in i j e (place i h) (place j g) });
  }

  pub new_means : (id : ℕ) → id ≡ length rows → Means (kinds_of (rows ++ row ∷ [])) id kind
  new_means id is =
      let P : List Kind → Type 0 = λ ks. Means ks id kind in
      subst P (sym kinds-push)
      (let count = table.count in let l = length-append kinds (kind ∷ []) in
      let e : kind_at (kinds ++ kind ∷ []) (length kinds) ≡ kind = get_or-append_seam kinds kind [] One in
      let at : id ≡ length kinds = omega arith in
      record { within = omega arith; is = ap (kind_at (kinds ++ kind ∷ [])) at ∙ e })

-- the type of a row that is there
pub found_means : (rows : List Row) → IsTable rows → (id : ℕ) (row : Row) (s : Shape) → slice_get rows id ≡ Some row → row.0 ≡ s → Means (kinds_of rows) id (kind_in (kinds_of rows) s)
found_means rows table id row s h is =
    let within = slice_get_within rows id row h in let count = table.count in
    record { within = omega arith; is = (table.each id row h).shape.is ∙ ap (kind_in (kinds_of rows)) is }

-- the same of a table that is seen as its types
module _ (rows : List Row) (now : List Kind) (seen : kinds_of rows ≡ now) (table : IsTable rows) where
  pub row_is : (id : ℕ) (row : Row) → slice_get rows id ≡ Some row → IsRow now id row
  row_is id row h = let P : List Kind → Type 0 = λ ks. IsRow ks id row in subst P seen (table.each id row h)

  pub found_in : (s : Shape) (id : ℕ) → (row : Row) × (slice_get rows id ≡ Some row) × (row.0 ≡ s) → Means now id (kind_in now s)
  found_in s id found = let P : List Kind → Type 0 = λ ks. Means ks id (kind_in ks s) in subst P seen (found_means rows table id found.0 s found.1 found.2)

  pub follows_in : (row : Row) → AreBelow (length now) row.0 → row.1.size ≡ capped (size (kind_in now row.0)) → row.1.weight ≡ capped (weight (kind_in now row.0)) →
      ((id : ℕ) (other : Row) → slice_get rows id ≡ Some other → ¬ (other.0 ≡ row.0)) → Follows rows row
  follows_in row below is_size is_weight absent =
      let same = ap length seen in let count = table.count in
      record {
        below = below_more (length now) (length rows) row.0 (omega arith) below;
        size = rw seen is_size;
        weight = rw seen is_weight;
        absent = absent;
      }

  pub added_means : (row : Row) (id : ℕ) → Follows rows row → id ≡ length rows → Means (kinds_of (rows ++ row ∷ [])) id (kind_in now row.0)
  added_means row id follows at =
      let P : List Kind → Type 0 = λ ks. Means (kinds_of (rows ++ row ∷ [])) id (kind_in ks row.0) in subst P seen (new_means rows row table follows id at)

  pub added_grown : (row : Row) → Follows rows row → IsGrown now (kinds_of (rows ++ row ∷ []))
  added_grown row follows = record { more = kind_in (kinds_of rows) row.0 ∷ []; is = kinds-push rows row table follows ∙ ap (λ ks. ks ++ kind_in (kinds_of rows) row.0 ∷ []) seen }
