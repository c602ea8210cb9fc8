-- What a look-up by key finds: the row that is found again, or none.
use Rattle.std.proofs.Common.{rules, ◌≡◌, ℕ, zero, suc, ◌+◌, ◌<◌, ◌⊎◌, inl, inr, Bool, true, false, List, [], ◌∷◌, ◌++◌, length, refl, sym, ap, ◌∙◌, subst, arith, Option, Some, None, slice_get, get_or, if◌then◌else◌, true≢false, cond, not, ◌||◌}
use Rattle.std.specs.List.{list_any, position_or_len}
use Rattle.std.specs.Option.{option_map}
use Rattle.std.proofs.lemmas.List.{map-append}
use Rattle.std.proofs.lemmas.List.Folds.{list_any_at}
use Rattle.std.proofs.lemmas.List.Sums.{passes_at_first}
use Rattle.std.proofs.lemmas.Option.{slice_get-map, slice_get-get_or, slice_get_within, get_or_from_slice_get}
use Rattle.indexmap.specs.IndexSet.{insert_key}
use Rattle.term_core.specs.contracts.keyed.KeyedRowPartialEq.TheImpl.{eq-value}
use Rattle.term_core.specs.declared.keyed.KeyedRow.{KeyedRow}
use Rattle.term_core.specs.declared.table_node.Node.{Node}
use Rattle.term_core.specs.declared.table_node.Node.TheVariants as code
use Rattle.term_core.specs.declared.table_node.TermRow.{TermRow}
use Rattle.term_core.specs.Rows.{is_witness, IsFoundAt, IsNew, AreDistinct}
use Rattle.term_core.specs.Keys.{rows_of, turn_of, IsKeyed}

-- `==` on keys
abbrev pub same : KeyedRow → KeyedRow → Bool
same = eq-value.it

is_same : (k l : KeyedRow) → same k l ≡ true → k ≡ l
is_same k l e = search rules

same_self : (k : KeyedRow) → same k k ≡ true
same_self k = search rules

-- a row stands where its key does
pub row_at : (keys : List KeyedRow) (id : ℕ) (key : KeyedRow) → slice_get keys id ≡ Some key → slice_get (rows_of keys) id ≡ Some key.row
row_at keys id key h = slice_get-map (λ (k : KeyedRow). k.row) keys id ∙ ap (option_map (λ (k : KeyedRow). k.row)) h

with_row : (keys : List KeyedRow) (id : ℕ) (row : TermRow) (found : Option KeyedRow) → slice_get keys id ≡ found → option_map (λ (k : KeyedRow). k.row) found ≡ Some row →
    (key : KeyedRow) × (slice_get keys id ≡ Some key) × (key.row ≡ row)
with_row keys id row (Some key) at is = (key, at, cc)
with_row keys id row None at is = cc

pub key_at : (keys : List KeyedRow) (id : ℕ) (row : TermRow) → slice_get (rows_of keys) id ≡ Some row → (key : KeyedRow) × (slice_get keys id ≡ Some key) × (key.row ≡ row)
key_at keys id row h = with_row keys id row (slice_get keys id) refl (sym (slice_get-map (λ (k : KeyedRow). k.row) keys id) ∙ h)

-- a node other than a witness has the turn 0 at each id, and a witness another one at each
no_turn : (n : Node) (i j : ℕ) → is_witness n ≡ false → turn_of n i ≡ turn_of n j
no_turn code.Iden i j h = refl
no_turn code.Unit i j h = refl
no_turn (code.Injl k) i j h = refl
no_turn (code.Injr k) i j h = refl
no_turn (code.Take k) i j h = refl
no_turn (code.Drop k) i j h = refl
no_turn (code.Comp k l) i j h = refl
no_turn (code.Case k l) i j h = refl
no_turn (code.Pair k l) i j h = refl
no_turn (code.AssertL k r) i j h = refl
no_turn (code.AssertR r k) i j h = refl
no_turn code.Fail i j h = refl
no_turn (code.Witness n) i j h = absurd (true≢false h)
no_turn (code.Word w) i j h = refl

own_turn : (n : Node) (i j : ℕ) → i < j → turn_of n i ≡ turn_of n j → is_witness n ≡ false
own_turn code.Iden i j h e = refl
own_turn code.Unit i j h e = refl
own_turn (code.Injl k) i j h e = refl
own_turn (code.Injr k) i j h e = refl
own_turn (code.Take k) i j h e = refl
own_turn (code.Drop k) i j h e = refl
own_turn (code.Comp k l) i j h e = refl
own_turn (code.Case k l) i j h e = refl
own_turn (code.Pair k l) i j h e = refl
own_turn (code.AssertL k r) i j h e = refl
own_turn (code.AssertR r k) i j h e = refl
own_turn code.Fail i j h e = refl
own_turn (code.Witness n) i j h e = absurd (omega (arith, h, e))
own_turn (code.Word w) i j h e = refl

-- an item that stands before the end, or is the last
at_push : {X : Type 0} (xs : List X) (x y : X) (i : ℕ) → slice_get (xs ++ x ∷ []) i ≡ Some y → (slice_get xs i ≡ Some y) ⊎ ((i ≡ length xs) × (x ≡ y))
at_push [] x y zero h = inr (refl, cc)
at_push [] x y (suc i) h = cc
at_push (z ∷ xs) x y zero h = inl h
at_push (z ∷ xs) x y (suc i) h = elim (at_push xs x y i h) [ inl p ↦ inl p | inr p ↦ inr (omega (arith, p.0), p.1) ]

pub last_at : {X : Type 0} (xs : List X) (x : X) → slice_get (xs ++ x ∷ []) (length xs) ≡ Some x
last_at [] x = refl
last_at (y ∷ xs) x = last_at xs x

-- the first item that passes a test, or the end
first_within : {X : Type 0} (test : X → Bool) (xs : List X) → list_any test xs ≡ true → position_or_len test xs < length xs
first_within test [] h = absurd (true≢false (sym h))
first_within test (x ∷ xs) h = by (test x) refl (first_within test xs)
  where
    by : (b : Bool) → test x ≡ b → (list_any test xs ≡ true → position_or_len test xs < length xs) → position_or_len test (x ∷ xs) < length (x ∷ xs)
    by true e rest = let here : position_or_len test (x ∷ xs) ≡ 0 = ap (λ b. cond (not b) (1 + position_or_len test xs) 0) e in omega (arith, here)
    by false e rest =
        let later : position_or_len test (x ∷ xs) ≡ 1 + position_or_len test xs = ap (λ b. cond (not b) (1 + position_or_len test xs) 0) e in
        omega (arith, later, rest (sym (ap (λ b. b || list_any test xs) e) ∙ h))

none_first : {X : Type 0} (test : X → Bool) (xs : List X) → list_any test xs ≡ false → position_or_len test xs ≡ length xs
none_first test [] h = refl
none_first test (x ∷ xs) h = by (test x) refl (none_first test xs)
  where
    by : (b : Bool) → test x ≡ b → (list_any test xs ≡ false → position_or_len test xs ≡ length xs) → position_or_len test (x ∷ xs) ≡ length (x ∷ xs)
    by true e rest = absurd (true≢false (sym (ap (λ b. b || list_any test xs) e) ∙ h))
    by false e rest =
        let later : position_or_len test (x ∷ xs) ≡ 1 + position_or_len test xs = ap (λ b. cond (not b) (1 + position_or_len test xs) 0) e in
        omega (arith, later, rest (sym (ap (λ b. b || list_any test xs) e) ∙ h))

-- rows with a new one
pub distinct_on : (rows : List TermRow) (row : TermRow) → AreDistinct rows → IsNew rows row → AreDistinct (rows ++ row ∷ [])
distinct_on rows row distinct absent = record { same = λ i j r f g. by i j r f g (at_push rows row r i f.at) (at_push rows row r j g.at) }
  where
    not_here : (i : ℕ) (r : TermRow) → slice_get rows i ≡ Some r → is_witness r.node ≡ false → row ≡ r → ⊥
    not_here i r at again is = absent i (let P : TermRow → Type 0 = IsFoundAt rows i in subst P (sym is) (record { at = at; again = again }))

    by : (i j : ℕ) (r : TermRow) → IsFoundAt (rows ++ row ∷ []) i r → IsFoundAt (rows ++ row ∷ []) j r →
        (slice_get rows i ≡ Some r) ⊎ ((i ≡ length rows) × (row ≡ r)) → (slice_get rows j ≡ Some r) ⊎ ((j ≡ length rows) × (row ≡ r)) → i ≡ j
    by i j r f g (inl a) (inl b) = distinct.same i j r (record { at = a; again = f.again }) (record { at = b; again = g.again })
    by i j r f g (inl a) (inr b) = absurd (not_here i r a f.again b.1)
    by i j r f g (inr a) (inl b) = absurd (not_here j r b g.again a.1)
    by i j r f g (inr a) (inr b) = a.0 ∙ sym b.0

-- what an insertion leaves: the row is found at the id, or is the last
pub record Found (keys new : List KeyedRow) (key : KeyedRow) (id : ℕ) : Type 0 where
  pub at : IsFoundAt (rows_of keys) id key.row
  pub is : new ≡ keys

pub record Added (keys new : List KeyedRow) (key : KeyedRow) (id : ℕ) : Type 0 where
  pub absent : IsNew (rows_of keys) key.row
  pub at : id ≡ length keys
  pub is : new ≡ keys ++ key ∷ []

module _ (keys : List KeyedRow) (key : KeyedRow) (keyed : IsKeyed keys) (turn : key.turn ≡ turn_of key.row.node (length keys)) where
  -- a key that no key is equal to has a row that is found nowhere
  pub is_new : list_any (same key) keys ≡ false → IsNew (rows_of keys) key.row
  is_new none id found =
      let k = key_at keys id key.row found.at in
      let within = slice_get_within keys id k.0 k.1 in
      let its_turn = keyed.each id k.0 k.1 ∙ ap (λ (r : TermRow). turn_of r.node id) k.2 ∙ no_turn key.row.node id (length keys) found.again ∙ sym turn in
      let equal : k.0 ≡ key = is_key k.0 k.2 its_turn in
      let passes : same key (get_or keys id key) ≡ true = ap (same key) (get_or_from_slice_get keys id k.0 key k.1 ∙ equal) ∙ same_self key in
      absurd (true≢false (sym (list_any_at (same key) keys id key within passes) ∙ none))
    where
      is_key : (k : KeyedRow) → k.row ≡ key.row → k.turn ≡ key.turn → k ≡ key
      is_key k e f = λ j. record { row = e j; turn = f j }

  -- and a key that one is equal to has a row that is found where that one stands
  found_there : (place : ℕ) → place < length keys → same key (get_or keys place key) ≡ true → IsFoundAt (rows_of keys) place key.row
  found_there place within passes =
      let at : slice_get keys place ≡ Some key = slice_get-get_or keys place key within ∙ ap Some (sym (is_same key (get_or keys place key) passes)) in
      record { at = row_at keys place key at; again = own_turn key.row.node place (length keys) within (sym (keyed.each place key at) ∙ turn) }

  pub inserted : (new : List KeyedRow) (id : ℕ) → new ≡ insert_key same keys key → id ≡ position_or_len (same key) keys → Found keys new key id ⊎ Added keys new key id
  inserted new id is at = by (list_any (same key) keys) refl
    where
      by : (b : Bool) → list_any (same key) keys ≡ b → Found keys new key id ⊎ Added keys new key id
      by true e = inl (record {
        at = let P : ℕ → Type 0 = λ i. IsFoundAt (rows_of keys) i key.row in subst P (sym at) (found_there (position_or_len (same key) keys) (first_within (same key) keys e) (passes_at_first (same key) keys key (first_within (same key) keys e)));
        is = is ∙ ap (λ b. if b then keys else keys ++ key ∷ []) e;
      })
      by false e = inr (record {
        absent = is_new e;
        at = at ∙ none_first (same key) keys e;
        is = is ∙ ap (λ b. if b then keys else keys ++ key ∷ []) e;
      })

  -- the keys with the new one
  pub keyed_on : IsNew (rows_of keys) key.row → IsKeyed (keys ++ key ∷ [])
  keyed_on absent = record {
    each = λ id k h. elim (at_push keys key k id h) [
      | inl p ↦ keyed.each id k p
      | inr p ↦ let P : KeyedRow → Type 0 = λ l. l.turn ≡ turn_of l.row.node id in subst P p.1 (turn ∙ ap (turn_of key.row.node) (sym p.0))
    ];
    distinct = rw (map-append (λ (k : KeyedRow). k.row) keys (key ∷ [])) (distinct_on (rows_of keys) key.row keyed.distinct absent);
  }

pub keyed_after : (keys new : List KeyedRow) (key : KeyedRow) (id : ℕ) → IsKeyed keys → key.turn ≡ turn_of key.row.node (length keys) → Found keys new key id ⊎ Added keys new key id → IsKeyed new
keyed_after keys new key id keyed turn (inl found) = subst IsKeyed (sym found.is) keyed
keyed_after keys new key id keyed turn (inr added) = subst IsKeyed (sym added.is) (keyed_on keys key keyed turn added.absent)
