-- The term of a list, from the terms of its items.
use Rattle.std.proofs.Common.{◌≡◌, ℕ, zero, suc, ◌*◌, ◌^◌, ◌<◌, Bool, true, false, ◌||◌, nat_lt, List, [], ◌∷◌, ◌++◌, length, take, drop, map, replicate, Option, Some, None, option_map, refl, sym, ap, ◌∙◌, arith, ltb-true, length-take, length-drop}
use Rattle.std.specs.Prelude.{if◌then◌else◌}
use Rattle.std.proofs.lemmas.Bool.{ltb-false}
use Rattle.std.proofs.lemmas.List.{length-map}
use Rattle.std.proofs.Math.Nat.{pow-succ'}
use Rattle.hl_meaning.specs.Values.{list_value}
use Rattle.simplicity.specs.Canon.{Declared, erased}
use Rattle.simplicity.specs.Terms.{meaning, and_then, paired}
use Rattle.simplicity.specs.Tuples.{tuple_value, copies_kind}
use Rattle.simplicity.specs.Types.{Kind, One, Sum, Product, Value, UnitValue, Inl, Inr, Pair}
use Rattle.simplicityhl.specs.Kinds.{list_kind}
use Rattle.simplicity.specs.Arrows.{IsTypedTerm}
use Rattle.simplicity.specs.Arrows as row
use Rattle.simplicity.specs.Arrows.{source, target}
use Rattle.simplicity.specs.Makes.{unit, pair, to_left, to_right, tuple}
use Rattle.hl_terms.specs.Translated.{list_term}
use Rattle.simplicity.proofs.Tuples.{take_map, drop_map}
use Rattle.std.proofs.lemmas.List.{take-append-drop}
use Rattle.hl_term_laws.proofs.Parts.{any_none, is_none, answer_tuple, none_fails, all_some, tuple_meaning, or_assoc, Pieces, tuple_right}
use Rattle.simplicity.proofs.Arrows.{typed_pair, typed_left, typed_right}

abbrev to_some : Option Value → Option Value
to_some o = and_then o (λ u. Some (Inr u))

abbrev pub answer_list : ℕ → List (Option Value) → Option Value
answer_list zero [] = Some (Inl UnitValue)
answer_list zero (o ∷ os) = to_some o
answer_list (suc level) os =
    if nat_lt (length os) (2 ^ suc level) then paired (Some (Inl UnitValue)) (answer_list level os)
    else paired (to_some (answer_tuple (take (2 ^ suc level) os))) (answer_list level (drop (2 ^ suc level) os))

-- what it means

module _ (a item : Kind) (w : List Value) (c : Value) where
  abbrev mean : Declared → Option Value
  mean t = meaning (erased t) w c

  by_length : (level : ℕ) (ts : List Declared) (b : Bool) → mean (list_term a item level ts) ≡ answer_list level (map mean ts) →
      mean (list_term a item level (drop (2 ^ suc level) ts)) ≡ answer_list level (map mean (drop (2 ^ suc level) ts)) →
      mean (if b then pair (to_left (copies_kind (2 ^ suc level) item) (unit a)) (list_term a item level ts) else pair (to_right One (tuple a (take (2 ^ suc level) ts))) (list_term a item level (drop (2 ^ suc level) ts)))
      ≡ (if b then paired (Some (Inl UnitValue)) (answer_list level (map mean ts)) else paired (to_some (answer_tuple (take (2 ^ suc level) (map mean ts)))) (answer_list level (drop (2 ^ suc level) (map mean ts))))
  by_length level ts true e f = ap (paired (Some (Inl UnitValue))) e
  by_length level ts false e f =
      ap (λ o. paired (to_some o) (mean (list_term a item level (drop (2 ^ suc level) ts)))) (tuple_meaning a w c (take (2 ^ suc level) ts) ∙ ap answer_tuple (take_map mean (2 ^ suc level) ts))
      ∙ ap (paired (to_some (answer_tuple (take (2 ^ suc level) (map mean ts))))) (f ∙ ap (answer_list level) (drop_map mean (2 ^ suc level) ts))

  pub list_meaning : (level : ℕ) (ts : List Declared) → mean (list_term a item level ts) ≡ answer_list level (map mean ts)
  list_meaning zero [] = refl
  list_meaning zero (t ∷ ts) = refl
  list_meaning (suc level) ts =
      by_length level ts (nat_lt (length ts) (2 ^ suc level)) (list_meaning level ts) (list_meaning level (drop (2 ^ suc level) ts))
      ∙ ap (λ n. if nat_lt n (2 ^ suc level) then paired (Some (Inl UnitValue)) (answer_list level (map mean ts)) else paired (to_some (answer_tuple (take (2 ^ suc level) (map mean ts)))) (answer_list level (drop (2 ^ suc level) (map mean ts)))) (sym (length-map ts mean))

-- all the items are there

beside_value : (v : Value) (o : Option Value) → paired (Some v) o ≡ option_map (Pair v) o
beside_value v (Some u) = refl
beside_value v None = refl

some_by : (level : ℕ) (cs : List Value) (b : Bool) → answer_list level (map Some cs) ≡ list_value level cs → answer_list level (map Some (drop (2 ^ suc level) cs)) ≡ list_value level (drop (2 ^ suc level) cs) →
    (if b then paired (Some (Inl UnitValue)) (answer_list level (map Some cs)) else paired (to_some (answer_tuple (take (2 ^ suc level) (map Some cs)))) (answer_list level (drop (2 ^ suc level) (map Some cs))))
    ≡ (if b then option_map (Pair (Inl UnitValue)) (list_value level cs) else option_map (Pair (Inr (tuple_value (take (2 ^ suc level) cs)))) (list_value level (drop (2 ^ suc level) cs)))
some_by level cs true e f = ap (paired (Some (Inl UnitValue))) e ∙ beside_value (Inl UnitValue) (list_value level cs)
some_by level cs false e f =
    ap (λ o. paired (to_some o) (answer_list level (drop (2 ^ suc level) (map Some cs)))) (ap answer_tuple (sym (take_map Some (2 ^ suc level) cs)) ∙ all_some (take (2 ^ suc level) cs))
    ∙ ap (paired (Some (Inr (tuple_value (take (2 ^ suc level) cs))))) (ap (answer_list level) (sym (drop_map Some (2 ^ suc level) cs)) ∙ f)
    ∙ beside_value (Inr (tuple_value (take (2 ^ suc level) cs))) (list_value level (drop (2 ^ suc level) cs))

-- a list of one item has the right term whatever comes after it, so the length matters at the last level alone
pub some_list : (level : ℕ) (cs : List Value) → length cs < 2 ^ suc level → answer_list level (map Some cs) ≡ list_value level cs
some_list zero [] h = refl
some_list zero (v ∷ []) h = refl
some_list zero (v ∷ u ∷ cs) h = absurd (omega arith)
some_list (suc level) cs h =
    let twice : 2 ^ suc (suc level) ≡ 2 * 2 ^ suc level = pow-succ' 2 (suc level) in
    ap (λ n. if nat_lt n (2 ^ suc level) then paired (Some (Inl UnitValue)) (answer_list level (map Some cs)) else paired (to_some (answer_tuple (take (2 ^ suc level) (map Some cs)))) (answer_list level (drop (2 ^ suc level) (map Some cs)))) (length-map cs Some)
    ∙ elim (nat_lt (length cs) (2 ^ suc level)) as (λ b. nat_lt (length cs) (2 ^ suc level) ≡ b →
    (if b then paired (Some (Inl UnitValue)) (answer_list level (map Some cs)) else paired (to_some (answer_tuple (take (2 ^ suc level) (map Some cs)))) (answer_list level (drop (2 ^ suc level) (map Some cs))))
    ≡ (if b then option_map (Pair (Inl UnitValue)) (list_value level cs) else option_map (Pair (Inr (tuple_value (take (2 ^ suc level) cs)))) (list_value level (drop (2 ^ suc level) cs)))) [
      | true ↦ λ less. ap (paired (Some (Inl UnitValue))) (some_list level cs (ltb-true (length cs) (2 ^ suc level) less)) ∙ beside_value (Inl UnitValue) (list_value level cs)
      | false ↦ λ more.
          let f = some_list level (drop (2 ^ suc level) cs) (omega (arith, twice, h, ltb-false (length cs) (2 ^ suc level) more, length-drop (2 ^ suc level) cs)) in
          ap (λ o. paired (to_some o) (answer_list level (drop (2 ^ suc level) (map Some cs)))) (ap answer_tuple (sym (take_map Some (2 ^ suc level) cs)) ∙ all_some (take (2 ^ suc level) cs))
          ∙ ap (paired (Some (Inr (tuple_value (take (2 ^ suc level) cs))))) (ap (answer_list level) (sym (drop_map Some (2 ^ suc level) cs)) ∙ f)
          ∙ beside_value (Inr (tuple_value (take (2 ^ suc level) cs))) (list_value level (drop (2 ^ suc level) cs))
    ] refl

-- some item fails

any_append : (xs ys : List (Option Value)) → any_none (xs ++ ys) ≡ (any_none xs || any_none ys)
any_append [] ys = refl
any_append (x ∷ xs) ys = ap (λ b. is_none x || b) (any_append xs ys) ∙ sym (or_assoc (is_none x) (any_none xs) (any_none ys))

fails_right : (o : Option Value) → paired o None ≡ None
fails_right (Some v) = refl
fails_right None = refl

fails_either : (a b : Bool) (first second : Option Value) → (a || b) ≡ true → (a ≡ true → first ≡ None) → (b ≡ true → second ≡ None) → paired (to_some first) second ≡ None
fails_either true b first second h f g = rw (f refl) refl
fails_either false b first second h f g = rw (g h) (fails_right (to_some first))

pub none_list : (level : ℕ) (os : List (Option Value)) → length os < 2 ^ suc level → any_none os ≡ true → answer_list level os ≡ None
none_list zero [] h e = absurd (cc)
none_list zero (None ∷ []) h e = refl
none_list zero (Some v ∷ []) h e = absurd (cc)
none_list zero (o ∷ p ∷ os) h e = absurd (omega arith)
none_list (suc level) os h e =
    let twice : 2 ^ suc (suc level) ≡ 2 * 2 ^ suc level = pow-succ' 2 (suc level) in
    elim (nat_lt (length os) (2 ^ suc level)) as (λ b. nat_lt (length os) (2 ^ suc level) ≡ b →
    (if b then paired (Some (Inl UnitValue)) (answer_list level os) else paired (to_some (answer_tuple (take (2 ^ suc level) os))) (answer_list level (drop (2 ^ suc level) os))) ≡ None) [
      | true ↦ λ less. ap (paired (Some (Inl UnitValue))) (none_list level os (ltb-true (length os) (2 ^ suc level) less) e)
      | false ↦ λ more.
          fails_either (any_none (take (2 ^ suc level) os)) (any_none (drop (2 ^ suc level) os)) (answer_tuple (take (2 ^ suc level) os)) (answer_list level (drop (2 ^ suc level) os))
          (sym (any_append (take (2 ^ suc level) os) (drop (2 ^ suc level) os)) ∙ ap any_none (take-append-drop (2 ^ suc level) os) ∙ e)
          (none_fails (take (2 ^ suc level) os))
          (none_list level (drop (2 ^ suc level) os) (omega (arith, twice, h, ltb-false (length os) (2 ^ suc level) more, length-drop (2 ^ suc level) os)))
    ] refl

-- its arrow

pub record ItemRight (a item : Kind) (t : Declared) : Type 0 where
  pub from : source t ≡ a
  pub to : target t ≡ item
  pub typed : IsTypedTerm t

abbrev pub AreItems : Kind → Kind → List Declared → Type 0
AreItems a item [] = Unit {0}
AreItems a item (t ∷ ts) = ItemRight a item t × AreItems a item ts

items_take : (a item : Kind) (n : ℕ) (ts : List Declared) → AreItems a item ts → AreItems a item (take n ts)
items_take a item zero ts h = tt
items_take a item (suc n) [] h = tt
items_take a item (suc n) (t ∷ ts) h = (h.0, items_take a item n ts h.1)

items_drop : (a item : Kind) (n : ℕ) (ts : List Declared) → AreItems a item ts → AreItems a item (drop n ts)
items_drop a item zero ts h = h
items_drop a item (suc n) [] h = tt
items_drop a item (suc n) (t ∷ ts) h = items_drop a item n ts h.1

item_pieces : (a item : Kind) (ts : List Declared) → AreItems a item ts → Pieces a ts (replicate (length ts) item)
item_pieces a item [] h = record { pieces = []; terms = refl; kinds = refl }
item_pieces a item (t ∷ ts) h =
    let rest = item_pieces a item ts h.1 in
    record {
      pieces = record { term = t; kind = item; from = h.0.from; to = h.0.to; typed = h.0.typed } ∷ rest.pieces;
      terms = ap (λ l. t ∷ l) rest.terms;
      kinds = ap (λ l. item ∷ l) rest.kinds;
    }

pub list_right : (a item : Kind) (level : ℕ) (ts : List Declared) → AreItems a item ts → ItemRight a (list_kind level item) (list_term a item level ts)
list_right a item zero [] h = record { from = refl; to = refl; typed = typed_left item (unit a) (row.UnitTerm a) }
list_right a item zero (t ∷ ts) h = record { from = h.0.from; to = ap (Sum One) h.0.to; typed = typed_right One t h.0.typed }
list_right a item (suc level) ts h =
    elim (nat_lt (length ts) (2 ^ suc level)) as (λ b. nat_lt (length ts) (2 ^ suc level) ≡ b → ItemRight a (list_kind (suc level) item)
    (if b then pair (to_left (copies_kind (2 ^ suc level) item) (unit a)) (list_term a item level ts) else pair (to_right One (tuple a (take (2 ^ suc level) ts))) (list_term a item level (drop (2 ^ suc level) ts)))) [
      | true ↦ λ less.
          let rest = list_right a item level ts h in
          let first = to_left (copies_kind (2 ^ suc level) item) (unit a) in
          record { from = refl; to = ap (Product (Sum One (copies_kind (2 ^ suc level) item))) rest.to; typed = typed_pair first (list_term a item level ts) (typed_left (copies_kind (2 ^ suc level) item) (unit a) (row.UnitTerm a)) rest.typed rest.from }
      | false ↦ λ more.
          let rest = list_right a item level (drop (2 ^ suc level) ts) (items_drop a item (2 ^ suc level) ts h) in
          let front = take (2 ^ suc level) ts in
          let block = tuple_right a front (replicate (length front) item) (item_pieces a item front (items_take a item (2 ^ suc level) ts h)) in
          let many : length front ≡ 2 ^ suc level = omega (arith, ltb-false (length ts) (2 ^ suc level) more, length-take (2 ^ suc level) ts) in
          let block_to : target (tuple a front) ≡ copies_kind (2 ^ suc level) item = block.to ∙ ap (λ n. copies_kind n item) many in
          record {
            from = block.from;
            to = ap (λ k. Product (Sum One k) (target (list_term a item level (drop (2 ^ suc level) ts)))) block_to ∙ ap (Product (Sum One (copies_kind (2 ^ suc level) item))) rest.to;
            typed = typed_pair (to_right One (tuple a front)) (list_term a item level (drop (2 ^ suc level) ts)) (typed_right One (tuple a front) block.typed) rest.typed (rest.from ∙ sym block.from);
          }
    ] refl
