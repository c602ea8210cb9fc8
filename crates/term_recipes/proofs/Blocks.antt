-- Lists by blocks, in tables that grow meanwhile.
use Rattle.std.proofs.Common.{◌≡◌, ℕ, zero, suc, ◌-◌, ◌*◌, ◌/◌, ◌^◌, ◌<◌, ◌≤◌, Bool, true, false, nat_lt, List, [], ◌∷◌, length, map, take, drop, refl, sym, ap, ◌∙◌, subst, arith, if◌then◌else◌, Result, Ok, Err}
use Rattle.std.specs.Prelude.{IfOk}
use Rattle.std.specs.declared.alloc.AllocError.{AllocError}
use Rattle.std.proofs.lemmas.Bool.{ltb-false}
use Rattle.std.proofs.lemmas.List.{length-map}
use Rattle.std.proofs.Math.Nat.{pow-succ'}
use Rattle.std.proofs.lemmas.Nat.{pow_pos}
use Rattle.simplicity.specs.Arrows.{IsTypedTerm}
use Rattle.simplicity.specs.Canon.{Declared}
use Rattle.simplicity.specs.Makes.{unit, pair, to_left, to_right, tuple}
use Rattle.simplicity.specs.Tuples.{copies_kind}
use Rattle.simplicity.specs.Types.{Kind, One, Product}
use Rattle.simplicity.proofs.Tuples.{copies_pair, take_map, drop_map}
use Rattle.type_table.specs.Kinds.{kind_at, Means, IsGrown}
use Rattle.term_core.specs.declared.table_node.TermRow.{TermRow}
use Rattle.term_core.specs.Terms.{term_at, StandsOver, MeansTerm, KeepsRows}
use Rattle.hl_terms.specs.Translated.{list_term}
use Rattle.term_recipes.specs.Shapes.{terms_at, AreThere, in_block, block_term}
use Rattle.term_recipes.proofs.Later.{term_later, kind_later, pair_same}
use Rattle.term_recipes.proofs.Halved.{terms_later}

-- twice as many items
pub copies_double : (j : ℕ) (k : Kind) → copies_kind (2 ^ suc j) k ≡ Product (copies_kind (2 ^ j) k) (copies_kind (2 ^ j) k)
copies_double j k =
    let twice : 2 ^ suc j ≡ 2 * 2 ^ j = pow-succ' 2 j in
    let some : 0 < 2 ^ j = pow_pos j in
    let half : 2 ^ suc j / 2 ≡ 2 ^ j = omega arith in
    let rest : 2 ^ suc j - 2 ^ suc j / 2 ≡ 2 ^ j = omega arith in
    copies_pair (2 ^ suc j) k (omega arith) ∙ ap (λ n. Product (copies_kind n k) (copies_kind (2 ^ suc j - 2 ^ suc j / 2) k)) half ∙ ap (λ n. Product (copies_kind (2 ^ j) k) (copies_kind n k)) rest

pub block_doubled : (kinds new : List Kind) (level half id : ℕ) (k : Kind) → 0 < level → Means kinds half (copies_kind (2 ^ (level - 1)) k) → Means new id (Product (kind_at kinds half) (kind_at kinds half)) →
    Means new id (copies_kind (2 ^ level) k)
block_doubled kinds new level half id k above h m =
    let up : suc (level - 1) ≡ level = omega arith in
    record { within = m.within; is = m.is ∙ ap (λ j. Product j j) h.is ∙ sym (copies_double (level - 1) k) ∙ ap (λ n. copies_kind (2 ^ n) k) up }

pub doubled_ok : (kinds new : List Kind) (level half : ℕ) (k : Kind) (r : Result ℕ AllocError) → 0 < level → Means kinds half (copies_kind (2 ^ (level - 1)) k) →
    IfOk r (λ id. Means new id (Product (kind_at kinds half) (kind_at kinds half))) → IfOk r (λ id. Means new id (copies_kind (2 ^ level) k))
doubled_ok kinds new level half k (Ok id) above h m = block_doubled kinds new level half id k above h m
doubled_ok kinds new level half k (Err e) above h m = tt

-- a block that is filled has an item
filled : (a item : Kind) (level n : ℕ) (ts : List Declared) → 0 < n → n ≤ length ts → block_term a item level (take n ts) ≡ to_right One (tuple a (take n ts))
filled a item level zero ts some long = absurd (omega arith)
filled a item level (suc n) [] some long = absurd (omega arith)
filled a item level (suc n) (t ∷ ts) some long = refl

list_next : (a item : Kind) (j : ℕ) (ts : List Declared) →
    list_term a item (suc j) ts ≡ pair (block_term a item (suc j) (take (in_block (suc j) (length ts)) ts)) (list_term a item j (drop (in_block (suc j) (length ts)) ts))
list_next a item j ts = by_size (nat_lt (length ts) (2 ^ suc j)) refl
  where
    cut : Bool → ℕ
    cut b = if b then 0 else 2 ^ suc j

    by_size : (b : Bool) → nat_lt (length ts) (2 ^ suc j) ≡ b →
        (if b then pair (to_left (copies_kind (2 ^ suc j) item) (unit a)) (list_term a item j ts) else pair (to_right One (tuple a (take (2 ^ suc j) ts))) (list_term a item j (drop (2 ^ suc j) ts)))
        ≡ pair (block_term a item (suc j) (take (if b then 0 else 2 ^ suc j) ts)) (list_term a item j (drop (if b then 0 else 2 ^ suc j) ts))
    by_size true e = refl
    by_size false e =
        let more : 2 ^ suc j ≤ length ts = ltb-false (length ts) (2 ^ suc j) e in
        let some : 0 < 2 ^ suc j = pow_pos (suc j) in
        ap (λ t. pair t (list_term a item j (drop (2 ^ suc j) ts))) (sym (filled a item (suc j) (2 ^ suc j) ts some more))

module _ (kinds : List Kind) (rows : List TermRow) (a item : Kind) (level size : ℕ) (ids front back : List ℕ) (above : 0 < level) (size_is : size ≡ in_block level (length ids)) (front_is : front ≡ take size ids) (back_is : back ≡ drop size ids) where
  pub blocks_are : list_term a item level (terms_at kinds rows ids) ≡ pair (block_term a item level (terms_at kinds rows front)) (list_term a item (level - 1) (terms_at kinds rows back))
  blocks_are =
      let f = term_at kinds rows in
      let up : level ≡ suc (level - 1) = omega arith in
      let cut : in_block (suc (level - 1)) (length (map f ids)) ≡ size = ap (in_block (suc (level - 1))) (length-map ids f) ∙ ap (λ l. in_block l (length ids)) (sym up) ∙ sym size_is in
      ap (λ l. list_term a item l (map f ids)) up
      ∙ list_next a item (level - 1) (map f ids)
      ∙ ap (λ n. pair (block_term a item (suc (level - 1)) (take n (map f ids))) (list_term a item (level - 1) (drop n (map f ids)))) cut
      ∙ ap (λ l. pair (block_term a item l (take size (map f ids))) (list_term a item (level - 1) (drop size (map f ids)))) (sym up)
      ∙ ap (λ ts. pair (block_term a item level ts) (list_term a item (level - 1) (drop size (map f ids)))) (sym (take_map f size ids))
      ∙ ap (λ ts. pair (block_term a item level (map f (take size ids))) (list_term a item (level - 1) ts)) (sym (drop_map f size ids))
      ∙ ap (λ some. pair (block_term a item level (map f some)) (list_term a item (level - 1) (map f (drop size ids)))) (sym front_is)
      ∙ ap (λ some. pair (block_term a item level (map f front)) (list_term a item (level - 1) (map f some))) (sym back_is)

  pub block_typed : IsTypedTerm (list_term a item level (terms_at kinds rows ids)) → IsTypedTerm (block_term a item level (terms_at kinds rows front))
  block_typed h =
      let both : IsTypedTerm (pair (block_term a item level (terms_at kinds rows front)) (list_term a item (level - 1) (terms_at kinds rows back))) = subst IsTypedTerm blocks_are h in both.1

  pub rest_typed : IsTypedTerm (list_term a item level (terms_at kinds rows ids)) → IsTypedTerm (list_term a item (level - 1) (terms_at kinds rows back))
  rest_typed h =
      let both : IsTypedTerm (pair (block_term a item level (terms_at kinds rows front)) (list_term a item (level - 1) (terms_at kinds rows back))) = subst IsTypedTerm blocks_are h in both.2

-- the rest of a list of items that were there
pub list_later : (kinds more : List Kind) (rows later : List TermRow) (source item level : ℕ) (ids : List ℕ) → StandsOver kinds rows → IsGrown kinds more → KeepsRows rows later → source < length kinds → item < length kinds → AreThere rows ids →
    list_term (kind_at more source) (kind_at more item) level (terms_at more later ids) ≡ list_term (kind_at kinds source) (kind_at kinds item) level (terms_at kinds rows ids)
list_later kinds more rows later source item level ids stands grown kept within item_in there =
    ap (λ a. list_term a (kind_at more item) level (terms_at more later ids)) (kind_later kinds more source grown within)
    ∙ ap (λ b. list_term (kind_at kinds source) b level (terms_at more later ids)) (kind_later kinds more item grown item_in)
    ∙ ap (list_term (kind_at kinds source) (kind_at kinds item) level) (terms_later kinds more rows later ids stands grown kept there)

-- the block and the rest, once they are made
pub blocks_made : (kinds one two : List Kind) (rows first_rows later : List TermRow) (source item level size block rest : ℕ) (ids front back : List ℕ) → 0 < level → size ≡ in_block level (length ids) → front ≡ take size ids → back ≡ drop size ids →
    StandsOver kinds rows → StandsOver one first_rows → IsGrown kinds one → IsGrown one two → KeepsRows rows first_rows → KeepsRows first_rows later → source < length kinds → item < length kinds → AreThere rows back →
    MeansTerm one first_rows block (block_term (kind_at kinds source) (kind_at kinds item) level (terms_at kinds rows front)) →
    MeansTerm two later rest (list_term (kind_at one source) (kind_at one item) (level - 1) (terms_at one first_rows back)) →
    pair (term_at two later block) (term_at two later rest) ≡ list_term (kind_at kinds source) (kind_at kinds item) level (terms_at kinds rows ids)
blocks_made kinds one two rows first_rows later source item level size block rest ids front back above size_is front_is back_is stands stands_one grown more kept kept_on within item_in there b r =
    let a = kind_at kinds source in
    let k = kind_at kinds item in
    pair_same (term_at two later block) (term_at two later rest) (block_term a k level (terms_at kinds rows front)) (list_term a k (level - 1) (terms_at kinds rows back))
    (term_later one two first_rows later block stands_one more kept_on b.within ∙ b.is) (r.is ∙ list_later kinds one rows first_rows source item (level - 1) back stands grown kept within item_in there)
    ∙ sym (blocks_are kinds rows a k level size ids front back above size_is front_is back_is)
