-- Tuples and lists taken apart.
use Rattle.std.proofs.Common.{◌≡◌, ℕ, zero, suc, ◌-◌, ◌*◌, ◌/◌, ◌%◌, ◌^◌, ◌<◌, true, false, nat_lt, List, [], ◌∷◌, ◌++◌, length, take, drop, Some, refl, sym, ap, ◌∙◌, arith, append_assoc, length-take, length-drop}
use Rattle.std.proofs.lemmas.Bool.{ltb-false}
use Rattle.std.proofs.lemmas.List.{take-append-drop}
use denote.Bor.{Bor}
use Rattle.core_data.specs.declared.data.CoreValue.{CoreValue}
use Rattle.core_data.specs.Data.{value_of}
use Rattle.simplicity.specs.Types.{Value, UnitValue, Inl, Inr, Pair}
use Rattle.simplicity.specs.Tuples.{tuple_value}
use Rattle.simplicity.proofs.Tuples.{tuple_pair}
use Rattle.hl_meaning.specs.Values.{list_value}
use Rattle.hl_values.specs.Leaves.{lent, IsTuple, IsList, PushesParts, PushesItems}
use Rattle.hl_values.proofs.Lasts.{shifted}
use Rattle.hl_values.proofs.Lists.{mapped}

-- the two halves of a tuple
record Halves (count : ℕ) (parts : List Value) (a b : Value) : Type 0 where
  front : tuple_value (take (count / 2) parts) ≡ a
  back : tuple_value (drop (count / 2) parts) ≡ b
  front_long : length (take (count / 2) parts) ≡ count / 2
  back_long : length (drop (count / 2) parts) ≡ count - count / 2

halves_of : (count : ℕ) (parts : List Value) (v a b : Value) → 1 < count → length parts ≡ count → tuple_value parts ≡ v → v ≡ Pair a b → Halves count parts a b
halves_of count parts v a b several n is pair =
    let both : Pair (tuple_value (take (count / 2) parts)) (tuple_value (drop (count / 2) parts)) ≡ Pair a b =
    sym (tuple_pair parts (omega (arith, n)) ∙ ap (λ m. Pair (tuple_value (take (m / 2) parts)) (tuple_value (drop (m / 2) parts))) n) ∙ is ∙ pair in
    record { front = cc; back = cc; front_long = omega (arith, n, length-take (count / 2) parts); back_long = omega (arith, n, length-drop (count / 2) parts) }

pub first_half : (count : ℕ) (v a b : Value) → 1 < count → IsTuple count v → v ≡ Pair a b → IsTuple (count / 2) a
first_half count v a b several t pair =
    let h = halves_of count t.parts v a b several t.long t.is pair in record { parts = take (count / 2) t.parts; long = h.front_long; is = h.front }

pub second_half : (count : ℕ) (v a b : Value) → 1 < count → IsTuple count v → v ≡ Pair a b → IsTuple (count - count / 2) b
second_half count v a b several t pair =
    let h = halves_of count t.parts v a b several t.long t.is pair in record { parts = drop (count / 2) t.parts; long = h.back_long; is = h.back }

pub halves_pushed : (old mid new : List (Bor CoreValue)) (count : ℕ) (v a b : Value) → 1 < count → v ≡ Pair a b → PushesParts old mid (count / 2) a → PushesParts mid new (count - count / 2) b → PushesParts old new count v
halves_pushed old mid new count v a b several pair s t = record { pushes = go }
  where
    go : (parts : List Value) → length parts ≡ count → tuple_value parts ≡ v → lent new ≡ lent old ++ parts
    go parts n is =
        let h = halves_of count parts v a b several n is pair in
        t.pushes (drop (count / 2) parts) h.back_long h.back ∙ ap (λ vs. vs ++ drop (count / 2) parts) (s.pushes (take (count / 2) parts) h.front_long h.front)
        ∙ append_assoc (lent old) (take (count / 2) parts) (drop (count / 2) parts) ∙ ap (λ vs. lent old ++ vs) (take-append-drop (count / 2) parts)

-- Lists: where a list is a pair, the block of its first items, and the shorter list.

record Apart (level : ℕ) (items : List Value) (choice rest : Value) : Type 0 where
  some : 0 < level
  front : List Value
  back : List Value
  is : items ≡ front ++ back
  shorter : list_value (level - 1) back ≡ Some rest
  none : ((b : Value) → choice ≡ Inr b → ⊥) → front ≡ []
  block : (b : Value) → choice ≡ Inr b → (length front ≡ 2 ^ level) × (tuple_value front ≡ b)

list_apart : (level : ℕ) (items : List Value) (v choice rest : Value) → list_value level items ≡ Some v → v ≡ Pair choice rest → Apart level items choice rest
list_apart zero [] v choice rest h pair = absurd (cc)
list_apart zero (x ∷ []) v choice rest h pair = absurd (cc)
list_apart zero (x ∷ y ∷ items) v choice rest h pair = absurd (cc)
list_apart (suc level) items v choice rest h pair =
    let same : suc level - 1 ≡ level = omega arith in
    elim (nat_lt (length items) (2 ^ suc level)) as (λ b. nat_lt (length items) (2 ^ suc level) ≡ b → Apart (suc level) items choice rest) [
      | true ↦ λ less.
          let h' = rw less at h in
          let m = mapped (Pair (Inl UnitValue)) (list_value level items) v h' in
          let pairs : Pair (Inl UnitValue) m.from ≡ Pair choice rest = sym m.is ∙ pair in
          let rest_is : m.from ≡ rest = cc in let choice_is : choice ≡ Inl UnitValue = cc in
          record { some = omega arith; front = []; back = items; is = refl; shorter = rw same (m.was ∙ ap Some rest_is); none = λ no. refl; block = λ b e. absurd (cc) }
      | false ↦ λ more.
          let h' = rw more at h in
          let m = mapped (Pair (Inr (tuple_value (take (2 ^ suc level) items)))) (list_value level (drop (2 ^ suc level) items)) v h' in
          let pairs : Pair (Inr (tuple_value (take (2 ^ suc level) items))) m.from ≡ Pair choice rest = sym m.is ∙ pair in
          let rest_is : m.from ≡ rest = cc in let choice_is : choice ≡ Inr (tuple_value (take (2 ^ suc level) items)) = cc in
          record {
            some = omega arith;
            front = take (2 ^ suc level) items;
            back = drop (2 ^ suc level) items;
            is = sym (take-append-drop (2 ^ suc level) items);
            shorter = rw same (m.was ∙ ap Some rest_is);
            none = λ no. absurd (no (tuple_value (take (2 ^ suc level) items)) choice_is);
            block = λ b e. (omega (arith, ltb-false _ _ more, length-take (2 ^ suc level) items), cc);
          }
    ] refl

pub level_some : (level : ℕ) (v choice rest : Value) → IsList level v → v ≡ Pair choice rest → 0 < level
level_some level v choice rest l pair = (list_apart level l.items v choice rest l.is pair).some

pub rest_there : (level : ℕ) (v choice rest : Value) → IsList level v → v ≡ Pair choice rest → IsList (level - 1) rest
rest_there level v choice rest l pair = let a = list_apart level l.items v choice rest l.is pair in record { items = a.back; is = a.shorter }

pub block_there : (level : ℕ) (v choice rest b : Value) → level < 16 → IsList level v → v ≡ Pair choice rest → choice ≡ Inr b → IsTuple (1 * 2 ^ level % 18446744073709551616) b
block_there level v choice rest b low l pair is =
    let a = list_apart level l.items v choice rest l.is pair in let both = a.block b is in
    rw (shifted level low) (record { parts = a.front; long = both.0; is = both.1 })

pub item_pushed : (old new : List (Bor CoreValue)) (item : Bor CoreValue) (level : ℕ) (v x : Value) → v ≡ Inr x → x ≡ value_of item.now → new ≡ old ++ item ∷ [] → PushesItems old new level v
item_pushed old new item level v x is same pushed = record { pushes = go level }
  where
    lent_push : (bs : List (Bor CoreValue)) (b : Bor CoreValue) → lent (bs ++ b ∷ []) ≡ lent bs ++ value_of b.now ∷ []
    lent_push [] b = refl
    lent_push (c ∷ bs) b = ap (λ vs. value_of c.now ∷ vs) (lent_push bs b)

    go : (level : ℕ) (items : List Value) → list_value level items ≡ Some v → lent new ≡ lent old ++ items
    go zero [] h = absurd (cc)
    go zero (y ∷ []) h = let e : y ≡ x = cc in rw (pushed, e, same) (lent_push old item)
    go zero (y ∷ z ∷ items) h = absurd (cc)
    go (suc level) items h = absurd (no_pair level items h)
      where
        no_pair : (level : ℕ) (items : List Value) → list_value (suc level) items ≡ Some v → ⊥
        no_pair level items h =
            elim (nat_lt (length items) (2 ^ suc level)) as (λ b. nat_lt (length items) (2 ^ suc level) ≡ b → ⊥) [
              | true ↦ λ less. let m = mapped (Pair (Inl UnitValue)) (list_value level items) v (rw less at h) in let e = m.is in let no : ⊥ = cc in no
              | false ↦ λ more. let m = mapped (Pair (Inr (tuple_value (take (2 ^ suc level) items)))) (list_value level (drop (2 ^ suc level) items)) v (rw more at h) in let e = m.is in let no : ⊥ = cc in no
            ] refl

pub short_pushed : (old new : List (Bor CoreValue)) (level : ℕ) (v choice rest : Value) → v ≡ Pair choice rest → ((b : Value) → choice ≡ Inr b → ⊥) → PushesItems old new (level - 1) rest → PushesItems old new level v
short_pushed old new level v choice rest pair no_block t = record { pushes = go }
  where
    go : (items : List Value) → list_value level items ≡ Some v → lent new ≡ lent old ++ items
    go items h = let a = list_apart level items v choice rest h pair in
        let e = a.none no_block in
        let same : items ≡ a.back = a.is ∙ rw e refl in
        t.pushes a.back a.shorter ∙ ap (λ vs. lent old ++ vs) (sym same)

pub block_pushed : (old mid new : List (Bor CoreValue)) (level : ℕ) (v choice rest b : Value) → level < 16 → v ≡ Pair choice rest → choice ≡ Inr b → PushesParts old mid (1 * 2 ^ level % 18446744073709551616) b → PushesItems mid new (level - 1) rest → PushesItems old new level v
block_pushed old mid new level v choice rest b low pair is s t = record { pushes = go }
  where
    go : (items : List Value) → list_value level items ≡ Some v → lent new ≡ lent old ++ items
    go items h =
        let a = list_apart level items v choice rest h pair in let both = a.block b is in
        t.pushes a.back a.shorter ∙ ap (λ vs. vs ++ a.back) (s.pushes a.front (rw (shifted level low) both.0) both.1) ∙ append_assoc (lent old) a.front a.back ∙ ap (λ vs. lent old ++ vs) (sym a.is)
