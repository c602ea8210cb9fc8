-- A fold by halves means the recursion from the first item.
use Rattle.std.proofs.Common.{◌≡◌, ℕ, zero, suc, ◌-◌, ◌/◌, ◌^◌, ◌≤◌, Bool, true, false, nat_lt, List, [], ◌∷◌, ◌++◌, length, take, drop, replicate, Option, Some, None, option_map, refl, sym, ap, ◌∙◌, subst, arith, length-take, length-drop}
use Rattle.std.specs.Prelude.{if◌then◌else◌}
use Rattle.std.proofs.lemmas.Bool.{ltb-false}
use Rattle.std.proofs.lemmas.List.{length-replicate, take-replicate, drop-replicate, take-append-drop}
use Rattle.hl_meaning.specs.Values.{list_value}
use Rattle.simplicity.specs.Canon.{Declared, erased}
use Rattle.simplicity.proofs.Loops.{core_sequence}
use Rattle.simplicity.proofs.Loops.{folded_append as append}
use Rattle.simplicity.specs.Loops.{core_answering, core_folded}
use Rattle.simplicity.specs.Terms.{Answer, meaning, and_then, paired}
use Rattle.simplicity.specs.Tuples.{halves, tuple_value}
use Rattle.simplicity.specs.Types.{Value, UnitValue, Inl, Inr, Pair}
use Rattle.loop_laws.specs.Trees.{in_turn, made_before, made_kind, array_fold, list_fold, where_there}
use Rattle.loop_laws.specs.Laws.{on_items, ArraysFold, ListsFold}

some_same : (x y : Value) → Some x ≡ Some y → x ≡ y
some_same x y e = cc

folded_append : (g : Value → Value → Answer) (us vs : List Value) (a : Value) → core_folded g (us ++ vs) a ≡ and_then (core_folded g us a) (core_folded g vs)
folded_append g us vs a = append core_answering core_sequence g us vs a

module _ (w : List Value) where
  abbrev mean : Declared → Value → Answer
  mean t v = meaning (erased t) w v

  -- one after the other
  pub in_turn_means : (g : Value → Value → Answer) (s t : Declared) (us vs : List Value) (x y a : Value) → ((b : Value) → mean s (Pair x b) ≡ core_folded g us b) → ((b : Value) → mean t (Pair y b) ≡ core_folded g vs b) →
      mean (in_turn s t) (Pair (Pair x y) a) ≡ core_folded g (us ++ vs) a
  in_turn_means g s t us vs x y a first second = ap (λ o. and_then (paired (Some y) o) (mean t)) (first a) ∙ go (core_folded g us a) ∙ sym (folded_append g us vs a)
    where
      go : (o : Answer) → and_then (paired (Some y) o) (mean t) ≡ and_then o (core_folded g vs)
      go None = refl
      go (Some b) = second b

  halves_mean : (f : Declared) (turns : ℕ) (vs : List Value) (a : Value) → length vs ≤ turns →
      mean (halves turns (made_before (made_kind f)) in_turn (replicate (length vs) f)) (Pair (halves turns UnitValue Pair vs) a) ≡ core_folded (on_items w f) vs a
  halves_mean f turns [] a h = refl
  halves_mean f turns (v ∷ []) a h = go (mean f (Pair v a))
    where
      go : (o : Answer) → o ≡ and_then o Some
      go None = refl
      go (Some b) = refl
  halves_mean f zero (u ∷ v ∷ vs) a h = absurd (omega arith)
  halves_mean f (suc turns) (u ∷ v ∷ vs) a h =
      let l : List Value = u ∷ v ∷ vs in
      let n : ℕ = length l / 2 in
      let long : length (replicate (length l) f) ≡ length l = length-replicate (length l) f in
      let front_length : length (take n l) ≡ n = omega (arith, length-take n l) in
      let back_length : length (drop n l) ≡ length l - n = length-drop n l in
      let front : take (length (replicate (length l) f) / 2) (replicate (length l) f) ≡ replicate (length (take n l)) f = rw (long, front_length) (take-replicate n (length l) f (omega arith)) in
      let back : drop (length (replicate (length l) f) / 2) (replicate (length l) f) ≡ replicate (length (drop n l)) f = rw (long, back_length) (drop-replicate n (length l) f) in
      ap (λ fs. mean (in_turn (halves turns (made_before (made_kind f)) in_turn fs) (halves turns (made_before (made_kind f)) in_turn (drop (length (replicate (length l) f) / 2) (replicate (length l) f)))) (Pair (halves (suc turns) UnitValue Pair l) a)) front
      ∙ ap (λ fs. mean (in_turn (halves turns (made_before (made_kind f)) in_turn (replicate (length (take n l)) f)) (halves turns (made_before (made_kind f)) in_turn fs)) (Pair (halves (suc turns) UnitValue Pair l) a)) back
      ∙ in_turn_means (on_items w f) (halves turns (made_before (made_kind f)) in_turn (replicate (length (take n l)) f)) (halves turns (made_before (made_kind f)) in_turn (replicate (length (drop n l)) f)) (take n l) (drop n l)
      (halves turns UnitValue Pair (take n l)) (halves turns UnitValue Pair (drop n l)) a
      (λ b. halves_mean f turns (take n l) b (omega (arith, h, front_length))) (λ b. halves_mean f turns (drop n l) b (omega (arith, h, back_length)))
      ∙ ap (λ xs. core_folded (on_items w f) xs a) (take-append-drop n l)

  pub array_means : (f : Declared) (vs : List Value) (a : Value) → mean (array_fold f (length vs)) (Pair (tuple_value vs) a) ≡ core_folded (on_items w f) vs a
  array_means f vs a = halves_mean f (length vs) vs a (omega arith)

  -- a block that is there
  block_means : (f : Declared) (count : ℕ) (vs : List Value) (a : Value) → length vs ≡ count → mean (where_there (array_fold f count)) (Pair (Inr (tuple_value vs)) a) ≡ core_folded (on_items w f) vs a
  block_means f count vs a is = ap (λ n. mean (array_fold f n) (Pair (tuple_value vs) a)) (sym is) ∙ array_means f vs a

  pub record Beside (first : Value) (o : Option Value) (c : Value) : Type 0 where
    pub rest : Value
    pub was : o ≡ Some rest
    pub is : Pair first rest ≡ c

  beside : (first : Value) (o : Option Value) (c : Value) → option_map (Pair first) o ≡ Some c → Beside first o c
  beside first None c e = absurd cc
  beside first (Some d) c e = record { rest = d; was = refl; is = cc }

  abbrev ListMeans : Declared → ℕ → Type 0
  ListMeans f level = (vs : List Value) (c a : Value) → list_value level vs ≡ Some c → mean (list_fold f level) (Pair c a) ≡ core_folded (on_items w f) vs a

  by_length : (f : Declared) (level : ℕ) → ListMeans f level → (vs : List Value) (c a : Value) (b : Bool) → nat_lt (length vs) (2 ^ suc level) ≡ b →
      (if b then option_map (Pair (Inl UnitValue)) (list_value level vs) else option_map (Pair (Inr (tuple_value (take (2 ^ suc level) vs)))) (list_value level (drop (2 ^ suc level) vs))) ≡ Some c →
      mean (list_fold f (suc level)) (Pair c a) ≡ core_folded (on_items w f) vs a
  by_length f level ih vs c a true less e =
      let r = beside (Inl UnitValue) (list_value level vs) c e in
      subst (λ x. mean (list_fold f (suc level)) (Pair x a) ≡ core_folded (on_items w f) vs a) r.is
      (in_turn_means (on_items w f) (where_there (array_fold f (2 ^ suc level))) (list_fold f level) [] vs (Inl UnitValue) r.rest a (λ b. refl) (λ b. ih vs r.rest b r.was))
  by_length f level ih vs c a false more e =
      let front = take (2 ^ suc level) vs in
      let back = drop (2 ^ suc level) vs in
      let r = beside (Inr (tuple_value front)) (list_value level back) c e in
      subst (λ x. mean (list_fold f (suc level)) (Pair x a) ≡ core_folded (on_items w f) vs a) r.is
      (in_turn_means (on_items w f) (where_there (array_fold f (2 ^ suc level))) (list_fold f level) front back (Inr (tuple_value front)) r.rest a
      (λ b. block_means f (2 ^ suc level) front b (omega (arith, ltb-false (length vs) (2 ^ suc level) more, length-take (2 ^ suc level) vs))) (λ b. ih back r.rest b r.was)
      ∙ ap (λ xs. core_folded (on_items w f) xs a) (take-append-drop (2 ^ suc level) vs))

  pub list_means : (f : Declared) (level : ℕ) (vs : List Value) (c a : Value) → list_value level vs ≡ Some c → mean (list_fold f level) (Pair c a) ≡ core_folded (on_items w f) vs a
  list_means f zero [] c a e = subst (λ x. mean (list_fold f zero) (Pair x a) ≡ Some a) (some_same (Inl UnitValue) c e) refl
  list_means f zero (v ∷ []) c a e = subst (λ x. mean (list_fold f zero) (Pair x a) ≡ core_folded (on_items w f) (v ∷ []) a) (some_same (Inr v) c e) (halves_mean f 1 (v ∷ []) a (omega arith))
  list_means f zero (u ∷ v ∷ vs) c a e = absurd cc
  list_means f (suc level) vs c a e = by_length f level (λ us d b h. list_means f level us d b h) vs c a (nat_lt (length vs) (2 ^ suc level)) refl e

pub arrays_fold : ArraysFold
arrays_fold w f vs a = array_means w f vs a

pub lists_fold : ListsFold
lists_fold w f level vs c a e = list_means w f level vs c a e
