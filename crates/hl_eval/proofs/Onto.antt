-- Names put before a scope, from the last to the first.
use Rattle.std.proofs.Common.{◌≡◌, ◌≢◌, ℕ, zero, suc, ◌≤◌, List, [], ◌∷◌, ◌++◌, length, map, take, Option, Some, None, option_map, refl, sym, ap, ◌∙◌, arith, append_assoc, append-nil, length-append}
use Rattle.std.specs.Prelude.{option_and_then, slice_get}
use Rattle.std.proofs.lemmas.List.{map-append, length-map}
use Rattle.std.proofs.Math.Seq.{take-length}
use Rattle.hl_data.specs.declared.value.HlValue.{HlValue}
use Rattle.hl_meaning.specs.Scopes.{Scope, Binder, each_bound}
use Rattle.hl_meaning.specs.Values.{beside}

abbrev over : Option Scope → Scope → Option Scope
over o s = option_map (λ new. new ++ s) o

over_beside : (a b : Option Scope) (s : Scope) → over (beside (λ x y. x ++ y) a b) s ≡ option_and_then (over a) (over b s)
over_beside None None s = refl
over_beside None (Some y) s = refl
over_beside (Some x) None s = refl
over_beside (Some x) (Some y) s = ap Some (append_assoc x y s)

over_nested : (a b o : Option Scope) → option_and_then (over a) (option_and_then (over b) o) ≡ option_and_then (over (beside (λ x y. x ++ y) a b)) o
over_nested a b None = refl
over_nested a b (Some s) = sym (over_beside a b s)

over_none : (o : Option Scope) (s : Scope) → over o s ≡ option_and_then (λ t. Some ([] ++ t)) (over o s)
over_none None s = refl
over_none (Some x) s = refl

beside_nil : (o : Option Scope) → beside (λ x y. x ++ y) o (Some []) ≡ o
beside_nil None = refl
beside_nil (Some x) = ap Some (append-nil x)

beside_none : (o : Option Scope) → beside (λ x y. x ++ y) o None ≡ None
beside_none None = refl
beside_none (Some x) = refl

-- the last first, then those before it
onto_last : (bs : List Binder) (vs : List HlValue) (b : Binder) (v : HlValue) (s : Scope) → length bs ≡ length vs →
    over (each_bound (bs ++ b ∷ []) (vs ++ v ∷ [])) s ≡ option_and_then (over (each_bound bs vs)) (over (b v) s)
onto_last [] [] b v s e = ap (λ o. over o s) (beside_nil (b v)) ∙ over_none (b v) s
onto_last [] (w ∷ vs) b v s e = absurd (omega arith)
onto_last (c ∷ bs) [] b v s e = absurd (omega arith)
onto_last (c ∷ bs) (w ∷ vs) b v s e =
    let less : length bs ≡ length vs = omega arith in
    over_beside (c w) (each_bound (bs ++ b ∷ []) (vs ++ v ∷ [])) s
    ∙ ap (option_and_then (over (c w))) (onto_last bs vs b v s less)
    ∙ over_nested (c w) (each_bound bs vs) (over (b v) s)

-- as many names as values
pub none_bound : (bs : List Binder) (vs : List HlValue) → length bs ≢ length vs → each_bound bs vs ≡ None
none_bound [] [] h = absurd (h refl)
none_bound [] (v ∷ vs) h = refl
none_bound (b ∷ bs) [] h = refl
none_bound (b ∷ bs) (v ∷ vs) h =
    ap (beside (λ x y. x ++ y) (b v)) (none_bound bs vs (λ e. h (ap suc e))) ∙ beside_none (b v)

take_next : {X : Type 0} (xs : List X) (n : ℕ) (x : X) → slice_get xs n ≡ Some x → (take (suc n) xs ≡ take n xs ++ x ∷ []) × (length (take n xs) ≡ n)
take_next [] n x e = cc
take_next (y ∷ xs) zero x e = let same : y ≡ x = cc in (ap (λ z. z ∷ []) same, refl)
take_next (y ∷ xs) (suc n) x e = let rest = take_next xs n x e in (ap (λ ys. y ∷ ys) rest.0, ap suc rest.1)

module _ {X : Type 0} (binder : X → Binder) where
  -- what is left to bind comes to what all comes to
  pub record Rest (xs : List X) (items all : List HlValue) (now was : Scope) : Type 0 where
    pub fits : length items ≤ length xs
    pub same : over (each_bound (map binder (take (length items) xs)) items) now ≡ over (each_bound (map binder xs) all) was

  next : (xs : List X) (items rest all : List HlValue) (v : HlValue) (x : X) (now was : Scope) → Rest xs items all now was → items ≡ rest ++ v ∷ [] → slice_get xs (length rest) ≡ Some x →
      over (each_bound (map binder xs) all) was ≡ option_and_then (over (each_bound (map binder (take (length rest) xs)) rest)) (over (binder x v) now)
  next xs items rest all v x now was r e at =
      let part = take_next xs (length rest) x at in
      let many : length items ≡ suc (length rest) = omega (arith, ap length e, length-append rest (v ∷ [])) in
      let binders : map binder (take (length items) xs) ≡ map binder (take (length rest) xs) ++ binder x ∷ [] =
      ap (λ n. map binder (take n xs)) many ∙ ap (map binder) part.0 ∙ map-append binder (take (length rest) xs) (x ∷ []) in
      let as_many : length (map binder (take (length rest) xs)) ≡ length rest = length-map (take (length rest) xs) binder ∙ part.1 in
      sym r.same ∙ ap (λ bs. over (each_bound bs items) now) binders ∙ ap (λ vs. over (each_bound (map binder (take (length rest) xs) ++ binder x ∷ []) vs) now) e
      ∙ onto_last (map binder (take (length rest) xs)) rest (binder x) v now as_many

  pub rest_next : (xs : List X) (items rest all : List HlValue) (v : HlValue) (x : X) (now then_ was : Scope) → Rest xs items all now was → items ≡ rest ++ v ∷ [] → slice_get xs (length rest) ≡ Some x →
      over (binder x v) now ≡ Some then_ → Rest xs rest all then_ was
  rest_next xs items rest all v x now then_ was r e at b =
      record {
        fits = omega (arith, ap length e, length-append rest (v ∷ []), r.fits);
        same = sym (next xs items rest all v x now was r e at ∙ ap (option_and_then (over (each_bound (map binder (take (length rest) xs)) rest))) b);
      }

  pub rest_none : (xs : List X) (items rest all : List HlValue) (v : HlValue) (x : X) (now was : Scope) → Rest xs items all now was → items ≡ rest ++ v ∷ [] → slice_get xs (length rest) ≡ Some x →
      over (binder x v) now ≡ None → over (each_bound (map binder xs) all) was ≡ None
  rest_none xs items rest all v x now was r e at b =
      next xs items rest all v x now was r e at ∙ ap (option_and_then (over (each_bound (map binder (take (length rest) xs)) rest))) b

  pub rest_all : (xs : List X) (items : List HlValue) (was : Scope) → length items ≡ length xs → Rest xs items items was was
  rest_all xs items was e =
      record { fits = omega arith; same = ap (λ ys. over (each_bound (map binder ys) items) was) (ap (λ n. take n xs) e ∙ take-length xs) }

  pub rest_over : (xs : List X) (items all : List HlValue) (now was : Scope) → Rest xs items all now was → length items ≡ 0 → over (each_bound (map binder xs) all) was ≡ Some now
  rest_over xs [] all now was r e = sym r.same
  rest_over xs (v ∷ items) all now was r e = absurd (omega arith)

  pub rest_short : (xs : List X) (items : List HlValue) (was : Scope) → length items ≢ length xs → over (each_bound (map binder xs) items) was ≡ None
  rest_short xs items was h = ap (λ o. over o was) (none_bound (map binder xs) items (λ e. h (sym e ∙ length-map xs binder)))
