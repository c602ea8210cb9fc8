-- A list computes its meaning where its items do.
use Rattle.std.proofs.Common.{◌≡◌, ℕ, zero, suc, ◌*◌, ◌^◌, ◌<◌, true, false, nat_lt, List, [], ◌∷◌, length, take, drop, map, replicate, Option, Some, option_map, refl, sym, ap, ◌∙◌, subst, arith, ltb-true, length-drop}
use Rattle.std.specs.Prelude.{if◌then◌else◌}
use Rattle.std.proofs.lemmas.Bool.{ltb-false}
use Rattle.std.proofs.lemmas.List.{length-map}
use Rattle.std.proofs.Math.Nat.{pow-succ'}
use Rattle.hl_data.specs.declared.value.HlValue.{HlValue}
use Rattle.hl_data.specs.declared.value.HlValue.TheVariants as value
use Rattle.hl_syntax.specs.declared.kinds.HlType.{HlType}
use Rattle.hl_syntax.specs.declared.kinds.HlType.TheOpen.{HlType-F}
use Rattle.hl_syntax.specs.declared.kinds.HlType.TheViews.{out-HlType}
use Rattle.hl_syntax.specs.declared.kinds.TypedName.{TypedName}
use Rattle.hl_meaning.specs.Answer.{Answer, gives, fails, stuck, and_then}
use Rattle.hl_meaning.specs.Mean.{Meaning, all_in, made_of}
use Rattle.hl_meaning.specs.Scopes.{Binding}
use Rattle.hl_meaning.specs.Values.{list_value}
use Rattle.simplicity.specs.Canon.{Declared, erased}
use Rattle.simplicity.specs.Terms.{meaning}
use Rattle.simplicity.specs.Tuples.{tuple_value}
use Rattle.simplicity.specs.Types.{Value, UnitValue, Inl, Inr, Pair}
use Rattle.simplicityhl.specs.Kinds.{form, bound_level}
use Rattle.hl_term_laws.specs.Renders.{Computes, Renders}
use Rattle.hl_terms.specs.Shapes.{Shape, kind_of}
use Rattle.hl_terms.specs.Translated.{list_at}
use Rattle.hl_term_laws.proofs.Encoded.{form_at, enc_list}
use Rattle.hl_term_laws.proofs.Lists.{answer_list, list_meaning, some_list, none_list, AreItems, list_right}
use Rattle.hl_term_laws.proofs.Parts.{AreRendered, ComputesAll, parts_compute}

there_mapped : (f : Value → Value) (o : Option Value) → (c : Value) × (o ≡ Some c) → (c : Value) × (option_map f o ≡ Some c)
there_mapped f o h = (f h.0, ap (option_map f) h.1)

list_there : (level : ℕ) (cs : List Value) → length cs < 2 ^ suc level → (c : Value) × (list_value level cs ≡ Some c)
list_there zero [] h = (Inl UnitValue, refl)
list_there zero (v ∷ []) h = (Inr v, refl)
list_there zero (v ∷ u ∷ cs) h = absurd (omega arith)
list_there (suc level) cs h =
    let twice : 2 ^ suc (suc level) ≡ 2 * 2 ^ suc level = pow-succ' 2 (suc level) in
    elim (nat_lt (length cs) (2 ^ suc level)) as (λ b. nat_lt (length cs) (2 ^ suc level) ≡ b → (c : Value) × ((if b then option_map (Pair (Inl UnitValue)) (list_value level cs) else option_map (Pair (Inr (tuple_value (take (2 ^ suc level) cs)))) (list_value level (drop (2 ^ suc level) cs))) ≡ Some c)) [
      | true ↦ λ less. there_mapped (Pair (Inl UnitValue)) (list_value level cs) (list_there level cs (ltb-true (length cs) (2 ^ suc level) less))
      | false ↦ λ more. there_mapped (Pair (Inr (tuple_value (take (2 ^ suc level) cs)))) (list_value level (drop (2 ^ suc level) cs))
          (list_there level (drop (2 ^ suc level) cs) (omega (arith, twice, h, ltb-false (length cs) (2 ^ suc level) more, length-drop (2 ^ suc level) cs)))
    ] refl

list_then : (k item : HlType) (bound n : ℕ) (r : Answer (List HlValue)) (os : List (Option Value)) → out-HlType k ≡ HlType-F.List item bound → length os < 2 ^ suc (bound_level bound) → ComputesAll (replicate n item) r os →
    Computes k (and_then r (λ vs. gives (value.List vs))) (answer_list (bound_level bound) os)
list_then k item bound n (gives vs) os is few h =
    let short : length h.cores < 2 ^ suc (bound_level bound) = omega (arith, few, ap length h.are, length-map h.cores Some) in
    let there = list_there (bound_level bound) h.cores short in
    record { core = there.0; encodes = enc_list vs k item bound n h.cores is h.encodes ∙ there.1; is = ap (answer_list (bound_level bound)) h.are ∙ some_list (bound_level bound) h.cores short ∙ there.1 }
list_then k item bound n fails os is few h = none_list (bound_level bound) os few h
list_then k item bound n stuck os is few h = tt

module _ (named : List TypedName) (given : List Binding) (w : List Value) (scope : Shape) where
  items_of : (item : HlType) (n : ℕ) (ms : List Meaning) (ts : List Declared) → AreRendered named given w scope (replicate n item) ms ts → AreItems (kind_of scope) (form item) ts
  items_of item zero [] [] h = tt
  items_of item (suc n) (m ∷ ms) (t ∷ ts) h = (record { from = h.0.from; to = h.0.to; typed = h.0.typed }, items_of item n ms ts h.1)
  items_of item zero [] (t ∷ ts) h = absurd h
  items_of item zero (m ∷ ms) ts h = absurd h
  items_of item (suc n) [] ts h = absurd h
  items_of item (suc n) (m ∷ ms) [] h = absurd h

  pub listed_right : (k item : HlType) (bound n : ℕ) (ms : List Meaning) (ts : List Declared) → out-HlType k ≡ HlType-F.List item bound → length ts < 2 ^ suc (bound_level bound) → AreRendered named given w scope (replicate n item) ms ts →
      Renders named given w scope k (made_of value.List ms) (list_at (out-HlType k) (kind_of scope) ts)
  listed_right k item bound n ms ts is few h =
      let a = kind_of scope in
      let r = list_right a (form item) (bound_level bound) ts (items_of item n ms ts h) in
      subst (λ x. Renders named given w scope k (made_of value.List ms) (list_at x a ts)) (sym is) (record {
        from = r.from;
        to = r.to ∙ sym (form_at k (HlType-F.List item bound) is);
        typed = r.typed;
        computes = λ told values c s. subst (Computes k (made_of value.List ms values)) (sym (list_meaning a (form item) w c (bound_level bound) ts))
            (list_then k item bound n (all_in ms values) (map (λ t. meaning (erased t) w c) ts) is (omega (arith, few, length-map ts (λ (t : Declared). meaning (erased t) w c))) (parts_compute named given w scope (replicate n item) ms ts h told values c s));
      })
