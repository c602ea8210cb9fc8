-- Written values one after the other.
use Rattle.std.proofs.Common.{◌≡◌, ℕ, suc, ◌+◌, ◌<◌, ◌≤◌, List, [], ◌∷◌, ◌++◌, length, map, drop, get_or, Option, Some, None, option_map, refl, sym, ap, ◌∙◌, arith, append_assoc, append-nil}
use Rattle.std.specs.Prelude.{slice_get}
use Rattle.std.proofs.lemmas.List.{drop_more, drop_all}
use Rattle.hl_data.specs.declared.value.HlValue.{HlValue}
use Rattle.hl_syntax.specs.declared.kinds.HlType.{HlType}
use Rattle.hl_syntax.specs.declared.tree.Expr.{Expr}
use Rattle.hl_meaning.specs.Values.{beside}
use Rattle.hl_values.specs.Written.{written, each_at, all_at}
use Rattle.hl_values.proofs.Encoding.{kinds_at}

-- values before those of the rest
abbrev pub ahead : List HlValue → Option (List HlValue) → Option (List HlValue)
ahead values rest = option_map (λ vs. values ++ vs) rest

ahead_next : (values : List HlValue) (v : HlValue) (rest : Option (List HlValue)) → ahead values (beside (λ v vs. v ∷ vs) (Some v) rest) ≡ ahead (values ++ v ∷ []) rest
ahead_next values v None = refl
ahead_next values v (Some vs) = ap Some (sym (append_assoc values (v ∷ []) vs))

pub unlike_counts : (parts : List Expr) (kinds : List HlType) → (length parts ≡ length kinds → ⊥) → each_at (map written parts) kinds ≡ None
unlike_counts [] [] h = absurd (h refl)
unlike_counts [] (k ∷ kinds) h = refl
unlike_counts (e ∷ parts) [] h = refl
unlike_counts (e ∷ parts) (k ∷ kinds) h =
    let rest = unlike_counts parts kinds (λ same. h (ap suc same)) in
    rw rest (nothing (written e k))
  where
    nothing : (o : Option HlValue) → beside (λ v vs. v ∷ vs) o None ≡ None
    nothing (Some v) = refl
    nothing None = refl

module _ (parts : List Expr) (i : ℕ) (part : Expr) (less : i < length parts) (is : part ≡ get_or parts i part) where
  the_rest : drop i parts ≡ part ∷ drop (i + 1) parts
  the_rest = drop_more parts i part less ∙ ap (λ e. e ∷ drop (i + 1) parts) (sym is)

  pub part_read : (values : List HlValue) (v : HlValue) (kinds : List HlType) (k : HlType) (whole : Option (List HlValue)) → slice_get kinds i ≡ Some k → written part k ≡ Some v →
      ahead values (each_at (map written (drop i parts)) (drop i kinds)) ≡ whole → ahead (values ++ v ∷ []) (each_at (map written (drop (i + 1) parts)) (drop (i + 1) kinds)) ≡ whole
  part_read values v kinds k whole at one e =
      let e' = rw (the_rest, kinds_at kinds i k at, one) at e in
      sym (ahead_next values v (each_at (map written (drop (i + 1) parts)) (drop (i + 1) kinds))) ∙ e'

  pub part_refused : (values : List HlValue) (kinds : List HlType) (k : HlType) (whole : Option (List HlValue)) → slice_get kinds i ≡ Some k → written part k ≡ None →
      ahead values (each_at (map written (drop i parts)) (drop i kinds)) ≡ whole → whole ≡ None
  part_refused values kinds k whole at none e = let e' = rw (the_rest, kinds_at kinds i k at, none) at e in sym e'

  pub item_read : (values : List HlValue) (v : HlValue) (k : HlType) (whole : Option (List HlValue)) → written part k ≡ Some v →
      ahead values (all_at (map written (drop i parts)) k) ≡ whole → ahead (values ++ v ∷ []) (all_at (map written (drop (i + 1) parts)) k) ≡ whole
  item_read values v k whole one e =
      let e' = rw (the_rest, one) at e in
      sym (ahead_next values v (all_at (map written (drop (i + 1) parts)) k)) ∙ e'

  pub item_refused : (values : List HlValue) (k : HlType) (whole : Option (List HlValue)) → written part k ≡ None → ahead values (all_at (map written (drop i parts)) k) ≡ whole → whole ≡ None
  item_refused values k whole none e = let e' = rw (the_rest, none) at e in sym e'

pub parts_read : (parts items : List Expr) (kinds : List HlType) (i : ℕ) (values : List HlValue) → items ≡ parts → length parts ≡ length kinds → length items ≤ i →
    ahead values (each_at (map written (drop i items)) (drop i kinds)) ≡ each_at (map written parts) kinds → each_at (map written parts) kinds ≡ Some values
parts_read parts items kinds i values same long past e =
    let n = ap length same in
    let none : drop i items ≡ [] = drop_all i items past in
    let none' : drop i kinds ≡ [] = drop_all i kinds (omega arith) in
    let e' = rw (none, none') at e in
    sym e' ∙ ap Some (append-nil values)
