-- What is written as a value of a type is of the type.
use Rattle.std.proofs.Common.{◌≡◌, ℕ, zero, suc, ◌*◌, ◌^◌, ◌<◌, Bool, true, false, ◌&&◌, nat_eq, nat_lt, List, [], ◌∷◌, length, map, take, drop, Option, Some, None, option_map, refl, sym, ap, ◌∙◌, subst, arith, IsTrue, eqb-true, eq-eqb, length-drop}
use Rattle.std.proofs.lemmas.Bool.{ltb-true}
use Rattle.std.proofs.lemmas.List.{length-map}
use Rattle.std.proofs.Math.Nat.{pow-succ'}
use Rattle.std.specs.Prelude.{IsSome}
use Rattle.std.specs.List.{list_all}
use Rattle.hl_data.specs.declared.value.HlValue.{HlValue}
use Rattle.hl_data.specs.declared.value.HlValue.TheOpen.{HlValue-F}
use Rattle.hl_data.specs.declared.value.HlValue.TheVariants as value
use Rattle.hl_syntax.specs.declared.kinds.HlType.{HlType, map-HlType}
use Rattle.hl_syntax.specs.declared.kinds.HlType.TheOpen.{HlType-F}
use Rattle.hl_syntax.specs.declared.kinds.HlType.TheViews.{roll-HlType, out-roll-HlType}
use Rattle.hl_syntax.specs.declared.kinds.HlType.TheFolds.{fold-roll-HlType, ind-HlType}
use Rattle.hl_syntax.specs.declared.tree.Arm.{Arm}
use Rattle.hl_syntax.specs.declared.tree.Expr.{Expr}
use Rattle.hl_syntax.specs.declared.tree.ExprForm.{ExprForm, map-ExprForm}
use Rattle.hl_syntax.specs.declared.tree.ExprForm.TheOpen.{ExprForm-F}
use Rattle.hl_syntax.specs.declared.tree.ExprForm.TheViews.{out-ExprForm}
use Rattle.hl_syntax.specs.declared.tree.ExprForm.TheFolds.{fold_out-ExprForm, fold_out-Expr, fold-Statement, fold-Arm}
use Rattle.hl_syntax.specs.declared.tree.Statement.{Statement}
use Rattle.jets.specs.Unsigned.{Unsigned}
use Rattle.simplicity.specs.Types.{Value, Inl, Inr, Pair, UnitValue}
use Rattle.simplicity.specs.Tuples.{tuple_value}
use Rattle.simplicityhl.specs.Kinds.{sound_step, is_bound, bound_level}
use Rattle.hl_types.proofs.Parts.{bound_parts}
use Rattle.hl_meaning.specs.Literals.{literal_value}
use Rattle.hl_meaning.specs.Values.{encoded, at_each, at_all, list_value, beside}
use Rattle.simplicityhl.specs.Kinds.{is_sound}
use Rattle.hl_meaning.specs.Entries.{IsValueOf}
use Rattle.hl_values.specs.Written.{AtType, written, written_form, form_step, form_at, each_at, all_at}
use Rattle.hl_values.proofs.Coding.{encode_rolled, besides}
use Rattle.hl_values.proofs.Lists.{mapped}

abbrev parts_of : ExprForm-F ExprForm Statement Arm Expr → ExprForm-F AtType (Unit {0}) (Unit {0}) AtType
parts_of w = map-ExprForm ExprForm Statement Arm Expr AtType (Unit {0}) (Unit {0}) AtType written_form
    (λ s. fold-Statement AtType (Unit {0}) (Unit {0}) AtType form_step (λ s. tt) (λ a. tt) (λ e. e.form) s)
    (λ a. fold-Arm AtType (Unit {0}) (Unit {0}) AtType form_step (λ s. tt) (λ a. tt) (λ e. e.form) a) written w

written_layer : (tree : Expr) (x : HlType-F HlType) → written tree (roll-HlType x) ≡ form_at (parts_of (out-ExprForm tree.form)) x
written_layer tree x =
    ap (λ f. f (roll-HlType x)) (fold_out-Expr AtType (Unit {0}) (Unit {0}) AtType form_step (λ s. tt) (λ a. tt) (λ e. e.form) tree)
    ∙ ap (λ f. f (roll-HlType x)) (fold_out-ExprForm AtType (Unit {0}) (Unit {0}) AtType form_step (λ s. tt) (λ a. tt) (λ e. e.form) tree.form)
    ∙ ap (form_at (parts_of (out-ExprForm tree.form))) (out-roll-HlType x)

abbrev Claim : HlType → Type 0
Claim k = IsTrue (is_sound k) → (tree : Expr) (v : HlValue) → written tree k ≡ Some v → IsValueOf v k

abbrev Proved : Type 0
Proved = (k : HlType) × Claim k

abbrev first_of : Proved → HlType
first_of e = e.0

both_true : (a b : Bool) → IsTrue (a && b) → IsTrue a × IsTrue b
both_true true b h = (refl, h)
both_true false b h = cc

both_there : {A B C : Type 0} (join : A → B → C) (a : Option A) (b : Option B) → IsSome a → IsSome b → IsSome (beside join a b)
both_there join (Some a) (Some b) h g = refl
both_there join (Some a) None h g = absurd (cc)
both_there join None b h g = absurd (cc)

map_there : {A B : Type 0} (f : A → B) (o : Option A) → IsSome o → IsSome (option_map f o)
map_there f (Some a) h = refl
map_there f None h = absurd (cc)

each_there : (es : List Expr) (parts : List Proved) (vs : List HlValue) → IsTrue (list_all (λ part. part) (map is_sound (map first_of parts))) → each_at (map written es) (map first_of parts) ≡ Some vs → IsSome (at_each (map encoded vs) (map first_of parts))
each_there [] [] vs s h = let e : vs ≡ [] = cc in rw e refl
each_there [] (p ∷ parts) vs s h = absurd (cc)
each_there (e ∷ es) [] vs s h = absurd (cc)
each_there (e ∷ es) (p ∷ parts) vs s h =
    let b = besides (λ v vs. v ∷ vs) (written e p.0) (each_at (map written es) (map first_of parts)) vs h in
    let both = both_true (is_sound p.0) (list_all (λ part. part) (map is_sound (map first_of parts))) s in
    rw b.is (both_there (λ c cs. c ∷ cs) (encoded b.left p.0) (at_each (map encoded b.right) (map first_of parts)) (p.1 both.0 e b.left b.left_was) (each_there es parts b.right both.1 b.right_was))

record AllThere (es : List Expr) (k : HlType) (vs : List HlValue) : Type 0 where
  cores : List Value
  are : at_all (map encoded vs) k ≡ Some cores
  long : length vs ≡ length es
  cores_long : length cores ≡ length es

both_are : (v : HlValue) (vs : List HlValue) (k : HlType) (c : Value) (cs : List Value) → encoded v k ≡ Some c → at_all (map encoded vs) k ≡ Some cs → at_all (map encoded (v ∷ vs)) k ≡ Some (c ∷ cs)
both_are v vs k c cs h hs = rw (h, hs) refl

all_there_at : (k : HlType) (claim : Claim k) (s : IsTrue (is_sound k)) (es : List Expr) (vs : List HlValue) → all_at (map written es) k ≡ Some vs → AllThere es k vs
all_there_at k claim s [] vs h = let e : vs ≡ [] = cc in record { cores = []; are = rw e refl; long = rw e refl; cores_long = refl }
all_there_at k claim s (e ∷ es) vs h =
    let b = besides (λ v vs. v ∷ vs) (written e k) (all_at (map written es) k) vs h in
    let rest = all_there_at k claim s es b.right b.right_was in
    let one = some_of (encoded b.left k) (claim s e b.left b.left_was) in
    rw b.is (record { cores = one.0 ∷ rest.cores; are = both_are b.left b.right k one.0 rest.cores one.1 rest.are; long = ap suc rest.long; cores_long = ap suc rest.cores_long })
  where
    some_of : (o : Option Value) → IsSome o → (c : Value) × (o ≡ Some c)
    some_of (Some c) h = (c, refl)
    some_of None h = absurd (cc)

list_there : (level : ℕ) (cs : List Value) → length cs < 2 ^ suc level → IsSome (list_value level cs)
list_there zero [] h = refl
list_there zero (c ∷ []) h = refl
list_there zero (c ∷ d ∷ cs) h = absurd (omega arith)
list_there (suc level) cs h =
    let twice : 2 ^ suc (suc level) ≡ 2 * 2 ^ suc level = pow-succ' 2 (suc level) in
    elim (nat_lt (length cs) (2 ^ suc level)) as (λ b. nat_lt (length cs) (2 ^ suc level) ≡ b → IsSome (list_value (suc level) cs)) [
      | true ↦ λ less. rw less (map_there (Pair (Inl UnitValue)) (list_value level cs) (list_there level cs (ltb-true _ _ less)))
      | false ↦ λ more. rw more (map_there (Pair (Inr (tuple_value (take (2 ^ suc level) cs)))) (list_value level (drop (2 ^ suc level) cs))
          (list_there level (drop (2 ^ suc level) cs) (omega (arith, length-drop (2 ^ suc level) cs))))
    ] refl

-- One layer.

abbrev LayerClaim : HlType-F HlType → Type 0
LayerClaim x = (w : ExprForm-F ExprForm Statement Arm Expr) (v : HlValue) → form_at (parts_of w) x ≡ Some v → IsValueOf v (roll-HlType x)

bool_of : LayerClaim HlType-F.Bool
bool_of ExprForm-F.True v h = let e : v ≡ value.Bool true = cc in rw (e, encode_rolled (HlValue-F.Bool true) HlType-F.Bool (value.Bool true) (roll-HlType HlType-F.Bool) (value.rolls-Bool true) refl) refl
bool_of ExprForm-F.False v h = let e : v ≡ value.Bool false = cc in rw (e, encode_rolled (HlValue-F.Bool false) HlType-F.Bool (value.Bool false) (roll-HlType HlType-F.Bool) (value.rolls-Bool false) refl) refl
bool_of _ v h = absurd (cc)

number_of : (width : ℕ) → LayerClaim (HlType-F.UInt width)
number_of width (ExprForm-F.Literal word) v h = go (nat_lt (literal_value word) (2 ^ width)) refl
  where
    go : (b : Bool) → nat_lt (literal_value word) (2 ^ width) ≡ b → IsValueOf v (roll-HlType (HlType-F.UInt width))
    go true less =
        let h' = rw less at h in
        let u : Unsigned = record { width = width; number = literal_value word } in
        let e : v ≡ value.Number (let w : Unsigned = record { width = width; number = literal_value word } in w) = cc in
        rw (e, encode_rolled (HlValue-F.Number u) (HlType-F.UInt width) (value.Number u) (roll-HlType (HlType-F.UInt width)) (value.rolls-Number u) refl, eq-eqb width width refl, less) refl
    go false more = let h' = rw more at h in absurd (cc)
number_of width _ v h = absurd (cc)

tuple_of : (parts : List Proved) → IsTrue (list_all (λ part. part) (map is_sound (map first_of parts))) → LayerClaim (HlType-F.Tuple (map first_of parts))
tuple_of parts s (ExprForm-F.Tuple es) v h =
    let m = mapped value.Tuple (each_at (map written es) (map first_of parts)) v h in
    rw (m.is, encode_rolled (HlValue-F.Tuple m.from) (HlType-F.Tuple (map first_of parts)) (value.Tuple m.from) (roll-HlType (HlType-F.Tuple (map first_of parts))) (value.rolls-Tuple m.from) refl)
    (map_there tuple_value (at_each (map encoded m.from) (map first_of parts)) (each_there es parts m.from s m.was))
tuple_of parts s _ v h = absurd (cc)

module _ (k : HlType) (claim : Claim k) (s : IsTrue (is_sound k)) where
  array_of : (count : ℕ) → LayerClaim (HlType-F.Array k count)
  array_of count (ExprForm-F.Array es) v h = go (nat_eq (length (map written es)) count) refl
    where
      go : (b : Bool) → nat_eq (length (map written es)) count ≡ b → IsValueOf v (roll-HlType (HlType-F.Array k count))
      go true same =
          let m = mapped value.Array (all_at (map written es) k) v (rw same at h) in
          let a = all_there_at k claim s es m.from m.was in
          let n : length (map encoded m.from) ≡ count = length-map m.from encoded ∙ a.long ∙ sym (length-map es written) ∙ eqb-true _ _ same in
          rw (m.is, encode_rolled (HlValue-F.Array m.from) (HlType-F.Array k count) (value.Array m.from) (roll-HlType (HlType-F.Array k count)) (value.rolls-Array m.from) refl, eq-eqb (length (map encoded m.from)) count n, a.are) refl
      go false other = let h' = rw other at h in absurd (cc)
  array_of count _ v h = absurd (cc)

  list_of : (bound : ℕ) → IsTrue (is_bound bound) → LayerClaim (HlType-F.List k bound)
  list_of bound b (ExprForm-F.List es) v h = go (nat_lt (length (map written es)) bound) refl
    where
      go : (t : Bool) → nat_lt (length (map written es)) bound ≡ t → IsValueOf v (roll-HlType (HlType-F.List k bound))
      go true less =
          let m = mapped value.List (all_at (map written es) k) v (rw less at h) in
          let a = all_there_at k claim s es m.from m.was in
          let few : length a.cores < 2 ^ suc (bound_level bound) = omega (arith, ltb-true _ _ less, a.cores_long, length-map es written, (bound_parts bound b).1) in
          rw (m.is, encode_rolled (HlValue-F.List m.from) (HlType-F.List k bound) (value.List m.from) (roll-HlType (HlType-F.List k bound)) (value.rolls-List m.from) refl, a.are) (list_there (bound_level bound) a.cores few)
      go false more = let h' = rw more at h in absurd (cc)
  list_of bound b _ v h = absurd (cc)

  option_of : LayerClaim (HlType-F.Option k)
  option_of ExprForm-F.Nothing v h = let e : v ≡ value.Nothing = cc in rw (e, encode_rolled HlValue-F.Nothing (HlType-F.Option k) value.Nothing (roll-HlType (HlType-F.Option k)) value.rolls-Nothing refl) refl
  option_of (ExprForm-F.Some e) v h =
      let m = mapped value.Some (written e k) v h in
      rw (m.is, encode_rolled (HlValue-F.Some m.from) (HlType-F.Option k) (value.Some m.from) (roll-HlType (HlType-F.Option k)) (value.rolls-Some m.from) refl) (map_there Inr (encoded m.from k) (claim s e m.from m.was))
  option_of _ v h = absurd (cc)

module _ (k l : HlType) (claim : Claim k) (other : Claim l) (s : IsTrue (is_sound k)) (t : IsTrue (is_sound l)) where
  either_of : LayerClaim (HlType-F.Either k l)
  either_of (ExprForm-F.Left e) v h =
      let m = mapped value.Left (written e k) v h in
      rw (m.is, encode_rolled (HlValue-F.Left m.from) (HlType-F.Either k l) (value.Left m.from) (roll-HlType (HlType-F.Either k l)) (value.rolls-Left m.from) refl) (map_there Inl (encoded m.from k) (claim s e m.from m.was))
  either_of (ExprForm-F.Right e) v h =
      let m = mapped value.Right (written e l) v h in
      rw (m.is, encode_rolled (HlValue-F.Right m.from) (HlType-F.Either k l) (value.Right m.from) (roll-HlType (HlType-F.Either k l)) (value.rolls-Right m.from) refl) (map_there Inr (encoded m.from l) (other t e m.from m.was))
  either_of _ v h = absurd (cc)

layer_of : (y : HlType-F Proved) → IsTrue (sound_step (map-HlType HlType Bool is_sound (map-HlType Proved HlType first_of y))) → LayerClaim (map-HlType Proved HlType first_of y)
layer_of HlType-F.Bool s = bool_of
layer_of (HlType-F.UInt width) s = number_of width
layer_of (HlType-F.Tuple parts) s = tuple_of parts s
layer_of (HlType-F.Array item count) s = array_of item.0 item.1 (both_true _ _ s).0 count
layer_of (HlType-F.List item bound) s = let both = both_true _ _ s in list_of item.0 item.1 both.0 bound both.1
layer_of (HlType-F.Option item) s = option_of item.0 item.1 s
layer_of (HlType-F.Either left right) s = let both = both_true _ _ s in either_of left.0 right.0 left.1 right.1 both.0 both.1

proved_layer : (y : HlType-F Proved) → Claim (roll-HlType (map-HlType Proved HlType first_of y))
proved_layer y s tree v h =
    let s' = rw (fold-roll-HlType Bool sound_step (map-HlType Proved HlType first_of y)) at s in
    layer_of y s' (out-ExprForm tree.form) v (sym (written_layer tree (map-HlType Proved HlType first_of y)) ∙ h)

pub of_kind : (k : HlType) → Claim k
of_kind = ind-HlType Claim (λ x y is. subst (λ z. Claim (roll-HlType z)) is (proved_layer y))
