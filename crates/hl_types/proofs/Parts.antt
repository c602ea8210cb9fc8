-- Forms and soundness of types by their parts, and the parts of a tuple one after the other.
use Rattle.std.proofs.Common.{◌≡◌, ℕ, zero, suc, ◌+◌, ◌*◌, ◌^◌, ◌<◌, ◌≤◌, Bool, true, false, ◌&&◌, List, [], ◌∷◌, ◌++◌, length, map, drop, get_or, refl, sym, ap, ◌∙◌, arith, IsTrue, add-one, append-nil, eqb-true}
use Rattle.std.proofs.Math.Seq.{drop-cons}
use Rattle.std.specs.List.{list_all}
use Rattle.std.proofs.lemmas.Bool.{ltb-true}
use Rattle.hl_syntax.specs.declared.kinds.HlType.{HlType}
use Rattle.hl_syntax.specs.declared.kinds.HlType.TheOpen.{HlType-F}
use Rattle.hl_syntax.specs.declared.kinds.HlType.TheFolds.{fold-HlType, fold-roll-HlType}
use Rattle.hl_syntax.specs.declared.kinds.HlType.TheVariants as kind
use Rattle.simplicity.specs.Types.{Kind, Sum}
use Rattle.simplicity.specs.Tuples.{tuple_kind}
use Rattle.simplicityhl.specs.Kinds.{form, form_step, sound_step, is_sound, is_width, is_bound, bound_level, list_kind}
use Rattle.type_table.specs.Kinds.{Means, kind_at, IsGrown}
use Rattle.type_table.proofs.Growth.{grown_length, kind_at-grown}
use Rattle.type_table.proofs.Words.{not_less, not_more}
use Rattle.hl_types.specs.Ids.{AreBelow}

pub form-Tuple : (parts : List HlType) → form (kind.Tuple parts) ≡ tuple_kind (map form parts)
form-Tuple parts = ap form (sym (kind.rolls-Tuple parts)) ∙ fold-roll-HlType Kind form_step (HlType-F.Tuple parts)

pub form-List : (item : HlType) (bound : ℕ) → form (kind.List item bound) ≡ list_kind (bound_level bound) (form item)
form-List item bound = ap form (sym (kind.rolls-List item bound)) ∙ fold-roll-HlType Kind form_step (HlType-F.List item bound)

pub form-Either : (left right : HlType) → form (kind.Either left right) ≡ Sum (form left) (form right)
form-Either left right = ap form (sym (kind.rolls-Either left right)) ∙ fold-roll-HlType Kind form_step (HlType-F.Either left right)

pub sound-Tuple : (parts : List HlType) → is_sound (kind.Tuple parts) ≡ list_all (λ part. part) (map is_sound parts)
sound-Tuple parts = ap is_sound (sym (kind.rolls-Tuple parts)) ∙ fold-roll-HlType Bool sound_step (HlType-F.Tuple parts)

drop_past : {A : Type 0} (i : ℕ) (xs : List A) → length xs ≤ i → drop i xs ≡ []
drop_past zero [] h = refl
drop_past (suc i) [] h = refl
drop_past zero (x ∷ xs) h = absurd (omega arith)
drop_past (suc i) (x ∷ xs) h = drop_past i xs (omega arith)

pub sound-UInt : (width : ℕ) → is_sound (kind.UInt width) ≡ is_width width
sound-UInt width = ap is_sound (sym (kind.rolls-UInt width)) ∙ fold-roll-HlType Bool sound_step (HlType-F.UInt width)

pub sound-List : (item : HlType) (bound : ℕ) → is_sound (kind.List item bound) ≡ is_sound item && is_bound bound
sound-List item bound = ap is_sound (sym (kind.rolls-List item bound)) ∙ fold-roll-HlType Bool sound_step (HlType-F.List item bound)

-- the parts from a place on
pub drop_next : (parts : List HlType) (i : ℕ) (part : HlType) → i < length parts → part ≡ get_or parts i part → drop i parts ≡ part ∷ drop (i + 1) parts
drop_next parts i part less is = rw add-one (drop-cons parts i part less ∙ ap (λ x. x ∷ drop (suc i) parts) (sym is))

both_true : (a b : Bool) → IsTrue (a && b) → IsTrue a × IsTrue b
both_true true b h = (refl, h)
both_true false b h = cc

pub sound_next : (part : HlType) (rest : List HlType) → IsTrue (list_all (λ p. p) (map is_sound (part ∷ rest))) → IsTrue (is_sound part) × IsTrue (list_all (λ p. p) (map is_sound rest))
sound_next part rest h = both_true (is_sound part) (list_all (λ p. p) (map is_sound rest)) h

-- the ids of parts so far, one more, and the parts that are left
pub ids_next : (old new : List Kind) (ids : List ℕ) (id : ℕ) (part : HlType) (rest : List HlType) (all : List Kind) → IsGrown old new → AreBelow (length old) ids → Means new id (form part) →
    map (kind_at old) ids ++ map form (part ∷ rest) ≡ all → AreBelow (length new) (ids ++ id ∷ []) × (map (kind_at new) (ids ++ id ∷ []) ++ map form rest ≡ all)
ids_next old new [] id part rest all g b m e = ((m.within, tt), rw m.is e)
ids_next old new (x ∷ ids) id part rest [] g b m e = cc
ids_next old new (x ∷ ids) id part rest (k ∷ all) g b m e =
    let same = kind_at-grown old new x g b.0 in
    let first : kind_at old x ≡ k = cc in let others : map (kind_at old) ids ++ map form (part ∷ rest) ≡ all = cc in
    let more = ids_next old new ids id part rest all g b.1 m others in
    let longer = grown_length old new g in let bound = b.0 in
    ((omega arith, more.0), ap (λ j. j ∷ (map (kind_at new) (ids ++ id ∷ []) ++ map form rest)) (same ∙ first) ∙ ap (λ ks. k ∷ ks) more.1)

-- a bound by its level
pub bound_parts : (bound : ℕ) → IsTrue (is_bound bound) → (bound_level bound < 16) × (bound ≡ 2 ^ suc (bound_level bound))
bound_parts bound h =
    let parts = both_true _ _ h in
    (ltb-true (bound_level bound) 16 parts.0, eqb-true bound (2 ^ suc (bound_level bound)) parts.1)

pub level_at : (bound r : ℕ) → IsTrue (is_bound bound) → 2 ^ r ≤ bound → bound < 2 * 2 ^ r → r ≡ suc (bound_level bound)
level_at bound r h low high =
    let e = (bound_parts bound h).1 in
    let low' : 2 ^ r ≤ 2 ^ suc (bound_level bound) = omega arith in let high' : 2 ^ suc (bound_level bound) < 2 * 2 ^ r = omega arith in
    let a = not_more r (suc (bound_level bound)) low' in let b = not_less r (suc (bound_level bound)) high' in omega arith

-- the same of a place in a list of parts
module _ (parts : List HlType) (i : ℕ) (part : HlType) (less : i < length parts) (is : part ≡ get_or parts i part) where
  pub sound_at : IsTrue (list_all (λ p. p) (map is_sound (drop i parts))) → IsTrue (is_sound part) × IsTrue (list_all (λ p. p) (map is_sound (drop (i + 1) parts)))
  sound_at h = let e = drop_next parts i part less is in sound_next part (drop (i + 1) parts) (rw e at h)

  pub ids_at : (old new : List Kind) (ids : List ℕ) (id : ℕ) (all : List Kind) → IsGrown old new → AreBelow (length old) ids → Means new id (form part) →
      map (kind_at old) ids ++ map form (drop i parts) ≡ all → AreBelow (length new) (ids ++ id ∷ []) × (map (kind_at new) (ids ++ id ∷ []) ++ map form (drop (i + 1) parts) ≡ all)
  ids_at old new ids id all g b m h = let e = drop_next parts i part less is in ids_next old new ids id part (drop (i + 1) parts) all g b m (rw e at h)

pub sound_here : (parts : List HlType) (i : ℕ) (part : HlType) → i < length parts → part ≡ get_or parts i part → IsTrue (list_all (λ p. p) (map is_sound (drop i parts))) → IsTrue (is_sound part)
sound_here parts i part less is h = (sound_at parts i part less is h).0

-- a tuple, once no part is left
pub tuple_means : (kinds new : List Kind) (ids : List ℕ) (parts all : List HlType) (i id : ℕ) → length parts ≤ i → map (kind_at kinds) ids ++ map form (drop i parts) ≡ map form all →
    Means new id (tuple_kind (map (kind_at kinds) ids)) → Means new id (form (kind.Tuple all))
tuple_means kinds new ids parts all i id past e m =
    let none : drop i parts ≡ [] = drop_past i parts past in
    let are : map (kind_at kinds) ids ≡ map form all = rw append-nil at (rw none at e) in
    record { within = m.within; is = m.is ∙ ap tuple_kind are ∙ sym (form-Tuple all) }

pub either_means : (one two new : List Kind) (left right : HlType) (l r id : ℕ) → IsGrown one two → Means one l (form left) → Means two r (form right) →
    Means new id (Sum (kind_at two l) (kind_at two r)) → Means new id (form (kind.Either left right))
either_means one two new left right l r id g a b m =
    record { within = m.within; is = m.is ∙ ap (λ k. Sum k (kind_at two r)) (kind_at-grown one two l g a.within ∙ a.is) ∙ ap (Sum (form left)) b.is ∙ sym (form-Either left right) }

pub list_means : (one new : List Kind) (item : HlType) (i level bound id : ℕ) → Means one i (form item) → level ≡ bound_level bound → Means new id (list_kind level (kind_at one i)) →
    Means new id (form (kind.List item bound))
list_means one new item i level bound id a e m =
    record { within = m.within; is = m.is ∙ ap (list_kind level) a.is ∙ ap (λ n. list_kind n (form item)) e ∙ sym (form-List item bound) }
