-- Types that are sound by their parts.
use Rattle.std.proofs.Common.{◌≡◌, ℕ, zero, suc, ◌<◌, ◌++◌, Bool, true, false, ◌&&◌, List, [], ◌∷◌, length, map, get_or, Some, refl, sym, ap, ◌∙◌, arith, IsTrue, subst}
use Rattle.std.proofs.lemmas.List.Elements.{All-append}
use Rattle.std.specs.List.{All, list_all, slice_get}
use Rattle.hl_syntax.specs.declared.kinds.HlType.{HlType}
use Rattle.hl_syntax.specs.declared.kinds.HlType.TheOpen.{HlType-F}
use Rattle.hl_syntax.specs.declared.kinds.HlType.TheFolds.{fold-roll-HlType}
use Rattle.hl_syntax.specs.declared.kinds.HlType.TheVariants as kind
use Rattle.hl_syntax.specs.declared.kinds.TypedName.{TypedName}
use Rattle.hl_types.specs.Walks.{AreSound}
use Rattle.simplicityhl.specs.Kinds.{is_sound}
use Rattle.hl_types.proofs.Parts.{sound-Tuple, sound-List, sound-UInt}
use Rattle.simplicityhl.specs.Kinds.{IsSound, sound_step, is_bound, is_count, is_width}
use Rattle.hl_data.specs.declared.typed.TypedFunction.{TypedFunction}
use Rattle.hl_scope.specs.Contexts.{AreSoundTypes, IsSoundFunction}

both : (a b : Bool) → a && b ≡ true → (a ≡ true) × (b ≡ true)
both true b h = (refl, h)
both false b h = cc

pub sound_bool : IsSound kind.Bool
sound_bool = ap is_sound (sym kind.rolls-Bool) ∙ fold-roll-HlType Bool sound_step HlType-F.Bool

pub sound-Option : (item : HlType) → is_sound (kind.Option item) ≡ is_sound item
sound-Option item = ap is_sound (sym (kind.rolls-Option item)) ∙ fold-roll-HlType Bool sound_step (HlType-F.Option item)

pub sound-Either : (left right : HlType) → is_sound (kind.Either left right) ≡ is_sound left && is_sound right
sound-Either left right = ap is_sound (sym (kind.rolls-Either left right)) ∙ fold-roll-HlType Bool sound_step (HlType-F.Either left right)

pub sound-Array : (item : HlType) (count : ℕ) → is_sound (kind.Array item count) ≡ is_sound item && is_count count
sound-Array item count = ap is_sound (sym (kind.rolls-Array item count)) ∙ fold-roll-HlType Bool sound_step (HlType-F.Array item count)

pub option_sound : (item : HlType) → IsSound item → IsSound (kind.Option item)
option_sound item h = sound-Option item ∙ h

and_true : (a b : Bool) → a ≡ true → b ≡ true → a && b ≡ true
and_true true b h k = k
and_true false b h k = cc

pub either_sound : (left right : HlType) → IsSound left → IsSound right → IsSound (kind.Either left right)
either_sound left right h k = sound-Either left right ∙ and_true (is_sound left) (is_sound right) h k

pub sound_at : (kinds : List HlType) (i : ℕ) (k : HlType) → AreSoundTypes kinds → i < length kinds → k ≡ get_or kinds i k → IsSound k
sound_at kinds i k h within at = subst IsSound (sym at) (h i k within)

tuple_parts : (kinds : List HlType) → list_all (λ part. part) (map is_sound kinds) ≡ true → AreSoundTypes kinds
tuple_parts [] h i d less = absurd (omega arith)
tuple_parts (k ∷ kinds) h zero d less = (both (is_sound k) (list_all (λ part. part) (map is_sound kinds)) h).0
tuple_parts (k ∷ kinds) h (suc i) d less = tuple_parts kinds (both (is_sound k) (list_all (λ part. part) (map is_sound kinds)) h).1 i d (omega arith)

pub tuple_sound : (k : HlType) (kinds : List HlType) → k ≡ kind.Tuple kinds → IsSound k → AreSoundTypes kinds
tuple_sound k kinds e h = tuple_parts kinds (sym (sound-Tuple kinds) ∙ ap is_sound (sym e) ∙ h)

pub array_sound : (k item : HlType) (count : ℕ) → k ≡ kind.Array item count → IsSound k → IsSound item
array_sound k item count e h = (both (is_sound item) (is_count count) (sym (sound-Array item count) ∙ ap is_sound (sym e) ∙ h)).0

pub list_sound : (k item : HlType) (bound : ℕ) → k ≡ kind.List item bound → IsSound k → IsSound item
list_sound k item bound e h = (both (is_sound item) (is_bound bound) (sym (sound-List item bound) ∙ ap is_sound (sym e) ∙ h)).0

pub item_sound : (k item : HlType) → k ≡ kind.Option item → IsSound k → IsSound item
item_sound k item e h = sym (sound-Option item) ∙ ap is_sound (sym e) ∙ h

pub sides_sound : (k left right : HlType) → k ≡ kind.Either left right → IsSound k → IsSound left × IsSound right
sides_sound k left right e h = both (is_sound left) (is_sound right) (sym (sound-Either left right) ∙ ap is_sound (sym e) ∙ h)

-- the width of a sound type of numbers is one of words

pub width_sound : (k : HlType) (width : ℕ) → k ≡ kind.UInt width → IsSound k → IsTrue (is_width width)
width_sound k width e h = sym (sound-UInt width) ∙ ap is_sound (sym e) ∙ h

pub unit_sound : IsSound (kind.Tuple [])
unit_sound = sound-Tuple []

pub param_sound : (params : List TypedName) (i : ℕ) (p : TypedName) → AreSound params → slice_get params i ≡ Some p → IsSound p.kind
param_sound [] i p h at = cc
param_sound (q ∷ params) zero p h at = let same : q ≡ p = cc in subst (λ (r : TypedName). IsSound r.kind) same (h 0 q (omega arith))
param_sound (q ∷ params) (suc i) p h at = param_sound params i p (λ j d less. h (suc j) d (omega arith)) at

pub list_of_sound : (item : HlType) (bound : ℕ) → IsSound item → IsTrue (is_bound bound) → IsSound (kind.List item bound)
list_of_sound item bound h k = sound-List item bound ∙ and_true (is_sound item) (is_bound bound) h k

pub array_of_sound : (item : HlType) (count : ℕ) → IsSound item → IsTrue (is_count count) → IsSound (kind.Array item count)
array_of_sound item count h k = sound-Array item count ∙ and_true (is_sound item) (is_count count) h k

one_more : (P : TypedName → Type 0) (names : List TypedName) (x : TypedName) → All P names → P x → All P (names ++ x ∷ [])
one_more P names x h k = All-append P names (x ∷ []) h (λ i d less. only i d less)
  where
    only : (i : ℕ) (d : TypedName) → i < 1 → P (get_or (x ∷ []) i d)
    only zero d less = k
    only (suc i) d less = absurd (omega arith)

-- one more name of a sound type
pub one_more_sound : (names : List TypedName) (name : List ℕ) (k : HlType) → AreSound names → IsSound k → AreSound (names ++ record { name = name; kind = k } ∷ [])
one_more_sound names name k h s = one_more (λ p. IsSound p.kind) names (record { name = name; kind = k }) h s

pub first_two_sound : (params : List TypedName) (a b : TypedName) → params ≡ a ∷ b ∷ [] → AreSound params → IsSound a.kind × IsSound b.kind
first_two_sound params a b e h =
    let k : AreSound (a ∷ b ∷ []) = subst AreSound e h in
    (k 0 a (omega arith), k 1 b (omega arith))

pub first_of_three_sound : (params : List TypedName) (a b c : TypedName) → params ≡ a ∷ b ∷ c ∷ [] → AreSound params → IsSound a.kind × IsSound b.kind
first_of_three_sound params a b c e h =
    let k : AreSound (a ∷ b ∷ c ∷ []) = subst AreSound e h in
    (k 0 a (omega arith), k 1 b (omega arith))

pub one_function_sound : (functions : List TypedFunction) (f : TypedFunction) → All IsSoundFunction functions → IsSoundFunction f → All IsSoundFunction (functions ++ f ∷ [])
one_function_sound functions f h k = All-append IsSoundFunction functions (f ∷ []) h (λ i d less. only i d less)
  where
    only : (i : ℕ) (d : TypedFunction) → i < 1 → IsSoundFunction (get_or (f ∷ []) i d)
    only zero d less = k
    only (suc i) d less = absurd (omega arith)
