-- Written types that are walked one after the other.
use Rattle.std.proofs.Common.{◌≡◌, ℕ, zero, suc, ◌+◌, ◌<◌, true, List, [], ◌∷◌, ◌++◌, length, map, drop, get_or, refl, sym, ap, ◌∙◌, arith, IsTrue, Result, Ok, Err, append_assoc}
use Rattle.std.proofs.lemmas.List.{drop_more}
use Rattle.std.specs.List.{All, list_all}
use Rattle.hl_syntax.specs.declared.kinds.HlType.{HlType}
use Rattle.hl_syntax.specs.declared.kinds.HlType.TheVariants as kind
use Rattle.hl_syntax.specs.declared.kinds.TypedName.{TypedName}
use Rattle.hl_syntax.specs.declared.tree.TypeText.{TypeText}
use Rattle.simplicityhl.specs.Kinds.{IsSound}
use Rattle.simplicityhl.specs.Written.{Broken, walk, then_walk, in_turn}
use Rattle.simplicityhl.specs.Kinds.{is_sound}
use Rattle.hl_types.proofs.Parts.{sound-Tuple}

-- the types that were found, before those that the parts that are left stand for
abbrev pub after : List HlType → Result (List HlType) Broken → Result (List HlType) Broken
after kinds rest = then_walk rest (λ more. Ok (kinds ++ more))

after_next : (kinds : List HlType) (k : HlType) (rest : Result (List HlType) Broken) → after kinds (then_walk rest (λ more. Ok (k ∷ more))) ≡ after (kinds ++ k ∷ []) rest
after_next kinds k (Ok more) = ap Ok (sym (append_assoc kinds (k ∷ []) more))
after_next kinds k (Err broken) = refl

-- one more part was found
pub part_found : (aliases : List TypedName) (texts : List TypeText) (i : ℕ) (text : TypeText) (kinds : List HlType) (k : HlType) (whole : Result (List HlType) Broken) →
    i < length texts → text ≡ get_or texts i text → walk aliases text ≡ Ok k → after kinds (in_turn (map (walk aliases) (drop i texts))) ≡ whole →
    after (kinds ++ k ∷ []) (in_turn (map (walk aliases) (drop (i + 1) texts))) ≡ whole
part_found aliases texts i text kinds k whole less is found h =
    let left : drop i texts ≡ text ∷ drop (i + 1) texts = drop_more texts i text less ∙ ap (λ t. t ∷ drop (i + 1) texts) (sym is) in
    let h' = rw (left, found) at h in
    sym (after_next kinds k (in_turn (map (walk aliases) (drop (i + 1) texts)))) ∙ h'

-- types that are sound, one more and all
pub one_sound : (k : HlType) → IsSound k → All IsSound (k ∷ [])
one_sound k h zero d less = h
one_sound k h (suc i) d less = absurd (omega arith)

list_sound : (kinds : List HlType) → All IsSound kinds → IsTrue (list_all (λ part. part) (map is_sound kinds))
list_sound [] h = refl
list_sound (k ∷ kinds) h =
    let first : 0 < suc (length kinds) = omega arith in
    let one : is_sound k ≡ true = h 0 k first in
    rw one (list_sound kinds (λ i d less. h (suc i) d (omega arith)))

pub tuple_sound : (kinds : List HlType) → All IsSound kinds → IsSound (kind.Tuple kinds)
tuple_sound kinds h = rw sound-Tuple (list_sound kinds h)
