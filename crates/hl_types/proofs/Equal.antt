-- Types that are the same, part by part.
use Rattle.std.proofs.Common.{◌≡◌, ◌≢◌, ℕ, suc, ◌+◌, ◌<◌, ◌≤◌, Bool, true, false, ◌&&◌, List, [], ◌∷◌, length, map, drop, get_or, refl, sym, ap, ◌∙◌, arith, Some}
use Rattle.std.specs.List.{slice_get}
use Rattle.hl_syntax.specs.declared.kinds.HlType.{HlType}
use Rattle.hl_syntax.specs.declared.kinds.HlType.TheOpen.{HlType-F}
use Rattle.hl_syntax.specs.declared.kinds.HlType.TheViews.{out-HlType}
use Rattle.hl_syntax.specs.declared.kinds.HlType.TheFolds.{fold-roll-HlType}
use Rattle.hl_syntax.specs.declared.kinds.HlType.TheVariants as kind
use Rattle.hl_types.proofs.Drops.{drop_item, drop_got, drop_past}
use Rattle.simplicityhl.specs.Same.{all_same, same_shape, same_type}

pub same-Tuple : (parts given : List HlType) → same_type (kind.Tuple parts) (kind.Tuple given) ≡ all_same (map same_type parts) given
same-Tuple parts given =
    ap (λ k. same_type k (kind.Tuple given)) (sym (kind.rolls-Tuple parts))
    ∙ ap (λ (f : HlType → Bool). f (kind.Tuple given)) (fold-roll-HlType (HlType → Bool) (λ shape other. same_shape shape (out-HlType other)) (HlType-F.Tuple parts))
    ∙ ap (same_shape (HlType-F.Tuple (map same_type parts))) (kind.outs-Tuple given)

and_false : (b : Bool) → b && false ≡ false
and_false true = refl
and_false false = refl

pub not_same_length : (tests : List (HlType → Bool)) (given : List HlType) → length tests ≢ length given → all_same tests given ≡ false
not_same_length [] [] h = absurd (h refl)
not_same_length [] (g ∷ given) h = refl
not_same_length (t ∷ tests) [] h = refl
not_same_length (t ∷ tests) (g ∷ given) h = rw (not_same_length tests given (λ e. h (ap (λ n. suc n) e))) (and_false (t g))

abbrev pub left_same : List HlType → List HlType → ℕ → Bool
left_same parts given i = all_same (map same_type (drop i parts)) (drop i given)

pub same_next : (parts given : List HlType) (i : ℕ) (part other : HlType) → i < length parts → part ≡ get_or parts i part → slice_get given i ≡ Some other →
    left_same parts given i ≡ same_type part other && left_same parts given (i + 1)
same_next parts given i part other less is at = let e = drop_item parts i part less is in let k = drop_got given i other at in rw (e, k) refl

pub same_end : (parts given : List HlType) (i : ℕ) → length parts ≡ length given → length parts ≤ i → left_same parts given i ≡ true
same_end parts given i same past = let e = drop_past i parts past in let k = drop_past i given (omega arith) in rw (e, k) refl
