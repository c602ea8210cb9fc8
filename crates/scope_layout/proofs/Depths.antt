-- Layers one after the other, from the innermost outward.
use Rattle.std.proofs.Common.{◌≡◌, ℕ, suc, ◌+◌, ◌-◌, ◌<◌, ◌≤◌, List, [], ◌∷◌, ◌++◌, length, map, drop, replicate, reverse, Some, None, option_map, refl, sym, ap, ◌∙◌, arith}
use Rattle.std.proofs.lemmas.List.{drop_all, get_or-reverse, length-map, length-reverse, map-append}
use Rattle.std.proofs.lemmas.Option.{slice_get-map, slice_get_read}
use Rattle.std.proofs.Math.ListN.{get_or}
use mathlib.Core.List.{reverse-cons}
use Rattle.std.specs.Prelude.{slice_get}
use Rattle.scope_layout.specs.Paths.{Way, in_either}
use Rattle.scope_layout.specs.Layers.{within}
use Rattle.scope_layout.specs.declared.path.Step.{Step}
use Rattle.scope_layout.specs.declared.path.Step.TheVariants as step
use Rattle.scope_layout.proofs.Places.{drop_next, one_more}

-- past so many layers
abbrev pub deeper : ℕ → Way → Way
deeper n way = option_map (λ path. replicate n step.Drop ++ path) way

deeper_none : (way : Way) → deeper 0 way ≡ way
deeper_none None = refl
deeper_none (Some p) = refl

deeper_more : (n : ℕ) (way : Way) → deeper n (in_either None way) ≡ deeper (suc n) way
deeper_more n None = refl
deeper_more n (Some p) = ap Some (one_more n step.Drop p)

pub at_start : (ways : List Way) → within ways None ≡ deeper 0 (within (drop 0 ways) None)
at_start ways = sym (deeper_none (within ways None))

pub past_layer : (ways : List Way) (n : ℕ) (whole : Way) → slice_get ways n ≡ Some None → whole ≡ deeper n (within (drop n ways) None) →
    whole ≡ deeper (n + 1) (within (drop (n + 1) ways) None)
past_layer ways n whole there is =
    let next : suc n ≡ n + 1 = omega arith in
    is ∙ ap (λ l. deeper n (within l None)) (drop_next n ways None there) ∙ deeper_more n (within (drop (suc n) ways) None) ∙ ap (λ m. deeper m (within (drop m ways) None)) next

pub at_layer : (ways : List Way) (n : ℕ) (whole : Way) (p : List Step) → slice_get ways n ≡ Some (Some p) → whole ≡ deeper n (within (drop n ways) None) → whole ≡ Some (replicate n step.Drop ++ step.Take ∷ p)
at_layer ways n whole p there is = is ∙ ap (λ l. deeper n (within l None)) (drop_next n ways (Some p) there)

pub past_all : (ways : List Way) (n : ℕ) (whole : Way) → length ways ≤ n → whole ≡ deeper n (within (drop n ways) None) → whole ≡ None
past_all ways n whole few is = is ∙ ap (λ l. deeper n (within l None)) (drop_all n ways few)

-- in the layers, or else in what the scope began with
in_layers : (o : Way) (rest : Way) (p : List Step) → in_either o None ≡ Some p → in_either o rest ≡ Some p
in_layers (Some q) rest p is = is
in_layers None rest p is = absurd (cc)

first_kept : (o u v : Way) (p : List Step) → ((q : List Step) → u ≡ Some q → v ≡ Some q) → in_either o u ≡ Some p → in_either o v ≡ Some p
first_kept (Some r) u v p h is = is
first_kept None (Some q) v p h is = ap (in_either None) (h q refl) ∙ is
first_kept None None v p h is = absurd (cc)

pub found_before : (ways : List Way) (root : Way) (p : List Step) → within ways None ≡ Some p → within ways root ≡ Some p
found_before [] root p is = absurd (cc)
found_before (o ∷ ways) root p is = first_kept o (within ways None) (within ways root) p (found_before ways root) is

both_none : (o u : Way) → in_either o u ≡ None → (o ≡ None) × (u ≡ None)
both_none (Some q) u is = absurd (cc)
both_none None (Some q) is = absurd (cc)
both_none None None is = (refl, refl)

found_at_root : (ways : List Way) (root : Way) → within ways None ≡ None → within ways root ≡ deeper (length ways) root
found_at_root [] root is = sym (deeper_none root)
found_at_root (o ∷ ways) root is =
    let none = both_none o (within ways None) is in
    ap (λ w. in_either w (within ways root)) none.0 ∙ ap (in_either None) (found_at_root ways root none.1) ∙ dropped (length ways) root
  where
    dropped : (n : ℕ) (way : Way) → in_either None (deeper n way) ≡ deeper (suc n) way
    dropped n None = refl
    dropped n (Some p) = refl

pub found_outside : (ways : List Way) (root : Way) (n : ℕ) (p q : List Step) → within ways None ≡ None → root ≡ Some p → n ≡ length ways → q ≡ replicate n step.Drop ++ p →
    Some q ≡ within ways root
found_outside ways root n p q none there many is =
    ap Some is ∙ ap (λ m. Some (replicate m step.Drop ++ p)) many ∙ ap (deeper (length ways)) (sym there) ∙ sym (found_at_root ways root none)

-- the layers of a list whose last is the innermost
map_reverse : {A B : Type 0} (f : A → B) (xs : List A) → reverse (map f xs) ≡ map f (reverse xs)
map_reverse f [] = refl
map_reverse f (x ∷ xs) =
    reverse-cons (f x) (map f xs) ∙ ap (λ ys. ys ++ f x ∷ []) (map_reverse f xs) ∙ sym (map-append f (reverse xs) (x ∷ [])) ∙ ap (map f) (sym (reverse-cons x xs))

pub from_end : {A B C : Type 0} (f : B → C) (g : A → B) (xs : List A) (n : ℕ) (x : A) → n < length xs → x ≡ get_or xs (length xs - 1 - n) x →
    slice_get (map f (reverse (map g xs))) n ≡ Some (f (g x))
from_end f g xs n x less is =
    ap (λ l. slice_get (map f l) n) (map_reverse g xs) ∙ slice_get-map f (map g (reverse xs)) n ∙ ap (option_map f) (slice_get-map g (reverse xs) n)
    ∙ ap (λ o. option_map f (option_map g o)) (slice_get_read (reverse xs) (length xs) n x (sym (length-reverse xs)) less (is ∙ sym (get_or-reverse xs n x less)))

pub as_many : {A B C : Type 0} (f : B → C) (g : A → B) (xs : List A) → length (map f (reverse (map g xs))) ≡ length xs
as_many f g xs = length-map (reverse (map g xs)) f ∙ length-reverse (map g xs) ∙ length-map xs g
