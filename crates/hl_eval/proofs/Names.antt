-- Bindings in a list whose last is found first.
use Rattle.std.proofs.Common.{◌≡◌, ℕ, ◌-◌, ◌≤◌, Bool, true, false, cond, List, [], ◌∷◌, ◌++◌, length, map, take, drop, reverse, find, Option, Some, None, option_map, refl, sym, ap, ◌∙◌, arith}
use Rattle.std.proofs.lemmas.List.{length-map, length-reverse, map-append, reverse-append, take-append-drop, length-drop}
use Rattle.std.proofs.Math.Seq.{drop-append_seam}
use mathlib.Core.List.{reverse-cons}
use Rattle.std.specs.Prelude.{bytes_eq}
use Rattle.hl_meaning.specs.Scopes.{Binding, meant}

pub map-reverse : {A B : Type 0} (f : A → B) (xs : List A) → reverse (map f xs) ≡ map f (reverse xs)
map-reverse f [] = refl
map-reverse f (x ∷ xs) =
    reverse-cons (f x) (map f xs) ∙ ap (λ ys. ys ++ f x ∷ []) (map-reverse f xs) ∙ sym (map-append f (reverse xs) (x ∷ [])) ∙ ap (map f) (sym (reverse-cons x xs))

found_or : {A B : Type 0} (f : A → B) (b : Bool) (x : A) (o : Option B) (p : Option A) → o ≡ option_map f p → cond b (Some (f x)) o ≡ option_map f (cond b (Some x) p)
found_or f true x o p e = refl
found_or f false x o p e = e

-- what is found among images
pub find-map : {A B : Type 0} (test : B → Bool) (f : A → B) (xs : List A) → find test (map f xs) ≡ option_map f (find (λ x. test (f x)) xs)
find-map test f [] = refl
find-map test f (x ∷ xs) = found_or f (test (f x)) x (find test (map f xs)) (find (λ y. test (f y)) xs) (find-map test f xs)

pub option_map-map : {A B C : Type 0} (g : B → C) (f : A → B) (o : Option A) → option_map g (option_map f o) ≡ option_map (λ x. g (f x)) o
option_map-map g f None = refl
option_map-map g f (Some x) = refl

-- the last of a list's first items are left, seen from its end
pub last_left : {A B : Type 0} (f : A → B) (n : ℕ) (xs : List A) → n ≤ length (reverse (map f xs)) →
    reverse (map f (take n xs)) ≡ drop (length (reverse (map f xs)) - n) (reverse (map f xs))
last_left f n xs h =
    let front = reverse (map f (take n xs)) in let back = reverse (map f (drop n xs)) in
    let parts : reverse (map f xs) ≡ back ++ front =
    ap (λ ys. reverse (map f ys)) (sym (take-append-drop n xs)) ∙ ap reverse (map-append f (take n xs) (drop n xs)) ∙ reverse-append (map f (take n xs)) (map f (drop n xs)) in
    let whole : length (reverse (map f xs)) ≡ length xs = length-reverse (map f xs) ∙ length-map xs f in
    let behind : length back ≡ length xs - n = length-reverse (map f (drop n xs)) ∙ length-map (drop n xs) f ∙ length-drop n xs in
    let many : length (reverse (map f xs)) - n ≡ length back = omega (arith, whole, behind) in
    sym (ap (λ k. drop k (reverse (map f xs))) many ∙ ap (drop (length back)) parts ∙ drop-append_seam back front)

-- what a name means among bindings that are images
pub meant_of : {A : Type 0} (f : A → Binding) (name : List ℕ) (xs : List A) → meant name (map f xs) ≡ option_map (λ a. (f a).value) (find (λ a. bytes_eq name (f a).name) xs)
meant_of f name xs =
    ap (option_map (λ b. b.value)) (find-map (λ b. bytes_eq name b.name) f xs) ∙ option_map-map (λ b. b.value) f (find (λ a. bytes_eq name (f a).name) xs)

pub meant_last : {A : Type 0} (f : A → Binding) (name : List ℕ) (xs : List A) → meant name (reverse (map f xs)) ≡ option_map (λ a. (f a).value) (find (λ a. bytes_eq name (f a).name) (reverse xs))
meant_last f name xs = ap (meant name) (map-reverse f xs) ∙ meant_of f name (reverse xs)
