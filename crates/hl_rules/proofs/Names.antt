-- Names that stand in lists.
use Rattle.std.proofs.Common.{◌≡◌, ℕ, List, [], ◌∷◌, ◌++◌, map, flat_map, bytes_eq, refl, sym, ap, ◌∙◌, append_assoc, append-nil, ◌||◌}
use Rattle.std.proofs.lemmas.List.{map-append}
use Rattle.std.proofs.lemmas.List.Concat.{flat_map-append}
use Rattle.hl_syntax.specs.declared.kinds.TypedName.{TypedName}
use Rattle.simplicityhl.specs.Grammar.{is_among}
use Rattle.hl_rules.specs.Places.{has_name}
use Rattle.hl_rules.specs.Witnesses.{Names, joined}

abbrev pub names_of : List TypedName → Names
names_of names = map (λ one. one.name) names

pub has_among : (names : List TypedName) (name : List ℕ) → has_name names name ≡ is_among (names_of names) name
has_among [] name = refl
has_among (one ∷ names) name = ap (λ b. bytes_eq name one.name || b) (has_among names name)

-- one more name
pub named_more : (names : List TypedName) (one : TypedName) (before : Names) → names_of names ≡ before → names_of (names ++ one ∷ []) ≡ before ++ one.name ∷ []
named_more names one before is = map-append (λ (n : TypedName). n.name) names (one ∷ []) ∙ ap (λ ns. ns ++ one.name ∷ []) is

pub joined_map : {A : Type 0} (f : A → Names) (xs : List A) → joined (map f xs) ≡ flat_map f xs
joined_map f [] = refl
joined_map f (x ∷ xs) = ap (λ ns. f x ++ ns) (joined_map f xs)

-- the names of one more part
pub flat_more : {A : Type 0} (f : A → Names) (xs : List A) (x : A) (before : Names) → (before ++ flat_map f xs) ++ f x ≡ before ++ flat_map f (xs ++ x ∷ [])
flat_more f xs x before = append_assoc before (flat_map f xs) (f x) ∙ ap (λ ns. before ++ ns) (sym (flat_map-append f xs (x ∷ []) ∙ ap (λ ns. flat_map f xs ++ ns) (append-nil (f x))))
