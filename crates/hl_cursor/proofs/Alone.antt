-- One item without a comma.
use Rattle.std.proofs.Common.{◌≡◌, ◌≢◌, false, List, [], ◌∷◌, length, refl, arith, Some}
use Rattle.std.specs.List.{slice_get}
use Rattle.simplicityhl.specs.Grammar.{alone_or}

pub alone_one : {A : Type 0} (tuple : List A → A) (xs : List A) (a : A) → length xs ≡ 1 → slice_get xs 0 ≡ Some a → alone_or tuple xs false ≡ a
alone_one tuple [] a one at = absurd (omega arith)
alone_one tuple (x ∷ []) a one at = let same : x ≡ a = cc in same
alone_one tuple (x ∷ y ∷ xs) a one at = absurd (omega arith)

pub not_alone : {A : Type 0} (tuple : List A → A) (xs : List A) → length xs ≢ 1 → alone_or tuple xs false ≡ tuple xs
not_alone tuple [] several = refl
not_alone tuple (x ∷ []) several = absurd (several refl)
not_alone tuple (x ∷ y ∷ xs) several = refl
