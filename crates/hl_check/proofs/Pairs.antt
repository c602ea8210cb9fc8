-- Lists of two.
use Rattle.std.proofs.Common.{◌≡◌, ◌<◌, ◌≤◌, List, [], ◌∷◌, length, get_or, refl, arith, sym}

pub two_of : {A : Type 0} (xs : List A) (x y : A) → 2 ≤ length xs → length xs < 3 → x ≡ get_or xs 0 x → y ≡ get_or xs 1 y → xs ≡ x ∷ y ∷ []
two_of [] x y least below a b = absurd (omega arith)
two_of (u ∷ []) x y least below a b = absurd (omega arith)
two_of (u ∷ v ∷ []) x y least below a b = let e : u ≡ x = sym a in let f : v ≡ y = sym b in rw (e, f) refl
two_of (u ∷ v ∷ w ∷ xs) x y least below a b = absurd (omega arith)
