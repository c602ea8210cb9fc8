-- Which parameter a name is.
use Rattle.std.proofs.Common.{◌≡◌, ℕ, zero, suc, ◌+◌, ◌<◌, ◌≤◌, Bool, true, false, List, [], ◌∷◌, length, get_or, slice_get, Some, refl, sym, ap, ◌∙◌, arith, bytes_eq, ◌||◌, nat_lt}
use Rattle.std.proofs.lemmas.Bool.Decides.{nat_tests}
use Rattle.std.proofs.lemmas.Option.{slice_get-get_or}
use Rattle.std.proofs.lemmas.Slice.Eq.{bytes_eq-Decides}
use Rattle.small_source.specs.Names.{is_among}
use Rattle.small_terms.proofs.Lists.{get_within}

pub name_here : (names : List (List ℕ)) (place : ℕ) (x y name : List ℕ) → x ≡ get_or names place x → y ≡ x → place < length names → true ≡ bytes_eq y name → slice_get names place ≡ Some name
name_here names place x y name at same within equal =
    let e : y ≡ name = (bytes_eq-Decides y name).0 (sym equal) in
    let f : get_or names place x ≡ name = sym at ∙ sym same ∙ e in
    slice_get-get_or names place x within ∙ ap Some f

pub none_further : (names : List (List ℕ)) (place : ℕ) (x y name : List ℕ) → x ≡ get_or names place x → y ≡ x → place < length names → false ≡ bytes_eq y name → ((i : ℕ) → i < place → ¬ (slice_get names i ≡ Some name)) → (i : ℕ) → i < place + 1 → ¬ (slice_get names i ≡ Some name)
none_further names place x y name at same within other before i less there =
    split (nat_lt i place) refl
  where
    split : (b : Bool) → nat_lt i place ≡ b → ⊥
    split true e = before i (grind (arith, nat_tests)) there
    split false e =
        let here : i ≡ place = grind (arith, nat_tests) in
        let got : slice_get names place ≡ Some (get_or names place x) = slice_get-get_or names place x within in
        let is : Some name ≡ Some (get_or names place x) = sym there ∙ ap (slice_get names) here ∙ got in
        let named : y ≡ name = same ∙ at ∙ cc in
        let true_false : true ≡ false = sym ((bytes_eq-Decides y name).1 named) ∙ sym other in
        cc

pub none_at_all : (names : List (List ℕ)) (place : ℕ) (name : List ℕ) → length names ≤ place → ((i : ℕ) → i < place → ¬ (slice_get names i ≡ Some name)) → (i : ℕ) → ¬ (slice_get names i ≡ Some name)
none_at_all names place name past before i there = before i (omega (arith, get_within names i name there)) there

-- a name that stands at a place is among the names
pub among : (names : List (List ℕ)) (place : ℕ) (name : List ℕ) → slice_get names place ≡ Some name → is_among names name ≡ true
among [] place name there = cc
among (n ∷ names) zero name there =
    let e : n ≡ name = cc in
    let t : bytes_eq n name ≡ true = (bytes_eq-Decides n name).1 e in
    rw t refl
among (n ∷ names) (suc place) name there = either (bytes_eq n name) (among names place name there)
  where
    either : (b : Bool) → is_among names name ≡ true → (b || is_among names name) ≡ true
    either true h = refl
    either false h = h

-- a name that stands nowhere is not among them
pub not_among : (names : List (List ℕ)) (name : List ℕ) → ((i : ℕ) → ¬ (slice_get names i ≡ Some name)) → is_among names name ≡ false
not_among [] name none = refl
not_among (n ∷ names) name none = neither (bytes_eq n name) refl (not_among names name (λ i. none (suc i)))
  where
    neither : (b : Bool) → bytes_eq n name ≡ b → is_among names name ≡ false → (b || is_among names name) ≡ false
    neither true e h = absurd (none 0 (ap Some ((bytes_eq-Decides n name).0 e)))
    neither false e h = h
