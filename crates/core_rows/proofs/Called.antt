-- Calls that the tests by numbers admit.
use Rattle.std.proofs.Common.{ℕ, zero, suc, Bool, get_or, length, ◌≡◌, ◌<◌, ◌≤◌, ◌&&◌, true, nat_le, List, [], ◌∷◌, map, take, sym, ◌∙◌, arith, IsTrue}
use Rattle.std.specs.List.{list_all}
use Rattle.std.specs.Str.{bytes_eq}
use Rattle.std.proofs.lemmas.Bool.Decides.{nat_tests}
use Rattle.std.proofs.lemmas.Slice.Eq.{bytes_eq-Decides}
use Rattle.std.proofs.lemmas.List.{take-map}
use Rattle.jets.specs.Unsigned.{Unsigned}
use Rattle.jets.specs.Jet.{Jet, is_jet, argument_kinds, width_of}
use Rattle.word_math.specs.Answer.{widths_of}
use Rattle.word_math.proofs.Listed.{both}
use Rattle.core_rows.specs.Calls.{is_call}

pub there : (j : Jet) (n w count : ℕ) (widths : List ℕ) → IsTrue (is_call j n w count widths) → IsTrue (is_jet j n w)
there j n w count widths h = (both (is_jet j n w) (nat_le count 4 && bytes_eq (take count widths) (map width_of (argument_kinds j n w))) h).0

pub at_most_four : (j : Jet) (n w count : ℕ) (widths : List ℕ) → IsTrue (is_call j n w count widths) → count ≤ 4
at_most_four j n w count widths h =
    let p = both (is_jet j n w) (nat_le count 4 && bytes_eq (take count widths) (map width_of (argument_kinds j n w))) h in
    let q = both (nat_le count 4) (bytes_eq (take count widths) (map width_of (argument_kinds j n w))) p.1 in
    grind (arith, nat_tests, q.0)

pub typed_words : (j : Jet) (n w count : ℕ) (us : List Unsigned) → IsTrue (is_call j n w count (widths_of us))
    → widths_of (take count us) ≡ map width_of (argument_kinds j n w)
typed_words j n w count us h =
    let p = both (is_jet j n w) (nat_le count 4 && bytes_eq (take count (widths_of us)) (map width_of (argument_kinds j n w))) h in
    let q = both (nat_le count 4) (bytes_eq (take count (widths_of us)) (map width_of (argument_kinds j n w))) p.1 in
    sym (take-map (λ (u : Unsigned). u.width) count us) ∙ (bytes_eq-Decides (take count (widths_of us)) (map width_of (argument_kinds j n w))).0 q.1

-- what holds of each element holds of one
pub list_all-get_or : {X : Type 0} (p : X → Bool) (xs : List X) (i : ℕ) (d : X) → i < length xs → list_all p xs ≡ true → p (get_or xs i d) ≡ true
list_all-get_or p [] i d within all = absurd (omega arith)
list_all-get_or p (x ∷ xs) zero d within all = (both (p x) (list_all p xs) all).0
list_all-get_or p (x ∷ xs) (suc i) d within all = list_all-get_or p xs i d (omega arith) (both (p x) (list_all p xs) all).1
