-- Every row of the jets is sound, and so each jet answers.
use Rattle.std.proofs.Common.{◌≡◌, ℕ, Bool, true, false, ◌&&◌, nat_lt, nat_le, List, [], ◌∷◌, map, Some, All, cond, refl, arith}
use Rattle.std.specs.Prelude.{bytes_eq, find}
use Rattle.std.specs.List.{list_all, flat_map}
use Rattle.std.proofs.lemmas.Bool.Decides.{nat_tests}
use Rattle.std.proofs.lemmas.List.Elements.{All-nil, All-cons, All-head, All-tail, All-append}
use Rattle.hl_data.specs.declared.value.HlValue.{HlValue}
use Rattle.jets.specs.Jet as jet
use Rattle.jets.specs.Jet.{Jet, Row, row_at, family, sizes, jets, rows}
use Rattle.hl_meaning.specs.Answer.{shaped}
use Rattle.hl_meaning.specs.Jets.{jet_answer, row_answer}
use Rattle.hl_rules.specs.Exprs.{jet_named, jet_arguments, jet_result}
use Rattle.hl_jets.specs.Held.{AreValuesOf, HasAnswer}
use Rattle.hl_jets.specs.Laws.{JetsAnswer}
use Rattle.hl_jets.proofs.Bounds.{jet_fits}
use Rattle.hl_jets.proofs.Values.{IsSoundRow, row_answers}

-- the lesser width isn't 0, and is at most the greater
abbrev is_size : ℕ × ℕ → Bool
is_size s = nat_lt 0 s.0 && nat_le s.0 s.1

sizes_are : (j : Jet) → list_all is_size (sizes j) ≡ true
sizes_are jet.Low = refl
sizes_are jet.High = refl
sizes_are jet.Complement = refl
sizes_are jet.And = refl
sizes_are jet.Or = refl
sizes_are jet.Xor = refl
sizes_are jet.Maj = refl
sizes_are jet.XorXor = refl
sizes_are jet.Ch = refl
sizes_are jet.Some = refl
sizes_are jet.Eq = refl
sizes_are jet.Verify = refl
sizes_are jet.Leftmost = refl
sizes_are jet.Rightmost = refl
sizes_are jet.LeftPadLow = refl
sizes_are jet.LeftPadHigh = refl
sizes_are jet.LeftExtend = refl
sizes_are jet.RightPadLow = refl
sizes_are jet.RightPadHigh = refl
sizes_are jet.RightExtend = refl
sizes_are _ = refl

both : (a b : Bool) → (a && b) ≡ true → (a ≡ true) × (b ≡ true)
both true b h = (refl, h)
both false b h = absurd (cc)

size_sound : (j : Jet) (s : ℕ × ℕ) → is_size s ≡ true → IsSoundRow (row_at j s)
size_sound j s h =
    let p = both (nat_lt 0 s.0) (nat_le s.0 s.1) h in
    jet_fits j s.0 s.1 (grind (arith, nat_tests, p.0)) (grind (arith, nat_tests, p.1))

sizes_sound : (j : Jet) (ss : List (ℕ × ℕ)) → list_all is_size ss ≡ true → All IsSoundRow (map (row_at j) ss)
sizes_sound j [] h = All-nil IsSoundRow
sizes_sound j (s ∷ ss) h =
    let p = both (is_size s) (list_all is_size ss) h in
    All-cons IsSoundRow (row_at j s) (map (row_at j) ss) (size_sound j s p.0) (sizes_sound j ss p.1)

families_sound : (js : List Jet) → All IsSoundRow (flat_map family js)
families_sound [] = All-nil IsSoundRow
families_sound (j ∷ js) = All-append IsSoundRow (family j) (flat_map family js) (sizes_sound j (sizes j) (sizes_are j)) (families_sound js)

-- what is found in a list holds what all of it holds
found_holds : {A : Type 0} (P : A → Type 0) (test : A → Bool) (xs : List A) (x : A) → All P xs → find test xs ≡ Some x → P x
found_holds P test [] x all h = absurd (cc)
found_holds {A} P test (y ∷ ys) x all h = of_test (test y) (λ e. found_holds P test ys x (All-tail P y ys all) e) h
  where
    of_test : (b : Bool) → (find test ys ≡ Some x → P x) → cond b (Some y) (find test ys) ≡ Some x → P x
    of_test true later e = let same : y ≡ x = cc in rw (← same) (All-head P y ys all)
    of_test false later e = later e

-- a row that is found answers
found_answers : (rs : List Row) → All IsSoundRow rs → (name : List ℕ) (row : Row) → find (λ row. bytes_eq name row.name) rs ≡ Some row → (vs : List HlValue) → AreValuesOf vs (jet_arguments row)
    → HasAnswer (jet_result row) (shaped (find (λ row. bytes_eq name row.name) rs) (row_answer vs))
found_answers rs all name row h vs of_kinds =
    rw h (row_answers row (found_holds IsSoundRow (λ row. bytes_eq name row.name) rs row all h) vs of_kinds)

pub jets_answer : JetsAnswer
unfolding jet_answer jet_named
jets_answer = found_answers rows (families_sound jets)
