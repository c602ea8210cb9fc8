-- Items that are read in turn: one after the other, and to one answer at most.
use Rattle.std.proofs.Common.{◌≡◌, ℕ, ◌+◌, ◌<◌, ◌≤◌, List, [], ◌∷◌, ◌++◌, length, drop, get_or, Option, Some, None, Result, Ok, Err, refl, sym, ap, ◌∙◌, subst, append_assoc, append-nil}
use Rattle.std.specs.Prelude.{IsErrAnd}
use Rattle.std.proofs.lemmas.List.{drop_more, drop_all}
use Rattle.hl_files.specs.Turns.{before, Then, InTurn}

-- what was found, before what the rest gives
abbrev pub after : {B E : Type 0} → List B → Result (List B) E → Result (List B) E
after found (Ok more) = Ok (found ++ more)
after found (Err e) = Err e

after_some : {B E : Type 0} (found : List B) (y : B) (r : Result (List B) E) → after found (before (Some y) r) ≡ after (found ++ y ∷ []) r
after_some found y (Ok more) = ap Ok (sym (append_assoc found (y ∷ []) more))
after_some found y (Err e) = refl

after_none : {B E : Type 0} (found : List B) (r : Result (List B) E) → after found (before None r) ≡ after found r
after_none found (Ok more) = refl
after_none found (Err e) = refl

-- what comes of the items from a place on is what comes of all, after what was found before the place
pub record Passed {A B E : Type 0} (Gives : A → Result (Option B) E → Type 0) (xs : List A) (place : ℕ) (found : List B) : Type 0 where
  pub rest : (r : Result (List B) E) → InTurn Gives (drop place xs) r → InTurn Gives xs (after found r)

module _ {A B E : Type 0} (Gives : A → Result (Option B) E → Type 0) where
  pub passed_none : (xs : List A) → Passed Gives xs 0 []
  passed_none xs = record { rest = λ r h. elim r as (λ r. InTurn Gives xs r → InTurn Gives xs (after [] r)) [ Ok ys ↦ (λ h. h) | Err e ↦ (λ h. h) ] h }

  module _ (xs : List A) (place : ℕ) (x : A) (less : place < length xs) (is : x ≡ get_or xs place x) where
    the_rest : drop place xs ≡ x ∷ drop (place + 1) xs
    the_rest = drop_more xs place x less ∙ ap (λ y. y ∷ drop (place + 1) xs) (sym is)

    turn : (o : Option B) (r : Result (List B) E) → Gives x (Ok o) → InTurn Gives (drop (place + 1) xs) r → InTurn Gives (drop place xs) (before o r)
    turn o r g h = rw the_rest (Ok o, g, (r, h, refl))

    pub passed_some : (found : List B) (y : B) → Gives x (Ok (Some y)) → Passed Gives xs place found → Passed Gives xs (place + 1) (found ++ y ∷ [])
    passed_some found y g p = record { rest = λ r h. subst (InTurn Gives xs) (after_some found y r) (p.rest (before (Some y) r) (turn (Some y) r g h)) }

    pub passed_nothing : (found : List B) → Gives x (Ok None) → Passed Gives xs place found → Passed Gives xs (place + 1) found
    passed_nothing found g p = record { rest = λ r h. subst (InTurn Gives xs) (after_none found r) (p.rest (before None r) (turn None r g h)) }

    pub refused : (all : List A) → xs ≡ all → (found : List B) (e : E) (r : Result (List B) E) → Gives x (Err e) → Passed Gives xs place found → IsErrAnd r (λ f. f ≡ e) → InTurn Gives all r
    refused all same found e (Ok ys) g p k = absurd k
    refused all same found e (Err f) g p k =
        let here : InTurn Gives xs (Err e) = p.rest (Err e) (rw the_rest (Err e, g, refl)) in
        subst (λ f. InTurn Gives all (Err f)) (sym k) (subst (λ ys. InTurn Gives ys (Err e)) same here)

  pub passed_all : (xs all : List A) → xs ≡ all → (place : ℕ) (found : List B) → length xs ≤ place → Passed Gives xs place found → InTurn Gives all (Ok found)
  passed_all xs all same place found past p =
      let none : drop place xs ≡ [] = drop_all place xs past in
      let whole : InTurn Gives xs (Ok (found ++ [])) = p.rest (Ok []) (rw none refl) in
      subst (λ ys. InTurn Gives ys (Ok found)) same (rw (append-nil found) at whole)

-- what an item gives is one answer, but for want of memory
abbrev pub IsOneGiven : {A B E : Type 0} → E → (A → Result (Option B) E → Type 0) → Type 0
IsOneGiven {A} {B} {E} memory Gives = (x : A) (r s : Result (Option B) E) → Gives x r → Gives x s → (r ≡ Err memory → ⊥) → (s ≡ Err memory → ⊥) → r ≡ s

module _ {A B E : Type 0} (memory : E) (Gives : A → Result (Option B) E → Type 0) (one : IsOneGiven memory Gives) where
  abbrev IsOneRest : List A → Type 0
  IsOneRest xs = (r s : Result (List B) E) → InTurn Gives xs r → InTurn Gives xs s → (r ≡ Err memory → ⊥) → (s ≡ Err memory → ⊥) → r ≡ s

  short : (first : Result (Option B) E) (Rest : Result (List B) E → Type 0) (r : Result (List B) E) → Then Rest first r → (r ≡ Err memory → ⊥) → first ≡ Err memory → ⊥
  short (Ok found) Rest r h ample e = absurd (cc)
  short (Err fault) Rest r h ample e = let same : fault ≡ memory = cc in ample (h ∙ ap Err same)

  short_rest : (found : Option B) (rest r : Result (List B) E) → r ≡ before found rest → (r ≡ Err memory → ⊥) → rest ≡ Err memory → ⊥
  short_rest found rest r h ample e = ample (h ∙ ap (before found) e)

  one_then : (xs : List A) (f g : Result (Option B) E) (r s : Result (List B) E) → IsOneRest xs → f ≡ g → Then (InTurn Gives xs) f r → Then (InTurn Gives xs) g s →
      (r ≡ Err memory → ⊥) → (s ≡ Err memory → ⊥) → r ≡ s
  one_then xs (Ok x) (Ok y) r s rest e h k m n =
      let same : x ≡ y = cc in
      let rests = rest h.0 k.0 h.1 k.1 (short_rest x h.0 r h.2 m) (short_rest y k.0 s k.2 n) in
      h.2 ∙ ap (before x) rests ∙ ap (λ o. before o k.0) same ∙ sym k.2
  one_then xs (Ok x) (Err b) r s rest e h k m n = absurd (cc)
  one_then xs (Err a) (Ok y) r s rest e h k m n = absurd (cc)
  one_then xs (Err a) (Err b) r s rest e h k m n = let same : a ≡ b = cc in h ∙ ap Err same ∙ sym k

  pub one_in_turn : (xs : List A) → IsOneRest xs
  one_in_turn [] r s h k m n = h ∙ sym k
  one_in_turn (x ∷ xs) r s h k m n =
      one_then xs h.0 k.0 r s (one_in_turn xs) (one x h.0 k.0 h.1 k.1 (short h.0 (InTurn Gives xs) r h.2 m) (short k.0 (InTurn Gives xs) s k.2 n)) h.2 k.2 m n

-- a refusal that no item gives doesn't come of them
module _ {A B E : Type 0} (e : E) (Gives : A → Result (Option B) E → Type 0) (no : (x : A) → Gives x (Err e) → ⊥) where
  rest_is : (found : Option B) (rest : Result (List B) E) → Err e ≡ before found rest → rest ≡ Err e
  rest_is None (Ok xs) h = absurd (cc)
  rest_is (Some x) (Ok xs) h = absurd (cc)
  rest_is found (Err f) h = sym h

  not_then : (x : A) (first : Result (Option B) E) (Rest : Result (List B) E → Type 0) → (Rest (Err e) → ⊥) → Gives x first → Then Rest first (Err e) → ⊥
  not_then x (Ok found) Rest none g t = none (subst Rest (rest_is found t.0 t.2) t.1)
  not_then x (Err f) Rest none g t = let same : f ≡ e = cc in no x (subst (λ f. Gives x (Err f)) same g)

  pub never : (xs : List A) → InTurn Gives xs (Err e) → ⊥
  never [] h = absurd (cc)
  never (x ∷ xs) h = not_then x h.0 (InTurn Gives xs) (never xs) h.1 h.2
