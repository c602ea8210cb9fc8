-- The steps to a part by its place among several.
use Rattle.std.proofs.Common.{◌≡◌, ℕ, zero, suc, ◌+◌, ◌-◌, ◌/◌, ◌<◌, ◌≤◌, List, [], ◌∷◌, ◌++◌, length, map, take, drop, replicate, Some, None, refl, sym, ap, ◌∙◌, subst, arith, length-take, length-append, append-nil}
use Rattle.std.proofs.lemmas.List.{length-map, length-replicate, take-replicate, drop-replicate, drop_all}
use Rattle.std.specs.Prelude.{slice_get}
use Rattle.simplicity.specs.Tuples.{halves}
use Rattle.simplicity.proofs.Tuples.{halves_pair}
use Rattle.scope_layout.specs.Paths.{Way, in_either, among}
use Rattle.scope_layout.specs.declared.path.Step.{Step}
use Rattle.scope_layout.specs.declared.path.Step.TheVariants as step

-- nothing, so many times, before something
abbrev pub first_at : ℕ → List Step → List Way → List Way
first_at i p rest = replicate i None ++ Some p ∷ rest

abbrev pub Leads : (place count : ℕ) (p q : List Step) → Type 0
Leads place count p q = (rest : List Way) → place + suc (length rest) ≡ count → among (first_at place p rest) ≡ Some q

-- a part in the first half
record Front (n i : ℕ) (p : List Step) (rest : List Way) : Type 0 where
  pub others : List Way
  pub is : take n (first_at i p rest) ≡ first_at i p others
  pub many : i + suc (length others) ≡ n

front : (n i : ℕ) (p : List Step) (rest : List Way) → i < n → n ≤ i + suc (length rest) → Front n i p rest
front zero i p rest less few = absurd (omega (arith, less))
front (suc n) zero p rest less few = record { others = take n rest; is = refl; many = omega (arith, few, length-take n rest) }
front (suc n) (suc i) p rest less few =
    let f = front n i p rest (omega (arith, less)) (omega (arith, few)) in
    record { others = f.others; is = ap (λ l. None ∷ l) f.is; many = omega (arith, f.many) }

-- a part after it
before_back : (n i : ℕ) (l : List Way) → n ≤ i → take n (replicate i None ++ l) ≡ replicate n None
before_back zero i l few = refl
before_back (suc n) zero l few = absurd (omega (arith, few))
before_back (suc n) (suc i) l few = ap (λ l. None ∷ l) (before_back n i l (omega (arith, few)))

back : (n i : ℕ) (l : List Way) → n ≤ i → drop n (replicate i None ++ l) ≡ replicate (i - n) None ++ l
back zero i l few = let e : i ≡ i - 0 = omega arith in ap (λ k. replicate k None ++ l) e
back (suc n) zero l few = absurd (omega (arith, few))
back (suc n) (suc i) l few = let e : i - n ≡ suc i - suc n = omega arith in back n i l (omega (arith, few)) ∙ ap (λ k. replicate k None ++ l) e

none_halves : (turns n : ℕ) → halves turns None in_either (replicate n None) ≡ None
none_halves turns zero = refl
none_halves turns (suc zero) = refl
none_halves zero (suc (suc n)) = refl
none_halves (suc turns) (suc (suc n)) =
    let m : ℕ = suc (suc n) in
    let long : length (replicate {A = Way} m None) ≡ m = length-replicate m None in
    let k : ℕ = length (replicate {A = Way} m None) / 2 in
    ap (λ l. in_either (halves turns None in_either l) (halves turns None in_either (drop k (replicate m None)))) (take-replicate k m None (omega (arith, long)))
    ∙ ap (λ l. in_either (halves turns None in_either (replicate k None)) (halves turns None in_either l)) (drop-replicate k m None)
    ∙ ap (λ o. in_either o (halves turns None in_either (replicate (m - k) None))) (none_halves turns k)
    ∙ ap (in_either None) (none_halves turns (m - k))

pub none_among : (n : ℕ) → among (replicate n None) ≡ None
none_among n = none_halves (length (replicate {A = Way} n None)) n

many_at : (place count : ℕ) (p : List Step) (rest : List Way) → place + suc (length rest) ≡ count → length (first_at place p rest) ≡ count
many_at place count p rest many = length-append (replicate place None) (Some p ∷ rest) ∙ ap (λ n. n + suc (length rest)) (length-replicate place None) ∙ many

in_halves : (place count : ℕ) (p : List Step) (rest : List Way) → 1 < count → place + suc (length rest) ≡ count →
    among (first_at place p rest) ≡ in_either (among (take (count / 2) (first_at place p rest))) (among (drop (count / 2) (first_at place p rest)))
in_halves place count p rest some many =
    let long = many_at place count p rest many in
    halves_pair None in_either (first_at place p rest) (omega (arith, long, some))
    ∙ ap (λ n. in_either (among (take (n / 2) (first_at place p rest))) (among (drop (n / 2) (first_at place p rest)))) long

alone : (place : ℕ) (p : List Step) (rest : List Way) → place + suc (length rest) ≡ 1 → among (first_at place p rest) ≡ Some p
alone zero p [] many = refl
alone zero p (x ∷ rest) many = absurd (omega (arith, many))
alone (suc place) p rest many = absurd (omega (arith, many))

pub to_alone : (place count : ℕ) (p : List Step) → count ≡ 1 → Leads place count p p
to_alone place count p one rest many = alone place p rest (many ∙ one)

in_front : (place count : ℕ) (p q : List Step) → 1 < count → place < count / 2 → Leads place (count / 2) p q → Leads place count p (step.Take ∷ q)
in_front place count p q some less leads rest many =
    let f = front (count / 2) place p rest less (omega (arith, many, less)) in
    let there : among (take (count / 2) (first_at place p rest)) ≡ Some q = ap among f.is ∙ leads f.others f.many in
    in_halves place count p rest some many ∙ ap (λ o. in_either o (among (drop (count / 2) (first_at place p rest)))) there

in_back : (place count : ℕ) (p q : List Step) → 1 < count → count / 2 ≤ place → Leads (place - count / 2) (count - count / 2) p q → Leads place count p (step.Drop ∷ q)
in_back place count p q some past leads rest many =
    let h : ℕ = count / 2 in
    let nothing : among (take h (first_at place p rest)) ≡ None = ap among (before_back h place (Some p ∷ rest) past) ∙ none_among h in
    let there : among (drop h (first_at place p rest)) ≡ Some q = ap among (back h place (Some p ∷ rest) past) ∙ leads rest (omega (arith, many, past)) in
    in_halves place count p rest some many ∙ ap (λ o. in_either o (among (drop h (first_at place p rest)))) nothing ∙ ap (in_either None) there

pub to_front : (place count half : ℕ) (p q r : List Step) → 1 < count → half ≡ count / 2 → place < half → Leads place half p q → r ≡ step.Take ∷ q → Leads place count p r
to_front place count half p q r some is less leads precedes rest many =
    in_front place count p q some (omega (arith, is, less)) (subst (λ h. Leads place h p q) is leads) rest many ∙ ap Some (sym precedes)

pub to_back : (place count half : ℕ) (p q r : List Step) → 1 < count → half ≡ count / 2 → half ≤ place → Leads (place - half) (count - half) p q → r ≡ step.Drop ∷ q → Leads place count p r
to_back place count half p q r some is past leads precedes rest many =
    in_back place count p q some (omega (arith, is, past)) (subst (λ h. Leads (place - h) (count - h) p q) is leads) rest many ∙ ap Some (sym precedes)

-- Parts one after the other, until one has what is looked for.

pub drop_next : {A : Type 0} (n : ℕ) (xs : List A) (x : A) → slice_get xs n ≡ Some x → drop n xs ≡ x ∷ drop (suc n) xs
drop_next n [] x is = absurd (cc)
drop_next zero (y ∷ xs) x is = let e : y ≡ x = cc in ap (λ z. z ∷ xs) e
drop_next (suc n) (y ∷ xs) x is = drop_next n xs x is

pub one_more : {A : Type 0} (n : ℕ) (x : A) (xs : List A) → replicate n x ++ x ∷ xs ≡ replicate (suc n) x ++ xs
one_more zero x xs = refl
one_more (suc n) x xs = ap (λ l. x ∷ l) (one_more n x xs)

abbrev pub Passed : {A : Type 0} (f : A → Way) (xs : List A) → ℕ → Type 0
Passed f xs n = map f xs ≡ replicate n None ++ map f (drop n xs)

module _ {A : Type 0} (f : A → Way) (xs : List A) where
  pub passed_next : (n : ℕ) (x : A) → slice_get xs n ≡ Some x → f x ≡ None → Passed f xs n → Passed f xs (suc n)
  passed_next n x there nothing passed =
      passed ∙ ap (λ l. replicate n None ++ map f l) (drop_next n xs x there) ∙ ap (λ o. replicate n None ++ o ∷ map f (drop (suc n) xs)) nothing ∙ one_more n None (map f (drop (suc n) xs))

  pub found_at : (n : ℕ) (x : A) (p q : List Step) → slice_get xs n ≡ Some x → f x ≡ Some p → Passed f xs n → Leads n (length xs) p q → among (map f xs) ≡ Some q
  found_at n x p q there found passed leads =
      let split : map f xs ≡ first_at n p (map f (drop (suc n) xs)) =
      passed ∙ ap (λ l. replicate n None ++ map f l) (drop_next n xs x there) ∙ ap (λ o. replicate n None ++ o ∷ map f (drop (suc n) xs)) found in
      ap among split ∙ leads (map f (drop (suc n) xs)) (sym (many_at n (n + suc (length (map f (drop (suc n) xs)))) p (map f (drop (suc n) xs)) refl) ∙ ap length (sym split) ∙ length-map xs f)

  pub found_nowhere : (n : ℕ) → length xs ≤ n → Passed f xs n → among (map f xs) ≡ None
  found_nowhere n few passed =
      ap among (passed ∙ ap (λ l. replicate n None ++ map f l) (drop_all n xs few) ∙ append-nil (replicate n None)) ∙ none_among n
