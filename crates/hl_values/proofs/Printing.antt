-- Texts that are written piece by piece.
use Rattle.std.proofs.Common.{◌≡◌, ℕ, zero, suc, ◌+◌, ◌-◌, ◌*◌, ◌/◌, ◌%◌, ◌^◌, ◌<◌, ◌≤◌, List, [], ◌∷◌, ◌++◌, length, map, take, get_or, refl, sym, ap, ◌∙◌, arith, append_assoc, zero-add, eq-eqb, Bool, true, false, nat_lt}
use Rattle.std.specs.Prelude.{codes}
use Rattle.std.proofs.lemmas.List.{map_more, take_all, length-map, length-take-le}
use Rattle.std.proofs.lemmas.Nat.{pow-add, pow_pos, shr_high}
use Rattle.std.proofs.Math.Nat.{add-mul-div_left, add-mul-mod_self_left, div-div-eq-div-mul}
use Rattle.jets.specs.Unsigned.{Unsigned}
use Rattle.hl_data.specs.declared.value.HlValue.{HlValue}
use Rattle.hl_values.specs.Printed.{joined, separator, printed, hexadecimal, hexadecimal_digit, number_text}

joined_push : (xs : List (List ℕ)) (x : List ℕ) (place : ℕ) → length xs ≡ place → joined (xs ++ x ∷ []) ≡ joined xs ++ (separator place ++ x)
joined_push [] x zero n = refl
joined_push [] x (suc place) n = absurd (omega arith)
joined_push (y ∷ xs) x zero n = absurd (omega arith)
joined_push (y ∷ []) x (suc place) n = append_assoc y (codes ", ") x
joined_push (y ∷ z ∷ xs) x (suc zero) n = absurd (omega arith)
joined_push (y ∷ z ∷ xs) x (suc (suc place)) n =
    let rest = joined_push (z ∷ xs) x (suc place) (omega arith) in
    ap (λ t. y ++ codes ", " ++ t) rest ∙ sym (append_assoc (y ++ codes ", ") (joined (z ∷ xs)) (codes ", " ++ x))

-- one more value
pub value_written : (start before middle after : List ℕ) (values : List HlValue) (i : ℕ) (v : HlValue) → i < length values → v ≡ get_or values i v → before ≡ start ++ joined (map printed (take i values)) →
    middle ≡ before ++ separator i → after ≡ middle ++ printed v → after ≡ start ++ joined (map printed (take (i + 1) values))
value_written start before middle after values i v less is b m a =
    let more : map printed (take (i + 1) values) ≡ map printed (take i values) ++ printed v ∷ [] = map_more printed values i v less ∙ ap (λ w. map printed (take i values) ++ printed w ∷ []) (sym is) in
    let long : length (map printed (take i values)) ≡ i = length-map (take i values) printed ∙ length-take-le i values (omega arith) in
    rw more (rw (joined_push (map printed (take i values)) (printed v) i long)
    (a ∙ ap (λ t. t ++ printed v) (m ∙ ap (λ t. t ++ separator i) b) ∙ append_assoc (start ++ joined (map printed (take i values))) (separator i) (printed v) ∙ append_assoc start (joined (map printed (take i values))) (separator i ++ printed v)))

pub values_written : (start text : List ℕ) (items values : List HlValue) (i : ℕ) → items ≡ values → length items ≤ i → text ≡ start ++ joined (map printed (take i items)) → text ≡ start ++ joined (map printed values)
values_written start text items values i same past h = rw (← same) (rw (take_all i items past) at h)

-- one more digit
pub digit_written : (start before after : List ℕ) (done number : ℕ) → done < 32 → before ++ hexadecimal (32 - done) number ≡ start → after ≡ before ++ hexadecimal_digit (number / 2 ^ (4 * (31 - done)) % 16) ∷ [] →
    after ++ hexadecimal (32 - (done + 1)) number ≡ start
digit_written start before after done number less b a =
    let more : 32 - done ≡ suc (31 - done) = omega arith in
    let same : 32 - (done + 1) ≡ 31 - done = omega arith in
    let b' = rw more at b in
    rw (a, same) (append_assoc before (hexadecimal_digit (number / 2 ^ (4 * (31 - done)) % 16) ∷ []) (hexadecimal (31 - done) number) ∙ b')

-- The digits of a number in two halves.

low_digit : (h l m : ℕ) → m < 32 → (h * 2 ^ 128 + l) / 2 ^ (4 * m) % 16 ≡ l / 2 ^ (4 * m) % 16
low_digit h l m less =
    let d : ℕ = 2 ^ (4 * m) in
    let e : ℕ = 2 ^ (124 - 4 * m) in
    let some : 0 < 2 ^ (4 * m) = pow_pos (4 * m) in
    let sum : 128 ≡ 4 * m + (4 + (124 - 4 * m)) = omega arith in
    let parts : 2 ^ 128 ≡ 2 ^ (4 * m) * (16 * 2 ^ (124 - 4 * m)) = ap (λ n. 2 ^ n) sum ∙ pow-add 2 (4 * m) (4 + (124 - 4 * m)) ∙ ap (λ x. 2 ^ (4 * m) * x) (pow-add 2 4 (124 - 4 * m)) in
    let whole : h * 2 ^ 128 + l ≡ l + 2 ^ (4 * m) * (h * (16 * 2 ^ (124 - 4 * m))) = ap (λ x. h * x + l) parts ∙ regroup h (2 ^ (4 * m)) (16 * 2 ^ (124 - 4 * m)) l in
    let quotient : (h * 2 ^ 128 + l) / 2 ^ (4 * m) ≡ l / 2 ^ (4 * m) + h * (16 * 2 ^ (124 - 4 * m)) = ap (λ x. x / 2 ^ (4 * m)) whole ∙ add-mul-div_left l (h * (16 * 2 ^ (124 - 4 * m))) some in
    ap (λ x. x % 16) (quotient ∙ sixteens (l / 2 ^ (4 * m)) h (2 ^ (124 - 4 * m))) ∙ add-mul-mod_self_left (l / 2 ^ (4 * m)) 16 (h * 2 ^ (124 - 4 * m))
  where
    regroup : (h d f l : ℕ) → h * (d * f) + l ≡ l + d * (h * f)
    regroup h d f l = grind arith

    sixteens : (q h e : ℕ) → q + h * (16 * e) ≡ q + 16 * (h * e)
    sixteens q h e = grind arith

low_digits : (k h l : ℕ) → k ≤ 32 → hexadecimal k (h * 2 ^ 128 + l) ≡ hexadecimal k l
low_digits zero h l few = refl
low_digits (suc k) h l few = let one = low_digit h l k (omega arith) in let rest = low_digits k h l (omega arith) in rw (one, rest) refl

high_digit : (k h l : ℕ) → l < 2 ^ 128 → (h * 2 ^ 128 + l) / 2 ^ (4 * (k + 32)) ≡ h / 2 ^ (4 * k)
high_digit k h l small =
    let sum : 4 * (k + 32) ≡ 128 + 4 * k = omega arith in
    ap (λ n. (h * 2 ^ 128 + l) / n) (ap (λ n. 2 ^ n) sum ∙ pow-add 2 128 (4 * k)) ∙ sym (div-div-eq-div-mul (h * 2 ^ 128 + l) (2 ^ 128) (2 ^ (4 * k))) ∙ ap (λ n. n / 2 ^ (4 * k)) (shr_high h 128 l small)

pub halves : (k h l : ℕ) → l < 2 ^ 128 → hexadecimal (k + 32) (h * 2 ^ 128 + l) ≡ hexadecimal k h ++ hexadecimal 32 l
halves zero h l small = ap (λ k. hexadecimal k (h * 2 ^ 128 + l)) (zero-add 32) ∙ low_digits 32 h l (omega arith)
halves (suc k) h l small =
    let more : suc k + 32 ≡ suc (k + 32) = omega arith in
    rw more (rw (high_digit k h l small, halves k h l small) refl)

pub whole_number : (n : ℕ) → hexadecimal 64 n ≡ hexadecimal 32 (n / 2 ^ 128) ++ hexadecimal 32 (n % 2 ^ 128)
whole_number n =
    let whole : n / 2 ^ 128 * 2 ^ 128 + n % 2 ^ 128 ≡ n = omega arith in
    ap (hexadecimal 64) (sym whole) ∙ halves 32 (n / 2 ^ 128) (n % 2 ^ 128) (omega arith)

pub wide_written : (start a b c : List ℕ) (u : Unsigned) (high low : ℕ) → u.width ≡ 256 → high ≡ u.number / 2 ^ 128 → low ≡ u.number % 2 ^ 128 → a ≡ start ++ codes "0x" → b ≡ a ++ hexadecimal 32 high → c ≡ b ++ hexadecimal 32 low →
    c ≡ start ++ number_text u
wide_written start a b c u high low wide h l is_a is_b is_c =
    let test = eq-eqb u.width 256 wide in
    rw (test, whole_number u.number, ← h, ← l) (is_c ∙ ap (λ t. t ++ hexadecimal 32 low) (is_b ∙ ap (λ t. t ++ hexadecimal 32 high) is_a) ∙ append_assoc (start ++ codes "0x") (hexadecimal 32 high) (hexadecimal 32 low) ∙ append_assoc start (codes "0x") (hexadecimal 32 high ++ hexadecimal 32 low))

pub digit_small : (c n : ℕ) → c ≡ hexadecimal_digit (n % 16) → c < 128
digit_small c n is = go (nat_lt (n % 16) 10) refl
  where
    go : (b : Bool) → nat_lt (n % 16) 10 ≡ b → c < 128
    go true less = let e = rw less at is in omega arith
    go false more = let e = rw more at is in omega arith
