-- Where a natural is refused.
use Rattle.std.proofs.Common.{◌≡◌, refl, ap, sym, subst, ◌∙◌, ℕ, zero, suc, ◌+◌, ◌*◌, ◌^◌, ◌<◌, ◌≤◌, ◌⊎◌, inl, inr, Bool, true, false, cond, nat_lt, List, [], ◌∷◌, ◌++◌, length, arith, append_assoc, length-append, ltb-true, ltb-false}
use Rattle.std.proofs.Math.Nat.{pow-succ'}
use Rattle.std.proofs.Math.Pow.{pow_mono}
use Rattle.simplicity.specs.Spelling.{number_bits, IsNatural, NaturalOne, NaturalPower}
use Rattle.spelling.specs.Reading.{Read, Got, Refused, Refusal, EndOfBits, NaturalTooLarge, Reading, then, give, give_if, number, natural_from, power}
use Rattle.spelling.specs.Laws.{HasLongPart, PartHere, PartWithin, NaturalsAreRefused}
use Rattle.spelling.proofs.Numbers.{natural_gets_of, natural_only_of}

-- two readings are refused by the first, or by the second after what the first got
pub then_refused : {A B : Type 0} (r : Read A) (f : A → Reading B) (no_more : Refusal) → then r f ≡ Refused no_more →
    (r ≡ Refused no_more) ⊎ ((a : A) × (at : ℕ) × (mid : List Bool) × (r ≡ Got a at mid) × (f a at mid ≡ Refused no_more))
then_refused (Got a at mid) f n e = inr (a, at, mid, refl, e)
then_refused (Refused r) f n e = inl (cc)

pub number_refused : (n at : ℕ) (bits : List Bool) (r : Refusal) → number n at bits ≡ Refused r → r ≡ EndOfBits (at + length bits)
number_refused zero at bits r e = absurd (cc)
number_refused (suc n) at [] r e =
    let same : EndOfBits at ≡ r = cc in
    sym same ∙ ap EndOfBits (omega arith)
number_refused (suc n) at (b ∷ bits) r e =
    elim (then_refused (number n (suc at) bits) (λ m. give (cond b (2 ^ n) 0 + m)) r e) [
      | inl g ↦ number_refused n (suc at) bits r g ∙ ap EndOfBits (omega arith)
      | inr g ↦ (let clash : Got (cond b (2 ^ n) 0 + g.0) g.1 g.2 ≡ Refused r = g.4 in absurd (cc))
    ]

pub power_refused_by : (start n at : ℕ) (bits : List Bool) (r : Refusal) (t : Bool) → nat_lt n 32 ≡ t →
    then (give_if t (NaturalTooLarge start) n at bits) (λ n' at' bits'. then (number n' at' bits') (λ m. give (2 ^ n' + m))) ≡ Refused r →
    (r ≡ EndOfBits (at + length bits)) ⊎ ((r ≡ NaturalTooLarge start) × (32 ≤ n))
power_refused_by start n at bits r true is e =
    elim (then_refused (number n at bits) (λ m. give (2 ^ n + m)) r e) [
      | inl g ↦ inl (number_refused n at bits r g)
      | inr g ↦ (let clash : Got (2 ^ n + g.0) g.1 g.2 ≡ Refused r = g.4 in absurd (cc))
    ]
power_refused_by start n at bits r false is e =
    let same : NaturalTooLarge start ≡ r = cc in
    inr (sym same, ltb-false n 32 is)

refused_of : (bits : List Bool) (start at : ℕ) (r : Refusal) → natural_from start at bits ≡ Refused r →
    (r ≡ EndOfBits (at + length bits)) ⊎ ((r ≡ NaturalTooLarge start) × HasLongPart bits)
refused_of [] start at r e =
    let same : EndOfBits at ≡ r = cc in
    inl (sym same ∙ ap EndOfBits (omega arith))
refused_of (false ∷ bits) start at r e = absurd (cc)
refused_of (true ∷ bits) start at r e =
    elim (then_refused (natural_from start (suc at) bits) (power start) r e) [
      | inl g ↦ elim (refused_of bits start (suc at) r g) [
        | inl h ↦ inl (h ∙ ap EndOfBits (omega arith))
        | inr h ↦ inr (h.0, PartWithin bits h.1)
      ]
      | inr g ↦ (let inner = natural_only_of start (suc at) g.0 g.1 bits g.2 g.3 in
          elim (power_refused_by start g.0 g.1 g.2 r (nat_lt g.0 32) refl g.4) [
            | inl h ↦ (let long : length bits ≡ length inner.0 + length g.2 = ap length inner.3 ∙ length-append inner.0 g.2 in
                inl (h ∙ ap EndOfBits (omega (arith, long, inner.4))))
            | inr h ↦ inr (h.0, subst (λ l. HasLongPart (true ∷ l)) (sym inner.3) (PartHere g.0 inner.0 g.2 inner.1 h.1))
          ])
    ]

not_less : (n : ℕ) (t : Bool) → nat_lt n 32 ≡ t → 32 ≤ n → nat_lt n 32 ≡ false
not_less n false e h = e
not_less n true e h =
    let less : n < 32 = ltb-true n 32 e in
    absurd (omega (arith, less, h))

-- a long part that is read is refused, and so is one too large to be read
part_by : (start n at : ℕ) (code rest : List Bool) (t : Bool) → nat_lt n (2 ^ 32) ≡ t → IsNatural n code → 32 ≤ n →
    (2 ^ 32 ≤ n → natural_from start (suc at) (code ++ rest) ≡ Refused (NaturalTooLarge start)) →
    natural_from start at (true ∷ (code ++ rest)) ≡ Refused (NaturalTooLarge start)
part_by start n at code rest true is h large beyond =
    let read = natural_gets_of n start (suc at) code rest h (ltb-true n (2 ^ 32) is) in
    let test : nat_lt n 32 ≡ false = not_less n (nat_lt n 32) refl large in
    ap (λ r. then r (power start)) read ∙
    ap (λ t. then (cond t (Got n (suc at + length code) rest) (Refused (NaturalTooLarge start))) (λ n' at' bits'. then (number n' at' bits') (λ m. give (2 ^ n' + m)))) test
part_by start n at code rest false is h large beyond = ap (λ r. then r (power start)) (beyond (ltb-false n (2 ^ 32) is))

long_width : (n k m : ℕ) (t : Bool) → nat_lt k 32 ≡ t → 2 ^ 32 ≤ n → m < 2 ^ k → n ≡ 2 ^ k + m → 32 ≤ k
long_width n k m false e h below is = ltb-false k 32 e
long_width n k m true e h below is =
    let less : k < 32 = ltb-true k 32 e in
    let short : suc k ≤ 32 = omega arith in
    let limit : 2 ^ suc k ≤ 2 ^ 32 = pow_mono short in
    let double : 2 ^ suc k ≡ 2 * 2 ^ k = pow-succ' 2 k in
    absurd (omega (arith, limit, double, below, is, h))

large_gets : (n start at : ℕ) (code rest : List Bool) → IsNatural n code → 2 ^ 32 ≤ n → natural_from start at (code ++ rest) ≡ Refused (NaturalTooLarge start)
large_gets _ start at _ rest NaturalOne h = absurd (omega arith)
large_gets _ start at _ rest (NaturalPower n k m code bits positive below is inner made) h =
    let wide : 32 ≤ k = long_width n k m (nat_lt k 32) refl h below is in
    let grouped : bits ++ rest ≡ true ∷ (code ++ (number_bits k m ++ rest)) =
    ap (λ l. l ++ rest) made ∙ ap (λ l. true ∷ l) (append_assoc code (number_bits k m) rest) in
    ap (natural_from start at) grouped ∙
    part_by start k at code (number_bits k m ++ rest) (nat_lt k (2 ^ 32)) refl inner wide
    (λ g. large_gets k start (suc at) code (number_bits k m ++ rest) inner g)

long_gets : (start at : ℕ) (bits : List Bool) → HasLongPart bits → natural_from start at bits ≡ Refused (NaturalTooLarge start)
long_gets start at _ (PartHere n code rest h large) =
    part_by start n at code rest (nat_lt n (2 ^ 32)) refl h large (λ g. large_gets n start (suc at) code rest h g)
long_gets start at _ (PartWithin bits h) = ap (λ r. then r (power start)) (long_gets start (suc at) bits h)

pub naturals_are_refused : NaturalsAreRefused
naturals_are_refused = record { too_large = λ at bits h. long_gets at at bits h; only = λ at bits r e. refused_of bits at at r e }
