-- The refusals of a natural and of a node, by their fields.
use Rattle.std.proofs.Common.{◌≡◌, refl, ap, sym, subst, ◌∙◌, ℕ, zero, suc, ◌+◌, ◌-◌, ◌*◌, ◌/◌, ◌%◌, ◌^◌, ◌<◌, ◌≤◌, ◌⊎◌, inl, inr, Bool, true, false, cond, nat_lt, nat_le, List, [], ◌∷◌, ◌++◌, length, replicate, arith, append_assoc, append-nil, length-append, ltb-true, ltb-false}
use Rattle.std.proofs.lemmas.List.{length-replicate}
use Rattle.std.proofs.lemmas.Nat.{pow_pos}
use Rattle.simplicity.specs.Spelling.{number_bits, natural, IsNatural, NaturalPower}
use Rattle.simplicity.proofs.Naturals.{natural_holds, natural_only}
use Rattle.simplicity.proofs.Bits.{natural_apart}
use Rattle.spelling.specs.Reading.{Read, Got, Refused, Refusal, EndOfBits, NaturalTooLarge, Reading, then, give, give_if, number, natural_from, power, read_natural}
use Rattle.spelling.specs.Laws.{HasLongPart}
use Rattle.spelling.specs.Refusals.{EndsNatural, NaturalStops, NaturalEnds, NaturalLong}
use Rattle.spelling.proofs.Numbers.{number_only, natural_only_of, natural_positive, natural_stands}
use Rattle.spelling.proofs.Refusals.{then_refused, number_refused, power_refused_by, naturals_are_refused}

-- a list of bits is a number in so many
record AsNumber (bits : List Bool) : Type 0 where
  value : ℕ
  below : value < 2 ^ length bits
  is : bits ≡ number_bits (length bits) value

all_read : (bits : List Bool) (at : ℕ) → (x : ℕ) × (number (length bits) at bits ≡ Got x (at + length bits) [])
all_read [] at = (0, ap (λ k. Got 0 k []) (omega arith))
all_read (b ∷ bits) at =
    let inner = all_read bits (suc at) in (
      cond b (2 ^ length bits) 0 + inner.0,
      ap (λ r. then r (λ m. give (cond b (2 ^ length bits) 0 + m))) inner.1 ∙ ap (λ k. Got (cond b (2 ^ length bits) 0 + inner.0) k []) (omega arith),
    )

as_number : (bits : List Bool) → AsNumber bits
as_number bits =
    let read = all_read bits 0 in
    let stands = number_only (length bits) 0 read.0 (0 + length bits) bits [] read.1 in
    record { value = read.0; below = stands.0; is = stands.1 ∙ append-nil (number_bits (length bits) read.0) }

-- a natural's code that goes on
record Goes (bits : List Bool) : Type 0 where
  value : ℕ
  positive : 0 < value
  more : List Bool
  some : 0 < length more
  stands : natural value ≡ bits ++ more

-- one of which the length part is whole
goes_in : (n : ℕ) (code mid bits : List Bool) → IsNatural n code → 0 < n → bits ≡ code ++ mid → length mid < n → Goes (true ∷ bits)
goes_in n code mid bits h positive is short =
    let zeros : List Bool = replicate (n - length mid) false in
    let count : length (replicate (n - length mid) false) ≡ n - length mid = length-replicate (n - length mid) false in
    let long : length (mid ++ replicate (n - length mid) false) ≡ n = omega (arith, length-append mid (replicate (n - length mid) false), count, short) in
    let number = as_number (mid ++ replicate (n - length mid) false) in
    let m : ℕ = number.value in
    let below : m < 2 ^ n = subst (λ k. m < 2 ^ k) long number.below in
    let bits_are : mid ++ replicate (n - length mid) false ≡ number_bits n number.value = number.is ∙ ap (λ k. number_bits k number.value) long in
    let whole : IsNatural (2 ^ n + m) (true ∷ (code ++ number_bits n m)) = NaturalPower (2 ^ n + m) n m code (true ∷ (code ++ number_bits n m)) positive below refl h refl in
    record {
      value = 2 ^ n + number.value;
      positive = omega (arith, pow_pos n);
      more = replicate (n - length mid) false;
      some = omega (arith, count, short);
      stands = sym (natural_only (2 ^ n + number.value) (true ∷ (code ++ number_bits n number.value)) whole)
          ∙ ap (λ l. true ∷ (code ++ l)) (sym bits_are)
          ∙ ap (λ l. true ∷ l) (sym (append_assoc code mid (replicate (n - length mid) false)) ∙ ap (λ l. l ++ replicate (n - length mid) false) (sym is));
    }

pub number_short : (n at : ℕ) (bits : List Bool) (r : Refusal) → number n at bits ≡ Refused r → length bits < n
number_short zero at bits r e = absurd (cc)
number_short (suc n) at [] r e = omega arith
number_short (suc n) at (b ∷ bits) r e =
    elim (then_refused (number n (suc at) bits) (λ m. give (cond b (2 ^ n) 0 + m)) r e) [
      | inl g ↦ (let less = number_short n (suc at) bits r g in omega (arith, less))
      | inr g ↦ (let clash : Got (cond b (2 ^ n) 0 + g.0) g.1 g.2 ≡ Refused r = g.4 in absurd (cc))
    ]

power_short : (start n at : ℕ) (bits : List Bool) (end : ℕ) (t : Bool) → nat_lt n 32 ≡ t →
    then (cond t (Got n at bits) (Refused (NaturalTooLarge start))) (λ n' at' bits'. then (number n' at' bits') (λ m. give (2 ^ n' + m))) ≡ Refused (EndOfBits end) → length bits < n
power_short start n at bits end true is e =
    elim (then_refused (number n at bits) (λ m. give (2 ^ n + m)) (EndOfBits end) e) [
      | inl g ↦ number_short n at bits (EndOfBits end) g
      | inr g ↦ (let clash : Got (2 ^ n + g.0) g.1 g.2 ≡ Refused (EndOfBits end) = g.4 in absurd (cc))
    ]
power_short start n at bits end false is e = let clash : NaturalTooLarge start ≡ EndOfBits end = cc in absurd (cc)

goes_on : (bits : List Bool) (start at end : ℕ) → natural_from start at bits ≡ Refused (EndOfBits end) → Goes bits
goes_on [] start at end e = record { value = 1; positive = omega arith; more = false ∷ []; some = omega arith; stands = refl }
goes_on (false ∷ bits) start at end e = absurd (cc)
goes_on (true ∷ bits) start at end e =
    elim (then_refused (natural_from start (suc at) bits) (power start) (EndOfBits end) e) [
      | inl g ↦ (let inner = goes_on bits start (suc at) end g in
          let holds = natural_holds inner.value inner.positive in
          let whole : IsNatural (2 ^ inner.value + 0) (true ∷ (natural inner.value ++ number_bits inner.value 0)) =
          NaturalPower (2 ^ inner.value + 0) inner.value 0 (natural inner.value) (true ∷ (natural inner.value ++ number_bits inner.value 0)) inner.positive (pow_pos inner.value) refl holds refl in
          let some : 0 < length inner.more = inner.some in
          record {
            value = 2 ^ inner.value + 0;
            positive = omega (arith, pow_pos inner.value);
            more = inner.more ++ number_bits inner.value 0;
            some = omega (arith, some, length-append inner.more (number_bits inner.value 0));
            stands = sym (natural_only (2 ^ inner.value + 0) (true ∷ (natural inner.value ++ number_bits inner.value 0)) whole)
                ∙ ap (λ l. true ∷ (l ++ number_bits inner.value 0)) inner.stands ∙ ap (λ l. true ∷ l) (append_assoc bits inner.more (number_bits inner.value 0));
          })
      | inr g ↦ (let inner = natural_only_of start (suc at) g.0 g.1 bits g.2 g.3 in
          goes_in g.0 inner.0 g.2 bits inner.1 (natural_positive g.0 inner.0 inner.1) inner.3 (power_short start g.0 g.1 g.2 end (nat_lt g.0 32) refl g.4))
    ]

not_both : (at end : ℕ) (x : Read ℕ) → x ≡ Refused (EndOfBits end) → x ≡ Refused (NaturalTooLarge at) → ⊥
not_both at end x e f = absurd (cc)

-- which refusals a natural has
pub named : (at : ℕ) (bits : List Bool) (r : Refusal) → read_natural at bits ≡ Refused r → NaturalStops at bits r
named at bits r e =
    elim (naturals_are_refused.only at bits r e) [
      | inl same ↦ (let here : read_natural at bits ≡ Refused (EndOfBits (at + length bits)) = e ∙ ap Refused same in
          let goes = goes_on bits at at (at + length bits) here in
          subst (λ (x : Refusal). NaturalStops at bits x) (sym same) (NaturalEnds (record {
            value = goes.value;
            positive = goes.positive;
            more = goes.more;
            some = goes.some;
            stands = goes.stands;
            short = λ long. not_both at (at + length bits) (read_natural at bits) here (naturals_are_refused.too_large at bits long);
          })))
      | inr long ↦ subst (λ (x : Refusal). NaturalStops at bits x) (sym long.0) (NaturalLong long.1)
    ]

ends_by : (at : ℕ) (bits : List Bool) (h : EndsNatural bits) (x : Read ℕ) → read_natural at bits ≡ x → read_natural at bits ≡ Refused (EndOfBits (at + length bits))
ends_by at bits h (Refused r) e =
    elim (naturals_are_refused.only at bits r e) [
      | inl same ↦ e ∙ ap Refused same
      | inr long ↦ absurd (h.short long.1)
    ]
ends_by at bits h (Got y end rest) e =
    let there = natural_stands y at end bits rest e in
    let whole : natural h.value ++ [] ≡ natural y ++ (rest ++ h.more) =
    append-nil (natural h.value) ∙ h.stands ∙ ap (λ l. l ++ h.more) there.2 ∙ append_assoc (natural y) rest h.more in
    let apart = natural_apart h.value y [] (rest ++ h.more) h.positive there.0 whole in
    let none : 0 ≡ length (rest ++ h.more) = ap length apart.1 in
    let some : 0 < length h.more = h.some in
    absurd (omega (arith, none, some, length-append rest h.more))

pub gets : (at : ℕ) (bits : List Bool) (r : Refusal) → NaturalStops at bits r → read_natural at bits ≡ Refused r
gets at bits _ (NaturalEnds h) = ends_by at bits h (read_natural at bits) refl
gets at bits _ (NaturalLong h) = naturals_are_refused.too_large at bits h
