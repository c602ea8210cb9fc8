-- What the parts of a reader's call answer, and what the whole answers.
use Rattle.std.proofs.Common.{◌≡◌, refl, ap, sym, subst, ◌∙◌, ℕ, zero, suc, ◌+◌, ◌-◌, ◌*◌, ◌/◌, ◌%◌, ◌^◌, ◌<◌, ◌≤◌, Bool, true, false, cond, nat_lt, List, [], ◌∷◌, length, drop, Option, Some, None, slice_get, Result, Ok, Err, arith, lt-ltb, ltb-true, ltb-false, pow-suc}
use Rattle.std.specs.Int.{from_bool}
use Rattle.std.proofs.Math.Seq.{drop-length}
use Rattle.std.proofs.Math.Nat.{mod-eq_of_lt, pow-succ'}
use Rattle.std.proofs.Math.Pow.{pow_mono}
use Rattle.std.proofs.lemmas.Nat.{pow_pos}
use Rattle.std.proofs.lemmas.Grind.{div_ceil_times}
use Rattle.std.specs.Prelude.{min}
use Rattle.simplicity.specs.Spelling.{byte_bits}
use Rattle.simplicity.proofs.Bits.{bytes_length}
use Rattle.spelling.specs.Reading.{Got, Refused, Refusal, BadPadding, NaturalTooLarge, Reading, then, one_bit, number, read_natural, padding, padding_after}
use Rattle.spelling.specs.Parts.{ones, powers}
use Rattle.spelling.proofs.Numbers.{number_only}
use Rattle.spelling.proofs.Parts.{naturals_have_parts}
use Rattle.cell_bits.specs.Places.{Place, rest, cause, Reads, IsTail}
use Rattle.cell_bits.specs.declared.refusal.BitRefusal.{BitRefusal}
use Rattle.cell_bits.proofs.Reading.{digits_from, digit_next, part_next, within_same}

-- the bits stay
bits_stay : {A : Type 0} (reading : Reading A) (result : Result A BitRefusal) (old new : Place) → Reads reading result old new → new.bits ≡ old.bits
bits_stay reading (Ok a) old new h = h.1
bits_stay reading (Err e) old new h = h.1

pub stays_within : {A : Type 0} (reading : Reading A) (result : Result A BitRefusal) (old new : Place) (bytes others : List ℕ) (at : ℕ) → Reads reading result old new →
    new.bits ≡ byte_bits bytes → old.bits ≡ byte_bits others → at ≤ 8 * length others → at ≤ 8 * length bytes
stays_within reading result old new bytes others at h e f fits =
    within_same bytes others at (sym e ∙ bits_stay reading result old new h ∙ f) fits

-- a natural is its parts
pub parts_end : (at : ℕ) (bits : List Bool) (r : Refusal) → ones at bits ≡ Refused r → read_natural at bits ≡ Refused r
parts_end at bits r e = naturals_have_parts at bits ∙ ap (λ x. then x (λ n. powers at n 1)) e

pub parts_go : (start n : ℕ) (old mid new : Place) (result : Result ℕ BitRefusal) → start ≡ old.at → ones old.at (rest old) ≡ Got n mid.at (rest mid) → mid.bits ≡ old.bits →
    Reads (powers start n 1) result mid new → Reads read_natural result old new
parts_go start n old mid new (Ok x) is e same h =
    (naturals_have_parts old.at (rest old) ∙ ap (λ y. then y (λ k. powers old.at k 1)) e ∙ ap (λ s. powers s n 1 mid.at (rest mid)) (sym is) ∙ h.0, h.1 ∙ same)
parts_go start n old mid new (Err x) is e same h =
    (naturals_have_parts old.at (rest old) ∙ ap (λ y. then y (λ k. powers old.at k 1)) e ∙ ap (λ s. powers s n 1 mid.at (rest mid)) (sym is) ∙ h.0, h.1 ∙ same)

-- one digit more
twice_below : (b value w left p : ℕ) → b < 2 → 1 ≤ left → left ≤ w → p ≡ w - (left - 1) → value < 2 ^ (w - left) → value * 2 + b < 2 ^ p
twice_below b value w left p few some within is h =
    let up : p ≡ suc (w - left) = omega arith in
    let double : 2 ^ suc (w - left) ≡ 2 * 2 ^ (w - left) = pow-succ' 2 (w - left) in
    rw up (omega (arith, double, few, h))

bit_below : (b : Bool) → from_bool b < 2
bit_below true = omega arith
bit_below false = omega arith

pub digit_more : (width left value digit : ℕ) (b : Bool) (old mid new : Place) → digit ≡ from_bool b → 1 ≤ left → left ≤ width →
    (number width old.at (rest old) ≡ digits_from value left mid.at (rest mid)) × (mid.bits ≡ old.bits) × (value < 2 ^ (width - left)) →
    one_bit mid.at (rest mid) ≡ Got b new.at (rest new) → new.bits ≡ mid.bits →
    (number width old.at (rest old) ≡ digits_from (value * 2 + digit) (left - 1) new.at (rest new)) × (new.bits ≡ old.bits) × (value * 2 + digit < 2 ^ (width - (left - 1)))
digit_more width left value digit b old mid new is some within h e same =
    let back : left ≡ suc (left - 1) = omega arith in (
      h.0 ∙ ap (λ k. digits_from value k mid.at (rest mid)) back ∙ digit_next (left - 1) value mid.at new.at b (rest mid) (rest new) e
          ∙ ap (λ k. digits_from (value * 2 + k) (left - 1) new.at (rest new)) (sym is),
      same ∙ h.1,
      twice_below digit value width left (width - (left - 1)) (rw is (bit_below b)) some within refl h.2,
    )

-- one part more
small_power : (value : ℕ) → value < 32 → 2 ^ value + 2 ^ value ≤ 2 ^ 32
small_power value h =
    let limit : 2 ^ suc value ≤ 2 ^ 32 = pow_mono h in
    let double : 2 ^ suc value ≡ 2 * 2 ^ value = pow-succ' 2 value in
    omega (arith, limit, double)

pub shifted : (value : ℕ) → value < 32 → (1 * 2 ^ value) % 18446744073709551616 ≡ 2 ^ value
shifted value h =
    let limit = small_power value h in
    let one : 1 * 2 ^ value ≡ 2 ^ value = omega arith in
    let less : 2 ^ value < 18446744073709551616 = omega (arith, limit) in
    ap (λ k. k % 18446744073709551616) one ∙ mod-eq_of_lt less

pub part_more : (start count left value m power : ℕ) (old mid new : Place) → 1 ≤ left → value < 32 → power ≡ 2 ^ value →
    (powers start count 1 old.at (rest old) ≡ powers start left value mid.at (rest mid)) × (mid.bits ≡ old.bits) × (1 ≤ value) × (value < 2 ^ 32) →
    number value mid.at (rest mid) ≡ Got m new.at (rest new) → new.bits ≡ mid.bits →
    (powers start count 1 old.at (rest old) ≡ powers start (left - 1) (power + m) new.at (rest new)) × (new.bits ≡ old.bits) × (1 ≤ power + m) × (power + m < 2 ^ 32)
part_more start count left value m power old mid new some small is h e same =
    let back : left ≡ suc (left - 1) = omega arith in
    let limit = small_power value small in
    let below : m < 2 ^ value = (number_only value mid.at m new.at (rest mid) (rest new) e).0 in
    let positive : 1 ≤ 2 ^ value = pow_pos value in (
      h.0 ∙ ap (λ k. powers start k value mid.at (rest mid)) back ∙ part_next start (left - 1) value m mid.at new.at (rest mid) (rest new) small e
          ∙ ap (λ k. powers start (left - 1) (k + m) new.at (rest new)) (sym is),
      same ∙ h.1,
      omega (arith, positive, is),
      omega (arith, below, limit, is),
    )

-- the padding, so many zeros on
abbrev pub Zeros : Place → ℕ → Type 0
Zeros p place = padding (tt {0}) p.at (rest p) ≡ padding_after p.at (place - p.at) (tt {0}) place (drop place p.bits)

module _ (p : Place) (place : ℕ) (zeros : Zeros p place) where
  pub tail_one : (b : Bool) → drop place p.bits ≡ b ∷ drop (place + 1) p.bits → b ≡ true → padding (tt {0}) p.at (rest p) ≡ Refused (BadPadding place)
  tail_one b e is = zeros ∙ ap (padding_after p.at (place - p.at) (tt {0}) place) (e ∙ ap (λ x. x ∷ drop (place + 1) p.bits) is)

  pub tail_zero : (b : Bool) → drop place p.bits ≡ b ∷ drop (place + 1) p.bits → b ≡ false → p.at ≤ place → Zeros p (place + 1)
  tail_zero b e is far =
      zeros ∙ ap (padding_after p.at (place - p.at) (tt {0}) place) (e ∙ ap (λ x. x ∷ drop (place + 1) p.bits) is)
      ∙ ap (λ k. padding_after p.at k (tt {0}) (suc place) (drop (place + 1) p.bits)) (omega arith)
      ∙ ap (λ k. padding_after p.at (place + 1 - p.at) (tt {0}) k (drop (place + 1) p.bits)) (omega arith)

  pub tail_ends : place ≡ length p.bits → padding (tt {0}) p.at (rest p) ≡
      cond (nat_lt (place - p.at) 8) (Got (tt {0}) place []) (Refused (BadPadding (8 * ((p.at + 7) / 8))))
  tail_ends is = zeros ∙ ap (padding_after p.at (place - p.at) (tt {0}) place) (ap (λ k. drop k p.bits) is ∙ drop-length p.bits)

not_below : (n : ℕ) (t : Bool) → nat_lt n 8 ≡ t → 8 ≤ n → nat_lt n 8 ≡ false
not_below n false e h = e
not_below n true e h =
    let less : n < 8 = ltb-true n 8 e in
    absurd (omega (arith, less, h))

pub tail_short : (p : Place) (place : ℕ) → Zeros p place → place ≡ length p.bits → place - p.at < 8 → padding (tt {0}) p.at (rest p) ≡ Got (tt {0}) (length p.bits) []
tail_short p place zeros is few =
    tail_ends p place zeros is ∙ ap (λ t. cond t (Got (tt {0}) place []) (Refused (BadPadding (8 * ((p.at + 7) / 8))))) (lt-ltb (place - p.at) 8 few)
    ∙ ap (λ k. Got (tt {0}) k []) is

pub tail_long : (p : Place) (place from : ℕ) → Zeros p place → place ≡ length p.bits → 8 ≤ place - p.at → from ≡ 8 * ((p.at + 7) / 8) → padding (tt {0}) p.at (rest p) ≡ Refused (BadPadding from)
tail_long p place from zeros is many at =
    tail_ends p place zeros is ∙ ap (λ t. cond t (Got (tt {0}) place []) (Refused (BadPadding (8 * ((p.at + 7) / 8))))) (not_below (place - p.at) (nat_lt (place - p.at) 8) refl many)
    ∙ ap (λ k. Refused (BadPadding k)) (sym at)

-- up to a whole byte
pub rounded : (at ceil from : ℕ) → at ≡ from → ceil ≡ at / 8 + min 1 (at % 8) → ceil * 8 ≡ 8 * ((from + 7) / 8)
rounded at ceil from same is =
    let bounds = div_ceil_times at 8 (omega arith) in
    omega (arith, bounds.0, bounds.1, is, same)

-- all the bits are those of the bytes
pub all_bits : (p : Place) (bytes : List ℕ) (at : ℕ) → record { bits = byte_bits bytes; at = at } ≡ p → length p.bits ≡ length bytes * 8
all_bits p bytes at same =
    let long : length (byte_bits bytes) ≡ 8 * length bytes = bytes_length bytes in
    let is : length p.bits ≡ length (byte_bits bytes) = ap (λ (q : Place). length q.bits) (sym same) in
    omega (arith, long, is)
