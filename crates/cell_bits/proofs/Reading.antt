-- Bits of bytes by their places, and one bit more of a reading.
use Rattle.std.proofs.Common.{◌≡◌, refl, ap, sym, subst, ◌∙◌, ℕ, zero, suc, ◌+◌, ◌-◌, ◌*◌, ◌/◌, ◌%◌, ◌^◌, ◌<◌, ◌≤◌, Bool, true, false, cond, nat_lt, List, [], ◌∷◌, ◌++◌, length, drop, Option, Some, None, slice_get, arith, lt-ltb, ltb-true, pow-suc}
use Rattle.std.specs.Int.{from_bool}
use Rattle.std.proofs.lemmas.Option.{slice_get_past, slice_get_within, slice_get-get_or}
use Rattle.simplicity.specs.Types.{is_odd}
use Rattle.simplicity.specs.Spelling.{number_bits, byte_bits}
use Rattle.simplicity.proofs.Bits.{bytes_length}
use Rattle.spelling.specs.Reading.{Read, Got, Refused, Refusal, EndOfBits, NaturalTooLarge, Reading, then, give, give_if, one_bit, number, power}
use Rattle.spelling.specs.Parts.{ones, powers}
use Rattle.spelling.proofs.Parts.{then_then, then_same}

-- the bits of the first byte, and those behind it
in_byte : (j b : ℕ) (more : List Bool) → j < 8 → slice_get (number_bits 8 b ++ more) j ≡ Some (is_odd (b / 2 ^ (7 - j)))
in_byte zero b more h = refl
in_byte (suc zero) b more h = refl
in_byte (suc (suc zero)) b more h = refl
in_byte (suc (suc (suc zero))) b more h = refl
in_byte (suc (suc (suc (suc zero)))) b more h = refl
in_byte (suc (suc (suc (suc (suc zero))))) b more h = refl
in_byte (suc (suc (suc (suc (suc (suc zero)))))) b more h = refl
in_byte (suc (suc (suc (suc (suc (suc (suc zero))))))) b more h = refl
in_byte (suc (suc (suc (suc (suc (suc (suc (suc j)))))))) b more h = absurd (omega arith)

behind_byte : (b place : ℕ) (more : List Bool) → slice_get (number_bits 8 b ++ more) (suc (suc (suc (suc (suc (suc (suc (suc place)))))))) ≡ slice_get more place
behind_byte b place more = refl

there : (bytes : List ℕ) (i j b : ℕ) → j < 8 → slice_get bytes i ≡ Some b → slice_get (byte_bits bytes) (8 * i + j) ≡ Some (is_odd (b / 2 ^ (7 - j)))
there [] i j b h e = absurd (cc)
there (x ∷ bytes) zero j b h e =
    let same : x ≡ b = cc in
    let start : 8 * 0 + j ≡ j = omega arith in
    ap (λ k. slice_get (number_bits 8 x ++ byte_bits bytes) k) start ∙ in_byte j x (byte_bits bytes) h ∙ ap (λ k. Some (is_odd (k / 2 ^ (7 - j)))) same
there (x ∷ bytes) (suc i) j b h e =
    let far : 8 * suc i + j ≡ suc (suc (suc (suc (suc (suc (suc (suc (8 * i + j)))))))) = omega arith in
    ap (λ k. slice_get (number_bits 8 x ++ byte_bits bytes) k) far ∙ behind_byte x (8 * i + j) (byte_bits bytes) ∙ there bytes i j b h e

-- the bit at a place, and none behind the last
pub bit_there : (bytes : List ℕ) (place b : ℕ) → slice_get bytes (place / 8) ≡ Some b → slice_get (byte_bits bytes) place ≡ Some (is_odd (b / 2 ^ (7 - place % 8)))
bit_there bytes place b e =
    let split : place ≡ 8 * (place / 8) + place % 8 = omega arith in
    ap (λ k. slice_get (byte_bits bytes) k) split ∙ there bytes (place / 8) (place % 8) b (omega arith) e

pub bit_behind : (bytes : List ℕ) (place : ℕ) → length bytes ≤ place / 8 → slice_get (byte_bits bytes) place ≡ None
bit_behind bytes place h =
    let long : length (byte_bits bytes) ≡ 8 * length bytes = bytes_length bytes in
    slice_get_past (byte_bits bytes) place (omega arith)

-- a place is within the bits, and one where a bit stands is before their end
pub within : (bytes : List ℕ) (at : ℕ) → at ≤ 8 * length bytes → at ≤ length (byte_bits bytes)
within bytes at h =
    let long : length (byte_bits bytes) ≡ 8 * length bytes = bytes_length bytes in
    omega arith

pub before_end : (bytes : List ℕ) (at : ℕ) (b : Bool) → slice_get (byte_bits bytes) at ≡ Some b → at + 1 ≤ 8 * length bytes
before_end bytes at b e =
    let long : length (byte_bits bytes) ≡ 8 * length bytes = bytes_length bytes in
    let less : at < length (byte_bits bytes) = slice_get_within (byte_bits bytes) at b e in
    omega arith

pub bit_before : (bytes : List ℕ) (place : ℕ) → place < 8 * length bytes → slice_get (byte_bits bytes) place ≡ None → ⊥
bit_before bytes place h e =
    let long : length (byte_bits bytes) ≡ 8 * length bytes = bytes_length bytes in
    let less : place < length (byte_bits bytes) = omega arith in
    let some = slice_get-get_or (byte_bits bytes) place false less in
    absurd (cc)

later : (at : ℕ) → suc (at + 1) ≡ suc at + 1
later at = omega arith

-- the rest at a place
pub rest_there : (bits : List Bool) (at : ℕ) (b : Bool) → slice_get bits at ≡ Some b → drop at bits ≡ b ∷ drop (at + 1) bits
rest_there [] at b e = absurd (cc)
rest_there (x ∷ bits) zero b e =
    let same : x ≡ b = cc in
    ap (λ y. y ∷ bits) same
rest_there (x ∷ bits) (suc at) b e = rest_there bits at b e ∙ ap (λ k. b ∷ drop k (x ∷ bits)) (later at)

pub rest_behind : (bits : List Bool) (at : ℕ) → slice_get bits at ≡ None → drop at bits ≡ []
rest_behind [] zero e = refl
rest_behind [] (suc at) e = refl
rest_behind (x ∷ bits) zero e = absurd (cc)
rest_behind (x ∷ bits) (suc at) e = rest_behind bits at e

pub bit_read : (bits : List Bool) (at : ℕ) (b : Bool) → slice_get bits at ≡ Some b → one_bit at (drop at bits) ≡ Got b (at + 1) (drop (at + 1) bits)
bit_read bits at b e = ap (one_bit at) (rest_there bits at b e) ∙ ap (λ k. Got b k (drop (at + 1) bits)) (omega arith)

pub bit_missing : (bits : List Bool) (at : ℕ) → slice_get bits at ≡ None → one_bit at (drop at bits) ≡ Refused (EndOfBits at)
bit_missing bits at e = ap (one_bit at) (rest_behind bits at e)

-- a value that stays is given
then_none : (f : ℕ → ℕ) → ((m : ℕ) → f m ≡ m) → (r : Read ℕ) → then r (λ m. give (f m)) ≡ r
then_none f e (Got m at bits) = ap (λ k. Got k at bits) (e m)
then_none f e (Refused r) = refl

-- digits: a value, before so many bits more
abbrev pub digits_from : ℕ → ℕ → Reading ℕ
digits_from value left at bits = then (number left at bits) (λ m. give (value * 2 ^ left + m))

twice : (p q value : ℕ) (b : Bool) (m : ℕ) → q ≡ 2 * p → value * q + (cond b p 0 + m) ≡ (value * 2 + from_bool b) * p + m
twice p q value true m e = subst (λ (k : ℕ). value * k + (p + m) ≡ (value * 2 + 1) * p + m) (sym e) (omega arith)
twice p q value false m e = subst (λ (k : ℕ). value * k + (0 + m) ≡ (value * 2 + 0) * p + m) (sym e) (omega arith)

pub digit_next : (left value at end : ℕ) (b : Bool) (bits more : List Bool) → one_bit at bits ≡ Got b end more → digits_from value (suc left) at bits ≡ digits_from (value * 2 + from_bool b) left end more
digit_next left value at end b [] more e = absurd (cc)
digit_next left value at end b (x ∷ bits) more e =
    let same : x ≡ b = cc in
    let next : suc at ≡ end = cc in
    let tail : bits ≡ more = cc in
    then_then (number left (suc at) bits) (λ m. give (cond x (2 ^ left) 0 + m)) (λ m. give (value * 2 ^ suc left + m))
    ∙ then_same (number left (suc at) bits) (λ m. give (value * 2 ^ suc left + (cond x (2 ^ left) 0 + m))) (λ m. give ((value * 2 + from_bool x) * 2 ^ left + m))
    (λ m at' bits'. ap (λ k. Got k at' bits') (twice (2 ^ left) (2 ^ suc left) value x m (omega (arith, pow-suc 2 left))))
    ∙ ap (λ y. digits_from (value * 2 + from_bool y) left (suc at) bits) same ∙ ap (λ k. digits_from (value * 2 + from_bool b) left k bits) next
    ∙ ap (λ l. digits_from (value * 2 + from_bool b) left end l) tail

pub digit_ends : (left value at : ℕ) (bits : List Bool) (r : Refusal) → one_bit at bits ≡ Refused r → digits_from value (suc left) at bits ≡ Refused r
digit_ends left value at [] r e = let same : EndOfBits at ≡ r = cc in ap Refused same
digit_ends left value at (x ∷ bits) r e = absurd (cc)

pub digits_start : (width at : ℕ) (bits : List Bool) → number width at bits ≡ digits_from 0 width at bits
digits_start width at bits = sym (then_none (λ m. 0 * 2 ^ width + m) (λ m. omega arith) (number width at bits))

pub digits_end : (value at : ℕ) (bits : List Bool) → digits_from value 0 at bits ≡ Got value at bits
digits_end value at bits = ap (λ k. Got k at bits) (omega arith)

-- ones, so many before
abbrev pub ones_from : ℕ → Reading ℕ
ones_from start at bits = then (ones at bits) (λ n. give (at - start + n))

pub one_next : (start at end : ℕ) (bits more : List Bool) → start ≤ at → one_bit at bits ≡ Got true end more → ones_from start at bits ≡ ones_from start end more
one_next start at end [] more h e = absurd (cc)
one_next start at end (false ∷ bits) more h e = absurd (cc)
one_next start at end (true ∷ bits) more h e =
    let next : suc at ≡ end = cc in
    let tail : bits ≡ more = cc in
    then_then (ones (suc at) bits) (λ n. give (suc n)) (λ n. give (at - start + n))
    ∙ then_same (ones (suc at) bits) (λ n. give (at - start + suc n)) (λ n. give (suc at - start + n)) (λ n at' bits'. ap (λ k. Got k at' bits') (omega arith))
    ∙ ap (λ k. ones_from start k bits) next ∙ ap (λ l. ones_from start end l) tail

pub one_last : (start at end : ℕ) (bits more : List Bool) → start ≤ at → one_bit at bits ≡ Got false end more → ones_from start at bits ≡ Got (end - start - 1) end more
one_last start at end [] more h e = absurd (cc)
one_last start at end (true ∷ bits) more h e = absurd (cc)
one_last start at end (false ∷ bits) more h e =
    let next : suc at ≡ end = cc in
    let tail : bits ≡ more = cc in
    let count : at - start + 0 ≡ end - start - 1 = omega (arith, next, h) in
    ap (λ k. Got k (suc at) bits) count ∙ ap (λ k. Got (end - start - 1) k bits) next ∙ ap (λ l. Got (end - start - 1) end l) tail

pub one_ends : (start at : ℕ) (bits : List Bool) (r : Refusal) → one_bit at bits ≡ Refused r → ones_from start at bits ≡ Refused r
one_ends start at [] r e = let same : EndOfBits at ≡ r = cc in ap Refused same
one_ends start at (x ∷ bits) r e = absurd (cc)

pub ones_start : (at : ℕ) (bits : List Bool) → ones at bits ≡ ones_from at at bits
ones_start at bits = sym (then_none (λ n. at - at + n) (λ n. omega arith) (ones at bits))

-- a bit that was read shortens the rest
pub bit_shortens : (at end : ℕ) (b : Bool) (bits more : List Bool) → one_bit at bits ≡ Got b end more → (end ≡ at + 1) × (length more < length bits)
bit_shortens at end b [] more e = absurd (cc)
bit_shortens at end b (x ∷ bits) more e =
    let next : suc at ≡ end = cc in
    let tail : bits ≡ more = cc in
    (omega (arith, next), subst (λ l. length l < suc (length bits)) tail (omega arith))

-- parts of a natural
pub part_next : (start left value m at end : ℕ) (bits more : List Bool) → value < 32 → number value at bits ≡ Got m end more →
    powers start (suc left) value at bits ≡ powers start left (2 ^ value + m) end more
part_next start left value m at end bits more h e =
    ap (λ t. then (then (cond t (Got value at bits) (Refused (NaturalTooLarge start))) (λ n' at' bits'. then (number n' at' bits') (λ m'. give (2 ^ n' + m')))) (powers start left)) (lt-ltb value 32 h)
    ∙ ap (λ r. then (then r (λ m'. give (2 ^ value + m'))) (powers start left)) e

pub part_ends : (start left value at : ℕ) (bits : List Bool) (r : Refusal) → value < 32 → number value at bits ≡ Refused r → powers start (suc left) value at bits ≡ Refused r
part_ends start left value at bits r h e =
    ap (λ t. then (then (cond t (Got value at bits) (Refused (NaturalTooLarge start))) (λ n' at' bits'. then (number n' at' bits') (λ m'. give (2 ^ n' + m')))) (powers start left)) (lt-ltb value 32 h)
    ∙ ap (λ r'. then (then r' (λ m'. give (2 ^ value + m'))) (powers start left)) e

not_less : (value : ℕ) (t : Bool) → nat_lt value 32 ≡ t → 32 ≤ value → nat_lt value 32 ≡ false
not_less value false e h = e
not_less value true e h =
    let less : value < 32 = ltb-true value 32 e in
    absurd (omega (arith, less, h))

pub part_large : (start left value at : ℕ) (bits : List Bool) → 32 ≤ value → powers start (suc left) value at bits ≡ Refused (NaturalTooLarge start)
part_large start left value at bits h =
    ap (λ t. then (then (cond t (Got value at bits) (Refused (NaturalTooLarge start))) (λ n' at' bits'. then (number n' at' bits') (λ m'. give (2 ^ n' + m')))) (powers start left))
    (not_less value (nat_lt value 32) refl h)

-- a place within some bytes is within others of the same bits
pub within_same : (bytes others : List ℕ) (at : ℕ) → byte_bits bytes ≡ byte_bits others → at ≤ 8 * length others → at ≤ 8 * length bytes
within_same bytes others at e h =
    let long : length (byte_bits bytes) ≡ 8 * length bytes = bytes_length bytes in
    let other : length (byte_bits others) ≡ 8 * length others = bytes_length others in
    omega (arith, long, other, ap length e, h)
