-- Laws of the bits of numbers.
use Rattle.std.proofs.Common.{◌≡◌, ℕ, zero, suc, ◌+◌, ◌-◌, ◌*◌, ◌/◌, ◌%◌, ◌^◌, ◌<◌, ◌≤◌, Bool, true, false, List, [], ◌∷◌, ◌++◌, length, take, refl, sym, ap, ◌∙◌, arith, append_assoc, pow-suc, add-one, get_or, length-take, length-append}
use Rattle.std.proofs.Math.Nat.{div-div-eq-div-mul}
use Rattle.std.proofs.Math.Seq.{take-suc}
use Rattle.std.proofs.lemmas.List.{take-append-le}
use Rattle.std.specs.Int.{from_bool}
use Rattle.simplicity.specs.Types.{is_odd}
use Rattle.simplicity.specs.Spelling.{number_bits, byte_bits, natural}
use Rattle.simplicity.proofs.Naturals.{natural_step}

is_odd-double : (x : ℕ) (e : Bool) → is_odd (x * 2 + from_bool e) ≡ e
is_odd-double x true = let h : (x * 2 + 1) % 2 ≡ 1 = omega arith in rw h refl
is_odd-double x false = let h : (x * 2 + 0) % 2 ≡ 0 = omega arith in rw h refl

half-double : (x : ℕ) (e : Bool) → (x * 2 + from_bool e) / 2 ≡ x
half-double x true = omega arith
half-double x false = omega arith

shift-double : (n x : ℕ) (e : Bool) → (x * 2 + from_bool e) / 2 ^ suc n ≡ x / 2 ^ n
shift-double n x e =
    let p : 2 ^ suc n ≡ 2 * 2 ^ n = omega (arith, pow-suc 2 n) in
    rw (p, ← div-div-eq-div-mul (x * 2 + from_bool e) 2 (2 ^ n), half-double x e) refl

-- one more bit at the end
pub number_bits-snoc : (n x : ℕ) (e : Bool) → number_bits (suc n) (x * 2 + from_bool e) ≡ number_bits n x ++ e ∷ []
number_bits-snoc zero x e =
    let h : (x * 2 + from_bool e) / 1 ≡ x * 2 + from_bool e = omega arith in
    rw (h, is_odd-double x e) refl
number_bits-snoc (suc n) x e =
    rw (shift-double n x e, number_bits-snoc n x e) refl

-- one more byte at the end
pub byte_bits-snoc : (bs : List ℕ) (b : ℕ) → byte_bits (bs ++ b ∷ []) ≡ byte_bits bs ++ number_bits 8 b
byte_bits-snoc [] b = refl
byte_bits-snoc (x ∷ bs) b = ap (λ t. number_bits 8 x ++ t) (byte_bits-snoc bs b) ∙ sym (append_assoc (number_bits 8 x) (byte_bits bs) (number_bits 8 b))

from_bool-below : (e : Bool) → from_bool e < 2
from_bool-below true = omega arith
from_bool-below false = omega arith

-- the bits of a number that takes up one bit more of a list
pub number_bits-next : (bits : List Bool) (i byte b : ℕ) → b ≡ from_bool (get_or bits i false) → i < length bits → (byte < 2 ^ i) × (number_bits i byte ≡ take i bits) → (byte * 2 + b < 2 ^ (i + 1)) × (number_bits (i + 1) (byte * 2 + b) ≡ take (i + 1) bits)
number_bits-next bits i byte b is within before =
    let e : Bool = get_or bits i false in (
      rw add-one (omega (arith, pow-suc 2 i, from_bool-below (get_or bits i false), is, before.0)),
      rw (add-one, is, number_bits-snoc i byte (get_or bits i false), before.1, take-suc bits i false within) refl,
    )

-- what begins a list still does once more is appended
pub take-start : (start old more : List Bool) → take (length start) old ≡ start → take (length start) (old ++ more) ≡ start
take-start start old more begins =
    let fits : length start ≤ length old = omega (arith, length-take (length start) old, ap length begins) in
    take-append-le (length start) old more fits ∙ begins

-- a number's bits once its next bit is appended
pub number_bits-appended : (start old new : List Bool) (place p value width : ℕ) → place ≡ suc p → new ≡ old ++ is_odd (value / 2 ^ p) ∷ [] → (old ++ number_bits place value ≡ start ++ number_bits width value) × (take (length start) old ≡ start) → (new ++ number_bits p value ≡ start ++ number_bits width value) × (take (length start) new ≡ start)
number_bits-appended start old new place p value width at pushed before =
    (rw (pushed, append_assoc) (rw at at before.0), rw pushed (take-start start old _ before.1))

below_power : (n : ℕ) → n < 2 ^ n
below_power zero = omega arith
below_power (suc n) = omega (arith, below_power n, pow-suc 2 n)

-- the exponent of a natural from 2 up is smaller than it, and not 0
pub exponent-below : (value n : ℕ) → 1 ≤ value → ¬ (value ≡ 1) → 2 ^ n ≤ value → value < 2 * 2 ^ n → (n < value) × (1 ≤ n)
exponent-below value zero some more least next = absurd (omega (arith, more))
exponent-below value (suc n) some more least next = (omega (arith, below_power (suc n), least), omega arith)

-- the code of a natural from 2 up, appended part by part
pub natural-appended : (start one two three : List Bool) (value n m : ℕ) → 1 ≤ n → 2 ^ n ≤ value → value < 2 * 2 ^ n → m ≡ value - 2 ^ n → one ≡ start ++ true ∷ [] → two ≡ one ++ natural n → three ≡ two ++ number_bits n m → three ≡ start ++ natural value
natural-appended start one two three value n m some least next is first second third =
    rw (third, second, first, is, natural_step value n some least next) (simp append_assoc)

-- a list of bytes that takes up one more
pub packed-next : (bits rest head tail : List Bool) (bytes new : List ℕ) (b : ℕ) → new ≡ bytes ++ b ∷ [] → number_bits 8 b ≡ head → rest ≡ head ++ tail → length head ≡ 8 → (byte_bits bytes ++ rest ≡ bits) × (length rest % 8 ≡ 0) → (byte_bits new ++ tail ≡ bits) × (length tail % 8 ≡ 0)
packed-next bits rest head tail bytes new b pushed is parted eight before =
    let long : length rest ≡ length head + length tail = rw parted (length-append head tail) in (
      rw (pushed, byte_bits-snoc bytes b, is, append_assoc, ← parted) before.0,
      omega (arith, long, eight, before.1),
    )
