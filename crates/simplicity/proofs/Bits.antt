-- Fixed-width numbers, bytes and naturals are read off the bits in one way.
use Rattle.std.proofs.Common.{◌≡◌, refl, ap, sym, subst, ◌∙◌, ℕ, zero, suc, ◌+◌, ◌*◌, ◌/◌, ◌%◌, ◌^◌, ◌<◌, Bool, true, false, List, [], ◌∷◌, ◌++◌, length, arith, append_assoc, length-append}
use Rattle.std.proofs.Math.Nat.{pow-succ', mod-one, mod-eq_of_lt}
use Rattle.std.proofs.Math.Arith.{mod-mul}
use Rattle.std.proofs.lemmas.Nat.{pow_pos}
use Rattle.std.specs.Prelude.{nat_eq}
use Rattle.simplicity.specs.Types.{is_odd}
use Rattle.simplicity.specs.Spelling.{number_bits, byte_bits, natural, IsNatural, NaturalOne, NaturalPower}
use Rattle.simplicity.specs.Carried.{AreBelow256}
use Rattle.simplicity.proofs.Naturals.{natural_holds}

-- the parity is read off
parity : (r s : ℕ) → r < 2 → s < 2 → nat_eq r 1 ≡ nat_eq s 1 → r ≡ s
parity zero zero h g e = refl
parity zero (suc zero) h g e = absurd (cc)
parity zero (suc (suc s)) h g e = absurd (omega arith)
parity (suc zero) zero h g e = absurd (cc)
parity (suc zero) (suc zero) h g e = refl
parity (suc zero) (suc (suc s)) h g e = absurd (omega arith)
parity (suc (suc r)) s h g e = absurd (omega arith)

odd_same : (a b : ℕ) → is_odd a ≡ is_odd b → a % 2 ≡ b % 2
odd_same a b e = parity (a % 2) (b % 2) (omega arith) (omega arith) e

-- a number in so many bits, and what follows
pub number_rest : (n x y : ℕ) (us vs : List Bool) → number_bits n x ++ us ≡ number_bits n y ++ vs → (x % 2 ^ n ≡ y % 2 ^ n) × (us ≡ vs)
number_rest zero x y us vs e = (mod-one x ∙ sym (mod-one y), e)
number_rest (suc n) x y us vs e =
    let head : is_odd (x / 2 ^ n) ≡ is_odd (y / 2 ^ n) = cc in
    let tail : number_bits n x ++ us ≡ number_bits n y ++ vs = cc in
    let rest = number_rest n x y us vs tail in
    let digit : x / 2 ^ n % 2 ≡ y / 2 ^ n % 2 = odd_same (x / 2 ^ n) (y / 2 ^ n) head in
    let low : x % 2 ^ n ≡ y % 2 ^ n = rest.0 in
    let positive : 0 < 2 ^ n = pow_pos n in
    let power : 2 ^ suc n ≡ 2 * 2 ^ n = pow-succ' 2 n in
    let first : x % 2 ^ suc n ≡ (x / 2 ^ n % 2) * 2 ^ n + x % 2 ^ n = ap (λ k. x % k) power ∙ mod-mul x (omega arith) positive in
    let second : y % 2 ^ suc n ≡ (y / 2 ^ n % 2) * 2 ^ n + y % 2 ^ n = ap (λ k. y % k) power ∙ mod-mul y (omega arith) positive in
    (first ∙ ap (λ d. d * 2 ^ n + x % 2 ^ n) digit ∙ ap (λ r. (y / 2 ^ n % 2) * 2 ^ n + r) low ∙ sym second, rest.1)

pub number_apart : (n x y : ℕ) (us vs : List Bool) → x < 2 ^ n → y < 2 ^ n → number_bits n x ++ us ≡ number_bits n y ++ vs → (x ≡ y) × (us ≡ vs)
number_apart n x y us vs h g e =
    let rest = number_rest n x y us vs e in
    (sym (mod-eq_of_lt h) ∙ rest.0 ∙ mod-eq_of_lt g, rest.1)

-- naturals, and what follows
natural_apart_of : (x y : ℕ) (xs ys us vs : List Bool) → IsNatural x xs → IsNatural y ys → xs ++ us ≡ ys ++ vs → (x ≡ y) × (us ≡ vs)
natural_apart_of _ _ _ _ us vs NaturalOne NaturalOne e = (refl, cc)
natural_apart_of _ _ _ _ us vs NaturalOne (NaturalPower y n m code ys h below is rest made) e =
    let clash : false ∷ us ≡ true ∷ ((code ++ number_bits n m) ++ vs) = e ∙ ap (λ (l : List Bool). l ++ vs) made in
    absurd (cc)
natural_apart_of _ _ _ _ us vs (NaturalPower x n m code xs h below is rest made) NaturalOne e =
    let clash : true ∷ ((code ++ number_bits n m) ++ us) ≡ false ∷ vs = sym (ap (λ (l : List Bool). l ++ us) made) ∙ e in
    absurd (cc)
natural_apart_of _ _ _ _ us vs (NaturalPower x n m code xs h below is rest made) (NaturalPower y k l code' ys h' below' is' rest' made') e =
    let whole : true ∷ ((code ++ number_bits n m) ++ us) ≡ true ∷ ((code' ++ number_bits k l) ++ vs) =
    sym (ap (λ (l : List Bool). l ++ us) made) ∙ e ∙ ap (λ (l : List Bool). l ++ vs) made' in
    let peeled : (code ++ number_bits n m) ++ us ≡ (code' ++ number_bits k l) ++ vs = cc in
    let grouped : code ++ (number_bits n m ++ us) ≡ code' ++ (number_bits k l ++ vs) =
    sym (append_assoc code (number_bits n m) us) ∙ peeled ∙ append_assoc code' (number_bits k l) vs in
    let first = natural_apart_of n k code code' (number_bits n m ++ us) (number_bits k l ++ vs) rest rest' grouped in
    let width : n ≡ k = first.0 in
    let same_width : number_bits n m ++ us ≡ number_bits n l ++ vs = first.1 ∙ ap (λ (w : ℕ). number_bits w l ++ vs) (sym width) in
    let limit : l < 2 ^ n = subst (λ (w : ℕ). l < 2 ^ w) (sym width) below' in
    let second = number_apart n m l us vs below limit same_width in
    (is ∙ ap (λ (w : ℕ). 2 ^ w + m) width ∙ ap (λ (r : ℕ). 2 ^ k + r) second.0 ∙ sym is', second.1)

pub natural_apart : (x y : ℕ) (us vs : List Bool) → 0 < x → 0 < y → natural x ++ us ≡ natural y ++ vs → (x ≡ y) × (us ≡ vs)
natural_apart x y us vs h g e = natural_apart_of x y (natural x) (natural y) us vs (natural_holds x h) (natural_holds y g) e

-- us many bytes, and what follows
pub bytes_apart : (xs ys : List ℕ) (us vs : List Bool) → length xs ≡ length ys → AreBelow256 xs → AreBelow256 ys →
    byte_bits xs ++ us ≡ byte_bits ys ++ vs → (xs ≡ ys) × (us ≡ vs)
bytes_apart [] [] us vs count h g e = (refl, e)
bytes_apart [] (y ∷ ys) us vs count h g e = absurd (omega arith)
bytes_apart (x ∷ xs) [] us vs count h g e = absurd (omega arith)
bytes_apart (x ∷ xs) (y ∷ ys) us vs count h g e =
    let grouped : number_bits 8 x ++ (byte_bits xs ++ us) ≡ number_bits 8 y ++ (byte_bits ys ++ vs) =
    sym (append_assoc (number_bits 8 x) (byte_bits xs) us) ∙ e ∙ append_assoc (number_bits 8 y) (byte_bits ys) vs in
    let first = number_apart 8 x y (byte_bits xs ++ us) (byte_bits ys ++ vs) h.0 g.0 grouped in
    let rest = bytes_apart xs ys us vs (omega arith) h.1 g.1 first.1 in
    let front : x ≡ y = first.0 in
    let back : xs ≡ ys = rest.0 in
    (cc, rest.1)

-- lengths
pub number_length : (n x : ℕ) → length (number_bits n x) ≡ n
number_length zero x = refl
number_length (suc n) x = ap suc (number_length n x)

pub bytes_length : (xs : List ℕ) → length (byte_bits xs) ≡ 8 * length xs
bytes_length [] = refl
bytes_length (x ∷ xs) =
    let first : length (number_bits 8 x) ≡ 8 = number_length 8 x in
    let rest : length (byte_bits xs) ≡ 8 * length xs = bytes_length xs in
    length-append (number_bits 8 x) (byte_bits xs) ∙ omega arith
