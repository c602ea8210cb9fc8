-- Numbers of n bits and naturals are read exactly where they stand.
use Rattle.std.proofs.Common.{◌≡◌, refl, ap, sym, subst, ◌∙◌, ℕ, zero, suc, ◌+◌, ◌*◌, ◌/◌, ◌%◌, ◌^◌, ◌<◌, ◌≤◌, Bool, true, false, cond, nat_lt, nat_eq, List, [], ◌∷◌, ◌++◌, length, arith, append_assoc, length-append, ltb-true, ltb-false, lt-ltb}
use Rattle.std.proofs.Math.Nat.{pow-succ', mod-one, mod-eq_of_lt, div-eq_of_lt, mul-add-div_right}
use Rattle.std.proofs.Math.Arith.{mod-mul}
use Rattle.std.proofs.Math.Pow.{pow_mono}
use Rattle.std.proofs.lemmas.Nat.{pow_pos}
use Rattle.simplicity.specs.Types.{is_odd}
use Rattle.simplicity.specs.Spelling.{number_bits, natural, IsNatural, NaturalOne, NaturalPower}
use Rattle.simplicity.proofs.Naturals.{natural_holds, natural_only}
use Rattle.simplicity.proofs.Bits.{number_length}
use Rattle.spelling.specs.Reading.{Got, NaturalTooLarge, then, give, give_if, number, natural_from, power, read_natural}
use Rattle.spelling.specs.Laws.{NaturalsAreRead}
use Rattle.spelling.proofs.Basics.{got_apart, then_got, then_gets, cond_got, give_gets}

-- a digit's part of a number
digit : (r p : ℕ) → r < 2 → cond (nat_eq r 1) p 0 ≡ r * p
digit zero p h = omega arith
digit (suc zero) p h = omega arith
digit (suc (suc r)) p h = absurd (omega arith)

-- the last n bits of a number are read as what they say
pub number_rest : (n x at : ℕ) (rest : List Bool) → number n at (number_bits n x ++ rest) ≡ Got (x % 2 ^ n) (at + n) rest
number_rest zero x at rest = ap (λ k. Got k at rest) (sym (mod-one x)) ∙ ap (λ k. Got (x % 1) k rest) (omega arith)
number_rest (suc n) x at rest =
    let b : Bool = is_odd (x / 2 ^ n) in
    let inner = number_rest n x (suc at) rest in
    let power_two : 2 ^ suc n ≡ 2 * 2 ^ n = pow-succ' 2 n in
    let split : x % 2 ^ suc n ≡ (x / 2 ^ n % 2) * 2 ^ n + x % 2 ^ n = ap (λ k. x % k) power_two ∙ mod-mul x (omega arith) (pow_pos n) in
    let value : cond (is_odd (x / 2 ^ n)) (2 ^ n) 0 + x % 2 ^ n ≡ x % 2 ^ suc n = ap (λ k. k + x % 2 ^ n) (digit (x / 2 ^ n % 2) (2 ^ n) (omega arith)) ∙ sym split in
    let place : suc at + n ≡ at + suc n = omega arith in
    ap (λ r. then r (λ m. give (cond (is_odd (x / 2 ^ n)) (2 ^ n) 0 + m))) inner ∙ ap (λ k. Got k (suc at + n) rest) value ∙ ap (λ k. Got (x % 2 ^ suc n) k rest) place

pub number_gets : (n x at : ℕ) (rest : List Bool) → x < 2 ^ n → number n at (number_bits n x ++ rest) ≡ Got x (at + n) rest
number_gets n x at rest h = number_rest n x at rest ∙ ap (λ k. Got k (at + n) rest) (mod-eq_of_lt h)

-- more before the last n bits doesn't change them
odd_more : (k y : ℕ) → is_odd (2 * k + y) ≡ is_odd y
odd_more k y = let e : (2 * k + y) % 2 ≡ y % 2 = omega arith in ap (λ r. nat_eq r 1) e

pub number_more : (n k m : ℕ) → number_bits n (k * 2 ^ n + m) ≡ number_bits n m
number_more zero k m = refl
number_more (suc n) k m =
    let power_two : 2 ^ suc n ≡ 2 * 2 ^ n = pow-succ' 2 n in
    let again : k * 2 ^ suc n + m ≡ (2 * k) * 2 ^ n + m = ap (λ p. k * p + m) power_two ∙ omega arith in
    let half : ((2 * k) * 2 ^ n + m) / 2 ^ n ≡ 2 * k + m / 2 ^ n = mul-add-div_right (pow_pos n) (2 * k) m in
    let head : is_odd (((2 * k) * 2 ^ n + m) / 2 ^ n) ≡ is_odd (m / 2 ^ n) = ap is_odd half ∙ odd_more k (m / 2 ^ n) in
    ap (number_bits (suc n)) again ∙ ap (λ b. b ∷ number_bits n ((2 * k) * 2 ^ n + m)) head ∙ ap (λ l. is_odd (m / 2 ^ n) ∷ l) (number_more n (2 * k) m)

-- a bit before n bits
number_with : (n m : ℕ) (b : Bool) → m < 2 ^ n → number_bits (suc n) (cond b (2 ^ n) 0 + m) ≡ b ∷ number_bits n m
number_with n m false h =
    let none : m / 2 ^ n ≡ 0 = div-eq_of_lt h in
    ap (number_bits (suc n)) (omega arith) ∙ ap (λ k. is_odd k ∷ number_bits n m) none
number_with n m true h =
    let again : 2 ^ n + m ≡ 1 * 2 ^ n + m = omega arith in
    let none : (1 * 2 ^ n + m) / 2 ^ n ≡ 1 = mul-add-div_right (pow_pos n) 1 m ∙ ap (λ k. 1 + k) (div-eq_of_lt h) in
    ap (number_bits (suc n)) again ∙ ap (λ k. is_odd k ∷ number_bits n (1 * 2 ^ n + m)) none ∙ ap (λ l. true ∷ l) (number_more n 1 m)

part_below : (p : ℕ) (b : Bool) (m : ℕ) → m < p → cond b p 0 + m < 2 * p
part_below p true m h = omega arith
part_below p false m h = omega arith

-- a number that was read stands there
pub number_only : (n at x end : ℕ) (bits rest : List Bool) → number n at bits ≡ Got x end rest → (x < 2 ^ n) × (bits ≡ number_bits n x ++ rest) × (end ≡ at + n)
number_only zero at x end bits rest e =
    let same = got_apart 0 x at end bits rest e in
    (omega (arith, same.0), same.2, omega (arith, same.1))
number_only (suc n) at x end [] rest e = absurd (cc)
number_only (suc n) at x end (b ∷ bits) rest e =
    let got = then_got (number n (suc at) bits) (λ m. give (cond b (2 ^ n) 0 + m)) x end rest e in
    let m : ℕ = got.0 in
    let last = got_apart (cond b (2 ^ n) 0 + m) x got.1 end got.2 rest got.4 in
    let inner = number_only n (suc at) m got.1 bits got.2 got.3 in
    let power_two : 2 ^ suc n ≡ 2 * 2 ^ n = pow-succ' 2 n in
    let below : cond b (2 ^ n) 0 + m < 2 ^ suc n = subst (λ (p : ℕ). cond b (2 ^ n) 0 + m < p) (sym power_two) (part_below (2 ^ n) b m inner.0) in
    let stands : b ∷ bits ≡ number_bits (suc n) (cond b (2 ^ n) 0 + m) ++ rest =
    ap (λ l. b ∷ l) inner.1 ∙ ap (λ l. b ∷ (number_bits n m ++ l)) last.2 ∙ ap (λ l. l ++ rest) (sym (number_with n m b inner.0)) in
    (subst (λ (k : ℕ). k < 2 ^ suc n) last.0 below, stands ∙ ap (λ k. number_bits (suc n) k ++ rest) last.0, omega (arith, inner.2, last.1))

-- a power below 2 ^ 32
small_by : (n : ℕ) (t : Bool) → nat_lt n 32 ≡ t → 2 ^ n < 2 ^ 32 → n < 32
small_by n true e h = ltb-true n 32 e
small_by n false e h =
    let large : 2 ^ 32 ≤ 2 ^ n = pow_mono (ltb-false n 32 e) in
    absurd (omega (arith, large, h))

-- what follows a natural's length part
power_gets : (start n m at : ℕ) (rest : List Bool) → n < 32 → m < 2 ^ n → power start n at (number_bits n m ++ rest) ≡ Got (2 ^ n + m) (at + n) rest
power_gets start n m at rest h below =
    let bits : List Bool = number_bits n m ++ rest in
    then_gets (give_if (nat_lt n 32) (NaturalTooLarge start) n at (number_bits n m ++ rest)) (λ n' at' bits'. then (number n' at' bits') (λ m'. give (2 ^ n' + m')))
    n at (number_bits n m ++ rest) (Got (2 ^ n + m) (at + n) rest)
    (give_gets (nat_lt n 32) (NaturalTooLarge start) n at (number_bits n m ++ rest) (lt-ltb n 32 h))
    (then_gets (number n at (number_bits n m ++ rest)) (λ m'. give (2 ^ n + m')) m (at + n) rest (Got (2 ^ n + m) (at + n) rest) (number_gets n m at rest below) refl)

power_only : (start n at x end : ℕ) (bits rest : List Bool) → power start n at bits ≡ Got x end rest →
    (m : ℕ) × (n < 32) × (m < 2 ^ n) × (x ≡ 2 ^ n + m) × (bits ≡ number_bits n m ++ rest) × (end ≡ at + n)
power_only start n at x end bits rest e =
    let got = then_got (give_if (nat_lt n 32) (NaturalTooLarge start) n at bits) (λ n' at' bits'. then (number n' at' bits') (λ m'. give (2 ^ n' + m'))) x end rest e in
    let test = cond_got (nat_lt n 32) (Got n at bits) (NaturalTooLarge start) got.0 got.1 got.2 got.3 in
    let same = got_apart n got.0 at got.1 bits got.2 test.1 in
    let again : then (number n at bits) (λ m'. give (2 ^ n + m')) ≡ Got x end rest =
    ap (λ k. then (number k at bits) (λ m'. give (2 ^ k + m'))) same.0 ∙ ap (λ k. then (number got.0 k bits) (λ m'. give (2 ^ got.0 + m'))) same.1 ∙
    ap (λ k. then (number got.0 got.1 k) (λ m'. give (2 ^ got.0 + m'))) same.2 ∙ got.4 in
    let more = then_got (number n at bits) (λ m'. give (2 ^ n + m')) x end rest again in
    let last = got_apart (2 ^ n + more.0) x more.1 end more.2 rest more.4 in
    let inner = number_only n at more.0 more.1 bits more.2 more.3 in
    (more.0, ltb-true n 32 test.0, inner.0, sym last.0, inner.1 ∙ ap (λ l. number_bits n more.0 ++ l) last.2, sym last.1 ∙ inner.2)

pub natural_positive : (x : ℕ) (code : List Bool) → IsNatural x code → 0 < x
natural_positive _ _ NaturalOne = omega arith
natural_positive _ _ (NaturalPower x n m code bits positive below is inner made) = omega (arith, pow_pos n)

-- a natural below 2 ^ 32 is read where it stands
pub natural_gets_of : (x start at : ℕ) (code rest : List Bool) → IsNatural x code → x < 2 ^ 32 → natural_from start at (code ++ rest) ≡ Got x (at + length code) rest
natural_gets_of _ start at _ rest NaturalOne h = ap (λ k. Got 1 k rest) (omega arith)
natural_gets_of _ start at _ rest (NaturalPower x n m code bits positive below is inner made) h =
    let small : n < 32 = small_by n (nat_lt n 32) refl (omega arith) in
    let first : natural_from start (suc at) (code ++ (number_bits n m ++ rest)) ≡ Got n (suc at + length code) (number_bits n m ++ rest) =
    natural_gets_of n start (suc at) code (number_bits n m ++ rest) inner (omega arith) in
    let second = power_gets start n m (suc at + length code) rest small below in
    let grouped : bits ++ rest ≡ true ∷ (code ++ (number_bits n m ++ rest)) =
    ap (λ l. l ++ rest) made ∙ ap (λ l. true ∷ l) (append_assoc code (number_bits n m) rest) in
    let long : length bits ≡ suc (length code + n) =
    ap length made ∙ ap suc (length-append code (number_bits n m) ∙ ap (λ k. length code + k) (number_length n m)) in
    let place : suc at + length code + n ≡ at + length bits = omega (arith, long) in
    ap (natural_from start at) grouped ∙
    then_gets (natural_from start (suc at) (code ++ (number_bits n m ++ rest))) (power start) n (suc at + length code) (number_bits n m ++ rest)
    (Got (2 ^ n + m) (suc at + length code + n) rest) first second ∙
    ap (λ k. Got k (suc at + length code + n) rest) (sym is) ∙ ap (λ k. Got x k rest) place

-- a natural that was read stands there
pub natural_only_of : (start at x end : ℕ) (bits rest : List Bool) → natural_from start at bits ≡ Got x end rest →
    (code : List Bool) × IsNatural x code × (x < 2 ^ 32) × (bits ≡ code ++ rest) × (end ≡ at + length code)
natural_only_of start at x end [] rest e = absurd (cc)
natural_only_of start at x end (false ∷ bits) rest e =
    let same = got_apart 1 x (suc at) end bits rest e in
    (false ∷ [], subst (λ (k : ℕ). IsNatural k (false ∷ [])) same.0 NaturalOne, omega (arith, same.0), ap (λ l. false ∷ l) same.2, omega (arith, same.1))
natural_only_of start at x end (true ∷ bits) rest e =
    let got = then_got (natural_from start (suc at) bits) (power start) x end rest e in
    let n : ℕ = got.0 in
    let before = natural_only_of start (suc at) n got.1 bits got.2 got.3 in
    let after = power_only start n got.1 x end got.2 rest got.4 in
    let code : List Bool = before.0 in
    let m : ℕ = after.0 in
    let positive : 0 < n = natural_positive n code before.1 in
    let double : 2 ^ suc n ≡ 2 * 2 ^ n = pow-succ' 2 n in
    let short : suc n ≤ 32 = omega (arith, after.1) in
    let limit : 2 ^ suc n ≤ 2 ^ 32 = pow_mono short in
    let less : m < 2 ^ n = after.2 in
    let is : x ≡ 2 ^ n + m = after.3 in
    let long : length (code ++ number_bits n m) ≡ length code + n = length-append code (number_bits n m) ∙ ap (λ k. length code + k) (number_length n m) in
    let stands : true ∷ bits ≡ true ∷ ((code ++ number_bits n m) ++ rest) =
    ap (λ l. true ∷ l) (before.3 ∙ ap (λ l. code ++ l) after.4 ∙ sym (append_assoc code (number_bits n m) rest)) in (
      true ∷ (code ++ number_bits n m),
      NaturalPower x n m code (true ∷ (code ++ number_bits n m)) positive less is before.1 refl,
      omega (arith, double, limit, less, is),
      stands,
      omega (arith, before.4, after.5, long),
    )

pub natural_gets : (x at : ℕ) (rest : List Bool) → 0 < x → x < 2 ^ 32 → read_natural at (natural x ++ rest) ≡ Got x (at + length (natural x)) rest
natural_gets x at rest h few = natural_gets_of x at at (natural x) rest (natural_holds x h) few

pub natural_stands : (x at end : ℕ) (bits rest : List Bool) → read_natural at bits ≡ Got x end rest →
    (0 < x) × (x < 2 ^ 32) × (bits ≡ natural x ++ rest) × (end ≡ at + length (natural x))
natural_stands x at end bits rest e =
    let got = natural_only_of at at x end bits rest e in
    let same : got.0 ≡ natural x = natural_only x got.0 got.1 in
    (natural_positive x got.0 got.1, got.2, got.3 ∙ ap (λ c. c ++ rest) same, got.4 ∙ ap (λ c. at + length c) same)

pub naturals_are_read : NaturalsAreRead
naturals_are_read = record { gets = natural_gets; only = natural_stands }
