-- Numbers moved by places.
use Rattle.std.proofs.Common.{ℕ, zero, suc, ◌≡◌, ◌+◌, ◌-◌, ◌*◌, ◌/◌, ◌%◌, ◌^◌, ◌<◌, ◌≤◌, sym, ◌∙◌, ap, subst, arith}
use Rattle.std.proofs.lemmas.Nat.{pow-add, pow_pos, shr_below, shr-shr, field_of, mod-pow-add, mul-add-lt, div_below, mul-le, div-add-mod'}
use Rattle.std.proofs.Math.Nat.{pow-le-pow_right, mul-le-mul_right, mod-lt, mod-eq_of_lt, mul-add-mod_self_left}

-- the powers at a place within n bits
pub record IsSplit (n t : ℕ) : Type 0 where
  pub product : 2 ^ (n - t) * 2 ^ t ≡ 2 ^ n
  pub before : 0 < 2 ^ (n - t)
  pub behind : 0 < 2 ^ t
  pub least : 2 ^ (n - t) ≤ 2 ^ n
  pub small : 2 ^ n ≤ 2 ^ 64

pub powers_grow : (i j : ℕ) → i ≤ j → 2 ^ i ≤ 2 ^ j
powers_grow i j h = pow-le-pow_right (pow_pos 1) h

powers_product : (n t : ℕ) → t ≤ n → 2 ^ (n - t) * 2 ^ t ≡ 2 ^ n
powers_product n t h =
    let e : n - t + t ≡ n = omega arith in
    sym (pow-add 2 (n - t) t) ∙ ap (λ k. 2 ^ k) e

pub split_at : (n t : ℕ) → t ≤ n → n ≤ 64 → IsSplit n t
split_at n t h g =
    record {
      product = powers_product n t h;
      before = pow_pos (n - t);
      behind = pow_pos t;
      least = powers_grow (n - t) n (omega arith);
      small = powers_grow n 64 g;
    }

quotient_small : (n t a : ℕ) → t ≤ n → a < 2 ^ n → a / 2 ^ t < 2 ^ (n - t)
quotient_small n t a h fits =
    let e : n ≡ n - t + t = omega arith in
    shr_below a (n - t) t (subst (λ k. a < 2 ^ k) e fits)

-- ones before the rest, by a shift of so many ones
pub ones_moved : (n t f filled : ℕ) → t < n → n ≤ 64 → f < 2 → filled ≡ f * (2 ^ t - 1)
    → filled * 2 ^ (n - t) % 2 ^ 128 ≡ f * (2 ^ n - 2 ^ (n - t))
ones_moved n t zero filled h g b e =
    let z : filled ≡ 0 = omega (arith, e) in
    rw z (omega arith)
ones_moved n t (suc zero) filled h g b e =
    let s = split_at n t (omega arith) g in
    let z : filled + 1 ≡ 2 ^ t = omega (arith, e, s.behind) in
    let p : (filled + 1) * 2 ^ (n - t) ≡ 2 ^ n = ap (λ x. x * 2 ^ (n - t)) z ∙ omega (arith, s.product) in
    omega (arith, p, s.small, s.least)
ones_moved n t (suc (suc f)) filled h g b e = absurd (omega (arith, b))

pub right_fits : (n t f a : ℕ) → t < n → f < 2 → a < 2 ^ n → a / 2 ^ t + f * (2 ^ n - 2 ^ (n - t)) < 2 ^ n
right_fits n t zero a h b fits =
    let q = quotient_small n t a (omega arith) fits in
    let l : 2 ^ (n - t) ≤ 2 ^ n = powers_grow (n - t) n (omega arith) in
    omega (arith, q, l)
right_fits n t (suc zero) a h b fits =
    let q = quotient_small n t a (omega arith) fits in
    let l : 2 ^ (n - t) ≤ 2 ^ n = powers_grow (n - t) n (omega arith) in
    omega (arith, q, l)
right_fits n t (suc (suc f)) a h b fits = absurd (omega (arith, b))

front_below : (p q m a : ℕ) → q * p ≡ m → 0 < q → a < m → a / q < p
front_below p q m a e s fits =
    let f : a < p * q = omega (arith, e, fits) in
    div_below a q p s f

turned_parts : (p q m a : ℕ) → q * p ≡ m → 0 < q → a < m → a % q * p + a / q < m
turned_parts p q m a e s fits =
    let l : a % q < q = mod-lt a s in
    let f : a / q < p = front_below p q m a e s fits in
    omega (arith, e, mul-add-lt (a % q) p (a / q) q l f)

mul_grows : (a b k : ℕ) → 0 < k → a < b → a * k < b * k
mul_grows a b k s h = omega (arith, mul-le-mul_right {m = suc a} {n = b} k (omega arith))

regroup : (p q m a h l : ℕ) → q * p ≡ m → h * q + l ≡ a → a * p ≡ m * h + l * p
regroup p q m a h l e parts = rw (← parts, ← e) (omega arith)

cut_parts : (p q m a : ℕ) → q * p ≡ m → 0 < q → 0 < p → m ≤ 2 ^ 64 → a < m → a * p % 2 ^ 128 % (1 * m % 2 ^ 128) ≡ a % q * p
cut_parts p q m a e s r small fits =
    let l : a % q < q = mod-lt a s in
    let parts : a / q * q + a % q ≡ a = div-add-mod' a q in
    let low : a % q * p < m = omega (arith, e, mul_grows (a % q) q p r l) in
    let whole : a * p ≡ m * (a / q) + a % q * p = regroup p q m a (a / q) (a % q) e parts in
    let top : p ≤ m = omega (arith, e, mul-le 1 p q p s (omega arith)) in
    let bound : a * p ≤ (2 ^ 64 - 1) * 2 ^ 64 = mul-le a p (2 ^ 64 - 1) (2 ^ 64) (omega (arith, small, fits)) (omega (arith, small, top)) in
    let same : a * p % 2 ^ 128 ≡ a * p = omega (arith, bound) in
    let one : 1 * m % 2 ^ 128 ≡ m = omega (arith, small) in
    rw (same, one, whole) (mul-add-mod_self_left m (a / q) (a % q * p) ∙ mod-eq_of_lt low)

-- moved to the left and cut at n bits, only the bits behind the first t are left
pub moved_and_cut : (n t a : ℕ) → t ≤ n → n ≤ 64 → a < 2 ^ n
    → a * 2 ^ t % 2 ^ 128 % (1 * 2 ^ n % 2 ^ 128) ≡ a % 2 ^ (n - t) * 2 ^ t
moved_and_cut n t a h g fits =
    let s = split_at n t h g in
    cut_parts (2 ^ t) (2 ^ (n - t)) (2 ^ n) a s.product s.before s.behind (omega (arith, s.small)) fits

pub rotated_fits : (n t a : ℕ) → t ≤ n → a < 2 ^ n → a % 2 ^ (n - t) * 2 ^ t + a / 2 ^ (n - t) < 2 ^ n
rotated_fits n t a h fits =
    turned_parts (2 ^ t) (2 ^ (n - t)) (2 ^ n) a (powers_product n t h) (pow_pos (n - t)) fits

-- a bit behind the first half of 256, and one in it
pub low_bit : (number k : ℕ) → k < 128 → number % 2 ^ 128 / 2 ^ k % 2 ≡ number / 2 ^ k % 2
low_bit number k h =
    let e : 128 ≡ 128 - k + k = omega arith in
    let f : number % 2 ^ 128 / 2 ^ k ≡ number / 2 ^ k % 2 ^ (128 - k) =
    ap (λ j. number % 2 ^ j / 2 ^ k) e ∙ field_of number (128 - k) k in
    let j : 128 - k ≡ (127 - k) + 1 = omega arith in
    let m : number / 2 ^ k % 2 ^ (128 - k) ≡ (number / 2 ^ k / 2 ^ 1 % 2 ^ (127 - k)) * 2 ^ 1 + number / 2 ^ k % 2 ^ 1 =
    ap (λ j. number / 2 ^ k % 2 ^ j) j ∙ mod-pow-add (number / 2 ^ k) (127 - k) 1 in
    omega (arith, f, m)

pub high_bit : (number k : ℕ) → 128 ≤ k → number / 2 ^ 128 / 2 ^ (k - 128) ≡ number / 2 ^ k
high_bit number k h =
    let e : 128 + (k - 128) ≡ k = omega arith in
    shr-shr number 128 (k - 128) ∙ ap (λ j. number / 2 ^ j) e
