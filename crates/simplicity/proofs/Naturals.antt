-- Naturals: how many turns suffice doesn't matter, so the code of 2 ^ n + m is 1, the code of n, and m in n bits.
use Rattle.std.proofs.Common.{◌≡◌, refl, ap, sym, subst, ◌∙◌, ℕ, zero, suc, ◌+◌, ◌-◌, ◌*◌, ◌/◌, ◌^◌, ◌<◌, ◌≤◌, Bool, true, false, List, [], ◌∷◌, ◌++◌, arith}
use Rattle.std.proofs.Math.Nat.{pow-suc}
use Rattle.simplicity.specs.Spelling.{number_bits, log2, log2_next, log2_within, natural, natural_next, natural_within, IsNatural, NaturalOne, NaturalPower}

-- one turn keeps the logarithm below its number, where the turns before do
log2_next_below : (f : ℕ → ℕ) (x half : ℕ) → 0 < x → x / 2 ≡ half → (0 < half → f half < half) → log2_next f half < x
log2_next_below f x zero h e below = h
log2_next_below f x (suc half) h e below =
    let less : f (suc half) < suc half = below (omega arith) in
    omega arith

-- the logarithm is below its number
log2_below : (turns x : ℕ) → 0 < x → log2_within turns x < x
log2_below zero x h = h
log2_below (suc turns) x h = log2_next_below (log2_within turns) x (x / 2) h refl (λ positive. log2_below turns (x / 2) positive)

-- one turn's logarithm of a number from 2 up
log2_next_of : (f : ℕ → ℕ) (half n : ℕ) → 0 < half → f half ≡ n → log2_next f half ≡ suc n
log2_next_of f zero n h e = absurd (omega arith)
log2_next_of f (suc half) n h e = ap suc e

-- the logarithm, where the turns are as many as the number
log2_found : (n turns x : ℕ) → x ≤ turns → 2 ^ n ≤ x → x < 2 * 2 ^ n → log2_within turns x ≡ n
log2_found n zero x few low high = absurd (omega arith)
log2_found zero (suc turns) x few low high =
    let one : x ≡ 1 = omega arith in
    rw one
log2_found (suc n) (suc turns) x few low high =
    let double : 2 ^ suc n ≡ 2 ^ n * 2 = pow-suc 2 n in
    let from : 2 ^ n ≤ x / 2 = omega arith in
    let below : x / 2 < 2 * 2 ^ n = omega arith in
    let some : 0 < x / 2 = omega arith in
    log2_next_of (log2_within turns) (x / 2) n some (log2_found n turns (x / 2) (omega arith) from below)

-- the code with as many turns as the number or more is one
natural_next_same : (f g : ℕ → List Bool) (x n : ℕ) → (0 < n → f n ≡ g n) → natural_next f x n ≡ natural_next g x n
natural_next_same f g x zero same = refl
natural_next_same f g x (suc n) same =
    let e : f (suc n) ≡ g (suc n) = same (omega arith) in
    rw e

natural_turns : (s t x : ℕ) → 0 < x → x ≤ s → x ≤ t → natural_within s x ≡ natural_within t x
natural_turns zero t x h few few' = absurd (omega arith)
natural_turns (suc s) zero x h few few' = absurd (omega arith)
natural_turns (suc s) (suc t) x h few few' =
    let less : log2 x < x = log2_below x x h in
    natural_next_same (natural_within s) (natural_within t) x (log2 x)
    (λ positive. natural_turns s t (log2 x) positive (omega arith) (omega arith))

-- the code of one
pub natural_one : natural 1 ≡ false ∷ []
natural_one = refl

-- one turn of the code of a number from 2 up
natural_next_of : (f : ℕ → List Bool) (x k n : ℕ) → k ≡ n → 0 < n → natural_next f x k ≡ true ∷ (f n ++ number_bits n (x - 2 ^ n))
natural_next_of f x k zero e h = absurd (omega arith)
natural_next_of f x k (suc n) e h = rw e

natural_from : (turns x n : ℕ) → x ≤ turns → 0 < n → 2 ^ n ≤ x → x < 2 * 2 ^ n → natural_within turns x ≡ true ∷ (natural n ++ number_bits n (x - 2 ^ n))
natural_from zero x n few h low high = absurd (omega arith)
natural_from (suc turns) x n few h low high =
    let found : log2 x ≡ n = log2_found n x x (omega arith) low high in
    let below : log2 x < x = log2_below x x (omega arith) in
    let same : natural_within turns n ≡ natural n = natural_turns turns n n h (omega arith) (omega arith) in
    natural_next_of (natural_within turns) x (log2 x) n found h ∙ ap (λ code. true ∷ (code ++ number_bits n (x - 2 ^ n))) same

-- the code of 2 ^ n + m is 1, the code of n, and m in n bits
pub natural_step : (x n : ℕ) → 0 < n → 2 ^ n ≤ x → x < 2 * 2 ^ n → natural x ≡ true ∷ (natural n ++ number_bits n (x - 2 ^ n))
natural_step x n h low high = natural_from x x n (omega arith) h low high

-- the logarithm's powers enclose the number
log2_next_bounds : (f : ℕ → ℕ) (x half : ℕ) → 0 < x → x / 2 ≡ half → (0 < half → (2 ^ f half ≤ half) × (half < 2 * 2 ^ f half)) →
    (2 ^ log2_next f half ≤ x) × (x < 2 * 2 ^ log2_next f half)
log2_next_bounds f x zero h e within = (omega arith, omega arith)
log2_next_bounds f x (suc half) h e within =
    let rest = within (omega arith) in
    let double : 2 ^ suc (f (suc half)) ≡ 2 ^ f (suc half) * 2 = pow-suc 2 (f (suc half)) in
    (omega (arith, rest.0, double), omega (arith, rest.1, double))

log2_bounds_within : (turns x : ℕ) → 0 < x → x ≤ turns → (2 ^ log2_within turns x ≤ x) × (x < 2 * 2 ^ log2_within turns x)
log2_bounds_within zero x h few = absurd (omega arith)
log2_bounds_within (suc turns) x h few =
    log2_next_bounds (log2_within turns) x (x / 2) h refl (λ positive. log2_bounds_within turns (x / 2) positive (omega arith))

pub log2_bounds : (x : ℕ) → 0 < x → (2 ^ log2 x ≤ x) × (x < 2 * 2 ^ log2 x)
log2_bounds x h = log2_bounds_within x x h (omega arith)

-- the function gives what the relation says
power_of : (x n : ℕ) → 0 < n → 2 ^ n ≤ x → x < 2 * 2 ^ n → IsNatural n (natural n) → IsNatural x (natural x)
power_of x n h low high rest = NaturalPower x n (x - 2 ^ n) (natural n) (natural x) h (omega arith) (omega arith) rest (natural_step x n h low high)

holds_next : (x n : ℕ) → 0 < x → log2 x ≡ n → (0 < n → IsNatural n (natural n)) → IsNatural x (natural x)
holds_next x zero h e rest =
    let bounds = log2_bounds x h in
    let power : 2 ^ log2 x ≡ 1 = rw e refl in
    let one : 1 ≡ x = omega (arith, bounds.1, power) in
    subst (λ (k : ℕ). IsNatural k (natural k)) one NaturalOne
holds_next x (suc n) h e rest =
    let bounds = log2_bounds x h in
    let low : 2 ^ suc n ≤ x = subst (λ (k : ℕ). 2 ^ k ≤ x) e bounds.0 in
    let high : x < 2 * 2 ^ suc n = subst (λ (k : ℕ). x < 2 * 2 ^ k) e bounds.1 in
    power_of x (suc n) (omega arith) low high (rest (omega arith))

natural_holds_below : (turns x : ℕ) → 0 < x → x < turns → IsNatural x (natural x)
natural_holds_below zero x h few = absurd (omega arith)
natural_holds_below (suc turns) x h few =
    let less : log2 x < x = log2_below x x h in
    holds_next x (log2 x) h refl (λ positive. natural_holds_below turns (log2 x) positive (omega arith))

pub natural_holds : (x : ℕ) → 0 < x → IsNatural x (natural x)
natural_holds x h = natural_holds_below (suc x) x h (omega arith)

pub natural_only : (x : ℕ) (bits : List Bool) → IsNatural x bits → bits ≡ natural x
natural_only _ _ NaturalOne = refl
natural_only _ _ (NaturalPower x n m code bits h below is rest made) =
    let same : code ≡ natural n = natural_only n code rest in
    let left : x - 2 ^ n ≡ m = omega arith in
    let double : 2 * 2 ^ n ≡ 2 ^ n + 2 ^ n = omega arith in
    let step = natural_step x n h (omega arith) (omega arith) in
    made ∙ ap (λ c. true ∷ (c ++ number_bits n m)) same ∙ ap (λ k. true ∷ (natural n ++ number_bits n k)) (sym left) ∙ sym step
