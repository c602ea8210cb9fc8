-- Roots of words by their halves.
use Rattle.std.proofs.Common.{◌≡◌, ℕ, zero, suc, ◌-◌, ◌*◌, ◌/◌, ◌%◌, ◌^◌, ◌<◌, ◌≤◌, List, ap, ◌∙◌, arith}
use Rattle.std.proofs.Math.Pow.{pow-lt}
use Rattle.simplicity.specs.Types.{word_count}
use Rattle.simplicity.specs.Roots.{pair_root, word_root}

small_power : (b : ℕ) → b ≤ 64 → 1 * 2 ^ b % 2 ^ 128 ≡ 2 ^ b
small_power b small =
    let below : 2 ^ b < 2 ^ 128 = pow-lt {j = 128} (omega arith) in
    omega arith

halves_root : (k n : ℕ) (r a b : List ℕ) → a ≡ word_root k (n / word_count k) → b ≡ word_root k (n % word_count k) → r ≡ pair_root a b → r ≡ word_root (suc k) n
halves_root k n r a b first second made = made ∙ ap (λ x. pair_root x b) first ∙ ap (pair_root (word_root k (n / word_count k))) second

-- the root of a word of up to 128 bits
pub narrow_by : (level behind n : ℕ) (r a b : List ℕ) → 0 < level → behind ≡ 2 ^ (level - 1) → behind ≤ 64 → a ≡ word_root (level - 1) (n / 2 ^ behind) →
    b ≡ word_root (level - 1) (n % (1 * 2 ^ behind % 2 ^ 128)) → r ≡ pair_root a b → r ≡ word_root level n
narrow_by zero behind n r a b some is small first second made = absurd (omega arith)
narrow_by (suc k) behind n r a b some is small first second made =
    let p : suc k - 1 ≡ k = omega arith in
    let q : behind ≡ 2 ^ k = is ∙ ap (λ j. 2 ^ j) p in
    let m : 1 * 2 ^ behind % 2 ^ 128 ≡ 2 ^ behind = small_power behind small in
    halves_root k n r a b (rw (p, q) at first) (rw (m, p, q) at second) made

-- the root of a word of 256 bits
pub wide_by : (level k n : ℕ) (r a b : List ℕ) → level ≡ k → level ≡ 8 → a ≡ word_root 7 (n / 2 ^ 128) → b ≡ word_root 7 (n % 2 ^ 128) → r ≡ pair_root a b → r ≡ word_root k n
wide_by level k n r a b is eight first second made =
    let e : k ≡ 8 = omega arith in
    rw e (halves_root 7 n r a b first second made)
