-- Types of tuples of bytes: how they divide, and that their sizes tell them apart.
use Rattle.std.proofs.Common.{◌≡◌, ℕ, zero, suc, ◌+◌, ◌-◌, ◌*◌, ◌/◌, ◌<◌, ◌≤◌, List, [], ◌∷◌, length, take, drop, replicate, refl, ap, ◌∙◌, arith, length-take, length-drop}
use Rattle.simplicity.specs.Types.{Kind, One, Product, size, word_kind}
use Rattle.simplicity.specs.Tuples.{halves}
use Rattle.simplicity.proofs.Tuples.{copies_pair}
use Rattle.small_terms.specs.Tuples.{bytes_kind}

-- more than one byte are those of the first half beside the rest
pub bytes_pair : (n : ℕ) → 1 < n → bytes_kind n ≡ Product (bytes_kind (n / 2)) (bytes_kind (n - n / 2))
bytes_pair n some = copies_pair n (word_kind 3) some

-- the sizes of types
sizes : List Kind → ℕ
sizes [] = 0
sizes (k ∷ ks) = size k + sizes ks

sizes_parts : (n : ℕ) (ks : List Kind) → sizes (take n ks) + sizes (drop n ks) ≡ sizes ks
unfolding sizes
sizes_parts zero [] = refl
sizes_parts (suc n) [] = refl
sizes_parts zero (k ∷ ks) = omega arith
sizes_parts (suc n) (k ∷ ks) = omega (arith, sizes_parts n ks)

size_halves : (turns : ℕ) (ks : List Kind) → length ks ≤ turns → size (halves turns One Product ks) ≡ sizes ks
unfolding sizes
size_halves turns [] few = refl
size_halves turns (k ∷ []) few = omega arith
size_halves zero (j ∷ k ∷ ks) few = absurd (omega arith)
size_halves (suc turns) (j ∷ k ∷ ks) few =
    let front : length (take (length (j ∷ k ∷ ks) / 2) (j ∷ k ∷ ks)) ≤ turns = omega (arith, length-take (length (j ∷ k ∷ ks) / 2) (j ∷ k ∷ ks)) in
    let back : length (drop (length (j ∷ k ∷ ks) / 2) (j ∷ k ∷ ks)) ≤ turns = omega (arith, length-drop (length (j ∷ k ∷ ks) / 2) (j ∷ k ∷ ks)) in
    rw (size_halves turns (take (length (j ∷ k ∷ ks) / 2) (j ∷ k ∷ ks)) front, size_halves turns (drop (length (j ∷ k ∷ ks) / 2) (j ∷ k ∷ ks)) back) (sizes_parts (length (j ∷ k ∷ ks) / 2) (j ∷ k ∷ ks))

sizes_bytes : (n : ℕ) → sizes (replicate n (word_kind 3)) ≡ 8 * n
unfolding sizes
sizes_bytes zero = refl
sizes_bytes (suc n) = omega (arith, sizes_bytes n)

bytes_size : (n : ℕ) → size (bytes_kind n) ≡ 8 * n
bytes_size n = size_halves (length (replicate n (word_kind 3))) (replicate n (word_kind 3)) (omega arith) ∙ sizes_bytes n

-- so many bytes have one type
pub bytes_apart : (m n : ℕ) → bytes_kind m ≡ bytes_kind n → m ≡ n
bytes_apart m n same = omega (arith, bytes_size m, bytes_size n, ap size same)
