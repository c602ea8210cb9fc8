-- The bits of bytes and of words, one more at a time.
use Rattle.std.proofs.Common.{◌≡◌, ℕ, zero, suc, ◌+◌, ◌-◌, ◌/◌, ◌^◌, ◌<◌, List, [], ◌∷◌, ◌++◌, length, take, get_or, Bool, refl, ap, sym, ◌∙◌, arith, append_assoc, append-nil, add-one}
use Rattle.simplicity.specs.Types.{is_odd}
use Rattle.simplicity.specs.Spelling.{number_bits, byte_bits}

byte_bits-append : (xs ys : List ℕ) → byte_bits (xs ++ ys) ≡ byte_bits xs ++ byte_bits ys
byte_bits-append [] ys = refl
byte_bits-append (x ∷ xs) ys = ap (λ rest. number_bits 8 x ++ rest) (byte_bits-append xs ys) ∙ sym (append_assoc (number_bits 8 x) (byte_bits xs) (byte_bits ys))

take-next : (xs : List ℕ) (i : ℕ) → i < length xs → take (suc i) xs ≡ take i xs ++ get_or xs i 0 ∷ []
take-next [] i h = absurd (omega arith)
take-next (x ∷ xs) zero h = refl
take-next (x ∷ xs) (suc i) h = ap (λ rest. x ∷ rest) (take-next xs i (omega arith))

pub byte_next : (xs : List ℕ) (i : ℕ) (start old new : List Bool) → i < length xs → old ≡ start ++ byte_bits (take i xs) → new ≡ old ++ number_bits 8 (get_or xs i 0) → new ≡ start ++ byte_bits (take (i + 1) xs)
byte_next xs i start old new h before after =
    rw (after, before, add-one, take-next xs i h, byte_bits-append (take i xs) (get_or xs i 0 ∷ [])) (simp (append_assoc, append-nil))

pub length-number_bits : (n x : ℕ) → length (number_bits n x) ≡ n
length-number_bits zero x = refl
length-number_bits (suc n) x = ap suc (length-number_bits n x)

bit_next : (n p x : ℕ) → p < n → take (suc p) (number_bits n x) ≡ take p (number_bits n x) ++ is_odd (x / 2 ^ (n - 1 - p)) ∷ []
bit_next zero p x h = absurd (omega arith)
bit_next (suc n) zero x h = let e : suc n - 1 - 0 ≡ n = omega arith in rw e refl
bit_next (suc n) (suc p) x h =
    let e : suc n - 1 - suc p ≡ n - 1 - p = omega arith in
    ap (λ rest. is_odd (x / 2 ^ n) ∷ rest) (bit_next n p x (omega arith)) ∙ rw e refl

pub word_next : (n p x : ℕ) (start old new : List Bool) → p < n → old ≡ start ++ take p (number_bits n x) → new ≡ old ++ is_odd (x / 2 ^ (n - 1 - p)) ∷ [] → new ≡ start ++ take (p + 1) (number_bits n x)
word_next n p x start old new h before after = rw (after, before, add-one, bit_next n p x h) (simp append_assoc)
