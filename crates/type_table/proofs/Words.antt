-- Word types, by doubling.
use Rattle.std.proofs.Common.{◌≡◌, ℕ, suc, ◌+◌, ◌*◌, ◌^◌, ◌<◌, ◌≤◌, inl, inr, List, refl, ap, ◌∙◌, add-one, lit<, arith}
use Rattle.std.proofs.Math.Pow.{pow-lt}
use Rattle.std.proofs.Math.Nat.{pow-le-pow_right, pow-succ'}
use Rattle.std.proofs.lemmas.Bool.{cases_lt}
use Rattle.simplicity.specs.Types.{Kind, One, Sum, Product, word_kind}
use Rattle.simplicity.specs.Widths.{level_of, IsWidth, word_of_width}
use Rattle.type_table.specs.Kinds.{Means, kind_at}

pub bit_means : (old new : List Kind) (unit id : ℕ) → Means old unit One → Means new id (Sum (kind_at old unit) (kind_at old unit)) → Means new id (word_kind 0)
bit_means old new unit id u h = record { within = h.within; is = h.is ∙ ap (λ k. Sum k k) u.is }

pub doubled_means : (old new : List Kind) (half id level : ℕ) → Means old half (word_kind level) → Means new id (Product (kind_at old half) (kind_at old half)) → Means new id (word_kind (level + 1))
doubled_means old new half id level u h = record { within = h.within; is = h.is ∙ ap (λ k. Product k k) u.is ∙ rw add-one refl }

pub not_less : (r k : ℕ) → 2 ^ k < 2 * 2 ^ r → k ≤ r
not_less r k high = elim (cases_lt r k) [ inr h ↦ h | inl h ↦ let le : 2 ^ suc r ≤ 2 ^ k = pow-le-pow_right (lit< tt) (omega arith) in let e = pow-succ' 2 r in absurd (omega arith) ]

pub not_more : (r k : ℕ) → 2 ^ r ≤ 2 ^ k → r ≤ k
not_more r k low = elim (cases_lt k r) [ inr h ↦ h | inl h ↦ let lt : 2 ^ k < 2 ^ r = pow-lt h in absurd (omega arith) ]

-- the logarithm of a width is its level
pub level_is : (width r : ℕ) → IsWidth width → 2 ^ r ≤ width → width < 2 * 2 ^ r → r ≡ level_of width
level_is width r is low high =
    let e = is.1 in
    let low' : 2 ^ r ≤ 2 ^ level_of width = omega arith in let high' : 2 ^ level_of width < 2 * 2 ^ r = omega arith in
    let a = not_more r (level_of width) low' in let b = not_less r (level_of width) high' in omega arith

pub word_means : (kinds : List Kind) (id r width : ℕ) → IsWidth width → 2 ^ r ≤ width → width < 2 * 2 ^ r → Means kinds id (word_kind r) → Means kinds id (word_of_width width)
word_means kinds id r width is low high h = record { within = h.within; is = h.is ∙ ap word_kind (level_is width r is low high) }
