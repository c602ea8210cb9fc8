-- Readers of types and patterns at no depth, and at one more.
use Rattle.std.proofs.Common.{◌≡◌, ℕ, suc, ◌-◌, ◌<◌, true, false, List, refl, ap, ◌∙◌, arith}
use Rattle.hl_syntax.specs.declared.token.Token.{Token}
use Rattle.hl_grammar.specs.Readers.{dead, too_deep}
use Rattle.hl_grammar.specs.Read as read

pub pattern_too_deep : (depth : ℕ) (ts : List Token) → depth ≡ 0 → read.begins_pattern ts ≡ true → read.pattern depth ts ≡ too_deep ts
unfolding read.pattern
pattern_too_deep depth ts none begins = rw (none, begins) refl

pub pattern_dead : (depth : ℕ) (ts : List Token) → depth ≡ 0 → read.begins_pattern ts ≡ false → read.pattern depth ts ≡ dead ts
unfolding read.pattern
pattern_dead depth ts none begins = rw (none, begins) refl

pattern_next : (depth : ℕ) (ts : List Token) → read.pattern (suc depth) ts ≡ read.pattern_level (read.pattern depth) ts
unfolding read.pattern
pattern_next depth ts = refl

pub pattern_deeper : (depth : ℕ) (ts : List Token) → 0 < depth → read.pattern depth ts ≡ read.pattern_level (read.pattern (depth - 1)) ts
pattern_deeper depth ts some = let e : depth ≡ suc (depth - 1) = omega arith in ap (λ n. read.pattern n ts) e ∙ pattern_next (depth - 1) ts

pub type_too_deep : (depth : ℕ) (ts : List Token) → depth ≡ 0 → read.begins_type ts ≡ true → read.type depth ts ≡ too_deep ts
unfolding read.type
type_too_deep depth ts none begins = rw (none, begins) refl

pub type_dead : (depth : ℕ) (ts : List Token) → depth ≡ 0 → read.begins_type ts ≡ false → read.type depth ts ≡ dead ts
unfolding read.type
type_dead depth ts none begins = rw (none, begins) refl

type_next : (depth : ℕ) (ts : List Token) → read.type (suc depth) ts ≡ read.type_level (read.type depth) ts
unfolding read.type
type_next depth ts = refl

pub type_deeper : (depth : ℕ) (ts : List Token) → 0 < depth → read.type depth ts ≡ read.type_level (read.type (depth - 1)) ts
type_deeper depth ts some = let e : depth ≡ suc (depth - 1) = omega arith in ap (λ n. read.type n ts) e ∙ type_next (depth - 1) ts
