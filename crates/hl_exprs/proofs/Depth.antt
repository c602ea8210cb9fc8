-- Readers of expressions at no depth, and at one more.
use Rattle.std.proofs.Common.{◌≡◌, ℕ, suc, ◌-◌, ◌<◌, Bool, true, false, List, refl, ap, ◌∙◌, arith}
use Rattle.hl_syntax.specs.declared.token.Token.{Token}
use Rattle.hl_grammar.specs.Readers.{dead, too_deep, brink, spanned}
use Rattle.hl_syntax.specs.declared.token.Symbol.TheVariants.{OpenBrace}
use Rattle.simplicityhl.specs.Grammar.{expr_of}
use Rattle.hl_grammar.specs.Read as read
use Rattle.hl_operands.specs.Exprs.{within}

-- with nothing nested, an expression is refused as what begins here
pub expr_brink : (values_only : Bool) (depth : ℕ) (ts : List Token) → depth ≡ 0 → read.expr_of_only values_only depth ts ≡ brink (read.begins_expr values_only) ts
unfolding read.expr_of_only
expr_brink values_only depth ts none = rw none refl

expr_next : (values_only : Bool) (depth : ℕ) (ts : List Token) → read.expr_of_only values_only (suc depth) ts ≡ within read.expr_level values_only depth values_only ts
unfolding read.expr_of_only
expr_next values_only depth ts = refl

pub expr_deeper : (values_only : Bool) (depth : ℕ) (ts : List Token) → 0 < depth → read.expr_of_only values_only depth ts ≡ within read.expr_level values_only (depth - 1) values_only ts
expr_deeper values_only depth ts some = let e : depth ≡ suc (depth - 1) = omega arith in ap (λ n. read.expr_of_only values_only n ts) e ∙ expr_next values_only (depth - 1) ts

pub body_too_deep : (depth : ℕ) (ts : List Token) → depth ≡ 0 → read.is_at OpenBrace ts ≡ true → read.body depth ts ≡ too_deep ts
unfolding read.body
body_too_deep depth ts none begins = rw (none, begins) refl

pub body_dead : (depth : ℕ) (ts : List Token) → depth ≡ 0 → read.is_at OpenBrace ts ≡ false → read.body depth ts ≡ dead ts
unfolding read.body
body_dead depth ts none begins = rw (none, begins) refl

body_next : (depth : ℕ) (ts : List Token) → read.body (suc depth) ts ≡ spanned expr_of (within read.block false depth) ts
unfolding read.body
body_next depth ts = refl

pub body_deeper : (depth : ℕ) (ts : List Token) → 0 < depth → read.body depth ts ≡ spanned expr_of (within read.block false (depth - 1)) ts
body_deeper depth ts some = let e : depth ≡ suc (depth - 1) = omega arith in ap (λ n. read.body n ts) e ∙ body_next (depth - 1) ts
