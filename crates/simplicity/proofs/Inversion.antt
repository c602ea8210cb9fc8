-- What a node's arrow says of its children's, read off the typing table.
use Rattle.std.proofs.Common.{◌≡◌, refl, subst, ℕ}
use Rattle.simplicity.specs.Types.{Kind, One, Sum, Product, word_kind}
use Rattle.simplicity.specs.Nodes as node
use Rattle.simplicity.specs.Typing.{Typing, HasArrow, HasNoArrow, Meets}
use Rattle.simplicity.specs.Typing as row

pub iden_meets : (ts : Typing) (a b : Kind) → Meets ts node.Iden a b → a ≡ b
iden_meets ts _ _ (row.Iden a) = refl

pub unit_meets : (ts : Typing) (a b : Kind) → Meets ts node.UnitNode a b → b ≡ One
unit_meets ts _ _ (row.UnitNode a) = refl

pub word_meets : (ts : Typing) (k n : ℕ) (a b : Kind) → Meets ts (node.Word k n) a b → (a ≡ One) × (b ≡ word_kind k)
word_meets ts _ _ _ _ (row.Word k n) = (refl, refl)

pub injl_meets : (ts : Typing) (t : ℕ) (a d : Kind) → Meets ts (node.Injl t) a d → (b : Kind) × (c : Kind) × (d ≡ Sum b c) × HasArrow ts t a b
injl_meets ts _ _ _ (row.Injl t a b c h) = (b, c, refl, h)

pub injr_meets : (ts : Typing) (t : ℕ) (a d : Kind) → Meets ts (node.Injr t) a d → (b : Kind) × (c : Kind) × (d ≡ Sum b c) × HasArrow ts t a c
injr_meets ts _ _ _ (row.Injr t a b c h) = (b, c, refl, h)

pub take_meets : (ts : Typing) (t : ℕ) (d c : Kind) → Meets ts (node.Take t) d c → (a : Kind) × (b : Kind) × (d ≡ Product a b) × HasArrow ts t a c
take_meets ts _ _ _ (row.Take t a b c h) = (a, b, refl, h)

pub drop_meets : (ts : Typing) (t : ℕ) (d c : Kind) → Meets ts (node.Drop t) d c → (a : Kind) × (b : Kind) × (d ≡ Product a b) × HasArrow ts t b c
drop_meets ts _ _ _ (row.Drop t a b c h) = (a, b, refl, h)

pub comp_meets : (ts : Typing) (s t : ℕ) (a c : Kind) → Meets ts (node.Comp s t) a c → (b : Kind) × HasArrow ts s a b × HasArrow ts t b c
comp_meets ts _ _ _ _ (row.Comp s t a b c g h) = (b, g, h)

pub pair_meets : (ts : Typing) (s t : ℕ) (a d : Kind) → Meets ts (node.Pair s t) a d →
    (b : Kind) × (c : Kind) × (d ≡ Product b c) × HasArrow ts s a b × HasArrow ts t a c
pair_meets ts _ _ _ _ (row.Pair s t a b c g h) = (b, c, refl, g, h)

-- the same where the type on the one side is known
pub take_part : (ts : Typing) (t : ℕ) (d a b c : Kind) → Meets ts (node.Take t) d c → d ≡ Product a b → HasArrow ts t a c
take_part ts t d a b c m e =
    let parts = take_meets ts t d c m in
    let same : parts.0 ≡ a = cc in
    subst (λ (k : Kind). HasArrow ts t k c) same parts.3

pub drop_part : (ts : Typing) (t : ℕ) (d a b c : Kind) → Meets ts (node.Drop t) d c → d ≡ Product a b → HasArrow ts t b c
drop_part ts t d a b c m e =
    let parts = drop_meets ts t d c m in
    let same : parts.1 ≡ b = cc in
    subst (λ (k : Kind). HasArrow ts t k c) same parts.3

pub injr_part : (ts : Typing) (t : ℕ) (a d b c : Kind) → Meets ts (node.Injr t) a d → d ≡ Sum b c → HasArrow ts t a c
injr_part ts t a d b c m e =
    let parts = injr_meets ts t a d m in
    let same : parts.1 ≡ c = cc in
    subst (λ (k : Kind). HasArrow ts t a k) same parts.3

pub pair_parts : (ts : Typing) (s t : ℕ) (a d b c : Kind) → Meets ts (node.Pair s t) a d → d ≡ Product b c → HasArrow ts s a b × HasArrow ts t a c
pair_parts ts s t a d b c m e =
    let parts = pair_meets ts s t a d m in
    let left : parts.0 ≡ b = cc in
    let right : parts.1 ≡ c = cc in
    (subst (λ (k : Kind). HasArrow ts s a k) left parts.3, subst (λ (k : Kind). HasArrow ts t a k) right parts.4)

-- a case whose left side is hidden
pub assertr_meets : (ts : Typing) (s t : ℕ) (e d : Kind) → Meets ts (node.Case s t) e d → HasNoArrow ts s →
    (a : Kind) × (b : Kind) × (c : Kind) × (e ≡ Product (Sum a b) c) × HasArrow ts t (Product b c) d
assertr_meets ts _ _ _ _ (row.Case s t a b c d g h) none = (a, b, c, refl, h)
assertr_meets ts _ _ _ _ (row.AssertL s t a b c d g h) none = absurd (cc)
assertr_meets ts _ _ _ _ (row.AssertR s t a b c d g h) none = (a, b, c, refl, h)
