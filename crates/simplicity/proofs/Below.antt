-- `≤` on types and on typings.
use Rattle.std.proofs.Common.{◌≡◌, refl, ap, ◌∙◌, List, [], ◌∷◌, Option, Some, None}
use Rattle.simplicity.specs.Types.{Kind, One, Sum, Product, IsBelow}
use Rattle.simplicity.specs.Typing.{Typing, Arrow, IsEntryBelow, IsTypingBelow, IsLeast}
use Rattle.simplicity.specs.Nodes.{Node}

pub below_self : (a : Kind) → IsBelow a a
below_self One = tt
below_self (Sum a b) = (below_self a, below_self b)
below_self (Product a b) = (below_self a, below_self b)

pub below_through : (a b c : Kind) → IsBelow a b → IsBelow b c → IsBelow a c
below_through One b c h k = tt
below_through (Sum a b) One c h k = elim h [ ]
below_through (Sum a b) (Product c d) e h k = elim h [ ]
below_through (Sum a b) (Sum c d) One h k = elim k [ ]
below_through (Sum a b) (Sum c d) (Product e f) h k = elim k [ ]
below_through (Sum a b) (Sum c d) (Sum e f) h k = (below_through a c e h.0 k.0, below_through b d f h.1 k.1)
below_through (Product a b) One c h k = elim h [ ]
below_through (Product a b) (Sum c d) e h k = elim h [ ]
below_through (Product a b) (Product c d) One h k = elim k [ ]
below_through (Product a b) (Product c d) (Sum e f) h k = elim k [ ]
below_through (Product a b) (Product c d) (Product e f) h k = (below_through a c e h.0 k.0, below_through b d f h.1 k.1)

pub below_both : (a b : Kind) → IsBelow a b → IsBelow b a → a ≡ b
below_both One One h k = refl
below_both One (Sum c d) h k = elim k [ ]
below_both One (Product c d) h k = elim k [ ]
below_both (Sum a b) One h k = elim h [ ]
below_both (Sum a b) (Product c d) h k = elim h [ ]
below_both (Product a b) One h k = elim h [ ]
below_both (Product a b) (Sum c d) h k = elim h [ ]
below_both (Sum a b) (Sum c d) h k = let e : a ≡ c = below_both a c h.0 k.0 in let f : b ≡ d = below_both b d h.1 k.1 in cc
below_both (Product a b) (Product c d) h k = let e : a ≡ c = below_both a c h.0 k.0 in let f : b ≡ d = below_both b d h.1 k.1 in cc

pub entry_below_self : (e : Option Arrow) → IsEntryBelow e e
entry_below_self None = tt
entry_below_self (Some a) = (below_self a.source, below_self a.target)

pub typing_below_self : (ts : Typing) → IsTypingBelow ts ts
typing_below_self [] = tt
typing_below_self (e ∷ ts) = (entry_below_self e, typing_below_self ts)

-- arrows with equal sides are equal
same_arrows : (a b : Arrow) → a.source ≡ b.source → a.target ≡ b.target → a ≡ b
same_arrows a b e f =
    ap (λ (k : Kind). record { source = k; target = a.target }) e ∙ ap (λ (k : Kind). record { source = b.source; target = k }) f

entry_below_both : (d e : Option Arrow) → IsEntryBelow d e → IsEntryBelow e d → d ≡ e
entry_below_both None None h k = refl
entry_below_both None (Some b) h k = elim h [ ]
entry_below_both (Some a) None h k = elim h [ ]
entry_below_both (Some a) (Some b) h k =
    ap Some (same_arrows a b (below_both a.source b.source h.0 k.0) (below_both a.target b.target h.1 k.1))

pub typing_below_both : (ts us : Typing) → IsTypingBelow ts us → IsTypingBelow us ts → ts ≡ us
typing_below_both [] [] h k = refl
typing_below_both [] (e ∷ us) h k = elim h [ ]
typing_below_both (d ∷ ts) [] h k = elim h [ ]
typing_below_both (d ∷ ts) (e ∷ us) h k =
    let first : d ≡ e = entry_below_both d e h.0 k.0 in
    let rest : ts ≡ us = typing_below_both ts us h.1 k.1 in
    cc

-- a list has one least typing with a root arrow
pub least_one : (ns : List Node) (root : Arrow) (ts us : Typing) → IsLeast ns root ts → IsLeast ns root us → ts ≡ us
least_one ns root ts us h g = typing_below_both ts us (h.least us g.typing) (g.least ts h.typing)
