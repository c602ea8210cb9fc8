-- Types with equal ids in a table are of one form.
use Rattle.std.proofs.Common.{◌≡◌, ℕ, ◌<◌, Bool, true, false, ◌&&◌, nat_eq, eqb-true, List, length, refl, sym, ap, ◌∙◌, arith}
use Rattle.std.proofs.lemmas.Bool.{eq-eqb}
use Rattle.std.specs.Cmp.{both_ways}
use Rattle.simplicity.specs.Types.{Kind, One, Sum, Product}
use Rattle.type_table.specs.Kinds.{Means, kind_at, IsGrown, IsDistinct}
use Rattle.type_table.proofs.Growth.{grown_length, kind_at-grown}
use Rattle.simplicityhl.specs.Same.{same_kind}

both : (a b : Bool) → a && b ≡ true → (a ≡ true) × (b ≡ true)
both true b h = (refl, h)
both false b h = cc

and_true : (a b : Bool) → a ≡ true → b ≡ true → a && b ≡ true
and_true true b h k = k
and_true false b h k = cc

same_kind-refl : (a : Kind) → same_kind a a ≡ true
same_kind-refl One = refl
same_kind-refl (Sum a b) = and_true (same_kind a a) (same_kind b b) (same_kind-refl a) (same_kind-refl b)
same_kind-refl (Product a b) = and_true (same_kind a a) (same_kind b b) (same_kind-refl a) (same_kind-refl b)

pub same_kind-true : (a b : Kind) → same_kind a b ≡ true → a ≡ b
same_kind-true One One h = refl
same_kind-true One (Sum c d) h = cc
same_kind-true One (Product c d) h = cc
same_kind-true (Sum a b) One h = cc
same_kind-true (Sum a b) (Sum c d) h = let p = both (same_kind a c) (same_kind b d) h in let e = same_kind-true a c p.0 in let f = same_kind-true b d p.1 in cc
same_kind-true (Sum a b) (Product c d) h = cc
same_kind-true (Product a b) One h = cc
same_kind-true (Product a b) (Sum c d) h = cc
same_kind-true (Product a b) (Product c d) h = let p = both (same_kind a c) (same_kind b d) h in let e = same_kind-true a c p.0 in let f = same_kind-true b d p.1 in cc

pub ids_same : (one two : List Kind) (i j : ℕ) (a b : Kind) → IsGrown one two → IsDistinct two → Means one i a → Means two j b → nat_eq i j ≡ same_kind a b
ids_same one two i j a b grown apart first second =
    let here : kind_at two i ≡ a = kind_at-grown one two i grown first.within ∙ first.is in
    let within : i < length two = omega (arith, grown_length one two grown, first.within) in
    both_ways (nat_eq i j) (same_kind a b)
    (λ e. let same = eqb-true i j e in let equal : a ≡ b = sym here ∙ ap (kind_at two) same ∙ second.is in ap (same_kind a) (sym equal) ∙ same_kind-refl a)
    (λ e. eq-eqb i j (apart.same i j within second.within (here ∙ same_kind-true a b e ∙ sym second.is)))
