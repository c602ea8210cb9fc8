-- How the arrows of parts go together where what is made of them is typed.
use Rattle.std.proofs.Common.{◌≡◌, sym, ap, ◌∙◌}
use Rattle.simplicity.specs.Arrows.{source, target, declared_arrow, MeetsRow, IsTypedTerm}
use Rattle.simplicity.specs.Arrows as row
use Rattle.simplicity.specs.Canon.{Declared}
use Rattle.simplicity.specs.Makes.{comp, pair, by_tag}
use Rattle.simplicity.specs.Types.{Kind, Product}
use Rattle.simplicity.specs.Typing.{Arrow}

pub comp_meets : (s t : Declared) → IsTypedTerm (comp s t) → target s ≡ source t
comp_meets s t h = parts h.0
  where
    parts : MeetsRow (comp s t) → target s ≡ source t
    parts (row.Comp _ _ a b c e f) = ap (λ (r : Arrow). r.target) e ∙ sym (ap (λ (r : Arrow). r.source) f)

pub pair_meets : (s t : Declared) → IsTypedTerm (pair s t) → source t ≡ source s
pair_meets s t h = parts h.0
  where
    parts : MeetsRow (pair s t) → source t ≡ source s
    parts (row.Pair _ _ a b c e f) = ap (λ (r : Arrow). r.source) f ∙ sym (ap (λ (r : Arrow). r.source) e)

-- the arms of a tag
pub record ArmsMeet (a b c : Kind) (s t : Declared) : Type 0 where
  pub first : source s ≡ Product a c
  pub second : source t ≡ Product b c
  pub same : target t ≡ target s

pub tag_meets : (a b c : Kind) (s t : Declared) → IsTypedTerm (by_tag a b c s t) → ArmsMeet a b c s t
tag_meets a b c s t h = parts h.0
  where
    parts : MeetsRow (by_tag a b c s t) → ArmsMeet a b c s t
    parts (row.Case _ _ _ _ _ d e f) = record {
      first = ap (λ (r : Arrow). r.source) e;
      second = ap (λ (r : Arrow). r.source) f;
      same = ap (λ (r : Arrow). r.target) f ∙ sym (ap (λ (r : Arrow). r.target) e);
    }
