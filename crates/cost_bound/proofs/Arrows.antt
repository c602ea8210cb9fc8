-- The arrow at a place of a typing by ids, and the sizes of its types.
use Rattle.std.proofs.Common.{◌≡◌, ℕ, zero, suc, ◌<◌, List, [], ◌∷◌, length, map, Option, Some, None, refl, sym, ap, ◌∙◌, subst}
use Rattle.std.specs.Prelude.{slice_get, option_map}
use Rattle.simplicity.specs.Types.{Kind, size}
use Rattle.simplicity.specs.Limits.{capped, most_weight}
use Rattle.simplicity.specs.Typing.{arrow_of, target_of, target_at, IsLight, IsEntryLight}
use Rattle.type_table.specs.Kinds.{kind_at}
use Rattle.infer_cells.specs.declared.typing.NodeArrow.{NodeArrow}
use Rattle.infer_cells.specs.Typings.{arrow_in, typing_in, IsBelowBound, AreBelowBound}
use Rattle.cost_bound.specs.Numbers.{flattened}
use Rattle.cost_bound.proofs.Sizes.{size_exact}

pub get_map : {A B : Type 0} (f : A → B) (xs : List A) (i : ℕ) → slice_get (map f xs) i ≡ option_map f (slice_get xs i)
get_map f [] i = refl
get_map f (x ∷ xs) zero = refl
get_map f (x ∷ xs) (suc i) = get_map f xs i

pub bound_there : (n : ℕ) (t : List (Option NodeArrow)) (i : ℕ) (e : Option NodeArrow) → AreBelowBound n t → slice_get t i ≡ Some e → IsBelowBound n e
bound_there n [] i e h is = absurd (cc)
bound_there n (b ∷ t) zero e h is = let same : b ≡ e = cc in subst (λ (x : Option NodeArrow). IsBelowBound n x) same h.0
bound_there n (b ∷ t) (suc i) e h is = bound_there n t i e h.1 is

pub light_there : (kinds : List Kind) (t : List (Option NodeArrow)) (i : ℕ) (e : Option NodeArrow) → IsLight most_weight (typing_in kinds t) → slice_get t i ≡ Some e →
    IsEntryLight most_weight (arrow_in kinds e)
light_there kinds [] i e h is = absurd (cc)
light_there kinds (b ∷ t) zero e h is = let same : b ≡ e = cc in subst (λ (x : Option NodeArrow). IsEntryLight most_weight (arrow_in kinds x)) same h.0
light_there kinds (b ∷ t) (suc i) e h is = light_there kinds t i e h.1 is

unflattened : (o : Option (Option NodeArrow)) (a : NodeArrow) → flattened o ≡ Some a → o ≡ Some (Some a)
unflattened None a is = absurd (cc)
unflattened (Some None) a is = absurd (cc)
unflattened (Some (Some b)) a is = cc

-- an arrow that was found at a place
pub record Found (kinds : List Kind) (t : List (Option NodeArrow)) (i : ℕ) (a : NodeArrow) : Type 0 where
  pub within : (a.source < length kinds) × (a.target < length kinds)
  pub source : (n : ℕ) → n ≡ capped (size (kind_at kinds a.source)) → n ≡ size (arrow_of (slice_get (typing_in kinds t) i)).source
  pub target : (n : ℕ) → n ≡ capped (size (kind_at kinds a.target)) → n ≡ size (arrow_of (slice_get (typing_in kinds t) i)).target
  pub between : (n : ℕ) → n ≡ capped (size (kind_at kinds a.target)) → n ≡ size (target_at (typing_in kinds t) i)

pub found : (kinds : List Kind) (t : List (Option NodeArrow)) (i : ℕ) (o : Option NodeArrow) (a : NodeArrow) → AreBelowBound (length kinds) t →
    IsLight most_weight (typing_in kinds t) → o ≡ flattened (slice_get t i) → o ≡ Some a → Found kinds t i a
found kinds t i o a below light gives is =
    let there : slice_get t i ≡ Some (Some a) = unflattened (slice_get t i) a (sym gives ∙ is) in
    let bound = bound_there (length kinds) t i (Some a) below there in
    let weighs = light_there kinds t i (Some a) light there in
    let at : slice_get (typing_in kinds t) i ≡ Some (arrow_in kinds (Some a)) = get_map (arrow_in kinds) t i ∙ ap (option_map (arrow_in kinds)) there in
    record {
      within = bound;
      source = λ n e. size_exact (kind_at kinds a.source) n e weighs.0 ∙ sym (ap (λ x. size (arrow_of x).source) at);
      target = λ n e. size_exact (kind_at kinds a.target) n e weighs.1 ∙ sym (ap (λ x. size (arrow_of x).target) at);
      between = λ n e. size_exact (kind_at kinds a.target) n e weighs.1 ∙ sym (ap (λ x. size (target_of x)) at);
    }

-- where there is none
no_arrow : (kinds : List Kind) (o : Option (Option NodeArrow)) → None ≡ flattened o →
    (0 ≡ size (arrow_of (option_map (arrow_in kinds) o)).source) × (0 ≡ size (arrow_of (option_map (arrow_in kinds) o)).target) × (0 ≡ size (target_of (option_map (arrow_in kinds) o)))
no_arrow kinds None is = (refl, refl, refl)
no_arrow kinds (Some None) is = (refl, refl, refl)
no_arrow kinds (Some (Some a)) is = absurd (cc)

pub none_found : (kinds : List Kind) (t : List (Option NodeArrow)) (i : ℕ) (o : Option NodeArrow) → o ≡ flattened (slice_get t i) → o ≡ None →
    (0 ≡ size (arrow_of (slice_get (typing_in kinds t) i)).source) × (0 ≡ size (arrow_of (slice_get (typing_in kinds t) i)).target) × (0 ≡ size (target_at (typing_in kinds t) i))
none_found kinds t i o gives is =
    let n = no_arrow kinds (slice_get t i) (sym is ∙ gives) in
    let at : slice_get (typing_in kinds t) i ≡ option_map (arrow_in kinds) (slice_get t i) = get_map (arrow_in kinds) t i in
    (n.0 ∙ sym (ap (λ x. size (arrow_of x).source) at), n.1 ∙ sym (ap (λ x. size (arrow_of x).target) at), n.2 ∙ sym (ap (λ x. size (target_of x)) at))
