-- Functions that calls and loops name, and the shapes of those of loops.
use Rattle.std.proofs.Common.{◌≡◌, ℕ, Bool, true, false, not, ◌&&◌, nat_lt, List, [], ◌∷◌, find, cond, map, bytes_eq, Option, Some, None, refl, sym, ap, ◌∙◌, subst}
use Rattle.std.specs.Prelude.{if◌then◌else◌}
use Rattle.std.proofs.lemmas.Slice.Eq.{bytes_eq-Decides}
use Rattle.hl_data.specs.declared.typed.TypedFunction.{TypedFunction}
use Rattle.hl_syntax.specs.declared.kinds.HlType.{HlType}
use Rattle.hl_syntax.specs.declared.kinds.HlType.TheVariants as kind
use Rattle.hl_syntax.specs.declared.kinds.TypedName.{TypedName}
use Rattle.simplicityhl.specs.Kinds.{IsSound}
use Rattle.hl_rules.specs.Exprs.{fold_shape, while_shape, is_counter, goes_on}
use Rattle.hl_rules.specs.Places.{is_main, function_named}
use Rattle.hl_rules.specs.Same.{same_type, width_of, either_of}
use Rattle.hl_typing.proofs.Every.{Every}
use Rattle.hl_typing.proofs.Claims.{AreSound}
use Rattle.hl_typing.proofs.Same.{both_true, same_equal}
use Rattle.hl_typing.proofs.Shapes.{is_either, is_word}

apart : (b : Bool) → b ≡ true → b ≡ false → ⊥
apart true h k = absurd (cc)
apart false h k = absurd (cc)

-- the function that a call names is the first of the name, and not `main`
pub named_found : (fs : List TypedFunction) (name : List ℕ) (f : TypedFunction) → function_named fs name ≡ Some f → (find (λ g. bytes_eq name g.name) fs ≡ Some f) × (is_main name ≡ false)
named_found [] name f is = absurd (cc)
named_found (x ∷ fs) name f is = elim (bytes_eq name x.name) as
    (λ b. bytes_eq name x.name ≡ b → cond (b && not (is_main x.name)) (Some x) (function_named fs name) ≡ Some f → (cond b (Some x) (find (λ g. bytes_eq name g.name) fs) ≡ Some f) × (is_main name ≡ false)) [
      | true ↦ λ here.
          let same : name ≡ x.name = (bytes_eq-Decides name x.name).0 here in
          elim (is_main x.name) as (λ m. is_main x.name ≡ m → cond (not m) (Some x) (function_named fs name) ≡ Some f → (Some x ≡ Some f) × (is_main name ≡ false)) [
            | true ↦ λ main found. absurd (apart (is_main name) (ap is_main same ∙ main) (named_found fs name f found).1)
            | false ↦ λ other found. (found, ap is_main same ∙ other)
          ] refl
      | false ↦ λ past found. named_found fs name f found
    ] refl is

pub kinds_sound : (params : List TypedName) → AreSound params → Every IsSound (map (λ (p : TypedName). p.kind) params)
kinds_sound [] h = tt
kinds_sound (p ∷ params) h = (h.0, kinds_sound params h.1)

pub record FoldShape (kinds : List HlType) (result : HlType) (shape : HlType × HlType) : Type 0 where
  pub are : kinds ≡ shape.0 ∷ shape.1 ∷ []
  pub gives : shape.1 ≡ result

pub fold_shape_is : (kinds : List HlType) (result : HlType) (shape : HlType × HlType) → fold_shape kinds result ≡ Some shape → FoldShape kinds result shape
fold_shape_is (item ∷ total ∷ []) result shape is = elim (same_type total result) as (λ t. same_type total result ≡ t → (if t then Some (item, total) else None) ≡ Some shape → FoldShape (item ∷ total ∷ []) result shape) [
  | true ↦ λ same found. let e : ◌≡◌ {A = HlType × HlType} (item, total) shape = cc in subst (FoldShape (item ∷ total ∷ []) result) e (record { are = refl; gives = same_equal total result same })
  | false ↦ λ other found. absurd (cc)
] refl is
fold_shape_is [] result shape is = absurd (cc)
fold_shape_is (a ∷ []) result shape is = absurd (cc)
fold_shape_is (a ∷ b ∷ c ∷ ds) result shape is = absurd (cc)

pub record WhileShape (kinds : List HlType) (result : HlType) (shape : HlType × HlType) : Type 0 where
  pub end : HlType
  pub width : ℕ
  pub are : kinds ≡ shape.0 ∷ shape.1 ∷ kind.UInt width ∷ []
  pub few : nat_lt width 17 ≡ true
  pub ends : result ≡ kind.Either end shape.0

counter_is : (o : Option ℕ) → is_counter o ≡ true → (width : ℕ) × (o ≡ Some width) × (nat_lt width 17 ≡ true)
counter_is (Some width) h = (width, refl, h)
counter_is None h = absurd (cc)

goes_is : (total : HlType) (o : Option (HlType × HlType)) → goes_on total o ≡ true → (end : HlType) × (o ≡ Some (end, total))
goes_is total (Some sides) h = (sides.0, ap (λ (k : HlType). let pair : HlType × HlType = (sides.0, k) in Some pair) (sym (same_equal total sides.1 h)))
goes_is total None h = absurd (cc)

pub while_shape_is : (kinds : List HlType) (result : HlType) (shape : HlType × HlType) → while_shape kinds result ≡ Some shape → WhileShape kinds result shape
while_shape_is (total ∷ context ∷ counter ∷ []) result shape is =
    elim (is_counter (width_of counter) && goes_on total (either_of result)) as
    (λ t. is_counter (width_of counter) && goes_on total (either_of result) ≡ t → (if t then Some (total, context) else None) ≡ Some shape → WhileShape (total ∷ context ∷ counter ∷ []) result shape) [
      | true ↦ λ holds found.
          let e : ◌≡◌ {A = HlType × HlType} (total, context) shape = cc in
          let both = both_true (is_counter (width_of counter)) (goes_on total (either_of result)) holds in
          let c = counter_is (width_of counter) both.0 in
          let g = goes_is total (either_of result) both.1 in
          subst (WhileShape (total ∷ context ∷ counter ∷ []) result) e
          (record { end = g.0; width = c.0; are = ap (λ (k : HlType). total ∷ context ∷ k ∷ []) (sym (is_word counter c.0 c.1)); few = c.2; ends = sym (is_either result (g.0, total) g.1) })
      | false ↦ λ other found. absurd (cc)
    ] refl is
while_shape_is [] result shape is = absurd (cc)
while_shape_is (a ∷ []) result shape is = absurd (cc)
while_shape_is (a ∷ b ∷ []) result shape is = absurd (cc)
while_shape_is (a ∷ b ∷ c ∷ d ∷ es) result shape is = absurd (cc)
