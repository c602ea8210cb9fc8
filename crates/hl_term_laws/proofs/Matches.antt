-- The sides of a typed match: what their shapes have, and which of the two is on the left.
use Rattle.std.proofs.Common.{◌≡◌, true, false, [], refl, sym, subst}
use Rattle.hl_data.specs.declared.typed.TypedSide.{TypedSide}
use Rattle.hl_data.specs.declared.typed.TypedSide.TheVariants as sides
use Rattle.hl_syntax.specs.declared.kinds.HlType.{HlType}
use Rattle.hl_syntax.specs.declared.kinds.HlType.TheOpen.{HlType-F}
use Rattle.hl_syntax.specs.declared.kinds.HlType.TheVariants as kind
use Rattle.hl_syntax.specs.declared.kinds.HlType.TheViews.{out-HlType}
use Rattle.hl_rules.specs.Places.{Scope}
use Rattle.hl_typing.specs.Typing as rule
use Rattle.hl_typing.specs.Typing.{Sides}
use Rattle.hl_terms.specs.Shapes.{variables_of, witnesses_of}
use Rattle.hl_terms.specs.Translated.{side_shape, is_left}
use Rattle.hl_term_laws.proofs.Bound.{pattern_holds}
use Rattle.hl_term_laws.proofs.Sides.{SidesFit, FitsEither, FitsOption, FitsBool}

-- the one on the left first, or the one on the right
pub data Ordered (x : HlType-F HlType) (one two : TypedSide) : Type 0 where
  left_first : SidesFit x one two → Ordered x one two
  right_first : SidesFit x two one → Ordered x one two

-- what a side binds, and no witness
pub record Binding (side : TypedSide) (names : Scope) : Type 0 where
  pub names_are : variables_of (side_shape side) ≡ names
  pub bare : witnesses_of (side_shape side) ≡ []

pub record Taken (k : HlType) (one : TypedSide) (names : Scope) (two : TypedSide) (more : Scope) : Type 0 where
  pub first : Binding one names
  pub second : Binding two more
  pub ordered : Ordered (out-HlType k) one two

no_names : (side : TypedSide) → variables_of (side_shape side) ≡ [] → witnesses_of (side_shape side) ≡ [] → Binding side []
no_names side e f = record { names_are = e; bare = f }

turn : (x : HlType-F HlType) (one two : TypedSide) → Ordered x one two → Ordered x two one
turn x one two (left_first h) = right_first h
turn x one two (right_first h) = left_first h

pub taken : (k : HlType) (one two : TypedSide) (names more : Scope) → Sides k one names two more → Taken k one names two more
taken _ _ _ _ _ (rule.eithers k l p q names more b c) =
    let h = pattern_holds k p names b.binds in let i = pattern_holds l q more c.binds in
    record {
      first = record { names_are = h.names_are; bare = h.bare };
      second = record { names_are = i.names_are; bare = i.bare };
      ordered = left_first (subst (λ x. SidesFit x (sides.Left p k) (sides.Right q l)) (sym (kind.outs-Either k l)) (FitsEither p q k l h.kind_is i.kind_is));
    }
taken _ _ _ _ _ (rule.options k p names b) =
    let h = pattern_holds k p names b.binds in
    record {
      first = no_names sides.Nothing refl refl;
      second = record { names_are = h.names_are; bare = h.bare };
      ordered = left_first (subst (λ x. SidesFit x sides.Nothing (sides.Some p k)) (sym (kind.outs-Option k)) (FitsOption p k h.kind_is));
    }
taken _ _ _ _ _ rule.bools =
    record { first = no_names sides.False refl refl; second = no_names sides.True refl refl; ordered = left_first (subst (λ x. SidesFit x sides.False sides.True) (sym kind.outs-Bool) FitsBool) }
taken _ _ _ _ _ (rule.turned k one two names more h) =
    let t = taken k one two names more h in record { first = t.second; second = t.first; ordered = turn (out-HlType k) one two t.ordered }

pub left_side : (x : HlType-F HlType) (left right : TypedSide) → SidesFit x left right → (is_left left ≡ true) × (is_left right ≡ false)
left_side _ _ _ (FitsEither p q k l e f) = (refl, refl)
left_side _ _ _ (FitsOption q k f) = (refl, refl)
left_side _ _ _ FitsBool = (refl, refl)
