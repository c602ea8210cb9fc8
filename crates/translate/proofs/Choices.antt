-- Matches: what is known of the value and of each arm, and the term of the whole.
use Rattle.std.proofs.Common.{get_or, ◌≡◌, ℕ, ◌≤◌, ◌<◌, length, Bool, true, false, List, [], ◌∷◌, ◌++◌, map, IsTrue, refl, sym, ap, ◌∙◌, subst, arith, if◌then◌else◌}
use Rattle.hl_constructs.specs.Held.{in_expr, in_arm, form_step, statement_step, arm_step, expr_step}
use Rattle.hl_data.specs.declared.typed.TypedArm.{TypedArm, out-TypedArm}
use Rattle.hl_data.specs.declared.typed.TypedExpr.{TypedExpr}
use Rattle.hl_data.specs.declared.typed.TypedForm.{out-TypedForm}
use Rattle.hl_data.specs.declared.typed.TypedForm.TheFolds.{fold_out-TypedArm}
use Rattle.hl_data.specs.declared.typed.TypedForm.TheVariants as form
use Rattle.hl_data.specs.declared.typed.TypedSide.{TypedSide}
use Rattle.hl_data.specs.declared.typed.TypedSide.TheVariants as sides
use Rattle.hl_expansions.specs.Expansions.{expansions}
use Rattle.hl_rules.specs.Places.{Scope}
use Rattle.hl_syntax.specs.declared.kinds.HlType.{HlType}
use Rattle.hl_syntax.specs.declared.kinds.HlType.TheFolds.{fold-roll-HlType}
use Rattle.hl_syntax.specs.declared.kinds.HlType.TheOpen.{HlType-F}
use Rattle.hl_syntax.specs.declared.kinds.HlType.TheVariants as kind
use Rattle.hl_syntax.specs.declared.tree.Pattern.{Pattern}
use Rattle.hl_syntax.specs.declared.tree.PatternForm.TheOpen.{PatternForm-F}
use Rattle.hl_syntax.specs.declared.tree.PatternForm.TheVariants as patterns
use Rattle.hl_term_laws.proofs.Bound.{pattern_holds}
use Rattle.hl_terms.proofs.Forms as forms
use Rattle.hl_terms.specs.Shapes.{Shape, Ignored, Both, kind_of, pattern_shape}
use Rattle.hl_terms.specs.Translated.{ArmTranslator, is_left, side_shape, sides_term, match_term, translated, arm_translated}
use Rattle.hl_typing.specs.Patterns.{PatternAt, Binds, BindsOnce}
use Rattle.hl_typing.specs.Patterns as pattern_rule
use Rattle.hl_typing.specs.Typing.{Typed, ExprAt, Sides}
use Rattle.hl_typing.specs.Typing as rule
use Rattle.layout_laws.proofs.Shapes.{form_shape, shape_as, shape_is}
use Rattle.layout_laws.specs.Scopes.{scope_shape}
use Rattle.scope_layout.specs.Layers.{Scopes, Names, inside}
use Rattle.simplicity.specs.Arrows.{IsTypedTerm}
use Rattle.simplicity.specs.Canon.{Declared}
use Rattle.simplicity.specs.Types.{Kind, One, Product}
use Rattle.simplicityhl.specs.Kinds.{form, is_sound, sound_step, IsSound}
use Rattle.simplicityhl.specs.Kinds as kinds
use Rattle.term_builder.specs.State.{State}
use Rattle.term_builder.specs.Steps.{with_term, MayMake, match_last, entered}
use Rattle.term_recipes.specs.Shapes.{matched}
use Rattle.translate.proofs.Going.{fits_of, stands_inside, sound_either, sound_option}
use Rattle.translate.proofs.Parts.{Seen, seen}
use Rattle.translate.proofs.Terms.{typed_here}
use Rattle.translate.specs.Blocks.{arm_pattern, arm_kind, arm_layout, ArmFits, arm_in, choose_last}
use Rattle.translate.specs.Fits.{Known, Stands, Fits}
use Rattle.translate.specs.Here.{around_of, terms_of, witnesses_in, IsReady, term_in}
use Rattle.translate.specs.Parts.{Arms, PartsOf}
use Rattle.translate.specs.declared.place.Place.{Place}

-- What a side binds, by what is known of the place.

pub record Bound (p : Place) (side : TypedSide) (names : Scope) : Type 0 where
  pub binds : Binds (PatternAt (arm_kind p side) (arm_pattern p side).form) names
  pub sound : IsSound (arm_kind p side)
  pub shape : pattern_shape (arm_pattern p side) (arm_kind p side) ≡ side_shape side

module _ (p : Place) (known : Known p) where
  unit_sound : IsSound p.unit.now
  unit_sound = subst IsSound (sym known.empty) (subst IsTrue (sym (ap is_sound (sym (kind.rolls-Tuple [])) ∙ fold-roll-HlType Bool sound_step (HlType-F.Tuple []))) refl)

  nothing_binds : Binds (PatternAt p.unit.now p.nothing.now.form) []
  nothing_binds = subst (λ f. Binds (PatternAt p.unit.now f) []) (sym known.ignores) (pattern_rule.ignored p.unit.now)

  ignored : pattern_shape p.nothing.now p.unit.now ≡ Ignored One
  ignored =
      shape_is p.nothing.now p.unit.now ∙ ap (λ f. form_shape f p.unit.now) known.ignores
      ∙ shape_as PatternForm-F.Ignore patterns.Ignore patterns.rolls-Ignore p.unit.now
      ∙ ap (λ k. Ignored (form k)) known.empty ∙ ap Ignored (ap form (sym (kind.rolls-Tuple [])) ∙ fold-roll-HlType Kind kinds.form_step (HlType-F.Tuple []))

  bound_sides : (k : HlType) (one two : TypedSide) (first second : Scope) → IsSound k → Sides k one first two second → Bound p one first × Bound p two second
  bound_sides _ _ _ _ _ s (rule.eithers k l q r names more b c) =
      let both = sound_either k l s in
      (record { binds = b.binds; sound = both.0; shape = refl }, record { binds = c.binds; sound = both.1; shape = refl })
  bound_sides _ _ _ _ _ s (rule.options k q names b) =
      (record { binds = nothing_binds; sound = unit_sound; shape = ignored }, record { binds = b.binds; sound = sound_option k s; shape = refl })
  bound_sides _ _ _ _ _ s rule.bools = (record { binds = nothing_binds; sound = unit_sound; shape = ignored }, record { binds = nothing_binds; sound = unit_sound; shape = ignored })
  bound_sides k one two first second s (rule.turned _ _ _ _ _ h) = let t = bound_sides k two one second first s h in (t.1, t.0)

module _ (p : Place) (scopes : Scopes) (e part : TypedExpr) (arms : List TypedArm) (f : Fits p scopes e) (is : e.form ≡ form.Match part arms) where
  parts : Arms (around_of p) f.names e.kind part arms
  parts = subst (PartsOf (around_of p) f.names e.kind) (ap out-TypedForm is ∙ form.outs-Match part arms) (seen (around_of p) f.names e.kind e f.typed f.built).parts

  pub choice_part_fits : Fits p scopes part
  choice_part_fits = fits_of p scopes f.names f.stands parts.taken part parts.value parts.built

  taken_sound : IsSound parts.taken
  taken_sound = (seen (around_of p) f.names parts.taken part parts.value parts.built).sound

  bounds : Bound p parts.one.side parts.first × Bound p parts.two.side parts.second
  bounds = bound_sides p f.stands.known parts.taken parts.one.side parts.two.side parts.first parts.second taken_sound parts.sides

  by_body : (a : TypedArm) → in_arm a ≡ false → in_expr a.body ≡ false
  by_body a h = sym (fold_out-TypedArm Bool Bool Bool Bool form_step statement_step arm_step expr_step a) ∙ h

  arm_fits : (a : TypedArm) (names : Scope) → Bound p a.side names → Typed (around_of p) (ExprAt (names ++ f.names) e.kind a.body) → in_arm a ≡ false → ArmFits p scopes a
  arm_fits a names b h built = record {
    sound = b.sound;
    kind_is = (pattern_holds (arm_kind p a.side) (arm_pattern p a.side) names b.binds).kind_is;
    body = fits_of p (arm_layout p a.side scopes) (names ++ f.names) (stands_inside p scopes f.names f.stands (arm_pattern p a.side) (arm_kind p a.side) names b.binds) e.kind a.body h (by_body a built);
  }

  pub arms_length : length arms ≡ 2
  arms_length = ap length parts.are

  module _ (one two : TypedArm) (are : arms ≡ one ∷ two ∷ []) where
    first_is : parts.one ≡ one
    first_is = let same : parts.one ∷ parts.two ∷ [] ≡ one ∷ two ∷ [] = sym parts.are ∙ are in cc

    second_is : parts.two ≡ two
    second_is = let same : parts.one ∷ parts.two ∷ [] ≡ one ∷ two ∷ [] = sym parts.are ∙ are in cc

    pub choice_one_fits : ArmFits p scopes one
    choice_one_fits = subst (ArmFits p scopes) first_is (arm_fits parts.one parts.first bounds.0 parts.one_typed parts.one_built)

    pub choice_two_fits : ArmFits p scopes two
    choice_two_fits = subst (ArmFits p scopes) second_is (arm_fits parts.two parts.second bounds.1 parts.two_typed parts.two_built)

    one_bound : Bound p one.side parts.first
    one_bound = subst (λ (a : TypedArm). Bound p a.side parts.first) first_is bounds.0

    two_bound : Bound p two.side parts.second
    two_bound = subst (λ (a : TypedArm). Bound p a.side parts.second) second_is bounds.1

    abbrev scope : Shape
    scope = scope_shape scopes

    abbrev opened : TypedArm → ArmTranslator
    opened a = record { side = a.side; body = translated expansions (terms_of p) (witnesses_in p) a.body }

    -- the term, by the side of the arm that stands first
    term_is : term_in p scope e ≡ match_term (term_in p scope part) (opened one ∷ opened two ∷ []) e.kind scope
    term_is =
        forms.term-Match expansions (terms_of p) (witnesses_in p) e e.kind refl part arms is scope
        ∙ ap (λ l. match_term (term_in p scope part) (map (arm_translated expansions (terms_of p) (witnesses_in p)) l) e.kind scope) are
        ∙ ap (λ a. match_term (term_in p scope part) (a ∷ arm_translated expansions (terms_of p) (witnesses_in p) two ∷ []) e.kind scope) (forms.term-arm expansions (terms_of p) (witnesses_in p) one)
        ∙ ap (λ a. match_term (term_in p scope part) (opened one ∷ a ∷ []) e.kind scope) (forms.term-arm expansions (terms_of p) (witnesses_in p) two)

    sides_are : (left right : TypedArm) (ns ms : Scope) → Bound p left.side ns → Bound p right.side ms → (a : Kind) → a ≡ kind_of scope →
        matched (term_in p scope part) (form (arm_kind p left.side)) (form (arm_kind p right.side)) a (arm_in p scopes left) (arm_in p scopes right) ≡ sides_term (term_in p scope part) (opened left) (opened right) scope
    sides_are left right ns ms b c a here =
        let l : form (arm_kind p left.side) ≡ kind_of (side_shape left.side) = sym (pattern_holds (arm_kind p left.side) (arm_pattern p left.side) ns b.binds).kind_is ∙ ap kind_of b.shape in
        let r : form (arm_kind p right.side) ≡ kind_of (side_shape right.side) = sym (pattern_holds (arm_kind p right.side) (arm_pattern p right.side) ms c.binds).kind_is ∙ ap kind_of c.shape in
        let m : arm_in p scopes left ≡ term_in p (Both (side_shape left.side) scope) left.body = ap (λ s. term_in p (Both s scope) left.body) b.shape in
        let n : arm_in p scopes right ≡ term_in p (Both (side_shape right.side) scope) right.body = ap (λ s. term_in p (Both s scope) right.body) c.shape in
        ap (λ k. matched (term_in p scope part) k (form (arm_kind p right.side)) a (arm_in p scopes left) (arm_in p scopes right)) l
        ∙ ap (λ k. matched (term_in p scope part) (kind_of (side_shape left.side)) k a (arm_in p scopes left) (arm_in p scopes right)) r
        ∙ ap (λ k. matched (term_in p scope part) (kind_of (side_shape left.side)) (kind_of (side_shape right.side)) k (arm_in p scopes left) (arm_in p scopes right)) here
        ∙ ap (λ t. matched (term_in p scope part) (kind_of (side_shape left.side)) (kind_of (side_shape right.side)) (kind_of scope) t (arm_in p scopes right)) m
        ∙ ap (λ t. matched (term_in p scope part) (kind_of (side_shape left.side)) (kind_of (side_shape right.side)) (kind_of scope) (term_in p (Both (side_shape left.side) scope) left.body) t) n

    module _ (s new : State) (r : IsReady p scopes s) (made : new ≡ with_term (term_in p scope part) s) where
      by_side : (b : Bool) → is_left one.side ≡ b → (left right : TypedArm) (ns ms : Scope) → Bound p left.side ns → Bound p right.side ms →
          sides_term (term_in p scope part) (opened left) (opened right) scope ≡ (if b then sides_term (term_in p scope part) (opened one) (opened two) scope else sides_term (term_in p scope part) (opened two) (opened one) scope) →
          choose_last p scopes left right new ≡ with_term (term_in p scope e) s
      by_side b side left right ns ms h i same =
          ap (choose_last p scopes left right) made
          ∙ ap (λ t. with_term t s) (sides_are left right ns ms h i s.here r.here ∙ same
          ∙ ap (λ x. if x then sides_term (term_in p scope part) (opened one) (opened two) scope else sides_term (term_in p scope part) (opened two) (opened one) scope) (sym side)
          ∙ sym term_is)

      pub chosen_left : is_left one.side ≡ true → choose_last p scopes one two new ≡ with_term (term_in p scope e) s
      chosen_left side = by_side true side one two parts.first parts.second one_bound two_bound refl

      pub chosen_right : is_left one.side ≡ false → choose_last p scopes two one new ≡ with_term (term_in p scope e) s
      chosen_right side = by_side false side two one parts.second parts.first two_bound one_bound refl

      pub may_choose : (left right : TypedArm) → choose_last p scopes left right new ≡ with_term (term_in p scope e) s → MayMake 1 new (choose_last p scopes left right new)
      may_choose left right same = subst (MayMake 1 new) (sym same) (record { enough = subst (λ x. 1 ≤ length x.made) (sym made) (omega arith); typed = typed_here p scopes e f })

      pub still_ready : IsReady p scopes new
      still_ready = subst (IsReady p scopes) (sym made) (record { here = r.here; kept = r.kept })

-- two items of a list of two
pub two_are : (xs arms : List TypedArm) → xs ≡ arms → (one two : TypedArm) → 2 ≤ length xs → length xs < 3 → one ≡ get_or xs 0 one → two ≡ get_or xs 1 two → arms ≡ one ∷ two ∷ []
two_are [] arms same one two far near a b = absurd (omega (arith, far))
two_are (x ∷ []) arms same one two far near a b = absurd (omega (arith, far))
two_are (x ∷ y ∷ []) arms same one two far near a b = sym same ∙ ap (λ h. h ∷ y ∷ []) (sym a) ∙ ap (λ h. one ∷ h ∷ []) (sym b)
two_are (x ∷ y ∷ z ∷ more) arms same one two far near a b = absurd (omega (arith, near))

-- What an arm's body needs, as the search for a proof takes it.
module _ (p : Place) (scopes inner : Scopes) (one : TypedArm) (pattern : Pattern) (k : HlType) (f : ArmFits p scopes one) (at : inner ≡ inside (Names pattern k) scopes) (is : pattern ≡ arm_pattern p one.side) (same : k ≡ arm_kind p one.side) where
  inner_is : inner ≡ arm_layout p one.side scopes
  inner_is = at ∙ ap (λ q. inside (Names q k) scopes) is ∙ ap (λ l. inside (Names (arm_pattern p one.side) l) scopes) same

  pub arm_body_fits : Fits p inner one.body
  arm_body_fits = subst (λ s. Fits p s one.body) (sym inner_is) f.body

  pub arm_body_ready : (s new : State) → IsReady p scopes s → new ≡ entered (form k) s → IsReady p inner new
  arm_body_ready s new r entered_is =
      subst (λ x. IsReady p inner x) (sym entered_is)
      (record {
        here = ap (Product (form k)) r.here ∙ ap (λ l. Product (form l) (kind_of (scope_shape scopes))) same ∙ ap (λ l. Product l (kind_of (scope_shape scopes))) (sym f.kind_is) ∙ ap (λ t. kind_of (scope_shape t)) (sym inner_is);
        kept = r.kept;
      })
