-- From statement to statement, and into arms: what is known of the parts of a block and of a match where they are translated.
use Rattle.std.proofs.Common.{◌≡◌, ℕ, zero, suc, ◌≤◌, ◌<◌, length, false, true, ◌||◌, ◌&&◌, Bool, List, [], ◌∷◌, ◌++◌, map, take, drop, Option, Some, None, option_map, IsTrue, refl, sym, ap, ◌∙◌, subst, arith}
use Rattle.hl_constructs.specs.Held.{any_of, last_of, form_step, statement_step, arm_step, expr_step, in_expr, in_form, in_statement, in_arm}
use Rattle.hl_data.specs.declared.typed.TypedArm.{TypedArm}
use Rattle.hl_data.specs.declared.typed.TypedExpr.{TypedExpr}
use Rattle.hl_data.specs.declared.typed.TypedForm.{TypedForm}
use Rattle.hl_data.specs.declared.typed.TypedForm.TheFolds.{fold_out-TypedStatement, fold_out-TypedArm, map-TypedStatement}
use Rattle.hl_data.specs.declared.typed.TypedForm.TheOpen.{TypedStatement-F}
use Rattle.hl_data.specs.declared.typed.TypedSide.{TypedSide}
use Rattle.hl_data.specs.declared.typed.TypedSide.TheVariants as sides
use Rattle.hl_data.specs.declared.typed.TypedStatement.{TypedStatement, out-TypedStatement}
use Rattle.hl_data.specs.declared.typed.TypedStatement.TheVariants as statements
use Rattle.hl_rules.specs.Places.{Scope}
use Rattle.hl_rules.specs.Same.{unit_type}
use Rattle.hl_syntax.specs.declared.kinds.HlType.{HlType}
use Rattle.hl_syntax.specs.declared.kinds.HlType.TheFolds.{fold-roll-HlType}
use Rattle.hl_syntax.specs.declared.kinds.HlType.TheOpen.{HlType-F}
use Rattle.hl_syntax.specs.declared.kinds.HlType.TheVariants as kind
use Rattle.hl_syntax.specs.declared.kinds.TypedName.{TypedName}
use Rattle.hl_syntax.specs.declared.tree.Pattern.{Pattern}
use Rattle.hl_syntax.specs.declared.tree.PatternForm.TheVariants as patterns
use Rattle.hl_term_laws.proofs.Bound.{pattern_holds}
use Rattle.hl_term_laws.specs.Laws.{BindsWitnesses, binds_all, binds_none}
use Rattle.hl_terms.specs.Programs.{program_terms}
use Rattle.hl_terms.specs.Shapes.{Shape, Both, kind_of, witnesses_of, pattern_shape}
use Rattle.hl_typing.specs.Patterns.{PatternAt, Binds, BindsOnce}
use Rattle.hl_typing.specs.Patterns as pattern_rule
use Rattle.hl_typing.specs.Typing.{Around, Judged, FormAt, ExprAt, ExprsAt, BlockAt, Typed, Sides}
use Rattle.hl_typing.specs.Typing as rule
use Rattle.layout_laws.specs.Scopes.{scope_shape}
use Rattle.scope_layout.specs.Layers.{Scopes, Names, inside}
use Rattle.scope_layout.specs.Leads.{LayerHas, Has}
use Rattle.scope_layout.specs.Leads as leads
use Rattle.simplicity.specs.Types.{Product}
use Rattle.simplicityhl.specs.Kinds.{form, is_sound, sound_step, IsSound}
use Rattle.term_builder.specs.State.{State}
use Rattle.term_builder.specs.Steps.{with_term, entered}
use Rattle.translate.proofs.Parts.{expr_by_form, neither, Seen, seen}
use Rattle.translate.specs.Blocks.{Line, Spot, advance, advance_all, LineFits, arm_pattern, arm_kind, arm_layout, ArmFits}
use Rattle.translate.specs.Fits.{Known, Stands, FitsAt, Fits}
use Rattle.translate.specs.Here.{around_of, name_of, witnesses_in, IsReady, term_in}
use Rattle.translate.specs.declared.place.Place.{Place}

-- Soundness.

both_true : (a b : Bool) → IsTrue (a && b) → IsTrue a × IsTrue b
both_true true b h = (refl, h)
both_true false b h = cc

pub sound_either : (l r : HlType) → IsSound (kind.Either l r) → IsSound l × IsSound r
sound_either l r h = both_true (is_sound l) (is_sound r) (subst IsTrue (ap is_sound (sym (kind.rolls-Either l r)) ∙ fold-roll-HlType Bool sound_step (HlType-F.Either l r)) h)

pub sound_option : (item : HlType) → IsSound (kind.Option item) → IsSound item
sound_option item h = subst IsTrue (ap is_sound (sym (kind.rolls-Option item)) ∙ fold-roll-HlType Bool sound_step (HlType-F.Option item)) h

pub sound_list : (item : HlType) (bound : ℕ) → IsSound (kind.List item bound) → IsSound item
sound_list item bound h = (both_true (is_sound item) _ (subst IsTrue (ap is_sound (sym (kind.rolls-List item bound)) ∙ fold-roll-HlType Bool sound_step (HlType-F.List item bound)) h)).0

-- An expression of a type fits; and it is of the type that it is marked with.

module _ (p : Place) (scopes : Scopes) (names : Scope) (stands : Stands p scopes names) where
  pub fits_of : (k : HlType) (e : TypedExpr) → Typed (around_of p) (ExprAt names k e) → in_expr e ≡ false → Fits p scopes e
  fits_of k e h b =
      let same = (seen (around_of p) names k e h b).same in
      record { names = names; stands = stands; typed = subst (λ l. Typed (around_of p) (ExprAt names l e)) (sym same) h; built = b }

  binds_inside : (q : Pattern) (k : HlType) (bound : Scope) → Binds (PatternAt k q.form) bound → (ws : List TypedName) → BindsWitnesses ws (scope_shape scopes) →
      BindsWitnesses ws (Both (pattern_shape q k) (scope_shape scopes))
  binds_inside q k bound h _ (binds_all all) = binds_all (ap (λ l. l ++ witnesses_of (scope_shape scopes)) (pattern_holds k q bound h).bare ∙ all)
  binds_inside q k bound h ws (binds_none none) = binds_none (ap (λ l. l ++ witnesses_of (scope_shape scopes)) (pattern_holds k q bound h).bare ∙ none)

  -- inside the names of a pattern
  pub stands_inside : (q : Pattern) (k : HlType) (bound : Scope) → Binds (PatternAt k q.form) bound → Stands p (inside (Names q k) scopes) (bound ++ names)
  stands_inside q k bound h = record {
    known = stands.known;
    variables = leads.Has.inside (Names q k) scopes.bound bound names (leads.LayerHas.variables q k bound h) stands.variables;
    bound = stands.bound;
    witnesses = leads.Has.inside (Names q k) scopes.bound [] stands.bound (leads.LayerHas.no_witnesses q k) stands.witnesses;
    binds = binds_inside q k bound h _ stands.binds;
  }

-- a builder in the scope enters the one inside
pub ready_inside : (p : Place) (scopes : Scopes) (s : State) (q : Pattern) (k : HlType) (bound : Scope) → Binds (PatternAt k q.form) bound → IsReady p scopes s → IsReady p (inside (Names q k) scopes) (entered (form k) s)
ready_inside p scopes s q k bound h r = record {
  here = ap (λ l. Product l s.here) (sym (pattern_holds k q bound h).kind_is) ∙ ap (Product (kind_of (pattern_shape q k))) r.here;
  kept = r.kept;
}

-- Statements.

module _ (around : Around) where
  abbrev FirstOf : Scope → HlType → Line → List TypedStatement → Option TypedExpr → Type 0
  FirstOf names k (TypedStatement-F.Let q l e) ss last =
      Typed around (ExprAt names l e) × ((bound : Scope) × (Binds (PatternAt l q.form) bound × Typed around (BlockAt (bound ++ names) k ss last)))
  FirstOf names k (TypedStatement-F.Plain e) ss last = Typed around (ExprAt names unit_type e) × Typed around (BlockAt names k ss last)

  abbrev Claim : Judged → Type 0
  Claim (BlockAt names k (s ∷ ss) last) = FirstOf names k (out-TypedStatement s) ss last
  Claim (BlockAt names k [] (Some e)) = Typed around (ExprAt names k e)
  Claim _ = Unit {0}

  first_line : (j : Judged) → Typed around j → Claim j
  first_line _ (rule.binding names k l q bound e ss last b h i) =
      subst (λ x. FirstOf names k x ss last) (sym (statements.outs-Let q l e)) (h, (bound, (b.binds, i)))
  first_line _ (rule.plain names k e ss last h i) = subst (λ x. FirstOf names k x ss last) (sym (statements.outs-Plain e)) (h, i)
  first_line _ (rule.last names k e h) = h
  first_line _ (rule.no_last names) = tt
  first_line (FormAt names k f) h = tt
  first_line (ExprAt names k e) h = tt
  first_line (ExprsAt names ks es) h = tt

-- what is left of a block from a statement on, and a builder there
pub record Rest (p : Place) (spot : Spot) (ss : List TypedStatement) (last : Option TypedExpr) : Type 0 where
  pub names : Scope
  pub stands : Stands p spot.layout names
  pub kind : HlType
  pub typed : Typed (around_of p) (BlockAt names kind ss last)
  pub built : any_of (map in_statement ss) ≡ false
  pub last_built : last_of (option_map in_expr last) ≡ false
  pub ready : IsReady p spot.layout spot.state

abbrev pub line_holds : Line → Bool
line_holds x = statement_step (map-TypedStatement TypedForm TypedStatement TypedArm TypedExpr Bool Bool Bool Bool in_form in_statement in_arm in_expr x)

by_line : (s : TypedStatement) → in_statement s ≡ line_holds (out-TypedStatement s)
by_line s = fold_out-TypedStatement Bool Bool Bool Bool form_step statement_step arm_step expr_step s

pub record Next (p : Place) (spot : Spot) (x : Line) (ss : List TypedStatement) (last : Option TypedExpr) : Type 0 where
  pub fits : LineFits p spot.layout x
  pub rest : Rest p (advance p x spot) ss last

next_line : (p : Place) (spot : Spot) (x : Line) (ss : List TypedStatement) (last : Option TypedExpr) (names : Scope) (k : HlType) → Stands p spot.layout names → IsReady p spot.layout spot.state →
    FirstOf (around_of p) names k x ss last → line_holds x ≡ false → any_of (map in_statement ss) ≡ false → last_of (option_map in_expr last) ≡ false → Next p spot x ss last
next_line p spot (TypedStatement-F.Let q l e) ss last names k stands ready h b more more_last = record {
  fits = (fits_of p spot.layout names stands l e h.0 b, (seen (around_of p) names l e h.0 b).sound);
  rest = record {
    names = h.1.0 ++ names;
    stands = stands_inside p spot.layout names stands q l h.1.0 h.1.1.0;
    kind = k;
    typed = h.1.1.1;
    built = more;
    last_built = more_last;
    ready = ready_inside p spot.layout (with_term (term_in p (scope_shape spot.layout) e) spot.state) q l h.1.0 h.1.1.0 (record { here = ready.here; kept = ready.kept });
  };
}
next_line p spot (TypedStatement-F.Plain e) ss last names k stands ready h b more more_last = record {
  fits = fits_of p spot.layout names stands unit_type e h.0 b;
  rest = record { names = names; stands = stands; kind = k; typed = h.1; built = more; last_built = more_last; ready = record { here = ready.here; kept = ready.kept } };
}

pub at_first : (p : Place) (spot : Spot) (s : TypedStatement) (ss : List TypedStatement) (last : Option TypedExpr) → Rest p spot (s ∷ ss) last → Next p spot (out-TypedStatement s) ss last
at_first p spot s ss last r =
    let b = neither (in_statement s) (any_of (map in_statement ss)) r.built in
    next_line p spot (out-TypedStatement s) ss last r.names r.kind r.stands r.ready (first_line (around_of p) (BlockAt r.names r.kind (s ∷ ss) last) r.typed) (sym (by_line s) ∙ b.0) b.1 r.last_built

-- after so many statements
pub rest_at : (p : Place) (ss : List TypedStatement) (i : ℕ) (spot : Spot) (last : Option TypedExpr) → Rest p spot ss last → Rest p (advance_all p (take i ss) spot) (drop i ss) last
rest_at p ss zero spot last r = r
rest_at p [] (suc i) spot last r = r
rest_at p (s ∷ ss) (suc i) spot last r = rest_at p ss i (advance p (out-TypedStatement s) spot) last (at_first p spot s ss last r).rest

pub last_fits : (p : Place) (spot : Spot) (e : TypedExpr) → Rest p spot [] (Some e) → Fits p spot.layout e
last_fits p spot e r = fits_of p spot.layout r.names r.stands r.kind e (first_line (around_of p) (BlockAt r.names r.kind [] (Some e)) r.typed) r.last_built
