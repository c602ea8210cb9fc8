-- Forms with one part: what is known of the part, and the term of the whole.
use Rattle.std.proofs.Common.{◌≡◌, false, ℕ, ◌≤◌, length, List, [], ◌∷◌, refl, sym, ap, ◌∙◌, subst, arith}
use Rattle.hl_constructs.specs.Held.{in_expr}
use Rattle.hl_data.specs.declared.typed.TypedExpr.{TypedExpr}
use Rattle.hl_data.specs.declared.typed.TypedForm.{out-TypedForm}
use Rattle.hl_data.specs.declared.typed.TypedForm.TheVariants as form
use Rattle.hl_expansions.specs.Expansions.{expansions}
use Rattle.hl_rules.specs.Places.{Scope}
use Rattle.hl_syntax.specs.declared.kinds.HlType.{HlType}
use Rattle.hl_syntax.specs.declared.kinds.HlType.TheVariants as kind
use Rattle.hl_terms.proofs.Forms as forms
use Rattle.hl_terms.specs.Shapes.{Shape, kind_of}
use Rattle.hl_typing.specs.Typing.{Typed, ExprAt}
use Rattle.layout_laws.specs.Scopes.{scope_shape}
use Rattle.scope_layout.specs.Layers.{Scopes}
use Rattle.simplicity.specs.Arrows.{IsTypedTerm}
use Rattle.simplicity.specs.Canon.{Declared}
use Rattle.simplicityhl.specs.Kinds.{IsSound}
use Rattle.term_builder.specs.State.{State}
use Rattle.term_builder.specs.Steps.{with_term, MayMake}
use Rattle.translate.proofs.Going.{fits_of, sound_either, sound_option}
use Rattle.translate.proofs.Parts.{Seen, seen}
use Rattle.translate.proofs.Terms.{typed_here}
use Rattle.translate.specs.Fits.{Fits}
use Rattle.translate.specs.Forms.{form_of, finished, finish_last, IsSoundFinish}
use Rattle.translate.specs.Here.{around_of, terms_of, witnesses_in, IsReady, term_in}
use Rattle.translate.specs.Parts.{One, PartsOf}
use Rattle.translate.specs.declared.finish.Finish.{Finish}
use Rattle.translate.specs.declared.finish.Finish.TheVariants as how
use Rattle.translate.specs.declared.place.Place.{Place}

module _ (p : Place) (scopes : Scopes) (e part : TypedExpr) (f : Fits p scopes e) where
  record Found (h : Finish) : Type 0 where
    one : One (around_of p) f.names part
    sound : IsSoundFinish h

  look : Seen (around_of p) f.names e.kind e
  look = seen (around_of p) f.names e.kind e f.typed f.built

  sound_of : (k : HlType) (x : TypedExpr) (b : in_expr x ≡ false) → Typed (around_of p) (ExprAt f.names k x) → IsSound k
  sound_of k x b h = (seen (around_of p) f.names k x h b).sound

  found : (h : Finish) → e.form ≡ form_of h part → Found h
  found how.Assert is = record { one = subst (PartsOf (around_of p) f.names e.kind) (ap out-TypedForm is ∙ form.outs-Assert part) look.parts; sound = tt }
  found how.Dbg is = record { one = subst (PartsOf (around_of p) f.names e.kind) (ap out-TypedForm is ∙ form.outs-Dbg part) look.parts; sound = tt }
  found (how.Into from) is = record { one = subst (PartsOf (around_of p) f.names e.kind) (ap out-TypedForm is ∙ form.outs-Into from.now part) look.parts; sound = tt }
  found how.Unwrap is = record { one = subst (PartsOf (around_of p) f.names e.kind) (ap out-TypedForm is ∙ form.outs-Unwrap part) look.parts; sound = tt }
  found (how.UnwrapLeft other) is =
      let x = subst (PartsOf (around_of p) f.names e.kind) (ap out-TypedForm is ∙ form.outs-UnwrapLeft other.now part) look.parts in
      record { one = x.0; sound = (sound_either x.1.0 other.now (sound_of _ part x.0.built x.1.1)).1 }
  found (how.UnwrapRight other) is =
      let x = subst (PartsOf (around_of p) f.names e.kind) (ap out-TypedForm is ∙ form.outs-UnwrapRight other.now part) look.parts in
      record { one = x.0; sound = (sound_either other.now x.1.0 (sound_of _ part x.0.built x.1.1)).0 }
  found (how.IsNone item) is =
      let x = subst (PartsOf (around_of p) f.names e.kind) (ap out-TypedForm is ∙ form.outs-IsNone item.now part) look.parts in
      record { one = x.0; sound = sound_option item.now (sound_of _ part x.0.built x.1) }
  found how.Left is = record { one = subst (PartsOf (around_of p) f.names e.kind) (ap out-TypedForm is ∙ form.outs-Left part) look.parts; sound = tt }
  found how.Right is = record { one = subst (PartsOf (around_of p) f.names e.kind) (ap out-TypedForm is ∙ form.outs-Right part) look.parts; sound = tt }
  found how.Some is = record { one = subst (PartsOf (around_of p) f.names e.kind) (ap out-TypedForm is ∙ form.outs-Some part) look.parts; sound = tt }

  pub kind_sound : IsSound e.kind
  kind_sound = look.sound

  pub part_fits : (h : Finish) → e.form ≡ form_of h part → Fits p scopes part
  part_fits h is = let o = (found h is).one in fits_of p scopes f.names f.stands o.kind part o.typed o.built

  pub part_sound : (h : Finish) → e.form ≡ form_of h part → IsSoundFinish h
  part_sound h is = (found h is).sound

  abbrev scope : Shape
  scope = scope_shape scopes

  pub term_is : (h : Finish) → e.form ≡ form_of h part → term_in p scope e ≡ finished h e.kind (kind_of scope) (term_in p scope part)
  term_is how.Assert is = forms.term-Assert expansions (terms_of p) (witnesses_in p) e e.kind refl part is scope
  term_is how.Dbg is = forms.term-Dbg expansions (terms_of p) (witnesses_in p) e e.kind refl part is scope
  term_is (how.Into from) is = forms.term-Into expansions (terms_of p) (witnesses_in p) e e.kind refl from.now part is scope
  term_is how.Unwrap is = forms.term-Unwrap expansions (terms_of p) (witnesses_in p) e e.kind refl part is scope
  term_is (how.UnwrapLeft other) is = forms.term-UnwrapLeft expansions (terms_of p) (witnesses_in p) e e.kind refl other.now part is scope
  term_is (how.UnwrapRight other) is = forms.term-UnwrapRight expansions (terms_of p) (witnesses_in p) e e.kind refl other.now part is scope
  term_is (how.IsNone item) is = forms.term-IsNone expansions (terms_of p) (witnesses_in p) e e.kind refl item.now part is scope
  term_is how.Left is = forms.term-Left expansions (terms_of p) (witnesses_in p) e e.kind refl part is scope
  term_is how.Right is = forms.term-Right expansions (terms_of p) (witnesses_in p) e e.kind refl part is scope
  term_is how.Some is = forms.term-Some expansions (terms_of p) (witnesses_in p) e e.kind refl part is scope

  -- the state after the part's term was made
  module _ (s new : State) (r : IsReady p scopes s) (made : new ≡ with_term (term_in p scope part) s) (h : Finish) (is : e.form ≡ form_of h part) where
    here_is : finished h e.kind s.here (term_in p scope part) ≡ term_in p scope e
    here_is = ap (λ a. finished h e.kind a (term_in p scope part)) r.here ∙ sym (term_is h is)

    pub may_finish : MayMake 1 new (finish_last h e.kind new)
    may_finish =
        subst (λ n. MayMake 1 n (finish_last h e.kind n)) (sym made)
        (record { enough = omega arith; typed = subst IsTypedTerm (sym here_is) (typed_here p scopes e f) })

    pub is_finished : finish_last h e.kind new ≡ with_term (term_in p scope e) s
    is_finished = ap (finish_last h e.kind) made ∙ ap (λ t. with_term t s) here_is
