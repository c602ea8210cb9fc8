-- Forms without parts: the term of each, as a builder makes it.
use Rattle.std.proofs.Common.{◌≡◌, ℕ, List, ◌∷◌, refl, sym, ap, ◌∙◌, subst}
use Rattle.hl_data.specs.declared.typed.TypedExpr.{TypedExpr}
use Rattle.hl_data.specs.declared.typed.TypedForm.{out-TypedForm}
use Rattle.hl_data.specs.declared.typed.TypedForm.TheVariants as form
use Rattle.hl_data.specs.declared.value.HlValue.{HlValue}
use Rattle.std.specs.Prelude.{IsSome}
use Rattle.hl_expansions.specs.Expansions.{expansions}
use Rattle.hl_meaning.specs.Values.{encoded}
use Rattle.hl_syntax.specs.declared.kinds.HlType.TheViews.{out-HlType}
use Rattle.hl_terms.proofs.Forms as forms
use Rattle.hl_terms.specs.Paths.{variable_term, witness_term}
use Rattle.hl_terms.specs.Shapes.{Shape, kind_of}
use Rattle.hl_terms.specs.Translated.{or_fail, witness_or, witness_number, literal_at, item_of, value_term, true_term, false_term}
use Rattle.layout_laws.specs.Scopes.{scope_shape}
use Rattle.scope_layout.specs.Layers.{Scopes}
use Rattle.simplicity.specs.Arrows.{IsTypedTerm}
use Rattle.simplicity.specs.Canon.{Declared}
use Rattle.simplicity.specs.Makes as make
use Rattle.simplicity.specs.Types.{Kind}
use Rattle.simplicityhl.specs.Kinds as kinds
use Rattle.simplicityhl.specs.Kinds.{IsSound}
use Rattle.term_builder.specs.State.{State}
use Rattle.term_builder.specs.Steps.{with_term}
use Rattle.translate.proofs.Parts.{Seen, seen}
use Rattle.translate.proofs.Terms.{typed_here}
use Rattle.translate.specs.Fits.{Fits}
use Rattle.translate.specs.Forms.{IsSpelled}
use Rattle.translate.specs.Here.{around_of, terms_of, witnesses_in, IsReady, term_in}
use Rattle.translate.specs.Parts.{PartsOf}
use Rattle.translate.specs.declared.place.Place.{Place}

module _ (p : Place) (scopes : Scopes) (e : TypedExpr) (f : Fits p scopes e) where
  abbrev scope : Shape
  scope = scope_shape scopes

  pub spelled : (word : List ℕ) → e.form ≡ form.Literal word → IsSpelled e.kind word
  spelled word is = subst (PartsOf (around_of p) f.names e.kind) (ap out-TypedForm is ∙ form.outs-Literal word) (seen (around_of p) f.names e.kind e f.typed f.built).parts

  pub value_is_some : (v : HlValue) → e.form ≡ form.Value v → IsSome (encoded v e.kind)
  value_is_some v is = subst (PartsOf (around_of p) f.names e.kind) (ap out-TypedForm is ∙ form.outs-Value v) (seen (around_of p) f.names e.kind e f.typed f.built).parts

  module _ (s : State) (r : IsReady p scopes s) where
    made : (t : Kind → Declared) → t (kind_of scope) ≡ term_in p scope e → with_term (t s.here) s ≡ with_term (term_in p scope e) s
    made t is = ap (λ a. with_term (t a) s) r.here ∙ ap (λ x. with_term x s) is

    pub value_typed : (v : HlValue) → e.form ≡ form.Value v → IsTypedTerm (value_term v e.kind s.here)
    value_typed v is = subst IsTypedTerm (forms.term-Value expansions (terms_of p) (witnesses_in p) e e.kind refl v is scope ∙ ap (value_term v e.kind) (sym r.here)) (typed_here p scopes e f)

    pub panic_made : e.form ≡ form.Panic → with_term (make.fail s.here (kinds.form e.kind)) s ≡ with_term (term_in p scope e) s
    panic_made is = made (λ a. make.fail a (kinds.form e.kind)) (sym (forms.term-Panic expansions (terms_of p) (witnesses_in p) e e.kind refl is scope))

    pub nothing_made : e.form ≡ form.Nothing → with_term (make.to_left (item_of (out-HlType e.kind)) (make.unit s.here)) s ≡ with_term (term_in p scope e) s
    nothing_made is = made (λ a. make.to_left (item_of (out-HlType e.kind)) (make.unit a)) (sym (forms.term-Nothing expansions (terms_of p) (witnesses_in p) e e.kind refl is scope))

    pub truth_made : e.form ≡ form.True → with_term (true_term s.here) s ≡ with_term (term_in p scope e) s
    truth_made is = made true_term (sym (forms.term-True expansions (terms_of p) (witnesses_in p) e e.kind refl is scope))

    pub falsehood_made : e.form ≡ form.False → with_term (false_term s.here) s ≡ with_term (term_in p scope e) s
    falsehood_made is = made false_term (sym (forms.term-False expansions (terms_of p) (witnesses_in p) e e.kind refl is scope))

    pub literal_made : (word : List ℕ) → e.form ≡ form.Literal word → with_term (literal_at (out-HlType e.kind) s.here word) s ≡ with_term (term_in p scope e) s
    literal_made word is = made (λ a. literal_at (out-HlType e.kind) a word) (sym (forms.term-Literal expansions (terms_of p) (witnesses_in p) e e.kind refl word is scope))

    pub value_made : (v : HlValue) → e.form ≡ form.Value v → with_term (value_term v e.kind s.here) s ≡ with_term (term_in p scope e) s
    value_made v is = made (value_term v e.kind) (sym (forms.term-Value expansions (terms_of p) (witnesses_in p) e e.kind refl v is scope))

    pub name_made : (name : List ℕ) → e.form ≡ form.Name name → with_term (or_fail (variable_term name scope) s.here (kinds.form e.kind)) s ≡ with_term (term_in p scope e) s
    name_made name is = made (λ a. or_fail (variable_term name scope) a (kinds.form e.kind)) (sym (forms.term-Name expansions (terms_of p) (witnesses_in p) e e.kind refl name is scope))

    pub witness_made : (name : List ℕ) → e.form ≡ form.Witness name →
        with_term (witness_or (witness_term name scope) (make.witness s.here (kinds.form e.kind) (witness_number (witnesses_in p) name))) s ≡ with_term (term_in p scope e) s
    witness_made name is = made (λ a. witness_or (witness_term name scope) (make.witness a (kinds.form e.kind) (witness_number (witnesses_in p) name))) (sym (forms.term-Witness expansions (terms_of p) (witnesses_in p) e e.kind refl name is scope))
