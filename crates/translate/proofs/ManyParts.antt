-- Forms with several parts: what is known of the parts, and the term of the whole.
use Rattle.std.proofs.Common.{◌≡◌, false, ◌||◌, ℕ, zero, suc, ◌+◌, ◌<◌, ◌≤◌, length, List, [], ◌∷◌, ◌++◌, map, take, drop, reverse, get_or, refl, sym, ap, ◌∙◌, subst, arith, length-append, append_assoc}
use Rattle.std.proofs.Math.Seq.{take-append_seam, drop-append_seam}
use Rattle.std.proofs.lemmas.List.{reverse-reverse, length-reverse}
use Rattle.std.proofs.lemmas.Grind.{reverse_onto}
use Rattle.std.specs.List.{All}
use Rattle.hl_constructs.specs.Held.{any_of, in_expr}
use Rattle.hl_data.specs.declared.typed.TypedExpr.{TypedExpr}
use Rattle.hl_data.specs.declared.typed.TypedForm.{out-TypedForm}
use Rattle.hl_data.specs.declared.typed.TypedForm.TheVariants as form
use Rattle.hl_expansions.specs.Expansions.{expansions}
use Rattle.hl_rules.specs.Places.{Scope}
use Rattle.hl_syntax.specs.declared.kinds.HlType.{HlType}
use Rattle.hl_terms.proofs.Forms as forms
use Rattle.hl_terms.specs.Shapes.{Shape, kind_of}
use Rattle.hl_terms.specs.Translated.{translated, each_in}
use Rattle.hl_typing.specs.Typing.{Around, Judged, FormAt, ExprAt, ExprsAt, BlockAt, Typed}
use Rattle.hl_typing.specs.Typing as rule
use Rattle.layout_laws.specs.Scopes.{scope_shape}
use Rattle.scope_layout.specs.Layers.{Scopes}
use Rattle.simplicity.specs.Arrows.{IsTypedTerm}
use Rattle.simplicity.specs.Canon.{Declared}
use Rattle.term_builder.specs.State.{State}
use Rattle.term_builder.specs.Steps.{with_term, with_made, on_last_many, MayMake}
use Rattle.translate.proofs.Going.{fits_of}
use Rattle.translate.proofs.Parts.{neither, seen}
use Rattle.translate.proofs.Terms.{typed_here}
use Rattle.translate.specs.Fits.{Stands, Fits}
use Rattle.translate.specs.Forms.{form_of_all, gathered, gather_last, MayGather}
use Rattle.translate.specs.Here.{around_of, terms_of, witnesses_in, IsReady, term_in, terms_onto}
use Rattle.translate.specs.Parts.{Many, PartsOf}
use Rattle.translate.specs.declared.gather.Gather.{Gather}
use Rattle.translate.specs.declared.gather.Gather.TheVariants as all
use Rattle.translate.specs.declared.place.Place.{Place}

module _ (around : Around) where
  abbrev Claim : Judged → Type 0
  Claim (ExprsAt scope (k ∷ ks) (e ∷ es)) = Typed around (ExprAt scope k e) × Typed around (ExprsAt scope ks es)
  Claim (ExprsAt scope [] (e ∷ es)) = ⊥
  Claim _ = Unit {0}

  split : (j : Judged) → Typed around j → Claim j
  split _ (rule.one_more scope k ks e es h i) = (h, i)
  split _ (rule.no_more scope) = tt
  split (FormAt scope k f) h = tt
  split (ExprAt scope k e) h = tt
  split (BlockAt scope k ss last) h = tt

module _ (p : Place) (scopes : Scopes) (names : Scope) (s : Stands p scopes names) where
  all_fit : (ks : List HlType) (es : List TypedExpr) → Typed (around_of p) (ExprsAt names ks es) → any_of (map in_expr es) ≡ false → All (Fits p scopes) es
  all_fit ks [] h b = λ k d less. absurd (omega (arith, less))
  all_fit [] (e ∷ es) h b = absurd (split (around_of p) (ExprsAt names [] (e ∷ es)) h)
  all_fit (k ∷ ks) (e ∷ es) h b =
      let two = split (around_of p) (ExprsAt names (k ∷ ks) (e ∷ es)) h in
      let n = neither (in_expr e) (any_of (map in_expr es)) b in
      at_each e es (fits_of p scopes names s k e two.0 n.0) (all_fit ks es two.1 n.1)
    where
      at_each : (e : TypedExpr) (es : List TypedExpr) → Fits p scopes e → All (Fits p scopes) es → All (Fits p scopes) (e ∷ es)
      at_each e es f rest = λ k d less. at_place k d less
        where
          at_place : (k : ℕ) (d : TypedExpr) → k < suc (length es) → Fits p scopes (get_or (e ∷ es) k d)
          at_place zero d less = f
          at_place (suc k) d less = rest k d (omega (arith, less))

-- The terms of parts, the last first.

pub onto_is : (p : Place) (scope : Shape) (es : List TypedExpr) (made : List Declared) → terms_onto p scope es made ≡ reverse (map (term_in p scope) es) ++ made
onto_is p scope [] made = refl
onto_is p scope (e ∷ es) made =
    onto_is p scope es (term_in p scope e ∷ made)
    ∙ sym (append_assoc (reverse (map (term_in p scope) es)) (term_in p scope e ∷ []) made)
    ∙ ap (λ l. l ++ made) (sym (reverse_onto (map (term_in p scope) es) (term_in p scope e) []))

each_is : (p : Place) (scope : Shape) (es : List TypedExpr) → each_in (map (translated expansions (terms_of p) (witnesses_in p)) es) scope ≡ map (term_in p scope) es
each_is p scope [] = refl
each_is p scope (e ∷ es) = ap (λ l. term_in p scope e ∷ l) (each_is p scope es)

map_length : (p : Place) (scope : Shape) (es : List TypedExpr) → length (map (term_in p scope) es) ≡ length es
map_length p scope [] = refl
map_length p scope (e ∷ es) = ap suc (map_length p scope es)

-- what takes so many takes them all
pub many_on : (f : List Declared → Declared) (ts made : List Declared) (n : ℕ) → n ≡ length ts → on_last_many n f (reverse ts ++ made) ≡ f ts ∷ made
many_on f ts made n long =
    let m : n ≡ length (reverse ts) = long ∙ sym (length-reverse ts) in
    ap (λ k. on_last_many k f (reverse ts ++ made)) m
    ∙ ap (λ l. f (reverse l) ∷ drop (length (reverse ts)) (reverse ts ++ made)) (take-append_seam (reverse ts) made)
    ∙ ap (λ l. f (reverse (reverse ts)) ∷ l) (drop-append_seam (reverse ts) made)
    ∙ ap (λ l. f l ∷ made) (reverse-reverse ts)

module _ (p : Place) (scopes : Scopes) (e : TypedExpr) (es : List TypedExpr) (f : Fits p scopes e) where
  record Found (h : Gather) : Type 0 where
    many : Many (around_of p) f.names es
    may : MayGather p h e.kind

  found : (h : Gather) → e.form ≡ form_of_all h es → Found h
  found all.Tuple is = record { many = subst (PartsOf (around_of p) f.names e.kind) (ap out-TypedForm is ∙ form.outs-Tuple es) (seen (around_of p) f.names e.kind e f.typed f.built).parts; may = tt }
  found all.Array is = record { many = subst (PartsOf (around_of p) f.names e.kind) (ap out-TypedForm is ∙ form.outs-Array es) (seen (around_of p) f.names e.kind e f.typed f.built).parts; may = tt }
  found all.List is =
      let x = subst (PartsOf (around_of p) f.names e.kind) (ap out-TypedForm is ∙ form.outs-List es) (seen (around_of p) f.names e.kind e f.typed f.built).parts in
      record { many = x.0; may = x.1 }
  found (all.Call name) is =
      let x = subst (PartsOf (around_of p) f.names e.kind) (ap out-TypedForm is ∙ form.outs-Call name.now es) (seen (around_of p) f.names e.kind e f.typed f.built).parts in
      record { many = x.0; may = x.1 }

  pub parts_fit : (h : Gather) → e.form ≡ form_of_all h es → All (Fits p scopes) es
  parts_fit h is = let m = (found h is).many in all_fit p scopes f.names f.stands m.kinds es m.typed m.built

  pub may_gather : (h : Gather) → e.form ≡ form_of_all h es → MayGather p h e.kind
  may_gather h is = (found h is).may

  abbrev scope : Shape
  scope = scope_shape scopes

  pub term_of_all : (h : Gather) → e.form ≡ form_of_all h es → term_in p scope e ≡ gathered p h e.kind (kind_of scope) (map (term_in p scope) es)
  term_of_all all.Tuple is = forms.term-Tuple expansions (terms_of p) (witnesses_in p) e e.kind refl es is scope ∙ ap (gathered p all.Tuple e.kind (kind_of scope)) (each_is p scope es)
  term_of_all all.Array is = forms.term-Array expansions (terms_of p) (witnesses_in p) e e.kind refl es is scope ∙ ap (gathered p all.Array e.kind (kind_of scope)) (each_is p scope es)
  term_of_all all.List is = forms.term-List expansions (terms_of p) (witnesses_in p) e e.kind refl es is scope ∙ ap (gathered p all.List e.kind (kind_of scope)) (each_is p scope es)
  term_of_all (all.Call name) is = forms.term-Call expansions (terms_of p) (witnesses_in p) e e.kind refl name.now es is scope ∙ ap (gathered p (all.Call name) e.kind (kind_of scope)) (each_is p scope es)

  module _ (s new : State) (r : IsReady p scopes s) (made : new ≡ with_made (terms_onto p scope es s.made) s) (h : Gather) (is : e.form ≡ form_of_all h es) (n : ℕ) (long : n ≡ length es) where
    abbrev ts : List Declared
    ts = map (term_in p scope) es

    state_is : gather_last p h e.kind n (with_made (terms_onto p scope es s.made) s) ≡ with_term (term_in p scope e) s
    state_is =
        ap (λ l. gather_last p h e.kind n (with_made l s)) (onto_is p scope es s.made)
        ∙ ap (λ l. with_made l s) (many_on (gathered p h e.kind s.here) ts s.made n (long ∙ sym (map_length p scope es)))
        ∙ ap (λ a. with_term (gathered p h e.kind a ts) s) r.here
        ∙ ap (λ t. with_term t s) (sym (term_of_all h is))

    enough : n ≤ length (terms_onto p scope es s.made)
    enough = omega (arith, ap length (onto_is p scope es s.made) ∙ length-append (reverse ts) s.made, length-reverse ts, map_length p scope es, long)

    pub may_make : MayMake n new (gather_last p h e.kind n new)
    may_make =
        subst (λ m. MayMake n m (gather_last p h e.kind n m)) (sym made)
        (subst (MayMake n (with_made (terms_onto p scope es s.made) s)) (sym state_is) (record { enough = enough; typed = typed_here p scopes e f }))

    pub is_gathered : gather_last p h e.kind n new ≡ with_term (term_in p scope e) s
    is_gathered = ap (gather_last p h e.kind n) made ∙ state_is

-- one part more
onto_step : (p : Place) (scope : Shape) (es : List TypedExpr) (i : ℕ) (d : TypedExpr) (made : List Declared) → i < length es →
    terms_onto p scope (take (suc i) es) made ≡ term_in p scope (get_or es i d) ∷ terms_onto p scope (take i es) made
onto_step p scope [] i d made less = absurd (omega (arith, less))
onto_step p scope (e ∷ es) zero d made less = refl
onto_step p scope (e ∷ es) (suc i) d made less = onto_step p scope es i d (term_in p scope e ∷ made) (omega (arith, less))

pub onto_next : (p : Place) (scope : Shape) (es : List TypedExpr) (i : ℕ) (e : TypedExpr) (s mid new : State) → i < length es → e ≡ get_or es i e →
    mid ≡ with_made (terms_onto p scope (take i es) s.made) s → new ≡ with_term (term_in p scope e) mid → new ≡ with_made (terms_onto p scope (take (i + 1) es) s.made) s
onto_next p scope es i e s mid new less at m h =
    let more : i + 1 ≡ suc i = omega arith in
    h ∙ ap (with_term (term_in p scope e)) m
    ∙ ap (λ x. with_made (term_in p scope x ∷ terms_onto p scope (take i es) s.made) s) at
    ∙ ap (λ l. with_made l s) (sym (onto_step p scope es i e s.made less))
    ∙ ap (λ n. with_made (terms_onto p scope (take n es) s.made) s) (sym more)
