-- Tokens that are a value text are an expression with the same tree, of forms of values.
use Rattle.std.proofs.Common.{◌≡◌, ℕ, zero, suc, Bool, true, false, List, [], ◌∷◌, ◌++◌, map, refl, sym, subst, inl, inr, IsTrue}
use Rattle.std.specs.List.{list_all}
use Rattle.hl_syntax.specs.declared.token.Span.{Span}
use Rattle.hl_syntax.specs.declared.token.Token.{Token}
use Rattle.hl_syntax.specs.declared.token.Symbol.{Symbol}
use Rattle.hl_syntax.specs.declared.token.Symbol.TheVariants.{CloseParenthesis, CloseBracket}
use Rattle.hl_syntax.specs.declared.tree.Expr.{Expr}
use Rattle.hl_syntax.specs.declared.tree.ExprForm.{ExprForm, roll-ExprForm}
use Rattle.hl_syntax.specs.declared.tree.ExprForm.TheOpen.{ExprForm-F}
use Rattle.hl_syntax.specs.declared.tree.ExprForm.TheVariants as exprs
use Rattle.hl_syntax.specs.declared.tree.Pattern.{Pattern}
use Rattle.hl_syntax.specs.declared.tree.TypeText.{TypeText}
use Rattle.simplicityhl.specs.declared.alternatives.ExprAlternative.{ExprAlternative}
use Rattle.simplicityhl.specs.declared.alternatives.ExprAlternative.TheVariants as expr_as
use Rattle.simplicityhl.specs.Parts.{Part, turns, never, chosen}
use Rattle.simplicityhl.specs.Grammar as grammar
use Rattle.simplicityhl.specs.Grammar.{Listed, Stands, many_turn, alone_or, expr_of, expr_form, expr_level, of_values, every_alternative, type, pattern}
use Rattle.hl_value_walks.specs.Agree.{value_step, is_value}
use Rattle.hl_value_walks.specs.Laws.{IsValueExpression}
use Rattle.hl_value_walks.proofs.Layers.{Layer, value_parts, value_rolled, AreValues, both_true}

one_more : (es : List Expr) (e : Expr) → AreValues es → IsTrue (is_value e) → AreValues (es ++ e ∷ [])
one_more [] e h one = rw one refl
one_more (f ∷ es) e h one =
    let both = both_true (is_value f) (list_all (λ part. part) (map is_value es)) h in
    rw (both.0, one_more es e both.1 one) refl

-- an expression of a form of values
of_layer : (w : Layer) (form : ExprForm) (span : Span) → roll-ExprForm w ≡ form → IsTrue (value_step (value_parts w)) →
    IsTrue (is_value (expr_of form span))
of_layer w form span is h = subst IsTrue (sym (value_rolled w form span is)) h

-- what stands in parentheses
in_parentheses : (es : List Expr) (is_open : Bool) (span : Span) → AreValues es →
    IsTrue (is_value (alone_or (λ es. expr_of (exprs.Tuple es) span) es is_open))
in_parentheses (e ∷ []) false span h = (both_true (is_value e) true h).0
in_parentheses (e ∷ []) true span h = of_layer (ExprForm-F.Tuple (e ∷ [])) (exprs.Tuple (e ∷ [])) span (exprs.rolls-Tuple (e ∷ [])) h
in_parentheses [] is_open span h = of_layer (ExprForm-F.Tuple []) (exprs.Tuple []) span (exprs.rolls-Tuple []) h
in_parentheses (e ∷ f ∷ es) is_open span h =
    of_layer (ExprForm-F.Tuple (e ∷ f ∷ es)) (exprs.Tuple (e ∷ f ∷ es)) span (exprs.rolls-Tuple (e ∷ f ∷ es)) h

-- whatever tokens are one part are the other, with the same tree, and that is of forms of values
abbrev Lifts : Part Expr → Part Expr → Type 0
Lifts p q = (ts : List Token) (e : Expr) (rest : List Token) → p.Whole ts e rest → IsTrue (is_value e) × q.Whole ts e rest

module _ (p q : Part Expr) (lifts : Lifts p q) where
  turns_lift : (close : Symbol) (n : ℕ) (found : List Expr) → AreValues found → (ts : List Token) (l : Listed Expr) (rest : List Token) →
      (turns (many_turn close p) n found).Whole ts l rest →
      AreValues l.items × (turns (many_turn close q) n found).Whole ts l rest
  turns_lift close zero found all ts l rest h = absurd h
  turns_lift close (suc n) found all ts l rest (inl (u, us, s, d)) =
      (subst (λ (l : Listed Expr). AreValues l.items) (sym d.0) all, inl (u, us, s, d))
  turns_lift close (suc n) found all ts l rest (inr (e, us, h, inl (u, vs, s, d))) =
      let one = lifts ts e us h in
      (subst (λ (l : Listed Expr). AreValues l.items) (sym d.0) (one_more found e all one.0), inr (e, us, one.1, inl (u, vs, s, d)))
  turns_lift close (suc n) found all ts l rest (inr (e, us, h, inr (u, vs, s, more))) =
      let one = lifts ts e us h in
      let others = turns_lift close n (found ++ e ∷ []) (one_more found e all one.0) vs l rest more in
      (others.0, inr (e, us, one.1, inr (u, vs, s, others.1)))

  module _ (t : Part TypeText) (b : Part Pattern) where
    -- a form of one part is the same form of the other, and one of values
    record FormLifts (l : ExprAlternative) (ts : List Token) (form : ExprForm) (rest : List Token) : Type 0 where
      value : (span : Span) → IsTrue (is_value (expr_of form span))
      stands : (expr_form q t b l).Whole ts form rest

    value_of : (w : Layer) (made form : ExprForm) → roll-ExprForm w ≡ made → form ≡ made → IsTrue (value_step (value_parts w)) →
        (span : Span) → IsTrue (is_value (expr_of form span))
    value_of w made form is same h span = subst (λ f. IsTrue (is_value (expr_of f span))) (sym same) (of_layer w made span is h)

    form_lifts : (l : ExprAlternative) (ts : List Token) (form : ExprForm) (rest : List Token) →
        (chosen (of_values l) (expr_form p t b l) never).Whole ts form rest → FormLifts l ts form rest
    form_lifts expr_as.Array ts form rest (es, us, (u, vs, s, (l, ws, (n, h), d)), e) =
        let all = turns_lift CloseBracket n [] refl vs l ws h in
        record {
          value = value_of (ExprForm-F.Array es) (exprs.Array es) form (exprs.rolls-Array es) e.0 (subst AreValues (sym d.0) all.0);
          stands = (es, us, (u, vs, s, (l, ws, (n, all.1), d)), e);
        }
    form_lifts expr_as.List ts form rest (o, xs, w, (x, ys, bang, (es, us, (u, vs, s, (l, ws, (n, h), d)), e))) =
        let all = turns_lift CloseBracket n [] refl vs l ws h in
        record {
          value = value_of (ExprForm-F.List es) (exprs.List es) form (exprs.rolls-List es) e.0 (subst AreValues (sym d.0) all.0);
          stands = (o, xs, w, (x, ys, bang, (es, us, (u, vs, s, (l, ws, (n, all.1), d)), e)));
        }
    form_lifts expr_as.Left ts form rest (o, xs, w, (a, us, (u, vs, s, (inner, ws, h, (c, ys, closes, d))), e)) =
        let one = lifts vs inner ws h in
        record {
          value = value_of (ExprForm-F.Left a) (exprs.Left a) form (exprs.rolls-Left a) e.0 (subst (λ x. IsTrue (is_value x)) (sym d.0) one.0);
          stands = (o, xs, w, (a, us, (u, vs, s, (inner, ws, one.1, (c, ys, closes, d))), e));
        }
    form_lifts expr_as.Right ts form rest (o, xs, w, (a, us, (u, vs, s, (inner, ws, h, (c, ys, closes, d))), e)) =
        let one = lifts vs inner ws h in
        record {
          value = value_of (ExprForm-F.Right a) (exprs.Right a) form (exprs.rolls-Right a) e.0 (subst (λ x. IsTrue (is_value x)) (sym d.0) one.0);
          stands = (o, xs, w, (a, us, (u, vs, s, (inner, ws, one.1, (c, ys, closes, d))), e));
        }
    form_lifts expr_as.Some ts form rest (o, xs, w, (a, us, (u, vs, s, (inner, ws, h, (c, ys, closes, d))), e)) =
        let one = lifts vs inner ws h in
        record {
          value = value_of (ExprForm-F.Some a) (exprs.Some a) form (exprs.rolls-Some a) e.0 (subst (λ x. IsTrue (is_value x)) (sym d.0) one.0);
          stands = (o, xs, w, (a, us, (u, vs, s, (inner, ws, one.1, (c, ys, closes, d))), e));
        }
    form_lifts expr_as.Nothing ts form rest (o, xs, w, d) =
        record { value = value_of ExprForm-F.Nothing exprs.Nothing form exprs.rolls-Nothing d.0 refl; stands = (o, xs, w, d) }
    form_lifts expr_as.True ts form rest (o, xs, w, d) =
        record { value = value_of ExprForm-F.True exprs.True form exprs.rolls-True d.0 refl; stands = (o, xs, w, d) }
    form_lifts expr_as.False ts form rest (o, xs, w, d) =
        record { value = value_of ExprForm-F.False exprs.False form exprs.rolls-False d.0 refl; stands = (o, xs, w, d) }
    form_lifts expr_as.Literal ts form rest (n, xs, w, d) =
        record {
          value = value_of (ExprForm-F.Literal n.text) (exprs.Literal n.text) form (exprs.rolls-Literal n.text) d.0 refl;
          stands = (n, xs, w, d);
        }
    form_lifts _ ts form rest h = absurd h

    level_lifts : Lifts (expr_level p t b of_values) (expr_level q t b every_alternative)
    level_lifts ts e rest (inl (f, us, at, (l, vs, (u, ws, s, (n, h)), (after, xs, ends, d)))) =
        let all = turns_lift CloseParenthesis n [] refl ws l vs h in (
          subst (λ x. IsTrue (is_value x)) (sym d.0) (in_parentheses l.items l.is_open _ all.0),
          inl (f, us, at, (l, vs, (u, ws, s, (n, all.1)), (after, xs, ends, d))),
        )
    level_lifts ts e rest (inr (f, us, at, (form, vs, (l, h), (after, xs, ends, d)))) =
        let lifted = form_lifts l us form vs h in
        (subst (λ x. IsTrue (is_value x)) (sym d.0) (lifted.value _), inr (f, us, at, (form, vs, (l, lifted.stands), (after, xs, ends, d))))

depths_lift : (depth : ℕ) → Lifts (grammar.value depth) (grammar.expr depth)
depths_lift zero ts e rest h = absurd h
depths_lift (suc depth) ts e rest h =
    level_lifts (grammar.value depth) (grammar.expr depth) (depths_lift depth) (type depth) (pattern depth) ts e rest h

pub texts_lift : (depth : ℕ) (ts : List Token) (tree : Expr) → Stands grammar.value depth ts tree → IsValueExpression depth ts tree
texts_lift depth ts tree h =
    let lifted = depths_lift depth ts tree [] h.is in
    record { value = lifted.0; stands = record { is = lifted.1 } }
