-- Tokens that are an expression of forms of values are a value text with the same tree.
use Rattle.std.proofs.Common.{◌≡◌, ℕ, zero, suc, Bool, true, false, List, [], ◌∷◌, ◌++◌, map, Option, Some, None, refl, subst, inl, inr, IsTrue}
use Rattle.std.specs.List.{list_all}
use Rattle.hl_syntax.specs.declared.token.Span.{Span}
use Rattle.hl_syntax.specs.declared.token.Token.{Token}
use Rattle.hl_syntax.specs.declared.token.Symbol.{Symbol}
use Rattle.hl_syntax.specs.declared.token.Symbol.TheVariants.{CloseParenthesis, CloseBracket}
use Rattle.hl_syntax.specs.declared.tree.Expr.{Expr}
use Rattle.hl_syntax.specs.declared.tree.ExprForm.{ExprForm, roll-ExprForm}
use Rattle.hl_syntax.specs.declared.tree.ExprForm.TheOpen.{ExprForm-F}
use Rattle.hl_syntax.specs.declared.tree.ExprForm.TheVariants as exprs
use Rattle.hl_syntax.specs.declared.tree.Pattern.{Pattern}
use Rattle.hl_syntax.specs.declared.tree.Statement.{Statement}
use Rattle.hl_syntax.specs.declared.tree.Statement.TheVariants as statements
use Rattle.hl_syntax.specs.declared.tree.TypeText.{TypeText}
use Rattle.simplicityhl.specs.declared.alternatives.ExprAlternative.{ExprAlternative}
use Rattle.simplicityhl.specs.declared.alternatives.ExprAlternative.TheVariants as expr_as
use Rattle.simplicityhl.specs.Parts.{Part, turns, never, chosen}
use Rattle.simplicityhl.specs.Grammar as grammar
use Rattle.simplicityhl.specs.Grammar.{Listed, Stands, many_turn, alone_or, expr_of, expr_form, expr_level, block_turn, of_values, every_alternative, type, pattern}
use Rattle.hl_value_walks.specs.Agree.{value_step, is_value}
use Rattle.hl_value_walks.proofs.Layers.{Layer, value_parts, value_rolled, AreValues, both_true}

all_but_last : (es : List Expr) (e : Expr) → AreValues (es ++ e ∷ []) → AreValues es × IsTrue (is_value e)
all_but_last [] e h = (refl, (both_true (is_value e) true h).0)
all_but_last (f ∷ es) e h =
    let both = both_true (is_value f) (list_all (λ part. part) (map is_value (es ++ e ∷ []))) h in
    let rest = all_but_last es e both.1 in
    (rw (both.0, rest.0) refl, rest.1)

-- what the parts of a form are, of an expression of forms of values
of_value : (w : Layer) (made form : ExprForm) (span : Span) → roll-ExprForm w ≡ made → form ≡ made →
    IsTrue (is_value (expr_of form span)) →
    IsTrue (value_step (value_parts w))
of_value w made form span is same h = subst IsTrue (value_rolled w made span is) (subst (λ f. IsTrue (is_value (expr_of f span))) same h)

no_value : IsTrue false → ⊥
no_value h = cc

in_parentheses : (es : List Expr) (is_open : Bool) (span : Span) →
    IsTrue (is_value (alone_or (λ es. expr_of (exprs.Tuple es) span) es is_open)) → AreValues es
in_parentheses (e ∷ []) false span h = rw h refl
in_parentheses (e ∷ []) true span h =
    of_value (ExprForm-F.Tuple (e ∷ [])) (exprs.Tuple (e ∷ [])) (exprs.Tuple (e ∷ [])) span (exprs.rolls-Tuple (e ∷ [])) refl h
in_parentheses [] is_open span h = refl
in_parentheses (e ∷ f ∷ es) is_open span h =
    let all = e ∷ f ∷ es in of_value (ExprForm-F.Tuple all) (exprs.Tuple all) (exprs.Tuple all) span (exprs.rolls-Tuple all) refl h

-- whatever tokens are one part, with a tree of forms of values, are the other with the same tree
abbrev Drops : Part Expr → Part Expr → Type 0
Drops p q = (ts : List Token) (e : Expr) (rest : List Token) → p.Whole ts e rest → IsTrue (is_value e) → q.Whole ts e rest

module _ (p q : Part Expr) (drops : Drops p q) where
  turns_drop : (close : Symbol) (n : ℕ) (found : List Expr) (ts : List Token) (l : Listed Expr) (rest : List Token) →
      (turns (many_turn close p) n found).Whole ts l rest → AreValues l.items →
      AreValues found × (turns (many_turn close q) n found).Whole ts l rest
  turns_drop close zero found ts l rest h all = absurd h
  turns_drop close (suc n) found ts l rest (inl (u, us, s, d)) all =
      (subst (λ (l : Listed Expr). AreValues l.items) d.0 all, inl (u, us, s, d))
  turns_drop close (suc n) found ts l rest (inr (e, us, h, inl (u, vs, s, d))) all =
      let parts = all_but_last found e (subst (λ (l : Listed Expr). AreValues l.items) d.0 all) in
      (parts.0, inr (e, us, drops ts e us h parts.1, inl (u, vs, s, d)))
  turns_drop close (suc n) found ts l rest (inr (e, us, h, inr (u, vs, s, more))) all =
      let others = turns_drop close n (found ++ e ∷ []) vs l rest more all in
      let parts = all_but_last found e others.0 in
      (parts.0, inr (e, us, drops ts e us h parts.1, inr (u, vs, s, others.1)))

  module _ (t : Part TypeText) (b : Part Pattern) where
    block_is : (n : ℕ) (found : List Statement) (ts : List Token) (form : ExprForm) (rest : List Token) →
        (turns (block_turn p t b) n found).Whole ts form rest →
        (ss : List Statement) × (last : Option Expr) × (form ≡ exprs.Block ss last)
    block_is zero found ts form rest h = absurd h
    block_is (suc n) found ts form rest (inl (u, us, s, d)) = (found, None, d.0)
    block_is (suc n) found ts form rest (inr (inl (st, us, h, (u, vs, s, more)))) = block_is n (found ++ st ∷ []) vs form rest more
    block_is (suc n) found ts form rest (inr (inr (e, us, h, inl (u, vs, s, more)))) =
        block_is n (found ++ statements.Plain e ∷ []) vs form rest more
    block_is (suc n) found ts form rest (inr (inr (e, us, h, inr (u, vs, s, d)))) = (found, Some e, d.0)

    no_block : (ss : List Statement) (last : Option Expr) (form : ExprForm) (span : Span) → form ≡ exprs.Block ss last →
        IsTrue (is_value (expr_of form span)) → ⊥
    no_block ss None form span is v =
        no_value (of_value (ExprForm-F.Block ss None) (exprs.Block ss None) form span (exprs.rolls-Block ss None) is v)
    no_block ss (Some e) form span is v =
        no_value (of_value (ExprForm-F.Block ss (Some e)) (exprs.Block ss (Some e)) form span (exprs.rolls-Block ss (Some e)) is v)

    -- a form of one part that is one of values is the same form of the other
    module _ (span : Span) where
      form_drops : (l : ExprAlternative) (ts : List Token) (form : ExprForm) (rest : List Token) → (expr_form p t b l).Whole ts form rest →
          IsTrue (is_value (expr_of form span)) → (chosen (of_values l) (expr_form q t b l) never).Whole ts form rest
      form_drops expr_as.Array ts form rest (es, us, (u, vs, s, (l, ws, (n, h), d)), e) v =
          let all = of_value (ExprForm-F.Array es) (exprs.Array es) form span (exprs.rolls-Array es) e.0 v in
          (es, us, (u, vs, s, (l, ws, (n, (turns_drop CloseBracket n [] vs l ws h (subst AreValues d.0 all)).1), d)), e)
      form_drops expr_as.List ts form rest (o, xs, w, (x, ys, bang, (es, us, (u, vs, s, (l, ws, (n, h), d)), e))) v =
          let all = of_value (ExprForm-F.List es) (exprs.List es) form span (exprs.rolls-List es) e.0 v in
          (o, xs, w, (x, ys, bang, (es, us, (u, vs, s, (l, ws, (n, (turns_drop CloseBracket n [] vs l ws h (subst AreValues d.0 all)).1), d)), e)))
      form_drops expr_as.Left ts form rest (o, xs, w, (a, us, (u, vs, s, (inner, ws, h, (c, ys, closes, d))), e)) v =
          let one = of_value (ExprForm-F.Left a) (exprs.Left a) form span (exprs.rolls-Left a) e.0 v in
          (o, xs, w, (a, us, (u, vs, s, (inner, ws, drops vs inner ws h (subst (λ x. IsTrue (is_value x)) d.0 one), (c, ys, closes, d))), e))
      form_drops expr_as.Right ts form rest (o, xs, w, (a, us, (u, vs, s, (inner, ws, h, (c, ys, closes, d))), e)) v =
          let one = of_value (ExprForm-F.Right a) (exprs.Right a) form span (exprs.rolls-Right a) e.0 v in
          (o, xs, w, (a, us, (u, vs, s, (inner, ws, drops vs inner ws h (subst (λ x. IsTrue (is_value x)) d.0 one), (c, ys, closes, d))), e))
      form_drops expr_as.Some ts form rest (o, xs, w, (a, us, (u, vs, s, (inner, ws, h, (c, ys, closes, d))), e)) v =
          let one = of_value (ExprForm-F.Some a) (exprs.Some a) form span (exprs.rolls-Some a) e.0 v in
          (o, xs, w, (a, us, (u, vs, s, (inner, ws, drops vs inner ws h (subst (λ x. IsTrue (is_value x)) d.0 one), (c, ys, closes, d))), e))
      form_drops expr_as.Nothing ts form rest h v = h
      form_drops expr_as.True ts form rest h v = h
      form_drops expr_as.False ts form rest h v = h
      form_drops expr_as.Literal ts form rest h v = h
      form_drops expr_as.Block ts form rest (o, xs, s, (n, h)) v =
          let is = block_is n [] xs form rest h in no_block is.0 is.1 form span is.2 v
      form_drops expr_as.Match ts form rest (o, xs, w, (e, us, pe, (arms, vs, pa, d))) v =
          no_value (of_value (ExprForm-F.Match e arms) (exprs.Match e arms) form span (exprs.rolls-Match e arms) d.0 v)
      form_drops expr_as.Assert ts form rest (o, xs, w, (x, ys, bang, (e, us, pe, d))) v =
          no_value (of_value (ExprForm-F.Assert e) (exprs.Assert e) form span (exprs.rolls-Assert e) d.0 v)
      form_drops expr_as.Dbg ts form rest (o, xs, w, (x, ys, bang, (e, us, pe, d))) v =
          no_value (of_value (ExprForm-F.Dbg e) (exprs.Dbg e) form span (exprs.rolls-Dbg e) d.0 v)
      form_drops expr_as.Panic ts form rest (o, xs, w, (x, ys, bang, (a, us, sa, (c, vs, sc, d)))) v =
          no_value (of_value ExprForm-F.Panic exprs.Panic form span exprs.rolls-Panic d.0 v)
      form_drops expr_as.Jet ts form rest (o, xs, w, (name, us, pn, (es, vs, pe, d))) v =
          no_value (of_value (ExprForm-F.Jet name es) (exprs.Jet name es) form span (exprs.rolls-Jet name es) d.0 v)
      form_drops expr_as.Witness ts form rest (o, xs, w, (name, us, pn, d)) v =
          no_value (of_value (ExprForm-F.Witness name) (exprs.Witness name) form span (exprs.rolls-Witness name) d.0 v)
      form_drops expr_as.Param ts form rest (o, xs, w, (name, us, pn, d)) v =
          no_value (of_value (ExprForm-F.Param name) (exprs.Param name) form span (exprs.rolls-Param name) d.0 v)
      form_drops expr_as.Into ts form rest (o, xs, w, (k, us, pk, (a, vs, sa, (c, ws, sc, (i, ys, si, (e, zs, pe, d)))))) v =
          no_value (of_value (ExprForm-F.Into k e) (exprs.Into k e) form span (exprs.rolls-Into k e) d.0 v)
      form_drops expr_as.Unwrap ts form rest (o, xs, w, (e, us, pe, d)) v =
          no_value (of_value (ExprForm-F.Unwrap e) (exprs.Unwrap e) form span (exprs.rolls-Unwrap e) d.0 v)
      form_drops expr_as.UnwrapLeft ts form rest (o, xs, w, (k, us, pk, (e, vs, pe, d))) v =
          no_value (of_value (ExprForm-F.UnwrapLeft k e) (exprs.UnwrapLeft k e) form span (exprs.rolls-UnwrapLeft k e) d.0 v)
      form_drops expr_as.UnwrapRight ts form rest (o, xs, w, (k, us, pk, (e, vs, pe, d))) v =
          no_value (of_value (ExprForm-F.UnwrapRight k e) (exprs.UnwrapRight k e) form span (exprs.rolls-UnwrapRight k e) d.0 v)
      form_drops expr_as.IsNone ts form rest (o, xs, w, (k, us, pk, (e, vs, pe, d))) v =
          no_value (of_value (ExprForm-F.IsNone k e) (exprs.IsNone k e) form span (exprs.rolls-IsNone k e) d.0 v)
      form_drops expr_as.Fold ts form rest (o, xs, w, (f, us, pf, (es, vs, pe, d))) v =
          no_value (of_value (ExprForm-F.Fold f.0 f.1 es.0 es.1) (exprs.Fold f.0 f.1 es.0 es.1) form span (exprs.rolls-Fold f.0 f.1 es.0 es.1) d.0 v)
      form_drops expr_as.ArrayFold ts form rest (o, xs, w, (f, us, pf, (es, vs, pe, d))) v =
          no_value (of_value (ExprForm-F.ArrayFold f.0 f.1 es.0 es.1) (exprs.ArrayFold f.0 f.1 es.0 es.1) form span
          (exprs.rolls-ArrayFold f.0 f.1 es.0 es.1) d.0 v)
      form_drops expr_as.ForWhile ts form rest (o, xs, w, (a, us, sa, (c, vs, sc, (f, ws, pf, (i, ys, si, (es, zs, pe, d)))))) v =
          no_value (of_value (ExprForm-F.ForWhile f es.0 es.1) (exprs.ForWhile f es.0 es.1) form span (exprs.rolls-ForWhile f es.0 es.1) d.0 v)
      form_drops expr_as.Call ts form rest (name, us, pn, (es, vs, pe, d)) v =
          no_value (of_value (ExprForm-F.Call name es) (exprs.Call name es) form span (exprs.rolls-Call name es) d.0 v)
      form_drops expr_as.Name ts form rest (name, us, pn, d) v =
          no_value (of_value (ExprForm-F.Name name.text) (exprs.Name name.text) form span (exprs.rolls-Name name.text) d.0 v)

    level_drops : Drops (expr_level p t b every_alternative) (expr_level q t b of_values)
    level_drops ts e rest (inl (f, us, at, (l, vs, (u, ws, s, (n, h)), (after, xs, ends, d)))) v =
        let all = in_parentheses l.items l.is_open _ (subst (λ x. IsTrue (is_value x)) d.0 v) in
        inl (f, us, at, (l, vs, (u, ws, s, (n, (turns_drop CloseParenthesis n [] ws l vs h all).1)), (after, xs, ends, d)))
    level_drops ts e rest (inr (f, us, at, (form, vs, (l, h), (after, xs, ends, d)))) v =
        inr (f, us, at, (form, vs, (l, form_drops _ l us form vs h (subst (λ x. IsTrue (is_value x)) d.0 v)), (after, xs, ends, d)))

depths_drop : (depth : ℕ) → Drops (grammar.expr depth) (grammar.value depth)
depths_drop zero ts e rest h v = absurd h
depths_drop (suc depth) ts e rest h v =
    level_drops (grammar.expr depth) (grammar.value depth) (depths_drop depth) (type depth) (pattern depth) ts e rest h v

pub exprs_drop : (depth : ℕ) (ts : List Token) (tree : Expr) → IsTrue (is_value tree) → Stands grammar.expr depth ts tree →
    Stands grammar.value depth ts tree
exprs_drop depth ts tree v h = record { is = depths_drop depth ts tree [] h.is v }
