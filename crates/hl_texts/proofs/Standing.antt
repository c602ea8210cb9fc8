-- Value texts of the grammar, made from their parts.
use Rattle.std.proofs.Common.{◌≡◌, ℕ, suc, true, false, List, [], ◌∷◌, ◌++◌, refl, inl, inr, codes}
use Rattle.hl_syntax.specs.declared.token.Token.{Token}
use Rattle.hl_syntax.specs.declared.token.Symbol.{Symbol}
use Rattle.hl_syntax.specs.declared.token.Symbol.TheVariants.{OpenParenthesis, CloseParenthesis, OpenBracket, CloseBracket, Comma, Exclamation}
use Rattle.hl_syntax.specs.declared.tree.Expr.{Expr}
use Rattle.hl_syntax.specs.declared.tree.ExprForm.{ExprForm}
use Rattle.hl_syntax.specs.declared.tree.ExprForm.TheVariants as exprs
use Rattle.simplicityhl.specs.declared.alternatives.ExprAlternative.{ExprAlternative}
use Rattle.simplicityhl.specs.declared.alternatives.ExprAlternative.TheVariants as expr_as
use Rattle.simplicityhl.specs.Cover.{token_text}
use Rattle.simplicityhl.specs.Parts.{Part, span_between, turns}
use Rattle.simplicityhl.specs.Grammar as grammar
use Rattle.simplicityhl.specs.Grammar.{Listed, many_turn, many, is_symbol, is_word, is_literal, of_values, expr_of, expr_form, mark, type, pattern}

-- Items, of which some were found before.

module _ (close : Symbol) (x : Part Expr) where
  abbrev pub Items : ℕ → List Expr → List Token → Listed Expr → List Token → Type 0
  Items n before ts found us = (turns (many_turn close x) n before).Whole ts found us

  pub no_more : (n : ℕ) (before : List Expr) (t : Token) (us : List Token) → is_symbol close t.kind ≡ true → Items (suc n) before (t ∷ us) (record { items = before; is_open = true }) us
  no_more n before t us is = inl (tt, us, (t, refl, is, refl), (refl, refl))

  pub last_item : (n : ℕ) (before : List Expr) (e : Expr) (ts : List Token) (t : Token) (us : List Token) → x.Whole ts e (t ∷ us) → is_symbol close t.kind ≡ true →
      Items (suc n) before ts (record { items = before ++ e ∷ []; is_open = false }) us
  last_item n before e ts t us h is = inr (e, t ∷ us, h, inl (tt, us, (t, refl, is, refl), (refl, refl)))

  pub next_item : (n : ℕ) (before : List Expr) (e : Expr) (ts : List Token) (t : Token) (us vs : List Token) (found : Listed Expr) → x.Whole ts e (t ∷ us) → is_symbol Comma t.kind ≡ true →
      Items n (before ++ e ∷ []) us found vs → Items (suc n) before ts found vs
  next_item n before e ts t us vs found h is more = inr (e, t ∷ us, h, inr (tt, us, (t, refl, is, refl), more))

-- Expressions one level up from those of a depth.

module _ (depth : ℕ) where
  -- an expression of one of the forms of value texts
  form_stands : (l : ExprAlternative) (form : ExprForm) (ts us : List Token) → of_values l ≡ true → (expr_form (grammar.value depth) (type depth) (pattern depth) l).Whole ts form us →
      (grammar.value (suc depth)).Whole ts (expr_of form (span_between ts us)) us
  form_stands l form ts us allowed h = inr (ts, ts, (refl, refl), (form, us, (l, rw allowed h), (us, us, (refl, refl), (refl, refl))))

  pub true_stands : (t : Token) (us : List Token) → is_word (codes "true") t.kind ≡ true → (grammar.value (suc depth)).Whole (t ∷ us) (expr_of exprs.True (span_between (t ∷ us) us)) us
  true_stands t us is = form_stands expr_as.True exprs.True (t ∷ us) us refl (tt, us, (t, refl, is, refl), (refl, refl))

  pub false_stands : (t : Token) (us : List Token) → is_word (codes "false") t.kind ≡ true → (grammar.value (suc depth)).Whole (t ∷ us) (expr_of exprs.False (span_between (t ∷ us) us)) us
  false_stands t us is = form_stands expr_as.False exprs.False (t ∷ us) us refl (tt, us, (t, refl, is, refl), (refl, refl))

  pub nothing_stands : (t : Token) (us : List Token) → is_word (codes "None") t.kind ≡ true → (grammar.value (suc depth)).Whole (t ∷ us) (expr_of exprs.Nothing (span_between (t ∷ us) us)) us
  nothing_stands t us is = form_stands expr_as.Nothing exprs.Nothing (t ∷ us) us refl (tt, us, (t, refl, is, refl), (refl, refl))

  pub literal_stands : (t : Token) (us : List Token) → is_literal t.kind ≡ true → (grammar.value (suc depth)).Whole (t ∷ us) (expr_of (exprs.Literal (token_text t.kind)) (span_between (t ∷ us) us)) us
  literal_stands t us is = form_stands expr_as.Literal (exprs.Literal (token_text t.kind)) (t ∷ us) us refl (mark t, us, (t, refl, is, refl), (refl, refl))

  -- a word before an expression in parentheses
  module _ (t o : Token) (inner : List Token) (e : Expr) (c : Token) (us : List Token) (opens : is_symbol OpenParenthesis o.kind ≡ true) (stands : (grammar.value depth).Whole inner e (c ∷ us)) (closes : is_symbol CloseParenthesis c.kind ≡ true) where
    pub some_stands : is_word (codes "Some") t.kind ≡ true → (grammar.value (suc depth)).Whole (t ∷ o ∷ inner) (expr_of (exprs.Some e) (span_between (t ∷ o ∷ inner) us)) us
    some_stands is = form_stands expr_as.Some (exprs.Some e) (t ∷ o ∷ inner) us refl
        (tt, o ∷ inner, (t, refl, is, refl), (e, us, (tt, inner, (o, refl, opens, refl), (e, c ∷ us, stands, (tt, us, (c, refl, closes, refl), (refl, refl)))), (refl, refl)))

    pub left_stands : is_word (codes "Left") t.kind ≡ true → (grammar.value (suc depth)).Whole (t ∷ o ∷ inner) (expr_of (exprs.Left e) (span_between (t ∷ o ∷ inner) us)) us
    left_stands is = form_stands expr_as.Left (exprs.Left e) (t ∷ o ∷ inner) us refl
        (tt, o ∷ inner, (t, refl, is, refl), (e, us, (tt, inner, (o, refl, opens, refl), (e, c ∷ us, stands, (tt, us, (c, refl, closes, refl), (refl, refl)))), (refl, refl)))

    pub right_stands : is_word (codes "Right") t.kind ≡ true → (grammar.value (suc depth)).Whole (t ∷ o ∷ inner) (expr_of (exprs.Right e) (span_between (t ∷ o ∷ inner) us)) us
    right_stands is = form_stands expr_as.Right (exprs.Right e) (t ∷ o ∷ inner) us refl
        (tt, o ∷ inner, (t, refl, is, refl), (e, us, (tt, inner, (o, refl, opens, refl), (e, c ∷ us, stands, (tt, us, (c, refl, closes, refl), (refl, refl)))), (refl, refl)))

  -- items after an opening symbol
  module _ (o : Token) (inner : List Token) (found : Listed Expr) (us : List Token) (n : ℕ) where
    pub tuple_stands : is_symbol OpenParenthesis o.kind ≡ true → Items CloseParenthesis (grammar.value depth) n [] inner found us →
        (grammar.value (suc depth)).Whole (o ∷ inner) (grammar.alone_or (λ es. expr_of (exprs.Tuple es) (span_between (o ∷ inner) us)) found.items found.is_open) us
    tuple_stands opens h = inl (o ∷ inner, o ∷ inner, (refl, refl), (found, us, (tt, inner, (o, refl, opens, refl), (n, h)), (us, us, (refl, refl), (refl, refl))))

    pub array_stands : is_symbol OpenBracket o.kind ≡ true → Items CloseBracket (grammar.value depth) n [] inner found us →
        (grammar.value (suc depth)).Whole (o ∷ inner) (expr_of (exprs.Array found.items) (span_between (o ∷ inner) us)) us
    array_stands opens h = form_stands expr_as.Array (exprs.Array found.items) (o ∷ inner) us refl
        (found.items, us, (tt, inner, (o, refl, opens, refl), (found, us, (n, h), (refl, refl))), (refl, refl))

    pub list_stands : (t e : Token) → is_word (codes "list") t.kind ≡ true → is_symbol Exclamation e.kind ≡ true → is_symbol OpenBracket o.kind ≡ true → Items CloseBracket (grammar.value depth) n [] inner found us →
        (grammar.value (suc depth)).Whole (t ∷ e ∷ o ∷ inner) (expr_of (exprs.List found.items) (span_between (t ∷ e ∷ o ∷ inner) us)) us
    list_stands t e is bang opens h = form_stands expr_as.List (exprs.List found.items) (t ∷ e ∷ o ∷ inner) us refl
        (tt, e ∷ o ∷ inner, (t, refl, is, refl), (tt, o ∷ inner, (e, refl, bang, refl), (found.items, us, (tt, inner, (o, refl, opens, refl), (found, us, (n, h), (refl, refl))), (refl, refl))))
