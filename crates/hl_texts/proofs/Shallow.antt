-- Value texts are nested no deeper than the grammar has them.
use Rattle.std.proofs.Common.{◌≡◌, ℕ, zero, suc, ◌^◌, ◌≤◌, Bool, true, false, nat_eq, nat_lt, List, [], ◌∷◌, ◌++◌, length, map, Some, refl, sym, ap, ◌∙◌, inl, inr, arith, subst}
use Rattle.hl_data.specs.declared.value.HlValue.{HlValue, map-HlValue, roll-HlValue}
use Rattle.hl_data.specs.declared.value.HlValue.TheOpen.{HlValue-F}
use Rattle.hl_data.specs.declared.value.HlValue.TheFolds.{fold-roll-HlValue}
use Rattle.hl_data.specs.declared.value.HlValue.TheVariants as value
use Rattle.hl_syntax.specs.declared.kinds.HlType.{HlType}
use Rattle.hl_syntax.specs.declared.kinds.HlType.TheOpen.{HlType-F}
use Rattle.hl_syntax.specs.declared.kinds.HlType.TheViews.{out-HlType, roll-out-HlType}
use Rattle.hl_syntax.specs.declared.token.Span.{Span}
use Rattle.hl_syntax.specs.declared.token.Token.{Token}
use Rattle.hl_syntax.specs.declared.token.Symbol.{Symbol}
use Rattle.hl_syntax.specs.declared.token.Symbol.TheVariants.{CloseParenthesis, CloseBracket}
use Rattle.hl_syntax.specs.declared.tree.Arm.{Arm}
use Rattle.hl_syntax.specs.declared.tree.Expr.{Expr}
use Rattle.hl_syntax.specs.declared.tree.ExprForm.{ExprForm, roll-ExprForm}
use Rattle.hl_syntax.specs.declared.tree.ExprForm.TheOpen.{ExprForm-F}
use Rattle.hl_syntax.specs.declared.tree.ExprForm.TheVariants as exprs
use Rattle.hl_syntax.specs.declared.tree.Statement.{Statement}
use Rattle.simplicityhl.specs.declared.alternatives.ExprAlternative.{ExprAlternative}
use Rattle.simplicityhl.specs.declared.alternatives.ExprAlternative.TheVariants as expr_as
use Rattle.simplicityhl.specs.Grammar as grammar
use Rattle.simplicityhl.specs.Grammar.{Listed, alone_or, expr_of, allowed_form, of_values, type, pattern}
use Rattle.jets.specs.Unsigned.{Unsigned}
use Rattle.simplicityhl.specs.Parts.{Part}
use Rattle.hl_meaning.specs.Literals.{literal_value}
use Rattle.hl_texts.specs.RoundTrip.{nesting, nesting_step, greatest}
use Rattle.hl_values.specs.Written.{written, form_at, each_at, all_at}
use Rattle.hl_texts.proofs.Layers.{written_rolled, parts_of}
use Rattle.hl_texts.proofs.Standing.{Items}
use Rattle.hl_values.proofs.Coding.{besides}
use Rattle.hl_values.proofs.Lists.{mapped}

-- the values that an expression is are nested at most so deep
abbrev pub Shallow : ℕ → Expr → Type 0
Shallow depth e = (k : HlType) (v : HlValue) → written e k ≡ Some v → nesting v ≤ depth

abbrev AllShallow : ℕ → List Expr → Type 0
AllShallow depth [] = Unit {0}
AllShallow depth (e ∷ es) = Shallow depth e × AllShallow depth es

one_more : (depth : ℕ) (es : List Expr) (e : Expr) → AllShallow depth es → Shallow depth e → AllShallow depth (es ++ e ∷ [])
one_more depth [] e all h = (h, tt)
one_more depth (f ∷ es) e all h = (all.0, one_more depth es e all.1 h)

-- Items.

module _ (close : Symbol) (x : Part Expr) (depth : ℕ) (each : (ts : List Token) (e : Expr) (us : List Token) → x.Whole ts e us → Shallow depth e) where
  found_items : (found : Listed Expr) (es : List Expr) (is_open : Bool) → found ≡ record { items = es; is_open = is_open } → AllShallow depth es → AllShallow depth found.items
  found_items found es is_open is all = subst (AllShallow depth) (sym (ap (λ (l : Listed Expr). l.items) is)) all

  items_shallow : (n : ℕ) (before : List Expr) (ts : List Token) (found : Listed Expr) (us : List Token) → AllShallow depth before → Items close x n before ts found us → AllShallow depth found.items
  items_shallow zero before ts found us all h = absurd h
  items_shallow (suc n) before ts found us all (inl h) = found_items found before true h.3.0 all
  items_shallow (suc n) before ts found us all (inr h) =
      let more = one_more depth before h.0 all (each ts h.0 h.1 h.2) in
      elim (h.3) [
        | inl g ↦ found_items found (before ++ h.0 ∷ []) false g.3.0 more
        | inr g ↦ items_shallow n (before ++ h.0 ∷ []) g.1 found us more g.3
      ]

-- One layer.

nesting_is : (w : HlValue-F HlValue) (v : HlValue) → roll-HlValue w ≡ v → nesting v ≡ nesting_step (map-HlValue HlValue ℕ nesting w)
nesting_is w v is = ap nesting (sym is) ∙ fold-roll-HlValue ℕ nesting_step w

-- the values that a form is at any layer of a type are nested at most so deep
abbrev ShallowForm : ℕ → ExprForm-F ExprForm Statement Arm Expr → Type 0
ShallowForm depth y = (x : HlType-F HlType) (v : HlValue) → form_at (parts_of y) x ≡ Some v → nesting v ≤ depth

by_form : (depth : ℕ) (y : ExprForm-F ExprForm Statement Arm Expr) (form : ExprForm) (span : Span) → roll-ExprForm y ≡ form → ShallowForm depth y → Shallow depth (expr_of form span)
by_form depth y form span is h k v e = h (out-HlType k) v (sym (written_rolled y (out-HlType k) form span k is (roll-out-HlType k)) ∙ e)

leaf_small : (depth : ℕ) (w : HlValue-F HlValue) (v u : HlValue) → roll-HlValue w ≡ u → v ≡ u → nesting_step (map-HlValue HlValue ℕ nesting w) ≡ 1 → nesting v ≤ suc depth
leaf_small depth w v u rolls is one = let n = ap nesting is ∙ nesting_is w u rolls ∙ one in omega arith

true_shallow : (depth : ℕ) → ShallowForm (suc depth) ExprForm-F.True
true_shallow depth HlType-F.Bool v h = let is : v ≡ value.Bool true = cc in leaf_small depth (HlValue-F.Bool true) v (value.Bool true) (value.rolls-Bool true) is refl
true_shallow depth _ v h = absurd (cc)

false_shallow : (depth : ℕ) → ShallowForm (suc depth) ExprForm-F.False
false_shallow depth HlType-F.Bool v h = let is : v ≡ value.Bool false = cc in leaf_small depth (HlValue-F.Bool false) v (value.Bool false) (value.rolls-Bool false) is refl
false_shallow depth _ v h = absurd (cc)

nothing_shallow : (depth : ℕ) → ShallowForm (suc depth) ExprForm-F.Nothing
nothing_shallow depth (HlType-F.Option item) v h = let is : v ≡ value.Nothing = cc in leaf_small depth HlValue-F.Nothing v value.Nothing value.rolls-Nothing is refl
nothing_shallow depth _ v h = absurd (cc)

literal_shallow : (depth : ℕ) (word : List ℕ) → ShallowForm (suc depth) (ExprForm-F.Literal word)
literal_shallow depth word (HlType-F.UInt width) v h = there (nat_lt (literal_value word) (2 ^ width)) refl
  where
    there : (t : Bool) → nat_lt (literal_value word) (2 ^ width) ≡ t → nesting v ≤ suc depth
    there true e =
        let h' = rw e at h in
        let u : Unsigned = record { width = width; number = literal_value word } in
        leaf_small depth (HlValue-F.Number u) v (value.Number u) (value.rolls-Number u) (let is : v ≡ value.Number (let w : Unsigned = record { width = width; number = literal_value word } in w) = cc in is) refl
    there false e = let h' = rw e at h in absurd (cc)
literal_shallow depth word _ v h = absurd (cc)

module _ (depth : ℕ) (e : Expr) (small : Shallow depth e) where
  some_shallow : ShallowForm (suc depth) (ExprForm-F.Some e)
  some_shallow (HlType-F.Option item) v h = let m = mapped value.Some (written e item) v h in omega (arith, small item m.from m.was, ap nesting m.is, nesting_is (HlValue-F.Some m.from) (value.Some m.from) (value.rolls-Some m.from))
  some_shallow _ v h = absurd (cc)

  left_shallow : ShallowForm (suc depth) (ExprForm-F.Left e)
  left_shallow (HlType-F.Either one other) v h = let m = mapped value.Left (written e one) v h in omega (arith, small one m.from m.was, ap nesting m.is, nesting_is (HlValue-F.Left m.from) (value.Left m.from) (value.rolls-Left m.from))
  left_shallow _ v h = absurd (cc)

  right_shallow : ShallowForm (suc depth) (ExprForm-F.Right e)
  right_shallow (HlType-F.Either one other) v h = let m = mapped value.Right (written e other) v h in omega (arith, small other m.from m.was, ap nesting m.is, nesting_is (HlValue-F.Right m.from) (value.Right m.from) (value.rolls-Right m.from))
  right_shallow _ v h = absurd (cc)

each_small : (depth : ℕ) (es : List Expr) (ks : List HlType) (vs : List HlValue) → AllShallow depth es → each_at (map written es) ks ≡ Some vs → greatest (map nesting vs) ≤ depth
each_small depth [] [] vs all h = let e : vs ≡ [] = cc in rw e (omega arith)
each_small depth [] (k ∷ ks) vs all h = absurd (cc)
each_small depth (e ∷ es) [] vs all h = absurd (cc)
each_small depth (e ∷ es) (k ∷ ks) vs all h =
    let b = besides (λ v vs. v ∷ vs) (written e k) (each_at (map written es) ks) vs h in
    let one = all.0 k b.left b.left_was in
    let rest = each_small depth es ks b.right all.1 b.right_was in
    rw b.is (omega arith)

all_small : (depth : ℕ) (es : List Expr) (k : HlType) (vs : List HlValue) → AllShallow depth es → all_at (map written es) k ≡ Some vs → greatest (map nesting vs) ≤ depth
all_small depth [] k vs all h = let e : vs ≡ [] = cc in rw e (omega arith)
all_small depth (e ∷ es) k vs all h =
    let b = besides (λ v vs. v ∷ vs) (written e k) (all_at (map written es) k) vs h in
    let one = all.0 k b.left b.left_was in
    let rest = all_small depth es k b.right all.1 b.right_was in
    rw b.is (omega arith)

module _ (depth : ℕ) (es : List Expr) (small : AllShallow depth es) where
  tuple_shallow : ShallowForm (suc depth) (ExprForm-F.Tuple es)
  tuple_shallow (HlType-F.Tuple ks) v h =
      let m = mapped value.Tuple (each_at (map written es) ks) v h in
      omega (arith, each_small depth es ks m.from small m.was, ap nesting m.is, nesting_is (HlValue-F.Tuple m.from) (value.Tuple m.from) (value.rolls-Tuple m.from))
  tuple_shallow _ v h = absurd (cc)

  array_shallow : ShallowForm (suc depth) (ExprForm-F.Array es)
  array_shallow (HlType-F.Array item count) v h = there (nat_eq (length (map written es)) count) refl
    where
      there : (t : Bool) → nat_eq (length (map written es)) count ≡ t → nesting v ≤ suc depth
      there true e =
          let m = mapped value.Array (all_at (map written es) item) v (rw e at h) in
          omega (arith, all_small depth es item m.from small m.was, ap nesting m.is, nesting_is (HlValue-F.Array m.from) (value.Array m.from) (value.rolls-Array m.from))
      there false e = let h' = rw e at h in absurd (cc)
  array_shallow _ v h = absurd (cc)

  list_shallow : ShallowForm (suc depth) (ExprForm-F.List es)
  list_shallow (HlType-F.List item bound) v h = there (nat_lt (length (map written es)) bound) refl
    where
      there : (t : Bool) → nat_lt (length (map written es)) bound ≡ t → nesting v ≤ suc depth
      there true e =
          let m = mapped value.List (all_at (map written es) item) v (rw e at h) in
          omega (arith, all_small depth es item m.from small m.was, ap nesting m.is, nesting_is (HlValue-F.List m.from) (value.List m.from) (value.rolls-List m.from))
      there false e = let h' = rw e at h in absurd (cc)
  list_shallow _ v h = absurd (cc)

-- An expression one level up.

module _ (depth : ℕ) (below : (ts : List Token) (e : Expr) (us : List Token) → (grammar.value depth).Whole ts e us → Shallow depth e) where
  shallow_at : (e f : Expr) (d : ℕ) → e ≡ f → Shallow d f → Shallow d e
  shallow_at e f d is h = subst (Shallow d) (sym is) h

  form_shallow : (l : ExprAlternative) (form : ExprForm) (span : Span) (ts us : List Token) → (allowed_form (grammar.value depth) (type depth) (pattern depth) of_values l).Whole ts form us → Shallow (suc depth) (expr_of form span)
  form_shallow expr_as.True form span ts us h = by_form (suc depth) ExprForm-F.True form span (exprs.rolls-True ∙ sym h.3.0) (true_shallow depth)
  form_shallow expr_as.False form span ts us h = by_form (suc depth) ExprForm-F.False form span (exprs.rolls-False ∙ sym h.3.0) (false_shallow depth)
  form_shallow expr_as.Nothing form span ts us h = by_form (suc depth) ExprForm-F.Nothing form span (exprs.rolls-Nothing ∙ sym h.3.0) (nothing_shallow depth)
  form_shallow expr_as.Literal form span ts us h = by_form (suc depth) (ExprForm-F.Literal h.0.text) form span (exprs.rolls-Literal h.0.text ∙ sym h.3.0) (literal_shallow depth h.0.text)
  form_shallow expr_as.Some form span ts us h =
      let inner = h.3.2.3 in
      let small = shallow_at h.3.0 inner.0 depth inner.3.3.0 (below _ inner.0 _ inner.2) in
      by_form (suc depth) (ExprForm-F.Some h.3.0) form span (exprs.rolls-Some h.3.0 ∙ sym h.3.3.0) (some_shallow depth h.3.0 small)
  form_shallow expr_as.Left form span ts us h =
      let inner = h.3.2.3 in
      let small = shallow_at h.3.0 inner.0 depth inner.3.3.0 (below _ inner.0 _ inner.2) in
      by_form (suc depth) (ExprForm-F.Left h.3.0) form span (exprs.rolls-Left h.3.0 ∙ sym h.3.3.0) (left_shallow depth h.3.0 small)
  form_shallow expr_as.Right form span ts us h =
      let inner = h.3.2.3 in
      let small = shallow_at h.3.0 inner.0 depth inner.3.3.0 (below _ inner.0 _ inner.2) in
      by_form (suc depth) (ExprForm-F.Right h.3.0) form span (exprs.rolls-Right h.3.0 ∙ sym h.3.3.0) (right_shallow depth h.3.0 small)
  form_shallow expr_as.Array form span ts us h =
      let l = h.2.3 in
      let items = items_shallow CloseBracket (grammar.value depth) depth below l.2.0 [] _ l.0 _ tt l.2.1 in
      let small = subst (AllShallow depth) (sym l.3.0) items in
      by_form (suc depth) (ExprForm-F.Array h.0) form span (exprs.rolls-Array h.0 ∙ sym h.3.0) (array_shallow depth h.0 small)
  form_shallow expr_as.List form span ts us h =
      let b = h.3.3 in
      let l = b.2.3 in
      let items = items_shallow CloseBracket (grammar.value depth) depth below l.2.0 [] _ l.0 _ tt l.2.1 in
      let small = subst (AllShallow depth) (sym l.3.0) items in
      by_form (suc depth) (ExprForm-F.List b.0) form span (exprs.rolls-List b.0 ∙ sym b.3.0) (list_shallow depth b.0 small)
  form_shallow _ form span ts us h = absurd h

  alone_shallow : (es : List Expr) (is_open : Bool) (span : Span) → AllShallow depth es → Shallow (suc depth) (alone_or (λ es. expr_of (exprs.Tuple es) span) es is_open)
  alone_shallow [] is_open span all = by_form (suc depth) (ExprForm-F.Tuple []) (exprs.Tuple []) span (exprs.rolls-Tuple []) (tuple_shallow depth [] all)
  alone_shallow (e ∷ []) false span all = λ k v h. omega (arith, all.0 k v h)
  alone_shallow (e ∷ []) true span all = by_form (suc depth) (ExprForm-F.Tuple (e ∷ [])) (exprs.Tuple (e ∷ [])) span (exprs.rolls-Tuple (e ∷ [])) (tuple_shallow depth (e ∷ []) all)
  alone_shallow (e ∷ f ∷ es) is_open span all = by_form (suc depth) (ExprForm-F.Tuple (e ∷ f ∷ es)) (exprs.Tuple (e ∷ f ∷ es)) span (exprs.rolls-Tuple (e ∷ f ∷ es)) (tuple_shallow depth (e ∷ f ∷ es) all)

  level_shallow : (ts : List Token) (e : Expr) (us : List Token) → (grammar.value (suc depth)).Whole ts e us → Shallow (suc depth) e
  level_shallow ts e us (inl h) =
      let l = h.3.0 in
      let inner = h.3.2.3 in
      let items = items_shallow CloseParenthesis (grammar.value depth) depth below inner.0 [] _ l _ tt inner.1 in
      shallow_at e _ (suc depth) h.3.3.3.0 (alone_shallow l.items l.is_open _ items)
  level_shallow ts e us (inr h) = shallow_at e _ (suc depth) h.3.3.3.0 (form_shallow h.3.2.0 h.3.0 _ _ _ h.3.2.1)

pub shallow : (depth : ℕ) (ts : List Token) (e : Expr) (us : List Token) → (grammar.value depth).Whole ts e us → Shallow depth e
shallow zero ts e us h = absurd h
shallow (suc depth) ts e us h = level_shallow depth (shallow depth) ts e us h
