-- The whole grammar goes by the tokens alone, and its fronts can be completed.
use Rattle.std.proofs.Common.{◌≡◌, ℕ, zero, suc, ◌<◌, Bool, true, false, List, [], ◌∷◌, ◌++◌, length, refl, sym, ap, subst, ◌∙◌, ◌⊎◌, inl, inr, arith, None, codes}
use Rattle.hl_syntax.specs.declared.token.Span.{Span}
use Rattle.hl_syntax.specs.declared.token.Token.{Token}
use Rattle.hl_syntax.specs.declared.token.TokenKind.{TokenKind}
use Rattle.hl_syntax.specs.declared.token.TokenKind.TheVariants as kinds
use Rattle.hl_syntax.specs.declared.token.Symbol.{Symbol}
use Rattle.hl_syntax.specs.declared.token.Symbol.TheVariants.{OpenParenthesis, CloseParenthesis, OpenBrace, CloseBrace, OpenBracket, CloseBracket, Less, Greater, Comma, Semicolon, Colon, DoubleColon, Equals, FatArrow, Arrow, Exclamation, Underscore}
use Rattle.hl_syntax.specs.declared.tree.Param.{Param}
use Rattle.hl_syntax.specs.declared.tree.Item.{Item}
use Rattle.hl_syntax.specs.declared.tree.TypeText.{TypeText}
use Rattle.hl_syntax.specs.declared.tree.TypeForm.TheVariants as types
use Rattle.hl_syntax.specs.declared.tree.Pattern.{Pattern}
use Rattle.hl_syntax.specs.declared.tree.PatternForm.TheVariants as patterns
use Rattle.hl_syntax.specs.declared.tree.Statement.{Statement}
use Rattle.hl_syntax.specs.declared.tree.Statement.TheVariants as statements
use Rattle.hl_syntax.specs.declared.tree.Arm.{Arm}
use Rattle.hl_syntax.specs.declared.tree.Side.{Side}
use Rattle.hl_syntax.specs.declared.tree.Side.TheVariants as sides
use Rattle.hl_syntax.specs.declared.tree.Expr.{Expr}
use Rattle.hl_syntax.specs.declared.tree.ExprForm.{ExprForm}
use Rattle.hl_syntax.specs.declared.tree.ExprForm.TheVariants as exprs
use Rattle.simplicityhl.specs.declared.alternatives.ExprAlternative.{ExprAlternative}
use Rattle.simplicityhl.specs.declared.alternatives.ExprAlternative.TheVariants as expr_as
use Rattle.simplicityhl.specs.declared.alternatives.TypeAlternative.{TypeAlternative}
use Rattle.simplicityhl.specs.declared.alternatives.TypeAlternative.TheVariants as type_as
use Rattle.simplicityhl.specs.declared.alternatives.PatternAlternative.{PatternAlternative}
use Rattle.simplicityhl.specs.declared.alternatives.PatternAlternative.TheVariants as pattern_as
use Rattle.simplicityhl.specs.declared.alternatives.SideAlternative.{SideAlternative}
use Rattle.simplicityhl.specs.declared.alternatives.SideAlternative.TheVariants as side_as
use Rattle.simplicityhl.specs.Parts.{Part}
use Rattle.simplicityhl.specs.Parts as g
use Rattle.simplicityhl.specs.Grammar.{Listed, is_symbol, is_word, is_name, is_name_but, is_literal, applied_words, constants, mark, alone_or, pattern_of, type_of, expr_of, opens_block, of_values}
use Rattle.simplicityhl.specs.Grammar as grammar
use Rattle.hl_grammar.specs.Read.{kind_begins_pattern, kind_begins_type, kind_begins_expr, begins_pattern, begins_type, begins_expr, is_at, allowed_by}
use Rattle.hl_grammar.proofs.Alike.{Alike, Regular, Wholes, Fronts, Deeps, Any, Empty, part, no_tokens, done_any, here_alike, one_alike, after_alike, either_alike, one_of_alike, one_of_regular, never_empty, chosen_alike, turning_alike, at_index, spanned_alike, spanned, too_deep, Ending, end_ending, either_ending, after_ending, turning_ending}
use Rattle.hl_grammar.proofs.Patterns as patterns_read
use Rattle.hl_grammar.proofs.Types as types_read
use Rattle.hl_grammar.proofs.Forms as forms
use Rattle.hl_grammar.proofs.Programs as programs_read
use Rattle.hl_grammar.proofs.Exprs.{expr_at}

pub regular : {A : Type 0} {filling : List Token} {p p' : Part A} → Alike {I = Unit {0}} filling Any Any (λ i. p) (λ i. p') → Regular p p'
regular {filling} x = record { filling = filling; alike = x }

-- a family seen at other places
along : {I J A : Type 0} {filling : List Token} {R : J → J → Type 0} {P P' : I → Part A} (f : J → I) → Alike filling Any Any P P' → Alike filling R Any (λ j. P (f j)) (λ j. P' (f j))
along f x = record {
  whole = λ i ts a rest w. let h = x.whole (f i) ts a rest w in record { tokens = h.tokens; are = h.are; again = λ j r more. h.again (f j) tt more; deeper = λ j r more. h.deeper (f j) tt more; begun = λ us vs e j r more. h.begun us vs e (f j) tt more };
  front = λ i ts rest v. let h = x.front (f i) ts rest v in record { tokens = h.tokens; are = h.are; begun = λ us vs e j r more. h.begun us vs e (f j) tt more; tail = h.tail; complete = λ j r more. h.complete (f j) tt more };
  deep = λ i ts rest d. let h = x.deep (f i) ts rest d in record { tokens = h.tokens; are = h.are; again = λ j r more. h.again (f j) tt more; fronts = λ j r more. h.fronts (f j) tt more };
  fills = λ i more. x.fills (f i) more;
}

-- Single tokens.

-- a token of a kind
abbrev token : TokenKind → Token
token k = record { kind = k; span = record { start = 0; end = 0 } }

abbrev sign : Symbol → Token
sign s = token (kinds.Symbol s)

symbol : {I : Type 0} {R : I → I → Type 0} (s : Symbol) → is_symbol s (kinds.Symbol s) ≡ true → Alike (sign s ∷ []) R Any (λ (i : I). grammar.symbol s) (λ i. grammar.symbol s)
symbol s e = one_alike (is_symbol s) (λ t. tt) (sign s) e

word : {I : Type 0} {R : I → I → Type 0} (x : List ℕ) → is_word x (kinds.Name x) ≡ true → Alike (token (kinds.Name x) ∷ []) R Any (λ (i : I). grammar.word x) (λ i. grammar.word x)
word x e = one_alike (is_word x) (λ t. tt) (token (kinds.Name x)) e

name : {I : Type 0} {R : I → I → Type 0} → Alike (token (kinds.Name (codes "a")) ∷ []) R Any (λ (i : I). grammar.name) (λ i. grammar.name)
name = one_alike is_name mark (token (kinds.Name (codes "a"))) refl

name_but : {I : Type 0} {R : I → I → Type 0} (words : List (List ℕ)) → is_name_but words (kinds.Name (codes "a")) ≡ true → Alike (token (kinds.Name (codes "a")) ∷ []) R Any (λ (i : I). g.one (is_name_but words) mark) (λ i. g.one (is_name_but words) mark)
name_but words e = one_alike (is_name_but words) mark (token (kinds.Name (codes "a"))) e

decimal : {I : Type 0} {R : I → I → Type 0} → Alike (token (kinds.Literal (codes "0")) ∷ []) R Any (λ (i : I). grammar.decimal) (λ i. grammar.decimal)
decimal = one_alike grammar.is_decimal mark (token (kinds.Literal (codes "0"))) refl

literal : {I : Type 0} {R : I → I → Type 0} → Alike (token (kinds.Literal (codes "0")) ∷ []) R Any (λ (i : I). g.one is_literal mark) (λ i. g.one is_literal mark)
literal = one_alike is_literal mark (token (kinds.Literal (codes "0"))) refl

-- Lists.

many : {A : Type 0} {p p' : Part A} (close : Symbol) → is_symbol close (kinds.Symbol close) ≡ true → Regular p p' → Regular (grammar.many close p) (grammar.many close p')
many {A} {p} {p'} close itself x = at_index [] (turning_alike {turn = grammar.many_turn close p} {turn' = grammar.many_turn close p'} turn (λ found more. (record { items = found; is_open = true }, inl (tt, more, (sign close, refl, itself, refl), (refl, refl))))) where
  turn : (P P' : List A → Part (Listed A)) → Alike (sign close ∷ []) Any Any P P' → Alike (sign close ∷ []) Any Any (grammar.many_turn close p P) (grammar.many_turn close p' P')
  turn P P' more =
      either_alike (after_alike (symbol close itself) (done_any _ _))
      (after_alike (part x) (either_alike (after_alike (symbol close itself) (done_any _ _)) (after_alike (symbol Comma refl) (along (λ i. i.0.0 ++ i.0.1 ∷ []) more))))

parenthesised : {A : Type 0} {p p' : Part A} (tuple : List A → Span → A) → Regular p p' → Regular (grammar.parenthesised tuple p) (grammar.parenthesised tuple p')
parenthesised tuple x = spanned (λ l span. alone_or (λ xs. tuple xs span) l.items l.is_open) (regular (after_alike (symbol OpenParenthesis refl) (part (many CloseParenthesis refl x))))

abbrev parentheses : List Token
parentheses = sign OpenParenthesis ∷ sign CloseParenthesis ∷ []

-- nothing in parentheses
unit : {A : Type 0} (tuple : List A → Span → A) (p : Part A) (more : List Token) → (a : A) × (grammar.parenthesised tuple p).Whole (sign OpenParenthesis ∷ sign CloseParenthesis ∷ more) a more
unit {A} tuple p more =
    let l : Listed A = record { items = []; is_open = true } in
    let ts : List Token = sign OpenParenthesis ∷ sign CloseParenthesis ∷ more in
    (tuple [] (g.span_between ts more), (ts, ts, (refl, refl), (l, more, (tt, sign CloseParenthesis ∷ more, (sign OpenParenthesis, refl, refl, refl), (suc zero, inl (tt, more, (sign CloseParenthesis, refl, refl, refl), (refl, refl)))), (more, more, (refl, refl), (refl, refl)))))

-- Patterns.

pattern_level : {p p' : Part Pattern} → Regular p p' → Regular (grammar.pattern_level p) (grammar.pattern_level p')
pattern_level {p} {p'} x = regular (either_alike (part (parenthesised (λ ps. pattern_of (patterns.Tuple ps)) x)) (part (spanned pattern_of (one_of_regular pattern_as.Name form)))) where
  form : (l : PatternAlternative) → Regular (grammar.pattern_form p l) (grammar.pattern_form p' l)
  form pattern_as.Name = regular (after_alike name (done_any _ _))
  form pattern_as.Ignore = regular (after_alike (symbol Underscore refl) (done_any _ _))
  form pattern_as.Array = regular (after_alike (symbol OpenBracket refl) (after_alike (part (many CloseBracket refl x)) (done_any _ _)))

pub pattern : (depth : ℕ) → Regular (grammar.pattern depth) (grammar.pattern (suc depth))
unfolding begins_pattern
pattern zero = too_deep kind_begins_pattern patterns_read.shows_none (patterns_read.opens g.never).front (patterns_read.opens (grammar.pattern zero)).front parentheses (λ more. let u = unit (λ ps. pattern_of (patterns.Tuple ps)) (grammar.pattern zero) more in (u.0, inl u.1))
pattern (suc depth) = pattern_level (pattern depth)

-- Types.

type_level : {p p' : Part TypeText} → Regular p p' → Regular (grammar.type_level p) (grammar.type_level p')
type_level {p} {p'} x = regular (either_alike (part (parenthesised (λ ts. type_of (types.Tuple ts)) x)) (part (spanned type_of (one_of_regular type_as.Name form)))) where
  form : (l : TypeAlternative) → Regular (grammar.type_form p l) (grammar.type_form p' l)
  form type_as.Array = regular (after_alike (symbol OpenBracket refl) (after_alike (part x) (after_alike (symbol Semicolon refl) (after_alike decimal (after_alike (symbol CloseBracket refl) (done_any _ _))))))
  form type_as.List = regular (after_alike (word (codes "List") refl) (after_alike (symbol Less refl) (after_alike (part x) (after_alike (symbol Comma refl) (after_alike decimal (after_alike (symbol Greater refl) (done_any _ _)))))))
  form type_as.Option = regular (after_alike (word (codes "Option") refl) (after_alike (symbol Less refl) (after_alike (part x) (after_alike (symbol Greater refl) (done_any _ _)))))
  form type_as.Either = regular (after_alike (word (codes "Either") refl) (after_alike (symbol Less refl) (after_alike (part x) (after_alike (symbol Comma refl) (after_alike (part x) (after_alike (symbol Greater refl) (done_any _ _)))))))
  form type_as.Name = regular (after_alike name (done_any _ _))

pub type : (depth : ℕ) → Regular (grammar.type depth) (grammar.type (suc depth))
unfolding begins_type
type zero = too_deep kind_begins_type types_read.shows_none (types_read.opens g.never).front (types_read.opens (grammar.type zero)).front parentheses (λ more. let u = unit (λ ts. type_of (types.Tuple ts)) (grammar.type zero) more in (u.0, inl u.1))
type (suc depth) = type_level (type depth)

-- Expressions.

-- two arms without a comma whose bodies are both blocks or both none
abbrev SameBlock : (Span → Arm) × Bool → (Span → Arm) × Bool → Type 0
SameBlock a b = a.1 ≡ b.1

-- a body of some tokens is a block or not whatever follows it
same_block : (tokens rest more : List Token) → length rest < length (tokens ++ rest) → opens_block (tokens ++ rest) ≡ opens_block (tokens ++ more)
same_block [] rest more some = absurd (omega arith)
same_block (t ∷ tokens) rest more some = refl

module _ (e e' : Part Expr) (x : Regular e e') (takes : (ts : List Token) (a : Expr) (rest : List Token) → e.Whole ts a rest → length rest < length ts)
    (t t' : Part TypeText) (tx : Regular t t') (q q' : Part Pattern) (qx : Regular q q') where
  in_parentheses : Regular (grammar.in_parentheses e t q) (grammar.in_parentheses e' t' q')
  in_parentheses = regular (after_alike (symbol OpenParenthesis refl) (after_alike (part x) (after_alike (symbol CloseParenthesis refl) (done_any _ _))))

  in_brackets : Regular (grammar.in_brackets e t q) (grammar.in_brackets e' t' q')
  in_brackets = regular (after_alike (symbol OpenBracket refl) (after_alike (part (many CloseBracket refl x)) (done_any _ _)))

  arguments : Regular (grammar.arguments e t q) (grammar.arguments e' t' q')
  arguments = regular (after_alike (symbol OpenParenthesis refl) (after_alike (part (many CloseParenthesis refl x)) (done_any _ _)))

  two_arguments : Regular (grammar.two_arguments e t q) (grammar.two_arguments e' t' q')
  two_arguments =
      regular (after_alike (symbol OpenParenthesis refl) (after_alike (part x) (after_alike (symbol Comma refl) (after_alike (part x)
      (either_alike (after_alike (symbol Comma refl) (after_alike (symbol CloseParenthesis refl) (done_any _ _))) (after_alike (symbol CloseParenthesis refl) (done_any _ _)))))))

  type_argument : Regular (grammar.type_argument e t q) (grammar.type_argument e' t' q')
  type_argument = regular (after_alike (symbol DoubleColon refl) (after_alike (symbol Less refl) (after_alike (part tx) (after_alike (symbol Greater refl) (done_any _ _)))))

  counted_function : Regular (grammar.counted_function e t q) (grammar.counted_function e' t' q')
  counted_function = regular (after_alike (symbol DoubleColon refl) (after_alike (symbol Less refl) (after_alike name (after_alike (symbol Comma refl) (after_alike decimal (after_alike (symbol Greater refl) (done_any _ _)))))))

  path_name : Regular (grammar.path_name e t q) (grammar.path_name e' t' q')
  path_name = regular (after_alike (symbol DoubleColon refl) name)

  let_statement : Regular (grammar.let_statement e t q) (grammar.let_statement e' t' q')
  let_statement =
      spanned {A = Span → Statement} (λ make span. make span)
      (regular (after_alike (word (codes "let") refl) (after_alike (part qx) (after_alike (symbol Colon refl) (after_alike (part tx) (after_alike (symbol Equals refl) (after_alike (part x) (done_any _ _))))))))

  block_turn : (P P' : List Statement → Part ExprForm) → Alike (sign CloseBrace ∷ []) Any Any P P' → Alike (sign CloseBrace ∷ []) Any Any (grammar.block_turn e t q P) (grammar.block_turn e' t' q' P')
  block_turn P P' more =
      either_alike (after_alike (symbol CloseBrace refl) (done_any _ _))
      (either_alike (after_alike (part let_statement) (after_alike (symbol Semicolon refl) (along (λ i. i.0.0 ++ i.0.1 ∷ []) more)))
      (after_alike (part x) (either_alike (after_alike (symbol Semicolon refl) (along (λ i. i.0.0 ++ statements.Plain i.0.1 ∷ []) more)) (after_alike (symbol CloseBrace refl) (done_any _ _)))))

  pub block : Regular (grammar.block e t q) (grammar.block e' t' q')
  block =
      regular (after_alike (symbol OpenBrace refl) (part (at_index [] (turning_alike {turn = grammar.block_turn e t q} {turn' = grammar.block_turn e' t' q'} block_turn
      (λ found more. (exprs.Block found None, inl (tt, more, (sign CloseBrace, refl, refl, refl), (refl, refl))))))))

  -- Arms.

  binding : (make : Pattern → TypeText → Side) → Regular (grammar.binding make q t) (grammar.binding make q' t')
  binding make = regular (after_alike (symbol OpenParenthesis refl) (after_alike (part qx) (after_alike (symbol Colon refl) (after_alike (part tx) (after_alike (symbol CloseParenthesis refl) (done_any _ _))))))

  side : (l : SideAlternative) → Regular (grammar.side_form q t l) (grammar.side_form q' t' l)
  side side_as.Left = regular (after_alike (word (codes "Left") refl) (part (binding sides.Left)))
  side side_as.Right = regular (after_alike (word (codes "Right") refl) (part (binding sides.Right)))
  side side_as.Some = regular (after_alike (word (codes "Some") refl) (part (binding sides.Some)))
  side side_as.Nothing = regular (after_alike (word (codes "None") refl) (done_any _ _))
  side side_as.True = regular (after_alike (word (codes "true") refl) (done_any _ _))
  side side_as.False = regular (after_alike (word (codes "false") refl) (done_any _ _))

  -- the body of an arm, and whether it is a block
  abbrev body_of_arm : Part Expr → (Expr → Span → Arm) → Part ((Span → Arm) × Bool)
  body_of_arm p make = g.◌>>=◌ g.here (λ body. g.◌>>=◌ p (λ v. g.done (make v, opens_block body)))

  -- the body that stands, and whether it is a block
  record Body (make : Expr → Span → Arm) (ts : List Token) (a : (Span → Arm) × Bool) (rest : List Token) : Type 0 where
    value : Expr
    stands : e.Whole ts value rest
    told : a.1 ≡ opens_block ts

  body : (make : Expr → Span → Arm) (ts : List Token) (a : (Span → Arm) × Bool) (rest : List Token) → (body_of_arm e make).Whole ts a rest → Body make ts a rest
  body make ts a rest w = record {
    value = w.3.0;
    stands = subst (λ us. e.Whole us w.3.0 rest) w.2.1 (subst (λ us. e.Whole w.1 w.3.0 us) (sym w.3.3.1) w.3.2);
    told = ap (λ b. b.1) w.3.3.0 ∙ ap opens_block w.2.0;
  }

  body_stands : (p : Part Expr) (make : Expr → Span → Arm) (ts : List Token) (v : Expr) (rest : List Token) → p.Whole ts v rest → (body_of_arm p make).Whole ts (make v, opens_block ts) rest
  body_stands p make ts v rest w = (ts, ts, (refl, refl), (v, rest, w, (refl, refl)))

  body_front : (p : Part Expr) (make : Expr → Span → Arm) (ts rest : List Token) → p.Front ts rest → (body_of_arm p make).Front ts rest
  body_front p make ts rest f = inr (ts, ts, (refl, refl), inl f)

  body_alike : {I : Type 0} {R : I → I → Type 0} (make : I → Expr → Span → Arm) → Alike x.filling R SameBlock (λ i. body_of_arm e (make i)) (λ i. body_of_arm e' (make i))
  body_alike {I} {R} make = record {
    whole = λ i ts a rest w. whole i ts a rest (body (make i) ts a rest w);
    front = λ i ts rest f. elim f [
      | inl h ↦ no_tokens x.filling (λ j more. inl refl) fill i ts rest h
      | inr u ↦ elim u.3 [
        | inl h ↦ front i ts rest (subst (λ us. e.Front us rest) u.2.1 h)
        | inr v ↦ whole_front i ts v.0 rest (subst (λ us. e.Whole us v.0 rest) u.2.1 (subst (λ us. e.Whole u.1 v.0 us) (sym v.3) v.2))
      ]
    ];
    deep = λ i ts rest d. elim d [
      | inl h ↦ absurd h
      | inr u ↦ elim u.3 [ inl h ↦ deep i ts rest (subst (λ us. e.Deep us rest) u.2.1 h) | inr v ↦ absurd v.3 ]
    ];
    fills = fill;
  } where
    fill : (i : I) (more : List Token) → (a : (Span → Arm) × Bool) × (body_of_arm e' (make i)).Whole (x.filling ++ more) a more
    fill i more = let v = x.alike.fills tt more in ((make i v.0, opens_block (x.filling ++ more)), body_stands e' (make i) (x.filling ++ more) v.0 more v.1)

    whole : (i : I) (ts : List Token) (a : (Span → Arm) × Bool) (rest : List Token) → Body (make i) ts a rest → Wholes R SameBlock (λ k. body_of_arm e (make k)) (λ k. body_of_arm e' (make k)) i ts a rest
    whole i ts a rest b =
        let h = x.alike.whole tt ts b.value rest b.stands in
        let some : length rest < length (h.tokens ++ rest) = subst (λ us. length rest < length us) h.are (takes ts b.value rest b.stands) in
        record {
          tokens = h.tokens;
          are = h.are;
          again = λ j r more. let v = h.again tt tt more in ((make j v.0, opens_block (h.tokens ++ more)), body_stands e (make j) (h.tokens ++ more) v.0 more v.1, b.told ∙ ap opens_block h.are ∙ same_block h.tokens rest more some);
          deeper = λ j r more. let v = h.deeper tt tt more in ((make j v.0, opens_block (h.tokens ++ more)), body_stands e' (make j) (h.tokens ++ more) v.0 more v.1, b.told ∙ ap opens_block h.are ∙ same_block h.tokens rest more some);
          begun = λ us vs k j r more. body_front e (make j) (us ++ more) more (h.begun us vs k tt tt more);
        }

    front : (i : I) (ts rest : List Token) → e.Front ts rest → Fronts R (λ k. body_of_arm e (make k)) (λ k. body_of_arm e' (make k)) i ts rest
    front i ts rest f = let h = x.alike.front tt ts rest f in record {
      tokens = h.tokens;
      are = h.are;
      begun = λ us vs k j r more. body_front e (make j) (us ++ more) more (h.begun us vs k tt tt more);
      tail = h.tail;
      complete = λ j r more. let v = h.complete tt tt more in ((make j v.0, opens_block (h.tokens ++ (h.tail ++ more))), body_stands e' (make j) (h.tokens ++ (h.tail ++ more)) v.0 more v.1);
    }

    whole_front : (i : I) (ts : List Token) (v : Expr) (rest : List Token) → e.Whole ts v rest → Fronts R (λ k. body_of_arm e (make k)) (λ k. body_of_arm e' (make k)) i ts rest
    whole_front i ts v rest w = let h = x.alike.whole tt ts v rest w in record {
      tokens = h.tokens;
      are = h.are;
      begun = λ us vs k j r more. body_front e (make j) (us ++ more) more (h.begun us vs k tt tt more);
      tail = [];
      complete = λ j r more. let u = h.deeper tt tt more in ((make j u.0, opens_block (h.tokens ++ more)), body_stands e' (make j) (h.tokens ++ more) u.0 more u.1);
    }

    deep : (i : I) (ts rest : List Token) → e.Deep ts rest → Deeps R (λ k. body_of_arm e (make k)) (λ k. body_of_arm e' (make k)) i ts rest
    deep i ts rest d = let h = x.alike.deep tt ts rest d in record { tokens = h.tokens; are = h.are; again = λ j r more. inr (h.tokens ++ more, h.tokens ++ more, (refl, refl), inl (h.again tt tt more)); fronts = λ j r more. body_front e' (make j) (h.tokens ++ more) more (h.fronts tt tt more) }

  arms_turn : (P P' : List Arm → Part (List Arm)) → Alike (sign CloseBrace ∷ []) Any Any P P' → Alike (sign CloseBrace ∷ []) Any Any (grammar.arms_turn e t q P) (grammar.arms_turn e' t' q' P')
  arms_turn P P' more =
      either_alike (after_alike (symbol CloseBrace refl) (done_any _ _))
      (after_alike here_alike (after_alike {S = SameBlock}
      (after_alike (part (one_of_regular side_as.Nothing side)) (after_alike (symbol FatArrow refl) (body_alike (λ i v span. record { side = i.0.1; body = v; span = span }))))
      (either_alike
      (after_alike (symbol Comma refl) (after_alike here_alike (along (λ i. i.0.0.0.0 ++ i.0.0.1.0 (g.span_between i.0.0.0.1 i.1) ∷ []) more)))
      (after_alike here_alike (chosen_alike (λ i. i.0.1.1) (λ i j r. r.0.1) (along (λ i. i.0.0.0 ++ i.0.1.0 (g.span_between i.0.0.1 i.1) ∷ []) more) (after_alike (symbol CloseBrace refl) (done_any _ _)))))))

  arms : Regular (grammar.arms e t q) (grammar.arms e' t' q')
  arms =
      regular (after_alike (symbol OpenBrace refl) (part (at_index [] (turning_alike {turn = grammar.arms_turn e t q} {turn' = grammar.arms_turn e' t' q'} arms_turn
      (λ found more. (found, inl (tt, more, (sign CloseBrace, refl, refl, refl), (refl, refl))))))))

  -- The alternatives.

  form : (l : ExprAlternative) → Regular (grammar.expr_form e t q l) (grammar.expr_form e' t' q' l)
  form expr_as.Block = block
  form expr_as.Match = regular (after_alike (word (codes "match") refl) (after_alike (part x) (after_alike (part arms) (done_any _ _))))
  form expr_as.Array = regular (after_alike (part in_brackets) (done_any _ _))
  form expr_as.List = regular (after_alike (word (codes "list") refl) (after_alike (symbol Exclamation refl) (after_alike (part in_brackets) (done_any _ _))))
  form expr_as.Assert = regular (after_alike (word (codes "assert") refl) (after_alike (symbol Exclamation refl) (after_alike (part in_parentheses) (done_any _ _))))
  form expr_as.Dbg = regular (after_alike (word (codes "dbg") refl) (after_alike (symbol Exclamation refl) (after_alike (part in_parentheses) (done_any _ _))))
  form expr_as.Panic = regular (after_alike (word (codes "panic") refl) (after_alike (symbol Exclamation refl) (after_alike (symbol OpenParenthesis refl) (after_alike (symbol CloseParenthesis refl) (done_any _ _)))))
  form expr_as.Jet = regular (after_alike (word (codes "jet") refl) (after_alike (part path_name) (after_alike (part arguments) (done_any _ _))))
  form expr_as.Witness = regular (after_alike (word (codes "witness") refl) (after_alike (part path_name) (done_any _ _)))
  form expr_as.Param = regular (after_alike (word (codes "param") refl) (after_alike (part path_name) (done_any _ _)))
  form expr_as.Into = regular (after_alike (symbol Less refl) (after_alike (part tx) (after_alike (symbol Greater refl) (after_alike (symbol DoubleColon refl) (after_alike (word (codes "into") refl) (after_alike (part in_parentheses) (done_any _ _)))))))
  form expr_as.Unwrap = regular (after_alike (word (codes "unwrap") refl) (after_alike (part in_parentheses) (done_any _ _)))
  form expr_as.UnwrapLeft = regular (after_alike (word (codes "unwrap_left") refl) (after_alike (part type_argument) (after_alike (part in_parentheses) (done_any _ _))))
  form expr_as.UnwrapRight = regular (after_alike (word (codes "unwrap_right") refl) (after_alike (part type_argument) (after_alike (part in_parentheses) (done_any _ _))))
  form expr_as.IsNone = regular (after_alike (word (codes "is_none") refl) (after_alike (part type_argument) (after_alike (part in_parentheses) (done_any _ _))))
  form expr_as.Fold = regular (after_alike (word (codes "fold") refl) (after_alike (part counted_function) (after_alike (part two_arguments) (done_any _ _))))
  form expr_as.ArrayFold = regular (after_alike (word (codes "array_fold") refl) (after_alike (part counted_function) (after_alike (part two_arguments) (done_any _ _))))
  form expr_as.ForWhile = regular (after_alike (word (codes "for_while") refl) (after_alike (symbol DoubleColon refl) (after_alike (symbol Less refl) (after_alike name (after_alike (symbol Greater refl) (after_alike (part two_arguments) (done_any _ _)))))))
  form expr_as.Left = regular (after_alike (word (codes "Left") refl) (after_alike (part in_parentheses) (done_any _ _)))
  form expr_as.Right = regular (after_alike (word (codes "Right") refl) (after_alike (part in_parentheses) (done_any _ _)))
  form expr_as.Some = regular (after_alike (word (codes "Some") refl) (after_alike (part in_parentheses) (done_any _ _)))
  form expr_as.Nothing = regular (after_alike (word (codes "None") refl) (done_any _ _))
  form expr_as.True = regular (after_alike (word (codes "true") refl) (done_any _ _))
  form expr_as.False = regular (after_alike (word (codes "false") refl) (done_any _ _))
  form expr_as.Literal = regular (after_alike literal (done_any _ _))
  form expr_as.Call = regular (after_alike (name_but applied_words refl) (after_alike (part arguments) (done_any _ _)))
  form expr_as.Name = regular (after_alike (name_but constants refl) (done_any _ _))

  -- an alternative that is allowed, or none
  allowed_form : (ok : Bool) (l : ExprAlternative) → ((filling : List Token) × Alike {I = Unit {0}} filling Any Any (λ i. g.chosen ok (grammar.expr_form e t q l) g.never) (λ i. g.chosen ok (grammar.expr_form e' t' q' l) g.never)) ⊎ ((i : Unit {0}) → Empty (g.chosen ok (grammar.expr_form e t q l) g.never))
  allowed_form true l = inl ((form l).filling, (form l).alike)
  allowed_form false l = inr (λ i. never_empty)

  pub expr_level : (allowed : ExprAlternative → Bool) → allowed expr_as.Literal ≡ true → Regular (grammar.expr_level e t q allowed) (grammar.expr_level e' t' q' allowed)
  expr_level allowed literals =
      regular (either_alike (part (parenthesised (λ es. expr_of (exprs.Tuple es)) x))
      (spanned_alike expr_of (one_of_alike expr_as.Literal (by_choice (allowed expr_as.Literal) literals) (λ l. allowed_form (allowed l) l))))
    where
      by_choice : (ok : Bool) → ok ≡ true → Alike {I = Unit {0}} (form expr_as.Literal).filling Any Any (λ i. g.chosen ok (grammar.expr_form e t q expr_as.Literal) g.never) (λ i. g.chosen ok (grammar.expr_form e' t' q' expr_as.Literal) g.never)
      by_choice true h = (form expr_as.Literal).alike
      by_choice false h = absurd (let no : ⊥ = cc in no)

-- an expression has a token
expr_takes : (only : Bool) (depth : ℕ) (ts : List Token) (a : Expr) (rest : List Token) → (grammar.expr_of_only (allowed_by only) depth).Whole ts a rest → length rest < length ts
expr_takes only depth ts a rest w = let h = (expr_at only depth depth (suc (length ts))).takes ts a rest (omega arith) w in omega arith

literals_allowed : (only : Bool) → allowed_by only expr_as.Literal ≡ true
literals_allowed true = refl
literals_allowed false = refl

pub expr : (only : Bool) (depth : ℕ) → Regular (grammar.expr_of_only (allowed_by only) depth) (grammar.expr_of_only (allowed_by only) (suc depth))
unfolding begins_expr
expr only zero = too_deep (kind_begins_expr only) (forms.shows only g.never g.never g.never) (forms.opens only g.never g.never g.never).front (forms.opens only (grammar.expr_of_only (allowed_by only) zero) (grammar.type zero) (grammar.pattern zero)).front parentheses (λ more. let u = unit (λ es. expr_of (exprs.Tuple es)) (grammar.expr_of_only (allowed_by only) zero) more in (u.0, inl u.1))
expr only (suc depth) =
    expr_level (grammar.expr_of_only (allowed_by only) depth) (grammar.expr_of_only (allowed_by only) (suc depth)) (expr only depth) (expr_takes only depth)
    (grammar.type depth) (grammar.type (suc depth)) (type depth) (grammar.pattern depth) (grammar.pattern (suc depth)) (pattern depth) (allowed_by only) (literals_allowed only)

-- Items.

param : (depth : ℕ) → Regular (grammar.param depth) (grammar.param (suc depth))
param depth = spanned {A = Span → Param} (λ make span. make span) (regular (after_alike name (after_alike (symbol Colon refl) (after_alike (part (type depth)) (done_any _ _)))))

alias : (depth : ℕ) → Regular (grammar.alias depth) (grammar.alias (suc depth))
alias depth =
    spanned {A = Span → Item} (λ make span. make span)
    (regular (after_alike (word (codes "type") refl) (after_alike name (after_alike (symbol Equals refl) (after_alike (part (type depth)) (after_alike (symbol Semicolon refl) (done_any _ _)))))))

abbrev braces : List Token
braces = sign OpenBrace ∷ sign CloseBrace ∷ []

-- nothing in braces
no_statements : (e : Part Expr) (t : Part TypeText) (q : Part Pattern) (more : List Token) → (a : Expr) × (programs_read.body_of e t q).Whole (braces ++ more) a more
no_statements e t q more =
    let ts : List Token = sign OpenBrace ∷ sign CloseBrace ∷ more in
    let b : ExprForm = exprs.Block [] None in
    (expr_of b (g.span_between ts more), (ts, ts, (refl, refl), (b, more, (tt, sign CloseBrace ∷ more, (sign OpenBrace, refl, refl, refl), (suc zero, inl (tt, more, (sign CloseBrace, refl, refl, refl), (refl, refl)))), (more, more, (refl, refl), (refl, refl)))))

body_depth : (depth : ℕ) → Regular (grammar.body depth) (grammar.body (suc depth))
unfolding is_at
body_depth zero = too_deep (is_symbol OpenBrace) (programs_read.body_of_begins g.never g.never g.never (is_symbol OpenBrace) true refl) (programs_read.opens g.never g.never g.never).front (programs_read.opens (grammar.expr zero) (grammar.type zero) (grammar.pattern zero)).front braces (λ more. no_statements (grammar.expr zero) (grammar.type zero) (grammar.pattern zero) more)
body_depth (suc depth) =
    spanned expr_of (block (grammar.expr depth) (grammar.expr (suc depth)) (expr false depth) (expr_takes false depth)
    (grammar.type depth) (grammar.type (suc depth)) (type depth) (grammar.pattern depth) (grammar.pattern (suc depth)) (pattern depth))

result_and_body : (depth : ℕ) → Regular (grammar.result_and_body depth) (grammar.result_and_body (suc depth))
result_and_body depth =
    regular (either_alike (after_alike (symbol Arrow refl) (after_alike (part (type depth)) (after_alike (part (body_depth depth)) (done_any _ _)))) (after_alike (part (body_depth depth)) (done_any _ _)))

function : (depth : ℕ) → Regular (grammar.function depth) (grammar.function (suc depth))
function depth =
    spanned {A = Span → Item} (λ make span. make span)
    (regular (after_alike (word (codes "fn") refl) (after_alike name (after_alike (symbol OpenParenthesis refl) (after_alike (part (many CloseParenthesis refl (param depth))) (after_alike (part (result_and_body depth)) (done_any _ _)))))))

pub item : (depth : ℕ) → Regular (g.either (grammar.alias depth) (grammar.function depth)) (g.either (grammar.alias (suc depth)) (grammar.function (suc depth)))
item depth = regular (either_alike (part (alias depth)) (part (function depth)))

-- Programs.

pub program : (depth : ℕ) → Ending (g.turning (grammar.program_turn depth)) (g.turning (grammar.program_turn (suc depth)))
program depth = turning_ending (λ M M' filled y. either_ending (end_ending (λ found. found) (λ found. found)) (after_ending (λ found i. found ++ i ∷ []) (item depth) filled y)) (λ M found. (found, inl (tt, [], (refl, refl), (refl, refl))))
