-- Expressions are read as they are.
use Rattle.std.proofs.Common.{◌≡◌, ℕ, zero, suc, ◌-◌, ◌≤◌, Bool, true, false, List, [], ◌∷◌, ◌++◌, refl, sym, subst, inl, arith, Some, None, codes}
use Rattle.hl_syntax.specs.declared.token.Span.{Span}
use Rattle.hl_syntax.specs.declared.token.Token.{Token}
use Rattle.hl_syntax.specs.declared.token.TokenKind.{TokenKind}
use Rattle.hl_syntax.specs.declared.token.TokenKind.TheVariants as kinds
use Rattle.hl_syntax.specs.declared.token.Symbol.{Symbol}
use Rattle.hl_syntax.specs.declared.token.Symbol.TheVariants.{OpenParenthesis, CloseParenthesis, OpenBrace, CloseBrace, OpenBracket, CloseBracket, Less, Greater, Comma, Semicolon, Colon, DoubleColon, Equals, FatArrow, Exclamation}
use Rattle.hl_syntax.specs.declared.tree.TypeText.{TypeText}
use Rattle.hl_syntax.specs.declared.tree.Pattern.{Pattern}
use Rattle.hl_syntax.specs.declared.tree.Statement.{Statement}
use Rattle.hl_syntax.specs.declared.tree.Statement.TheVariants as statements
use Rattle.hl_syntax.specs.declared.tree.Arm.{Arm}
use Rattle.hl_syntax.specs.declared.tree.Side.{Side}
use Rattle.hl_syntax.specs.declared.tree.Side.TheVariants as sides
use Rattle.hl_syntax.specs.declared.tree.Expr.{Expr}
use Rattle.hl_syntax.specs.declared.tree.ExprForm.{ExprForm}
use Rattle.hl_syntax.specs.declared.tree.ExprForm.TheVariants as exprs
use Rattle.simplicityhl.specs.declared.alternatives.ExprAlternative.{ExprAlternative}
use Rattle.simplicityhl.specs.declared.alternatives.ExprAlternative.TheVariants as expr_as
use Rattle.simplicityhl.specs.declared.alternatives.SideAlternative.{SideAlternative}
use Rattle.simplicityhl.specs.declared.alternatives.SideAlternative.TheVariants as side_as
use Rattle.simplicityhl.specs.Parts.{Part}
use Rattle.simplicityhl.specs.Parts as g
use Rattle.simplicityhl.specs.Grammar.{is_symbol, is_word, applied_words, constants, expr_of, opens_block}
use Rattle.simplicityhl.specs.Grammar as grammar
use Rattle.hl_grammar.specs.Readers.{Reader, first_is}
use Rattle.hl_grammar.specs.Read.{is_at, is_at_word, kind_begins_expr, begins_expr, first_two}
use Rattle.hl_grammar.specs.Read as read
use Rattle.hl_grammar.proofs.Exact.{Exact, Shows, Told, shows_then, shows_either, shows_one_of, shows_never, shows_here, shows_chosen, shows_by, shows_spanned, anything, freely, fewer, deeper, from_nothing, too_deep_is, done-exact, choose-exact, chosen-exact, pick-exact, brink-exact, brink-over, spanned-exact, turning-exact, keeping-exact, here-then, chosen-both}
use Rattle.hl_grammar.proofs.Tokens.{Begins, begins_symbol, begins_word, at_first, at_symbol, not_at_symbol, not_at, calm, calm_symbol, is_quiet, symbol_kind, word_kind, symbol-then, word-then, then-symbol, then-free, then-calm, then-done, name-exact, decimal-exact, literal-exact, name_but-exact}
use Rattle.hl_grammar.proofs.Lists.{bracket_closes, parenthesis_closes, many-exact, parenthesised-exact, parenthesised_at}
use Rattle.hl_grammar.proofs.Starts.{opens_shown, shows_start, told_by}
use Rattle.hl_grammar.proofs.Forms.{forms_begin, literal_no_symbol, expr_begins, told, no_tokens, opens, shows}
use Rattle.hl_grammar.proofs.Types.{type_at}
use Rattle.hl_grammar.proofs.Patterns.{pattern_at}

-- Sides.

side_told : (q : Part Pattern) (t : Part TypeText) → Told anything read.side_start (grammar.side_form q t)
unfolding read.side_start read.side_by
side_told q t = told_by {start = read.side_start_by} {Heads = λ k. ⊥} (λ l. opens_shown anything (λ k. ⊥) (starts l)) (λ x us h. absurd h) where
  starts : (l : SideAlternative) → Shows (first_two read.side_start_by) (Some l) (grammar.side_form q t l)
  starts side_as.Left = shows_then (shows_start read.side_start_by (is_word (codes "Left")) (λ x. tt) (λ k next h. rw (word_kind (codes "Left") k h) refl))
  starts side_as.Right = shows_then (shows_start read.side_start_by (is_word (codes "Right")) (λ x. tt) (λ k next h. rw (word_kind (codes "Right") k h) refl))
  starts side_as.Some = shows_then (shows_start read.side_start_by (is_word (codes "Some")) (λ x. tt) (λ k next h. rw (word_kind (codes "Some") k h) refl))
  starts side_as.Nothing = shows_then (shows_start read.side_start_by (is_word (codes "None")) (λ x. tt) (λ k next h. rw (word_kind (codes "None") k h) refl))
  starts side_as.True = shows_then (shows_start read.side_start_by (is_word (codes "true")) (λ x. tt) (λ k next h. rw (word_kind (codes "true") k h) refl))
  starts side_as.False = shows_then (shows_start read.side_start_by (is_word (codes "false")) (λ x. tt) (λ k next h. rw (word_kind (codes "false") k h) refl))

-- what a turn of the arms begins with
abbrev begins_arm : TokenKind → Bool
begins_arm (kinds.Name w) = true
begins_arm (kinds.Literal w) = false
begins_arm (kinds.Symbol s) = is_symbol CloseBrace (kinds.Symbol s)

side_begins : (q : Part Pattern) (t : Part TypeText) (l : SideAlternative) → Begins begins_arm true (grammar.side_form q t l)
side_begins q t side_as.Left = shows_then (begins_word (codes "Left") begins_arm true refl)
side_begins q t side_as.Right = shows_then (begins_word (codes "Right") begins_arm true refl)
side_begins q t side_as.Some = shows_then (begins_word (codes "Some") begins_arm true refl)
side_begins q t side_as.Nothing = shows_then (begins_word (codes "None") begins_arm true refl)
side_begins q t side_as.True = shows_then (begins_word (codes "true") begins_arm true refl)
side_begins q t side_as.False = shows_then (begins_word (codes "false") begins_arm true refl)

side_no_brace : (q : Part Pattern) (t : Part TypeText) (l : SideAlternative) → Begins (is_symbol CloseBrace) false (grammar.side_form q t l)
side_no_brace q t side_as.Left = shows_then (begins_word (codes "Left") (is_symbol CloseBrace) false refl)
side_no_brace q t side_as.Right = shows_then (begins_word (codes "Right") (is_symbol CloseBrace) false refl)
side_no_brace q t side_as.Some = shows_then (begins_word (codes "Some") (is_symbol CloseBrace) false refl)
side_no_brace q t side_as.Nothing = shows_then (begins_word (codes "None") (is_symbol CloseBrace) false refl)
side_no_brace q t side_as.True = shows_then (begins_word (codes "true") (is_symbol CloseBrace) false refl)
side_no_brace q t side_as.False = shows_then (begins_word (codes "false") (is_symbol CloseBrace) false refl)

arm_calm : (ts : List Token) → first_is begins_arm ts ≡ true → calm ts ≡ true
arm_calm [] h = refl
arm_calm (u ∷ ts) h = by_kind u.kind h where
  by_kind : (k : TokenKind) → begins_arm k ≡ true → is_quiet (read.symbol_in k) ≡ true
  by_kind (kinds.Name w) h = refl
  by_kind (kinds.Literal w) h = refl
  by_kind (kinds.Symbol s) h = subst (λ k. is_quiet (read.symbol_in k) ≡ true) (sym (symbol_kind CloseBrace (kinds.Symbol s) h)) refl

no_let : (k : TokenKind) → kind_begins_expr false k ≡ true → is_word (codes "let") k ≡ false
no_let k h = by_case (is_word (codes "let") k) refl where
  by_case : (b : Bool) → is_word (codes "let") k ≡ b → is_word (codes "let") k ≡ false
  by_case false e = e
  by_case true e = let yes : kind_begins_expr false (kinds.Name (codes "let")) ≡ true = subst (λ x. kind_begins_expr false x ≡ true) (word_kind (codes "let") k e) h in absurd (let no : ⊥ = cc in no)

not_let : (ts : List Token) → first_is (kind_begins_expr false) ts ≡ true → first_is (is_word (codes "let")) ts ≡ false
not_let [] h = refl
not_let (u ∷ ts) h = no_let u.kind h

-- tokens that begin so are at a word, or not
pub at_word : {A : Type 0} {answer : Bool} {p : Part A} (x : List ℕ) → Begins (is_word x) answer p → Shows (is_at_word x) answer p
unfolding is_at_word
at_word x h = h

-- Readers.

module _ {d n : ℕ} (e e' : Part Expr) (ex : Reader Expr) (exact : (bound : ℕ) → Exact calm d n 1 bound e e' ex) (begins : Begins (kind_begins_expr false) true e)
    (t t' : Part TypeText) (tx : Reader TypeText) (texact : (bound : ℕ) → Exact calm d n 1 bound t t' tx)
    (q q' : Part Pattern) (qx : Reader Pattern) (qexact : (bound : ℕ) → Exact calm d n 1 bound q q' qx) where
  apart : (s : Symbol) → kind_begins_expr false (kinds.Symbol s) ≡ false → Shows (is_at s) false e
  apart s fails = not_at s (kind_begins_expr false) fails begins

  in_parentheses-exact : (bound : ℕ) → Exact anything d n 1 bound (grammar.in_parentheses e t q) (grammar.in_parentheses e' t' q') (read.in_parentheses ex tx qx)
  unfolding read.in_parentheses
  in_parentheses-exact bound = symbol-then OpenParenthesis (then-symbol CloseParenthesis refl (exact _) (λ a. done-exact a _))

  in_brackets-exact : (bound : ℕ) → Exact anything d n 1 bound (grammar.in_brackets e t q) (grammar.in_brackets e' t' q') (read.in_brackets ex tx qx)
  unfolding read.in_brackets
  in_brackets-exact bound = symbol-then OpenBracket (then-done (λ l. l.items) (many-exact CloseBracket bracket_closes e e' ex exact (apart CloseBracket refl) _))

  arguments-exact : (bound : ℕ) → Exact anything d n 1 bound (grammar.arguments e t q) (grammar.arguments e' t' q') (read.arguments ex tx qx)
  unfolding read.arguments
  arguments-exact bound = symbol-then OpenParenthesis (then-done (λ l. l.items) (many-exact CloseParenthesis parenthesis_closes e e' ex exact (apart CloseParenthesis refl) _))

  two_arguments-exact : (bound : ℕ) → Exact anything d n 1 bound (grammar.two_arguments e t q) (grammar.two_arguments e' t' q') (read.two_arguments ex tx qx)
  unfolding read.two_arguments
  two_arguments-exact bound =
      symbol-then OpenParenthesis (then-symbol Comma refl (exact _) (λ a. then-calm (exact _)
      (λ b. choose-exact (is_at Comma) (symbol-then Comma (symbol-then CloseParenthesis (done-exact (a, b) _))) (symbol-then CloseParenthesis (done-exact (a, b) _))
      (shows_then (at_symbol Comma refl)) (shows_then (not_at_symbol Comma CloseParenthesis refl)))
      (λ b. shows_either (shows_then (calm_symbol Comma refl)) (shows_then (calm_symbol CloseParenthesis refl)))))

  type_argument-exact : (bound : ℕ) → Exact anything d n 1 bound (grammar.type_argument e t q) (grammar.type_argument e' t' q') (read.type_argument ex tx qx)
  unfolding read.type_argument
  type_argument-exact bound = symbol-then DoubleColon (symbol-then Less (then-symbol Greater refl (texact _) (λ a. done-exact a _)))

  counted_function-exact : (bound : ℕ) → Exact anything d n 1 bound (grammar.counted_function e t q) (grammar.counted_function e' t' q') (read.counted_function ex tx qx)
  unfolding read.counted_function
  counted_function-exact bound = symbol-then DoubleColon (symbol-then Less (then-free (name-exact _) (λ f. symbol-then Comma (then-free (decimal-exact _) (λ c. symbol-then Greater (done-exact (f, c) _))))))

  path_name-exact : (bound : ℕ) → Exact anything d n 1 bound (grammar.path_name e t q) (grammar.path_name e' t' q') (read.path_name ex tx qx)
  unfolding read.path_name
  path_name-exact bound = symbol-then DoubleColon (name-exact _)

  let_statement-exact : (bound : ℕ) → Exact calm d n 1 bound (grammar.let_statement e t q) (grammar.let_statement e' t' q') (read.let_statement ex tx qx)
  unfolding read.let_statement
  let_statement-exact bound =
      spanned-exact (λ make span. make span) (word-then (codes "let") (then-symbol Colon refl (qexact _) (λ p. then-symbol Equals refl (texact _) (λ ty. then-done (λ v span. statements.Let p ty v span) (exact _)))))

  let_begins : (test : TokenKind → Bool) (answer : Bool) → test (kinds.Name (codes "let")) ≡ answer → Begins test answer (grammar.let_statement e t q)
  let_begins test answer h = shows_spanned {A = Span → Statement} (λ make span. make span) _ (shows_then (begins_word (codes "let") test answer h))

  block_turn-exact : (bound : ℕ) (more more' : List Statement → Part ExprForm) (reader : List Statement → Reader ExprForm) → ((found : List Statement) → Exact anything d n 1 bound (more found) (more' found) (reader found))
      → (found : List Statement) → Exact anything d n 1 (suc bound) (grammar.block_turn e t q more found) (grammar.block_turn e' t' q' more' found) (read.block_turn ex tx qx reader found)
  block_turn-exact bound more more' reader h found =
      choose-exact (is_at CloseBrace) (symbol-then CloseBrace (done-exact (exprs.Block found None) _))
      (choose-exact (is_at_word (codes "let"))
      (then-symbol Semicolon refl (let_statement-exact (suc bound)) (λ s. fewer (suc bound - 1 - 1) (omega arith) (h (found ++ s ∷ []))))
      (then-calm (exact (suc bound)) (λ v. choose-exact (is_at Semicolon) (symbol-then Semicolon (fewer (suc bound - 1 - 1) (omega arith) (h (found ++ statements.Plain v ∷ [])))) (symbol-then CloseBrace (done-exact (exprs.Block found (Some v)) _))
      (shows_then (at_symbol Semicolon refl)) (shows_then (not_at_symbol Semicolon CloseBrace refl)))
      (λ v. shows_either (shows_then (calm_symbol Semicolon refl)) (shows_then (calm_symbol CloseBrace refl))))
      (shows_then (at_word (codes "let") (let_begins (is_word (codes "let")) true refl)))
      (shows_then (at_word (codes "let") (shows_by (first_is (is_word (codes "let"))) false not_let begins))))
      (shows_then (at_symbol CloseBrace refl))
      (shows_either (shows_then (at_first CloseBrace (let_begins (is_symbol CloseBrace) false refl))) (shows_then (apart CloseBrace refl)))

  pub block-exact : (bound : ℕ) → Exact anything d n 1 bound (grammar.block e t q) (grammar.block e' t' q') (read.block ex tx qx)
  unfolding read.block
  block-exact bound = symbol-then OpenBrace (turning-exact block_turn-exact _ [])

  binding-exact : (make : Pattern → TypeText → Side) (bound : ℕ) → Exact anything d n 1 bound (grammar.binding make q t) (grammar.binding make q' t') (read.binding make qx tx)
  unfolding read.binding
  binding-exact make bound = symbol-then OpenParenthesis (then-symbol Colon refl (qexact _) (λ p. then-symbol CloseParenthesis refl (texact _) (λ ty. done-exact (make p ty) _)))

  side-exact : (l : SideAlternative) (bound : ℕ) → Exact anything d n 1 bound (grammar.side_form q t l) (grammar.side_form q' t' l) (read.side_form qx tx l)
  unfolding read.side_form
  side-exact side_as.Left bound = word-then (codes "Left") (binding-exact sides.Left _)
  side-exact side_as.Right bound = word-then (codes "Right") (binding-exact sides.Right _)
  side-exact side_as.Some bound = word-then (codes "Some") (binding-exact sides.Some _)
  side-exact side_as.Nothing bound = word-then (codes "None") (done-exact sides.Nothing _)
  side-exact side_as.True bound = word-then (codes "true") (done-exact sides.True _)
  side-exact side_as.False bound = word-then (codes "false") (done-exact sides.False _)

  arm-exact : (bound : ℕ) → Exact calm d n 1 bound (grammar.arm e t q) (grammar.arm e' t' q') (read.arm ex tx qx)
  unfolding read.arm
  arm-exact bound =
      then-free (pick-exact read.side_start (λ l. side-exact l bound) (λ ts. (side_as.Left, inl (inl refl))) (side_told q t))
      (λ s. symbol-then FatArrow (here-then (λ body. then-done (λ v. ((λ span. record { side = s; body = v; span = span }), opens_block body)) (exact _))))

  -- what follows an arm: its comma, more arms, or the last brace
  arm_end-exact : (bound : ℕ) (more more' : List Arm → Part (List Arm)) (reader : List Arm → Reader (List Arm)) → ((found : List Arm) → Begins begins_arm true (more found)) → ((found : List Arm) → Exact anything d n 1 bound (more found) (more' found) (reader found))
      → (found : List Arm) (first : List Token) (make : Span → Arm) (is_block : Bool) → Exact anything d n 1 bound (grammar.arm_end e t q more found first make is_block) (grammar.arm_end e' t' q' more' found first make is_block) (read.arm_end ex tx qx reader found first make is_block)
  arm_end-exact bound more more' reader starts h found first make is_block =
      choose-exact (is_at Comma)
      (symbol-then Comma (here-then (λ after. fewer (bound - 1 - 0) (omega arith) (h (found ++ make (g.span_between first after) ∷ [])))))
      (here-then (λ after. chosen-both is_block (fewer (bound - 0) (omega arith) (h (found ++ make (g.span_between first after) ∷ []))) (symbol-then CloseBrace (done-exact (found ++ make (g.span_between first after) ∷ []) _))))
      (shows_then (at_symbol Comma refl))
      (not_at Comma begins_arm refl (shows_here (λ after. shows_chosen is_block (starts (found ++ make (g.span_between first after) ∷ [])) (shows_then (begins_symbol CloseBrace begins_arm true refl)))))

  end_calm : (more : List Arm → Part (List Arm)) → ((found : List Arm) → Begins begins_arm true (more found)) → (found : List Arm) (first : List Token) (make : Span → Arm) (is_block : Bool) → Shows calm true (grammar.arm_end e t q more found first make is_block)
  end_calm more starts found first make is_block =
      shows_either (shows_then (calm_symbol Comma refl))
      (shows_by calm true arm_calm (shows_here (λ after. shows_chosen is_block (starts (found ++ make (g.span_between first after) ∷ [])) (shows_then (begins_symbol CloseBrace begins_arm true refl)))))

  arms_begin : (more : List Arm → Part (List Arm)) (found : List Arm) → Begins begins_arm true (grammar.arms_turn e t q more found)
  arms_begin more found = shows_either (shows_then (begins_symbol CloseBrace begins_arm true refl)) (shows_here (λ first. shows_then (shows_then (shows_one_of (side_begins q t)))))

  arms_turn-exact : (bound : ℕ) (more more' : List Arm → Part (List Arm)) (reader : List Arm → Reader (List Arm)) → ((found : List Arm) → Begins begins_arm true (more found)) → ((found : List Arm) → Exact anything d n 1 bound (more found) (more' found) (reader found))
      → (found : List Arm) → Exact anything d n 1 (suc bound) (grammar.arms_turn e t q more found) (grammar.arms_turn e' t' q' more' found) (read.arms_turn ex tx qx reader found)
  arms_turn-exact bound more more' reader starts h found =
      choose-exact (is_at CloseBrace) (symbol-then CloseBrace (done-exact found _))
      (here-then (λ first. then-calm (arm-exact _) (λ a. fewer (suc bound - 0 - 1) (omega arith) (arm_end-exact bound more more' reader starts h found first a.0 a.1)) (λ a. end_calm more starts found first a.0 a.1)))
      (shows_then (at_symbol CloseBrace refl))
      (at_first CloseBrace (shows_here (λ first. shows_then (shows_then (shows_one_of (side_no_brace q t))))))

  arms-exact : (bound : ℕ) → Exact anything d n 1 bound (grammar.arms e t q) (grammar.arms e' t' q') (read.arms ex tx qx)
  unfolding read.arms
  arms-exact bound = symbol-then OpenBrace (keeping-exact (λ p. Begins begins_arm true p) shows_never (λ more keeps found. arms_begin more found) arms_turn-exact _ [])

  form-exact : (l : ExprAlternative) (bound : ℕ) → Exact anything d n 1 bound (grammar.expr_form e t q l) (grammar.expr_form e' t' q' l) (read.expr_form ex tx qx l)
  unfolding read.expr_form
  form-exact expr_as.Block bound = block-exact bound
  form-exact expr_as.Match bound = word-then (codes "match") (then-calm (exact _) (λ v. then-done (λ found. exprs.Match v found) (arms-exact _)) (λ v. shows_then (shows_then (calm_symbol OpenBrace refl))))
  form-exact expr_as.Array bound = then-done (λ es. exprs.Array es) (in_brackets-exact bound)
  form-exact expr_as.List bound = word-then (codes "list") (symbol-then Exclamation (then-done (λ es. exprs.List es) (in_brackets-exact _)))
  form-exact expr_as.Assert bound = word-then (codes "assert") (symbol-then Exclamation (then-done (λ v. exprs.Assert v) (in_parentheses-exact _)))
  form-exact expr_as.Dbg bound = word-then (codes "dbg") (symbol-then Exclamation (then-done (λ v. exprs.Dbg v) (in_parentheses-exact _)))
  form-exact expr_as.Panic bound = word-then (codes "panic") (symbol-then Exclamation (symbol-then OpenParenthesis (symbol-then CloseParenthesis (done-exact exprs.Panic _))))
  form-exact expr_as.Jet bound = word-then (codes "jet") (then-free (path_name-exact _) (λ n. then-done (λ es. exprs.Jet n es) (arguments-exact _)))
  form-exact expr_as.Witness bound = word-then (codes "witness") (then-done (λ n. exprs.Witness n) (path_name-exact _))
  form-exact expr_as.Param bound = word-then (codes "param") (then-done (λ n. exprs.Param n) (path_name-exact _))
  form-exact expr_as.Into bound = symbol-then Less (then-symbol Greater refl (texact _) (λ ty. symbol-then DoubleColon (word-then (codes "into") (then-done (λ v. exprs.Into ty v) (in_parentheses-exact _)))))
  form-exact expr_as.Unwrap bound = word-then (codes "unwrap") (then-done (λ v. exprs.Unwrap v) (in_parentheses-exact _))
  form-exact expr_as.UnwrapLeft bound = word-then (codes "unwrap_left") (then-free (type_argument-exact _) (λ ty. then-done (λ v. exprs.UnwrapLeft ty v) (in_parentheses-exact _)))
  form-exact expr_as.UnwrapRight bound = word-then (codes "unwrap_right") (then-free (type_argument-exact _) (λ ty. then-done (λ v. exprs.UnwrapRight ty v) (in_parentheses-exact _)))
  form-exact expr_as.IsNone bound = word-then (codes "is_none") (then-free (type_argument-exact _) (λ ty. then-done (λ v. exprs.IsNone ty v) (in_parentheses-exact _)))
  form-exact expr_as.Fold bound = word-then (codes "fold") (then-free (counted_function-exact _) (λ f. then-done (λ es. exprs.Fold f.0 f.1 es.0 es.1) (two_arguments-exact _)))
  form-exact expr_as.ArrayFold bound = word-then (codes "array_fold") (then-free (counted_function-exact _) (λ f. then-done (λ es. exprs.ArrayFold f.0 f.1 es.0 es.1) (two_arguments-exact _)))
  form-exact expr_as.ForWhile bound = word-then (codes "for_while") (symbol-then DoubleColon (symbol-then Less (then-free (name-exact _) (λ f. symbol-then Greater (then-done (λ es. exprs.ForWhile f es.0 es.1) (two_arguments-exact _))))))
  form-exact expr_as.Left bound = word-then (codes "Left") (then-done (λ v. exprs.Left v) (in_parentheses-exact _))
  form-exact expr_as.Right bound = word-then (codes "Right") (then-done (λ v. exprs.Right v) (in_parentheses-exact _))
  form-exact expr_as.Some bound = word-then (codes "Some") (then-done (λ v. exprs.Some v) (in_parentheses-exact _))
  form-exact expr_as.Nothing bound = word-then (codes "None") (done-exact exprs.Nothing _)
  form-exact expr_as.True bound = word-then (codes "true") (done-exact exprs.True _)
  form-exact expr_as.False bound = word-then (codes "false") (done-exact exprs.False _)
  form-exact expr_as.Literal bound = then-done (λ n. exprs.Literal n.text) (literal-exact _)
  form-exact expr_as.Call bound = then-free (name_but-exact applied_words _) (λ n. then-done (λ es. exprs.Call n es) (arguments-exact _))
  form-exact expr_as.Name bound = then-done (λ n. exprs.Name n.text) (name_but-exact constants _)

  pub level-exact : (only : Bool) (bound : ℕ) → Exact calm d n 1 bound (grammar.expr_level e t q (read.allowed_by only)) (grammar.expr_level e' t' q' (read.allowed_by only)) (read.expr_level ex tx qx only)
  unfolding read.expr_level
  level-exact only bound =
      choose-exact (is_at OpenParenthesis) (freely calm (parenthesised-exact (λ es. expr_of (exprs.Tuple es)) e e' ex exact (apart CloseParenthesis refl) bound))
      (spanned-exact expr_of (pick-exact (read.start_of only) (λ l. chosen-exact (read.allowed_by only l) (freely calm (form-exact l bound))) (no_tokens only e' t' q') (told only e t q)))
      (parenthesised_at (λ es. expr_of (exprs.Tuple es)) e)
      (at_first OpenParenthesis (forms_begin e t q (is_symbol OpenParenthesis) false (λ x h. refl) literal_no_symbol refl refl refl (read.allowed_by only)))

-- the levels of a part's depth and of a reader's
levels : (only : Bool) (depth depth' : ℕ) → ((bound : ℕ) → Exact calm depth depth' 1 bound (grammar.expr_of_only (read.allowed_by only) depth) (grammar.expr_of_only (read.allowed_by only) depth') (read.expr_of_only only depth')) → (bound : ℕ)
    → Exact calm depth depth' 1 bound (grammar.expr_of_only (read.allowed_by only) (suc depth)) (grammar.expr_of_only (read.allowed_by only) (suc depth')) (read.expr_of_only only (suc depth'))
unfolding read.expr_of_only
levels only depth depth' exact bound =
    level-exact (grammar.expr_of_only (read.allowed_by only) depth) (grammar.expr_of_only (read.allowed_by only) depth') (read.expr_of_only only depth') exact (expr_begins (read.allowed_by only) depth)
    (grammar.type depth) (grammar.type depth') (read.type depth') (λ n. type_at depth depth' n) (grammar.pattern depth) (grammar.pattern depth') (read.pattern depth') (λ n. pattern_at depth depth' n) only bound

-- expressions and value texts of each depth and a reader of each other
pub expr_at : (only : Bool) (depth depth' bound : ℕ) → Exact calm depth depth' 1 bound (grammar.expr_of_only (read.allowed_by only) depth) (grammar.expr_of_only (read.allowed_by only) depth') (read.expr_of_only only depth')
unfolding read.expr_of_only
expr_at only zero zero bound = brink-exact (grammar.expr_level g.never g.never g.never (read.allowed_by only)) (begins_expr only) (opens only g.never g.never g.never) calm 1 bound (shows only g.never g.never g.never)
expr_at only zero (suc depth') bound =
    from_nothing zero (suc depth') (grammar.expr_of_only (read.allowed_by only) zero) (too_deep_is depth' (grammar.expr_level g.never g.never g.never (read.allowed_by only)))
    (levels only zero depth' (λ n. expr_at only zero depth' n) bound)
expr_at only (suc depth) zero bound =
    brink-over (grammar.expr_level g.never g.never g.never (read.allowed_by only)) (begins_expr only) (opens only g.never g.never g.never) (shows only (grammar.expr_of_only (read.allowed_by only) depth) (grammar.type depth) (grammar.pattern depth))
    (levels only depth depth (λ n. expr_at only depth depth n) bound)
expr_at only (suc depth) (suc depth') bound = deeper (levels only depth depth' (λ n. expr_at only depth depth' n) bound)

pub expr_of_only-exact : (values_only : Bool) (depth depth' bound : ℕ) → depth ≤ depth' → Exact calm depth depth' 1 bound (grammar.expr_of_only (read.allowed_by values_only) depth) (grammar.expr_of_only (read.allowed_by values_only) depth') (read.expr_of_only values_only depth')
expr_of_only-exact values_only depth depth' bound below = expr_at values_only depth depth' bound
