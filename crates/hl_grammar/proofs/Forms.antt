-- What expressions begin with, and how they are told.
use Rattle.std.proofs.Common.{◌≡◌, ℕ, zero, suc, Bool, true, false, cond, not, ◌||◌, List, ◌∷◌, refl, ap, ◌∙◌, inl, inr, Option, Some, None, codes, bytes_eq}
use Rattle.hl_syntax.specs.declared.token.Token.{Token}
use Rattle.hl_syntax.specs.declared.token.TokenKind.{TokenKind}
use Rattle.hl_syntax.specs.declared.token.TokenKind.TheVariants as kinds
use Rattle.hl_syntax.specs.declared.token.Symbol.{Symbol}
use Rattle.hl_syntax.specs.declared.token.Symbol.TheVariants.{OpenParenthesis, OpenBrace, OpenBracket, Less, DoubleColon, Exclamation}
use Rattle.hl_syntax.specs.declared.tree.TypeText.{TypeText}
use Rattle.hl_syntax.specs.declared.tree.Pattern.{Pattern}
use Rattle.hl_syntax.specs.declared.tree.Expr.{Expr}
use Rattle.hl_syntax.specs.declared.tree.ExprForm.TheVariants as exprs
use Rattle.simplicityhl.specs.declared.alternatives.ExprAlternative.{ExprAlternative}
use Rattle.simplicityhl.specs.declared.alternatives.ExprAlternative.TheVariants as expr_as
use Rattle.simplicityhl.specs.Parts.{Part}
use Rattle.simplicityhl.specs.Parts as g
use Rattle.simplicityhl.specs.Grammar.{is_symbol, is_word, is_name_but, is_literal, is_among, keywords, applied_words, constants, mark, expr_of, of_values}
use Rattle.simplicityhl.specs.Grammar as grammar
use Rattle.hl_grammar.specs.Read.{kind_begins_expr, expr_start_by, value_start_by, word_value, begins_expr, next_symbol, first_two, named_expr, before_others, before_parenthesis, before_colons, before_exclamation, loop_before_colons, allowed_by, start_of}
use Rattle.hl_grammar.specs.Read as read
use Rattle.hl_grammar.proofs.Exact.{Shows, Told, Opens, shows_then, shows_either, shows_one_of, shows_never, shows_chosen, shows_spanned, shows_too_deep, spanned_front}
use Rattle.hl_grammar.proofs.Tokens.{Begins, begins_one, begins_symbol, begins_word, calm, is_quiet, symbol_kind, word_kind}
use Rattle.hl_grammar.proofs.Lists.{parenthesised_begins, parenthesised_front}
use Rattle.hl_grammar.proofs.Starts.{Opening, opens_shown, shows_start, opens_pair, opens_quiet, told_by}

quiet_named : (w : List ℕ) (next : Option Symbol) → is_quiet next ≡ true → named_expr w next ≡ before_others w
quiet_named w None h = refl
quiet_named w (Some OpenParenthesis) h = absurd (let no : ⊥ = cc in no)
quiet_named w (Some Exclamation) h = absurd (let no : ⊥ = cc in no)
quiet_named w (Some DoubleColon) h = absurd (let no : ⊥ = cc in no)
quiet_named w (Some s) h = refl

-- a name that is none of some words
record Named (words : List (List ℕ)) (k : TokenKind) : Type 0 where
  written : List ℕ
  is : k ≡ kinds.Name written
  no_keyword : is_among keywords written ≡ false
  none_of : not (is_among words written) ≡ true

split : (b c : Bool) → cond b false (not c) ≡ true → (b ≡ false) × (not c ≡ true)
split false c h = (refl, h)
split true c h = absurd (let no : ⊥ = cc in no)

named : (words : List (List ℕ)) (k : TokenKind) → is_name_but words k ≡ true → Named words k
named words (kinds.Name w) h = let s = split (is_among keywords w) (is_among words w) h in record { written = w; is = refl; no_keyword = s.0; none_of = s.1 }
named words (kinds.Symbol s) h = absurd (let no : ⊥ = cc in no)
named words (kinds.Literal w) h = absurd (let no : ⊥ = cc in no)

none_of_three : {A : Type 0} (a b c : Bool) (x y z n : A) → not (a || (b || (c || false))) ≡ true → cond a x (cond b y (cond c z n)) ≡ n
none_of_three false false false x y z n h = refl
none_of_three true b c x y z n h = absurd (let no : ⊥ = cc in no)
none_of_three false true c x y z n h = absurd (let no : ⊥ = cc in no)
none_of_three false false true x y z n h = absurd (let no : ⊥ = cc in no)

none_of_four : {A : Type 0} (a b c d : Bool) (x y z u n : A) → not (a || (b || (c || (d || false)))) ≡ true → cond a x (cond b y (cond c z (cond d u n))) ≡ n
none_of_four false b c d x y z u n h = none_of_three b c d y z u n h
none_of_four true b c d x y z u n h = absurd (let no : ⊥ = cc in no)

variable : (w : List ℕ) → not (is_among constants w) ≡ true → before_others w ≡ expr_as.Name
unfolding before_others
variable w h = none_of_three (bytes_eq w (codes "None")) (bytes_eq w (codes "true")) (bytes_eq w (codes "false")) expr_as.Nothing expr_as.True expr_as.False expr_as.Name h

called : (w : List ℕ) → not (is_among applied_words w) ≡ true → before_parenthesis w ≡ expr_as.Call
unfolding before_parenthesis
called w h = none_of_four (bytes_eq w (codes "unwrap")) (bytes_eq w (codes "Left")) (bytes_eq w (codes "Right")) (bytes_eq w (codes "Some")) expr_as.Unwrap expr_as.Left expr_as.Right expr_as.Some expr_as.Call h

-- a name that is no keyword begins what its next symbol says
name_starts : (w : List ℕ) (next : Option Symbol) → is_among keywords w ≡ false → expr_start_by (kinds.Name w) next ≡ Some (named_expr w next)
name_starts w next h = no_keyword (bytes_eq w (codes "fn")) (bytes_eq w (codes "type")) (bytes_eq w (codes "let")) (bytes_eq w (codes "match")) h where
  no_keyword : (a b c d : Bool) → (a || (b || (c || (d || false)))) ≡ false → cond d (Some expr_as.Match) (cond (a || (b || (c || (d || false)))) None (Some (named_expr w next))) ≡ Some (named_expr w next)
  no_keyword false false false false h = refl
  no_keyword true b c d h = absurd (let no : ⊥ = cc in no)
  no_keyword false true c d h = absurd (let no : ⊥ = cc in no)
  no_keyword false false true d h = absurd (let no : ⊥ = cc in no)
  no_keyword false false false true h = absurd (let no : ⊥ = cc in no)

-- what a name that is no keyword, or `match`, begins
abbrev is_head : List ℕ → Bool
is_head w = bytes_eq w (codes "match") || not (is_among keywords w)

name_but_head : (words : List (List ℕ)) (k : TokenKind) (test : TokenKind → Bool) (answer : Bool) → ((w : List ℕ) → is_head w ≡ true → test (kinds.Name w) ≡ answer) → is_name_but words k ≡ true → test k ≡ answer
name_but_head words k test answer head h =
    let n = named words k h in
    let free : is_head n.written ≡ true = rw (ap (λ b. bytes_eq n.written (codes "match") || not b) n.no_keyword) (either_true (bytes_eq n.written (codes "match"))) in
    rw n.is (head n.written free)
  where
    either_true : (b : Bool) → (b || true) ≡ true
    either_true true = refl
    either_true false = refl

module _ (e : Part Expr) (t : Part TypeText) (q : Part Pattern) (test : TokenKind → Bool) (answer : Bool) (head : (w : List ℕ) → is_head w ≡ true → test (kinds.Name w) ≡ answer)
    (literal : (k : TokenKind) → is_literal k ≡ true → test k ≡ answer) (brace : test (kinds.Symbol OpenBrace) ≡ answer) (bracket : test (kinds.Symbol OpenBracket) ≡ answer) (less : test (kinds.Symbol Less) ≡ answer) where
  form_begins : (l : ExprAlternative) → Begins test answer (grammar.expr_form e t q l)
  form_begins expr_as.Block = shows_then (begins_symbol OpenBrace test answer brace)
  form_begins expr_as.Match = shows_then (begins_word (codes "match") test answer (head (codes "match") refl))
  form_begins expr_as.Array = shows_then (shows_then (begins_symbol OpenBracket test answer bracket))
  form_begins expr_as.List = shows_then (begins_word (codes "list") test answer (head (codes "list") refl))
  form_begins expr_as.Assert = shows_then (begins_word (codes "assert") test answer (head (codes "assert") refl))
  form_begins expr_as.Dbg = shows_then (begins_word (codes "dbg") test answer (head (codes "dbg") refl))
  form_begins expr_as.Panic = shows_then (begins_word (codes "panic") test answer (head (codes "panic") refl))
  form_begins expr_as.Jet = shows_then (begins_word (codes "jet") test answer (head (codes "jet") refl))
  form_begins expr_as.Witness = shows_then (begins_word (codes "witness") test answer (head (codes "witness") refl))
  form_begins expr_as.Param = shows_then (begins_word (codes "param") test answer (head (codes "param") refl))
  form_begins expr_as.Into = shows_then (begins_symbol Less test answer less)
  form_begins expr_as.Unwrap = shows_then (begins_word (codes "unwrap") test answer (head (codes "unwrap") refl))
  form_begins expr_as.UnwrapLeft = shows_then (begins_word (codes "unwrap_left") test answer (head (codes "unwrap_left") refl))
  form_begins expr_as.UnwrapRight = shows_then (begins_word (codes "unwrap_right") test answer (head (codes "unwrap_right") refl))
  form_begins expr_as.IsNone = shows_then (begins_word (codes "is_none") test answer (head (codes "is_none") refl))
  form_begins expr_as.Fold = shows_then (begins_word (codes "fold") test answer (head (codes "fold") refl))
  form_begins expr_as.ArrayFold = shows_then (begins_word (codes "array_fold") test answer (head (codes "array_fold") refl))
  form_begins expr_as.ForWhile = shows_then (begins_word (codes "for_while") test answer (head (codes "for_while") refl))
  form_begins expr_as.Left = shows_then (begins_word (codes "Left") test answer (head (codes "Left") refl))
  form_begins expr_as.Right = shows_then (begins_word (codes "Right") test answer (head (codes "Right") refl))
  form_begins expr_as.Some = shows_then (begins_word (codes "Some") test answer (head (codes "Some") refl))
  form_begins expr_as.Nothing = shows_then (begins_word (codes "None") test answer (head (codes "None") refl))
  form_begins expr_as.True = shows_then (begins_word (codes "true") test answer (head (codes "true") refl))
  form_begins expr_as.False = shows_then (begins_word (codes "false") test answer (head (codes "false") refl))
  form_begins expr_as.Literal = shows_then (begins_one is_literal mark test answer literal)
  form_begins expr_as.Call = shows_then (begins_one (is_name_but applied_words) mark test answer (λ k. name_but_head applied_words k test answer head))
  form_begins expr_as.Name = shows_then (begins_one (is_name_but constants) mark test answer (λ k. name_but_head constants k test answer head))

  pub forms_begin : (allowed : ExprAlternative → Bool) → Begins test answer (g.spanned expr_of (g.one_of (grammar.allowed_form e t q allowed)))
  forms_begin allowed = shows_spanned expr_of (g.one_of (grammar.allowed_form e t q allowed)) (shows_one_of (λ l. shows_chosen (allowed l) (form_begins l) shows_never))

literal_begins : (only : Bool) (k : TokenKind) → is_literal k ≡ true → kind_begins_expr only k ≡ true
literal_begins only (kinds.Literal w) h = refl
literal_begins only (kinds.Name w) h = absurd (let no : ⊥ = cc in no)
literal_begins only (kinds.Symbol s) h = absurd (let no : ⊥ = cc in no)

pub literal_no_symbol : (k : TokenKind) → is_literal k ≡ true → is_symbol OpenParenthesis k ≡ false
literal_no_symbol (kinds.Literal w) h = refl
literal_no_symbol (kinds.Name w) h = absurd (let no : ⊥ = cc in no)
literal_no_symbol (kinds.Symbol s) h = absurd (let no : ⊥ = cc in no)

level_begins : (e : Part Expr) (t : Part TypeText) (q : Part Pattern) (allowed : ExprAlternative → Bool) → Begins (kind_begins_expr false) true (grammar.expr_level e t q allowed)
level_begins e t q allowed = shows_either (parenthesised_begins (λ es. expr_of (exprs.Tuple es)) e (kind_begins_expr false) true refl) (forms_begin e t q (kind_begins_expr false) true (λ w h. h) (literal_begins false) refl refl refl allowed)

pub expr_begins : (allowed : ExprAlternative → Bool) (depth : ℕ) → Begins (kind_begins_expr false) true (grammar.expr_of_only allowed depth)
expr_begins allowed zero = shows_too_deep (level_begins g.never g.never g.never allowed)
expr_begins allowed (suc depth) = level_begins (grammar.expr_of_only allowed depth) (grammar.type depth) (grammar.pattern depth) allowed

-- Value texts.

value_begins : (e : Part Expr) (t : Part TypeText) (q : Part Pattern) (l : ExprAlternative) → Begins (kind_begins_expr true) true (grammar.allowed_form e t q of_values l)
value_begins e t q expr_as.Array = shows_then (shows_then (begins_symbol OpenBracket (kind_begins_expr true) true refl))
value_begins e t q expr_as.List = shows_then (begins_word (codes "list") (kind_begins_expr true) true refl)
value_begins e t q expr_as.Left = shows_then (begins_word (codes "Left") (kind_begins_expr true) true refl)
value_begins e t q expr_as.Right = shows_then (begins_word (codes "Right") (kind_begins_expr true) true refl)
value_begins e t q expr_as.Some = shows_then (begins_word (codes "Some") (kind_begins_expr true) true refl)
value_begins e t q expr_as.Nothing = shows_then (begins_word (codes "None") (kind_begins_expr true) true refl)
value_begins e t q expr_as.True = shows_then (begins_word (codes "true") (kind_begins_expr true) true refl)
value_begins e t q expr_as.False = shows_then (begins_word (codes "false") (kind_begins_expr true) true refl)
value_begins e t q expr_as.Literal = shows_then (begins_one is_literal mark (kind_begins_expr true) true (literal_begins true))
value_begins e t q _ = shows_never

-- what begins an expression or a value text
pub level_begins_so : (only : Bool) (e : Part Expr) (t : Part TypeText) (q : Part Pattern) → Begins (kind_begins_expr only) true (grammar.expr_level e t q (allowed_by only))
level_begins_so false e t q = level_begins e t q (allowed_by false)
level_begins_so true e t q = shows_either (parenthesised_begins (λ es. expr_of (exprs.Tuple es)) e (kind_begins_expr true) true refl) (shows_spanned expr_of (g.one_of (grammar.allowed_form e t q of_values)) (shows_one_of (value_begins e t q)))

literal_starts : {L : Type 0} (start : TokenKind → Option Symbol → Option L) (l : L) → ((w : List ℕ) (next : Option Symbol) → start (kinds.Literal w) next ≡ Some l) → (k : TokenKind) (next : Option Symbol) → is_literal k ≡ true → start k next ≡ Some l
literal_starts start l so (kinds.Literal x) next h = so x next
literal_starts start l so (kinds.Name x) next h = absurd (let no : ⊥ = cc in no)
literal_starts start l so (kinds.Symbol s) next h = absurd (let no : ⊥ = cc in no)

-- a value text is told by its first token
value_told : (e : Part Expr) (t : Part TypeText) (q : Part Pattern) (l : ExprAlternative) → Shows (first_two value_start_by) (Some l) (grammar.allowed_form e t q of_values l)
unfolding word_value
value_told e t q expr_as.Array = shows_then (shows_then (shows_start value_start_by (is_symbol OpenBracket) (λ x. tt) (λ k next h. rw (symbol_kind OpenBracket k h) refl)))
value_told e t q expr_as.List = shows_then (shows_start value_start_by (is_word (codes "list")) (λ x. tt) (λ k next h. rw (word_kind (codes "list") k h) refl))
value_told e t q expr_as.Left = shows_then (shows_start value_start_by (is_word (codes "Left")) (λ x. tt) (λ k next h. rw (word_kind (codes "Left") k h) refl))
value_told e t q expr_as.Right = shows_then (shows_start value_start_by (is_word (codes "Right")) (λ x. tt) (λ k next h. rw (word_kind (codes "Right") k h) refl))
value_told e t q expr_as.Some = shows_then (shows_start value_start_by (is_word (codes "Some")) (λ x. tt) (λ k next h. rw (word_kind (codes "Some") k h) refl))
value_told e t q expr_as.Nothing = shows_then (shows_start value_start_by (is_word (codes "None")) (λ x. tt) (λ k next h. rw (word_kind (codes "None") k h) refl))
value_told e t q expr_as.True = shows_then (shows_start value_start_by (is_word (codes "true")) (λ x. tt) (λ k next h. rw (word_kind (codes "true") k h) refl))
value_told e t q expr_as.False = shows_then (shows_start value_start_by (is_word (codes "false")) (λ x. tt) (λ k next h. rw (word_kind (codes "false") k h) refl))
value_told e t q expr_as.Literal = shows_then (shows_start value_start_by is_literal mark (literal_starts value_start_by expr_as.Literal (λ w next. refl)))
value_told e t q _ = shows_never

-- Expressions.

-- a word that begins an expression
record Heads (k : TokenKind) : Type 0 where
  written : List ℕ
  is : k ≡ kinds.Name written
  begins : is_head written ≡ true

head_word : (x : List ℕ) → is_head x ≡ true → (k : TokenKind) → is_word x k ≡ true → Heads k
head_word x begins k h = record { written = x; is = word_kind x k h; begins = begins }

head_name : (words : List (List ℕ)) (k : TokenKind) → is_name_but words k ≡ true → Heads k
head_name words k h = let n = named words k h in record { written = n.written; is = n.is; begins = rw n.no_keyword (or_true (bytes_eq n.written (codes "match"))) } where
  or_true : (b : Bool) → (b || true) ≡ true
  or_true true = refl
  or_true false = refl

itself : (s : Symbol) → is_symbol s (kinds.Symbol s) ≡ true → Begins (is_symbol s) true (grammar.symbol s)
itself s e = begins_symbol s (is_symbol s) true e

opens_word : {B : Type 0} {l : ExprAlternative} {q : Part B} (x : List ℕ) (s : Symbol) → expr_start_by (kinds.Name x) (Some s) ≡ Some l → is_head x ≡ true → Begins (is_symbol s) true q → Opening calm expr_start_by Heads l (g.◌>>◌ (grammar.word x) q)
opens_word x s so head next = opens_pair calm (is_word x) (λ t. tt) s (λ k h. rw (word_kind x k h) so) (head_word x head) (λ _. next)

-- each form is told by its first token and the symbol after it
opening : (e : Part Expr) (t : Part TypeText) (q : Part Pattern) (l : ExprAlternative) → Opening calm expr_start_by Heads l (grammar.expr_form e t q l)
unfolding before_exclamation before_colons loop_before_colons before_parenthesis before_others
opening e t q expr_as.Block = opens_shown calm Heads (shows_then (shows_start expr_start_by (is_symbol OpenBrace) (λ x. tt) (λ k next h. rw (symbol_kind OpenBrace k h) refl)))
opening e t q expr_as.Match = opens_shown calm Heads (shows_then (shows_start expr_start_by (is_word (codes "match")) (λ x. tt) (λ k next h. rw (word_kind (codes "match") k h) refl)))
opening e t q expr_as.Array = opens_shown calm Heads (shows_then (shows_then (shows_start expr_start_by (is_symbol OpenBracket) (λ x. tt) (λ k next h. rw (symbol_kind OpenBracket k h) refl))))
opening e t q expr_as.Into = opens_shown calm Heads (shows_then (shows_start expr_start_by (is_symbol Less) (λ x. tt) (λ k next h. rw (symbol_kind Less k h) refl)))
opening e t q expr_as.List = opens_word (codes "list") Exclamation refl refl (shows_then (itself Exclamation refl))
opening e t q expr_as.Assert = opens_word (codes "assert") Exclamation refl refl (shows_then (itself Exclamation refl))
opening e t q expr_as.Dbg = opens_word (codes "dbg") Exclamation refl refl (shows_then (itself Exclamation refl))
opening e t q expr_as.Panic = opens_word (codes "panic") Exclamation refl refl (shows_then (itself Exclamation refl))
opening e t q expr_as.Jet = opens_word (codes "jet") DoubleColon refl refl (shows_then (shows_then (itself DoubleColon refl)))
opening e t q expr_as.Witness = opens_word (codes "witness") DoubleColon refl refl (shows_then (shows_then (itself DoubleColon refl)))
opening e t q expr_as.Param = opens_word (codes "param") DoubleColon refl refl (shows_then (shows_then (itself DoubleColon refl)))
opening e t q expr_as.Unwrap = opens_word (codes "unwrap") OpenParenthesis refl refl (shows_then (shows_then (itself OpenParenthesis refl)))
opening e t q expr_as.UnwrapLeft = opens_word (codes "unwrap_left") DoubleColon refl refl (shows_then (shows_then (itself DoubleColon refl)))
opening e t q expr_as.UnwrapRight = opens_word (codes "unwrap_right") DoubleColon refl refl (shows_then (shows_then (itself DoubleColon refl)))
opening e t q expr_as.IsNone = opens_word (codes "is_none") DoubleColon refl refl (shows_then (shows_then (itself DoubleColon refl)))
opening e t q expr_as.Fold = opens_word (codes "fold") DoubleColon refl refl (shows_then (shows_then (itself DoubleColon refl)))
opening e t q expr_as.ArrayFold = opens_word (codes "array_fold") DoubleColon refl refl (shows_then (shows_then (itself DoubleColon refl)))
opening e t q expr_as.ForWhile = opens_word (codes "for_while") DoubleColon refl refl (shows_then (itself DoubleColon refl))
opening e t q expr_as.Left = opens_word (codes "Left") OpenParenthesis refl refl (shows_then (shows_then (itself OpenParenthesis refl)))
opening e t q expr_as.Right = opens_word (codes "Right") OpenParenthesis refl refl (shows_then (shows_then (itself OpenParenthesis refl)))
opening e t q expr_as.Some = opens_word (codes "Some") OpenParenthesis refl refl (shows_then (shows_then (itself OpenParenthesis refl)))
opening e t q expr_as.Nothing = opens_quiet (is_word (codes "None")) (λ x. tt) (λ x. exprs.Nothing) (λ k next h quiet. rw (word_kind (codes "None") k h) (ap (λ l. Some l) (quiet_named (codes "None") next quiet))) (head_word (codes "None") refl)
opening e t q expr_as.True = opens_quiet (is_word (codes "true")) (λ x. tt) (λ x. exprs.True) (λ k next h quiet. rw (word_kind (codes "true") k h) (ap (λ l. Some l) (quiet_named (codes "true") next quiet))) (head_word (codes "true") refl)
opening e t q expr_as.False = opens_quiet (is_word (codes "false")) (λ x. tt) (λ x. exprs.False) (λ k next h quiet. rw (word_kind (codes "false") k h) (ap (λ l. Some l) (quiet_named (codes "false") next quiet))) (head_word (codes "false") refl)
opening e t q expr_as.Literal = opens_shown calm Heads (shows_then (shows_start expr_start_by is_literal mark (literal_starts expr_start_by expr_as.Literal (λ w next. refl))))
opening e t q expr_as.Call =
    opens_pair calm (is_name_but applied_words) mark OpenParenthesis (λ k h. let n = named applied_words k h in rw n.is (name_starts n.written (Some OpenParenthesis) n.no_keyword ∙ ap (λ l. Some l) (called n.written n.none_of)))
    (head_name applied_words) (λ _. shows_then (shows_then (itself OpenParenthesis refl)))
opening e t q expr_as.Name =
    opens_quiet (is_name_but constants) mark (λ n. exprs.Name n.text) (λ k next h quiet. let n = named constants k h in rw n.is (name_starts n.written next n.no_keyword ∙ ap (λ l. Some l) (quiet_named n.written next quiet) ∙ ap (λ l. Some l) (variable n.written n.none_of)))
    (head_name constants)

-- a word alone is a front of what it begins, whatever stands next
module _ (e : Part Expr) (ty : Part TypeText) (q : Part Pattern) (t : Token) (us : List Token) (w : List ℕ) (is : t.kind ≡ kinds.Name w) (free : is_among keywords w ≡ false) where
  abbrev IsFront : ExprAlternative → Type 0
  IsFront l = (grammar.expr_form e ty q l).Front (t ∷ us) us

  by_answer : (b : Bool) (l m : ExprAlternative) → (b ≡ true → IsFront l) → IsFront m → IsFront (cond b l m)
  by_answer true l m x y = x refl
  by_answer false l m x y = y

  -- a word, or what else there is
  on_word : (x : List ℕ) (l m : ExprAlternative) → (is_word x t.kind ≡ true → IsFront l) → IsFront m → IsFront (cond (bytes_eq w x) l m)
  on_word x l m found more = by_answer (bytes_eq w x) l m (λ h. found (rw is h)) more

  but_by : (words : List (List ℕ)) → not (is_among words w) ≡ true → is_name_but words t.kind ≡ true
  but_by words h = rw (is, free) h

  three : (a b c : Bool) (x y z n : ExprAlternative) → (a ≡ true → IsFront x) → (b ≡ true → IsFront y) → (c ≡ true → IsFront z) → (not (a || (b || (c || false))) ≡ true → IsFront n) → IsFront (cond a x (cond b y (cond c z n)))
  three true b c x y z n h i j k = h refl
  three false true c x y z n h i j k = i refl
  three false false true x y z n h i j k = j refl
  three false false false x y z n h i j k = k refl

  four : (a b c d : Bool) (x y z u n : ExprAlternative) → (a ≡ true → IsFront x) → (b ≡ true → IsFront y) → (c ≡ true → IsFront z) → (d ≡ true → IsFront u) → (not (a || (b || (c || (d || false)))) ≡ true → IsFront n) → IsFront (cond a x (cond b y (cond c z (cond d u n))))
  four true b c d x y z u n f h i j k = f refl
  four false b c d x y z u n f h i j k = three b c d y z u n h i j k

  others_front : IsFront (before_others w)
  unfolding before_others
  others_front =
      three (bytes_eq w (codes "None")) (bytes_eq w (codes "true")) (bytes_eq w (codes "false")) expr_as.Nothing expr_as.True expr_as.False expr_as.Name
      (λ h. inl (inr (t, refl, rw is h))) (λ h. inl (inr (t, refl, rw is h))) (λ h. inl (inr (t, refl, rw is h))) (λ h. inl (inr (t, refl, but_by constants h)))

  parenthesis_front : IsFront (before_parenthesis w)
  unfolding before_parenthesis
  parenthesis_front =
      four (bytes_eq w (codes "unwrap")) (bytes_eq w (codes "Left")) (bytes_eq w (codes "Right")) (bytes_eq w (codes "Some")) expr_as.Unwrap expr_as.Left expr_as.Right expr_as.Some expr_as.Call
      (λ h. inl (inr (t, refl, rw is h))) (λ h. inl (inr (t, refl, rw is h))) (λ h. inl (inr (t, refl, rw is h))) (λ h. inl (inr (t, refl, rw is h))) (λ h. inl (inr (t, refl, but_by applied_words h)))

  exclamation_front : IsFront (before_exclamation w)
  unfolding before_exclamation
  exclamation_front =
      on_word (codes "list") expr_as.List _ (λ h. inl (inr (t, refl, h)))
      (on_word (codes "assert") expr_as.Assert _ (λ h. inl (inr (t, refl, h)))
      (on_word (codes "dbg") expr_as.Dbg _ (λ h. inl (inr (t, refl, h)))
      (on_word (codes "panic") expr_as.Panic _ (λ h. inl (inr (t, refl, h)))
      others_front)))

  loop_front : IsFront (loop_before_colons w)
  unfolding loop_before_colons
  loop_front =
      on_word (codes "fold") expr_as.Fold _ (λ h. inl (inr (t, refl, h)))
      (on_word (codes "array_fold") expr_as.ArrayFold _ (λ h. inl (inr (t, refl, h)))
      (on_word (codes "for_while") expr_as.ForWhile _ (λ h. inl (inr (t, refl, h)))
      others_front))

  colons_front : IsFront (before_colons w)
  unfolding before_colons
  colons_front =
      on_word (codes "jet") expr_as.Jet _ (λ h. inl (inr (t, refl, h)))
      (on_word (codes "witness") expr_as.Witness _ (λ h. inl (inr (t, refl, h)))
      (on_word (codes "param") expr_as.Param _ (λ h. inl (inr (t, refl, h)))
      (on_word (codes "unwrap_left") expr_as.UnwrapLeft _ (λ h. inl (inr (t, refl, h)))
      (on_word (codes "unwrap_right") expr_as.UnwrapRight _ (λ h. inl (inr (t, refl, h)))
      (on_word (codes "is_none") expr_as.IsNone _ (λ h. inl (inr (t, refl, h)))
      loop_front)))))

  named_front : (next : Option Symbol) → IsFront (named_expr w next)
  named_front None = others_front
  named_front (Some Exclamation) = exclamation_front
  named_front (Some DoubleColon) = colons_front
  named_front (Some OpenParenthesis) = parenthesis_front
  named_front (Some s) = others_front

head_front : (e : Part Expr) (ty : Part TypeText) (q : Part Pattern) (t : Token) (us : List Token) → Heads t.kind → (m : ExprAlternative) × (first_two expr_start_by (t ∷ us) ≡ Some m) × (grammar.expr_form e ty q m).Front (t ∷ us) us
head_front e ty q t us h = by_match (bytes_eq h.written (codes "match")) refl h.begins where
  not_true : (b : Bool) → not b ≡ true → b ≡ false
  not_true false h = refl
  not_true true h = absurd (let no : ⊥ = cc in no)

  by_match : (b : Bool) → bytes_eq h.written (codes "match") ≡ b → (b || not (is_among keywords h.written)) ≡ true → (m : ExprAlternative) × (expr_start_by t.kind (next_symbol us) ≡ Some m) × (grammar.expr_form e ty q m).Front (t ∷ us) us
  by_match true e' k = (expr_as.Match, rw (h.is, e') refl, inl (inr (t, refl, rw h.is e')))
  by_match false e' k =
      let free : is_among keywords h.written ≡ false = not_true (is_among keywords h.written) k in
      (named_expr h.written (next_symbol us), rw h.is (name_starts h.written (next_symbol us) free), named_front e ty q t us h.written h.is free (next_symbol us))

-- what tells an expression or a value text
pub told : (only : Bool) (e : Part Expr) (t : Part TypeText) (q : Part Pattern) → Told calm (start_of only) (grammar.allowed_form e t q (allowed_by only))
unfolding read.expr_start read.value_start
told false e t q = told_by (opening e t q) (head_front e t q)
told true e t q = told_by {start = value_start_by} {Heads = λ k. ⊥} (λ l. opens_shown calm (λ k. ⊥) (value_told e t q l)) (λ x us h. absurd h)

-- no tokens are a front of the alternatives
pub no_tokens : (only : Bool) (e : Part Expr) (t : Part TypeText) (q : Part Pattern) (ts : List Token) → (g.one_of (grammar.allowed_form e t q (allowed_by only))).Front ts ts
no_tokens false e t q ts = (expr_as.Literal, inl (inl refl))
no_tokens true e t q ts = (expr_as.Literal, inl (inl refl))

-- what begins an expression or a value text is a front of one
module _ (only : Bool) (e : Part Expr) (ty : Part TypeText) (q : Part Pattern) (t : Token) (ts : List Token) where
  abbrev level : Part Expr
  level = grammar.expr_level e ty q (allowed_by only)

  form : (g.one_of (grammar.allowed_form e ty q (allowed_by only))).Front (t ∷ ts) ts → level.Front (t ∷ ts) ts
  form f = inr (spanned_front expr_of (g.one_of (grammar.allowed_form e ty q (allowed_by only))) (t ∷ ts) ts f)

  parenthesis : t.kind ≡ kinds.Symbol OpenParenthesis → level.Front (t ∷ ts) ts
  parenthesis is = inl (parenthesised_front (λ xs. expr_of (exprs.Tuple xs)) e t ts (rw is refl))

expr_kind : (x : Part Expr) (ty : Part TypeText) (q : Part Pattern) (t : Token) (ts : List Token) (k : TokenKind) → t.kind ≡ k → kind_begins_expr false k ≡ true → (grammar.expr_level x ty q (allowed_by false)).Front (t ∷ ts) ts
expr_kind x ty q t ts (kinds.Name w) e h = let f = head_front x ty q t ts (record { written = w; is = e; begins = h }) in form false x ty q t ts (f.0, f.2)
expr_kind x ty q t ts (kinds.Literal w) e h = form false x ty q t ts (expr_as.Literal, inl (inr (t, refl, rw e refl)))
expr_kind x ty q t ts (kinds.Symbol OpenParenthesis) e h = parenthesis false x ty q t ts e
expr_kind x ty q t ts (kinds.Symbol OpenBracket) e h = form false x ty q t ts (expr_as.Array, inl (inl (inr (t, refl, rw e refl))))
expr_kind x ty q t ts (kinds.Symbol OpenBrace) e h = form false x ty q t ts (expr_as.Block, inl (inr (t, refl, rw e refl)))
expr_kind x ty q t ts (kinds.Symbol Less) e h = form false x ty q t ts (expr_as.Into, inl (inr (t, refl, rw e refl)))
expr_kind x ty q t ts k e h = absurd (let no : ⊥ = cc in no)

one_or : {P : Type 0} (b c : Bool) → (b || c) ≡ true → (b ≡ true → P) → (c ≡ true → P) → P
one_or true c h x y = x refl
one_or false c h x y = y h

value_kind : (x : Part Expr) (ty : Part TypeText) (q : Part Pattern) (t : Token) (ts : List Token) (k : TokenKind) → t.kind ≡ k → kind_begins_expr true k ≡ true → (grammar.expr_level x ty q (allowed_by true)).Front (t ∷ ts) ts
value_kind x ty q t ts (kinds.Name w) e h =
    one_or _ _ h (λ i. form true x ty q t ts (expr_as.List, inl (inr (t, refl, rw e i))))
    (λ h. one_or _ _ h (λ i. form true x ty q t ts (expr_as.Left, inl (inr (t, refl, rw e i))))
    (λ h. one_or _ _ h (λ i. form true x ty q t ts (expr_as.Right, inl (inr (t, refl, rw e i))))
    (λ h. one_or _ _ h (λ i. form true x ty q t ts (expr_as.Some, inl (inr (t, refl, rw e i))))
    (λ h. one_or _ _ h (λ i. form true x ty q t ts (expr_as.Nothing, inl (inr (t, refl, rw e i))))
    (λ h. one_or _ _ h (λ i. form true x ty q t ts (expr_as.True, inl (inr (t, refl, rw e i))))
    (λ h. one_or _ _ h (λ i. form true x ty q t ts (expr_as.False, inl (inr (t, refl, rw e i))))
    (λ h. absurd (let no : ⊥ = cc in no))))))))
value_kind x ty q t ts (kinds.Literal w) e h = form true x ty q t ts (expr_as.Literal, inl (inr (t, refl, rw e refl)))
value_kind x ty q t ts (kinds.Symbol OpenParenthesis) e h = parenthesis true x ty q t ts e
value_kind x ty q t ts (kinds.Symbol OpenBracket) e h = form true x ty q t ts (expr_as.Array, inl (inl (inr (t, refl, rw e refl))))
value_kind x ty q t ts k e h = absurd (let no : ⊥ = cc in no)

pub opens : (only : Bool) (x : Part Expr) (ty : Part TypeText) (q : Part Pattern) → Opens (begins_expr only) (grammar.expr_level x ty q (allowed_by only))
unfolding begins_expr
opens false x ty q = record { at_end = refl; front = λ t ts h. expr_kind x ty q t ts t.kind refl h }
opens true x ty q = record { at_end = refl; front = λ t ts h. value_kind x ty q t ts t.kind refl h }

pub shows : (only : Bool) (e : Part Expr) (t : Part TypeText) (q : Part Pattern) → Shows (begins_expr only) true (grammar.expr_level e t q (allowed_by only))
unfolding begins_expr
shows only e t q = level_begins_so only e t q
