-- Types are read as they are.
use Rattle.std.proofs.Common.{◌≡◌, ℕ, zero, suc, ◌≤◌, Bool, true, false, cond, List, ◌∷◌, refl, ap, ◌∙◌, inl, inr, Option, Some, None, codes, bytes_eq}
use Rattle.hl_syntax.specs.declared.token.Token.{Token}
use Rattle.hl_syntax.specs.declared.token.TokenKind.{TokenKind}
use Rattle.hl_syntax.specs.declared.token.TokenKind.TheVariants as kinds
use Rattle.hl_syntax.specs.declared.token.Symbol.{Symbol}
use Rattle.hl_syntax.specs.declared.token.Symbol.TheVariants.{OpenParenthesis, CloseParenthesis, OpenBracket, CloseBracket, Less, Greater, Comma, Semicolon}
use Rattle.hl_syntax.specs.declared.tree.TypeText.{TypeText}
use Rattle.hl_syntax.specs.declared.tree.TypeForm.TheVariants as types
use Rattle.simplicityhl.specs.declared.alternatives.TypeAlternative.{TypeAlternative}
use Rattle.simplicityhl.specs.declared.alternatives.TypeAlternative.TheVariants as type_as
use Rattle.simplicityhl.specs.Parts.{Part}
use Rattle.simplicityhl.specs.Parts as g
use Rattle.simplicityhl.specs.Grammar.{Listed, is_symbol, is_word, is_name, is_among, keywords, mark, type_of}
use Rattle.simplicityhl.specs.Grammar as grammar
use Rattle.hl_grammar.specs.Readers.{Reader}
use Rattle.hl_grammar.specs.Read.{is_at, kind_begins_type, type_start_by, named_type, generic_type, begins_type, next_symbol, first_two}
use Rattle.hl_grammar.specs.Read as read
use Rattle.hl_grammar.proofs.Exact.{Exact, Shows, Told, Opens, shows_then, shows_either, shows_one_of, shows_spanned, shows_too_deep, spanned_front, anything, freely, deeper, from_nothing, too_deep_is, done-exact, choose-exact, pick-exact, brink-exact, brink-over, spanned-exact}
use Rattle.hl_grammar.proofs.Tokens.{Begins, symbol_kind, word_kind, begins_one, begins_symbol, begins_word, at_first, not_at, calm, is_quiet, symbol-then, word-then, then-symbol, then-free, then-done, name-exact, decimal-exact}
use Rattle.hl_grammar.proofs.Lists.{parenthesised-exact, parenthesised_begins, parenthesised_at, parenthesised_front}
use Rattle.hl_grammar.proofs.Starts.{Opening, opens_shown, shows_start, opens_pair, opens_quiet, told_by, else_part}

name_begins : (k : TokenKind) → is_name k ≡ true → kind_begins_type k ≡ true
name_begins (kinds.Name w) h = h
name_begins (kinds.Symbol s) h = absurd (let no : ⊥ = cc in no)
name_begins (kinds.Literal w) h = absurd (let no : ⊥ = cc in no)

quiet_name : (w : List ℕ) (next : Option Symbol) → is_quiet next ≡ true → named_type w next ≡ type_as.Name
quiet_name w None h = refl
quiet_name w (Some Less) h = absurd (let no : ⊥ = cc in no)
quiet_name w (Some s) h = refl

name_start : (k : TokenKind) (next : Option Symbol) → is_name k ≡ true → is_quiet next ≡ true → type_start_by k next ≡ Some type_as.Name
name_start (kinds.Name w) next h quiet = else_part (is_among keywords w) None (Some (named_type w next)) h ∙ ap (λ l. Some l) (quiet_name w next quiet)
name_start (kinds.Symbol s) next h quiet = absurd (let no : ⊥ = cc in no)
name_start (kinds.Literal w) next h quiet = absurd (let no : ⊥ = cc in no)

module _ (p : Part TypeText) (test : TokenKind → Bool) (answer : Bool) (name : (k : TokenKind) → is_name k ≡ true → test k ≡ answer) (array : test (kinds.Symbol OpenBracket) ≡ answer)
    (list : test (kinds.Name (codes "List")) ≡ answer) (option : test (kinds.Name (codes "Option")) ≡ answer) (either : test (kinds.Name (codes "Either")) ≡ answer) where
  form_begins : (l : TypeAlternative) → Begins test answer (grammar.type_form p l)
  form_begins type_as.Array = shows_then (begins_symbol OpenBracket test answer array)
  form_begins type_as.List = shows_then (begins_word (codes "List") test answer list)
  form_begins type_as.Option = shows_then (begins_word (codes "Option") test answer option)
  form_begins type_as.Either = shows_then (begins_word (codes "Either") test answer either)
  form_begins type_as.Name = shows_then (begins_one is_name mark test answer name)

  forms_begin : Begins test answer (g.spanned type_of (g.one_of (grammar.type_form p)))
  forms_begin = shows_spanned type_of (g.one_of (grammar.type_form p)) (shows_one_of form_begins)

level_begins : (p : Part TypeText) → Begins kind_begins_type true (grammar.type_level p)
level_begins p = shows_either (parenthesised_begins (λ ts. type_of (types.Tuple ts)) p kind_begins_type true refl) (forms_begin p kind_begins_type true name_begins refl refl refl refl)

name_no_symbol : (k : TokenKind) → is_name k ≡ true → is_symbol OpenParenthesis k ≡ false
name_no_symbol (kinds.Name w) h = refl
name_no_symbol (kinds.Symbol s) h = absurd (let no : ⊥ = cc in no)
name_no_symbol (kinds.Literal w) h = absurd (let no : ⊥ = cc in no)

pub type_begins : (depth : ℕ) → Begins kind_begins_type true (grammar.type depth)
type_begins zero = shows_too_deep (level_begins g.never)
type_begins (suc depth) = level_begins (grammar.type depth)

pub type_apart : (s : Symbol) → kind_begins_type (kinds.Symbol s) ≡ false → (depth : ℕ) → Shows (is_at s) false (grammar.type depth)
type_apart s fails depth = not_at s kind_begins_type fails (type_begins depth)

-- a name alone is a front of what it begins, whatever stands next
generic_front : (p : Part TypeText) (t : Token) (us : List Token) (w : List ℕ) → t.kind ≡ kinds.Name w → is_name (kinds.Name w) ≡ true → (grammar.type_form p (generic_type w)).Front (t ∷ us) us
unfolding generic_type
generic_front p t us w e h =
    on_word (codes "List") type_as.List _ (λ is. inl (inr (t, refl, is)))
    (on_word (codes "Option") type_as.Option _ (λ is. inl (inr (t, refl, is)))
    (on_word (codes "Either") type_as.Either _ (λ is. inl (inr (t, refl, is)))
    (inl (inr (t, refl, rw e h)))))
  where
    by_answer : (b : Bool) (l m : TypeAlternative) → (b ≡ true → (grammar.type_form p l).Front (t ∷ us) us) → (grammar.type_form p m).Front (t ∷ us) us → (grammar.type_form p (cond b l m)).Front (t ∷ us) us
    by_answer true l m x y = x refl
    by_answer false l m x y = y

    on_word : (x : List ℕ) (l m : TypeAlternative) → (is_word x t.kind ≡ true → (grammar.type_form p l).Front (t ∷ us) us) → (grammar.type_form p m).Front (t ∷ us) us → (grammar.type_form p (cond (bytes_eq w x) l m)).Front (t ∷ us) us
    on_word x l m found more = by_answer (bytes_eq w x) l m (λ is. found (rw e is)) more

named_front : (p : Part TypeText) (t : Token) (us : List Token) (w : List ℕ) (next : Option Symbol) → t.kind ≡ kinds.Name w → is_name (kinds.Name w) ≡ true → (grammar.type_form p (named_type w next)).Front (t ∷ us) us
named_front p t us w None e h = inl (inr (t, refl, rw e h))
named_front p t us w (Some Less) e h = generic_front p t us w e h
named_front p t us w (Some s) e h = inl (inr (t, refl, rw e h))

name_front : (p : Part TypeText) (t : Token) (us : List Token) → is_name t.kind ≡ true → (m : TypeAlternative) × (first_two type_start_by (t ∷ us) ≡ Some m) × (grammar.type_form p m).Front (t ∷ us) us
name_front p t us h = by_kind t.kind refl h where
  by_kind : (k : TokenKind) → t.kind ≡ k → is_name k ≡ true → (m : TypeAlternative) × (type_start_by t.kind (next_symbol us) ≡ Some m) × (grammar.type_form p m).Front (t ∷ us) us
  by_kind (kinds.Name w) e h = (named_type w (next_symbol us), rw e (else_part (is_among keywords w) None (Some (named_type w (next_symbol us))) h), named_front p t us w (next_symbol us) e h)
  by_kind (kinds.Symbol s) e h = absurd (let no : ⊥ = cc in no)
  by_kind (kinds.Literal w) e h = absurd (let no : ⊥ = cc in no)

told : (p : Part TypeText) → Told calm read.type_start (grammar.type_form p)
unfolding read.type_start read.generic_type
told p = told_by openings (name_front p) where
  word_name : (x : List ℕ) → is_name (kinds.Name x) ≡ true → (k : TokenKind) → is_word x k ≡ true → is_name k ≡ true
  word_name x named k h = rw (word_kind x k h) named

  openings : (l : TypeAlternative) → Opening calm type_start_by (λ k. is_name k ≡ true) l (grammar.type_form p l)
  openings type_as.Array = opens_shown calm (λ k. is_name k ≡ true) (shows_then (shows_start type_start_by (is_symbol OpenBracket) (λ t. tt) (λ k next h. rw (symbol_kind OpenBracket k h) refl)))
  openings type_as.List = opens_pair calm (is_word (codes "List")) (λ t. tt) Less (λ k h. rw (word_kind (codes "List") k h) refl) (word_name (codes "List") refl) (λ _. shows_then (begins_symbol Less (is_symbol Less) true refl))
  openings type_as.Option = opens_pair calm (is_word (codes "Option")) (λ t. tt) Less (λ k h. rw (word_kind (codes "Option") k h) refl) (word_name (codes "Option") refl) (λ _. shows_then (begins_symbol Less (is_symbol Less) true refl))
  openings type_as.Either = opens_pair calm (is_word (codes "Either")) (λ t. tt) Less (λ k h. rw (word_kind (codes "Either") k h) refl) (word_name (codes "Either") refl) (λ _. shows_then (begins_symbol Less (is_symbol Less) true refl))
  openings type_as.Name = opens_quiet is_name mark (λ n. types.Name n.text) name_start (λ k h. h)

-- no tokens are a front of a type's alternatives
no_tokens : (p : Part TypeText) (ts : List Token) → (g.one_of (grammar.type_form p)).Front ts ts
no_tokens p ts = (type_as.Name, inl (inl refl))

module _ {d n : ℕ} (p p' : Part TypeText) (x : Reader TypeText) (exact : (bound : ℕ) → Exact calm d n 1 bound p p' x)
    (apart : (s : Symbol) → kind_begins_type (kinds.Symbol s) ≡ false → Shows (is_at s) false p) where
  form-exact : (l : TypeAlternative) (bound : ℕ) → Exact anything d n 1 bound (grammar.type_form p l) (grammar.type_form p' l) (read.type_form x l)
  unfolding read.type_form
  form-exact type_as.Array bound = symbol-then OpenBracket (then-symbol Semicolon refl (exact _) (λ item. then-free (decimal-exact _) (λ length. symbol-then CloseBracket (done-exact (types.Array item length) _))))
  form-exact type_as.List bound = word-then (codes "List") (symbol-then Less (then-symbol Comma refl (exact _) (λ item. then-free (decimal-exact _) (λ length. symbol-then Greater (done-exact (types.List item length) _)))))
  form-exact type_as.Option bound = word-then (codes "Option") (symbol-then Less (then-symbol Greater refl (exact _) (λ item. done-exact (types.Option item) _)))
  form-exact type_as.Either bound = word-then (codes "Either") (symbol-then Less (then-symbol Comma refl (exact _) (λ left. then-symbol Greater refl (exact _) (λ right. done-exact (types.Either left right) _))))
  form-exact type_as.Name bound = then-done (λ n. types.Name n.text) (name-exact bound)

  pub level-exact : (bound : ℕ) → Exact calm d n 1 bound (grammar.type_level p) (grammar.type_level p') (read.type_level x)
  unfolding read.type_level
  level-exact bound =
      choose-exact (is_at OpenParenthesis) (freely calm (parenthesised-exact (λ ts. type_of (types.Tuple ts)) p p' x exact (apart CloseParenthesis refl) bound))
      (spanned-exact type_of (pick-exact read.type_start (λ l. freely calm (form-exact l bound)) (no_tokens p') (told p)))
      (parenthesised_at (λ ts. type_of (types.Tuple ts)) p)
      (at_first OpenParenthesis (forms_begin p (is_symbol OpenParenthesis) false name_no_symbol refl refl refl refl))

-- what begins a type is a front of one
pub opens : (p : Part TypeText) → Opens begins_type (grammar.type_level p)
unfolding begins_type
opens p = record { at_end = refl; front = λ t ts h. by_kind t ts t.kind refl h } where
  form : (t : Token) (ts : List Token) → (g.one_of (grammar.type_form p)).Front (t ∷ ts) ts → (grammar.type_level p).Front (t ∷ ts) ts
  form t ts f = inr (spanned_front type_of (g.one_of (grammar.type_form p)) (t ∷ ts) ts f)

  by_kind : (t : Token) (ts : List Token) (k : TokenKind) → t.kind ≡ k → kind_begins_type k ≡ true → (grammar.type_level p).Front (t ∷ ts) ts
  by_kind t ts (kinds.Name w) e h = form t ts (type_as.Name, inl (inr (t, refl, rw e h)))
  by_kind t ts (kinds.Symbol OpenParenthesis) e h = inl (parenthesised_front (λ xs. type_of (types.Tuple xs)) p t ts (rw e refl))
  by_kind t ts (kinds.Symbol OpenBracket) e h = form t ts (type_as.Array, inl (inr (t, refl, rw e refl)))
  by_kind t ts k e h = absurd (let no : ⊥ = cc in no)

shows : (depth : ℕ) → Shows begins_type true (grammar.type_level (grammar.type depth))
unfolding begins_type
shows depth = level_begins (grammar.type depth)

pub shows_none : Shows begins_type true (grammar.type_level g.never)
unfolding begins_type
shows_none = level_begins g.never

-- types of each depth and a reader of each other
pub type_at : (depth depth' bound : ℕ) → Exact calm depth depth' 1 bound (grammar.type depth) (grammar.type depth') (read.type depth')
unfolding read.type
type_at zero zero bound = brink-exact (grammar.type_level g.never) begins_type (opens g.never) calm 1 bound shows_none
type_at zero (suc depth') bound =
    from_nothing zero (suc depth') (grammar.type zero) (too_deep_is depth' (grammar.type_level g.never))
    (level-exact (grammar.type zero) (grammar.type depth') (read.type depth') (λ n. type_at zero depth' n) (λ s fails. type_apart s fails zero) bound)
type_at (suc depth) zero bound =
    brink-over (grammar.type_level g.never) begins_type (opens g.never) (shows depth)
    (level-exact (grammar.type depth) (grammar.type depth) (read.type depth) (λ n. type_at depth depth n) (λ s fails. type_apart s fails depth) bound)
type_at (suc depth) (suc depth') bound = deeper (level-exact (grammar.type depth) (grammar.type depth') (read.type depth') (λ n. type_at depth depth' n) (λ s fails. type_apart s fails depth) bound)

pub type-exact : (depth depth' bound : ℕ) → depth ≤ depth' → Exact calm depth depth' 1 bound (grammar.type depth) (grammar.type depth') (read.type depth')
type-exact depth depth' bound below = type_at depth depth' bound
