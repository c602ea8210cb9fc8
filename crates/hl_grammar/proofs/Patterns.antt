-- Patterns are read as they are.
use Rattle.std.proofs.Common.{◌≡◌, ℕ, zero, suc, ◌-◌, ◌≤◌, Bool, true, false, List, ◌∷◌, refl, inl, inr, Option, Some, None}
use Rattle.hl_syntax.specs.declared.token.Token.{Token}
use Rattle.hl_syntax.specs.declared.token.TokenKind.{TokenKind}
use Rattle.hl_syntax.specs.declared.token.TokenKind.TheVariants as kinds
use Rattle.hl_syntax.specs.declared.token.Symbol.{Symbol}
use Rattle.hl_syntax.specs.declared.token.Symbol.TheVariants.{OpenParenthesis, CloseParenthesis, OpenBracket, CloseBracket, Underscore}
use Rattle.hl_syntax.specs.declared.tree.Pattern.{Pattern}
use Rattle.hl_syntax.specs.declared.tree.PatternForm.TheVariants as patterns
use Rattle.simplicityhl.specs.declared.alternatives.PatternAlternative.{PatternAlternative}
use Rattle.simplicityhl.specs.declared.alternatives.PatternAlternative.TheVariants as pattern_as
use Rattle.simplicityhl.specs.Parts.{Part}
use Rattle.simplicityhl.specs.Parts as g
use Rattle.simplicityhl.specs.Grammar.{Listed, is_symbol, is_name, is_among, keywords, mark, pattern_of}
use Rattle.simplicityhl.specs.Grammar as grammar
use Rattle.hl_grammar.specs.Readers.{Reader}
use Rattle.hl_grammar.specs.Read.{is_at, kind_begins_pattern, pattern_start_by, begins_pattern}
use Rattle.hl_grammar.specs.Read as read
use Rattle.hl_grammar.proofs.Exact.{Exact, Shows, Told, Opens, shows_then, shows_either, shows_one_of, shows_spanned, shows_too_deep, spanned_front, anything, freely, deeper, from_nothing, too_deep_is, done-exact, choose-exact, pick-exact, brink-exact, brink-over, spanned-exact}
use Rattle.hl_grammar.proofs.Tokens.{Begins, symbol_kind, begins_one, begins_symbol, at_first, not_at, calm, symbol-then, then-done, name-exact}
use Rattle.hl_grammar.proofs.Lists.{bracket_closes, many-exact, parenthesised-exact, parenthesised_begins, parenthesised_at, parenthesised_front}
use Rattle.hl_grammar.proofs.Starts.{Opening, opens_shown, shows_start, told_by, else_part}

name_begins : (k : TokenKind) → is_name k ≡ true → kind_begins_pattern k ≡ true
name_begins (kinds.Name w) h = h
name_begins (kinds.Symbol s) h = absurd (let no : ⊥ = cc in no)
name_begins (kinds.Literal w) h = absurd (let no : ⊥ = cc in no)

name_start : (k : TokenKind) (next : Option Symbol) → is_name k ≡ true → pattern_start_by k next ≡ Some pattern_as.Name
name_start (kinds.Name w) next h = else_part (is_among keywords w) None (Some pattern_as.Name) h
name_start (kinds.Symbol s) next h = absurd (let no : ⊥ = cc in no)
name_start (kinds.Literal w) next h = absurd (let no : ⊥ = cc in no)

form_begins : (p : Part Pattern) (test : TokenKind → Bool) (answer : Bool) → ((k : TokenKind) → is_name k ≡ true → test k ≡ answer) → test (kinds.Symbol Underscore) ≡ answer → test (kinds.Symbol OpenBracket) ≡ answer → (l : PatternAlternative) → Begins test answer (grammar.pattern_form p l)
form_begins p test answer name ignore array pattern_as.Name = shows_then (begins_one is_name mark test answer name)
form_begins p test answer name ignore array pattern_as.Ignore = shows_then (begins_symbol Underscore test answer ignore)
form_begins p test answer name ignore array pattern_as.Array = shows_then (begins_symbol OpenBracket test answer array)

forms_begin : (p : Part Pattern) (test : TokenKind → Bool) (answer : Bool) → ((k : TokenKind) → is_name k ≡ true → test k ≡ answer) → test (kinds.Symbol Underscore) ≡ answer → test (kinds.Symbol OpenBracket) ≡ answer → Begins test answer (g.spanned pattern_of (g.one_of (grammar.pattern_form p)))
forms_begin p test answer name ignore array = shows_spanned pattern_of (g.one_of (grammar.pattern_form p)) (shows_one_of (form_begins p test answer name ignore array))

level_begins : (p : Part Pattern) → Begins kind_begins_pattern true (grammar.pattern_level p)
level_begins p = shows_either (parenthesised_begins (λ ps. pattern_of (patterns.Tuple ps)) p kind_begins_pattern true refl) (forms_begin p kind_begins_pattern true name_begins refl refl)

name_no_symbol : (k : TokenKind) → is_name k ≡ true → is_symbol OpenParenthesis k ≡ false
name_no_symbol (kinds.Name w) h = refl
name_no_symbol (kinds.Symbol s) h = absurd (let no : ⊥ = cc in no)
name_no_symbol (kinds.Literal w) h = absurd (let no : ⊥ = cc in no)

pub pattern_begins : (depth : ℕ) → Begins kind_begins_pattern true (grammar.pattern depth)
pattern_begins zero = shows_too_deep (level_begins g.never)
pattern_begins (suc depth) = level_begins (grammar.pattern depth)

pub pattern_apart : (s : Symbol) → kind_begins_pattern (kinds.Symbol s) ≡ false → (depth : ℕ) → Shows (is_at s) false (grammar.pattern depth)
pattern_apart s fails depth = not_at s kind_begins_pattern fails (pattern_begins depth)

told : (p : Part Pattern) → Told anything read.pattern_start (grammar.pattern_form p)
unfolding read.pattern_start
told p = told_by {Heads = λ k. ⊥} openings (λ t us h. absurd h) where
  openings : (l : PatternAlternative) → Opening anything pattern_start_by (λ k. ⊥) l (grammar.pattern_form p l)
  openings pattern_as.Name = opens_shown anything (λ k. ⊥) (shows_then (shows_start pattern_start_by is_name mark (λ k next h. name_start k next h)))
  openings pattern_as.Ignore = opens_shown anything (λ k. ⊥) (shows_then (shows_start pattern_start_by (is_symbol Underscore) (λ t. tt) (λ k next h. rw (symbol_kind Underscore k h) refl)))
  openings pattern_as.Array = opens_shown anything (λ k. ⊥) (shows_then (shows_start pattern_start_by (is_symbol OpenBracket) (λ t. tt) (λ k next h. rw (symbol_kind OpenBracket k h) refl)))

-- no tokens are a front of a pattern's alternatives
no_tokens : (p : Part Pattern) (ts : List Token) → (g.one_of (grammar.pattern_form p)).Front ts ts
no_tokens p ts = (pattern_as.Ignore, inl (inl refl))

module _ {d n : ℕ} (p p' : Part Pattern) (x : Reader Pattern) (exact : (bound : ℕ) → Exact calm d n 1 bound p p' x)
    (apart : (s : Symbol) → kind_begins_pattern (kinds.Symbol s) ≡ false → Shows (is_at s) false p) where
  form-exact : (l : PatternAlternative) (bound : ℕ) → Exact anything d n 1 bound (grammar.pattern_form p l) (grammar.pattern_form p' l) (read.pattern_form x l)
  unfolding read.pattern_form
  form-exact pattern_as.Name bound = then-done (λ n. patterns.Name n.text) (name-exact bound)
  form-exact pattern_as.Ignore bound = symbol-then Underscore (done-exact patterns.Ignore (bound - 1))
  form-exact pattern_as.Array bound = symbol-then OpenBracket (then-done (λ l. patterns.Array l.items) (many-exact CloseBracket bracket_closes p p' x exact (apart CloseBracket refl) (bound - 1)))

  pub level-exact : (bound : ℕ) → Exact anything d n 1 bound (grammar.pattern_level p) (grammar.pattern_level p') (read.pattern_level x)
  unfolding read.pattern_level
  level-exact bound =
      choose-exact (is_at OpenParenthesis) (parenthesised-exact (λ ps. pattern_of (patterns.Tuple ps)) p p' x exact (apart CloseParenthesis refl) bound)
      (spanned-exact pattern_of (pick-exact read.pattern_start (λ l. form-exact l bound) (no_tokens p') (told p)))
      (parenthesised_at (λ ps. pattern_of (patterns.Tuple ps)) p)
      (at_first OpenParenthesis (forms_begin p (is_symbol OpenParenthesis) false name_no_symbol refl refl))

-- what begins a pattern is a front of one
pub opens : (p : Part Pattern) → Opens begins_pattern (grammar.pattern_level p)
unfolding begins_pattern
opens p = record { at_end = refl; front = λ t ts h. by_kind t ts t.kind refl h } where
  form : (t : Token) (ts : List Token) → (g.one_of (grammar.pattern_form p)).Front (t ∷ ts) ts → (grammar.pattern_level p).Front (t ∷ ts) ts
  form t ts f = inr (spanned_front pattern_of (g.one_of (grammar.pattern_form p)) (t ∷ ts) ts f)

  by_kind : (t : Token) (ts : List Token) (k : TokenKind) → t.kind ≡ k → kind_begins_pattern k ≡ true → (grammar.pattern_level p).Front (t ∷ ts) ts
  by_kind t ts (kinds.Name w) e h = form t ts (pattern_as.Name, inl (inr (t, refl, rw e h)))
  by_kind t ts (kinds.Symbol OpenParenthesis) e h = inl (parenthesised_front (λ ps. pattern_of (patterns.Tuple ps)) p t ts (rw e refl))
  by_kind t ts (kinds.Symbol OpenBracket) e h = form t ts (pattern_as.Array, inl (inr (t, refl, rw e refl)))
  by_kind t ts (kinds.Symbol Underscore) e h = form t ts (pattern_as.Ignore, inl (inr (t, refl, rw e refl)))
  by_kind t ts k e h = absurd (let no : ⊥ = cc in no)

shows : (depth : ℕ) → Shows begins_pattern true (grammar.pattern_level (grammar.pattern depth))
unfolding begins_pattern
shows depth = level_begins (grammar.pattern depth)

pub shows_none : Shows begins_pattern true (grammar.pattern_level g.never)
unfolding begins_pattern
shows_none = level_begins g.never

-- patterns of each depth and a reader of each other
pub pattern_at : (depth depth' bound : ℕ) → Exact calm depth depth' 1 bound (grammar.pattern depth) (grammar.pattern depth') (read.pattern depth')
unfolding read.pattern
pattern_at zero zero bound = brink-exact (grammar.pattern_level g.never) begins_pattern (opens g.never) calm 1 bound shows_none
pattern_at zero (suc depth') bound =
    from_nothing zero (suc depth') (grammar.pattern zero) (too_deep_is depth' (grammar.pattern_level g.never))
    (freely calm (level-exact (grammar.pattern zero) (grammar.pattern depth') (read.pattern depth') (λ n. pattern_at zero depth' n) (λ s fails. pattern_apart s fails zero) bound))
pattern_at (suc depth) zero bound =
    brink-over (grammar.pattern_level g.never) begins_pattern (opens g.never) (shows depth)
    (freely calm (level-exact (grammar.pattern depth) (grammar.pattern depth) (read.pattern depth) (λ n. pattern_at depth depth n) (λ s fails. pattern_apart s fails depth) bound))
pattern_at (suc depth) (suc depth') bound = deeper (freely calm (level-exact (grammar.pattern depth) (grammar.pattern depth') (read.pattern depth') (λ n. pattern_at depth depth' n) (λ s fails. pattern_apart s fails depth) bound))

pub pattern-exact : (depth depth' bound : ℕ) → depth ≤ depth' → Exact calm depth depth' 1 bound (grammar.pattern depth) (grammar.pattern depth') (read.pattern depth')
pattern-exact depth depth' bound below = pattern_at depth depth' bound
