-- Lists in brackets.
use Rattle.std.proofs.Common.{◌≡◌, ℕ, suc, ◌-◌, Bool, true, false, List, [], ◌∷◌, ◌++◌, refl, inl, inr, arith, Some}
use Rattle.hl_syntax.specs.declared.token.Span.{Span}
use Rattle.hl_syntax.specs.declared.token.Token.{Token}
use Rattle.hl_syntax.specs.declared.token.TokenKind.{TokenKind}
use Rattle.hl_syntax.specs.declared.token.TokenKind.TheVariants as kinds
use Rattle.hl_syntax.specs.declared.token.Symbol.{Symbol}
use Rattle.hl_syntax.specs.declared.token.Symbol.TheVariants.{OpenParenthesis, CloseParenthesis, CloseBracket, Comma}
use Rattle.simplicityhl.specs.Parts.{Part}
use Rattle.simplicityhl.specs.Parts as g
use Rattle.simplicityhl.specs.Grammar.{is_symbol, Listed, many_turn, alone_or}
use Rattle.simplicityhl.specs.Grammar as grammar
use Rattle.hl_grammar.specs.Readers.{Outcome, Reader, first_is}
use Rattle.hl_grammar.specs.Readers as r
use Rattle.hl_grammar.specs.Read.{is_at}
use Rattle.hl_grammar.specs.Read as read
use Rattle.hl_grammar.proofs.Exact.{Exact, Shows, shows_then, shows_either, shows_spanned, spanned_front, anything, fewer, done-exact, choose-exact, turning-exact, spanned-exact}
use Rattle.hl_grammar.proofs.Tokens.{Begins, begins_symbol, at_first, at_symbol, not_at_symbol, calm, calm_symbol, is_quiet, symbol-then, then-calm}

-- the brackets that end lists
pub record Closes (close : Symbol) : Type 0 where
  pub itself : is_symbol close (kinds.Symbol close) ≡ true
  pub no_comma : is_symbol close (kinds.Symbol Comma) ≡ false
  pub quiet : is_quiet (Some close) ≡ true

pub parenthesis_closes : Closes CloseParenthesis
parenthesis_closes = record { itself = refl; no_comma = refl; quiet = refl }

pub bracket_closes : Closes CloseBracket
bracket_closes = record { itself = refl; no_comma = refl; quiet = refl }

module _ {A : Type 0} {d n : ℕ} (close : Symbol) (closes : Closes close) (p p' : Part A) (x : Reader A) (exact : (bound : ℕ) → Exact calm d n 1 bound p p' x) (apart : Shows (is_at close) false p) where
  ends : {B : Type 0} (b : B) (bound : ℕ) → Exact anything d n 1 bound (g.◌>>◌ (grammar.symbol close) (g.done b)) (g.◌>>◌ (grammar.symbol close) (g.done b)) (r.◌>>◌ (read.symbol close) (r.done b))
  ends b bound = symbol-then close (done-exact b (bound - 1))

  turn-exact : (bound : ℕ) (more more' : List A → Part (Listed A)) (reader : List A → Reader (Listed A)) → ((found : List A) → Exact anything d n 1 bound (more found) (more' found) (reader found))
      → (found : List A) → Exact anything d n 1 (suc bound) (many_turn close p more found) (many_turn close p' more' found) (read.many_turn close x reader found)
  turn-exact bound more more' reader h found =
      choose-exact (is_at close) (ends (record { items = found; is_open = true }) (suc bound))
      (then-calm (exact (suc bound)) (λ a. choose-exact (is_at close) (ends (record { items = found ++ a ∷ []; is_open = false }) (suc bound - 1)) (symbol-then Comma (fewer (suc bound - 1 - 1) (omega arith) (h (found ++ a ∷ []))))
      (shows_then (at_symbol close closes.itself))
      (shows_then (not_at_symbol close Comma closes.no_comma)))
      (λ a. shows_either (shows_then (calm_symbol close closes.quiet)) (shows_then (calm_symbol Comma refl))))
      (shows_then (at_symbol close closes.itself))
      (shows_then apart)

  pub many-exact : (bound : ℕ) → Exact anything d n 1 bound (grammar.many close p) (grammar.many close p') (read.many close x)
  many-exact bound = turning-exact turn-exact bound []

pub parenthesised-exact : {A : Type 0} {d n : ℕ} (tuple : List A → Span → A) (p p' : Part A) (x : Reader A) → ((bound : ℕ) → Exact calm d n 1 bound p p' x) → Shows (is_at CloseParenthesis) false p
    → (bound : ℕ) → Exact anything d n 1 bound (grammar.parenthesised tuple p) (grammar.parenthesised tuple p') (read.parenthesised tuple x)
unfolding read.parenthesised
parenthesised-exact tuple p p' x exact apart bound =
    spanned-exact (λ l span. alone_or (λ xs. tuple xs span) l.items l.is_open) (symbol-then OpenParenthesis (many-exact CloseParenthesis parenthesis_closes p p' x exact apart (bound - 1)))

pub parenthesised_begins : {A : Type 0} (tuple : List A → Span → A) (p : Part A) (test : TokenKind → Bool) (answer : Bool) → test (kinds.Symbol OpenParenthesis) ≡ answer → Begins test answer (grammar.parenthesised tuple p)
parenthesised_begins tuple p test answer e =
    shows_spanned (λ l span. alone_or (λ xs. tuple xs span) l.items l.is_open) (g.◌>>◌ (grammar.symbol OpenParenthesis) (grammar.many CloseParenthesis p)) (shows_then (begins_symbol OpenParenthesis test answer e))

pub parenthesised_at : {A : Type 0} (tuple : List A → Span → A) (p : Part A) → Shows (is_at OpenParenthesis) true (grammar.parenthesised tuple p)
parenthesised_at tuple p = at_first OpenParenthesis (parenthesised_begins tuple p (is_symbol OpenParenthesis) true refl)

-- the token of an open parenthesis alone
pub parenthesised_front : {A : Type 0} (tuple : List A → Span → A) (p : Part A) (t : Token) (ts : List Token) → is_symbol OpenParenthesis t.kind ≡ true → (grammar.parenthesised tuple p).Front (t ∷ ts) ts
parenthesised_front tuple p t ts h =
    spanned_front (λ l span. alone_or (λ xs. tuple xs span) l.items l.is_open) (g.◌>>◌ (grammar.symbol OpenParenthesis) (grammar.many CloseParenthesis p)) (t ∷ ts) ts (inl (inr (t, refl, h)))
