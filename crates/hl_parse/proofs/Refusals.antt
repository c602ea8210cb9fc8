-- From what reading gives to the causes of refusals.
use Rattle.std.proofs.Common.{ℕ, List, [], ◌∷◌, ◌++◌, Result, Ok, Err, sym, ap, subst, ◌∙◌}
use Rattle.std.proofs.lemmas.List.{append_assoc}
use Rattle.hl_syntax.specs.declared.token.Span.{Span}
use Rattle.hl_syntax.specs.declared.token.Token.{Token}
use Rattle.hl_parse.specs.declared.parser.ParseRefusal.{ParseRefusal}
use Rattle.hl_parse.specs.declared.parser.ParseRefusal.TheVariants.{Syntax, TooDeep, OutOfMemory}
use Rattle.simplicityhl.specs.Parts.{Part}
use Rattle.simplicityhl.specs.Grammar.{most_depth}
use Rattle.simplicityhl.specs.Viable.{IsShallow, IsSyntaxError, IsFirstDeep}
use Rattle.hl_grammar.specs.Readers.{Reader, whole}
use Rattle.hl_grammar.proofs.Places.{Readable, refused, sunk, read_shallow, has_fronts, read_tree}
use Rattle.hl_parse.specs.Answers.{AnswersTree}
use Rattle.hl_parse.specs.Refusals.{IsCause, Refuses}

-- what is first too deep is too deep
deep_somewhere : {A : Type 0} (part : ℕ → Part A) (ts : List Token) (at : Span) → IsShallow part ts → IsFirstDeep part ts at → ⊥
deep_somewhere part ts at shallow f = shallow (f.before ++ f.token ∷ []) f.after (f.are ∙ sym (append_assoc f.before (f.token ∷ []) f.after)) f.deep

module _ {A : Type 0} {least : ℕ} (part : ℕ → Part A) (reader : ℕ → Reader A) (x : Readable least part reader) where
  pub cause : (ts : List Token) (end : ℕ) (result : Result A ParseRefusal) → AnswersTree (whole (reader most_depth) ts) end result → IsCause part ts end result
  cause ts end (Ok tree) h = read_shallow part reader x ts tree h.0 h.1
  cause ts end (Err (Syntax at)) h = subst (λ p. IsSyntaxError part ts end p) (sym h.2) (refused part reader x ts h.0 end h.1)
  cause ts end (Err (TooDeep at)) h = subst (λ p. IsFirstDeep part ts p) (sym h.2) (sunk part reader x ts h.0 end h.1)
  cause ts end (Err OutOfMemory) h = tt

  pub syntax_refused : (ts : List Token) (end : ℕ) (result : Result A ParseRefusal) → AnswersTree (whole (reader most_depth) ts) end result → (at : Span) → IsSyntaxError part ts end at → Refuses (Syntax at) result
  syntax_refused ts end (Ok tree) h at e = e.none tree (read_tree part reader x ts tree h.0 h.1)
  syntax_refused ts end (Err (Syntax other)) h at e = ap (λ p. Syntax p) ((has_fronts part reader x).one_place ts end at other e.dead (cause ts end (Err (Syntax other)) h).dead)
  syntax_refused ts end (Err (TooDeep other)) h at e = absurd (deep_somewhere part ts other e.shallow (cause ts end (Err (TooDeep other)) h))
  syntax_refused ts end (Err OutOfMemory) h at e = tt

  pub depth_refused : (ts : List Token) (end : ℕ) (result : Result A ParseRefusal) → AnswersTree (whole (reader most_depth) ts) end result → (at : Span) → IsFirstDeep part ts at → Refuses (TooDeep at) result
  depth_refused ts end (Ok tree) h at f = deep_somewhere part ts at (cause ts end (Ok tree) h) f
  depth_refused ts end (Err (Syntax other)) h at f = absurd (deep_somewhere part ts at (cause ts end (Err (Syntax other)) h).shallow f)
  depth_refused ts end (Err (TooDeep other)) h at f = ap (λ p. TooDeep p) ((has_fronts part reader x).one_deep ts at other f (cause ts end (Err (TooDeep other)) h))
  depth_refused ts end (Err OutOfMemory) h at f = tt
