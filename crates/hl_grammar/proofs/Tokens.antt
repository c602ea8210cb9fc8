-- Single tokens: what they begin, and readers of them and of what follows.
use Rattle.std.proofs.Common.{◌≡◌, ℕ, ◌-◌, Bool, true, false, List, [], ◌∷◌, refl, ap, subst, inl, inr, arith, Option, Some, None, rules}
use Rattle.std.proofs.lemmas.Slice.Eq.{bytes_eq-Decides}
use denote.Enum.Bare.{same_true}
use Rattle.hl_syntax.specs.contracts.token.Symbol.{the_type}
use Rattle.hl_syntax.specs.declared.token.Token.{Token}
use Rattle.hl_syntax.specs.declared.token.TokenKind.{TokenKind}
use Rattle.hl_syntax.specs.declared.token.TokenKind.TheVariants as kinds
use Rattle.hl_syntax.specs.declared.token.Symbol.{Symbol}
use Rattle.hl_syntax.specs.declared.token.Symbol.TheVariants.{OpenParenthesis, Less, DoubleColon, Exclamation}
use Rattle.simplicityhl.specs.Parts.{Part}
use Rattle.simplicityhl.specs.Parts as g
use Rattle.simplicityhl.specs.Grammar.{is_symbol, is_word, is_name, is_name_but, is_literal, is_decimal, mark}
use Rattle.simplicityhl.specs.Grammar as grammar
use Rattle.hl_grammar.specs.Readers.{Outcome, Reader, got, dead, too_deep, first_is}
use Rattle.hl_grammar.specs.Readers as r
use Rattle.hl_grammar.specs.Read.{next_symbol, symbol_in, first_two, is_at, is_at_word}
use Rattle.hl_grammar.specs.Read as read
use Rattle.hl_grammar.proofs.Exact.{Exact, Shows, shows_then, shows_by, shown, anything, free_anything, follows_done, freely, at_least, done-exact, one-exact, after-exact}

pub symbol_kind : (s : Symbol) (k : TokenKind) → is_symbol s k ≡ true → k ≡ kinds.Symbol s
symbol_kind s (kinds.Symbol other) e = ap (λ x. kinds.Symbol x) (same_true the_type (search rules) other s e)
symbol_kind s (kinds.Name w) e = absurd (let no : ⊥ = cc in no)
symbol_kind s (kinds.Literal w) e = absurd (let no : ⊥ = cc in no)

pub word_kind : (w : List ℕ) (k : TokenKind) → is_word w k ≡ true → k ≡ kinds.Name w
word_kind w (kinds.Name other) e = ap (λ x. kinds.Name x) ((bytes_eq-Decides other w).0 e)
word_kind w (kinds.Symbol s) e = absurd (let no : ⊥ = cc in no)
word_kind w (kinds.Literal other) e = absurd (let no : ⊥ = cc in no)

-- the first token of an occurrence answers a test so
abbrev pub Begins : {A : Type 0} → (TokenKind → Bool) → Bool → Part A → Type 0
Begins {A} test answer p = Shows (first_is test) answer p

-- what a token shows together with those after it
pub shows_one : {A V : Type 0} {test : List Token → V} {answer : V} (fits : TokenKind → Bool) (value : Token → A) → ((t : Token) (us : List Token) → fits t.kind ≡ true → test (t ∷ us) ≡ answer) → Shows test answer (g.one fits value)
shows_one fits value so = record {
  whole = λ ts a rest w. rw w.1 (so w.0 rest w.2);
  front = λ ts rest h. elim h [ inl e ↦ inl e | inr u ↦ inr (rw u.1 (so u.0 rest u.2)) ];
  deep = λ ts rest h. absurd h;
}

pub begins_one : {A : Type 0} (fits : TokenKind → Bool) (value : Token → A) (test : TokenKind → Bool) (answer : Bool) → ((k : TokenKind) → fits k ≡ true → test k ≡ answer) → Begins test answer (g.one fits value)
begins_one fits value test answer so = shows_one fits value (λ t us h. so t.kind h)

pub begins_symbol : (s : Symbol) (test : TokenKind → Bool) (answer : Bool) → test (kinds.Symbol s) ≡ answer → Begins test answer (grammar.symbol s)
begins_symbol s test answer e = shows_one (is_symbol s) (λ t. tt) (λ t us h. rw (symbol_kind s t.kind h) e)

pub begins_word : (x : List ℕ) (test : TokenKind → Bool) (answer : Bool) → test (kinds.Name x) ≡ answer → Begins test answer (grammar.word x)
begins_word x test answer e = shows_one (is_word x) (λ t. tt) (λ t us h. rw (word_kind x t.kind h) e)

-- a first token that passes one test fails another, that no token passes with the first
pub begins_else : (test other : TokenKind → Bool) (ts : List Token) → ((k : TokenKind) → test k ≡ true → other k ≡ false) → first_is test ts ≡ true → first_is other ts ≡ false
begins_else test other [] apart h = refl
begins_else test other (t ∷ ts) apart h = apart t.kind h

-- where a symbol stands, a test that it fails doesn't hold
pub not_symbol : (s : Symbol) (test : TokenKind → Bool) (k : TokenKind) → test (kinds.Symbol s) ≡ false → test k ≡ true → is_symbol s k ≡ false
not_symbol s test k fails h = by_case (is_symbol s k) refl where
  by_case : (b : Bool) → is_symbol s k ≡ b → is_symbol s k ≡ false
  by_case false e = e
  by_case true e = let same : k ≡ kinds.Symbol s = symbol_kind s k e in let yes : test (kinds.Symbol s) ≡ true = subst (λ x. test x ≡ true) same h in absurd (let no : ⊥ = cc in no)

-- tokens that begin so are at a symbol, or not
pub at_first : {A : Type 0} {answer : Bool} {p : Part A} (s : Symbol) → Begins (is_symbol s) answer p → Shows (is_at s) answer p
unfolding is_at
at_first s h = h

pub at_symbol : (s : Symbol) → is_symbol s (kinds.Symbol s) ≡ true → Shows (is_at s) true (grammar.symbol s)
at_symbol s e = at_first s (begins_symbol s (is_symbol s) true e)

pub not_at_symbol : (s other : Symbol) → is_symbol s (kinds.Symbol other) ≡ false → Shows (is_at s) false (grammar.symbol other)
not_at_symbol s other e = at_first s (begins_symbol other (is_symbol s) false e)

pub not_at : {A : Type 0} {p : Part A} (s : Symbol) (test : TokenKind → Bool) → test (kinds.Symbol s) ≡ false → Begins test true p → Shows (is_at s) false p
not_at s test fails h = at_first s (shows_by (first_is (is_symbol s)) false (λ ts k. begins_else test (is_symbol s) ts (λ x. not_symbol s test x fails) k) h)

-- What may go on a name: a symbol that is none of these ends it.

abbrev pub is_quiet : Option Symbol → Bool
is_quiet None = true
is_quiet (Some OpenParenthesis) = false
is_quiet (Some Exclamation) = false
is_quiet (Some DoubleColon) = false
is_quiet (Some Less) = false
is_quiet (Some s) = true

-- no name goes on with these tokens
abbrev pub calm : List Token → Bool
calm ts = is_quiet (next_symbol ts)

pub calm_symbol : (s : Symbol) → is_quiet (Some s) ≡ true → Shows calm true (grammar.symbol s)
calm_symbol s e = shows_one (is_symbol s) (λ t. tt) (λ t us h. rw (symbol_kind s t.kind h) e)

-- Readers.

pub symbol-exact : {d n : ℕ} (s : Symbol) (bound : ℕ) → Exact anything d n 1 bound (grammar.symbol s) (grammar.symbol s) (read.symbol s)
unfolding read.symbol
symbol-exact s bound = one-exact (is_symbol s) (λ t. tt) bound

pub word-exact : {d n : ℕ} (x : List ℕ) (bound : ℕ) → Exact anything d n 1 bound (grammar.word x) (grammar.word x) (read.word x)
unfolding read.word
word-exact x bound = one-exact (is_word x) (λ t. tt) bound

pub name-exact : {d n : ℕ} (bound : ℕ) → Exact anything d n 1 bound grammar.name grammar.name read.name
unfolding read.name
name-exact bound = one-exact is_name mark bound

pub decimal-exact : {d n : ℕ} (bound : ℕ) → Exact anything d n 1 bound grammar.decimal grammar.decimal read.decimal
unfolding read.decimal
decimal-exact bound = one-exact is_decimal mark bound

pub literal-exact : {d n : ℕ} (bound : ℕ) → Exact anything d n 1 bound (g.one is_literal mark) (g.one is_literal mark) read.literal
unfolding read.literal
literal-exact bound = one-exact is_literal mark bound

pub name_but-exact : {d n : ℕ} (words : List (List ℕ)) (bound : ℕ) → Exact anything d n 1 bound (g.one (is_name_but words) mark) (g.one (is_name_but words) mark) (read.name_but words)
unfolding read.name_but
name_but-exact words bound = one-exact (is_name_but words) mark bound

-- a part that anything may follow, and then another
pub then-free : {A B : Type 0} {f : List Token → Bool} {d n least bound : ℕ} {p p' : Part A} {q q' : A → Part B} {first : Reader A} {then : A → Reader B}
    → Exact anything d n 1 bound p p' first → ((a : A) → Exact f d n least (bound - 1) (q a) (q' a) (then a)) → Exact f d n 1 bound (g.◌>>=◌ p q) (g.◌>>=◌ p' q') (r.◌>>=◌ first then)
then-free {f} {least} {q} x y = at_least 1 (omega arith) (after-exact x y (λ a. free_anything f (q a)))

-- a part that a name may end, and then another that begins with no symbol that goes on a name
pub then-calm : {A B : Type 0} {f : List Token → Bool} {d n least bound : ℕ} {p p' : Part A} {q q' : A → Part B} {first : Reader A} {then : A → Reader B}
    → Exact calm d n 1 bound p p' first → ((a : A) → Exact f d n least (bound - 1) (q a) (q' a) (then a)) → ((a : A) → Shows calm true (q a))
    → Exact f d n 1 bound (g.◌>>=◌ p q) (g.◌>>=◌ p' q') (r.◌>>=◌ first then)
then-calm {f} {least} x y shows = at_least 1 (omega arith) (after-exact x y (λ a. shown f (shows a)))

pub symbol-then : {B : Type 0} {f : List Token → Bool} {d n least bound : ℕ} {q q' : Part B} {then : Reader B} (s : Symbol)
    → Exact f d n least (bound - 1) q q' then → Exact f d n 1 bound (g.◌>>◌ (grammar.symbol s) q) (g.◌>>◌ (grammar.symbol s) q') (r.◌>>◌ (read.symbol s) then)
symbol-then {bound} s y = then-free (symbol-exact s bound) (λ _. y)

pub word-then : {B : Type 0} {f : List Token → Bool} {d n least bound : ℕ} {q q' : Part B} {then : Reader B} (x : List ℕ)
    → Exact f d n least (bound - 1) q q' then → Exact f d n 1 bound (g.◌>>◌ (grammar.word x) q) (g.◌>>◌ (grammar.word x) q') (r.◌>>◌ (read.word x) then)
word-then {bound} x y = then-free (word-exact x bound) (λ _. y)

-- a part that a name may end, a symbol that ends it, and then another part
pub then-symbol : {A B : Type 0} {f : List Token → Bool} {d n least bound : ℕ} {p p' : Part A} {q q' : A → Part B} {first : Reader A} {then : A → Reader B} (s : Symbol)
    → is_quiet (Some s) ≡ true → Exact calm d n 1 bound p p' first → ((a : A) → Exact f d n least (bound - 1 - 1) (q a) (q' a) (then a))
    → Exact f d n 1 bound (g.◌>>=◌ p (λ a. g.◌>>◌ (grammar.symbol s) (q a))) (g.◌>>=◌ p' (λ a. g.◌>>◌ (grammar.symbol s) (q' a))) (r.◌>>=◌ first (λ a. r.◌>>◌ (read.symbol s) (then a)))
then-symbol s quiet x y = then-calm x (λ a. symbol-then s (y a)) (λ a. shows_then (calm_symbol s quiet))

-- a part, and what is made of its value
pub then-done : {A B : Type 0} {f : List Token → Bool} {d n bound : ℕ} {p p' : Part A} {first : Reader A} (make : A → B)
    → Exact f d n 1 bound p p' first → Exact f d n 1 bound (g.◌>>=◌ p (λ a. g.done (make a))) (g.◌>>=◌ p' (λ a. g.done (make a))) (r.◌>>=◌ first (λ a. r.done (make a)))
then-done {f} {bound} make x = at_least 1 (omega arith) (after-exact x (λ a. freely f (done-exact (make a) (bound - 1))) (λ a. follows_done f (make a)))
