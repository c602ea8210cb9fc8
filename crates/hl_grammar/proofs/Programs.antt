-- Programs are read as they are.
use Rattle.std.proofs.Common.{◌≡◌, ℕ, zero, suc, ◌-◌, ◌≤◌, Bool, true, false, List, [], ◌∷◌, ◌++◌, refl, inl, inr, arith, Some, None, codes}
use Rattle.hl_syntax.specs.declared.token.Span.{Span}
use Rattle.hl_syntax.specs.declared.token.Token.{Token}
use Rattle.hl_syntax.specs.declared.token.TokenKind.{TokenKind}
use Rattle.hl_syntax.specs.declared.token.TokenKind.TheVariants as kinds
use Rattle.hl_syntax.specs.declared.token.Symbol.TheVariants.{OpenParenthesis, CloseParenthesis, OpenBrace, Semicolon, Colon, Equals, Arrow}
use Rattle.hl_syntax.specs.declared.tree.Expr.{Expr}
use Rattle.hl_syntax.specs.declared.tree.TypeText.{TypeText}
use Rattle.hl_syntax.specs.declared.tree.Pattern.{Pattern}
use Rattle.hl_syntax.specs.declared.tree.Param.{Param}
use Rattle.hl_syntax.specs.declared.tree.Item.{Item}
use Rattle.hl_syntax.specs.declared.tree.Item.TheVariants as items
use Rattle.simplicityhl.specs.Parts.{Part}
use Rattle.simplicityhl.specs.Parts as g
use Rattle.simplicityhl.specs.Grammar.{is_symbol, is_word, is_name, mark, expr_of}
use Rattle.simplicityhl.specs.Grammar as grammar
use Rattle.hl_grammar.specs.Readers.{Reader, first_is, is_end}
use Rattle.hl_grammar.specs.Read.{is_at, is_at_word, allowed_by}
use Rattle.hl_grammar.specs.Read as read
use Rattle.hl_grammar.proofs.Exact.{Exact, Shows, Opens, shows_then, shows_either, shows_by, shows_spanned, shows_too_deep, spanned_front, free_anything, anything, freely, fewer, at_least, deeper, from_nothing, too_deep_is, done-exact, end-exact, after-exact, choose-exact, brink-exact, brink-over, spanned-exact, turning-exact}
use Rattle.hl_grammar.proofs.Tokens.{Begins, begins_one, begins_symbol, begins_word, at_first, at_symbol, calm, calm_symbol, symbol-then, word-then, then-symbol, then-free, then-calm, then-done, name-exact}
use Rattle.hl_grammar.proofs.Lists.{parenthesis_closes, many-exact}
use Rattle.hl_grammar.proofs.Types.{type_at}
use Rattle.hl_grammar.proofs.Patterns.{pattern_at}
use Rattle.hl_grammar.proofs.Forms.{expr_begins}
use Rattle.hl_grammar.proofs.Exprs.{at_word, block-exact, expr_at}

param_at : (depth depth' bound : ℕ) → Exact calm depth depth' 1 bound (grammar.param depth) (grammar.param depth') (read.param depth')
unfolding read.param
param_at depth depth' bound =
    spanned-exact (λ make span. make span) (then-free (name-exact _) (λ n. symbol-then Colon (then-done (λ ty span. record { name = n; kind = ty; span = span }) (type_at depth depth' _))))

name_no_close : (k : TokenKind) → is_name k ≡ true → is_symbol CloseParenthesis k ≡ false
name_no_close (kinds.Name w) h = refl
name_no_close (kinds.Symbol s) h = absurd (let no : ⊥ = cc in no)
name_no_close (kinds.Literal w) h = absurd (let no : ⊥ = cc in no)

param_begins : (depth : ℕ) → Begins (is_symbol CloseParenthesis) false (grammar.param depth)
param_begins depth = shows_spanned {A = Span → Param} (λ make span. make span) _ (shows_then (begins_one is_name mark (is_symbol CloseParenthesis) false name_no_close))

alias_at : (depth depth' bound : ℕ) → Exact anything depth depth' 1 bound (grammar.alias depth) (grammar.alias depth') (read.alias depth')
unfolding read.alias
alias_at depth depth' bound =
    spanned-exact (λ make span. make span) (word-then (codes "type") (then-free (name-exact _) (λ n. symbol-then Equals (then-symbol Semicolon refl (type_at depth depth' _) (λ ty. done-exact (λ span. items.Alias n ty span) _)))))

-- Bodies.

-- a body, given what expressions, types and patterns in it are
abbrev pub body_of : Part Expr → Part TypeText → Part Pattern → Part Expr
body_of e t q = g.spanned expr_of (grammar.block e t q)

pub body_of_begins : (e : Part Expr) (t : Part TypeText) (q : Part Pattern) (test : TokenKind → Bool) (answer : Bool) → test (kinds.Symbol OpenBrace) ≡ answer → Begins test answer (body_of e t q)
body_of_begins e t q test answer h = shows_spanned expr_of (grammar.block e t q) (shows_then (begins_symbol OpenBrace test answer h))

body_begins : (depth : ℕ) (test : TokenKind → Bool) (answer : Bool) → test (kinds.Symbol OpenBrace) ≡ answer → Begins test answer (grammar.body depth)
body_begins zero test answer h = shows_too_deep (body_of_begins g.never g.never g.never test answer h)
body_begins (suc depth) test answer h = body_of_begins (grammar.expr depth) (grammar.type depth) (grammar.pattern depth) test answer h

body_calm : (depth : ℕ) → Shows calm true (grammar.body depth)
body_calm zero = shows_too_deep (shows_spanned expr_of (grammar.block g.never g.never g.never) (shows_then (calm_symbol OpenBrace refl)))
body_calm (suc depth) = shows_spanned expr_of (grammar.block (grammar.expr depth) (grammar.type depth) (grammar.pattern depth)) (shows_then (calm_symbol OpenBrace refl))

-- what begins a body is a front of one
pub opens : (e : Part Expr) (t : Part TypeText) (q : Part Pattern) → Opens (is_at OpenBrace) (body_of e t q)
unfolding is_at
opens e t q = record { at_end = refl; front = λ u ts h. spanned_front expr_of (grammar.block e t q) (u ∷ ts) ts (inl (inr (u, refl, h))) }

levels : (depth depth' bound : ℕ) → Exact anything depth depth' 1 bound (grammar.body (suc depth)) (grammar.body (suc depth')) (read.body (suc depth'))
unfolding read.body
levels depth depth' bound =
    spanned-exact expr_of (block-exact (grammar.expr depth) (grammar.expr depth') (read.expr depth') (λ n. expr_at false depth depth' n) (expr_begins (allowed_by false) depth)
    (grammar.type depth) (grammar.type depth') (read.type depth') (λ n. type_at depth depth' n) (grammar.pattern depth) (grammar.pattern depth') (read.pattern depth') (λ n. pattern_at depth depth' n) bound)

body_at : (depth depth' bound : ℕ) → Exact anything depth depth' 1 bound (grammar.body depth) (grammar.body depth') (read.body depth')
unfolding read.body
body_at zero zero bound = brink-exact (body_of g.never g.never g.never) (is_at OpenBrace) (opens g.never g.never g.never) anything 1 bound (at_first OpenBrace (body_of_begins g.never g.never g.never (is_symbol OpenBrace) true refl))
body_at zero (suc depth') bound = from_nothing zero (suc depth') (grammar.body zero) (too_deep_is depth' (body_of g.never g.never g.never)) (levels zero depth' bound)
body_at (suc depth) zero bound = brink-over (body_of g.never g.never g.never) (is_at OpenBrace) (opens g.never g.never g.never) (at_first OpenBrace (body_begins (suc depth) (is_symbol OpenBrace) true refl)) (levels depth depth bound)
body_at (suc depth) (suc depth') bound = deeper (levels depth depth' bound)

result_and_body_at : (depth depth' bound : ℕ) → Exact anything depth depth' 1 bound (grammar.result_and_body depth) (grammar.result_and_body depth') (read.result_and_body depth')
unfolding read.result_and_body
result_and_body_at depth depth' bound =
    choose-exact (is_at Arrow)
    (symbol-then Arrow (then-calm (type_at depth depth' _) (λ ty. then-done (λ v. (Some ty, v)) (body_at depth depth' _)) (λ ty. shows_then (body_calm depth))))
    (then-done (λ v. (None, v)) (body_at depth depth' _))
    (shows_then (at_symbol Arrow refl))
    (shows_then (at_first Arrow (body_begins depth (is_symbol Arrow) false refl)))

-- Items.

function_at : (depth depth' bound : ℕ) → Exact anything depth depth' 1 bound (grammar.function depth) (grammar.function depth') (read.function depth')
unfolding read.function
function_at depth depth' bound =
    spanned-exact (λ make span. make span) (word-then (codes "fn") (then-free (name-exact _) (λ n. symbol-then OpenParenthesis
    (then-free (many-exact CloseParenthesis parenthesis_closes (grammar.param depth) (grammar.param depth') (read.param depth') (λ b. param_at depth depth' b) (at_first CloseParenthesis (param_begins depth)) _)
    (λ l. then-done (λ rest span. items.Function n l.items rest.0 rest.1 span) (result_and_body_at depth depth' _))))))

-- an item begins with a token
some_token : (x : List ℕ) (ts : List Token) → first_is (is_word x) ts ≡ true → is_end ts ≡ false
some_token x [] h = absurd (let no : ⊥ = cc in no)
some_token x (t ∷ ts) h = refl

alias_begins : (depth : ℕ) (test : TokenKind → Bool) (answer : Bool) → test (kinds.Name (codes "type")) ≡ answer → Begins test answer (grammar.alias depth)
alias_begins depth test answer h = shows_spanned {A = Span → Item} (λ make span. make span) _ (shows_then (begins_word (codes "type") test answer h))

function_begins : (depth : ℕ) (test : TokenKind → Bool) (answer : Bool) → test (kinds.Name (codes "fn")) ≡ answer → Begins test answer (grammar.function depth)
function_begins depth test answer h = shows_spanned {A = Span → Item} (λ make span. make span) _ (shows_then (begins_word (codes "fn") test answer h))

at_end : Shows is_end true g.end
at_end = record { whole = λ ts a rest w. rw w.0 refl; front = λ ts rest e. inl e; deep = λ ts rest h. absurd h }

program_turn_at : (depth depth' bound : ℕ) (more more' : List Item → Part (List Item)) (reader : List Item → Reader (List Item)) → ((found : List Item) → Exact anything depth depth' 0 bound (more found) (more' found) (reader found))
    → (found : List Item) → Exact anything depth depth' 0 (suc bound) (grammar.program_turn depth more found) (grammar.program_turn depth' more' found) (read.program_turn depth' reader found)
program_turn_at depth depth' bound more more' reader h found =
    choose-exact is_end (at_least 0 (omega arith) (after-exact (end-exact (suc bound)) (λ _. done-exact found _) (λ a. free_anything anything (g.done found))))
    (at_least 0 (omega arith) (then-free (choose-exact (is_at_word (codes "type")) (alias_at depth depth' (suc bound)) (function_at depth depth' (suc bound))
    (at_word (codes "type") (alias_begins depth (is_word (codes "type")) true refl))
    (at_word (codes "type") (function_begins depth (is_word (codes "type")) false refl)))
    (λ i. fewer (suc bound - 1) (omega arith) (h (found ++ i ∷ [])))))
    (shows_then at_end)
    (shows_then (shows_either (shows_by is_end false (some_token (codes "type")) (alias_begins depth (is_word (codes "type")) true refl)) (shows_by is_end false (some_token (codes "fn")) (function_begins depth (is_word (codes "fn")) true refl))))

-- programs of each depth and a reader of each other
pub program_at : (depth depth' bound : ℕ) → Exact calm depth depth' 0 bound (grammar.program depth) (grammar.program depth') (read.program depth')
unfolding read.program
program_at depth depth' bound = freely calm (turning-exact (program_turn_at depth depth') bound [])

pub program-exact : (depth depth' bound : ℕ) → depth ≤ depth' → Exact calm depth depth' 0 bound (grammar.program depth) (grammar.program depth') (read.program depth')
program-exact depth depth' bound below = program_at depth depth' bound
