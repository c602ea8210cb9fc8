-- The grammar read with one token of look-ahead, but for a word that wants its next symbol.
use Rattle.std.specs.Prelude.{ℕ, zero, suc, Bool, true, false, not, ◌||◌, List, [], ◌∷◌, ◌++◌, length, codes, bytes_eq, Option, Some, None, if◌then◌else◌}
use Rattle.hl_syntax.specs.declared.token.Mark.{Mark}
use Rattle.hl_syntax.specs.declared.token.Span.{Span}
use Rattle.hl_syntax.specs.declared.token.Token.{Token}
use Rattle.hl_syntax.specs.declared.token.TokenKind.{TokenKind}
use Rattle.hl_syntax.specs.declared.token.TokenKind.TheVariants as kinds
use Rattle.hl_syntax.specs.declared.token.Symbol.{Symbol}
use Rattle.hl_syntax.specs.declared.token.Symbol.TheVariants.{OpenParenthesis, CloseParenthesis, OpenBrace, CloseBrace, OpenBracket, CloseBracket, Less, Greater, Comma, Semicolon, Colon, DoubleColon, Equals, FatArrow, Arrow, Exclamation, Underscore}
use Rattle.hl_syntax.specs.declared.tree.TypeText.{TypeText}
use Rattle.hl_syntax.specs.declared.tree.TypeForm.{TypeForm}
use Rattle.hl_syntax.specs.declared.tree.TypeForm.TheVariants as types
use Rattle.hl_syntax.specs.declared.tree.Pattern.{Pattern}
use Rattle.hl_syntax.specs.declared.tree.PatternForm.{PatternForm}
use Rattle.hl_syntax.specs.declared.tree.PatternForm.TheVariants as patterns
use Rattle.hl_syntax.specs.declared.tree.Statement.{Statement}
use Rattle.hl_syntax.specs.declared.tree.Statement.TheVariants as statements
use Rattle.hl_syntax.specs.declared.tree.Arm.{Arm}
use Rattle.hl_syntax.specs.declared.tree.Side.{Side}
use Rattle.hl_syntax.specs.declared.tree.Side.TheVariants as sides
use Rattle.hl_syntax.specs.declared.tree.Expr.{Expr}
use Rattle.hl_syntax.specs.declared.tree.ExprForm.{ExprForm}
use Rattle.hl_syntax.specs.declared.tree.ExprForm.TheVariants as exprs
use Rattle.hl_syntax.specs.declared.tree.Param.{Param}
use Rattle.hl_syntax.specs.declared.tree.Item.{Item}
use Rattle.hl_syntax.specs.declared.tree.Item.TheVariants as items
use Rattle.simplicityhl.specs.declared.alternatives.ExprAlternative.{ExprAlternative}
use Rattle.simplicityhl.specs.declared.alternatives.ExprAlternative.TheVariants as expr_as
use Rattle.simplicityhl.specs.declared.alternatives.TypeAlternative.{TypeAlternative}
use Rattle.simplicityhl.specs.declared.alternatives.TypeAlternative.TheVariants as type_as
use Rattle.simplicityhl.specs.declared.alternatives.PatternAlternative.{PatternAlternative}
use Rattle.simplicityhl.specs.declared.alternatives.PatternAlternative.TheVariants as pattern_as
use Rattle.simplicityhl.specs.declared.alternatives.SideAlternative.{SideAlternative}
use Rattle.simplicityhl.specs.declared.alternatives.SideAlternative.TheVariants as side_as
use Rattle.simplicityhl.specs.Grammar.{is_among, keywords, applied_words, constants, is_symbol, is_word, is_name, is_name_but, is_literal, is_decimal, mark, Listed, alone_or, pattern_of, type_of, expr_of, opens_block, every_alternative, of_values}
use Rattle.simplicityhl.specs.Parts.{span_between}
use Rattle.hl_grammar.specs.Readers.{Reader, done, here, end, is_end, one, refuse, ◌>>=◌, ◌>>◌, choose, pick, chosen, turning, spanned, with_span, brink, first_is}

-- Single tokens, and what the tokens ahead begin.

unfoldable pub is_at : Symbol → List Token → Bool
is_at s = first_is (is_symbol s)

unfoldable pub is_at_word : List ℕ → List Token → Bool
is_at_word w = first_is (is_word w)

unfoldable pub symbol : Symbol → Reader (Unit {0})
symbol s = one (is_symbol s) (λ t. tt)

unfoldable pub word : List ℕ → Reader (Unit {0})
word w = one (is_word w) (λ t. tt)

unfoldable pub name : Reader Mark
name = one is_name mark

unfoldable pub decimal : Reader Mark
decimal = one is_decimal mark

unfoldable pub literal : Reader Mark
literal = one is_literal mark

unfoldable pub name_but : List (List ℕ) → Reader Mark
name_but words = one (is_name_but words) mark

-- the symbol that comes next, if one does
abbrev pub symbol_in : TokenKind → Option Symbol
symbol_in (kinds.Symbol s) = Some s
symbol_in k = None

abbrev pub next_symbol : List Token → Option Symbol
next_symbol [] = None
next_symbol (t ∷ ts) = symbol_in t.kind

-- what the first token and the symbol after it begin
abbrev pub first_two : {L : Type 0} → (TokenKind → Option Symbol → Option L) → List Token → Option L
first_two start [] = None
first_two start (t ∷ ts) = start t.kind (next_symbol ts)

abbrev pub pattern_start_by : TokenKind → Option Symbol → Option PatternAlternative
pattern_start_by (kinds.Name w) next = if is_among keywords w then None else Some pattern_as.Name
pattern_start_by (kinds.Symbol Underscore) next = Some pattern_as.Ignore
pattern_start_by (kinds.Symbol OpenBracket) next = Some pattern_as.Array
pattern_start_by k next = None

unfoldable pub pattern_start : List Token → Option PatternAlternative
pattern_start = first_two pattern_start_by

-- a type that begins with this word before `<`
unfoldable pub generic_type : List ℕ → TypeAlternative
generic_type w =
    if bytes_eq w (codes "List") then type_as.List
    else (if bytes_eq w (codes "Option") then type_as.Option
    else (if bytes_eq w (codes "Either") then type_as.Either
    else type_as.Name))

abbrev pub named_type : List ℕ → Option Symbol → TypeAlternative
named_type w (Some Less) = generic_type w
named_type w next = type_as.Name

abbrev pub type_start_by : TokenKind → Option Symbol → Option TypeAlternative
type_start_by (kinds.Name w) next = if is_among keywords w then None else Some (named_type w next)
type_start_by (kinds.Symbol OpenBracket) next = Some type_as.Array
type_start_by k next = None

unfoldable pub type_start : List Token → Option TypeAlternative
type_start = first_two type_start_by

unfoldable pub side_by : List ℕ → Option SideAlternative
side_by w =
    if bytes_eq w (codes "Left") then Some side_as.Left
    else (if bytes_eq w (codes "Right") then Some side_as.Right
    else (if bytes_eq w (codes "Some") then Some side_as.Some
    else (if bytes_eq w (codes "None") then Some side_as.Nothing
    else (if bytes_eq w (codes "true") then Some side_as.True
    else (if bytes_eq w (codes "false") then Some side_as.False
    else None)))))

abbrev pub side_start_by : TokenKind → Option Symbol → Option SideAlternative
side_start_by (kinds.Name w) next = side_by w
side_start_by k next = None

unfoldable pub side_start : List Token → Option SideAlternative
side_start = first_two side_start_by

-- an expression that begins with this word, whatever stands next
unfoldable pub before_others : List ℕ → ExprAlternative
before_others w =
    if bytes_eq w (codes "None") then expr_as.Nothing
    else (if bytes_eq w (codes "true") then expr_as.True
    else (if bytes_eq w (codes "false") then expr_as.False
    else expr_as.Name))

-- the same before `!`
unfoldable pub before_exclamation : List ℕ → ExprAlternative
before_exclamation w =
    if bytes_eq w (codes "list") then expr_as.List
    else (if bytes_eq w (codes "assert") then expr_as.Assert
    else (if bytes_eq w (codes "dbg") then expr_as.Dbg
    else (if bytes_eq w (codes "panic") then expr_as.Panic
    else before_others w)))

unfoldable pub loop_before_colons : List ℕ → ExprAlternative
loop_before_colons w =
    if bytes_eq w (codes "fold") then expr_as.Fold
    else (if bytes_eq w (codes "array_fold") then expr_as.ArrayFold
    else (if bytes_eq w (codes "for_while") then expr_as.ForWhile
    else before_others w))

-- the same before `::`
unfoldable pub before_colons : List ℕ → ExprAlternative
before_colons w =
    if bytes_eq w (codes "jet") then expr_as.Jet
    else (if bytes_eq w (codes "witness") then expr_as.Witness
    else (if bytes_eq w (codes "param") then expr_as.Param
    else (if bytes_eq w (codes "unwrap_left") then expr_as.UnwrapLeft
    else (if bytes_eq w (codes "unwrap_right") then expr_as.UnwrapRight
    else (if bytes_eq w (codes "is_none") then expr_as.IsNone
    else loop_before_colons w)))))

-- the same before `(`
unfoldable pub before_parenthesis : List ℕ → ExprAlternative
before_parenthesis w =
    if bytes_eq w (codes "unwrap") then expr_as.Unwrap
    else (if bytes_eq w (codes "Left") then expr_as.Left
    else (if bytes_eq w (codes "Right") then expr_as.Right
    else (if bytes_eq w (codes "Some") then expr_as.Some
    else expr_as.Call)))

abbrev pub named_expr : List ℕ → Option Symbol → ExprAlternative
named_expr w (Some Exclamation) = before_exclamation w
named_expr w (Some DoubleColon) = before_colons w
named_expr w (Some OpenParenthesis) = before_parenthesis w
named_expr w next = before_others w

abbrev pub word_start : List ℕ → Option Symbol → Option ExprAlternative
word_start w next =
    if bytes_eq w (codes "match") then Some expr_as.Match
    else (if is_among keywords w then None else Some (named_expr w next))

abbrev pub symbol_start : Symbol → Option ExprAlternative
symbol_start OpenBrace = Some expr_as.Block
symbol_start OpenBracket = Some expr_as.Array
symbol_start Less = Some expr_as.Into
symbol_start s = None

abbrev pub expr_start_by : TokenKind → Option Symbol → Option ExprAlternative
expr_start_by (kinds.Name w) next = word_start w next
expr_start_by (kinds.Literal w) next = Some expr_as.Literal
expr_start_by (kinds.Symbol s) next = symbol_start s

unfoldable pub expr_start : List Token → Option ExprAlternative
expr_start = first_two expr_start_by

-- a value text that begins with this word
unfoldable pub word_value : List ℕ → Option ExprAlternative
word_value w =
    if bytes_eq w (codes "list") then Some expr_as.List
    else (if bytes_eq w (codes "Left") then Some expr_as.Left
    else (if bytes_eq w (codes "Right") then Some expr_as.Right
    else (if bytes_eq w (codes "Some") then Some expr_as.Some
    else (if bytes_eq w (codes "None") then Some expr_as.Nothing
    else (if bytes_eq w (codes "true") then Some expr_as.True
    else (if bytes_eq w (codes "false") then Some expr_as.False
    else None))))))

abbrev pub value_start_by : TokenKind → Option Symbol → Option ExprAlternative
value_start_by (kinds.Name w) next = word_value w
value_start_by (kinds.Literal w) next = Some expr_as.Literal
value_start_by (kinds.Symbol OpenBracket) next = Some expr_as.Array
value_start_by (kinds.Symbol s) next = None

unfoldable pub value_start : List Token → Option ExprAlternative
value_start = first_two value_start_by

abbrev pub start_of : Bool → List Token → Option ExprAlternative
start_of true = value_start
start_of false = expr_start

-- the alternatives that are read, and what tells them
abbrev pub allowed_by : Bool → ExprAlternative → Bool
allowed_by true = of_values
allowed_by false = every_alternative

-- What a single token begins.

-- the words that begin a value text
abbrev pub value_words : List (List ℕ)
value_words = codes "list" ∷ codes "Left" ∷ codes "Right" ∷ codes "Some" ∷ codes "None" ∷ codes "true" ∷ codes "false" ∷ []

abbrev pub kind_begins_expr : Bool → TokenKind → Bool
kind_begins_expr values_only (kinds.Name w) = if values_only then is_among value_words w else (bytes_eq w (codes "match") || not (is_among keywords w))
kind_begins_expr values_only (kinds.Literal w) = true
kind_begins_expr values_only (kinds.Symbol OpenParenthesis) = true
kind_begins_expr values_only (kinds.Symbol OpenBracket) = true
kind_begins_expr values_only (kinds.Symbol OpenBrace) = not values_only
kind_begins_expr values_only (kinds.Symbol Less) = not values_only
kind_begins_expr values_only (kinds.Symbol s) = false

unfoldable pub begins_expr : Bool → List Token → Bool
begins_expr values_only = first_is (kind_begins_expr values_only)

abbrev pub kind_begins_type : TokenKind → Bool
kind_begins_type (kinds.Name w) = not (is_among keywords w)
kind_begins_type (kinds.Symbol OpenParenthesis) = true
kind_begins_type (kinds.Symbol OpenBracket) = true
kind_begins_type k = false

unfoldable pub begins_type : List Token → Bool
begins_type = first_is kind_begins_type

abbrev pub kind_begins_pattern : TokenKind → Bool
kind_begins_pattern (kinds.Name w) = not (is_among keywords w)
kind_begins_pattern (kinds.Symbol OpenParenthesis) = true
kind_begins_pattern (kinds.Symbol OpenBracket) = true
kind_begins_pattern (kinds.Symbol Underscore) = true
kind_begins_pattern k = false

unfoldable pub begins_pattern : List Token → Bool
begins_pattern = first_is kind_begins_pattern

-- Lists: many(x) = [ x { "," x } [ "," ] ], with the symbol after it.

abbrev pub many_turn : {A : Type 0} → Symbol → Reader A → (List A → Reader (Listed A)) → List A → Reader (Listed A)
many_turn close x more found =
    choose (is_at close) (symbol close >> done (record { items = found; is_open = true }))
    (x >>= (λ a. choose (is_at close) (symbol close >> done (record { items = found ++ a ∷ []; is_open = false })) (symbol Comma >> more (found ++ a ∷ []))))

abbrev pub many : {A : Type 0} → Symbol → Reader A → Reader (Listed A)
many close x = turning (many_turn close x) []

unfoldable pub parenthesised : {A : Type 0} → (List A → Span → A) → Reader A → Reader A
parenthesised tuple x =
    spanned (λ l span. alone_or (λ xs. tuple xs span) l.items l.is_open) (symbol OpenParenthesis >> many CloseParenthesis x)

-- Patterns.

unfoldable pub pattern_form : Reader Pattern → PatternAlternative → Reader PatternForm
pattern_form pattern pattern_as.Name = do
  n ← name
  done (patterns.Name n.text)
pattern_form pattern pattern_as.Ignore = symbol Underscore >> done patterns.Ignore
pattern_form pattern pattern_as.Array = do
  symbol OpenBracket
  l ← many CloseBracket pattern
  done (patterns.Array l.items)

unfoldable pub pattern_level : Reader Pattern → Reader Pattern
pattern_level pattern =
    choose (is_at OpenParenthesis) (parenthesised (λ ps. pattern_of (patterns.Tuple ps)) pattern) (spanned pattern_of (pick pattern_start (pattern_form pattern)))

unfoldable pub pattern : ℕ → Reader Pattern
pattern zero = brink begins_pattern
pattern (suc depth) = pattern_level (pattern depth)

-- Types.

unfoldable pub type_form : Reader TypeText → TypeAlternative → Reader TypeForm
type_form type type_as.Array = do
  symbol OpenBracket
  item ← type
  symbol Semicolon
  length ← decimal
  symbol CloseBracket
  done (types.Array item length)
type_form type type_as.List = do
  word (codes "List")
  symbol Less
  item ← type
  symbol Comma
  bound ← decimal
  symbol Greater
  done (types.List item bound)
type_form type type_as.Option = do
  word (codes "Option")
  symbol Less
  item ← type
  symbol Greater
  done (types.Option item)
type_form type type_as.Either = do
  word (codes "Either")
  symbol Less
  left ← type
  symbol Comma
  right ← type
  symbol Greater
  done (types.Either left right)
type_form type type_as.Name = do
  n ← name
  done (types.Name n.text)

unfoldable pub type_level : Reader TypeText → Reader TypeText
type_level type =
    choose (is_at OpenParenthesis) (parenthesised (λ ts. type_of (types.Tuple ts)) type) (spanned type_of (pick type_start (type_form type)))

unfoldable pub type : ℕ → Reader TypeText
type zero = brink begins_type
type (suc depth) = type_level (type depth)

-- Expressions.

-- the sides of arms

unfoldable pub binding : (Pattern → TypeText → Side) → Reader Pattern → Reader TypeText → Reader Side
binding side pattern type = do
  symbol OpenParenthesis
  p ← pattern
  symbol Colon
  t ← type
  symbol CloseParenthesis
  done (side p t)

unfoldable pub side_form : Reader Pattern → Reader TypeText → SideAlternative → Reader Side
side_form pattern type side_as.Left = word (codes "Left") >> binding sides.Left pattern type
side_form pattern type side_as.Right = word (codes "Right") >> binding sides.Right pattern type
side_form pattern type side_as.Some = word (codes "Some") >> binding sides.Some pattern type
side_form pattern type side_as.Nothing = word (codes "None") >> done sides.Nothing
side_form pattern type side_as.True = word (codes "true") >> done sides.True
side_form pattern type side_as.False = word (codes "false") >> done sides.False

-- The parts of an expression, given what the expressions, types and patterns in it are.
module _ (expr : Reader Expr) (type : Reader TypeText) (pattern : Reader Pattern) where
  unfoldable pub let_statement : Reader Statement
  let_statement = with_span (do
    word (codes "let")
    p ← pattern
    symbol Colon
    t ← type
    symbol Equals
    e ← expr
    done (λ span. statements.Let p t e span))

  -- the statements of a block, and the last expression where there is one
  abbrev pub block_turn : (List Statement → Reader ExprForm) → List Statement → Reader ExprForm
  block_turn more found =
      choose (is_at CloseBrace) (symbol CloseBrace >> done (exprs.Block found None))
      (choose (is_at_word (codes "let")) (let_statement >>= (λ s. symbol Semicolon >> more (found ++ s ∷ [])))
      (expr >>= (λ e. choose (is_at Semicolon) (symbol Semicolon >> more (found ++ statements.Plain e ∷ [])) (symbol CloseBrace >> done (exprs.Block found (Some e))))))

  unfoldable pub block : Reader ExprForm
  block = symbol OpenBrace >> turning block_turn []

  -- an arm without its comma: what it is with a span, and whether its body is written as a block
  unfoldable pub arm : Reader ((Span → Arm) × Bool)
  arm = do
    s ← pick side_start (side_form pattern type)
    symbol FatArrow
    body ← here
    e ← expr
    done ((λ span. record { side = s; body = e; span = span }), opens_block body)

  -- what comes after an arm: its comma, which may be missing after a block, and before the last brace
  abbrev pub arm_end : (List Arm → Reader (List Arm)) → List Arm → List Token → (Span → Arm) → Bool → Reader (List Arm)
  arm_end more found first make is_block =
      choose (is_at Comma) (symbol Comma >> (here >>= (λ after. more (found ++ make (span_between first after) ∷ []))))
      (here >>= (λ after. chosen is_block (more (found ++ make (span_between first after) ∷ [])) (symbol CloseBrace >> done (found ++ make (span_between first after) ∷ []))))

  abbrev pub arms_turn : (List Arm → Reader (List Arm)) → List Arm → Reader (List Arm)
  arms_turn more found =
      choose (is_at CloseBrace) (symbol CloseBrace >> done found)
      (here >>= (λ first. arm >>= (λ a. arm_end more found first a.0 a.1)))

  unfoldable pub arms : Reader (List Arm)
  arms = symbol OpenBrace >> turning arms_turn []

  unfoldable pub in_parentheses : Reader Expr
  in_parentheses = do
    symbol OpenParenthesis
    e ← expr
    symbol CloseParenthesis
    done e

  unfoldable pub in_brackets : Reader (List Expr)
  in_brackets = do
    symbol OpenBracket
    l ← many CloseBracket expr
    done l.items

  unfoldable pub arguments : Reader (List Expr)
  arguments = do
    symbol OpenParenthesis
    l ← many CloseParenthesis expr
    done l.items

  -- "(" expr "," expr [ "," ] ")"
  unfoldable pub two_arguments : Reader (Expr × Expr)
  two_arguments = do
    symbol OpenParenthesis
    a ← expr
    symbol Comma
    b ← expr
    choose (is_at Comma) (symbol Comma >> (symbol CloseParenthesis >> done (a, b))) (symbol CloseParenthesis >> done (a, b))

  -- "::" "<" type ">"
  unfoldable pub type_argument : Reader TypeText
  type_argument = do
    symbol DoubleColon
    symbol Less
    t ← type
    symbol Greater
    done t

  -- "::" "<" NAME "," DECIMAL ">"
  unfoldable pub counted_function : Reader (Mark × Mark)
  counted_function = do
    symbol DoubleColon
    symbol Less
    f ← name
    symbol Comma
    count ← decimal
    symbol Greater
    done (f, count)

  unfoldable pub path_name : Reader Mark
  path_name = symbol DoubleColon >> name

  unfoldable pub expr_form : ExprAlternative → Reader ExprForm
  expr_form expr_as.Block = block
  expr_form expr_as.Match = word (codes "match") >> (expr >>= (λ e. arms >>= (λ found. done (exprs.Match e found))))
  expr_form expr_as.Array = in_brackets >>= (λ es. done (exprs.Array es))
  expr_form expr_as.List = word (codes "list") >> (symbol Exclamation >> (in_brackets >>= (λ es. done (exprs.List es))))
  expr_form expr_as.Assert = word (codes "assert") >> (symbol Exclamation >> (in_parentheses >>= (λ e. done (exprs.Assert e))))
  expr_form expr_as.Dbg = word (codes "dbg") >> (symbol Exclamation >> (in_parentheses >>= (λ e. done (exprs.Dbg e))))
  expr_form expr_as.Panic = word (codes "panic") >> (symbol Exclamation >> (symbol OpenParenthesis >> (symbol CloseParenthesis >> done exprs.Panic)))
  expr_form expr_as.Jet = word (codes "jet") >> (path_name >>= (λ n. arguments >>= (λ es. done (exprs.Jet n es))))
  expr_form expr_as.Witness = word (codes "witness") >> (path_name >>= (λ n. done (exprs.Witness n)))
  expr_form expr_as.Param = word (codes "param") >> (path_name >>= (λ n. done (exprs.Param n)))
  expr_form expr_as.Into = symbol Less >> (type >>= (λ t. symbol Greater >> (symbol DoubleColon >> (word (codes "into") >> (in_parentheses >>= (λ e. done (exprs.Into t e)))))))
  expr_form expr_as.Unwrap = word (codes "unwrap") >> (in_parentheses >>= (λ e. done (exprs.Unwrap e)))
  expr_form expr_as.UnwrapLeft = word (codes "unwrap_left") >> (type_argument >>= (λ t. in_parentheses >>= (λ e. done (exprs.UnwrapLeft t e))))
  expr_form expr_as.UnwrapRight = word (codes "unwrap_right") >> (type_argument >>= (λ t. in_parentheses >>= (λ e. done (exprs.UnwrapRight t e))))
  expr_form expr_as.IsNone = word (codes "is_none") >> (type_argument >>= (λ t. in_parentheses >>= (λ e. done (exprs.IsNone t e))))
  expr_form expr_as.Fold = word (codes "fold") >> (counted_function >>= (λ f. two_arguments >>= (λ es. done (exprs.Fold f.0 f.1 es.0 es.1))))
  expr_form expr_as.ArrayFold = word (codes "array_fold") >> (counted_function >>= (λ f. two_arguments >>= (λ es. done (exprs.ArrayFold f.0 f.1 es.0 es.1))))
  expr_form expr_as.ForWhile = word (codes "for_while") >> (symbol DoubleColon >> (symbol Less >> (name >>= (λ f. symbol Greater >> (two_arguments >>= (λ es. done (exprs.ForWhile f es.0 es.1)))))))
  expr_form expr_as.Left = word (codes "Left") >> (in_parentheses >>= (λ e. done (exprs.Left e)))
  expr_form expr_as.Right = word (codes "Right") >> (in_parentheses >>= (λ e. done (exprs.Right e)))
  expr_form expr_as.Some = word (codes "Some") >> (in_parentheses >>= (λ e. done (exprs.Some e)))
  expr_form expr_as.Nothing = word (codes "None") >> done exprs.Nothing
  expr_form expr_as.True = word (codes "true") >> done exprs.True
  expr_form expr_as.False = word (codes "false") >> done exprs.False
  expr_form expr_as.Literal = literal >>= (λ n. done (exprs.Literal n.text))
  expr_form expr_as.Call = name_but applied_words >>= (λ n. arguments >>= (λ es. done (exprs.Call n es)))
  expr_form expr_as.Name = name_but constants >>= (λ n. done (exprs.Name n.text))

  -- an expression of the alternatives that pass a test
  abbrev pub allowed_form : (ExprAlternative → Bool) → ExprAlternative → Reader ExprForm
  allowed_form allowed alternative = chosen (allowed alternative) (expr_form alternative) refuse

  unfoldable pub expr_level : Bool → Reader Expr
  expr_level values_only =
      choose (is_at OpenParenthesis) (parenthesised (λ es. expr_of (exprs.Tuple es)) expr) (spanned expr_of (pick (start_of values_only) (allowed_form (allowed_by values_only))))

unfoldable pub expr_of_only : Bool → ℕ → Reader Expr
expr_of_only values_only zero = brink (begins_expr values_only)
expr_of_only values_only (suc depth) = expr_level (expr_of_only values_only depth) (type depth) (pattern depth) values_only

abbrev pub expr : ℕ → Reader Expr
expr = expr_of_only false

-- a value text: literals, truth values, tuples, arrays, lists, Left, Right, Some and None alone
abbrev pub value : ℕ → Reader Expr
value = expr_of_only true

-- Programs.

unfoldable pub param : ℕ → Reader Param
param depth = with_span (do
  n ← name
  symbol Colon
  t ← type depth
  done (λ span. record { name = n; kind = t; span = span }))

unfoldable pub alias : ℕ → Reader Item
alias depth = with_span (do
  word (codes "type")
  n ← name
  symbol Equals
  t ← type depth
  symbol Semicolon
  done (λ span. items.Alias n t span))

-- a function's body counts as an expression
unfoldable pub body : ℕ → Reader Expr
body zero = brink (is_at OpenBrace)
body (suc depth) = spanned expr_of (block (expr depth) (type depth) (pattern depth))

unfoldable pub result_and_body : ℕ → Reader (Option TypeText × Expr)
result_and_body depth =
    choose (is_at Arrow) (symbol Arrow >> (type depth >>= (λ t. body depth >>= (λ e. done (Some t, e))))) (body depth >>= (λ e. done (None, e)))

unfoldable pub function : ℕ → Reader Item
function depth = with_span (do
  word (codes "fn")
  n ← name
  symbol OpenParenthesis
  l ← many CloseParenthesis (param depth)
  rest ← result_and_body depth
  done (λ span. items.Function n l.items rest.0 rest.1 span))

abbrev pub program_turn : ℕ → (List Item → Reader (List Item)) → List Item → Reader (List Item)
program_turn depth more found =
    choose is_end (end >> done found) ((choose (is_at_word (codes "type")) (alias depth) (function depth)) >>= (λ i. more (found ++ i ∷ [])))

unfoldable pub program : ℕ → Reader (List Item)
program depth = turning (program_turn depth) []
