-- The grammar of the source language: which lists of tokens are which tree.
--
-- Each part is said line by line as in the language's grammar, and gives the tree that its tokens
-- stand for. The number of a part bounds how deep expressions, types and patterns are nested in it.
-- A tree's span goes from its first token to its last; parentheses that stand for their content
-- don't belong to it.
use Rattle.std.specs.Prelude.{ℕ, zero, suc, Bool, true, false, not, List, [], ◌∷◌, ◌++◌, length, codes, bytes_eq, Option, Some, None, if◌then◌else◌}
use Rattle.std.specs.List.{list_any}
use Rattle.std.specs.Char.{is_ascii_digit}
use denote.Enum.Bare.{sameb}
use Rattle.hl_syntax.specs.contracts.token.Symbol.{the_type}
use Rattle.hl_syntax.specs.declared.token.Mark.{Mark}
use Rattle.hl_syntax.specs.declared.token.Span.{Span}
use Rattle.hl_syntax.specs.declared.token.Token.{Token}
use Rattle.hl_syntax.specs.declared.token.TokenKind.{TokenKind}
use Rattle.hl_syntax.specs.declared.token.TokenKind.TheVariants as kinds
use Rattle.hl_syntax.specs.declared.token.Symbol.{Symbol}
use Rattle.hl_syntax.specs.declared.token.Symbol.TheVariants.{OpenParenthesis, CloseParenthesis, OpenBrace, CloseBrace, OpenBracket, CloseBracket, Less, Greater, Comma, Semicolon, Colon, DoubleColon, Equals, FatArrow, Arrow, Exclamation, Underscore}
use Rattle.hl_syntax.specs.declared.tree.TypeText.{TypeText}
use Rattle.hl_syntax.specs.declared.tree.TypeForm.{TypeForm}
use Rattle.hl_syntax.specs.declared.tree.TypeForm.TheVariants as types
use Rattle.hl_syntax.specs.declared.tree.Pattern.{Pattern}
use Rattle.hl_syntax.specs.declared.tree.PatternForm.{PatternForm}
use Rattle.hl_syntax.specs.declared.tree.PatternForm.TheVariants as patterns
use Rattle.hl_syntax.specs.declared.tree.Statement.{Statement}
use Rattle.hl_syntax.specs.declared.tree.Statement.TheVariants as statements
use Rattle.hl_syntax.specs.declared.tree.Arm.{Arm}
use Rattle.hl_syntax.specs.declared.tree.Side.{Side}
use Rattle.hl_syntax.specs.declared.tree.Side.TheVariants as sides
use Rattle.hl_syntax.specs.declared.tree.Expr.{Expr}
use Rattle.hl_syntax.specs.declared.tree.ExprForm.{ExprForm}
use Rattle.hl_syntax.specs.declared.tree.ExprForm.TheVariants as exprs
use Rattle.hl_syntax.specs.declared.tree.Param.{Param}
use Rattle.hl_syntax.specs.declared.tree.Item.{Item}
use Rattle.hl_syntax.specs.declared.tree.Item.TheVariants as items
use Rattle.simplicityhl.specs.declared.alternatives.ExprAlternative.{ExprAlternative}
use Rattle.simplicityhl.specs.declared.alternatives.ExprAlternative.TheVariants as expr_as
use Rattle.simplicityhl.specs.declared.alternatives.TypeAlternative.{TypeAlternative}
use Rattle.simplicityhl.specs.declared.alternatives.TypeAlternative.TheVariants as type_as
use Rattle.simplicityhl.specs.declared.alternatives.PatternAlternative.{PatternAlternative}
use Rattle.simplicityhl.specs.declared.alternatives.PatternAlternative.TheVariants as pattern_as
use Rattle.simplicityhl.specs.declared.alternatives.SideAlternative.{SideAlternative}
use Rattle.simplicityhl.specs.declared.alternatives.SideAlternative.TheVariants as side_as
use Rattle.simplicityhl.specs.Tokens.{are_digits}
use Rattle.simplicityhl.specs.Cover.{token_text}
use Rattle.simplicityhl.specs.Parts.{Part, never, too_deep, done, here, end, one, ◌>>=◌, ◌>>◌, either, one_of, turning, spanned, with_span, chosen, span_between}

-- Single tokens.

-- whether a word is one of a list
abbrev pub is_among : List (List ℕ) → List ℕ → Bool
is_among words word = list_any (bytes_eq word) words

abbrev pub keywords : List (List ℕ)
keywords = codes "fn" ∷ codes "type" ∷ codes "let" ∷ codes "match" ∷ []

-- the names before `(` that don't begin a call
abbrev pub applied_words : List (List ℕ)
applied_words = codes "unwrap" ∷ codes "Left" ∷ codes "Right" ∷ codes "Some" ∷ []

-- the names that are values of their own
abbrev pub constants : List (List ℕ)
constants = codes "None" ∷ codes "true" ∷ codes "false" ∷ []

abbrev pub is_symbol : Symbol → TokenKind → Bool
is_symbol s (kinds.Symbol other) = sameb the_type other s
is_symbol s k = false

abbrev pub is_word : List ℕ → TokenKind → Bool
is_word word (kinds.Name other) = bytes_eq other word
is_word word k = false

abbrev pub is_name : TokenKind → Bool
is_name (kinds.Name word) = not (is_among keywords word)
is_name k = false

-- a name that is none of these words either
abbrev pub is_name_but : List (List ℕ) → TokenKind → Bool
is_name_but words (kinds.Name word) = if is_among keywords word then false else not (is_among words word)
is_name_but words k = false

abbrev pub is_literal : TokenKind → Bool
is_literal (kinds.Literal word) = true
is_literal k = false

abbrev pub is_decimal : TokenKind → Bool
is_decimal (kinds.Literal word) = are_digits is_ascii_digit word
is_decimal k = false

-- a token as it stands
abbrev pub mark : Token → Mark
mark t = record { text = token_text t.kind; span = t.span }

abbrev pub symbol : Symbol → Part (Unit {0})
symbol s = one (is_symbol s) (λ t. tt)

abbrev pub word : List ℕ → Part (Unit {0})
word w = one (is_word w) (λ t. tt)

-- NAME
abbrev pub name : Part Mark
name = one is_name mark

-- DECIMAL
abbrev pub decimal : Part Mark
decimal = one is_decimal mark

-- Lists: many(x) = [ x { "," x } [ "," ] ], with the symbol after it.

-- what stands in brackets, and whether a comma, or nothing at all, comes before the last bracket
pub record Listed (A : Type 0) : Type 0 where
  pub items : List A
  pub is_open : Bool

abbrev pub many_turn : {A : Type 0} → Symbol → Part A → (List A → Part (Listed A)) → List A → Part (Listed A)
many_turn close x more found =
    either (symbol close >> done (record { items = found; is_open = true }))
    (x >>= (λ a. either (symbol close >> done (record { items = found ++ a ∷ []; is_open = false })) (symbol Comma >> more (found ++ a ∷ []))))

abbrev pub many : {A : Type 0} → Symbol → Part A → Part (Listed A)
many close x = turning (many_turn close x) []

-- one item without a comma stands for itself, anything else is a tuple
abbrev pub alone_or : {A : Type 0} → (List A → A) → List A → Bool → A
alone_or tuple (a ∷ []) false = a
alone_or tuple xs is_open = tuple xs

abbrev pub parenthesised : {A : Type 0} → (List A → Span → A) → Part A → Part A
parenthesised tuple x =
    spanned (λ l span. alone_or (λ xs. tuple xs span) l.items l.is_open) (symbol OpenParenthesis >> many CloseParenthesis x)

-- Patterns.

abbrev pub pattern_of : PatternForm → Span → Pattern
pattern_of form span = record { form = form; span = span }

abbrev pub pattern_form : Part Pattern → PatternAlternative → Part PatternForm
pattern_form pattern pattern_as.Name = do
  n ← name
  done (patterns.Name n.text)
pattern_form pattern pattern_as.Ignore = symbol Underscore >> done patterns.Ignore
pattern_form pattern pattern_as.Array = do
  symbol OpenBracket
  l ← many CloseBracket pattern
  done (patterns.Array l.items)

abbrev pub pattern_level : Part Pattern → Part Pattern
pattern_level pattern =
    either (parenthesised (λ ps. pattern_of (patterns.Tuple ps)) pattern) (spanned pattern_of (one_of (pattern_form pattern)))

abbrev pub pattern : ℕ → Part Pattern
pattern zero = too_deep (pattern_level never)
pattern (suc depth) = pattern_level (pattern depth)

-- Types.

abbrev pub type_of : TypeForm → Span → TypeText
type_of form span = record { form = form; span = span }

abbrev pub type_form : Part TypeText → TypeAlternative → Part TypeForm
type_form type type_as.Array = do
  symbol OpenBracket
  item ← type
  symbol Semicolon
  length ← decimal
  symbol CloseBracket
  done (types.Array item length)
type_form type type_as.List = do
  word (codes "List")
  symbol Less
  item ← type
  symbol Comma
  bound ← decimal
  symbol Greater
  done (types.List item bound)
type_form type type_as.Option = do
  word (codes "Option")
  symbol Less
  item ← type
  symbol Greater
  done (types.Option item)
type_form type type_as.Either = do
  word (codes "Either")
  symbol Less
  left ← type
  symbol Comma
  right ← type
  symbol Greater
  done (types.Either left right)
type_form type type_as.Name = do
  n ← name
  done (types.Name n.text)

abbrev pub type_level : Part TypeText → Part TypeText
type_level type =
    either (parenthesised (λ ts. type_of (types.Tuple ts)) type) (spanned type_of (one_of (type_form type)))

abbrev pub type : ℕ → Part TypeText
type zero = too_deep (type_level never)
type (suc depth) = type_level (type depth)

-- Expressions.

abbrev pub expr_of : ExprForm → Span → Expr
expr_of form span = record { form = form; span = span }

-- the sides of arms

abbrev pub binding : (Pattern → TypeText → Side) → Part Pattern → Part TypeText → Part Side
binding side pattern type = do
  symbol OpenParenthesis
  p ← pattern
  symbol Colon
  t ← type
  symbol CloseParenthesis
  done (side p t)

abbrev pub side_form : Part Pattern → Part TypeText → SideAlternative → Part Side
side_form pattern type side_as.Left = word (codes "Left") >> binding sides.Left pattern type
side_form pattern type side_as.Right = word (codes "Right") >> binding sides.Right pattern type
side_form pattern type side_as.Some = word (codes "Some") >> binding sides.Some pattern type
side_form pattern type side_as.Nothing = word (codes "None") >> done sides.Nothing
side_form pattern type side_as.True = word (codes "true") >> done sides.True
side_form pattern type side_as.False = word (codes "false") >> done sides.False

-- whether a block begins here
abbrev pub opens_block : List Token → Bool
opens_block [] = false
opens_block (t ∷ ts) = is_symbol OpenBrace t.kind

-- The parts of an expression, given what the expressions, types and patterns in it are.
module _ (expr : Part Expr) (type : Part TypeText) (pattern : Part Pattern) where
  abbrev pub let_statement : Part Statement
  let_statement = with_span (do
    word (codes "let")
    p ← pattern
    symbol Colon
    t ← type
    symbol Equals
    e ← expr
    done (λ span. statements.Let p t e span))

  -- the statements of a block, and the last expression where there is one
  abbrev pub block_turn : (List Statement → Part ExprForm) → List Statement → Part ExprForm
  block_turn more found =
      either (symbol CloseBrace >> done (exprs.Block found None))
      (either (let_statement >>= (λ s. symbol Semicolon >> more (found ++ s ∷ [])))
      (expr >>= (λ e. either (symbol Semicolon >> more (found ++ statements.Plain e ∷ [])) (symbol CloseBrace >> done (exprs.Block found (Some e))))))

  abbrev pub block : Part ExprForm
  block = symbol OpenBrace >> turning block_turn []

  -- an arm without its comma: what it is with a span, and whether its body is written as a block
  abbrev pub arm : Part ((Span → Arm) × Bool)
  arm = do
    s ← one_of (side_form pattern type)
    symbol FatArrow
    body ← here
    e ← expr
    done ((λ span. record { side = s; body = e; span = span }), opens_block body)

  -- what comes after an arm: its comma, which may be missing after a block, and before the last brace
  abbrev pub arm_end : (List Arm → Part (List Arm)) → List Arm → List Token → (Span → Arm) → Bool → Part (List Arm)
  arm_end more found first make is_block =
      either (symbol Comma >> (here >>= (λ after. more (found ++ make (span_between first after) ∷ []))))
      (here >>= (λ after. chosen is_block (more (found ++ make (span_between first after) ∷ [])) (symbol CloseBrace >> done (found ++ make (span_between first after) ∷ []))))

  abbrev pub arms_turn : (List Arm → Part (List Arm)) → List Arm → Part (List Arm)
  arms_turn more found =
      either (symbol CloseBrace >> done found)
      (here >>= (λ first. arm >>= (λ a. arm_end more found first a.0 a.1)))

  abbrev pub arms : Part (List Arm)
  arms = symbol OpenBrace >> turning arms_turn []

  abbrev pub in_parentheses : Part Expr
  in_parentheses = do
    symbol OpenParenthesis
    e ← expr
    symbol CloseParenthesis
    done e

  abbrev pub in_brackets : Part (List Expr)
  in_brackets = do
    symbol OpenBracket
    l ← many CloseBracket expr
    done l.items

  abbrev pub arguments : Part (List Expr)
  arguments = do
    symbol OpenParenthesis
    l ← many CloseParenthesis expr
    done l.items

  -- "(" expr "," expr [ "," ] ")"
  abbrev pub two_arguments : Part (Expr × Expr)
  two_arguments = do
    symbol OpenParenthesis
    a ← expr
    symbol Comma
    b ← expr
    either (symbol Comma >> (symbol CloseParenthesis >> done (a, b))) (symbol CloseParenthesis >> done (a, b))

  -- "::" "<" type ">"
  abbrev pub type_argument : Part TypeText
  type_argument = do
    symbol DoubleColon
    symbol Less
    t ← type
    symbol Greater
    done t

  -- "::" "<" NAME "," DECIMAL ">"
  abbrev pub counted_function : Part (Mark × Mark)
  counted_function = do
    symbol DoubleColon
    symbol Less
    f ← name
    symbol Comma
    count ← decimal
    symbol Greater
    done (f, count)

  abbrev pub path_name : Part Mark
  path_name = symbol DoubleColon >> name

  abbrev pub expr_form : ExprAlternative → Part ExprForm
  expr_form expr_as.Block = block
  expr_form expr_as.Match = word (codes "match") >> (expr >>= (λ e. arms >>= (λ found. done (exprs.Match e found))))
  expr_form expr_as.Array = in_brackets >>= (λ es. done (exprs.Array es))
  expr_form expr_as.List = word (codes "list") >> (symbol Exclamation >> (in_brackets >>= (λ es. done (exprs.List es))))
  expr_form expr_as.Assert = word (codes "assert") >> (symbol Exclamation >> (in_parentheses >>= (λ e. done (exprs.Assert e))))
  expr_form expr_as.Dbg = word (codes "dbg") >> (symbol Exclamation >> (in_parentheses >>= (λ e. done (exprs.Dbg e))))
  expr_form expr_as.Panic = word (codes "panic") >> (symbol Exclamation >> (symbol OpenParenthesis >> (symbol CloseParenthesis >> done exprs.Panic)))
  expr_form expr_as.Jet = word (codes "jet") >> (path_name >>= (λ n. arguments >>= (λ es. done (exprs.Jet n es))))
  expr_form expr_as.Witness = word (codes "witness") >> (path_name >>= (λ n. done (exprs.Witness n)))
  expr_form expr_as.Param = word (codes "param") >> (path_name >>= (λ n. done (exprs.Param n)))
  expr_form expr_as.Into = symbol Less >> (type >>= (λ t. symbol Greater >> (symbol DoubleColon >> (word (codes "into") >> (in_parentheses >>= (λ e. done (exprs.Into t e)))))))
  expr_form expr_as.Unwrap = word (codes "unwrap") >> (in_parentheses >>= (λ e. done (exprs.Unwrap e)))
  expr_form expr_as.UnwrapLeft = word (codes "unwrap_left") >> (type_argument >>= (λ t. in_parentheses >>= (λ e. done (exprs.UnwrapLeft t e))))
  expr_form expr_as.UnwrapRight = word (codes "unwrap_right") >> (type_argument >>= (λ t. in_parentheses >>= (λ e. done (exprs.UnwrapRight t e))))
  expr_form expr_as.IsNone = word (codes "is_none") >> (type_argument >>= (λ t. in_parentheses >>= (λ e. done (exprs.IsNone t e))))
  expr_form expr_as.Fold = word (codes "fold") >> (counted_function >>= (λ f. two_arguments >>= (λ es. done (exprs.Fold f.0 f.1 es.0 es.1))))
  expr_form expr_as.ArrayFold = word (codes "array_fold") >> (counted_function >>= (λ f. two_arguments >>= (λ es. done (exprs.ArrayFold f.0 f.1 es.0 es.1))))
  expr_form expr_as.ForWhile = word (codes "for_while") >> (symbol DoubleColon >> (symbol Less >> (name >>= (λ f. symbol Greater >> (two_arguments >>= (λ es. done (exprs.ForWhile f es.0 es.1)))))))
  expr_form expr_as.Left = word (codes "Left") >> (in_parentheses >>= (λ e. done (exprs.Left e)))
  expr_form expr_as.Right = word (codes "Right") >> (in_parentheses >>= (λ e. done (exprs.Right e)))
  expr_form expr_as.Some = word (codes "Some") >> (in_parentheses >>= (λ e. done (exprs.Some e)))
  expr_form expr_as.Nothing = word (codes "None") >> done exprs.Nothing
  expr_form expr_as.True = word (codes "true") >> done exprs.True
  expr_form expr_as.False = word (codes "false") >> done exprs.False
  expr_form expr_as.Literal = one is_literal mark >>= (λ n. done (exprs.Literal n.text))
  expr_form expr_as.Call = one (is_name_but applied_words) mark >>= (λ n. arguments >>= (λ es. done (exprs.Call n es)))
  expr_form expr_as.Name = one (is_name_but constants) mark >>= (λ n. done (exprs.Name n.text))

  -- an expression of the alternatives that pass a test
  abbrev pub allowed_form : (ExprAlternative → Bool) → ExprAlternative → Part ExprForm
  allowed_form allowed alternative = chosen (allowed alternative) (expr_form alternative) never

  abbrev pub expr_level : (ExprAlternative → Bool) → Part Expr
  expr_level allowed =
      either (parenthesised (λ es. expr_of (exprs.Tuple es)) expr) (spanned expr_of (one_of (allowed_form allowed)))

abbrev pub every_alternative : ExprAlternative → Bool
every_alternative alternative = true

-- the alternatives of value texts
abbrev pub of_values : ExprAlternative → Bool
of_values expr_as.Array = true
of_values expr_as.List = true
of_values expr_as.Left = true
of_values expr_as.Right = true
of_values expr_as.Some = true
of_values expr_as.Nothing = true
of_values expr_as.True = true
of_values expr_as.False = true
of_values expr_as.Literal = true
of_values _ = false

abbrev pub expr_of_only : (ExprAlternative → Bool) → ℕ → Part Expr
expr_of_only allowed zero = too_deep (expr_level never never never allowed)
expr_of_only allowed (suc depth) = expr_level (expr_of_only allowed depth) (type depth) (pattern depth) allowed

abbrev pub expr : ℕ → Part Expr
expr = expr_of_only every_alternative

-- a value text: literals, truth values, tuples, arrays, lists, Left, Right, Some and None alone
abbrev pub value : ℕ → Part Expr
value = expr_of_only of_values

-- Programs.

abbrev pub param : ℕ → Part Param
param depth = with_span (do
  n ← name
  symbol Colon
  t ← type depth
  done (λ span. record { name = n; kind = t; span = span }))

abbrev pub alias : ℕ → Part Item
alias depth = with_span (do
  word (codes "type")
  n ← name
  symbol Equals
  t ← type depth
  symbol Semicolon
  done (λ span. items.Alias n t span))

-- a function's body counts as an expression
abbrev pub body : ℕ → Part Expr
body zero = too_deep (spanned expr_of (block never never never))
body (suc depth) = spanned expr_of (block (expr depth) (type depth) (pattern depth))

abbrev pub result_and_body : ℕ → Part (Option TypeText × Expr)
result_and_body depth =
    either (symbol Arrow >> (type depth >>= (λ t. body depth >>= (λ e. done (Some t, e))))) (body depth >>= (λ e. done (None, e)))

abbrev pub function : ℕ → Part Item
function depth = with_span (do
  word (codes "fn")
  n ← name
  symbol OpenParenthesis
  l ← many CloseParenthesis (param depth)
  rest ← result_and_body depth
  done (λ span. items.Function n l.items rest.0 rest.1 span))

abbrev pub program_turn : ℕ → (List Item → Part (List Item)) → List Item → Part (List Item)
program_turn depth more found =
    either (end >> done found) ((either (alias depth) (function depth)) >>= (λ i. more (found ++ i ∷ [])))

abbrev pub program : ℕ → Part (List Item)
program depth = turning (program_turn depth) []

-- Whole texts.

-- how deep expressions, types and patterns may be nested
abbrev pub most_depth : ℕ
most_depth = 128

-- the tokens are a whole occurrence of a part, and in it nothing is nested deeper than this
pub record Stands {A : Type 0} (part : ℕ → Part A) (depth : ℕ) (ts : List Token) (tree : A) : Type 0 where
  pub is : (part depth).Whole ts tree []

-- the tokens are a tree in the grammar, however deep it is
abbrev pub Is : {A : Type 0} → (ℕ → Part A) → List Token → A → Type 0
Is part ts tree = (depth : ℕ) × Stands part depth ts tree
