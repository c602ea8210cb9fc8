-- Parts of an expression.
use Rattle.std.specs.Prelude.{ℕ, Bool, List, [], Result}
use Rattle.std.specs.declared.alloc.Global.{Global}
use denote.Ref.{MutBor}
use Rattle.hl_syntax.specs.declared.token.Token.{Token}
use Rattle.hl_syntax.specs.declared.token.Mark.{Mark}
use Rattle.hl_syntax.specs.declared.token.Span.{Span}
use Rattle.hl_syntax.specs.declared.token.Symbol.TheVariants.{CloseParenthesis, Comma, Exclamation}
use Rattle.hl_syntax.specs.declared.tree.TypeText.{TypeText}
use Rattle.hl_syntax.specs.declared.tree.Pattern.{Pattern}
use Rattle.hl_syntax.specs.declared.tree.Side.{Side}
use Rattle.hl_syntax.specs.declared.tree.Arm.{Arm}
use Rattle.hl_syntax.specs.declared.tree.Expr.{Expr}
use Rattle.hl_syntax.specs.declared.tree.ExprForm.{ExprForm}
use Rattle.simplicityhl.specs.declared.alternatives.ExprAlternative.{ExprAlternative}
use Rattle.hl_cursor.specs.declared.refused.Refused.{Refused}
use Rattle.hl_cursor.specs.Nests.{Nests}
use Rattle.hl_operands.specs.declared.inner.Inner.{Inner}
use Rattle.hl_grammar.specs.Readers.{Reader, done, ◌>>=◌, ◌>>◌, choose, turning}
use Rattle.hl_grammar.specs.Read.{is_at, symbol, word, in_parentheses, type_argument, path_name, counted_function, two_arguments, block_turn, arms_turn}
use Rattle.hl_grammar.specs.Read as read

-- a part of an expression, by what the expressions, types and patterns in it are
abbrev pub within : {A : Type 0} → (Reader Expr → Reader TypeText → Reader Pattern → A) → Bool → ℕ → A
within part values_only depth = part (read.expr_of_only values_only depth) (read.type depth) (read.pattern depth)

-- the expressions in an expression, a part of it, and its form by its alternative, as its `Inner` says
abbrev pub expr_in : {F : Type 0} → Inner F → Reader Expr
expr_in inner = read.expr_of_only inner.values_only inner.depth

abbrev pub part_in : {F A : Type 0} → Inner F → (Reader Expr → Reader TypeText → Reader Pattern → A) → A
part_in inner part = within part inner.values_only inner.depth

abbrev pub form_in : {F : Type 0} → Inner F → ExprAlternative → Reader ExprForm
form_in inner alternative = within read.expr_form inner.values_only inner.depth alternative

-- a function value that reads the expressions in an expression
abbrev pub NestsIn : {F : Type 0} → Inner F → (Global → MutBor (List Token) → ℕ → Type 0) → (Global → MutBor (List Token) → ℕ → Result Expr Refused → MutBor (List Token) → Type 0) → Type 0
NestsIn inner pre post = Nests (expr_in inner) inner.depth pre post

-- `)`, with or without a comma before it
abbrev pub closed : {A : Type 0} → A → Reader A
closed a = choose (is_at Comma) (symbol Comma >> (symbol CloseParenthesis >> done a)) (symbol CloseParenthesis >> done a)

-- an arm without its comma, once its span is known, and whether its body is written as a block
abbrev pub arm_of : Side × Expr × Bool → (Span → Arm) × Bool
arm_of a = ((λ span. record { side = a.0; body = a.1; span = span }), a.2)

module _ (expr : Reader Expr) (type : Reader TypeText) (pattern : Reader Pattern) where
  -- word "(" expr ")", and what is made of the expression
  abbrev pub applied : List ℕ → (Expr → ExprForm) → Reader ExprForm
  applied w form = word w >> (in_parentheses expr type pattern >>= (λ e. done (form e)))

  -- word "!" "(" expr ")"
  abbrev pub exclaimed : List ℕ → (Expr → ExprForm) → Reader ExprForm
  exclaimed w form = word w >> (symbol Exclamation >> (in_parentheses expr type pattern >>= (λ e. done (form e))))

  -- word "::" "<" type ">" "(" expr ")"
  abbrev pub typed : List ℕ → (TypeText → Expr → ExprForm) → Reader ExprForm
  typed w form = word w >> (type_argument expr type pattern >>= (λ t. in_parentheses expr type pattern >>= (λ e. done (form t e))))

  -- the second of two arguments, and the parenthesis after it
  abbrev pub last_argument : (Expr → Expr × Expr) → Reader (Expr × Expr)
  last_argument pair = expr >>= (λ b. closed (pair b))

  -- word "::" NAME
  abbrev pub named : List ℕ → (Mark → ExprForm) → Reader ExprForm
  named w form = word w >> (path_name expr type pattern >>= (λ n. done (form n)))

  -- word "::" "<" NAME "," DECIMAL ">" "(" expr "," expr [ "," ] ")"
  abbrev pub counted : List ℕ → (Mark → Mark → Expr → Expr → ExprForm) → Reader ExprForm
  counted w form = word w >> (counted_function expr type pattern >>= (λ f. two_arguments expr type pattern >>= (λ es. done (form f.0 f.1 es.0 es.1))))

  -- a block after its brace
  abbrev pub statements : Reader ExprForm
  statements = turning (block_turn expr type pattern) []

  -- the arms of a match after their brace
  abbrev pub more_arms : Reader (List Arm)
  more_arms = turning (arms_turn expr type pattern) []
