-- The laws of value texts as expressions.
use Rattle.std.specs.Prelude.{◌≡◌, ℕ, List, Result, Ok, Err, IsTrue}
use Rattle.hl_data.specs.declared.typed.TypedExpr.{TypedExpr}
use Rattle.hl_data.specs.declared.value.HlValue.{HlValue}
use Rattle.hl_syntax.specs.declared.kinds.HlType.{HlType}
use Rattle.hl_syntax.specs.declared.kinds.TypedName.{TypedName}
use Rattle.hl_syntax.specs.declared.rules.Rule.{Rule}
use Rattle.hl_syntax.specs.declared.token.Span.{Span}
use Rattle.hl_syntax.specs.declared.token.Token.{Token}
use Rattle.hl_syntax.specs.declared.tree.Expr.{Expr}
use Rattle.simplicityhl.specs.Grammar as grammar
use Rattle.simplicityhl.specs.Grammar.{Stands, most_depth}
use Rattle.simplicityhl.specs.Kinds.{IsSound}
use Rattle.simplicityhl.specs.Tokens.{tokens}
use Rattle.simplicityhl.specs.Written.{Broken, breaks_rule}
use Rattle.hl_rules.specs.Exprs.{expr_walk}
use Rattle.hl_rules.specs.Places.{Context, Scope}
use Rattle.hl_values.specs.Reads.{IsNoValueText}
use Rattle.hl_values.specs.Written.{IsValueText, written}
use Rattle.hl_value_walks.specs.Agree.{is_value, Agree, Spells}

-- an expression of forms of values is read as a value of a sound type, or not, as it is checked at the type: whatever is known at
-- its place, whichever rule names that it isn't of the type, and whichever witnesses were met before it
abbrev pub WalksAgree : Type 0
WalksAgree =
    (e : Expr) (kind : HlType) (c : Context) (scope : Scope) (rule : Rule) (met : List TypedName) →
    IsTrue (is_value e) → IsSound kind → Agree kind met (written e kind) (expr_walk c e scope kind rule met)

-- an expression of forms of values, whose tokens are an expression of the grammar in which nothing is nested too deep
pub record IsValueExpression (depth : ℕ) (ts : List Token) (tree : Expr) : Type 0 where
  pub value : IsTrue (is_value tree)
  pub stands : Stands grammar.expr depth ts tree

-- the tokens of a value text are an expression with the same tree, nested as deep, and of forms of values
abbrev pub ValueTextsAreExpressions : Type 0
ValueTextsAreExpressions =
    (depth : ℕ) (ts : List Token) (tree : Expr) → Stands grammar.value depth ts tree → IsValueExpression depth ts tree

-- and tokens that are an expression of forms of values are a value text with the same tree
abbrev pub ExpressionsOfValuesAreTexts : Type 0
ExpressionsOfValuesAreTexts =
    (depth : ℕ) (ts : List Token) (tree : Expr) → IsTrue (is_value tree) → Stands grammar.expr depth ts tree →
    Stands grammar.value depth ts tree

-- what checking an expression at a type gives, and whether a text is a value text of the type: one for the value that the typed tree
-- means, or none where a rule is broken
pub data TextAgrees (text : List ℕ) (kind : HlType) (met : List TypedName) : Result (TypedExpr × List TypedName) Broken → Type 0 where
  a_value : (v : HlValue) (found : TypedExpr) → IsValueText text kind v → Spells found kind v → TextAgrees text kind met (Ok (found, met))
  no_value : (rule : Rule) (span : Span) → IsNoValueText text kind → TextAgrees text kind met (Err (breaks_rule rule span))

-- a text that is an expression of forms of values is a value text of a sound type, or none, as it is checked at the type
abbrev pub TextsAgree : Type 0
TextsAgree =
    (text : List ℕ) (ts : List Token) (tree : Expr) (kind : HlType) (c : Context) (scope : Scope) (rule : Rule) (met : List TypedName) →
    tokens text ≡ Ok ts → Stands grammar.expr most_depth ts tree → IsTrue (is_value tree) → IsSound kind →
    TextAgrees text kind met (expr_walk c tree scope kind rule met)
