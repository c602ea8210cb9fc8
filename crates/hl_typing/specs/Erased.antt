-- The source tree that a typed tree is of: the same tree, without the types of its expressions. Where the source writes a type, the
-- typed tree has the type that is written; where it names an entry, the typed tree has the entry's value.
use Rattle.std.specs.Prelude.{◌≡◌, ℕ, List, [], ◌∷◌, Option, Some, None, Ok}
use Rattle.hl_data.specs.declared.typed.TypedArm.{TypedArm}
use Rattle.hl_data.specs.declared.typed.TypedExpr.{TypedExpr}
use Rattle.hl_data.specs.declared.typed.TypedForm.{TypedForm}
use Rattle.hl_data.specs.declared.typed.TypedForm.TheVariants as typed
use Rattle.hl_data.specs.declared.typed.TypedSide.{TypedSide}
use Rattle.hl_data.specs.declared.typed.TypedSide.TheVariants as typed_sides
use Rattle.hl_data.specs.declared.typed.TypedStatement.{TypedStatement}
use Rattle.hl_data.specs.declared.typed.TypedStatement.TheVariants as typed_statements
use Rattle.hl_data.specs.declared.value.Entry.{Entry}
use Rattle.hl_syntax.specs.declared.kinds.HlType.{HlType}
use Rattle.hl_syntax.specs.declared.kinds.TypedName.{TypedName}
use Rattle.hl_syntax.specs.declared.token.Mark.{Mark}
use Rattle.hl_syntax.specs.declared.token.Span.{Span}
use Rattle.hl_syntax.specs.declared.tree.Arm.{Arm}
use Rattle.hl_syntax.specs.declared.tree.Expr.{Expr}
use Rattle.hl_syntax.specs.declared.tree.ExprForm.{ExprForm}
use Rattle.hl_syntax.specs.declared.tree.ExprForm.TheVariants as exprs
use Rattle.hl_syntax.specs.declared.tree.Pattern.{Pattern}
use Rattle.hl_syntax.specs.declared.tree.Side.{Side}
use Rattle.hl_syntax.specs.declared.tree.Side.TheVariants as sides
use Rattle.hl_syntax.specs.declared.tree.Statement.{Statement}
use Rattle.hl_syntax.specs.declared.tree.Statement.TheVariants as statements
use Rattle.hl_syntax.specs.declared.tree.TypeText.{TypeText}
use Rattle.simplicityhl.specs.Written.{walk}
use Rattle.hl_rules.specs.Places.{entry_named}

-- what is said: a typed form is of a form of the source, and so for lists of expressions, statements and arms
pub data Paired : Type 0 where
  FormOf : TypedForm → ExprForm → Paired
  ExprsOf : List TypedExpr → List Expr → Paired
  StatementOf : TypedStatement → Statement → Paired
  StatementsOf : List TypedStatement → List Statement → Paired
  LastOf : Option TypedExpr → Option Expr → Paired
  ArmOf : TypedArm → Arm → Paired

-- the sides of arms
pub data SideOf (aliases : List TypedName) : TypedSide → Side → Type 0 where
  of_left : (p : Pattern) (text : TypeText) (k : HlType) → walk aliases text ≡ Ok k →
      SideOf aliases (typed_sides.Left p k) (sides.Left p text)
  of_right : (p : Pattern) (text : TypeText) (k : HlType) → walk aliases text ≡ Ok k →
      SideOf aliases (typed_sides.Right p k) (sides.Right p text)
  of_some : (p : Pattern) (text : TypeText) (k : HlType) → walk aliases text ≡ Ok k →
      SideOf aliases (typed_sides.Some p k) (sides.Some p text)
  of_none : SideOf aliases typed_sides.Nothing sides.Nothing
  of_true : SideOf aliases typed_sides.True sides.True
  of_false : SideOf aliases typed_sides.False sides.False

pub data Erased (aliases : List TypedName) (entries : List Entry) : Paired → Type 0 where
  no_more : Erased aliases entries (ExprsOf [] [])
  one_more : (e : TypedExpr) (es : List TypedExpr) (source : Expr) (sources : List Expr) →
      Erased aliases entries (FormOf e.form source.form) → Erased aliases entries (ExprsOf es sources) →
      Erased aliases entries (ExprsOf (e ∷ es) (source ∷ sources))
  block : (ss : List TypedStatement) (last : Option TypedExpr) (sources : List Statement) (end : Option Expr) →
      Erased aliases entries (StatementsOf ss sources) → Erased aliases entries (LastOf last end) →
      Erased aliases entries (FormOf (typed.Block ss last) (exprs.Block sources end))
  no_last : Erased aliases entries (LastOf None None)
  last : (e : TypedExpr) (source : Expr) → Erased aliases entries (FormOf e.form source.form) →
      Erased aliases entries (LastOf (Some e) (Some source))
  no_statement : Erased aliases entries (StatementsOf [] [])
  one_statement : (s : TypedStatement) (ss : List TypedStatement) (source : Statement) (sources : List Statement) →
      Erased aliases entries (StatementOf s source) → Erased aliases entries (StatementsOf ss sources) →
      Erased aliases entries (StatementsOf (s ∷ ss) (source ∷ sources))
  binding : (p : Pattern) (text : TypeText) (k : HlType) (e : TypedExpr) (source : Expr) (span : Span) → walk aliases text ≡ Ok k →
      Erased aliases entries (FormOf e.form source.form) →
      Erased aliases entries (StatementOf (typed_statements.Let p k e) (statements.Let p text source span))
  plain : (e : TypedExpr) (source : Expr) → Erased aliases entries (FormOf e.form source.form) →
      Erased aliases entries (StatementOf (typed_statements.Plain e) (statements.Plain source))
  matched : (e : TypedExpr) (one two : TypedArm) (source : Expr) (first second : Arm) →
      Erased aliases entries (FormOf e.form source.form) → Erased aliases entries (ArmOf one first) →
      Erased aliases entries (ArmOf two second) →
      Erased aliases entries (FormOf (typed.Match e (one ∷ two ∷ [])) (exprs.Match source (first ∷ second ∷ [])))
  arm : (one : TypedArm) (source : Arm) → SideOf aliases one.side source.side →
      Erased aliases entries (FormOf one.body.form source.body.form) → Erased aliases entries (ArmOf one source)
  tuple : (es : List TypedExpr) (sources : List Expr) → Erased aliases entries (ExprsOf es sources) →
      Erased aliases entries (FormOf (typed.Tuple es) (exprs.Tuple sources))
  array : (es : List TypedExpr) (sources : List Expr) → Erased aliases entries (ExprsOf es sources) →
      Erased aliases entries (FormOf (typed.Array es) (exprs.Array sources))
  list : (es : List TypedExpr) (sources : List Expr) → Erased aliases entries (ExprsOf es sources) →
      Erased aliases entries (FormOf (typed.List es) (exprs.List sources))
  assert : (e : TypedExpr) (source : Expr) → Erased aliases entries (FormOf e.form source.form) →
      Erased aliases entries (FormOf (typed.Assert e) (exprs.Assert source))
  dbg : (e : TypedExpr) (source : Expr) → Erased aliases entries (FormOf e.form source.form) →
      Erased aliases entries (FormOf (typed.Dbg e) (exprs.Dbg source))
  panic : Erased aliases entries (FormOf typed.Panic exprs.Panic)
  jet : (word : Mark) (es : List TypedExpr) (sources : List Expr) → Erased aliases entries (ExprsOf es sources) →
      Erased aliases entries (FormOf (typed.Jet word.text es) (exprs.Jet word sources))
  witness : (word : Mark) → Erased aliases entries (FormOf (typed.Witness word.text) (exprs.Witness word))
  value : (word : Mark) (entry : Entry) → entry_named entries word.text ≡ Some entry →
      Erased aliases entries (FormOf (typed.Value entry.value) (exprs.Param word))
  into : (text : TypeText) (k : HlType) (e : TypedExpr) (source : Expr) → walk aliases text ≡ Ok k →
      Erased aliases entries (FormOf e.form source.form) → Erased aliases entries (FormOf (typed.Into k e) (exprs.Into text source))
  unwrap : (e : TypedExpr) (source : Expr) → Erased aliases entries (FormOf e.form source.form) →
      Erased aliases entries (FormOf (typed.Unwrap e) (exprs.Unwrap source))
  unwrap_left : (text : TypeText) (k : HlType) (e : TypedExpr) (source : Expr) → walk aliases text ≡ Ok k →
      Erased aliases entries (FormOf e.form source.form) →
      Erased aliases entries (FormOf (typed.UnwrapLeft k e) (exprs.UnwrapLeft text source))
  unwrap_right : (text : TypeText) (k : HlType) (e : TypedExpr) (source : Expr) → walk aliases text ≡ Ok k →
      Erased aliases entries (FormOf e.form source.form) →
      Erased aliases entries (FormOf (typed.UnwrapRight k e) (exprs.UnwrapRight text source))
  is_none : (text : TypeText) (k : HlType) (e : TypedExpr) (source : Expr) → walk aliases text ≡ Ok k →
      Erased aliases entries (FormOf e.form source.form) →
      Erased aliases entries (FormOf (typed.IsNone k e) (exprs.IsNone text source))
  fold : (word count : Mark) (items start : TypedExpr) (source begin : Expr) → Erased aliases entries (FormOf items.form source.form) →
      Erased aliases entries (FormOf start.form begin.form) →
      Erased aliases entries (FormOf (typed.Fold word.text count.text items start) (exprs.Fold word count source begin))
  array_fold : (word count : Mark) (items start : TypedExpr) (source begin : Expr) →
      Erased aliases entries (FormOf items.form source.form) → Erased aliases entries (FormOf start.form begin.form) →
      Erased aliases entries (FormOf (typed.ArrayFold word.text count.text items start) (exprs.ArrayFold word count source begin))
  for_while : (word : Mark) (start context : TypedExpr) (begin given : Expr) → Erased aliases entries (FormOf start.form begin.form) →
      Erased aliases entries (FormOf context.form given.form) →
      Erased aliases entries (FormOf (typed.ForWhile word.text start context) (exprs.ForWhile word begin given))
  left : (e : TypedExpr) (source : Expr) → Erased aliases entries (FormOf e.form source.form) →
      Erased aliases entries (FormOf (typed.Left e) (exprs.Left source))
  right : (e : TypedExpr) (source : Expr) → Erased aliases entries (FormOf e.form source.form) →
      Erased aliases entries (FormOf (typed.Right e) (exprs.Right source))
  some : (e : TypedExpr) (source : Expr) → Erased aliases entries (FormOf e.form source.form) →
      Erased aliases entries (FormOf (typed.Some e) (exprs.Some source))
  nothing : Erased aliases entries (FormOf typed.Nothing exprs.Nothing)
  truth : Erased aliases entries (FormOf typed.True exprs.True)
  falsehood : Erased aliases entries (FormOf typed.False exprs.False)
  literal : (word : List ℕ) → Erased aliases entries (FormOf (typed.Literal word) (exprs.Literal word))
  call : (word : Mark) (es : List TypedExpr) (sources : List Expr) → Erased aliases entries (ExprsOf es sources) →
      Erased aliases entries (FormOf (typed.Call word.text es) (exprs.Call word sources))
  name : (word : List ℕ) → Erased aliases entries (FormOf (typed.Name word) (exprs.Name word))
