-- Typing of typed trees: which of them are of which type in which scope, a rule for each form. The rules are those of every edition:
-- a witness is of the type that its name has among the witnesses, and how often it may stand is no matter of types.
use Rattle.std.specs.Prelude.{◌≡◌, ℕ, ◌<◌, ◌^◌, false, List, [], ◌∷◌, ◌++◌, length, replicate, bytes_eq, find, Option, Some, None, IsSome, IsTrue}
use Rattle.hl_data.specs.declared.typed.TypedArm.{TypedArm}
use Rattle.hl_data.specs.declared.typed.TypedExpr.{TypedExpr}
use Rattle.hl_data.specs.declared.typed.TypedForm.{TypedForm}
use Rattle.hl_data.specs.declared.typed.TypedForm.TheVariants as form
use Rattle.hl_data.specs.declared.typed.TypedFunction.{TypedFunction}
use Rattle.hl_data.specs.declared.typed.TypedSide.{TypedSide}
use Rattle.hl_data.specs.declared.typed.TypedSide.TheVariants as sides
use Rattle.hl_data.specs.declared.typed.TypedStatement.{TypedStatement}
use Rattle.hl_data.specs.declared.typed.TypedStatement.TheVariants as statements
use Rattle.hl_data.specs.declared.value.HlValue.{HlValue}
use Rattle.hl_syntax.specs.declared.kinds.HlType.{HlType}
use Rattle.hl_syntax.specs.declared.kinds.HlType.TheVariants as kind
use Rattle.hl_syntax.specs.declared.kinds.TypedName.{TypedName}
use Rattle.hl_syntax.specs.declared.tree.Pattern.{Pattern}
use Rattle.jets.specs.Jet.{Row}
use Rattle.simplicityhl.specs.Kinds as kinds
use Rattle.simplicityhl.specs.Kinds.{IsSound, is_bound}
use Rattle.simplicityhl.specs.Tokens.{decimal_value}
use Rattle.hl_meaning.specs.Literals.{literal_value}
use Rattle.hl_meaning.specs.Loops.{is_counter_width}
use Rattle.hl_meaning.specs.Values.{encoded}
use Rattle.hl_rules.specs.Exprs.{param_types, jet_named, jet_arguments, jet_result}
use Rattle.hl_rules.specs.Places.{Scope, variable_type, is_main}
use Rattle.hl_rules.specs.Same.{unit_type}
use Rattle.hl_typing.specs.Patterns.{BindsOnce}

-- what is known throughout a body: the functions before it, and the witnesses that it may name, with their types
pub record Around : Type 0 where
  pub functions : List TypedFunction
  pub witnesses : List TypedName

-- a function before has the name; `main` is called by none
pub record IsCalled (around : Around) (name : List ℕ) (f : TypedFunction) : Type 0 where
  pub is : find (λ g. bytes_eq name g.name) around.functions ≡ Some f
  pub not_main : is_main name ≡ false

-- the sides of a match that take the values of a type apart, each with the variables that it binds
pub data Sides : HlType → TypedSide → Scope → TypedSide → Scope → Type 0 where
  eithers : (k l : HlType) (p q : Pattern) (names more : Scope) → BindsOnce k p names → BindsOnce l q more →
      Sides (kind.Either k l) (sides.Left p k) names (sides.Right q l) more
  options : (k : HlType) (p : Pattern) (names : Scope) → BindsOnce k p names →
      Sides (kind.Option k) sides.Nothing [] (sides.Some p k) names
  bools : Sides kind.Bool sides.False [] sides.True []
  turned : (k : HlType) (one two : TypedSide) (names more : Scope) → Sides k one names two more → Sides k two more one names

-- what is said: a form is of a type in a scope, an expression is, expressions are of as many types, or a block of statements and
-- a last expression is of a type
pub data Judged : Type 0 where
  FormAt : Scope → HlType → TypedForm → Judged
  ExprAt : Scope → HlType → TypedExpr → Judged
  ExprsAt : Scope → List HlType → List TypedExpr → Judged
  BlockAt : Scope → HlType → List TypedStatement → Option TypedExpr → Judged

pub data Typed (around : Around) : Judged → Type 0 where
  -- an expression is of the type that it is marked with
  expr : (scope : Scope) (k : HlType) (e : TypedExpr) → e.kind ≡ k → IsSound k → Typed around (FormAt scope k e.form) →
      Typed around (ExprAt scope k e)
  no_more : (scope : Scope) → Typed around (ExprsAt scope [] [])
  one_more : (scope : Scope) (k : HlType) (ks : List HlType) (e : TypedExpr) (es : List TypedExpr) →
      Typed around (ExprAt scope k e) → Typed around (ExprsAt scope ks es) → Typed around (ExprsAt scope (k ∷ ks) (e ∷ es))
  -- names
  name : (scope : Scope) (k : HlType) (word : List ℕ) → variable_type scope word ≡ Some k → Typed around (FormAt scope k (form.Name word))
  witness : (scope : Scope) (k : HlType) (word : List ℕ) → variable_type around.witnesses word ≡ Some k →
      Typed around (FormAt scope k (form.Witness word))
  -- values
  value : (scope : Scope) (k : HlType) (v : HlValue) → IsSome (encoded v k) → Typed around (FormAt scope k (form.Value v))
  literal : (scope : Scope) (width : ℕ) (word : List ℕ) → literal_value word < 2 ^ width →
      Typed around (FormAt scope (kind.UInt width) (form.Literal word))
  truth : (scope : Scope) → Typed around (FormAt scope kind.Bool form.True)
  falsehood : (scope : Scope) → Typed around (FormAt scope kind.Bool form.False)
  tuple : (scope : Scope) (ks : List HlType) (es : List TypedExpr) → Typed around (ExprsAt scope ks es) →
      Typed around (FormAt scope (kind.Tuple ks) (form.Tuple es))
  array : (scope : Scope) (item : HlType) (count : ℕ) (es : List TypedExpr) → Typed around (ExprsAt scope (replicate count item) es) →
      Typed around (FormAt scope (kind.Array item count) (form.Array es))
  list : (scope : Scope) (item : HlType) (bound : ℕ) (es : List TypedExpr) → length es < bound →
      Typed around (ExprsAt scope (replicate (length es) item) es) → Typed around (FormAt scope (kind.List item bound) (form.List es))
  nothing : (scope : Scope) (item : HlType) → Typed around (FormAt scope (kind.Option item) form.Nothing)
  some : (scope : Scope) (item : HlType) (e : TypedExpr) → Typed around (ExprAt scope item e) →
      Typed around (FormAt scope (kind.Option item) (form.Some e))
  left : (scope : Scope) (k l : HlType) (e : TypedExpr) → Typed around (ExprAt scope k e) →
      Typed around (FormAt scope (kind.Either k l) (form.Left e))
  right : (scope : Scope) (k l : HlType) (e : TypedExpr) → Typed around (ExprAt scope l e) →
      Typed around (FormAt scope (kind.Either k l) (form.Right e))
  -- what fails, and what is taken apart
  panic : (scope : Scope) (k : HlType) → Typed around (FormAt scope k form.Panic)
  assert : (scope : Scope) (e : TypedExpr) → Typed around (ExprAt scope kind.Bool e) →
      Typed around (FormAt scope unit_type (form.Assert e))
  dbg : (scope : Scope) (k : HlType) (e : TypedExpr) → Typed around (ExprAt scope k e) → Typed around (FormAt scope k (form.Dbg e))
  unwrap : (scope : Scope) (k : HlType) (e : TypedExpr) → Typed around (ExprAt scope (kind.Option k) e) →
      Typed around (FormAt scope k (form.Unwrap e))
  unwrap_left : (scope : Scope) (k other : HlType) (e : TypedExpr) → Typed around (ExprAt scope (kind.Either k other) e) →
      Typed around (FormAt scope k (form.UnwrapLeft other e))
  unwrap_right : (scope : Scope) (k other : HlType) (e : TypedExpr) → Typed around (ExprAt scope (kind.Either other k) e) →
      Typed around (FormAt scope k (form.UnwrapRight other e))
  is_none : (scope : Scope) (item : HlType) (e : TypedExpr) → Typed around (ExprAt scope (kind.Option item) e) →
      Typed around (FormAt scope kind.Bool (form.IsNone item e))
  matched : (scope : Scope) (taken k : HlType) (e : TypedExpr) (one two : TypedArm) (first second : Scope) →
      Sides taken one.side first two.side second → Typed around (ExprAt scope taken e) →
      Typed around (ExprAt (first ++ scope) k one.body) → Typed around (ExprAt (second ++ scope) k two.body) →
      Typed around (FormAt scope k (form.Match e (one ∷ two ∷ [])))
  -- a conversion between types of one form
  into : (scope : Scope) (source k : HlType) (e : TypedExpr) → kinds.form source ≡ kinds.form k → Typed around (ExprAt scope source e) →
      Typed around (FormAt scope k (form.Into source e))
  -- calls and loops
  jet : (scope : Scope) (word : List ℕ) (row : Row) (es : List TypedExpr) → jet_named word ≡ Some row →
      Typed around (ExprsAt scope (jet_arguments row) es) → Typed around (FormAt scope (jet_result row) (form.Jet word es))
  call : (scope : Scope) (word : List ℕ) (f : TypedFunction) (es : List TypedExpr) → IsCalled around word f →
      Typed around (ExprsAt scope (param_types f) es) → Typed around (FormAt scope f.result (form.Call word es))
  fold : (scope : Scope) (word count : List ℕ) (f : TypedFunction) (item : HlType) (items start : TypedExpr) → IsCalled around word f →
      param_types f ≡ item ∷ f.result ∷ [] → IsTrue (is_bound (decimal_value count)) →
      Typed around (ExprAt scope (kind.List item (decimal_value count)) items) → Typed around (ExprAt scope f.result start) →
      Typed around (FormAt scope f.result (form.Fold word count items start))
  array_fold : (scope : Scope) (word count : List ℕ) (f : TypedFunction) (item : HlType) (items start : TypedExpr) →
      IsCalled around word f → param_types f ≡ item ∷ f.result ∷ [] →
      Typed around (ExprAt scope (kind.Array item (decimal_value count)) items) → Typed around (ExprAt scope f.result start) →
      Typed around (FormAt scope f.result (form.ArrayFold word count items start))
  for_while : (scope : Scope) (word : List ℕ) (f : TypedFunction) (total given end : HlType) (width : ℕ) (start context : TypedExpr) →
      IsCalled around word f → param_types f ≡ total ∷ given ∷ kind.UInt width ∷ [] → IsTrue (is_counter_width width) →
      f.result ≡ kind.Either end total → Typed around (ExprAt scope total start) → Typed around (ExprAt scope given context) →
      Typed around (FormAt scope f.result (form.ForWhile word start context))
  -- blocks: a `let` binds for what comes after it
  block : (scope : Scope) (k : HlType) (ss : List TypedStatement) (last : Option TypedExpr) → Typed around (BlockAt scope k ss last) →
      Typed around (FormAt scope k (form.Block ss last))
  no_last : (scope : Scope) → Typed around (BlockAt scope unit_type [] None)
  last : (scope : Scope) (k : HlType) (e : TypedExpr) → Typed around (ExprAt scope k e) → Typed around (BlockAt scope k [] (Some e))
  binding : (scope : Scope) (k l : HlType) (p : Pattern) (names : Scope) (e : TypedExpr) (ss : List TypedStatement) (last : Option TypedExpr) →
      BindsOnce l p names → Typed around (ExprAt scope l e) → Typed around (BlockAt (names ++ scope) k ss last) →
      Typed around (BlockAt scope k (statements.Let p l e ∷ ss) last)
  plain : (scope : Scope) (k : HlType) (e : TypedExpr) (ss : List TypedStatement) (last : Option TypedExpr) →
      Typed around (ExprAt scope unit_type e) → Typed around (BlockAt scope k ss last) →
      Typed around (BlockAt scope k (statements.Plain e ∷ ss) last)
