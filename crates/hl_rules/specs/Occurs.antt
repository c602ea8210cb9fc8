-- The expressions of a program at their places, each with what is known there.
--
-- No rule has to be kept before a place. Where a type or a pattern gives what is known, the type stands for one and the pattern gives its variables.
use Rattle.std.specs.Prelude.{◌≡◌, ℕ, Bool, true, false, List, [], ◌∷◌, ◌++◌, length, map, flat_map, Option, Some, Ok, IsTrue}
use Rattle.hl_syntax.specs.declared.kinds.HlType.{HlType}
use Rattle.hl_syntax.specs.declared.kinds.HlType.TheVariants as kind
use Rattle.hl_syntax.specs.declared.kinds.TypedName.{TypedName}
use Rattle.hl_syntax.specs.declared.token.Mark.{Mark}
use Rattle.hl_syntax.specs.declared.token.Span.{Span}
use Rattle.hl_syntax.specs.declared.tree.Arm.{Arm}
use Rattle.hl_syntax.specs.declared.tree.Expr.{Expr}
use Rattle.hl_syntax.specs.declared.tree.ExprForm.{ExprForm}
use Rattle.hl_syntax.specs.declared.tree.ExprForm.TheVariants as exprs
use Rattle.hl_syntax.specs.declared.tree.Item.{Item}
use Rattle.hl_syntax.specs.declared.tree.Item.TheVariants as items
use Rattle.hl_syntax.specs.declared.tree.Param.{Param}
use Rattle.hl_syntax.specs.declared.tree.Pattern.{Pattern}
use Rattle.hl_syntax.specs.declared.tree.Statement.{Statement}
use Rattle.hl_syntax.specs.declared.tree.Statement.TheVariants as statements
use Rattle.hl_syntax.specs.declared.tree.TypeText.{TypeText}
use Rattle.hl_data.specs.declared.typed.TypedSide.{TypedSide}
use Rattle.jets.specs.Jet.{Row}
use Rattle.simplicityhl.specs.Tokens.{decimal_value}
use Rattle.simplicityhl.specs.Written.{walk}
use Rattle.hl_rules.specs.Before.{Signature, AreTyped, Holds, signature_named}
use Rattle.hl_rules.specs.Declared.{result_walk}
use Rattle.hl_rules.specs.Exprs.{are_sides, side_walk, matched_type, jet_named, jet_arguments, fold_shape, while_shape}
use Rattle.hl_rules.specs.Patterns.{pattern_walk}
use Rattle.hl_rules.specs.Places.{Scope, is_main}
use Rattle.hl_rules.specs.Same.{unit_type, parts_of, array_of, list_of, option_of, either_of}
use Rattle.hl_rules.specs.Witnesses.{Names, expr_names, statement_names, arm_names, item_names}

-- what is known at an expression
pub record Place : Type 0 where
  -- the aliases and the functions before it, and whether it is in `main`
  pub aliases : List TypedName
  pub functions : List Signature
  pub in_main : Bool
  -- the variables in scope, the innermost first
  pub scope : Scope
  -- the type that is expected of it
  pub expected : HlType
  -- whether it is the whole expression of a statement that is no `let`
  pub stands_alone : Bool
  -- the witnesses that stand before it in the text
  pub witnesses : Names

-- the place of a part, at a type and after some witnesses more
abbrev pub inside : Place → HlType → Names → Place
inside at kind more = record { aliases = at.aliases; functions = at.functions; in_main = at.in_main; scope = at.scope; expected = kind; stands_alone = false; witnesses = at.witnesses ++ more }

-- the same where other variables are in scope
abbrev pub with_scope : Place → Scope → Place
with_scope at scope = record { aliases = at.aliases; functions = at.functions; in_main = at.in_main; scope = scope; expected = at.expected; stands_alone = at.stands_alone; witnesses = at.witnesses }

-- the place of the expression of a statement that is no `let`
abbrev pub alone : Place → Names → Place
alone at more = record { aliases = at.aliases; functions = at.functions; in_main = at.in_main; scope = at.scope; expected = unit_type; stands_alone = true; witnesses = at.witnesses ++ more }

-- the scope after statements of a block: a `let` binds, and nothing else does
pub data Leaves (aliases : List TypedName) (start : Scope) : List Statement → Scope → Type 0 where
  no_statement : Leaves aliases start [] start
  after_let : (before : List Statement) (scope : Scope) (pattern : Pattern) (text : TypeText) (value : Expr) (span : Span) (kind : HlType) (bound : Scope) →
      Leaves aliases start before scope → walk aliases text ≡ Ok kind → pattern_walk pattern kind [] ≡ Ok bound →
      Leaves aliases start (before ++ statements.Let pattern text value span ∷ []) (bound ++ scope)
  after_plain : (before : List Statement) (scope : Scope) (e : Expr) → Leaves aliases start before scope → Leaves aliases start (before ++ statements.Plain e ∷ []) scope

-- the types of a function's parameters
abbrev pub types_of : Signature → List HlType
types_of f = map (λ p. p.kind) f.params

-- the parts of an expression that is no block and no match, and the types that are expected of them
pub data HasParts (at : Place) : ExprForm → List Expr → List HlType → Type 0 where
  tuple : (parts : List Expr) (kinds : List HlType) → parts_of at.expected ≡ Some kinds → HasParts at (exprs.Tuple parts) parts kinds
  array : (parts : List Expr) (item : HlType) (count : ℕ) → array_of at.expected ≡ Some (item, count) → HasParts at (exprs.Array parts) parts (map (λ _. item) parts)
  list : (parts : List Expr) (item : HlType) (bound : ℕ) → list_of at.expected ≡ Some (item, bound) → HasParts at (exprs.List parts) parts (map (λ _. item) parts)
  left : (e : Expr) (one two : HlType) → either_of at.expected ≡ Some (one, two) → HasParts at (exprs.Left e) (e ∷ []) (one ∷ [])
  right : (e : Expr) (one two : HlType) → either_of at.expected ≡ Some (one, two) → HasParts at (exprs.Right e) (e ∷ []) (two ∷ [])
  some : (e : Expr) (item : HlType) → option_of at.expected ≡ Some item → HasParts at (exprs.Some e) (e ∷ []) (item ∷ [])
  assert : (e : Expr) → HasParts at (exprs.Assert e) (e ∷ []) (kind.Bool ∷ [])
  dbg : (e : Expr) → HasParts at (exprs.Dbg e) (e ∷ []) (at.expected ∷ [])
  into : (text : TypeText) (e : Expr) (source : HlType) → walk at.aliases text ≡ Ok source → HasParts at (exprs.Into text e) (e ∷ []) (source ∷ [])
  unwrap : (e : Expr) → HasParts at (exprs.Unwrap e) (e ∷ []) (kind.Option at.expected ∷ [])
  unwrap_left : (text : TypeText) (e : Expr) (other : HlType) → walk at.aliases text ≡ Ok other → HasParts at (exprs.UnwrapLeft text e) (e ∷ []) (kind.Either at.expected other ∷ [])
  unwrap_right : (text : TypeText) (e : Expr) (other : HlType) → walk at.aliases text ≡ Ok other → HasParts at (exprs.UnwrapRight text e) (e ∷ []) (kind.Either other at.expected ∷ [])
  is_none : (text : TypeText) (e : Expr) (item : HlType) → walk at.aliases text ≡ Ok item → HasParts at (exprs.IsNone text e) (e ∷ []) (kind.Option item ∷ [])
  jet : (name : Mark) (arguments : List Expr) (row : Row) → jet_named name.text ≡ Some row → HasParts at (exprs.Jet name arguments) arguments (jet_arguments row)
  call : (name : Mark) (arguments : List Expr) (f : Signature) → signature_named at.functions name.text ≡ Some f → HasParts at (exprs.Call name arguments) arguments (types_of f)
  fold : (name count : Mark) (items total : Expr) (f : Signature) (item sum : HlType) → signature_named at.functions name.text ≡ Some f →
      fold_shape (types_of f) f.result ≡ Some (item, sum) → HasParts at (exprs.Fold name count items total) (items ∷ total ∷ []) (kind.List item (decimal_value count.text) ∷ sum ∷ [])
  array_fold : (name count : Mark) (items total : Expr) (f : Signature) (item sum : HlType) → signature_named at.functions name.text ≡ Some f →
      fold_shape (types_of f) f.result ≡ Some (item, sum) → HasParts at (exprs.ArrayFold name count items total) (items ∷ total ∷ []) (kind.Array item (decimal_value count.text) ∷ sum ∷ [])
  for_while : (name : Mark) (total context : Expr) (f : Signature) (sum given : HlType) → signature_named at.functions name.text ≡ Some f →
      while_shape (types_of f) f.result ≡ Some (sum, given) → HasParts at (exprs.ForWhile name total context) (total ∷ context ∷ []) (sum ∷ given ∷ [])

-- an expression of a form and at a span stands at a place of the program
pub data Occurs (program : List Item) : Place → ExprForm → Span → Type 0 where
  body : (name : Mark) (params : List Param) (text : Option TypeText) (e : Expr) (span : Span) (aliases : List TypedName) (functions : List Signature) (typed : List TypedName) (result : HlType)
      (item : Holds program (items.Function name params text e span) aliases functions) → AreTyped aliases params typed → result_walk aliases text ≡ Ok result →
      Occurs program (record { aliases = aliases; functions = functions; in_main = is_main name.text; scope = typed; expected = result; stands_alone = false; witnesses = flat_map item_names item.before })
      e.form e.span
  part : (at : Place) (form : ExprForm) (span : Span) (before after : List Expr) (e : Expr) (kinds more : List HlType) (kind : HlType) →
      Occurs program at form span → HasParts at form (before ++ e ∷ after) (kinds ++ kind ∷ more) → length before ≡ length kinds →
      Occurs program (inside at kind (flat_map expr_names before)) e.form e.span
  value : (at : Place) (before after : List Statement) (pattern : Pattern) (text : TypeText) (e : Expr) (stands : Span) (last : Option Expr) (span : Span) (scope : Scope) (kind : HlType) →
      Occurs program at (exprs.Block (before ++ statements.Let pattern text e stands ∷ after) last) span → Leaves at.aliases at.scope before scope → walk at.aliases text ≡ Ok kind →
      Occurs program (inside (with_scope at scope) kind (flat_map statement_names before)) e.form e.span
  statement : (at : Place) (before after : List Statement) (e : Expr) (last : Option Expr) (span : Span) (scope : Scope) →
      Occurs program at (exprs.Block (before ++ statements.Plain e ∷ after) last) span → Leaves at.aliases at.scope before scope →
      Occurs program (alone (with_scope at scope) (flat_map statement_names before)) e.form e.span
  last : (at : Place) (before : List Statement) (e : Expr) (span : Span) (scope : Scope) →
      Occurs program at (exprs.Block before (Some e)) span → Leaves at.aliases at.scope before scope →
      Occurs program (inside (with_scope at scope) at.expected (flat_map statement_names before)) e.form e.span
  scrutinee : (at : Place) (e : Expr) (one two : Arm) (span : Span) (first second : TypedSide) (first_bound second_bound : Scope) →
      Occurs program at (exprs.Match e (one ∷ two ∷ [])) span → IsTrue (are_sides one.side two.side) →
      side_walk at.aliases one.side ≡ Ok (first, first_bound) → side_walk at.aliases two.side ≡ Ok (second, second_bound) →
      Occurs program (inside at (matched_type first second) []) e.form e.span
  arm : (at : Place) (e : Expr) (before after : List Arm) (one : Arm) (span : Span) (side : TypedSide) (bound : Scope) →
      Occurs program at (exprs.Match e (before ++ one ∷ after)) span → side_walk at.aliases one.side ≡ Ok (side, bound) →
      Occurs program (inside (with_scope at (bound ++ at.scope)) at.expected (expr_names e ++ flat_map arm_names before)) one.body.form one.body.span
