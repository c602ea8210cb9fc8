-- Expressions at their types: the tree with its types, or the rule or limit that is broken first.
use Rattle.std.specs.Prelude.{ℕ, ◌^◌, Bool, true, false, ◌&&◌, nat_eq, nat_lt, List, [], ◌∷◌, ◌++◌, length, map, bytes_eq, find, Option, Some, None, Ok, if◌then◌else◌}
use Rattle.hl_syntax.specs.declared.kinds.HlType.{HlType}
use Rattle.hl_syntax.specs.declared.kinds.HlType.TheVariants as kind
use Rattle.hl_syntax.specs.declared.kinds.TypedName.{TypedName}
use Rattle.hl_syntax.specs.declared.rules.Rule.{Rule}
use Rattle.hl_syntax.specs.declared.rules.Rule.TheVariants.{K3, K4, K6, K7, K8, K9, K11, K12, K13, K14, K15, K16, K17, K18, K19, K22, K23}
use Rattle.hl_syntax.specs.declared.token.Span.{Span}
use Rattle.hl_syntax.specs.declared.tree.Expr.{Expr}
use Rattle.hl_syntax.specs.declared.tree.ExprForm.{ExprForm}
use Rattle.hl_syntax.specs.declared.tree.Statement.{Statement}
use Rattle.hl_syntax.specs.declared.tree.ExprForm.TheOpen.{ExprForm-F, Statement-F, Arm-F, Expr-F}
use Rattle.hl_syntax.specs.declared.tree.ExprForm.TheFolds.{fold-Expr, fold-ExprForm, fold-Statement}
use Rattle.hl_syntax.specs.declared.tree.Pattern.{Pattern}
use Rattle.hl_syntax.specs.declared.tree.Side.{Side}
use Rattle.hl_syntax.specs.declared.tree.Side.TheVariants as sides
use Rattle.hl_syntax.specs.declared.tree.TypeText.{TypeText}
use Rattle.hl_data.specs.declared.typed.TypedExpr.{TypedExpr}
use Rattle.hl_data.specs.declared.typed.TypedForm.{TypedForm}
use Rattle.hl_data.specs.declared.typed.TypedForm.TheVariants as typed
use Rattle.hl_data.specs.declared.typed.TypedFunction.{TypedFunction}
use Rattle.hl_data.specs.declared.typed.TypedSide.{TypedSide}
use Rattle.hl_data.specs.declared.typed.TypedSide.TheVariants as typed_sides
use Rattle.hl_data.specs.declared.typed.TypedStatement.{TypedStatement}
use Rattle.hl_data.specs.declared.typed.TypedStatement.TheVariants as typed_statements
use Rattle.jets.specs.Jet as jets
use Rattle.jets.specs.Jet.{Row}
use Rattle.simplicityhl.specs.Kinds.{form, is_bound}
use Rattle.simplicityhl.specs.Written.{walk, counted, then_walk}
use Rattle.hl_meaning.specs.Literals.{literal_value}
use Rattle.hl_rules.specs.Patterns.{pattern_walk}
use Rattle.hl_rules.specs.Places.{Scope, Context, variable_type, function_named, entry_named}
use Rattle.hl_rules.specs.Same.{same_type, same_kind, unit_type, width_of, parts_of, array_of, list_of, option_of, either_of}
use Rattle.hl_rules.specs.Steps.{Step}
use Rattle.hl_rules.specs.Walks.{Walk, ◌>>=◌, ◌>>◌, done, plain, needs, wants, refuse}

-- an expression in a scope and at a type, given the rule by which it is named where it isn't of the type itself
abbrev pub ExprWalk : Type 0
ExprWalk = Scope → HlType → Rule → Walk TypedExpr

-- the form of an expression, given the expression's span
abbrev pub FormWalk : Type 0
FormWalk = Span → Scope → HlType → Rule → Walk TypedForm

-- a statement in a scope, with the scope after it
abbrev pub StatementWalk : Type 0
StatementWalk = Scope → Walk (TypedStatement × Scope)

-- an arm of a match
pub record ArmWalk : Type 0 where
  pub side : Side
  pub body : ExprWalk

-- Parts.

-- parts at their types, one after the other
abbrev pub parts_walk : List ExprWalk → List HlType → Scope → Walk (List TypedExpr)
parts_walk (part ∷ parts) (kind ∷ kinds) scope = do
  first ← part scope kind K6
  rest ← parts_walk parts kinds scope
  done (first ∷ rest)
parts_walk _ _ scope = done []

-- parts at one type
abbrev pub items_walk : List ExprWalk → HlType → Scope → Walk (List TypedExpr)
items_walk [] item scope = done []
items_walk (part ∷ parts) item scope = do
  first ← part scope item K6
  rest ← items_walk parts item scope
  done (first ∷ rest)

-- Blocks.

-- a `let` takes its type, its pattern, its expression, and then binds
abbrev pub let_walk : List TypedName → Pattern → TypeText → ExprWalk → StatementWalk
let_walk aliases pattern text value scope = do
  kind ← plain (walk aliases text)
  bound ← plain (pattern_walk pattern kind [])
  found ← value scope kind K6
  done (typed_statements.Let pattern kind found, bound ++ scope)

-- another statement is checked at `()`
abbrev pub plain_walk : ExprWalk → StatementWalk
plain_walk e scope = do
  found ← e scope unit_type K23
  done (typed_statements.Plain found, scope)

-- statements one after the other, each in the scope after the one before it
abbrev pub statements_walk : List StatementWalk → Scope → Walk (List TypedStatement × Scope)
statements_walk [] scope = done ([], scope)
statements_walk (statement ∷ statements) scope = do
  first ← statement scope
  rest ← statements_walk statements first.1
  done (first.0 ∷ rest.0, rest.1)

-- the last expression of a block; without one the block's type is `()`
abbrev pub last_walk : Option ExprWalk → Span → Scope → HlType → Rule → Walk (Option TypedExpr)
last_walk None span scope expected rule = do
  needs (same_type unit_type expected) rule span
  done None
last_walk (Some e) span scope expected rule = do
  last ← e scope expected K6
  done (Some last)

-- Matches.

-- whether the sides of two arms are Left and Right, None and Some, or false and true
abbrev pub are_sides : Side → Side → Bool
are_sides (sides.Left p s) (sides.Right q t) = true
are_sides (sides.Right p s) (sides.Left q t) = true
are_sides sides.Nothing (sides.Some q t) = true
are_sides (sides.Some p s) sides.Nothing = true
are_sides sides.False sides.True = true
are_sides sides.True sides.False = true
are_sides _ _ = false

-- the type that a side binds, and its variables
abbrev pub binding_walk : List TypedName → Pattern → TypeText → Step (HlType × Scope)
binding_walk aliases pattern text = then_walk (walk aliases text) (λ kind. then_walk (pattern_walk pattern kind []) (λ bound. Ok (kind, bound)))

-- a side with its type, and the variables that it binds
abbrev pub side_walk : List TypedName → Side → Step (TypedSide × Scope)
side_walk aliases (sides.Left p t) = then_walk (binding_walk aliases p t) (λ found. Ok (typed_sides.Left p found.0, found.1))
side_walk aliases (sides.Right p t) = then_walk (binding_walk aliases p t) (λ found. Ok (typed_sides.Right p found.0, found.1))
side_walk aliases (sides.Some p t) = then_walk (binding_walk aliases p t) (λ found. Ok (typed_sides.Some p found.0, found.1))
side_walk aliases sides.Nothing = Ok (typed_sides.Nothing, [])
side_walk aliases sides.True = Ok (typed_sides.True, [])
side_walk aliases sides.False = Ok (typed_sides.False, [])

-- the type that a match with these two sides takes apart
abbrev pub matched_type : TypedSide → TypedSide → HlType
matched_type (typed_sides.Left p s) (typed_sides.Right q t) = kind.Either s t
matched_type (typed_sides.Right p s) (typed_sides.Left q t) = kind.Either t s
matched_type typed_sides.Nothing (typed_sides.Some q t) = kind.Option t
matched_type (typed_sides.Some p s) typed_sides.Nothing = kind.Option s
matched_type _ _ = kind.Bool

abbrev pub match_walk : List TypedName → ExprWalk → ArmWalk → ArmWalk → FormWalk
match_walk aliases e one two span scope expected rule = do
  needs (are_sides one.side two.side) K13 span
  first ← plain (side_walk aliases one.side)
  second ← plain (side_walk aliases two.side)
  value ← e scope (matched_type first.0 second.0) K6
  first_body ← one.body (first.1 ++ scope) expected K6
  second_body ← two.body (second.1 ++ scope) expected K6
  done (typed.Match value (record { side = first.0; body = first_body } ∷ record { side = second.0; body = second_body } ∷ []))

-- Calls.

abbrev pub param_types : TypedFunction → List HlType
param_types f = map (λ p. p.kind) f.params

-- the jet of a name
unfoldable pub jet_named : List ℕ → Option Row
jet_named name = find (λ row. bytes_eq name row.name) jets.rows

abbrev pub jet_type : jets.Kind → HlType
jet_type jets.Truth = kind.Bool
jet_type (jets.Number width) = kind.UInt width

-- the type of a jet's results: `()` for none, a tuple for two
abbrev pub results_type : List HlType → HlType
results_type (only ∷ []) = only
results_type results = kind.Tuple results

-- the types of a jet's arguments, and of its results
abbrev pub jet_arguments : Row → List HlType
jet_arguments row = map jet_type row.arguments

abbrev pub jet_result : Row → HlType
jet_result row = results_type (map jet_type row.results)

-- Loops.

-- whether a function with these parameters takes an item and an accumulator to an accumulator
abbrev pub fold_shape : List HlType → HlType → Option (HlType × HlType)
fold_shape (item ∷ total ∷ []) result = if same_type total result then Some (item, total) else None
fold_shape _ result = None

-- whether a type is that of a loop's counter
abbrev pub is_counter : Option ℕ → Bool
is_counter None = false
is_counter (Some width) = nat_lt width 17

abbrev pub goes_on : HlType → Option (HlType × HlType) → Bool
goes_on total None = false
goes_on total (Some sides) = same_type total sides.1

-- whether a function takes an accumulator, a context and a counter to an end on the left or an accumulator on the right
abbrev pub while_shape : List HlType → HlType → Option (HlType × HlType)
while_shape (total ∷ context ∷ counter ∷ []) result = if is_counter (width_of counter) && goes_on total (either_of result) then Some (total, context) else None
while_shape _ result = None

-- Witnesses.

-- whether a witness that stands already, where this type was expected at its first place, may stand again: in edition 2 at that type
abbrev pub stands_again : ℕ → HlType → Option HlType → Bool
stands_again edition expected None = true
stands_again edition expected (Some first) = nat_eq edition 2 && same_type first expected

-- whether a witness may stand at a type, after those that were met
abbrev pub may_stand : ℕ → List TypedName → List ℕ → HlType → Bool
may_stand edition met name expected = stands_again edition expected (variable_type met name)

-- Expressions by their forms; what is broken first is on the first line that says so.
module _ (c : Context) where
  abbrev pub form_step : ExprForm-F FormWalk StatementWalk ArmWalk ExprWalk → FormWalk
  form_step (ExprForm-F.Block statements last) span scope expected rule = do
    found ← statements_walk statements scope
    end ← last_walk last span found.1 expected rule
    done (typed.Block found.0 end)
  form_step (ExprForm-F.Match e (one ∷ two ∷ [])) span scope expected rule = match_walk c.aliases e one two span scope expected rule
  form_step (ExprForm-F.Match e arms) span scope expected rule = refuse K13 span
  form_step (ExprForm-F.Tuple parts) span scope expected rule = do
    kinds ← wants (parts_of expected) rule span
    needs (nat_eq (length parts) (length kinds)) K8 span
    found ← parts_walk parts kinds scope
    done (typed.Tuple found)
  form_step (ExprForm-F.Array parts) span scope expected rule = do
    array ← wants (array_of expected) rule span
    needs (nat_eq (length parts) array.1) K8 span
    found ← items_walk parts array.0 scope
    done (typed.Array found)
  form_step (ExprForm-F.List parts) span scope expected rule = do
    list ← wants (list_of expected) rule span
    needs (nat_lt (length parts) list.1) K9 span
    found ← items_walk parts list.0 scope
    done (typed.List found)
  form_step (ExprForm-F.Assert e) span scope expected rule = do
    needs (same_type unit_type expected) rule span
    found ← e scope kind.Bool K6
    done (typed.Assert found)
  form_step (ExprForm-F.Dbg e) span scope expected rule = do
    found ← e scope expected K6
    done (typed.Dbg found)
  form_step ExprForm-F.Panic span scope expected rule = done typed.Panic
  form_step (ExprForm-F.Jet name arguments) span scope expected rule = do
    row ← wants (jet_named name.text) K22 name.span
    needs (nat_eq (length arguments) (length (jet_arguments row))) K11 span
    needs (same_type (jet_result row) expected) rule span
    found ← parts_walk arguments (jet_arguments row) scope
    done (typed.Jet name.text found)
  form_step (ExprForm-F.Witness name) span scope expected rule = do
    needs c.in_main K16 name.span
    λ met. then_walk (needs (may_stand c.edition met name.text expected) K17 name.span met)
        (λ _. Ok (typed.Witness name.text, met ++ record { name = name.text; kind = expected } ∷ []))
  form_step (ExprForm-F.Param name) span scope expected rule = do
    entry ← wants (entry_named c.entries name.text) K18 name.span
    needs (same_type entry.kind expected) K19 name.span
    done (typed.Value entry.value)
  form_step (ExprForm-F.Into text e) span scope expected rule = do
    source ← plain (walk c.aliases text)
    needs (same_kind (form source) (form expected)) K12 span
    found ← e scope source K6
    done (typed.Into source found)
  form_step (ExprForm-F.Unwrap e) span scope expected rule = do
    found ← e scope (kind.Option expected) K6
    done (typed.Unwrap found)
  form_step (ExprForm-F.UnwrapLeft text e) span scope expected rule = do
    other ← plain (walk c.aliases text)
    found ← e scope (kind.Either expected other) K6
    done (typed.UnwrapLeft other found)
  form_step (ExprForm-F.UnwrapRight text e) span scope expected rule = do
    other ← plain (walk c.aliases text)
    found ← e scope (kind.Either other expected) K6
    done (typed.UnwrapRight other found)
  form_step (ExprForm-F.IsNone text e) span scope expected rule = do
    item ← plain (walk c.aliases text)
    needs (same_type kind.Bool expected) rule span
    found ← e scope (kind.Option item) K6
    done (typed.IsNone item found)
  form_step (ExprForm-F.Fold name count list total) span scope expected rule = do
    f ← wants (function_named c.functions name.text) K3 name.span
    bound ← plain (counted count)
    needs (is_bound bound) K15 count.span
    shape ← wants (fold_shape (param_types f) f.result) K14 name.span
    needs (same_type f.result expected) rule span
    items ← list scope (kind.List shape.0 bound) K6
    start ← total scope shape.1 K6
    done (typed.Fold name.text count.text items start)
  form_step (ExprForm-F.ArrayFold name count array total) span scope expected rule = do
    f ← wants (function_named c.functions name.text) K3 name.span
    length ← plain (counted count)
    shape ← wants (fold_shape (param_types f) f.result) K14 name.span
    needs (same_type f.result expected) rule span
    items ← array scope (kind.Array shape.0 length) K6
    start ← total scope shape.1 K6
    done (typed.ArrayFold name.text count.text items start)
  form_step (ExprForm-F.ForWhile name total context) span scope expected rule = do
    f ← wants (function_named c.functions name.text) K3 name.span
    shape ← wants (while_shape (param_types f) f.result) K14 name.span
    needs (same_type f.result expected) rule span
    start ← total scope shape.0 K6
    given ← context scope shape.1 K6
    done (typed.ForWhile name.text start given)
  form_step (ExprForm-F.Left e) span scope expected rule = do
    sides ← wants (either_of expected) rule span
    found ← e scope sides.0 K6
    done (typed.Left found)
  form_step (ExprForm-F.Right e) span scope expected rule = do
    sides ← wants (either_of expected) rule span
    found ← e scope sides.1 K6
    done (typed.Right found)
  form_step (ExprForm-F.Some e) span scope expected rule = do
    item ← wants (option_of expected) rule span
    found ← e scope item K6
    done (typed.Some found)
  form_step ExprForm-F.Nothing span scope expected rule = do
    wants (option_of expected) rule span
    done typed.Nothing
  form_step ExprForm-F.True span scope expected rule = do
    needs (same_type kind.Bool expected) rule span
    done typed.True
  form_step ExprForm-F.False span scope expected rule = do
    needs (same_type kind.Bool expected) rule span
    done typed.False
  form_step (ExprForm-F.Literal word) span scope expected rule = do
    width ← wants (width_of expected) rule span
    needs (nat_lt (literal_value word) (2 ^ width)) K7 span
    done (typed.Literal word)
  form_step (ExprForm-F.Call name arguments) span scope expected rule = do
    f ← wants (function_named c.functions name.text) K3 name.span
    needs (nat_eq (length arguments) (length f.params)) K11 span
    needs (same_type f.result expected) rule span
    found ← parts_walk arguments (param_types f) scope
    done (typed.Call name.text found)
  form_step (ExprForm-F.Name name) span scope expected rule = do
    known ← wants (variable_type scope name) K4 span
    needs (same_type known expected) rule span
    done (typed.Name name)

  abbrev pub statement_step : Statement-F FormWalk StatementWalk ArmWalk ExprWalk → StatementWalk
  statement_step (Statement-F.Let pattern text value span) scope = let_walk c.aliases pattern text value scope
  statement_step (Statement-F.Plain e) scope = plain_walk e scope

  abbrev pub arm_step : Arm-F FormWalk StatementWalk ArmWalk ExprWalk → ArmWalk
  arm_step arm = record { side = arm.side; body = arm.body }

  abbrev pub expr_step : Expr-F FormWalk StatementWalk ArmWalk ExprWalk → ExprWalk
  expr_step e scope expected rule = do
    found ← e.form e.span scope expected rule
    done (record { kind = expected; form = found })

  abbrev pub expr_walk : Expr → ExprWalk
  expr_walk e = fold-Expr FormWalk StatementWalk ArmWalk ExprWalk form_step statement_step arm_step expr_step e

  abbrev pub statement_walk : Statement → StatementWalk
  statement_walk s = fold-Statement FormWalk StatementWalk ArmWalk ExprWalk form_step statement_step arm_step expr_step s

  abbrev pub form_walk : ExprForm → FormWalk
  form_walk form = fold-ExprForm FormWalk StatementWalk ArmWalk ExprWalk form_step statement_step arm_step expr_step form
