-- What functions mean: for each argument a value or failure.
--
-- The parts of an expression are evaluated from the left. A match evaluates the arm of its value alone. If a part that is evaluated
-- fails, the whole fails. A function's body sees the functions before it and its parameters.
use Rattle.std.specs.Prelude.{ℕ, ◌^◌, Bool, true, false, ◌&&◌, List, [], ◌∷◌, ◌++◌, bytes_eq, find, map, Option, Some, None, option_and_then, if◌then◌else◌}
use Rattle.hl_data.specs.declared.typed.TypedArm.{TypedArm}
use Rattle.hl_data.specs.declared.typed.TypedExpr.{TypedExpr}
use Rattle.hl_data.specs.declared.typed.TypedForm.TheFolds.{fold-TypedExpr, fold-TypedStatement, fold-TypedArm}
use Rattle.hl_data.specs.declared.typed.TypedForm.TheOpen.{TypedForm-F, TypedStatement-F, TypedArm-F, TypedExpr-F}
use Rattle.hl_data.specs.declared.typed.TypedFunction.{TypedFunction}
use Rattle.hl_data.specs.declared.typed.TypedStatement.{TypedStatement}
use Rattle.hl_data.specs.declared.typed.TypedSide.{TypedSide}
use Rattle.hl_data.specs.declared.typed.TypedSide.TheVariants as sides
use Rattle.hl_data.specs.declared.value.HlValue.{HlValue}
use Rattle.hl_data.specs.declared.value.HlValue.TheOpen.{HlValue-F}
use Rattle.hl_data.specs.declared.value.HlValue.TheVariants as value
use Rattle.hl_data.specs.declared.value.HlValue.TheViews.{out-HlValue}
use Rattle.hl_syntax.specs.declared.kinds.HlType.{HlType}
use Rattle.hl_syntax.specs.declared.kinds.HlType.TheOpen.{HlType-F}
use Rattle.hl_syntax.specs.declared.kinds.HlType.TheViews.{out-HlType}
use Rattle.hl_syntax.specs.declared.kinds.TypedName.{TypedName}
use Rattle.hl_meaning.specs.Answer.{Answer, gives, fails, stuck, and_then, shaped, known}
use Rattle.hl_meaning.specs.Jets.{jet_answer}
use Rattle.hl_meaning.specs.Literals.{literal_value}
use Rattle.hl_meaning.specs.Loops.{Calls, folded, counted, is_counter_width}
use Rattle.hl_meaning.specs.Scopes.{Binding, Scope, Binder, meant, bound, each_bound}
use Rattle.simplicityhl.specs.Kinds.{is_sound}
use Rattle.hl_meaning.specs.Values.{encoded, decoded, same_kind, word_at}
use Rattle.simplicityhl.specs.Kinds.{form}

-- a function by its name: its parameters, and what it gives for their values
pub record Function : Type 0 where
  pub name : List ℕ
  pub params : List TypedName
  pub run : Calls

abbrev pub Meaning : Type 0
Meaning = Scope → Answer HlValue

-- the value of the tuple of nothing
abbrev pub empty : HlValue
empty = value.Tuple []

-- parts in one scope
abbrev pub all_in : List Meaning → Scope → Answer (List HlValue)
all_in [] scope = gives []
all_in (part ∷ parts) scope = and_then (part scope) (λ v. and_then (all_in parts scope) (λ vs. gives (v ∷ vs)))

abbrev pub made_of : (List HlValue → HlValue) → List Meaning → Meaning
made_of make parts scope = and_then (all_in parts scope) (λ vs. gives (make vs))

-- the value of one part, taken apart
abbrev pub taking : (HlValue-F HlValue → Answer HlValue) → Meaning → Meaning
taking use_of part scope = and_then (part scope) (λ v. use_of (out-HlValue v))

abbrev pub asserted : HlValue-F HlValue → Answer HlValue
asserted (HlValue-F.Bool true) = gives empty
asserted (HlValue-F.Bool false) = fails
asserted _ = stuck

abbrev pub unwrapped : HlValue-F HlValue → Answer HlValue
unwrapped (HlValue-F.Some v) = gives v
unwrapped HlValue-F.Nothing = fails
unwrapped _ = stuck

abbrev pub unwrapped_left : HlValue-F HlValue → Answer HlValue
unwrapped_left (HlValue-F.Left v) = gives v
unwrapped_left (HlValue-F.Right v) = fails
unwrapped_left _ = stuck

abbrev pub unwrapped_right : HlValue-F HlValue → Answer HlValue
unwrapped_right (HlValue-F.Right v) = gives v
unwrapped_right (HlValue-F.Left v) = fails
unwrapped_right _ = stuck

abbrev pub none_tested : HlValue-F HlValue → Answer HlValue
none_tested HlValue-F.Nothing = gives (value.Bool true)
none_tested (HlValue-F.Some v) = gives (value.Bool false)
none_tested _ = stuck

-- a literal at a type of numbers
abbrev pub number_at : HlType-F HlType → List ℕ → Answer HlValue
number_at (HlType-F.UInt width) word = known (word_at width (literal_value word))
number_at _ word = stuck

-- whether both types are sound and have the same form
abbrev pub are_alike : HlType → HlType → Bool
are_alike from to = is_sound from && (is_sound to && same_kind (form from) (form to))

-- a value of one type as the value of another of the same form that has the same encoding
abbrev pub converted : HlType → HlType → HlValue → Answer HlValue
converted from to v = if are_alike from to then known (option_and_then (decoded to) (encoded v from)) else stuck

-- the items of a list, of an array
abbrev pub items_in_list : HlValue-F HlValue → Option (List HlValue)
items_in_list (HlValue-F.List vs) = Some vs
items_in_list _ = None

abbrev pub items_in_array : HlValue-F HlValue → Option (List HlValue)
items_in_array (HlValue-F.Array vs) = Some vs
items_in_array _ = None

-- the width of a loop's counter, the third parameter of its function
abbrev pub number_width : HlType-F HlType → Option ℕ
number_width (HlType-F.UInt width) = if is_counter_width width then Some width else None
number_width _ = None

abbrev pub counter_width : List TypedName → Option ℕ
counter_width (made ∷ context ∷ counter ∷ []) = number_width (out-HlType counter.kind)
counter_width _ = None

-- what an arm's side binds in the value that is matched; none where the side is for other values
abbrev pub taken : TypedSide → HlValue-F HlValue → Option (Answer Scope)
taken (sides.Left pattern kind) (HlValue-F.Left v) = Some (known (bound pattern v))
taken (sides.Right pattern kind) (HlValue-F.Right v) = Some (known (bound pattern v))
taken (sides.Some pattern kind) (HlValue-F.Some v) = Some (known (bound pattern v))
taken sides.Nothing HlValue-F.Nothing = Some (gives [])
taken sides.True (HlValue-F.Bool true) = Some (gives [])
taken sides.False (HlValue-F.Bool false) = Some (gives [])
taken _ _ = None

-- an arm where its side takes the value, else the arms after it
abbrev pub or_after : Option (Answer Scope) → Meaning → Answer HlValue → Scope → Answer HlValue
or_after (Some found) body after scope = and_then found (λ new. body (new ++ scope))
or_after None body after scope = after

pub record ArmMeaning : Type 0 where
  pub side : TypedSide
  pub body : Meaning

abbrev pub matched : List ArmMeaning → HlValue-F HlValue → Scope → Answer HlValue
matched [] v scope = stuck
matched (arm ∷ arms) v scope = or_after (taken arm.side v) arm.body (matched arms v scope) scope

-- a statement, given what comes after it
abbrev pub StatementMeaning : Type 0
StatementMeaning = Meaning → Meaning

-- statements one after the other, and the last expression where there is one
abbrev pub last_of : Option Meaning → Meaning
last_of None scope = gives empty
last_of (Some last) scope = last scope

abbrev pub block_of : List StatementMeaning → Option Meaning → Meaning
block_of [] last = last_of last
block_of (s ∷ ss) last = s (block_of ss last)

-- the parameters of a call as its scope
abbrev pub named : TypedName → Binder
named p v = Some (record { name = p.name; value = v } ∷ [])

abbrev pub scope_of : List TypedName → List HlValue → Option Scope
scope_of params arguments = each_bound (map named params) arguments

module _ (functions : List Function) (witness : List Binding) where
  -- the function of a name
  abbrev pub function_of : List ℕ → Option Function
  function_of name = find (λ f. bytes_eq name f.name) functions

  abbrev pub call_of : List ℕ → List HlValue → Answer HlValue
  call_of name arguments = shaped (function_of name) (λ f. f.run arguments)

  abbrev pub loop_over : (HlValue-F HlValue → Option (List HlValue)) → List ℕ → Meaning → Meaning → Meaning
  loop_over items_in name items start scope =
      shaped (function_of name) (λ f. and_then (items scope) (λ v. and_then (known (items_in (out-HlValue v))) (λ found. and_then (start scope) (folded f.run found))))

  abbrev pub counting_loop : List ℕ → Meaning → Meaning → Meaning
  counting_loop name start context scope =
      shaped (function_of name) (λ f. and_then (known (counter_width f.params)) (λ width. and_then (start scope) (λ made. and_then (context scope) (λ given. counted f.run width given (2 ^ width) 0 made))))

  abbrev pub form_step : TypedForm-F (HlType → Meaning) StatementMeaning ArmMeaning Meaning → HlType → Meaning
  form_step (TypedForm-F.Block ss last) kind = block_of ss last
  form_step (TypedForm-F.Match e arms) kind = λ scope. and_then (e scope) (λ v. matched arms (out-HlValue v) scope)
  form_step (TypedForm-F.Tuple es) kind = made_of value.Tuple es
  form_step (TypedForm-F.Array es) kind = made_of value.Array es
  form_step (TypedForm-F.List es) kind = made_of value.List es
  form_step (TypedForm-F.Assert e) kind = taking asserted e
  form_step (TypedForm-F.Dbg e) kind = e
  form_step TypedForm-F.Panic kind = λ scope. fails
  form_step (TypedForm-F.Jet name es) kind = λ scope. and_then (all_in es scope) (jet_answer name)
  form_step (TypedForm-F.Witness name) kind = λ scope. known (meant name witness)
  form_step (TypedForm-F.Value v) kind = λ scope. gives v
  form_step (TypedForm-F.Into from e) kind = λ scope. and_then (e scope) (converted from kind)
  form_step (TypedForm-F.Unwrap e) kind = taking unwrapped e
  form_step (TypedForm-F.UnwrapLeft other e) kind = taking unwrapped_left e
  form_step (TypedForm-F.UnwrapRight other e) kind = taking unwrapped_right e
  form_step (TypedForm-F.IsNone item e) kind = taking none_tested e
  form_step (TypedForm-F.Fold name count items start) kind = loop_over items_in_list name items start
  form_step (TypedForm-F.ArrayFold name count items start) kind = loop_over items_in_array name items start
  form_step (TypedForm-F.ForWhile name start context) kind = counting_loop name start context
  form_step (TypedForm-F.Left e) kind = λ scope. and_then (e scope) (λ v. gives (value.Left v))
  form_step (TypedForm-F.Right e) kind = λ scope. and_then (e scope) (λ v. gives (value.Right v))
  form_step (TypedForm-F.Some e) kind = λ scope. and_then (e scope) (λ v. gives (value.Some v))
  form_step TypedForm-F.Nothing kind = λ scope. gives value.Nothing
  form_step TypedForm-F.True kind = λ scope. gives (value.Bool true)
  form_step TypedForm-F.False kind = λ scope. gives (value.Bool false)
  form_step (TypedForm-F.Literal word) kind = λ scope. number_at (out-HlType kind) word
  form_step (TypedForm-F.Call name es) kind = λ scope. and_then (all_in es scope) (call_of name)
  form_step (TypedForm-F.Name name) kind = λ scope. known (meant name scope)

  -- an inner binding shadows an outer one
  abbrev pub statement_step : TypedStatement-F (HlType → Meaning) StatementMeaning ArmMeaning Meaning → StatementMeaning
  statement_step (TypedStatement-F.Let pattern kind e) = λ after scope. and_then (e scope) (λ v. shaped (bound pattern v) (λ new. after (new ++ scope)))
  statement_step (TypedStatement-F.Plain e) = λ after scope. and_then (e scope) (λ v. after scope)

  abbrev pub arm_step : TypedArm-F (HlType → Meaning) StatementMeaning ArmMeaning Meaning → ArmMeaning
  arm_step arm = record { side = arm.side; body = arm.body }

  abbrev pub expression_step : TypedExpr-F (HlType → Meaning) StatementMeaning ArmMeaning Meaning → Meaning
  expression_step e = e.form e.kind

  -- an expression
  unfoldable pub mean : TypedExpr → Meaning
  mean e = fold-TypedExpr (HlType → Meaning) StatementMeaning ArmMeaning Meaning form_step statement_step arm_step expression_step e

  -- a statement, and an arm
  unfoldable pub mean_statement : TypedStatement → StatementMeaning
  mean_statement s = fold-TypedStatement (HlType → Meaning) StatementMeaning ArmMeaning Meaning form_step statement_step arm_step expression_step s

  unfoldable pub mean_arm : TypedArm → ArmMeaning
  mean_arm a = fold-TypedArm (HlType → Meaning) StatementMeaning ArmMeaning Meaning form_step statement_step arm_step expression_step a

-- Functions: each sees those before it.

abbrev pub function_after : List Binding → List Function → TypedFunction → Function
function_after witness before f = record {
  name = f.name;
  params = f.params;
  run = λ arguments. shaped (scope_of f.params arguments) (mean before witness f.body);
}

abbrev pub functions_after : List Binding → List Function → List TypedFunction → List Function
functions_after witness before [] = []
functions_after witness before (f ∷ fs) = let first = function_after witness before f in first ∷ functions_after witness (before ++ first ∷ []) fs

unfoldable pub functions_of : List Binding → List TypedFunction → List Function
functions_of witness fs = functions_after witness [] fs

-- the values of the parameters in one argument: none are the empty tuple, one is the argument itself, more are a tuple
abbrev pub in_argument : HlValue-F HlValue → Option (List HlValue)
in_argument (HlValue-F.Tuple vs) = Some vs
in_argument _ = None

abbrev pub parts_of : List TypedName → HlValue → Option (List HlValue)
parts_of (p ∷ []) v = Some (v ∷ [])
parts_of params v = in_argument (out-HlValue v)

-- what the function of a name gives for an argument, with values for the names of witnesses
unfoldable pub meaning : List TypedFunction → List ℕ → List Binding → HlValue → Answer HlValue
meaning fs name witness argument =
    shaped (find (λ f. bytes_eq name f.name) (functions_of witness fs)) (λ f. shaped (parts_of f.params argument) f.run)
