-- The term of a typed expression in a scope, by the form of the expression: what each construct of the language becomes.
use Rattle.std.specs.Prelude.{ℕ, suc, zero, ◌^◌, Bool, true, false, nat_lt, List, [], ◌∷◌, length, map, take, drop, bytes_eq, find, Option, Some, None, option_map, option_and_then, if◌then◌else◌}
use Rattle.std.specs.List.{position_or_len}
use Rattle.hl_data.specs.declared.typed.TypedArm.{TypedArm}
use Rattle.hl_data.specs.declared.typed.TypedExpr.{TypedExpr}
use Rattle.hl_data.specs.declared.typed.TypedForm.TheFolds.{fold-TypedExpr, fold-TypedStatement, fold-TypedArm}
use Rattle.hl_data.specs.declared.typed.TypedForm.TheOpen.{TypedForm-F, TypedStatement-F, TypedArm-F, TypedExpr-F}
use Rattle.hl_data.specs.declared.typed.TypedSide.{TypedSide}
use Rattle.hl_data.specs.declared.typed.TypedSide.TheVariants as sides
use Rattle.hl_data.specs.declared.typed.TypedStatement.{TypedStatement}
use Rattle.hl_data.specs.declared.value.HlValue.{HlValue}
use Rattle.hl_data.specs.declared.value.HlValue.TheOpen.{HlValue-F}
use Rattle.hl_data.specs.declared.value.HlValue.TheFolds.{fold-HlValue}
use Rattle.hl_syntax.specs.declared.kinds.HlType.{HlType}
use Rattle.hl_syntax.specs.declared.kinds.HlType.TheOpen.{HlType-F}
use Rattle.hl_syntax.specs.declared.kinds.HlType.TheViews.{out-HlType}
use Rattle.hl_syntax.specs.declared.kinds.TypedName.{TypedName}
use Rattle.simplicity.specs.Arrows.{target}
use Rattle.simplicity.specs.Canon.{Declared}
use Rattle.simplicity.specs.Makes.{iden, unit, comp, pair, on_first, on_second, to_left, to_right, by_tag, fail, only_left, only_right, word, witness, tuple}
use Rattle.simplicity.specs.Tuples.{copies_kind}
use Rattle.simplicity.specs.Types.{Kind, One, Product}
use Rattle.simplicity.specs.Widths.{level_of}
use Rattle.simplicityhl.specs.Kinds.{form, bound_level}
use Rattle.simplicityhl.specs.Tokens.{decimal_value}
use Rattle.hl_meaning.specs.Literals.{literal_value}
use Rattle.hl_meaning.specs.Mean.{counter_width}
use Rattle.hl_terms.specs.Shapes.{Shape, Ignored, Both, kind_of, pattern_shape}
use Rattle.hl_terms.specs.Paths.{variable_term, witness_term}

-- what jets and loops become: the term of a jet by its name, and of a loop by the term of its function and by its count, bound or width
pub record Expansions : Type 0 where
  pub jet : List ℕ → Option Declared
  pub array_fold : Declared → ℕ → Declared
  pub list_fold : Declared → ℕ → Declared
  pub for_while : Declared → ℕ → Declared

-- a function: its parameters and its term
pub record FunctionTerm : Type 0 where
  pub name : List ℕ
  pub params : List TypedName
  pub term : Declared

-- an expression's term in a scope
abbrev pub Translator : Type 0
Translator = Shape → Declared

-- what is there, or failure
abbrev pub or_fail : Option Declared → Kind → Kind → Declared
or_fail (Some t) a b = t
or_fail None a b = fail a b

-- Values. Each term is on inputs of a type `a`.

-- `false`, `None` and `Left`; `true`, `Some` and `Right`
abbrev pub false_term : Kind → Declared
false_term a = to_left One (unit a)

abbrev pub true_term : Kind → Declared
true_term a = to_right One (unit a)

abbrev pub word_term : Kind → (width number : ℕ) → Declared
word_term a width number = comp (unit a) (word (level_of width) number)

-- a list whose bound has a level: where there are as many items as half the bound, the first of them as a block; then the rest at
-- half the bound
abbrev pub list_term : Kind → Kind → ℕ → List Declared → Declared
list_term a item zero [] = to_left item (unit a)
list_term a item zero (t ∷ ts) = to_right One t
list_term a item (suc level) ts =
    if nat_lt (length ts) (2 ^ suc level) then pair (to_left (copies_kind (2 ^ suc level) item) (unit a)) (list_term a item level ts)
    else pair (to_right One (tuple a (take (2 ^ suc level) ts))) (list_term a item level (drop (2 ^ suc level) ts))

-- at a type of another shape than the construct's there is only failure
abbrev pub list_at : HlType-F HlType → Kind → List Declared → Declared
list_at (HlType-F.List item bound) a ts = list_term a (form item) (bound_level bound) ts
list_at _ a ts = fail a One

abbrev pub literal_at : HlType-F HlType → Kind → List ℕ → Declared
literal_at (HlType-F.UInt width) a text = word_term a width (literal_value text)
literal_at _ a text = fail a One

-- the core types of what an Option or an Either holds
abbrev pub item_of : HlType-F HlType → Kind
item_of (HlType-F.Option item) = form item
item_of _ = One

abbrev pub left_of : HlType-F HlType → Kind
left_of (HlType-F.Either left right) = form left
left_of _ = One

abbrev pub right_of : HlType-F HlType → Kind
right_of (HlType-F.Either left right) = form right
right_of _ = One

-- the term of a value that is given, at a type
abbrev pub ValueTerm : Type 0
ValueTerm = HlType → Kind → Declared

abbrev pub each_value : List ValueTerm → List HlType → Kind → List Declared
each_value (v ∷ vs) (k ∷ ks) a = v k a ∷ each_value vs ks a
each_value _ _ a = []

abbrev pub all_values : List ValueTerm → HlType → Kind → List Declared
all_values vs k a = map (λ v. v k a) vs

abbrev pub value_at : HlValue-F ValueTerm → HlType-F HlType → Kind → Declared
value_at (HlValue-F.Bool false) k a = false_term a
value_at (HlValue-F.Bool true) k a = true_term a
value_at (HlValue-F.Number u) k a = word_term a u.width u.number
value_at (HlValue-F.Tuple vs) (HlType-F.Tuple ks) a = tuple a (each_value vs ks a)
value_at (HlValue-F.Array vs) (HlType-F.Array item count) a = tuple a (all_values vs item a)
value_at (HlValue-F.List vs) (HlType-F.List item bound) a = list_term a (form item) (bound_level bound) (all_values vs item a)
value_at HlValue-F.Nothing (HlType-F.Option item) a = to_left (form item) (unit a)
value_at (HlValue-F.Some v) (HlType-F.Option item) a = to_right One (v item a)
value_at (HlValue-F.Left v) (HlType-F.Either left right) a = to_left (form right) (v left a)
value_at (HlValue-F.Right v) (HlType-F.Either left right) a = to_right (form left) (v right a)
value_at _ k a = fail a One

abbrev pub value_term : HlValue → HlType → Kind → Declared
value_term v k a = fold-HlValue ValueTerm (λ x kind. value_at x (out-HlType kind)) v k a

-- Tests and parts. `e` is the term of the part, on inputs of the type `a`.

abbrev pub asserted : Declared → Kind → Declared
asserted e a = comp (pair e (unit a)) (only_right One One One (unit (Product One One)))

abbrev pub unwrapped_right : Kind → Kind → Declared → Kind → Declared
unwrapped_right l r e a = comp (pair e (unit a)) (only_right l r One (on_first One (iden r)))

abbrev pub unwrapped_left : Kind → Kind → Declared → Kind → Declared
unwrapped_left l r e a = comp (pair e (unit a)) (only_left l r One (on_first One (iden l)))

abbrev pub none_tested : Kind → Declared → Kind → Declared
none_tested item e a = comp (pair e (unit a)) (by_tag One item One (true_term (Product One One)) (false_term (Product item One)))

-- Matches.

-- what the side of an arm binds; a side without a pattern binds nothing in the value beside its tag
abbrev pub side_shape : TypedSide → Shape
side_shape (sides.Left p k) = pattern_shape p k
side_shape (sides.Right p k) = pattern_shape p k
side_shape (sides.Some p k) = pattern_shape p k
side_shape _ = Ignored One

-- the sides that take values whose tag is the left one
abbrev pub is_left : TypedSide → Bool
is_left (sides.Left p k) = true
is_left sides.Nothing = true
is_left sides.False = true
is_left _ = false

pub record ArmTranslator : Type 0 where
  pub side : TypedSide
  pub body : Translator

abbrev pub arm_term : ArmTranslator → Translator
arm_term arm scope = arm.body (Both (side_shape arm.side) scope)

abbrev pub sides_term : Declared → ArmTranslator → ArmTranslator → Translator
sides_term e left right scope =
    comp (pair e (iden (kind_of scope)))
    (by_tag (kind_of (side_shape left.side)) (kind_of (side_shape right.side)) (kind_of scope) (arm_term left scope) (arm_term right scope))

-- the arm of the left tag first, whichever stands first in the text
abbrev pub match_term : Declared → List ArmTranslator → HlType → Translator
match_term e (one ∷ two ∷ []) kind scope = if is_left one.side then sides_term e one two scope else sides_term e two one scope
match_term e _ kind scope = fail (kind_of scope) (form kind)

-- Blocks.

-- a statement: its value, and for a `let` what is bound before the scope of those after it
pub record StatementTranslator : Type 0 where
  pub value : Translator
  pub binds : Option Shape

-- the scope after a statement, and the term of its value before that of what comes after it
abbrev pub within : Option Shape → Shape → Shape
within (Some shape) scope = Both shape scope
within None scope = scope

abbrev pub before : Option Shape → Declared → Shape → Declared → Declared
before (Some shape) value scope rest = comp (pair value (iden (kind_of scope))) rest
before None value scope rest = comp (pair value rest) (on_second (target value) (iden (target rest)))

abbrev pub last_term : Option Translator → Translator
last_term None scope = unit (kind_of scope)
last_term (Some t) scope = t scope

abbrev pub block_term : List StatementTranslator → Option Translator → Translator
block_term [] last scope = last_term last scope
block_term (s ∷ ss) last scope = before s.binds (s.value scope) scope (block_term ss last (within s.binds scope))

-- Calls.

-- parts in one scope
abbrev pub each_in : List Translator → Shape → List Declared
each_in [] scope = []
each_in (t ∷ ts) scope = t scope ∷ each_in ts scope

-- the arguments and then what is called; a call of what isn't there fails
abbrev pub called : Option Declared → Declared → HlType → Declared
called found arguments kind = comp arguments (or_fail found (target arguments) (form kind))

-- the number of a witness: the place of its name
abbrev pub witness_number : List TypedName → List ℕ → ℕ
witness_number witnesses name = position_or_len (λ w. bytes_eq name w.name) witnesses

-- a witness that is bound is the path to it, and else the witness of its number
abbrev pub witness_or : Option Declared → Declared → Declared
witness_or (Some t) leaf = t
witness_or None leaf = leaf

-- Expressions, given the functions before and the names of the witnesses.

module _ (expansions : Expansions) (functions : List FunctionTerm) (witnesses : List TypedName) where
  abbrev pub function_named : List ℕ → Option FunctionTerm
  function_named name = find (λ f. bytes_eq name f.name) functions

  abbrev pub list_fold_of : List ℕ → ℕ → Option Declared
  list_fold_of name bound = option_map (λ f. expansions.list_fold f.term bound) (function_named name)

  abbrev pub array_fold_of : List ℕ → ℕ → Option Declared
  array_fold_of name count = option_map (λ f. expansions.array_fold f.term count) (function_named name)

  abbrev pub counting : FunctionTerm → Option Declared
  counting f = option_map (expansions.for_while f.term) (counter_width f.params)

  abbrev pub for_while_of : List ℕ → Option Declared
  for_while_of name = option_and_then counting (function_named name)

  abbrev pub form_step : TypedForm-F (HlType → Translator) StatementTranslator ArmTranslator Translator → HlType → Translator
  form_step (TypedForm-F.Block ss last) kind scope = block_term ss last scope
  form_step (TypedForm-F.Match e arms) kind scope = match_term (e scope) arms kind scope
  form_step (TypedForm-F.Tuple es) kind scope = tuple (kind_of scope) (each_in es scope)
  form_step (TypedForm-F.Array es) kind scope = tuple (kind_of scope) (each_in es scope)
  form_step (TypedForm-F.List es) kind scope = list_at (out-HlType kind) (kind_of scope) (each_in es scope)
  form_step (TypedForm-F.Assert e) kind scope = asserted (e scope) (kind_of scope)
  form_step (TypedForm-F.Dbg e) kind scope = e scope
  form_step TypedForm-F.Panic kind scope = fail (kind_of scope) (form kind)
  form_step (TypedForm-F.Jet name es) kind scope = called (expansions.jet name) (tuple (kind_of scope) (each_in es scope)) kind
  form_step (TypedForm-F.Witness name) kind scope =
      witness_or (witness_term name scope) (witness (kind_of scope) (form kind) (witness_number witnesses name))
  form_step (TypedForm-F.Value v) kind scope = value_term v kind (kind_of scope)
  form_step (TypedForm-F.Into from e) kind scope = e scope
  form_step (TypedForm-F.Unwrap e) kind scope = unwrapped_right One (form kind) (e scope) (kind_of scope)
  form_step (TypedForm-F.UnwrapLeft other e) kind scope = unwrapped_left (form kind) (form other) (e scope) (kind_of scope)
  form_step (TypedForm-F.UnwrapRight other e) kind scope = unwrapped_right (form other) (form kind) (e scope) (kind_of scope)
  form_step (TypedForm-F.IsNone item e) kind scope = none_tested (form item) (e scope) (kind_of scope)
  form_step (TypedForm-F.Fold name count items start) kind scope =
      called (list_fold_of name (decimal_value count)) (pair (items scope) (start scope)) kind
  form_step (TypedForm-F.ArrayFold name count items start) kind scope =
      called (array_fold_of name (decimal_value count)) (pair (items scope) (start scope)) kind
  form_step (TypedForm-F.ForWhile name start context) kind scope = called (for_while_of name) (pair (start scope) (context scope)) kind
  form_step (TypedForm-F.Left e) kind scope = to_left (right_of (out-HlType kind)) (e scope)
  form_step (TypedForm-F.Right e) kind scope = to_right (left_of (out-HlType kind)) (e scope)
  form_step (TypedForm-F.Some e) kind scope = to_right One (e scope)
  form_step TypedForm-F.Nothing kind scope = to_left (item_of (out-HlType kind)) (unit (kind_of scope))
  form_step TypedForm-F.True kind scope = true_term (kind_of scope)
  form_step TypedForm-F.False kind scope = false_term (kind_of scope)
  form_step (TypedForm-F.Literal text) kind scope = literal_at (out-HlType kind) (kind_of scope) text
  form_step (TypedForm-F.Call name es) kind scope =
      called (option_map (λ f. f.term) (function_named name)) (tuple (kind_of scope) (each_in es scope)) kind
  form_step (TypedForm-F.Name name) kind scope = or_fail (variable_term name scope) (kind_of scope) (form kind)

  abbrev pub statement_step : TypedStatement-F (HlType → Translator) StatementTranslator ArmTranslator Translator → StatementTranslator
  statement_step (TypedStatement-F.Let pattern kind e) = record { value = e; binds = Some (pattern_shape pattern kind) }
  statement_step (TypedStatement-F.Plain e) = record { value = e; binds = None }

  abbrev pub arm_step : TypedArm-F (HlType → Translator) StatementTranslator ArmTranslator Translator → ArmTranslator
  arm_step arm = record { side = arm.side; body = arm.body }

  abbrev pub expression_step : TypedExpr-F (HlType → Translator) StatementTranslator ArmTranslator Translator → Translator
  expression_step e = e.form e.kind

  -- an expression
  unfoldable pub translated : TypedExpr → Translator
  translated e = fold-TypedExpr (HlType → Translator) StatementTranslator ArmTranslator Translator form_step statement_step arm_step expression_step e

  -- a statement, and an arm
  unfoldable pub statement_translated : TypedStatement → StatementTranslator
  statement_translated s = fold-TypedStatement (HlType → Translator) StatementTranslator ArmTranslator Translator form_step statement_step arm_step expression_step s

  unfoldable pub arm_translated : TypedArm → ArmTranslator
  arm_translated a = fold-TypedArm (HlType → Translator) StatementTranslator ArmTranslator Translator form_step statement_step arm_step expression_step a
