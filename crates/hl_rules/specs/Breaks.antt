-- What a program breaks: a constructor for each line of the table of rules and limits, at the place that breaks it, with the span that is named.
use Rattle.std.specs.Prelude.{Bool, ◌≡◌, ◌≢◌, ℕ, ◌^◌, ◌<◌, ◌≤◌, not, false, true, List, [], ◌∷◌, ◌++◌, length, map, Option, Some, None, Ok, Err, IsTrue}
use Rattle.hl_syntax.specs.declared.kinds.HlType.{HlType}
use Rattle.hl_syntax.specs.declared.kinds.HlType.TheVariants as kind
use Rattle.hl_syntax.specs.declared.kinds.TypedName.{TypedName}
use Rattle.hl_syntax.specs.declared.rules.Limit.TheVariants.{L4, L5}
use Rattle.hl_syntax.specs.declared.rules.Rule.TheVariants.{K1, K2, K3, K4, K5, K6, K7, K8, K9, K10, K11, K12, K13, K14, K15, K16, K17, K18, K19, K20, K21, K22, K23, K24}
use Rattle.hl_syntax.specs.declared.token.Mark.{Mark}
use Rattle.hl_syntax.specs.declared.token.Span.{Span}
use Rattle.hl_syntax.specs.declared.tree.Arm.{Arm}
use Rattle.hl_syntax.specs.declared.tree.Expr.{Expr}
use Rattle.hl_syntax.specs.declared.tree.ExprForm.{ExprForm}
use Rattle.hl_syntax.specs.declared.tree.ExprForm.TheVariants as exprs
use Rattle.hl_syntax.specs.declared.tree.Item.{Item}
use Rattle.hl_syntax.specs.declared.tree.Item.TheVariants as items
use Rattle.hl_syntax.specs.declared.tree.Param.{Param}
use Rattle.hl_syntax.specs.declared.tree.Pattern.{Pattern}
use Rattle.hl_syntax.specs.declared.tree.PatternForm.TheVariants as patterns
use Rattle.hl_syntax.specs.declared.tree.Statement.{Statement}
use Rattle.hl_syntax.specs.declared.tree.TypeForm.{TypeForm}
use Rattle.hl_syntax.specs.declared.tree.TypeForm.TheFolds.{fold-TypeForm}
use Rattle.hl_syntax.specs.declared.tree.TypeForm.TheVariants as types
use Rattle.hl_syntax.specs.declared.tree.TypeText.{TypeText}
use Rattle.hl_data.specs.declared.value.Entry.{Entry}
use Rattle.jets.specs.Jet.{Row}
use Rattle.simplicity.specs.Limits.{most_weight}
use Rattle.simplicity.specs.Types.{weight}
use Rattle.simplicityhl.specs.Grammar.{is_among}
use Rattle.simplicityhl.specs.Kinds.{form, is_bound}
use Rattle.simplicityhl.specs.Tokens.{decimal_value}
use Rattle.simplicityhl.specs.Written.{Broken, breaks_rule, breaks_limit, Walked, walk, walk_step, then_walk, light, named}
use Rattle.hl_meaning.specs.Literals.{literal_value}
use Rattle.hl_rules.specs.Before.{Signature, Declare, Holds, has_signature, signature_named}
use Rattle.hl_rules.specs.Declared.{result_walk}
use Rattle.hl_rules.specs.Exprs.{are_sides, jet_named, jet_arguments, jet_result, fold_shape, while_shape}
use Rattle.hl_rules.specs.Names.{is_reserved, alias_words, function_words, variable_words}
use Rattle.hl_rules.specs.Occurs.{Place, Occurs, types_of}
use Rattle.hl_rules.specs.Written.{IsWritten, IsMatched}
use Rattle.hl_rules.specs.Places.{has_name, variable_type, entry_named, is_main}
use Rattle.hl_rules.specs.Programs.{checked}
use Rattle.hl_rules.specs.Same.{same_type, unit_type, width_of, parts_of, array_of, list_of, option_of, either_of}
use Rattle.hl_rules.specs.Witnesses.{Names}

-- a form calls a function of a name, or goes through it in a loop
pub data Calls : ExprForm → Mark → Type 0 where
  by_call : (name : Mark) (arguments : List Expr) → Calls (exprs.Call name arguments) name
  by_fold : (name count : Mark) (items total : Expr) → Calls (exprs.Fold name count items total) name
  by_array_fold : (name count : Mark) (items total : Expr) → Calls (exprs.ArrayFold name count items total) name
  by_for_while : (name : Mark) (total context : Expr) → Calls (exprs.ForWhile name total context) name

-- the type that a form has of itself, whatever is expected
pub data HasType (at : Place) : ExprForm → HlType → Type 0 where
  no_last : (before : List Statement) → HasType at (exprs.Block before None) unit_type
  asserted : (e : Expr) → HasType at (exprs.Assert e) unit_type
  truth : HasType at exprs.True kind.Bool
  falsehood : HasType at exprs.False kind.Bool
  tested : (text : TypeText) (e : Expr) (item : HlType) → walk at.aliases text ≡ Ok item → HasType at (exprs.IsNone text e) kind.Bool
  variable : (name : List ℕ) (known : HlType) → variable_type at.scope name ≡ Some known → HasType at (exprs.Name name) known
  from_jet : (name : Mark) (arguments : List Expr) (row : Row) → jet_named name.text ≡ Some row → HasType at (exprs.Jet name arguments) (jet_result row)
  from_function : (form : ExprForm) (name : Mark) (f : Signature) → Calls form name → signature_named at.functions name.text ≡ Some f → HasType at form f.result

-- an expression isn't of the expected type itself, whatever its parts are
pub data Misfits (at : Place) : ExprForm → Type 0 where
  other_type : (form : ExprForm) (known : HlType) → HasType at form known → IsTrue (not (same_type known at.expected)) → Misfits at form
  no_number : (word : List ℕ) → width_of at.expected ≡ None → Misfits at (exprs.Literal word)
  no_tuple : (parts : List Expr) → parts_of at.expected ≡ None → Misfits at (exprs.Tuple parts)
  no_array : (parts : List Expr) → array_of at.expected ≡ None → Misfits at (exprs.Array parts)
  no_list : (parts : List Expr) → list_of at.expected ≡ None → Misfits at (exprs.List parts)
  no_option_some : (e : Expr) → option_of at.expected ≡ None → Misfits at (exprs.Some e)
  no_option_none : option_of at.expected ≡ None → Misfits at exprs.Nothing
  no_either_left : (e : Expr) → either_of at.expected ≡ None → Misfits at (exprs.Left e)
  no_either_right : (e : Expr) → either_of at.expected ≡ None → Misfits at (exprs.Right e)

-- a form counts by a number
pub data Counts : ExprForm → Mark → Type 0 where
  fold_counts : (name count : Mark) (items total : Expr) → Counts (exprs.Fold name count items total) count
  array_fold_counts : (name count : Mark) (items total : Expr) → Counts (exprs.ArrayFold name count items total) count

-- a written type counts by a number: an array's length, or a list's bound
pub data HasCount : TypeForm → Mark → Type 0 where
  array_length : (item : TypeText) (length : Mark) → HasCount (types.Array item length) length
  list_bound : (item : TypeText) (bound : Mark) → HasCount (types.List item bound) bound

-- a loop's function hasn't the loop's shape
pub data IsShapeless : ExprForm → Mark → List HlType → HlType → Type 0 where
  no_fold : (name count : Mark) (items total : Expr) (params : List HlType) (result : HlType) → fold_shape params result ≡ None → IsShapeless (exprs.Fold name count items total) name params result
  no_array_fold : (name count : Mark) (items total : Expr) (params : List HlType) (result : HlType) → fold_shape params result ≡ None → IsShapeless (exprs.ArrayFold name count items total) name params result
  no_while : (name : Mark) (total context : Expr) (params : List HlType) (result : HlType) → while_shape params result ≡ None → IsShapeless (exprs.ForWhile name total context) name params result

-- whether a match has two sides that go together
abbrev pub are_arms : List Arm → Bool
are_arms (one ∷ two ∷ []) = are_sides one.side two.side
are_arms _ = false

-- the type of a form of a written type, all of whose parts keep to the limits
abbrev pub made_type : List TypedName → TypeForm → Span → Walked
made_type aliases form span = fold-TypeForm (Span → Walked) Walked (walk_step aliases) (λ t. then_walk (t.form t.span) (light t.span)) form span

pub data Breaks (program : List Item) (asked : List ℕ) (entries : List Entry) (edition end : ℕ) : Broken → Type 0 where
  -- K1: a second function, or a second alias, has the name
  k1_function : (name : Mark) (params : List Param) (text : Option TypeText) (e : Expr) (span : Span) (aliases : List TypedName) (functions : List Signature) →
      Holds program (items.Function name params text e span) aliases functions → IsTrue (has_signature functions name.text) → Breaks program asked entries edition end (breaks_rule K1 name.span)
  k1_alias : (name : Mark) (text : TypeText) (span : Span) (aliases : List TypedName) (functions : List Signature) →
      Holds program (items.Alias name text span) aliases functions → IsTrue (has_name aliases name.text) → Breaks program asked entries edition end (breaks_rule K1 name.span)
  -- K2: a type name is none of bool, the numbers' types and the aliases before
  k2 : (aliases : List TypedName) (name : List ℕ) (span : Span) → IsWritten program aliases (types.Name name) span → named aliases name ≡ None → Breaks program asked entries edition end (breaks_rule K2 span)
  -- K3: no function before has the name
  k3 : (at : Place) (form : ExprForm) (span : Span) (name : Mark) → Occurs program at form span → Calls form name → signature_named at.functions name.text ≡ None →
      Breaks program asked entries edition end (breaks_rule K3 name.span)
  -- K4: no variable in scope has the name
  k4 : (at : Place) (name : List ℕ) (span : Span) → Occurs program at (exprs.Name name) span → variable_type at.scope name ≡ None → Breaks program asked entries edition end (breaks_rule K4 span)
  -- K5: a name stands twice in one pattern, or in the parameters
  k5_pattern : (name : List ℕ) (span : Span) (kind : HlType) (before : Names) → IsMatched program (patterns.Name name) span kind before → IsTrue (is_among before name) →
      Breaks program asked entries edition end (breaks_rule K5 span)
  k5_param : (name : Mark) (before after : List Param) (param : Param) (text : Option TypeText) (e : Expr) (span : Span) (aliases : List TypedName) (functions : List Signature) →
      Holds program (items.Function name (before ++ param ∷ after) text e span) aliases functions → IsTrue (is_among (map (λ p. p.name.text) before) param.name.text) →
      Breaks program asked entries edition end (breaks_rule K5 param.name.span)
  -- K6: an expression or pattern doesn't have the expected type
  k6 : (at : Place) (form : ExprForm) (span : Span) → Occurs program at form span → Misfits at form → at.stands_alone ≡ false → Breaks program asked entries edition end (breaks_rule K6 span)
  k6_tuple_pattern : (parts : List Pattern) (span : Span) (kind : HlType) (before : Names) → IsMatched program (patterns.Tuple parts) span kind before → parts_of kind ≡ None →
      Breaks program asked entries edition end (breaks_rule K6 span)
  k6_array_pattern : (parts : List Pattern) (span : Span) (kind : HlType) (before : Names) → IsMatched program (patterns.Array parts) span kind before → array_of kind ≡ None →
      Breaks program asked entries edition end (breaks_rule K6 span)
  -- K7: a literal is too large for its type
  k7 : (at : Place) (word : List ℕ) (span : Span) (width : ℕ) → Occurs program at (exprs.Literal word) span → width_of at.expected ≡ Some width → 2 ^ width ≤ literal_value word →
      Breaks program asked entries edition end (breaks_rule K7 span)
  -- K8: a tuple or array has another count than its type
  k8_tuple : (at : Place) (parts : List Expr) (span : Span) (kinds : List HlType) → Occurs program at (exprs.Tuple parts) span → parts_of at.expected ≡ Some kinds → length parts ≢ length kinds →
      Breaks program asked entries edition end (breaks_rule K8 span)
  k8_array : (at : Place) (parts : List Expr) (span : Span) (item : HlType) (count : ℕ) → Occurs program at (exprs.Array parts) span → array_of at.expected ≡ Some (item, count) → length parts ≢ count →
      Breaks program asked entries edition end (breaks_rule K8 span)
  k8_tuple_pattern : (parts : List Pattern) (span : Span) (kind : HlType) (before : Names) (kinds : List HlType) → IsMatched program (patterns.Tuple parts) span kind before → parts_of kind ≡ Some kinds →
      length parts ≢ length kinds → Breaks program asked entries edition end (breaks_rule K8 span)
  k8_array_pattern : (parts : List Pattern) (span : Span) (kind : HlType) (before : Names) (item : HlType) (count : ℕ) → IsMatched program (patterns.Array parts) span kind before →
      array_of kind ≡ Some (item, count) → length parts ≢ count → Breaks program asked entries edition end (breaks_rule K8 span)
  -- K9: a list has as many items as its bound, or more
  k9 : (at : Place) (parts : List Expr) (span : Span) (item : HlType) (bound : ℕ) → Occurs program at (exprs.List parts) span → list_of at.expected ≡ Some (item, bound) → bound ≤ length parts →
      Breaks program asked entries edition end (breaks_rule K9 span)
  -- K10: a list bound is no power of two from 2 up
  k10 : (aliases : List TypedName) (item : TypeText) (bound : Mark) (span : Span) → IsWritten program aliases (types.List item bound) span → IsTrue (not (is_bound (decimal_value bound.text))) →
      Breaks program asked entries edition end (breaks_rule K10 bound.span)
  -- K11: a call or jet has another number of arguments
  k11_call : (at : Place) (name : Mark) (arguments : List Expr) (span : Span) (f : Signature) → Occurs program at (exprs.Call name arguments) span → signature_named at.functions name.text ≡ Some f →
      length arguments ≢ length f.params → Breaks program asked entries edition end (breaks_rule K11 span)
  k11_jet : (at : Place) (name : Mark) (arguments : List Expr) (span : Span) (row : Row) → Occurs program at (exprs.Jet name arguments) span → jet_named name.text ≡ Some row →
      length arguments ≢ length (jet_arguments row) → Breaks program asked entries edition end (breaks_rule K11 span)
  -- K12: the forms of a conversion differ
  k12 : (at : Place) (text : TypeText) (e : Expr) (span : Span) (source : HlType) → Occurs program at (exprs.Into text e) span → walk at.aliases text ≡ Ok source → form source ≢ form at.expected →
      Breaks program asked entries edition end (breaks_rule K12 span)
  -- K13: the sides of a match are not Left and Right, None and Some, or false and true, each once
  k13 : (at : Place) (e : Expr) (arms : List Arm) (span : Span) → Occurs program at (exprs.Match e arms) span → IsTrue (not (are_arms arms)) → Breaks program asked entries edition end (breaks_rule K13 span)
  -- K14: a loop's function has not the loop's shape
  k14 : (at : Place) (form : ExprForm) (span : Span) (name : Mark) (f : Signature) → Occurs program at form span → signature_named at.functions name.text ≡ Some f →
      IsShapeless form name (types_of f) f.result → Breaks program asked entries edition end (breaks_rule K14 name.span)
  -- K15: the count of a fold is no power of two from 2 up
  k15 : (at : Place) (name count : Mark) (items total : Expr) (span : Span) → Occurs program at (exprs.Fold name count items total) span → IsTrue (not (is_bound (decimal_value count.text))) →
      Breaks program asked entries edition end (breaks_rule K15 count.span)
  -- K16: a witness stands outside `main`
  k16 : (at : Place) (name : Mark) (span : Span) → Occurs program at (exprs.Witness name) span → at.in_main ≡ false → Breaks program asked entries edition end (breaks_rule K16 name.span)
  -- K17: in edition 1 a witness name stands a second time
  k17 : (at : Place) (name : Mark) (span : Span) → edition ≢ 2 → Occurs program at (exprs.Witness name) span →
      IsTrue (is_among at.witnesses name.text) → Breaks program asked entries edition end (breaks_rule K17 name.span)
  -- in edition 2 it stands again where another type than at its first place is expected
  k17_type : (first at : Place) (here name : Mark) (stands span : Span) → edition ≡ 2 →
      Occurs program first (exprs.Witness here) stands → here.text ≡ name.text → is_among first.witnesses name.text ≡ false →
      Occurs program at (exprs.Witness name) span → IsTrue (is_among at.witnesses name.text) →
      IsTrue (not (same_type first.expected at.expected)) → Breaks program asked entries edition end (breaks_rule K17 name.span)
  -- K18: no entry has the name of a parameter of the program
  k18 : (at : Place) (name : Mark) (span : Span) → Occurs program at (exprs.Param name) span → entry_named entries name.text ≡ None → Breaks program asked entries edition end (breaks_rule K18 name.span)
  -- K19: the entry's type is not the expected type
  k19 : (at : Place) (name : Mark) (span : Span) (entry : Entry) → Occurs program at (exprs.Param name) span → entry_named entries name.text ≡ Some entry →
      IsTrue (not (same_type entry.kind at.expected)) → Breaks program asked entries edition end (breaks_rule K19 name.span)
  -- K20: no function has the name that was asked for
  k20 : (aliases : List TypedName) (functions : List Signature) → Declare program aliases functions → IsTrue (not (has_signature functions asked)) →
      Breaks program asked entries edition end (breaks_rule K20 (record { start = end; end = end }))
  -- K21: `main` has parameters, or a result other than `()`
  k21_params : (name : Mark) (params : List Param) (text : Option TypeText) (e : Expr) (span : Span) (aliases : List TypedName) (functions : List Signature) →
      Holds program (items.Function name params text e span) aliases functions → IsTrue (is_main name.text) → params ≢ [] → Breaks program asked entries edition end (breaks_rule K21 name.span)
  k21_result : (name : Mark) (params : List Param) (text : Option TypeText) (e : Expr) (span : Span) (aliases : List TypedName) (functions : List Signature) (result : HlType) →
      Holds program (items.Function name params text e span) aliases functions → IsTrue (is_main name.text) → result_walk aliases text ≡ Ok result →
      IsTrue (not (same_type unit_type result)) → Breaks program asked entries edition end (breaks_rule K21 name.span)
  -- K22: no jet has the name
  k22 : (at : Place) (name : Mark) (arguments : List Expr) (span : Span) → Occurs program at (exprs.Jet name arguments) span → jet_named name.text ≡ None →
      Breaks program asked entries edition end (breaks_rule K22 name.span)
  -- K23: K6 would name the whole expression of a statement that is no `let`
  k23 : (at : Place) (form : ExprForm) (span : Span) → Occurs program at form span → Misfits at form → at.stands_alone ≡ true → Breaks program asked entries edition end (breaks_rule K23 span)
  -- K24: a reserved name is declared
  k24_alias : (name : Mark) (text : TypeText) (span : Span) (aliases : List TypedName) (functions : List Signature) →
      Holds program (items.Alias name text span) aliases functions → IsTrue (is_reserved alias_words name.text) → Breaks program asked entries edition end (breaks_rule K24 name.span)
  k24_function : (name : Mark) (params : List Param) (text : Option TypeText) (e : Expr) (span : Span) (aliases : List TypedName) (functions : List Signature) →
      Holds program (items.Function name params text e span) aliases functions → IsTrue (is_reserved function_words name.text) → Breaks program asked entries edition end (breaks_rule K24 name.span)
  k24_param : (name : Mark) (before after : List Param) (param : Param) (text : Option TypeText) (e : Expr) (span : Span) (aliases : List TypedName) (functions : List Signature) →
      Holds program (items.Function name (before ++ param ∷ after) text e span) aliases functions → IsTrue (is_reserved variable_words param.name.text) →
      Breaks program asked entries edition end (breaks_rule K24 param.name.span)
  k24_pattern : (name : List ℕ) (span : Span) (kind : HlType) (before : Names) → IsMatched program (patterns.Name name) span kind before → IsTrue (is_reserved variable_words name) →
      Breaks program asked entries edition end (breaks_rule K24 span)
  -- L4: an array's length, a list's bound or a fold's count is greater than 65,536
  l4_type : (aliases : List TypedName) (form : TypeForm) (span : Span) (count : Mark) → IsWritten program aliases form span → HasCount form count → 65536 < decimal_value count.text →
      Breaks program asked entries edition end (breaks_limit L4 count.span)
  l4_fold : (at : Place) (form : ExprForm) (span : Span) (count : Mark) → Occurs program at form span → Counts form count → 65536 < decimal_value count.text →
      Breaks program asked entries edition end (breaks_limit L4 count.span)
  -- L5: the form of a written type has more than 4,194,304 nodes
  l5 : (aliases : List TypedName) (text : TypeForm) (span : Span) (kind : HlType) → IsWritten program aliases text span → made_type aliases text span ≡ Ok kind → most_weight < weight (form kind) →
      Breaks program asked entries edition end (breaks_limit L5 span)

-- what the walk finds first is broken
abbrev pub AnsweredIsBroken : Type 0
AnsweredIsBroken =
    (program : List Item) (asked : List ℕ) (entries : List Entry) (edition end : ℕ) (broken : Broken) →
    checked program asked entries edition end ≡ Err broken → Breaks program asked entries edition end broken
