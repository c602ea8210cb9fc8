-- What aliases and the heads of functions declare.
use Rattle.std.specs.Prelude.{ℕ, Bool, true, false, not, List, [], ◌∷◌, ◌++◌, bytes_eq, Option, Some, None, Ok, if◌then◌else◌}
use Rattle.std.specs.List.{list_any}
use Rattle.hl_syntax.specs.declared.kinds.HlType.{HlType}
use Rattle.hl_syntax.specs.declared.kinds.TypedName.{TypedName}
use Rattle.hl_syntax.specs.declared.rules.Rule.TheVariants.{K1, K5, K21, K24}
use Rattle.hl_syntax.specs.declared.token.Mark.{Mark}
use Rattle.hl_syntax.specs.declared.tree.Param.{Param}
use Rattle.hl_syntax.specs.declared.tree.TypeText.{TypeText}
use Rattle.hl_data.specs.declared.typed.TypedFunction.{TypedFunction}
use Rattle.simplicityhl.specs.Written.{walk}
use Rattle.hl_rules.specs.Names.{is_reserved, alias_words, function_words, variable_words}
use Rattle.hl_rules.specs.Places.{has_name, is_main}
use Rattle.hl_rules.specs.Same.{same_type, unit_type}
use Rattle.hl_rules.specs.Steps.{Step, ◌>>=◌, ◌>>◌, needs}

abbrev pub has_function : List TypedFunction → List ℕ → Bool
has_function functions name = list_any (λ f. bytes_eq name f.name) functions

-- the aliases with one more
abbrev pub alias_walk : List TypedName → Mark → TypeText → Step (List TypedName)
alias_walk aliases name text = do
  needs (not (is_reserved alias_words name.text)) K24 name.span
  needs (not (has_name aliases name.text)) K1 name.span
  kind ← walk aliases text
  Ok (aliases ++ record { name = name.text; kind = kind } ∷ [])

-- a parameter with its type, after those that were met before
abbrev pub param_walk : List TypedName → Param → List TypedName → Step (List TypedName)
param_walk aliases param met = do
  needs (not (is_reserved variable_words param.name.text)) K24 param.name.span
  needs (not (has_name met param.name.text)) K5 param.name.span
  kind ← walk aliases param.kind
  Ok (met ++ record { name = param.name.text; kind = kind } ∷ [])

-- parameters, one after the other
abbrev pub params_walk : List TypedName → List Param → List TypedName → Step (List TypedName)
params_walk aliases [] met = Ok met
params_walk aliases (param ∷ params) met = do
  more ← param_walk aliases param met
  params_walk aliases params more

-- a result that is left out is `()`
abbrev pub result_walk : List TypedName → Option TypeText → Step HlType
result_walk aliases None = Ok unit_type
result_walk aliases (Some text) = walk aliases text

abbrev pub is_empty : List TypedName → Bool
is_empty [] = true
is_empty (p ∷ ps) = false

-- whether a function may be called so: `main` has no parameters and the result `()`
abbrev pub may_be : List ℕ → List TypedName → HlType → Bool
may_be name params result = if is_main name then (if is_empty params then same_type unit_type result else false) else true

-- what a function's head declares
pub record Head : Type 0 where
  pub params : List TypedName
  pub result : HlType

abbrev pub head_walk : List TypedName → List TypedFunction → Mark → List Param → Option TypeText → Step Head
head_walk aliases functions name params text = do
  needs (not (is_reserved function_words name.text)) K24 name.span
  needs (not (has_function functions name.text)) K1 name.span
  known ← params_walk aliases params []
  result ← result_walk aliases text
  needs (may_be name.text known result) K21 name.span
  Ok (record { params = known; result = result })
