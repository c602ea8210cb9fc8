-- What is known up to a place of a text.
use Rattle.std.specs.Prelude.{List, [], ◌∷◌, ◌++◌, Option}
use Rattle.std.specs.List.{All}
use Rattle.hl_data.specs.declared.typed.TypedExpr.{TypedExpr}
use Rattle.hl_data.specs.declared.typed.TypedFunction.{TypedFunction}
use Rattle.hl_syntax.specs.declared.kinds.HlType.{HlType}
use Rattle.hl_syntax.specs.declared.kinds.TypedName.{TypedName}
use Rattle.hl_syntax.specs.declared.rules.Rule.TheVariants.{K6}
use Rattle.hl_syntax.specs.declared.token.Mark.{Mark}
use Rattle.hl_syntax.specs.declared.tree.Expr.{Expr}
use Rattle.hl_syntax.specs.declared.tree.Item.{Item}
use Rattle.hl_syntax.specs.declared.tree.Param.{Param}
use Rattle.hl_syntax.specs.declared.tree.TypeText.{TypeText}
use Rattle.hl_rules.specs.Declared.{alias_walk}
use Rattle.hl_rules.specs.Exprs.{expr_walk}
use Rattle.hl_rules.specs.Walks.{Walk, ◌>>=◌, done, plain}
use Rattle.hl_types.specs.Walks.{AreSound}
use Rattle.hl_rules.specs.Programs.{Known, function_walk, item_walk, items_walk}
use Rattle.hl_rules.specs.Steps.{Step}
use Rattle.hl_scope.specs.Contexts.{IsSoundFunction, context_of}
use Rattle.hl_check.specs.declared.program.Setting.{Setting}
use Rattle.hl_check.specs.declared.program.Walked.{Walked}

-- what is known at this place, and with the witnesses that were met
abbrev pub known_of : Walked → Known
known_of w = record { aliases = w.aliases; functions = w.functions }

abbrev pub walked_of : Walked → Known × List TypedName
walked_of w = (known_of w, w.met)

abbrev pub nothing_known : Known
nothing_known = record { aliases = []; functions = [] }

-- what is known with one more function
abbrev pub and_function : Known → TypedFunction → Known
and_function known f = record { aliases = known.aliases; functions = known.functions ++ f ∷ [] }

-- the walk of a function after what was walked, of its body with these parameters at the result's type, of an item, and of all items
abbrev pub function_after : Setting → Walked → Mark → List Param → Option TypeText → Expr → Step (TypedFunction × List TypedName)
function_after s w name params text e = function_walk s.entries.now s.edition (known_of w) name params text e w.met

abbrev pub body_after : Setting → Walked → Mark → List TypedName → HlType → Expr → Step (TypedExpr × List TypedName)
body_after s w name params result e = expr_walk (context_of w.aliases w.functions s.entries.now s.edition name.text) e params result K6 w.met

abbrev pub item_after : Setting → Walked → Item → Step (Known × List TypedName)
item_after s w item = item_walk s.entries.now s.edition (known_of w) item w.met

abbrev pub items_of : Setting → List Item → Step (Known × List TypedName)
items_of s items = items_walk s.entries.now s.edition nothing_known items []

-- the types of its aliases and functions are sound
pub record IsSoundKnown (known : Known) : Type 0 where
  pub aliases : AreSound known.aliases
  pub functions : All IsSoundFunction known.functions

-- what is known after an alias
abbrev pub alias_known : Known → Mark → TypeText → Walk Known
alias_known known name text = do
  aliases ← plain (alias_walk known.aliases name text)
  done (record { aliases = aliases; functions = known.functions })
