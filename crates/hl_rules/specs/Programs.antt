-- Programs: the first rule or limit that a source text breaks, or its functions with their types and its witnesses.
use Rattle.std.specs.Prelude.{ℕ, List, [], ◌∷◌, ◌++◌, Option, Some, None, Result, Ok, Err}
use Rattle.hl_syntax.specs.declared.kinds.TypedName.{TypedName}
use Rattle.hl_syntax.specs.declared.rules.Rule.TheVariants.{K6, K20}
use Rattle.hl_syntax.specs.declared.token.Mark.{Mark}
use Rattle.hl_syntax.specs.declared.tree.Expr.{Expr}
use Rattle.hl_syntax.specs.declared.tree.Item.{Item}
use Rattle.hl_syntax.specs.declared.tree.Item.TheVariants as items
use Rattle.hl_syntax.specs.declared.tree.Param.{Param}
use Rattle.hl_syntax.specs.declared.tree.TypeText.{TypeText}
use Rattle.hl_data.specs.declared.typed.TypedFunction.{TypedFunction}
use Rattle.hl_data.specs.declared.value.Entry.{Entry}
use Rattle.simplicityhl.specs.Written.{Broken}
use Rattle.hl_rules.specs.Declared.{alias_walk, head_walk, has_function}
use Rattle.hl_rules.specs.Exprs.{expr_walk}
use Rattle.hl_rules.specs.Places.{is_main}
use Rattle.hl_rules.specs.Witnesses.{listed_witnesses}
use Rattle.hl_rules.specs.Walks.{Walk, ◌>>=◌, ◌>>◌, done, plain, needs}

-- the aliases and the functions up to a place of the text
pub record Known : Type 0 where
  pub aliases : List TypedName
  pub functions : List TypedFunction

-- a function's head, and then its body at the result's type, where the parameters are in scope
abbrev pub function_walk : List Entry → ℕ → Known → Mark → List Param → Option TypeText → Expr → Walk TypedFunction
function_walk entries edition known name params text body = do
  head ← plain (head_walk known.aliases known.functions name params text)
  found ← expr_walk (record { aliases = known.aliases; functions = known.functions; entries = entries; in_main = is_main name.text; edition = edition }) body head.params head.result K6
  done (record { name = name.text; params = head.params; result = head.result; body = found })

abbrev pub item_walk : List Entry → ℕ → Known → Item → Walk Known
item_walk entries edition known (items.Alias name text span) = do
  aliases ← plain (alias_walk known.aliases name text)
  done (record { aliases = aliases; functions = known.functions })
item_walk entries edition known (items.Function name params text body span) = do
  found ← function_walk entries edition known name params text body
  done (record { aliases = known.aliases; functions = known.functions ++ found ∷ [] })

abbrev pub items_walk : List Entry → ℕ → Known → List Item → Walk Known
items_walk entries edition known [] = done known
items_walk entries edition known (item ∷ more) = do
  next ← item_walk entries edition known item
  items_walk entries edition next more

-- the items in order, and then whether there is the function that was asked for; the text is of an edition and ends at `end`
abbrev pub program_walk : List Item → List ℕ → List Entry → ℕ → ℕ → Walk (List TypedFunction)
program_walk program asked entries edition end = do
  known ← items_walk entries edition (record { aliases = []; functions = [] }) program
  needs (has_function known.functions asked) K20 (record { start = end; end = end })
  done known.functions

-- a program's functions with the types of all that they hold, and the witnesses of `main` with theirs, in the text's order, in
-- edition 2 each at its first place alone
pub record Checked : Type 0 where
  pub functions : List TypedFunction
  pub witnesses : List TypedName
  pub edition : ℕ

abbrev pub checked_of : ℕ → Result (List TypedFunction × List TypedName) Broken → Result Checked Broken
checked_of edition (Ok found) = Ok (record { functions = found.0; witnesses = listed_witnesses edition found.1; edition = edition })
checked_of edition (Err broken) = Err broken

-- what a program of an edition is, or the rule or limit that it breaks first
unfoldable pub checked : List Item → List ℕ → List Entry → ℕ → ℕ → Result Checked Broken
checked program asked entries edition end = checked_of edition (program_walk program asked entries edition end [])

abbrev pub broken_of : Result Checked Broken → Option Broken
broken_of (Ok found) = None
broken_of (Err broken) = Some broken

-- the rule or limit that a program breaks first, if it breaks any
abbrev pub first : List Item → List ℕ → List Entry → ℕ → ℕ → Option Broken
first program asked entries edition end = broken_of (checked program asked entries edition end)
