-- What is known at a place of a source text.
use Rattle.std.specs.Prelude.{ℕ, Bool, not, ◌&&◌, List, bytes_eq, find, Option, option_map}
use Rattle.std.specs.List.{list_any}
use Rattle.hl_syntax.specs.declared.kinds.HlType.{HlType}
use Rattle.hl_syntax.specs.declared.kinds.TypedName.{TypedName}
use Rattle.hl_data.specs.declared.value.Entry.{Entry}
use Rattle.hl_data.specs.declared.typed.TypedFunction.{TypedFunction}
use Rattle.hl_rules.specs.Names.{main_name}

-- the variables in scope with their types, the innermost first
abbrev pub Scope : Type 0
Scope = List TypedName

-- what a function's body is checked against: the aliases and the functions before it, the entries for the parameters of the
-- program, whether the function is `main`, and the edition of the language, 1 or 2
pub record Context : Type 0 where
  pub aliases : List TypedName
  pub functions : List TypedFunction
  pub entries : List Entry
  pub in_main : Bool
  pub edition : ℕ

abbrev pub is_main : List ℕ → Bool
is_main name = bytes_eq name main_name

-- whether a name is among these
abbrev pub has_name : List TypedName → List ℕ → Bool
has_name names name = list_any (λ known. bytes_eq name known.name) names

-- the type of the innermost variable of a name
abbrev pub variable_type : Scope → List ℕ → Option HlType
variable_type scope name = option_map (λ known. known.kind) (find (λ known. bytes_eq name known.name) scope)

-- the function before of a name; `main` is none that a call or a loop may name
abbrev pub function_named : List TypedFunction → List ℕ → Option TypedFunction
function_named functions name = find (λ f. bytes_eq name f.name && not (is_main f.name)) functions

-- the entry of a parameter of the program
abbrev pub entry_named : List Entry → List ℕ → Option Entry
entry_named entries name = find (λ e. bytes_eq name e.name) entries
