-- Calls of functions of checked programs.
use Rattle.std.specs.Prelude.{◌≡◌, ℕ, List, [], ◌∷◌, map, find, bytes_eq, Option, Some, IsTrue}
use Rattle.std.specs.List.{All}
use Rattle.hl_data.specs.declared.typed.TypedFunction.{TypedFunction}
use Rattle.hl_data.specs.declared.value.HlValue.{HlValue}
use Rattle.hl_syntax.specs.declared.kinds.HlType.{HlType}
use Rattle.hl_syntax.specs.declared.kinds.HlType.TheVariants as kind
use Rattle.hl_syntax.specs.declared.kinds.TypedName.{TypedName}
use Rattle.hl_meaning.specs.Scopes.{Binding}
use Rattle.hl_rules.specs.Places.{is_main}
use Rattle.hl_rules.specs.Programs.{Checked}
use Rattle.hl_meaning.specs.Entries.{IsValueOf}
use Rattle.hl_progress.specs.Held.{HasValue}

-- the function of a name
abbrev pub function_of : List TypedFunction → List ℕ → Option TypedFunction
function_of functions name = find (λ f. bytes_eq name f.name) functions

-- the type of the one argument for these parameters: none are the empty tuple, one is itself, more are a tuple
abbrev pub argument_type : List TypedName → HlType
argument_type (param ∷ []) = param.kind
argument_type params = kind.Tuple (map (λ p. p.kind) params)

-- the program has the function, the argument is of the type of its parameters, and for `main` each witness of the program is given
-- a value of its type
pub record FitsCall (program : Checked) (name : List ℕ) (argument : HlValue) (witness : List Binding) : Type 0 where
  pub function : TypedFunction
  pub there : function_of program.functions name ≡ Some function
  pub fits : IsValueOf argument (argument_type function.params)
  pub given : IsTrue (is_main name) → All (HasValue witness) program.witnesses
