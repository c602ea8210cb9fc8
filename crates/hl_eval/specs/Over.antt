-- Scopes within others, and what patterns and parameters put before them.
use Rattle.std.specs.Prelude.{◌≡◌, ◌-◌, ◌≤◌, List, ◌++◌, length, drop, Option, Some, None, option_map, map}
use Rattle.hl_data.specs.declared.value.HlValue.{HlValue}
use Rattle.hl_syntax.specs.declared.kinds.TypedName.{TypedName}
use Rattle.hl_syntax.specs.declared.tree.Pattern.{Pattern}
use Rattle.hl_meaning.specs.Scopes.{Scope, bound, each_bound}
use Rattle.hl_meaning.specs.Answer.{Answer, gives}
use Rattle.hl_meaning.specs.Mean.{scope_of}

-- an inner scope ends with the outer one
pub record IsOver (inner outer : Scope) : Type 0 where
  pub longer : length outer ≤ length inner
  pub ends : drop (length inner - length outer) inner ≡ outer

-- a scope with the names of a pattern before it
abbrev pub bound_over : Pattern → HlValue → Scope → Option Scope
bound_over pattern v scope = option_map (λ new. new ++ scope) (bound pattern v)

-- a scope with parameters before it
abbrev pub given_over : List TypedName → List HlValue → Scope → Option Scope
given_over params arguments scope = option_map (λ new. new ++ scope) (scope_of params arguments)

-- a scope with the names of each pattern before it
abbrev pub each_over : List Pattern → List HlValue → Scope → Option Scope
each_over patterns vs scope = option_map (λ new. new ++ scope) (each_bound (map bound patterns) vs)

-- a scope with the names of a match's side before it
abbrev pub taken_over : Option (Answer Scope) → Scope → Option Scope
taken_over (Some (gives new)) scope = Some (new ++ scope)
taken_over _ scope = None
