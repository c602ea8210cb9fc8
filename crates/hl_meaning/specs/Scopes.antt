-- Scopes: names with their values, of which a name means the first.
use Rattle.std.specs.Prelude.{ℕ, List, [], ◌∷◌, ◌++◌, bytes_eq, find, Option, Some, None, option_map}
use Rattle.hl_data.specs.declared.value.HlValue.{HlValue}
use Rattle.hl_data.specs.declared.value.HlValue.TheOpen.{HlValue-F}
use Rattle.hl_data.specs.declared.value.HlValue.TheViews.{out-HlValue}
use Rattle.hl_syntax.specs.declared.tree.Pattern.{Pattern}
use Rattle.hl_syntax.specs.declared.tree.PatternForm.TheOpen.{PatternForm-F}
use Rattle.hl_syntax.specs.declared.tree.PatternForm.TheFolds.{fold-Pattern}
use Rattle.hl_meaning.specs.Values.{beside}

pub record Binding : Type 0 where
  pub name : List ℕ
  pub value : HlValue

abbrev pub Scope : Type 0
Scope = List Binding

-- the value that a name means
abbrev pub meant : List ℕ → Scope → Option HlValue
meant name scope = option_map (λ b. b.value) (find (λ b. bytes_eq name b.name) scope)

-- what a pattern binds in a value of its shape

abbrev pub Binder : Type 0
Binder = HlValue → Option Scope

abbrev pub each_bound : List Binder → List HlValue → Option Scope
each_bound [] [] = Some []
each_bound (p ∷ ps) (v ∷ vs) = beside (λ first rest. first ++ rest) (p v) (each_bound ps vs)
each_bound _ _ = None

abbrev pub in_tuple : List Binder → HlValue-F HlValue → Option Scope
in_tuple ps (HlValue-F.Tuple vs) = each_bound ps vs
in_tuple ps _ = None

abbrev pub in_array : List Binder → HlValue-F HlValue → Option Scope
in_array ps (HlValue-F.Array vs) = each_bound ps vs
in_array ps _ = None

abbrev pub pattern_step : PatternForm-F Binder Binder → Binder
pattern_step (PatternForm-F.Name name) v = Some (record { name = name; value = v } ∷ [])
pattern_step PatternForm-F.Ignore v = Some []
pattern_step (PatternForm-F.Tuple ps) v = in_tuple ps (out-HlValue v)
pattern_step (PatternForm-F.Array ps) v = in_array ps (out-HlValue v)

-- the names of a pattern with their values; none where the value has another shape
abbrev pub bound : Pattern → HlValue → Option Scope
bound pattern v = fold-Pattern Binder Binder pattern_step (λ p. p.form) pattern v
