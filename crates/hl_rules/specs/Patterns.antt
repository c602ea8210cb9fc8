-- Patterns at their types: the variables that they bind.
use Rattle.std.specs.Prelude.{not, nat_eq, List, [], ◌∷◌, ◌++◌, length, Ok}
use Rattle.hl_syntax.specs.declared.kinds.HlType.{HlType}
use Rattle.hl_syntax.specs.declared.rules.Rule.TheVariants.{K5, K6, K8, K24}
use Rattle.hl_syntax.specs.declared.token.Span.{Span}
use Rattle.hl_syntax.specs.declared.tree.Pattern.{Pattern}
use Rattle.hl_syntax.specs.declared.tree.PatternForm.TheOpen.{PatternForm-F}
use Rattle.hl_syntax.specs.declared.tree.PatternForm.TheFolds.{fold-Pattern}
use Rattle.hl_rules.specs.Names.{is_reserved, variable_words}
use Rattle.hl_rules.specs.Places.{Scope, has_name}
use Rattle.hl_rules.specs.Same.{parts_of, array_of}
use Rattle.hl_rules.specs.Steps.{Step, ◌>>=◌, ◌>>◌, needs, wants}

-- at a type, the variables that a pattern has bound up to the end of a part of it, given those before the part, in the text's order
abbrev pub PatternWalk : Type 0
PatternWalk = HlType → Scope → Step Scope

-- parts at their types, one after the other
abbrev pub patterns_walk : List PatternWalk → List HlType → Scope → Step Scope
patterns_walk (part ∷ parts) (kind ∷ kinds) bound = part kind bound >>= (λ more. patterns_walk parts kinds more)
patterns_walk _ _ bound = Ok bound

-- parts at one type
abbrev pub items_walk : List PatternWalk → HlType → Scope → Step Scope
items_walk [] item bound = Ok bound
items_walk (part ∷ parts) item bound = part item bound >>= (λ more. items_walk parts item more)

abbrev pub pattern_step : PatternForm-F (Span → PatternWalk) PatternWalk → Span → PatternWalk
pattern_step (PatternForm-F.Name name) span kind bound = do
  needs (not (is_reserved variable_words name)) K24 span
  needs (not (has_name bound name)) K5 span
  Ok (bound ++ record { name = name; kind = kind } ∷ [])
pattern_step PatternForm-F.Ignore span kind bound = Ok bound
pattern_step (PatternForm-F.Tuple parts) span kind bound = do
  kinds ← wants (parts_of kind) K6 span
  needs (nat_eq (length parts) (length kinds)) K8 span
  patterns_walk parts kinds bound
pattern_step (PatternForm-F.Array parts) span kind bound = do
  array ← wants (array_of kind) K6 span
  needs (nat_eq (length parts) array.1) K8 span
  items_walk parts array.0 bound

abbrev pub pattern_walk : Pattern → PatternWalk
pattern_walk pattern = fold-Pattern (Span → PatternWalk) PatternWalk pattern_step (λ p. p.form p.span) pattern
