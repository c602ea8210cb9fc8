-- Paths: takes and drops from an input to a part of it, the outermost first (this project's own).
use Rattle.std.specs.Prelude.{ℕ, List, [], ◌∷◌, length, map, bytes_eq, Option, Some, None, option_map, if◌then◌else◌}
use Rattle.hl_syntax.specs.declared.kinds.TypedName.{TypedName}
use Rattle.hl_syntax.specs.declared.tree.Pattern.{Pattern}
use Rattle.hl_syntax.specs.declared.tree.PatternForm.TheOpen.{PatternForm-F}
use Rattle.hl_syntax.specs.declared.tree.PatternForm.TheFolds.{fold-Pattern}
use Rattle.simplicity.specs.Terms.{Term, Iden, Take, Drop}
use Rattle.simplicity.specs.Tuples.{halves}
use Rattle.scope_layout.specs.declared.path.Step.{Step}
use Rattle.scope_layout.specs.declared.path.Step.TheVariants as step

-- the term that goes along a path
abbrev pub path_term : List Step → Term
path_term [] = Iden
path_term (step.Take ∷ path) = Take (path_term path)
path_term (step.Drop ∷ path) = Drop (path_term path)

-- a path, where what is looked for is there
abbrev pub Way : Type 0
Way = Option (List Step)

-- to what is in the first part of a pair, or else in the second
abbrev pub in_either : Way → Way → Way
in_either (Some path) other = Some (step.Take ∷ path)
in_either None other = option_map (λ path. step.Drop ∷ path) other

-- to what is in the first of several parts by halves
abbrev pub among : List Way → Way
among ways = halves (length ways) None in_either ways

-- to a name that stands alone
abbrev pub at_name : (name other : List ℕ) → Way
at_name name other = if bytes_eq name other then Some [] else None

abbrev pub pattern_step : List ℕ → PatternForm-F Way Way → Way
pattern_step name (PatternForm-F.Name other) = at_name name other
pattern_step name PatternForm-F.Ignore = None
pattern_step name (PatternForm-F.Tuple ways) = among ways
pattern_step name (PatternForm-F.Array ways) = among ways

-- to a name in the values of a pattern
abbrev pub variable_path : List ℕ → Pattern → Way
variable_path name pattern = fold-Pattern Way Way (pattern_step name) (λ p. p.form) pattern

-- to a name in the tuple of the values of witnesses
abbrev pub witness_path : List ℕ → List TypedName → Way
witness_path name witnesses = among (map (λ w. at_name name w.name) witnesses)
