-- The walk of the form of a written type, and of the types in it; types that have sound widths, counts and bounds.
use Rattle.std.specs.Prelude.{List}
use Rattle.std.specs.List.{All}
use Rattle.hl_syntax.specs.declared.kinds.TypedName.{TypedName}
use Rattle.hl_syntax.specs.declared.token.Span.{Span}
use Rattle.hl_syntax.specs.declared.tree.TypeForm.{TypeForm}
use Rattle.hl_syntax.specs.declared.tree.TypeForm.TheFolds.{fold-TypeForm}
use Rattle.simplicityhl.specs.Kinds.{IsSound}
use Rattle.simplicityhl.specs.Written.{Walked, walk_step, then_walk, light}

-- what the form of a written type with a span stands for, or what it breaks first
abbrev pub walk_form : List TypedName → TypeForm → Span → Walked
walk_form aliases form span = fold-TypeForm (Span → Walked) Walked (walk_step aliases) (λ t. then_walk (t.form t.span) (light t.span)) form span

-- the types of aliases are sound
abbrev pub AreSound : List TypedName → Type 0
AreSound aliases = All (λ alias. IsSound alias.kind) aliases
