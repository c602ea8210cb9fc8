-- The written types and the patterns of a program at their places.
use Rattle.std.specs.Prelude.{◌≡◌, ℕ, List, [], ◌∷◌, ◌++◌, length, flat_map, Option, Some, Ok}
use Rattle.hl_syntax.specs.declared.kinds.HlType.{HlType}
use Rattle.hl_syntax.specs.declared.kinds.TypedName.{TypedName}
use Rattle.hl_syntax.specs.declared.token.Mark.{Mark}
use Rattle.hl_syntax.specs.declared.token.Span.{Span}
use Rattle.hl_syntax.specs.declared.tree.Arm.{Arm}
use Rattle.hl_syntax.specs.declared.tree.Expr.{Expr}
use Rattle.hl_syntax.specs.declared.tree.ExprForm.TheVariants as exprs
use Rattle.hl_syntax.specs.declared.tree.Item.{Item}
use Rattle.hl_syntax.specs.declared.tree.Item.TheVariants as items
use Rattle.hl_syntax.specs.declared.tree.Param.{Param}
use Rattle.hl_syntax.specs.declared.tree.Pattern.{Pattern}
use Rattle.hl_syntax.specs.declared.tree.PatternForm.{PatternForm}
use Rattle.hl_syntax.specs.declared.tree.PatternForm.TheVariants as patterns
use Rattle.hl_syntax.specs.declared.tree.PatternForm.TheOpen.{PatternForm-F}
use Rattle.hl_syntax.specs.declared.tree.PatternForm.TheFolds.{fold-Pattern}
use Rattle.hl_syntax.specs.declared.tree.Side.{Side}
use Rattle.hl_syntax.specs.declared.tree.Side.TheVariants as sides
use Rattle.hl_syntax.specs.declared.tree.Statement.{Statement}
use Rattle.hl_syntax.specs.declared.tree.Statement.TheVariants as statements
use Rattle.hl_syntax.specs.declared.tree.TypeForm.{TypeForm}
use Rattle.hl_syntax.specs.declared.tree.TypeForm.TheVariants as types
use Rattle.hl_syntax.specs.declared.tree.TypeText.{TypeText}
use Rattle.simplicityhl.specs.Written.{walk}
use Rattle.hl_rules.specs.Before.{Signature, Holds}
use Rattle.hl_rules.specs.Occurs.{Place, Occurs}
use Rattle.hl_rules.specs.Same.{parts_of, array_of}
use Rattle.hl_rules.specs.Witnesses.{Names, joined}

-- a side of a match binds a pattern at a written type
pub data Binds : Side → Pattern → TypeText → Type 0 where
  binds_left : (pattern : Pattern) (text : TypeText) → Binds (sides.Left pattern text) pattern text
  binds_right : (pattern : Pattern) (text : TypeText) → Binds (sides.Right pattern text) pattern text
  binds_some : (pattern : Pattern) (text : TypeText) → Binds (sides.Some pattern text) pattern text

-- a type of a form is written at a span, after these aliases
pub data IsWritten (program : List Item) (aliases : List TypedName) : TypeForm → Span → Type 0 where
  of_alias : (name : Mark) (text : TypeText) (span : Span) (functions : List Signature) → Holds program (items.Alias name text span) aliases functions →
      IsWritten program aliases text.form text.span
  of_param : (name : Mark) (before after : List Param) (param : Param) (text : Option TypeText) (e : Expr) (span : Span) (functions : List Signature) →
      Holds program (items.Function name (before ++ param ∷ after) text e span) aliases functions → IsWritten program aliases param.kind.form param.kind.span
  of_result : (name : Mark) (params : List Param) (text : TypeText) (e : Expr) (span : Span) (functions : List Signature) →
      Holds program (items.Function name params (Some text) e span) aliases functions → IsWritten program aliases text.form text.span
  of_let : (at : Place) (before after : List Statement) (pattern : Pattern) (text : TypeText) (e : Expr) (stands : Span) (last : Option Expr) (span : Span) → at.aliases ≡ aliases →
      Occurs program at (exprs.Block (before ++ statements.Let pattern text e stands ∷ after) last) span → IsWritten program aliases text.form text.span
  of_side : (at : Place) (e : Expr) (before after : List Arm) (arm : Arm) (pattern : Pattern) (text : TypeText) (span : Span) → at.aliases ≡ aliases →
      Occurs program at (exprs.Match e (before ++ arm ∷ after)) span → Binds arm.side pattern text → IsWritten program aliases text.form text.span
  of_into : (at : Place) (text : TypeText) (e : Expr) (span : Span) → at.aliases ≡ aliases → Occurs program at (exprs.Into text e) span → IsWritten program aliases text.form text.span
  of_unwrap_left : (at : Place) (text : TypeText) (e : Expr) (span : Span) → at.aliases ≡ aliases → Occurs program at (exprs.UnwrapLeft text e) span →
      IsWritten program aliases text.form text.span
  of_unwrap_right : (at : Place) (text : TypeText) (e : Expr) (span : Span) → at.aliases ≡ aliases → Occurs program at (exprs.UnwrapRight text e) span →
      IsWritten program aliases text.form text.span
  of_is_none : (at : Place) (text : TypeText) (e : Expr) (span : Span) → at.aliases ≡ aliases → Occurs program at (exprs.IsNone text e) span →
      IsWritten program aliases text.form text.span
  in_tuple : (before after : List TypeText) (part : TypeText) (span : Span) → IsWritten program aliases (types.Tuple (before ++ part ∷ after)) span →
      IsWritten program aliases part.form part.span
  in_array : (item : TypeText) (length : Mark) (span : Span) → IsWritten program aliases (types.Array item length) span → IsWritten program aliases item.form item.span
  in_list : (item : TypeText) (bound : Mark) (span : Span) → IsWritten program aliases (types.List item bound) span → IsWritten program aliases item.form item.span
  in_option : (item : TypeText) (span : Span) → IsWritten program aliases (types.Option item) span → IsWritten program aliases item.form item.span
  in_left : (left right : TypeText) (span : Span) → IsWritten program aliases (types.Either left right) span → IsWritten program aliases left.form left.span
  in_right : (left right : TypeText) (span : Span) → IsWritten program aliases (types.Either left right) span → IsWritten program aliases right.form right.span

-- the names in a pattern, in the text's order
abbrev pub pattern_names_step : PatternForm-F Names Names → Names
pattern_names_step (PatternForm-F.Name name) = name ∷ []
pattern_names_step PatternForm-F.Ignore = []
pattern_names_step (PatternForm-F.Tuple parts) = joined parts
pattern_names_step (PatternForm-F.Array parts) = joined parts

abbrev pub pattern_names : Pattern → Names
pattern_names pattern = fold-Pattern Names Names pattern_names_step (λ p. p.form) pattern

-- a pattern of a form stands at a span and at a type, after some names in the same whole pattern
pub data IsMatched (program : List Item) : PatternForm → Span → HlType → Names → Type 0 where
  by_let : (at : Place) (before after : List Statement) (pattern : Pattern) (text : TypeText) (e : Expr) (stands : Span) (last : Option Expr) (span : Span) (kind : HlType) →
      Occurs program at (exprs.Block (before ++ statements.Let pattern text e stands ∷ after) last) span → walk at.aliases text ≡ Ok kind →
      IsMatched program pattern.form pattern.span kind []
  by_side : (at : Place) (e : Expr) (before after : List Arm) (arm : Arm) (pattern : Pattern) (text : TypeText) (span : Span) (kind : HlType) →
      Occurs program at (exprs.Match e (before ++ arm ∷ after)) span → Binds arm.side pattern text → walk at.aliases text ≡ Ok kind →
      IsMatched program pattern.form pattern.span kind []
  by_tuple : (before after : List Pattern) (part : Pattern) (span : Span) (kind one : HlType) (kinds more : List HlType) (names : Names) →
      IsMatched program (patterns.Tuple (before ++ part ∷ after)) span kind names → parts_of kind ≡ Some (kinds ++ one ∷ more) → length before ≡ length kinds →
      IsMatched program part.form part.span one (names ++ flat_map pattern_names before)
  by_array : (before after : List Pattern) (part : Pattern) (span : Span) (kind item : HlType) (count : ℕ) (names : Names) →
      IsMatched program (patterns.Array (before ++ part ∷ after)) span kind names → array_of kind ≡ Some (item, count) →
      IsMatched program part.form part.span item (names ++ flat_map pattern_names before)
