-- Written types: the type that a text stands for, or what it breaks first.
--
-- The parts are walked from the left. A name has to be known; an array's length and a list's bound have a greatest value; a list's
-- bound is a power of two from 2 up; and each type that is made is at most so heavy.
use Rattle.std.specs.Prelude.{ℕ, nat_lt, List, [], ◌∷◌, codes, bytes_eq, find, Option, Some, None, option_map, Result, Ok, Err, if◌then◌else◌}
use Rattle.hl_syntax.specs.declared.kinds.HlType.{HlType}
use Rattle.hl_syntax.specs.declared.kinds.HlType.TheVariants as kind
use Rattle.hl_syntax.specs.declared.kinds.TypedName.{TypedName}
use Rattle.hl_syntax.specs.declared.rules.Rule.{Rule}
use Rattle.hl_syntax.specs.declared.rules.Rule.TheVariants.{K2, K10}
use Rattle.hl_syntax.specs.declared.rules.Limit.{Limit}
use Rattle.hl_syntax.specs.declared.rules.Limit.TheVariants.{L4, L5}
use Rattle.hl_syntax.specs.declared.token.Mark.{Mark}
use Rattle.hl_syntax.specs.declared.token.Span.{Span}
use Rattle.hl_syntax.specs.declared.tree.TypeText.{TypeText}
use Rattle.hl_syntax.specs.declared.tree.TypeForm.TheOpen.{TypeForm-F}
use Rattle.hl_syntax.specs.declared.tree.TypeForm.TheFolds.{fold-TypeText}
use Rattle.simplicity.specs.Limits.{most_weight}
use Rattle.simplicity.specs.Types.{weight}
use Rattle.simplicityhl.specs.Kinds.{form, is_count, is_bound}
use Rattle.simplicityhl.specs.Tokens.{decimal_value}

-- the rule or the limit that is broken, and where
pub data Broken : Type 0 where
  breaks_rule : Rule → Span → Broken
  breaks_limit : Limit → Span → Broken

abbrev pub Walked : Type 0
Walked = Result HlType Broken

-- the names of the types of numbers, with their widths
abbrev pub width_names : List (List ℕ × ℕ)
width_names =
    (codes "u1", 1) ∷ (codes "u2", 2) ∷ (codes "u4", 4) ∷ (codes "u8", 8) ∷ (codes "u16", 16) ∷ (codes "u32", 32) ∷ (codes "u64", 64)
    ∷ (codes "u128", 128) ∷ (codes "u256", 256) ∷ []

abbrev pub or_else : {A : Type 0} → Option A → Option A → Option A
or_else (Some x) other = Some x
or_else None other = other

-- what a name stands for: `bool`, a type of numbers, or the first alias of the name
abbrev pub named : List TypedName → List ℕ → Option HlType
named aliases name =
    if bytes_eq name (codes "bool") then Some kind.Bool
    else or_else (option_map (λ entry. kind.UInt entry.1) (find (λ entry. bytes_eq name entry.0) width_names))
    (option_map (λ alias. alias.kind) (find (λ alias. bytes_eq name alias.name) aliases))

abbrev pub known : Span → Option HlType → Walked
known span (Some kind) = Ok kind
known span None = Err (breaks_rule K2 span)

-- what comes after a part that breaks nothing
abbrev pub then_walk : {A B : Type 0} → Result A Broken → (A → Result B Broken) → Result B Broken
then_walk (Ok x) next = next x
then_walk (Err broken) next = Err broken

-- the parts one after the other
abbrev pub in_turn : List Walked → Result (List HlType) Broken
in_turn [] = Ok []
in_turn (part ∷ parts) = then_walk part (λ first. then_walk (in_turn parts) (λ kinds. Ok (first ∷ kinds)))

-- a number within the greatest count
abbrev pub counted : Mark → Result ℕ Broken
counted mark = if is_count (decimal_value mark.text) then Ok (decimal_value mark.text) else Err (breaks_limit L4 mark.span)

-- a count that is a bound of lists
abbrev pub bounded : Mark → ℕ → Result ℕ Broken
bounded mark bound = if is_bound bound then Ok bound else Err (breaks_rule K10 mark.span)

-- a type that isn't too heavy
abbrev pub light : Span → HlType → Walked
light span kind = if nat_lt most_weight (weight (form kind)) then Err (breaks_limit L5 span) else Ok kind

-- the walk of a type's parts, its span given
abbrev pub walk_step : List TypedName → TypeForm-F (Span → Walked) Walked → Span → Walked
walk_step aliases (TypeForm-F.Tuple parts) span = then_walk (in_turn parts) (λ kinds. Ok (kind.Tuple kinds))
walk_step aliases (TypeForm-F.Array item length) span = then_walk item (λ part. then_walk (counted length) (λ count. Ok (kind.Array part count)))
walk_step aliases (TypeForm-F.List item bound) span =
    then_walk item (λ part. then_walk (counted bound) (λ count. then_walk (bounded bound count) (λ count. Ok (kind.List part count))))
walk_step aliases (TypeForm-F.Option item) span = then_walk item (λ part. Ok (kind.Option part))
walk_step aliases (TypeForm-F.Either left right) span = then_walk left (λ first. then_walk right (λ second. Ok (kind.Either first second)))
walk_step aliases (TypeForm-F.Name name) span = known span (named aliases name)

-- the type that a written type stands for, after the aliases before it, or what it breaks first
abbrev pub walk : List TypedName → TypeText → Walked
walk aliases text = fold-TypeText (Span → Walked) Walked (walk_step aliases) (λ t. then_walk (t.form t.span) (light t.span)) text
