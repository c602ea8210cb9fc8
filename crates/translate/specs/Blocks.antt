-- Blocks and matches: the layout and the state of a builder from statement to statement, and what arms bind.
use Rattle.std.specs.Prelude.{◌≡◌, ◌<◌, length, List, [], ◌∷◌, map, Option, Some, None, option_map}
use Rattle.hl_data.specs.declared.typed.TypedArm.{TypedArm}
use Rattle.hl_data.specs.declared.typed.TypedExpr.{TypedExpr}
use Rattle.hl_data.specs.declared.typed.TypedForm.{TypedForm}
use Rattle.hl_data.specs.declared.typed.TypedForm.TheOpen.{TypedStatement-F}
use Rattle.hl_data.specs.declared.typed.TypedSide.{TypedSide}
use Rattle.hl_data.specs.declared.typed.TypedSide.TheVariants as sides
use Rattle.hl_data.specs.declared.typed.TypedStatement.{TypedStatement, out-TypedStatement}
use Rattle.hl_syntax.specs.declared.kinds.HlType.{HlType}
use Rattle.hl_syntax.specs.declared.tree.Pattern.{Pattern}
use Rattle.hl_terms.specs.Shapes.{Shape, kind_of, pattern_shape}
use Rattle.hl_terms.specs.Translated.{block_term, statement_translated, translated}
use Rattle.hl_expansions.specs.Expansions.{expansions}
use Rattle.layout_laws.specs.Scopes.{scope_shape}
use Rattle.scope_layout.specs.Layers.{Scopes, Names, inside, IsWithin}
use Rattle.simplicity.specs.Canon.{Declared}
use Rattle.simplicityhl.specs.Kinds.{form, IsSound}
use Rattle.term_builder.specs.State.{State}
use Rattle.term_builder.specs.Steps.{with_term, with_made, on_last, entered, to_outer, bind_last, follow_last}
use Rattle.term_recipes.specs.Shapes.{matched}
use Rattle.translate.specs.Fits.{Fits}
use Rattle.translate.specs.Here.{terms_of, witnesses_in, term_in}
use Rattle.translate.specs.declared.place.Place.{Place}

abbrev pub Line : Type 0
Line = TypedStatement-F TypedForm TypedStatement TypedArm TypedExpr

-- a layout, and the state of a builder in its scope
pub record Spot : Type 0 where
  pub layout : Scopes
  pub state : State

-- after a statement: its value was made, and a `let` has bound its names
abbrev pub advance : Place → Line → Spot → Spot
advance p (TypedStatement-F.Let pattern k e) spot =
    record { layout = inside (Names pattern k) spot.layout; state = entered (form k) (with_term (term_in p (scope_shape spot.layout) e) spot.state) }
advance p (TypedStatement-F.Plain e) spot =
    record { layout = spot.layout; state = with_term (term_in p (scope_shape spot.layout) e) spot.state }

abbrev pub advance_all : Place → List TypedStatement → Spot → Spot
advance_all p [] spot = spot
advance_all p (s ∷ ss) spot = advance_all p ss (advance p (out-TypedStatement s) spot)

-- what comes of a statement's value before what comes after it
abbrev pub ended : Line → State → State
ended (TypedStatement-F.Let pattern k e) s = bind_last (to_outer s.outer s)
ended (TypedStatement-F.Plain e) s = follow_last s

abbrev pub before_end : Line → State → State
before_end (TypedStatement-F.Let pattern k e) s = to_outer s.outer s
before_end (TypedStatement-F.Plain e) s = s

-- something is bound in the scope after a `let`; and without it the layout is the one before the statement
abbrev pub HasInner : Line → Scopes → Type 0
HasInner (TypedStatement-F.Let pattern k e) scopes = 0 < length scopes.bound
HasInner (TypedStatement-F.Plain e) scopes = Unit {0}

abbrev pub IsBeforeSome : Line → Scopes → Scopes → Type 0
IsBeforeSome (TypedStatement-F.Let pattern k e) inner outer = IsWithin inner outer
IsBeforeSome (TypedStatement-F.Plain e) inner outer = outer ≡ inner

-- the statement's value, and for a `let` that its type is sound
abbrev pub LineFits : Place → Scopes → Line → Type 0
LineFits p scopes (TypedStatement-F.Let pattern k e) = Fits p scopes e × IsSound k
LineFits p scopes (TypedStatement-F.Plain e) = Fits p scopes e

-- the term of statements and a last expression
abbrev pub lines_in : Place → Shape → List TypedStatement → Option TypedExpr → Declared
lines_in p scope ss last =
    block_term (map (statement_translated expansions (terms_of p) (witnesses_in p)) ss) (option_map (translated expansions (terms_of p) (witnesses_in p)) last) scope

-- what an arm binds: its pattern at its type, or nothing
abbrev pub arm_pattern : Place → TypedSide → Pattern
arm_pattern p (sides.Left q k) = q
arm_pattern p (sides.Right q k) = q
arm_pattern p (sides.Some q k) = q
arm_pattern p _ = p.nothing.now

abbrev pub arm_kind : Place → TypedSide → HlType
arm_kind p (sides.Left q k) = k
arm_kind p (sides.Right q k) = k
arm_kind p (sides.Some q k) = k
arm_kind p _ = p.unit.now

abbrev pub arm_layout : Place → TypedSide → Scopes → Scopes
arm_layout p side scopes = inside (Names (arm_pattern p side) (arm_kind p side)) scopes

pub record ArmFits (p : Place) (scopes : Scopes) (arm : TypedArm) : Type 0 where
  pub sound : IsSound (arm_kind p arm.side)
  pub kind_is : kind_of (pattern_shape (arm_pattern p arm.side) (arm_kind p arm.side)) ≡ form (arm_kind p arm.side)
  pub body : Fits p (arm_layout p arm.side scopes) arm.body

-- a match of the last term by its arms for the left and the right tag
abbrev pub arm_in : Place → Scopes → TypedArm → Declared
arm_in p scopes arm = term_in p (scope_shape (arm_layout p arm.side scopes)) arm.body

abbrev pub choose_last : Place → Scopes → TypedArm → TypedArm → State → State
choose_last p scopes left right s =
    with_made (on_last (λ value. matched value (form (arm_kind p left.side)) (form (arm_kind p right.side)) s.here (arm_in p scopes left) (arm_in p scopes right)) s.made) s
