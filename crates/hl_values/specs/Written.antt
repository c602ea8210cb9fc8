-- Value texts: which value of a type a written value is.
--
-- A number is one of the type's width that the literal spells; a tuple or an array has the count of its type; a list has fewer
-- items than its bound. Any other expression is no value.
use Rattle.std.specs.Prelude.{◌≡◌, ℕ, ◌^◌, true, false, nat_eq, nat_lt, List, [], ◌∷◌, length, map, Option, Some, None, option_map, Ok, if◌then◌else◌}
use Rattle.hl_data.specs.declared.value.HlValue.{HlValue}
use Rattle.hl_data.specs.declared.value.HlValue.TheVariants as value
use Rattle.hl_syntax.specs.declared.kinds.HlType.{HlType}
use Rattle.hl_syntax.specs.declared.kinds.HlType.TheOpen.{HlType-F}
use Rattle.hl_syntax.specs.declared.kinds.HlType.TheViews.{out-HlType}
use Rattle.hl_syntax.specs.declared.token.Token.{Token}
use Rattle.hl_syntax.specs.declared.tree.Expr.{Expr}
use Rattle.hl_syntax.specs.declared.tree.ExprForm.{ExprForm}
use Rattle.hl_syntax.specs.declared.tree.ExprForm.TheOpen.{ExprForm-F}
use Rattle.hl_syntax.specs.declared.tree.ExprForm.TheFolds.{fold-Expr, fold-ExprForm}
use Rattle.hl_meaning.specs.Literals.{literal_value}
use Rattle.hl_meaning.specs.Values.{beside, all_there, word_of}
use Rattle.simplicityhl.specs.Grammar as grammar
use Rattle.simplicityhl.specs.Grammar.{Stands, most_depth}
use Rattle.simplicityhl.specs.Tokens.{tokens}

abbrev pub AtType : Type 0
AtType = HlType → Option HlValue

-- each at the type at its place, as many as there are types
abbrev pub each_at : List AtType → List HlType → Option (List HlValue)
each_at [] [] = Some []
each_at (part ∷ parts) (k ∷ ks) = beside (λ v vs. v ∷ vs) (part k) (each_at parts ks)
each_at _ _ = None

-- each at one type
abbrev pub all_at : List AtType → HlType → Option (List HlValue)
all_at parts k = all_there (map (λ part. part k) parts)

abbrev pub number_at : ℕ → ℕ → Option HlValue
number_at width number = if nat_lt number (2 ^ width) then Some (word_of width number) else None

-- a form of a written value from its parts, at a type
abbrev pub form_at : ExprForm-F AtType (Unit {0}) (Unit {0}) AtType → HlType-F HlType → Option HlValue
form_at (ExprForm-F.Literal word) (HlType-F.UInt width) = number_at width (literal_value word)
form_at ExprForm-F.True HlType-F.Bool = Some (value.Bool true)
form_at ExprForm-F.False HlType-F.Bool = Some (value.Bool false)
form_at (ExprForm-F.Tuple es) (HlType-F.Tuple kinds) = option_map value.Tuple (each_at es kinds)
form_at (ExprForm-F.Array es) (HlType-F.Array item count) = if nat_eq (length es) count then option_map value.Array (all_at es item) else None
form_at (ExprForm-F.List es) (HlType-F.List item bound) = if nat_lt (length es) bound then option_map value.List (all_at es item) else None
form_at ExprForm-F.Nothing (HlType-F.Option item) = Some value.Nothing
form_at (ExprForm-F.Some e) (HlType-F.Option item) = option_map value.Some (e item)
form_at (ExprForm-F.Left e) (HlType-F.Either left right) = option_map value.Left (e left)
form_at (ExprForm-F.Right e) (HlType-F.Either left right) = option_map value.Right (e right)
form_at _ _ = None

abbrev pub form_step : ExprForm-F AtType (Unit {0}) (Unit {0}) AtType → AtType
form_step form kind = form_at form (out-HlType kind)

-- the value of the type that an expression is, if it is one
abbrev pub written_form : ExprForm → AtType
written_form form kind = fold-ExprForm AtType (Unit {0}) (Unit {0}) AtType form_step (λ s. tt) (λ a. tt) (λ e. e.form) form kind

abbrev pub written : Expr → AtType
written tree kind = fold-Expr AtType (Unit {0}) (Unit {0}) AtType form_step (λ s. tt) (λ a. tt) (λ e. e.form) tree kind

-- the text is a value text of the type, for the value: its tokens are a value text of the grammar, nowhere nested too deep, whose
-- tree is the value at the type
pub record IsValueText (text : List ℕ) (kind : HlType) (v : HlValue) : Type 0 where
  pub found : List Token
  pub tree : Expr
  pub lexed : tokens text ≡ Ok found
  pub stands : Stands grammar.value most_depth found tree
  pub walked : written tree kind ≡ Some v
