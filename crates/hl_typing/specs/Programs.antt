-- Programs: their functions typed each after those before it, and the source text that they are of.
use Rattle.std.specs.Prelude.{◌≡◌, ℕ, false, List, [], ◌∷◌, ◌++◌, Option, Ok, if◌then◌else◌, IsTrue}
use Rattle.std.specs.List.{All}
use Rattle.hl_data.specs.declared.typed.TypedFunction.{TypedFunction}
use Rattle.hl_data.specs.declared.value.Entry.{Entry}
use Rattle.hl_syntax.specs.declared.kinds.HlType.{HlType}
use Rattle.hl_syntax.specs.declared.kinds.TypedName.{TypedName}
use Rattle.hl_syntax.specs.declared.token.Mark.{Mark}
use Rattle.hl_syntax.specs.declared.token.Span.{Span}
use Rattle.hl_syntax.specs.declared.tree.Expr.{Expr}
use Rattle.hl_syntax.specs.declared.tree.Item.{Item}
use Rattle.hl_syntax.specs.declared.tree.Item.TheVariants as items
use Rattle.hl_syntax.specs.declared.tree.Param.{Param}
use Rattle.hl_syntax.specs.declared.tree.TypeText.{TypeText}
use Rattle.simplicityhl.specs.Kinds.{IsSound}
use Rattle.simplicityhl.specs.Written.{walk}
use Rattle.hl_rules.specs.Before.{AreTyped}
use Rattle.hl_rules.specs.Declared.{has_function, result_walk}
use Rattle.hl_rules.specs.Places.{is_main}
use Rattle.hl_rules.specs.Programs.{Checked}
use Rattle.hl_rules.specs.Same.{unit_type}
use Rattle.hl_typing.specs.Erased.{Erased, FormOf}
use Rattle.hl_typing.specs.Patterns.{Once}
use Rattle.hl_typing.specs.Typing.{Typed, ExprAt}

-- `main` may name the witnesses, and no other function may name any
abbrev pub witnesses_of : List ℕ → List TypedName → List TypedName
witnesses_of name witnesses = if is_main name then witnesses else []

-- a function has its types after those before it: no parameter stands twice, each is of a sound type, and the body is of the
-- result's type where the parameters are in scope
pub record FunctionTyped (witnesses : List TypedName) (before : List TypedFunction) (f : TypedFunction) : Type 0 where
  pub once : Once f.params
  pub sound : All (λ (p : TypedName). IsSound p.kind) f.params
  pub body : Typed (record { functions = before; witnesses = witnesses_of f.name witnesses }) (ExprAt f.params f.result f.body)

-- functions, each after those before it; no name stands twice, and `main` takes nothing and gives the empty tuple
pub data FunctionsTyped (witnesses : List TypedName) : List TypedFunction → Type 0 where
  no_function : FunctionsTyped witnesses []
  one_function : (before : List TypedFunction) (f : TypedFunction) → FunctionsTyped witnesses before → FunctionTyped witnesses before f →
      has_function before f.name ≡ false → (IsTrue (is_main f.name) → (f.params ≡ []) × (f.result ≡ unit_type)) →
      FunctionsTyped witnesses (before ++ f ∷ [])

-- a program is typed: its functions are, and no witness is named twice
pub record ProgramTyped (program : Checked) : Type 0 where
  pub functions : FunctionsTyped program.witnesses program.functions
  pub once : Once program.witnesses

-- functions of the items of a source text, given the aliases before them: in the text's order, with the types that are written and
-- with their bodies
pub data ItemsErased (entries : List Entry) : List TypedName → List TypedFunction → List Item → Type 0 where
  no_item : (aliases : List TypedName) → ItemsErased entries aliases [] []
  an_alias : (aliases : List TypedName) (functions : List TypedFunction) (name : Mark) (text : TypeText) (span : Span) (kind : HlType)
      (more : List Item) → walk aliases text ≡ Ok kind →
      ItemsErased entries (aliases ++ record { name = name.text; kind = kind } ∷ []) functions more →
      ItemsErased entries aliases functions (items.Alias name text span ∷ more)
  a_function : (aliases : List TypedName) (f : TypedFunction) (functions : List TypedFunction) (name : Mark) (params : List Param)
      (text : Option TypeText) (body : Expr) (span : Span) (more : List Item) → f.name ≡ name.text → AreTyped aliases params f.params →
      result_walk aliases text ≡ Ok f.result → Erased aliases entries (FormOf f.body.form body.form) →
      ItemsErased entries aliases functions more →
      ItemsErased entries aliases (f ∷ functions) (items.Function name params text body span ∷ more)
