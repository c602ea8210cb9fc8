-- The items of a program, each with what the items before it declare.
use Rattle.std.specs.Prelude.{◌≡◌, ℕ, ◌&&◌, Bool, not, List, [], ◌∷◌, ◌++◌, bytes_eq, find, Option, Ok}
use Rattle.std.specs.List.{list_any}
use Rattle.hl_syntax.specs.declared.kinds.HlType.{HlType}
use Rattle.hl_syntax.specs.declared.kinds.TypedName.{TypedName}
use Rattle.hl_syntax.specs.declared.token.Mark.{Mark}
use Rattle.hl_syntax.specs.declared.token.Span.{Span}
use Rattle.hl_syntax.specs.declared.tree.Expr.{Expr}
use Rattle.hl_syntax.specs.declared.tree.Item.{Item}
use Rattle.hl_syntax.specs.declared.tree.Item.TheVariants as items
use Rattle.hl_syntax.specs.declared.tree.Param.{Param}
use Rattle.hl_syntax.specs.declared.tree.TypeText.{TypeText}
use Rattle.simplicityhl.specs.Written.{walk}
use Rattle.hl_rules.specs.Declared.{result_walk}
use Rattle.hl_rules.specs.Places.{is_main}

-- a function by its head
pub record Signature : Type 0 where
  pub name : List ℕ
  pub params : List TypedName
  pub result : HlType

abbrev pub has_signature : List Signature → List ℕ → Bool
has_signature functions name = list_any (λ f. bytes_eq name f.name) functions

-- the function before of a name; `main` is none that a call or a loop may name
abbrev pub signature_named : List Signature → List ℕ → Option Signature
signature_named functions name = find (λ f. bytes_eq name f.name && not (is_main f.name)) functions

-- parameters with the types that are written
pub data AreTyped (aliases : List TypedName) : List Param → List TypedName → Type 0 where
  no_param : AreTyped aliases [] []
  one_more : (params : List Param) (typed : List TypedName) (param : Param) (kind : HlType) → AreTyped aliases params typed → walk aliases param.kind ≡ Ok kind →
      AreTyped aliases (params ++ param ∷ []) (typed ++ record { name = param.name.text; kind = kind } ∷ [])

-- the aliases with their types and the functions that items declare
pub data Declare : List Item → List TypedName → List Signature → Type 0 where
  nothing : Declare [] [] []
  an_alias : (before : List Item) (aliases : List TypedName) (functions : List Signature) (name : Mark) (text : TypeText) (span : Span) (kind : HlType) →
      Declare before aliases functions → walk aliases text ≡ Ok kind →
      Declare (before ++ items.Alias name text span ∷ []) (aliases ++ record { name = name.text; kind = kind } ∷ []) functions
  a_function : (before : List Item) (aliases : List TypedName) (functions : List Signature) (name : Mark) (params : List Param) (text : Option TypeText) (body : Expr) (span : Span)
      (typed : List TypedName) (result : HlType) →
      Declare before aliases functions → AreTyped aliases params typed → result_walk aliases text ≡ Ok result →
      Declare (before ++ items.Function name params text body span ∷ []) aliases (functions ++ record { name = name.text; params = typed; result = result } ∷ [])

-- an item of a program, with what those before it declare
pub record Holds (program : List Item) (item : Item) (aliases : List TypedName) (functions : List Signature) : Type 0 where
  pub before : List Item
  pub after : List Item
  pub is : program ≡ before ++ item ∷ after
  pub declared : Declare before aliases functions
