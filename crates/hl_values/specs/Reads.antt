-- The answers to reading values.
use Rattle.std.specs.Prelude.{◌≡◌, List, ℕ, Option, Some, None, Result, Ok, Err}
use Rattle.hl_data.specs.declared.value.HlValue.{HlValue}
use Rattle.hl_syntax.specs.declared.kinds.HlType.{HlType}
use Rattle.hl_syntax.specs.declared.token.Token.{Token}
use Rattle.hl_syntax.specs.declared.tree.Expr.{Expr}
use Rattle.simplicityhl.specs.Grammar as grammar
use Rattle.simplicityhl.specs.Grammar.{Stands, most_depth}
use Rattle.simplicityhl.specs.Tokens.{tokens}
use Rattle.hl_values.specs.Written.{IsValueText}
use Rattle.hl_values.specs.declared.refusal.ValueRefusal.{ValueRefusal}
use Rattle.hl_values.specs.declared.refusal.ValueRefusal.TheVariants.{NotValue, OutOfMemory}

-- an answer is what was found, or memory was short
abbrev pub AnswersValue : {A : Type 0} → Option A → Result A ValueRefusal → Type 0
AnswersValue found (Ok x) = found ≡ Some x
AnswersValue found (Err NotValue) = found ≡ None
AnswersValue found (Err OutOfMemory) = Unit {0}

-- a text without tokens
pub record HasNoTokens (text : List ℕ) : Type 0 where
  pub none : (ts : List Token) → tokens text ≡ Ok ts → ⊥

-- the tokens of a text, or that it has none
abbrev pub Lexes : List ℕ → Result (List Token) ValueRefusal → Type 0
Lexes text (Ok ts) = tokens text ≡ Ok ts
Lexes text (Err NotValue) = HasNoTokens text
Lexes text (Err OutOfMemory) = Unit {0}

-- the one tree of a value text's tokens
pub record IsTheTree (ts : List Token) (tree : Expr) : Type 0 where
  pub stands : Stands grammar.value most_depth ts tree
  pub one : (other : Expr) → Stands grammar.value most_depth ts other → tree ≡ other

-- tokens that are no value text
pub record HasNoTree (ts : List Token) : Type 0 where
  pub none : (tree : Expr) → Stands grammar.value most_depth ts tree → ⊥

abbrev pub Parses : List Token → Result Expr ValueRefusal → Type 0
Parses ts (Ok tree) = IsTheTree ts tree
Parses ts (Err NotValue) = HasNoTree ts
Parses ts (Err OutOfMemory) = Unit {0}

-- the tree of a value text
pub record IsTreeOf (text : List ℕ) (tree : Expr) : Type 0 where
  pub found : List Token
  pub lexed : tokens text ≡ Ok found
  pub is : IsTheTree found tree

-- a text that is no value text
pub record HasNoTreeOf (text : List ℕ) : Type 0 where
  pub none : (ts : List Token) (tree : Expr) → tokens text ≡ Ok ts → Stands grammar.value most_depth ts tree → ⊥

abbrev pub HasTree : List ℕ → Result Expr ValueRefusal → Type 0
HasTree text (Ok tree) = IsTreeOf text tree
HasTree text (Err NotValue) = HasNoTreeOf text
HasTree text (Err OutOfMemory) = Unit {0}

-- a text that is no value text of a type
pub record IsNoValueText (text : List ℕ) (kind : HlType) : Type 0 where
  pub none : (v : HlValue) → IsValueText text kind v → ⊥

-- the text is a value text of the type for the answer, or none of the type, or memory was short
abbrev pub ReadsValue : List ℕ → HlType → Result HlValue ValueRefusal → Type 0
ReadsValue text kind (Ok v) = IsValueText text kind v
ReadsValue text kind (Err NotValue) = IsNoValueText text kind
ReadsValue text kind (Err OutOfMemory) = Unit {0}
