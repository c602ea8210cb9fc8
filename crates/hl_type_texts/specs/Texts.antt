-- Texts of types, as they are written in data files and words.
use Rattle.std.specs.Prelude.{◌≡◌, ℕ, List, [], Ok}
use Rattle.hl_syntax.specs.declared.kinds.HlType.{HlType}
use Rattle.hl_syntax.specs.declared.token.Token.{Token}
use Rattle.hl_syntax.specs.declared.tree.TypeText.{TypeText}
use Rattle.simplicityhl.specs.Grammar as grammar
use Rattle.simplicityhl.specs.Grammar.{Stands, most_depth}
use Rattle.simplicityhl.specs.Tokens.{tokens}
use Rattle.simplicityhl.specs.Written.{walk}

-- the text is a type text, for the type: its tokens are a type of the grammar, nowhere nested too deep, which without aliases
-- stands for the type and breaks nothing
pub record IsTypeText (text : List ℕ) (kind : HlType) : Type 0 where
  pub found : List Token
  pub tree : TypeText
  pub lexed : tokens text ≡ Ok found
  pub stands : Stands grammar.type most_depth found tree
  pub walked : walk [] tree ≡ Ok kind
