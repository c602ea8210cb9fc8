-- What `build` writes for a small source.
use Rattle.std.specs.Prelude.{◌≡◌, ℕ, List, [], ◌∷◌, ◌++◌, Ok, None}
use Rattle.base64.specs.Engines.{standard}
use Rattle.base64.specs.GeneralPurpose.{encode_of, decode_of, IsConsistent}
use Rattle.simplicity.specs.Nodes.{Node}
use Rattle.simplicity.specs.Spelling.{Spelled}
use Rattle.small_source.specs.Small.{Small, IsSmall}
use Rattle.small_terms.specs.Compiled.{IsCompiled}
use Rattle.small_terms.specs.Result.{first_unknown}

-- the line is in base64 the one spelling of a list that is compiled of a function whose names are all parameters
pub record IsLine (f : Small) (line : List ℕ) : Type 0 where
  pub known : first_unknown f.parameters f.body ≡ None
  pub nodes : List Node
  pub compiled : IsCompiled nodes f
  pub program : List ℕ
  pub spelled : Spelled program nodes
  pub encoded : line ≡ encode_of standard program ++ 10 ∷ []
  pub decoded : IsConsistent standard → decode_of standard (encode_of standard program) ≡ Ok program

-- the text is a small source for the asked name, and the line that of its function
pub record IsBuild (text asked line : List ℕ) : Type 0 where
  pub function : Small
  pub small : IsSmall text asked function
  pub lined : IsLine function line
