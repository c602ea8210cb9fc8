-- Function values that read patterns, types and expressions of a depth.
use Rattle.std.specs.Prelude.{ℕ, List, Result}
use Rattle.std.specs.declared.alloc.Global.{Global}
use denote.Ref.{MutBor}
use Rattle.hl_syntax.specs.declared.token.Token.{Token}
use Rattle.hl_cursor.specs.declared.refused.Refused.{Refused}
use Rattle.hl_cursor.specs.Gives.{Reads}
use Rattle.hl_syntax.specs.declared.tree.TypeText.{TypeText}
use Rattle.hl_syntax.specs.declared.tree.Pattern.{Pattern}
use Rattle.hl_grammar.specs.Readers.{Reader}
use Rattle.hl_grammar.specs.Read as read

-- a function value that may be called at a depth, and reads as a reader does
pub record Nests {A : Type 0} (reader : Reader A) (depth : ℕ) (pre : Global → MutBor (List Token) → ℕ → Type 0)
    (post : Global → MutBor (List Token) → ℕ → Result A Refused → MutBor (List Token) → Type 0) : Type 0 where
  pub callable : (alloc : Global) (old : MutBor (List Token)) → pre alloc old depth
  pub reads : (alloc : Global) (old new : MutBor (List Token)) (r : Result A Refused) → post alloc old depth r new → Reads (reader old.now) r new.now

-- one that reads the types that are nested less than so deep, and one that reads the patterns
abbrev pub NestsType : ℕ → (Global → MutBor (List Token) → ℕ → Type 0) → (Global → MutBor (List Token) → ℕ → Result TypeText Refused → MutBor (List Token) → Type 0) → Type 0
NestsType depth pre post = Nests (read.type depth) depth pre post

abbrev pub NestsPattern : ℕ → (Global → MutBor (List Token) → ℕ → Type 0) → (Global → MutBor (List Token) → ℕ → Result Pattern Refused → MutBor (List Token) → Type 0) → Type 0
NestsPattern depth pre post = Nests (read.pattern depth) depth pre post
