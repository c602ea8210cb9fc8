-- What the list of a small source promises.
use Rattle.std.specs.Prelude.{◌≡◌, ℕ, ◌≤◌, List, [], length, Some}
use Rattle.simplicity.specs.Nodes.{Node, HasRoot, tree_of}
use Rattle.simplicity.specs.Shared.{IsCanonical}
use Rattle.simplicity.specs.Terms.{meaning}
use Rattle.simplicity.specs.Typing.{Arrow, arrow, Typing, IsTypingAt}
use Rattle.small_source.specs.Small.{Small, nesting}
use Rattle.small_terms.specs.Result.{result_value}
use Rattle.small_terms.specs.Tuples.{bytes_value, bytes_kind, result_kind}

-- from the tuple of the parameters to what the body gives
abbrev pub arrow_of : Small → Arrow
arrow_of f = arrow (bytes_kind (length f.parameters)) (result_kind f.body)

-- no other typing of the list has this arrow at the root
abbrev pub HasOneTyping : List Node → Arrow → Type 0
HasOneTyping nodes root = (ts us : Typing) → IsTypingAt nodes root ts → IsTypingAt nodes root us → ts ≡ us

-- the list has a root, is canonical at the function's arrow, where it has one typing, and on all bytes for the parameters
-- its tree gives what the body names
pub record IsCompiled (nodes : List Node) (f : Small) : Type 0 where
  pub rooted : HasRoot nodes
  pub canonical : IsCanonical nodes (arrow_of f)
  pub one_typing : HasOneTyping nodes (arrow_of f)
  pub gives : (bytes : List ℕ) → length bytes ≡ length f.parameters → meaning (tree_of nodes) [] (bytes_value bytes) ≡ Some (result_value f.parameters bytes f.body)

-- a function has so few parameters, and a result nested so little
pub record IsModest (f : Small) : Type 0 where
  pub parameters : length f.parameters ≤ 8
  pub nested : nesting f.body ≤ 8
