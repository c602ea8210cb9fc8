-- Scopes within scopes.
use Rattle.std.specs.Prelude.{◌≡◌, List, ◌++◌}
use Rattle.hl_syntax.specs.declared.kinds.TypedName.{TypedName}

-- the inner scope has the outer one, and variables before it
pub record IsInner (outer inner : List TypedName) : Type 0 where
  pub names : List TypedName
  pub is : inner ≡ names ++ outer
