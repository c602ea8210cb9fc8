-- Heads of functions.
use Rattle.std.specs.Prelude.{List}
use Rattle.hl_syntax.specs.declared.kinds.HlType.{HlType}
use Rattle.hl_syntax.specs.declared.kinds.TypedName.{TypedName}
use Rattle.hl_rules.specs.Declared.{Head}

abbrev pub head_of : List TypedName × HlType → Head
head_of found = record { params = found.0; result = found.1 }
