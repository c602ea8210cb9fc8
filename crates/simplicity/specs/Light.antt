-- Typings within the limit of weights, as every call that takes a typing asks for one (the limit is this project's own).
use Rattle.std.specs.Prelude.{List}
use Rattle.simplicity.specs.Nodes.{Node}
use Rattle.simplicity.specs.Typing.{Typing, IsTyping, IsLight}
use Rattle.simplicity.specs.Limits.{most_weight}

-- the typing is one of the list, and none of its types weighs more than the limit
abbrev pub IsLightTyping : List Node → Typing → Type 0
IsLightTyping ns ts = IsTyping ns ts × IsLight most_weight ts
