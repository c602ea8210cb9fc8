-- What a list gives under lower types: on values that are shrunk to them, the shrunk value.
use Rattle.std.specs.Prelude.{◌≡◌, List, Some, None}
use Rattle.simplicity.specs.Types.{Kind, Value, IsOf, AreOf, shrink, shrink_all}
use Rattle.simplicity.specs.Terms.{Answer, meaning}
use Rattle.simplicity.specs.Nodes.{Node, IsPlaced, HasRoot, tree_of}
use Rattle.simplicity.specs.Typing.{Typing, Arrow, IsTyping, IsTypingAt, IsTypingBelow, IsLeast, root_arrow, witness_targets}

-- an answer's value shrunk to a type; a failure stays one
abbrev pub shrunk : Answer → Kind → Answer
shrunk None k = None
shrunk (Some v) k = Some (shrink v k)

-- two typings of a placed list with a root, of which the first lies at or below the second
pub record Lowered (ns : List Node) (low high : Typing) : Type 0 where
  pub placed : IsPlaced ns
  pub rooted : HasRoot ns
  pub low_typed : IsTyping ns low
  pub high_typed : IsTyping ns high
  pub below : IsTypingBelow low high

-- values of the witness nodes' targets, and an input of the root's source
pub record FitsTyping (ns : List Node) (ts : Typing) (w : List Value) (v : Value) : Type 0 where
  pub witnesses : AreOf w (witness_targets ns ts)
  pub input : IsOf v (root_arrow ns ts).source

-- on the shrunk input with the shrunk witnesses the list's tree gives the shrunk value, and fails exactly where it fails; shrunk values are of the lower types
pub record ShrinkLaw : Type 0 where
  pub gives : (ns : List Node) (low high : Typing) (w : List Value) (v : Value) → Lowered ns low high →
      meaning (tree_of ns) (shrink_all w (witness_targets ns low)) (shrink v (root_arrow ns low).source) ≡ shrunk (meaning (tree_of ns) w v) (root_arrow ns low).target
  pub fits : (ns : List Node) (low high : Typing) (w : List Value) (v : Value) → Lowered ns low high → FitsTyping ns high w v →
      FitsTyping ns low (shrink_all w (witness_targets ns low)) (shrink v (root_arrow ns low).source)

-- the least typing with an arrow changes no result: with its witnesses the list's tree gives what it gives with those of any typing
abbrev pub LeastChangesNothing : Type 0
LeastChangesNothing = (ns : List Node) (root : Arrow) (least ts : Typing) (w : List Value) (v : Value) → IsPlaced ns → HasRoot ns → IsLeast ns root least → IsTypingAt ns root ts →
    FitsTyping ns ts w v → meaning (tree_of ns) (shrink_all w (witness_targets ns least)) v ≡ meaning (tree_of ns) w v
