-- A program that the laws speak of, and that items can be more than the depth: five items stand before the composition of two leaves.
use Rattle.std.proofs.Common.{◌≡◌, refl, [], ◌∷◌, length, Some}
use Rattle.simplicity.specs.Types.{One, UnitValue, word_kind}
use Rattle.simplicity.specs.Nodes as node
use Rattle.simplicity.specs.Typing.{Arrow, arrow}
use Rattle.simplicity.specs.Typing as kinds
use Rattle.simplicity.specs.Bounds.{bounds}
use Rattle.simplicity.specs.Machine.{IsInput, Program, State, Turn, Next, turn, Reaches, Here, Onward, start}

abbrev pub five : Program
five = record {
  nodes = node.UnitNode ∷ node.Word 3 5 ∷ node.Comp 0 1 ∷ [];
  typing = Some (arrow One One) ∷ Some (arrow One (word_kind 3)) ∷ Some (arrow One (word_kind 3)) ∷ [];
  witness = [];
}

pub is_input : IsInput five (arrow One (word_kind 3)) UnitValue
is_input = record {
  placed = (tt, (tt, ((tt, tt), tt)));
  typed = record { typed = (kinds.UnitNode One, (kinds.Word 3 5, (kinds.Comp 0 1 One One (word_kind 3) refl refl, tt))); rooted = refl };
  witness = tt;
  input = tt;
}

abbrev next_of : State → Turn → State
next_of s (Next u) = u
next_of s _ = s

abbrev second : State
second = next_of (start five UnitValue) (turn five (start five UnitValue))

reached : Reaches five (start five UnitValue) second
reached = Onward (start five UnitValue) second second refl (Here second)

items : length second.items ≡ 5
items = refl

depth : (bounds five.nodes five.typing).depth ≡ 2
depth = refl
