-- The worked programs without witnesses are accepted at their arrows, with an empty stream.
use Rattle.std.proofs.Common.{◌≡◌, refl, List, [], ◌∷◌, ℕ, ◌≤◌, length, Bool, true, ◌&&◌, Option, Some, None, arith}
use Rattle.std.specs.Prelude.{nat_le}
use Rattle.std.proofs.lemmas.Bool.{leb-true}
use Rattle.simplicity.specs.Types.{One, weight}
use Rattle.simplicity.specs.Nodes.{Node}
use Rattle.simplicity.specs.Typing.{Typing, Arrow, arrow, IsLeast, IsLight, IsEntryLight, witness_targets}
use Rattle.simplicity.specs.Order.{IsOrdered}
use Rattle.simplicity.specs.Spelling.{Spelled}
use Rattle.simplicity.specs.Limits.{most_weight, most_nodes}
use Rattle.simplicity.specs.Accepted.{Accepted}
use Rattle.simplicity.proofs.Sharing.{shared_by, mark_with, are_apart, numbers_of, both_true}
use Rattle.simplicity.proofs.Rows.{empty_bytes, empty_nodes, empty_typing, same_bytes, same_nodes, same_typing, second_bytes, second_nodes, second_typing, swap_bytes, swap_nodes, swap_typing, five_bytes, five_nodes, five_typing, assert_bytes, assert_nodes, assert_typing, byte, two_bytes}
use Rattle.simplicity.proofs.RowBits.{empty_spelled, same_spelled, second_spelled, swap_spelled, five_spelled, assert_spelled}
use Rattle.simplicity.proofs.RowTypings.{empty_least, same_least, second_least, swap_least, five_least, assert_least}

-- whether no type weighs more, by a test
is_entry_light : ℕ → Option Arrow → Bool
is_entry_light most None = true
is_entry_light most (Some a) = nat_le (weight a.source) most && nat_le (weight a.target) most

is_light : ℕ → Typing → Bool
is_light most [] = true
is_light most (e ∷ ts) = is_entry_light most e && is_light most ts

entry_light_by : (most : ℕ) (e : Option Arrow) → is_entry_light most e ≡ true → IsEntryLight most e
unfolding is_entry_light
entry_light_by most None h = tt
entry_light_by most (Some a) h =
    let parts = both_true (nat_le (weight a.source) most) (nat_le (weight a.target) most) h in
    (leb-true (weight a.source) most parts.0, leb-true (weight a.target) most parts.1)

light_by : (most : ℕ) (ts : Typing) → is_light most ts ≡ true → IsLight most ts
unfolding is_light
light_by most [] h = tt
light_by most (e ∷ ts) h =
    let parts = both_true (is_entry_light most e) (is_light most ts) h in
    (entry_light_by most e parts.0, light_by most ts parts.1)

accepted : (bytes : List ℕ) (root : Arrow) (ns : List Node) (ts : Typing) → Spelled bytes ns → length ns ≤ most_nodes → IsOrdered ns → IsLeast ns root ts →
    are_apart (numbers_of mark_with ns ts) ≡ true → is_light most_weight ts ≡ true → witness_targets ns ts ≡ [] → Accepted bytes [] root ns ts []
accepted bytes root ns ts spelled few ordered least apart light none = record {
  spelled = spelled;
  few = few;
  canonical = record { placed = spelled.placed; ordered = ordered; least = least; shared = shared_by mark_with ns ts apart };
  light = light_by most_weight ts light;
  values = record { typed = rw none tt; padded = record { zeros = 0; few = omega arith; same = refl } };
}

empty_accepted : Accepted empty_bytes [] (arrow One One) empty_nodes empty_typing []
unfolding is_light is_entry_light
empty_accepted = accepted empty_bytes (arrow One One) empty_nodes empty_typing empty_spelled (omega arith) refl empty_least refl refl refl

same_accepted : Accepted same_bytes [] (arrow byte byte) same_nodes same_typing []
unfolding is_light is_entry_light
same_accepted = accepted same_bytes (arrow byte byte) same_nodes same_typing same_spelled (omega arith) refl same_least refl refl refl

second_accepted : Accepted second_bytes [] (arrow two_bytes byte) second_nodes second_typing []
unfolding is_light is_entry_light
second_accepted = accepted second_bytes (arrow two_bytes byte) second_nodes second_typing second_spelled (omega arith) refl second_least refl refl refl

swap_accepted : Accepted swap_bytes [] (arrow two_bytes two_bytes) swap_nodes swap_typing []
unfolding is_light is_entry_light
swap_accepted = accepted swap_bytes (arrow two_bytes two_bytes) swap_nodes swap_typing swap_spelled (omega arith) refl swap_least refl refl refl

five_accepted : Accepted five_bytes [] (arrow One byte) five_nodes five_typing []
unfolding is_light is_entry_light
five_accepted = accepted five_bytes (arrow One byte) five_nodes five_typing five_spelled (omega arith) refl five_least refl refl refl

assert_accepted : Accepted assert_bytes [] (arrow One One) assert_nodes assert_typing []
unfolding is_light is_entry_light
assert_accepted = accepted assert_bytes (arrow One One) assert_nodes assert_typing assert_spelled (omega arith) refl assert_least refl refl refl
