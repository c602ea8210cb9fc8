-- The terms of loops, each over the term of its function.
use Rattle.std.specs.Prelude.{ℕ, zero, suc, ◌^◌, replicate}
use Rattle.simplicity.specs.Arrows.{source, target}
use Rattle.simplicity.specs.Canon.{Declared}
use Rattle.simplicity.specs.Makes.{first_of, second_of, left_of, iden, unit, comp, pair, on_first, on_second, to_left, to_right, by_tag}
use Rattle.simplicity.specs.Tuples.{halves}
use Rattle.simplicity.specs.Types.{Kind, One, Product, word_kind}

-- on what is folded beside what was made of the items before
abbrev pub folded_kind : Declared → Kind
folded_kind t = first_of (source t)

abbrev pub made_kind : Declared → Kind
made_kind t = second_of (source t)

-- on a pair and what was made: the first term on the first part, then the second on the second part and what the first made
abbrev pub in_turn_of : (a x y : Kind) (s t : Declared) → Declared
in_turn_of a x y s t = comp (pair (on_first a (on_second x (iden y))) (comp (pair (on_first a (on_first y (iden x))) (on_second (Product x y) (iden a))) s)) t

abbrev pub in_turn : Declared → Declared → Declared
in_turn s t = in_turn_of (made_kind s) (folded_kind s) (folded_kind t) s t

-- over no items
abbrev pub made_before : Kind → Declared
made_before a = on_second One (iden a)

-- over a tuple of so many items
abbrev pub array_fold : Declared → ℕ → Declared
array_fold f count = halves count (made_before (made_kind f)) in_turn (replicate count f)

-- over what is there or not
abbrev pub where_there_of : (a x : Kind) (t : Declared) → Declared
where_there_of a x t = by_tag One x a (made_before a) t

abbrev pub where_there : Declared → Declared
where_there t = where_there_of (made_kind t) (folded_kind t) t

-- over a list of fewer than 2 ^ (level + 1) items
abbrev pub list_fold : Declared → ℕ → Declared
list_fold f zero = where_there f
list_fold f (suc level) = in_turn (where_there (array_fold f (2 ^ suc level))) (list_fold f level)

-- a function of what was made, a context and a counter of 2 ^ k bits
abbrev pub context_kind : Declared → Kind
context_kind f = first_of (second_of (source f))

abbrev pub counter_kind : Declared → Kind
counter_kind f = second_of (second_of (source f))

abbrev pub started_kind : Declared → Kind
started_kind f = first_of (source f)

-- the function at a bit of the counter
abbrev pub turn_of : (a c : Kind) (f bit : Declared) → Declared
turn_of a c f bit = comp (pair (on_first c (iden a)) (pair (on_second a (iden c)) bit)) f

abbrev pub zero_bit : (a c : Kind) → Declared
zero_bit a c = to_left One (unit (Product a c))

abbrev pub one_bit : (a c : Kind) → Declared
one_bit a c = to_right One (unit (Product a c))

abbrev pub two_turns_of : (a c b : Kind) (f : Declared) → Declared
two_turns_of a c b f =
    comp (pair (turn_of a c f (zero_bit a c)) (on_second a (iden c)))
    (by_tag b a c (to_left a (on_first c (iden b))) (turn_of a c f (one_bit a c)))

-- the function with the high half of the counter, of 2 ^ k bits, in its context
abbrev pub regrouped_of : (a c n : Kind) (f : Declared) → Declared
regrouped_of a c n f =
    comp (pair (on_first (Product (Product c n) n) (iden a))
    (pair (on_second a (on_first n (on_first n (iden c))))
    (pair (on_second a (on_first n (on_second c (iden n)))) (on_second a (on_second (Product c n) (iden n)))))) f

abbrev pub regrouped : ℕ → Declared → Declared
regrouped k f = regrouped_of (started_kind f) (context_kind f) (word_kind k) f

-- until Left, or to the end of a counter of 2 ^ k bits
abbrev pub while_at : ℕ → Declared → Declared
while_at zero f = two_turns_of (started_kind f) (context_kind f) (left_of (target f)) f
while_at (suc k) f = while_at k (while_at k (regrouped k f))
