-- Rows of what terms are made with, computed: a tuple of three, a word of 8 bits, a fold of three items, a loop with a counter of 2 bits, arrows.
use Rattle.std.proofs.Common.{◌≡◌, ℕ, zero, suc, true, false, [], ◌∷◌, Some, None, refl}
use Rattle.simplicity.specs.Types.{Kind, One, Product, Value, UnitValue, Inl, Inr, Pair, word_kind, word_value}
use Rattle.simplicity.specs.Terms.{Answer, meaning}
use Rattle.simplicity.specs.Typing.{arrow}
use Rattle.simplicity.specs.Tuples.{tuple_value, tuple_kind, copies_kind}
use Rattle.simplicity.specs.Canon.{Declared, erased}
use Rattle.simplicity.specs.Arrows.{declared_arrow}
use Rattle.simplicity.specs.Makes.{iden, unit, comp, pair, on_first, on_second, to_left, to_right, by_tag, tuple}
use Rattle.simplicity.specs.Flowed.{flowed}
use Rattle.simplicity.specs.Digits.{Digits, number, tree}
use Rattle.simplicity.specs.Loops.{folded, counted, ran, core_answering, core_sides}

-- the first half is rounded down
three_values : (a b c : Value) → tuple_value (a ∷ b ∷ c ∷ []) ≡ Pair a (Pair b c)
three_values a b c = refl

three_kinds : (a b c : Kind) → tuple_kind (a ∷ b ∷ c ∷ []) ≡ Product a (Product b c)
three_kinds a b c = refl

five_copies : (a : Kind) → copies_kind 5 a ≡ Product (Product a a) (Product a (Product a a))
five_copies a = refl

three_terms : (a : Kind) (s t u : Declared) → tuple a (s ∷ t ∷ u ∷ []) ≡ pair s (pair t u)
three_terms a s t u = refl

-- 165 is 10100101
byte_digits : Digits 3
byte_digits = (((true, false), (true, false)), ((false, true), (false, true)))

byte_number : number 3 byte_digits ≡ 165
unfolding byte_digits
byte_number = refl

byte_tree : tree 3 byte_digits ≡ word_value 3 165
unfolding byte_digits
byte_tree = refl

-- the last item is the outermost
fold_of_three : (a b c made : Value) → folded core_answering (λ item made. Some (Pair item made)) (a ∷ b ∷ c ∷ []) made ≡ Some (Pair c (Pair b (Pair a made)))
fold_of_three a b c made = refl

fold_that_fails : (a b : Value) → folded core_answering (λ item made. None) (a ∷ b ∷ []) a ≡ None
fold_that_fails a b = refl

-- four turns, with the counter from 0 to 3
abbrev seen : ℕ → Value → Answer
seen n made = Some (Inr (Pair (word_value 1 n) made))

all_turns : (a : Value) → counted core_answering core_sides seen 4 0 a
    ≡ Some (Inr (Pair (word_value 1 3) (Pair (word_value 1 2) (Pair (word_value 1 1) (Pair (word_value 1 0) a)))))
all_turns a = refl

all_run : (a : Value) → ran core_answering core_sides seen 3 0 a ≡ counted core_answering core_sides seen 4 0 a
all_run a = refl

-- Left in the third turn
abbrev until_2 : ℕ → Value → Answer
until_2 (suc (suc zero)) made = Some (Inl made)
until_2 n made = seen n made

ended : (a : Value) → counted core_answering core_sides until_2 4 0 a ≡ Some (Inl (Pair (word_value 1 1) (Pair (word_value 1 0) a)))
ended a = refl

neither : (a : Value) → counted core_answering core_sides (λ n made. Some UnitValue) 4 0 a ≡ None
neither a = refl

-- arrows from the parts, and from the source
swapped_parts : (a b : Kind) → declared_arrow (pair (on_second a (iden b)) (on_first b (iden a))) ≡ arrow (Product a b) (Product b a)
swapped_parts a b = refl

not_bit : Declared
not_bit = comp (pair (iden (word_kind 0)) (unit (word_kind 0))) (by_tag One One One (to_right One (unit (Product One One))) (to_left One (unit (Product One One))))

not_arrow : declared_arrow not_bit ≡ arrow (word_kind 0) (word_kind 0)
unfolding not_bit
not_arrow = refl

not_flowed : flowed (erased not_bit) (word_kind 0) ≡ not_bit
unfolding not_bit
not_flowed = refl

not_zero : meaning (erased not_bit) [] (word_value 0 0) ≡ Some (word_value 0 1)
unfolding not_bit
not_zero = refl
