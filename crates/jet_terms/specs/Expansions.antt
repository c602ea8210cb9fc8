-- The expansion of each jet: what it does as a term of the core language, at its widths, with an arrow at every place.
use Rattle.std.specs.Prelude.{ℕ, ◌-◌, List, map}
use Rattle.simplicity.specs.Canon.{Declared}
use Rattle.simplicity.specs.Flowed.{flowed}
use Rattle.simplicity.specs.Makes.{fail_root}
use Rattle.simplicity.specs.Terms.{Term}
use Rattle.simplicity.specs.Tuples.{tuple_kind}
use Rattle.simplicity.specs.Types.{Kind}
use Rattle.simplicity.specs.Widths.{level_of, word_of_width}
use Rattle.jets.specs.Jet as jet
use Rattle.jets.specs.Jet.{Jet, width_of, argument_kinds, result_kinds, amount}
use Rattle.jet_terms.specs.Trees as tree

-- the tuple of words of the widths of these
abbrev pub tuple_of : List jet.Kind → Kind
tuple_of ks = tuple_kind (map (λ k. word_of_width (width_of k)) ks)

-- the types of a jet's arguments and of its results
abbrev pub source_of : Jet → ℕ → ℕ → Kind
source_of j n w = tuple_of (argument_kinds j n w)

abbrev pub result_of : Jet → ℕ → ℕ → Kind
result_of j n w = tuple_of (result_kinds j n w)

-- the level of the type of a shift's amount, and how many halvings lead from the greater width to the lesser
abbrev pub amount_level : ℕ → ℕ
amount_level n = level_of (width_of (amount n))

abbrev pub steps : ℕ → ℕ → ℕ
steps n w = level_of w - level_of n

-- the term of a jet, at its lesser and its greater width
abbrev pub expansion : Jet → ℕ → ℕ → Term
expansion jet.Add n w = tree.add (level_of n)
expansion jet.All n w = tree.all_bits (level_of n)
expansion jet.And n w = tree.lift2 tree.and_1 (level_of n)
expansion jet.Ch n w = tree.lift3 tree.ch_1 (level_of n)
expansion jet.Complement n w = tree.complement (level_of n)
expansion jet.Decrement n w = tree.decrement (level_of n)
expansion jet.DivMod n w = tree.div_mod (level_of n)
expansion jet.Divide n w = tree.divide (level_of n)
expansion jet.Divides n w = tree.divides (level_of n)
expansion jet.Eq n w = tree.eq (level_of n)
expansion jet.FullAdd n w = tree.full_add (level_of n)
expansion jet.FullDecrement n w = tree.full_decrement (level_of n)
expansion jet.FullIncrement n w = tree.full_increment (level_of n)
expansion jet.FullMultiply n w = tree.full_multiply (level_of n)
expansion jet.FullSubtract n w = tree.full_subtract (level_of n)
expansion jet.High n w = tree.ones (level_of n)
expansion jet.Increment n w = tree.increment (level_of n)
expansion jet.IsOne n w = tree.is_one (level_of n)
expansion jet.IsZero n w = tree.is_zero (level_of n)
expansion jet.Le n w = tree.le (level_of n)
expansion jet.Low n w = tree.zeros (level_of n)
expansion jet.Lt n w = tree.lt (level_of n)
expansion jet.Maj n w = tree.lift3 tree.maj_1 (level_of n)
expansion jet.Max n w = tree.greatest (level_of n)
expansion jet.Median n w = tree.median (level_of n)
expansion jet.Min n w = tree.least (level_of n)
expansion jet.Modulo n w = tree.modulo (level_of n)
expansion jet.Multiply n w = tree.multiply (level_of n)
expansion jet.Negate n w = tree.negate (level_of n)
expansion jet.Or n w = tree.lift2 tree.or_1 (level_of n)
expansion jet.Some n w = tree.some_bit (level_of n)
expansion jet.Subtract n w = tree.subtract (level_of n)
expansion jet.Xor n w = tree.lift2 tree.xor_1 (level_of n)
expansion jet.XorXor n w = tree.lift3 tree.xor_xor_1 (level_of n)
expansion jet.LeftShift n w = tree.left_shift (amount_level n) (level_of n)
expansion jet.RightShift n w = tree.right_shift (amount_level n) (level_of n)
expansion jet.LeftShiftWith n w = tree.left_shift_with (amount_level n) (level_of n)
expansion jet.RightShiftWith n w = tree.right_shift_with (amount_level n) (level_of n)
expansion jet.LeftRotate n w = tree.left_rotate (amount_level n) (level_of n)
expansion jet.RightRotate n w = tree.right_rotate (amount_level n) (level_of n)
expansion jet.Verify n w = tree.verify fail_root
expansion jet.Leftmost n w = tree.leftmost (steps n w)
expansion jet.Rightmost n w = tree.rightmost (steps n w)
expansion jet.LeftPadLow n w = tree.left_pad tree.zeros (level_of n) (steps n w)
expansion jet.LeftPadHigh n w = tree.left_pad tree.ones (level_of n) (steps n w)
expansion jet.LeftExtend n w = tree.left_extend (level_of n) (steps n w)
expansion jet.RightPadLow n w = tree.right_pad tree.zeros (level_of n) (steps n w)
expansion jet.RightPadHigh n w = tree.right_pad tree.ones (level_of n) (steps n w)
expansion jet.RightExtend n w = tree.right_extend (level_of n) (steps n w)

-- with an arrow at every place
abbrev pub jet_term : Jet → ℕ → ℕ → Declared
jet_term j n w = flowed (expansion j n w) (source_of j n w)
