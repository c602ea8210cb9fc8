-- Each jet at once.
use Rattle.jets.specs.Jet.{Jet}
use Rattle.jet_terms.specs.Laws.{JetsCompute}
use Rattle.jet_terms.proofs.GateLaws.{low_law, high_law, complement_law, and_law, or_law, xor_law, maj_law, xor_xor_law, ch_law, some_law, all_law, is_zero_law, is_one_law, eq_law, verify_law}
use Rattle.jet_terms.proofs.OrderLaws.{lt_law, le_law, min_law, max_law, median_law}
use Rattle.jet_terms.proofs.SumLaws.{full_add_law, add_law, full_increment_law, increment_law}
use Rattle.jet_terms.proofs.DifferenceLaws.{full_subtract_law, subtract_law, full_decrement_law, decrement_law, negate_law}
use Rattle.jet_terms.proofs.ProductLaws.{full_multiply_law, multiply_law}
use Rattle.jet_terms.proofs.QuotientLaws.{div_mod_law, divide_law, modulo_law, divides_law}
use Rattle.jet_terms.proofs.PartLaws.{leftmost_law, rightmost_law}
use Rattle.jet_terms.proofs.PadLaws.{left_pad_low_law, left_pad_high_law, left_extend_law, right_pad_low_law, right_pad_high_law, right_extend_law}
use Rattle.jet_terms.proofs.ShiftLaws.{left_shift_with_law, right_shift_with_law, left_shift_law, right_shift_law, left_rotate_law, right_rotate_law}
use Rattle.jets.specs.Jet as jet

pub each_law : JetsCompute
each_law jet.Add = add_law
each_law jet.All = all_law
each_law jet.And = and_law
each_law jet.Ch = ch_law
each_law jet.Complement = complement_law
each_law jet.Decrement = decrement_law
each_law jet.DivMod = div_mod_law
each_law jet.Divide = divide_law
each_law jet.Divides = divides_law
each_law jet.Eq = eq_law
each_law jet.FullAdd = full_add_law
each_law jet.FullDecrement = full_decrement_law
each_law jet.FullIncrement = full_increment_law
each_law jet.FullMultiply = full_multiply_law
each_law jet.FullSubtract = full_subtract_law
each_law jet.High = high_law
each_law jet.Increment = increment_law
each_law jet.IsOne = is_one_law
each_law jet.IsZero = is_zero_law
each_law jet.Le = le_law
each_law jet.LeftExtend = left_extend_law
each_law jet.LeftPadHigh = left_pad_high_law
each_law jet.LeftPadLow = left_pad_low_law
each_law jet.LeftRotate = left_rotate_law
each_law jet.LeftShift = left_shift_law
each_law jet.LeftShiftWith = left_shift_with_law
each_law jet.Leftmost = leftmost_law
each_law jet.Low = low_law
each_law jet.Lt = lt_law
each_law jet.Maj = maj_law
each_law jet.Max = max_law
each_law jet.Median = median_law
each_law jet.Min = min_law
each_law jet.Modulo = modulo_law
each_law jet.Multiply = multiply_law
each_law jet.Negate = negate_law
each_law jet.Or = or_law
each_law jet.RightExtend = right_extend_law
each_law jet.RightPadHigh = right_pad_high_law
each_law jet.RightPadLow = right_pad_low_law
each_law jet.RightRotate = right_rotate_law
each_law jet.RightShift = right_shift_law
each_law jet.RightShiftWith = right_shift_with_law
each_law jet.Rightmost = rightmost_law
each_law jet.Some = some_law
each_law jet.Subtract = subtract_law
each_law jet.Verify = verify_law
each_law jet.Xor = xor_law
each_law jet.XorXor = xor_xor_law
