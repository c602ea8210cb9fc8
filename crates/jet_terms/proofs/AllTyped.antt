-- The term of each jet is typed.
use Rattle.std.proofs.Common.{◌-◌, sym, subst}
use Rattle.simplicity.specs.Types.{Kind, One, word_kind}
use Rattle.simplicity.specs.Arrows.{IsTypedFrom}
use Rattle.simplicity.specs.Flowed.{flowed}
use Rattle.simplicity.proofs.Flowed.{source_flowed, flowed_typed}
use Rattle.simplicity.specs.Terms.{Term}
use Rattle.simplicity.specs.Widths.{level_of}
use Rattle.jet_terms.specs.Trees.{not_1, and_1, or_1, xor_1, maj_1, xor_xor_1, ch_1, zeros, ones, leftmost, rightmost}
use Rattle.jet_terms.specs.Expansions.{expansion, source_of, result_of, amount_level}
use Rattle.simplicity.specs.Makes.{fail_root}
use Rattle.jet_terms.specs.Laws.{JetsAreTyped}
use Rattle.jet_terms.proofs.ProductLaws.{doubled}
use Rattle.jet_terms.proofs.PartLaws.{narrowed_spread}
use Rattle.jet_terms.proofs.PadLaws.{widened_spread}
use Rattle.jet_terms.proofs.ShiftLaws.{amounts}
use Rattle.jet_terms.proofs.Typed.{Leads, add_leads, all_leads, and_1_leads, ch_1_leads, decrement_leads, div_mod_leads, divide_leads, divides_leads, eq_leads, full_add_leads, full_decrement_leads, full_increment_leads, full_multiply_leads, full_subtract_leads, greatest_leads, increment_leads, is_one_leads, is_zero_leads, le_leads, least_leads, left_extend_leads, left_pad_leads, left_rotate_leads, left_shift_leads, left_shift_with_leads, leftmost_leads, lift1_leads, lift2_leads, lift3_leads, lt_leads, maj_1_leads, median_leads, modulo_leads, multiply_leads, negate_leads, not_1_leads, ones_lead, or_1_leads, right_extend_leads, right_pad_leads, right_rotate_leads, right_shift_leads, right_shift_with_leads, rightmost_leads, some_leads, subtract_leads, verify_leads, xor_1_leads, xor_xor_1_leads, zeros_lead}
use Rattle.jets.specs.Jet as jet

leads_typed : (t : Term) (a b : Kind) → Leads t a b → IsTypedFrom (flowed t a) a b
leads_typed t a b h = record { from = source_flowed t a; to = h.1; typed = flowed_typed t a h.0 }

pub each_typed : JetsAreTyped
each_typed jet.Add n w is = leads_typed (expansion jet.Add n w) (source_of jet.Add n w) (result_of jet.Add n w) (add_leads (level_of n))
each_typed jet.All n w is = leads_typed (expansion jet.All n w) (source_of jet.All n w) (result_of jet.All n w) (all_leads (level_of n))
each_typed jet.And n w is = leads_typed (expansion jet.And n w) (source_of jet.And n w) (result_of jet.And n w) (lift2_leads and_1 and_1_leads (level_of n))
each_typed jet.Ch n w is = leads_typed (expansion jet.Ch n w) (source_of jet.Ch n w) (result_of jet.Ch n w) (lift3_leads ch_1 ch_1_leads (level_of n))
each_typed jet.Complement n w is = leads_typed (expansion jet.Complement n w) (source_of jet.Complement n w) (result_of jet.Complement n w) (lift1_leads not_1 not_1_leads (level_of n))
each_typed jet.Decrement n w is = leads_typed (expansion jet.Decrement n w) (source_of jet.Decrement n w) (result_of jet.Decrement n w) (decrement_leads (level_of n))
each_typed jet.DivMod n w is = leads_typed (expansion jet.DivMod n w) (source_of jet.DivMod n w) (result_of jet.DivMod n w) (div_mod_leads (level_of n))
each_typed jet.Divide n w is = leads_typed (expansion jet.Divide n w) (source_of jet.Divide n w) (result_of jet.Divide n w) (divide_leads (level_of n))
each_typed jet.Divides n w is = leads_typed (expansion jet.Divides n w) (source_of jet.Divides n w) (result_of jet.Divides n w) (divides_leads (level_of n))
each_typed jet.Eq n w is = leads_typed (expansion jet.Eq n w) (source_of jet.Eq n w) (result_of jet.Eq n w) (eq_leads (level_of n))
each_typed jet.FullAdd n w is = leads_typed (expansion jet.FullAdd n w) (source_of jet.FullAdd n w) (result_of jet.FullAdd n w) (full_add_leads (level_of n))
each_typed jet.FullDecrement n w is = leads_typed (expansion jet.FullDecrement n w) (source_of jet.FullDecrement n w) (result_of jet.FullDecrement n w) (full_decrement_leads (level_of n))
each_typed jet.FullIncrement n w is = leads_typed (expansion jet.FullIncrement n w) (source_of jet.FullIncrement n w) (result_of jet.FullIncrement n w) (full_increment_leads (level_of n))
each_typed jet.FullMultiply n w is = leads_typed (expansion jet.FullMultiply n w) (source_of jet.FullMultiply n w) (result_of jet.FullMultiply n w) (subst (λ l. Leads (expansion jet.FullMultiply n w) (source_of jet.FullMultiply n w) (word_kind l)) (sym (doubled n w is)) (full_multiply_leads (level_of n)))
each_typed jet.FullSubtract n w is = leads_typed (expansion jet.FullSubtract n w) (source_of jet.FullSubtract n w) (result_of jet.FullSubtract n w) (full_subtract_leads (level_of n))
each_typed jet.High n w is = leads_typed (expansion jet.High n w) (source_of jet.High n w) (result_of jet.High n w) (ones_lead (level_of n) One)
each_typed jet.Increment n w is = leads_typed (expansion jet.Increment n w) (source_of jet.Increment n w) (result_of jet.Increment n w) (increment_leads (level_of n))
each_typed jet.IsOne n w is = leads_typed (expansion jet.IsOne n w) (source_of jet.IsOne n w) (result_of jet.IsOne n w) (is_one_leads (level_of n))
each_typed jet.IsZero n w is = leads_typed (expansion jet.IsZero n w) (source_of jet.IsZero n w) (result_of jet.IsZero n w) (is_zero_leads (level_of n))
each_typed jet.Le n w is = leads_typed (expansion jet.Le n w) (source_of jet.Le n w) (result_of jet.Le n w) (le_leads (level_of n))
each_typed jet.LeftExtend n w is = leads_typed (expansion jet.LeftExtend n w) (source_of jet.LeftExtend n w) (result_of jet.LeftExtend n w) (subst (λ l. Leads (expansion jet.LeftExtend n w) (word_kind (level_of n)) (word_kind l)) (sym (widened_spread n w is).2) (left_extend_leads (level_of n) (level_of w - level_of n)))
each_typed jet.LeftPadHigh n w is = leads_typed (expansion jet.LeftPadHigh n w) (source_of jet.LeftPadHigh n w) (result_of jet.LeftPadHigh n w) (subst (λ l. Leads (expansion jet.LeftPadHigh n w) (word_kind (level_of n)) (word_kind l)) (sym (widened_spread n w is).2) (left_pad_leads ones ones_lead (level_of n) (level_of w - level_of n)))
each_typed jet.LeftPadLow n w is = leads_typed (expansion jet.LeftPadLow n w) (source_of jet.LeftPadLow n w) (result_of jet.LeftPadLow n w) (subst (λ l. Leads (expansion jet.LeftPadLow n w) (word_kind (level_of n)) (word_kind l)) (sym (widened_spread n w is).2) (left_pad_leads zeros zeros_lead (level_of n) (level_of w - level_of n)))
each_typed jet.LeftRotate n w is = leads_typed (expansion jet.LeftRotate n w) (source_of jet.LeftRotate n w) (result_of jet.LeftRotate n w) (left_rotate_leads (amount_level n) (level_of n) (amounts n w is).2)
each_typed jet.LeftShift n w is = leads_typed (expansion jet.LeftShift n w) (source_of jet.LeftShift n w) (result_of jet.LeftShift n w) (left_shift_leads (amount_level n) (level_of n) (amounts n w is).2)
each_typed jet.LeftShiftWith n w is = leads_typed (expansion jet.LeftShiftWith n w) (source_of jet.LeftShiftWith n w) (result_of jet.LeftShiftWith n w) (left_shift_with_leads (amount_level n) (level_of n) (amounts n w is).2)
each_typed jet.Leftmost n w is = leads_typed (expansion jet.Leftmost n w) (source_of jet.Leftmost n w) (result_of jet.Leftmost n w) (subst (λ l. Leads (leftmost (level_of w - level_of n)) (word_kind l) (word_kind (level_of n))) (sym (narrowed_spread n w is).2) (leftmost_leads (level_of n) (level_of w - level_of n)))
each_typed jet.Low n w is = leads_typed (expansion jet.Low n w) (source_of jet.Low n w) (result_of jet.Low n w) (zeros_lead (level_of n) One)
each_typed jet.Lt n w is = leads_typed (expansion jet.Lt n w) (source_of jet.Lt n w) (result_of jet.Lt n w) (lt_leads (level_of n))
each_typed jet.Maj n w is = leads_typed (expansion jet.Maj n w) (source_of jet.Maj n w) (result_of jet.Maj n w) (lift3_leads maj_1 maj_1_leads (level_of n))
each_typed jet.Max n w is = leads_typed (expansion jet.Max n w) (source_of jet.Max n w) (result_of jet.Max n w) (greatest_leads (level_of n))
each_typed jet.Median n w is = leads_typed (expansion jet.Median n w) (source_of jet.Median n w) (result_of jet.Median n w) (median_leads (level_of n))
each_typed jet.Min n w is = leads_typed (expansion jet.Min n w) (source_of jet.Min n w) (result_of jet.Min n w) (least_leads (level_of n))
each_typed jet.Modulo n w is = leads_typed (expansion jet.Modulo n w) (source_of jet.Modulo n w) (result_of jet.Modulo n w) (modulo_leads (level_of n))
each_typed jet.Multiply n w is = leads_typed (expansion jet.Multiply n w) (source_of jet.Multiply n w) (result_of jet.Multiply n w) (subst (λ l. Leads (expansion jet.Multiply n w) (source_of jet.Multiply n w) (word_kind l)) (sym (doubled n w is)) (multiply_leads (level_of n)))
each_typed jet.Negate n w is = leads_typed (expansion jet.Negate n w) (source_of jet.Negate n w) (result_of jet.Negate n w) (negate_leads (level_of n))
each_typed jet.Or n w is = leads_typed (expansion jet.Or n w) (source_of jet.Or n w) (result_of jet.Or n w) (lift2_leads or_1 or_1_leads (level_of n))
each_typed jet.RightExtend n w is = leads_typed (expansion jet.RightExtend n w) (source_of jet.RightExtend n w) (result_of jet.RightExtend n w) (subst (λ l. Leads (expansion jet.RightExtend n w) (word_kind (level_of n)) (word_kind l)) (sym (widened_spread n w is).2) (right_extend_leads (level_of n) (level_of w - level_of n)))
each_typed jet.RightPadHigh n w is = leads_typed (expansion jet.RightPadHigh n w) (source_of jet.RightPadHigh n w) (result_of jet.RightPadHigh n w) (subst (λ l. Leads (expansion jet.RightPadHigh n w) (word_kind (level_of n)) (word_kind l)) (sym (widened_spread n w is).2) (right_pad_leads ones ones_lead (level_of n) (level_of w - level_of n)))
each_typed jet.RightPadLow n w is = leads_typed (expansion jet.RightPadLow n w) (source_of jet.RightPadLow n w) (result_of jet.RightPadLow n w) (subst (λ l. Leads (expansion jet.RightPadLow n w) (word_kind (level_of n)) (word_kind l)) (sym (widened_spread n w is).2) (right_pad_leads zeros zeros_lead (level_of n) (level_of w - level_of n)))
each_typed jet.RightRotate n w is = leads_typed (expansion jet.RightRotate n w) (source_of jet.RightRotate n w) (result_of jet.RightRotate n w) (right_rotate_leads (amount_level n) (level_of n) (amounts n w is).2)
each_typed jet.RightShift n w is = leads_typed (expansion jet.RightShift n w) (source_of jet.RightShift n w) (result_of jet.RightShift n w) (right_shift_leads (amount_level n) (level_of n) (amounts n w is).2)
each_typed jet.RightShiftWith n w is = leads_typed (expansion jet.RightShiftWith n w) (source_of jet.RightShiftWith n w) (result_of jet.RightShiftWith n w) (right_shift_with_leads (amount_level n) (level_of n) (amounts n w is).2)
each_typed jet.Rightmost n w is = leads_typed (expansion jet.Rightmost n w) (source_of jet.Rightmost n w) (result_of jet.Rightmost n w) (subst (λ l. Leads (rightmost (level_of w - level_of n)) (word_kind l) (word_kind (level_of n))) (sym (narrowed_spread n w is).2) (rightmost_leads (level_of n) (level_of w - level_of n)))
each_typed jet.Some n w is = leads_typed (expansion jet.Some n w) (source_of jet.Some n w) (result_of jet.Some n w) (some_leads (level_of n))
each_typed jet.Subtract n w is = leads_typed (expansion jet.Subtract n w) (source_of jet.Subtract n w) (result_of jet.Subtract n w) (subtract_leads (level_of n))
each_typed jet.Verify n w is = leads_typed (expansion jet.Verify n w) (source_of jet.Verify n w) (result_of jet.Verify n w) (verify_leads fail_root)
each_typed jet.Xor n w is = leads_typed (expansion jet.Xor n w) (source_of jet.Xor n w) (result_of jet.Xor n w) (lift2_leads xor_1 xor_1_leads (level_of n))
each_typed jet.XorXor n w is = leads_typed (expansion jet.XorXor n w) (source_of jet.XorXor n w) (result_of jet.XorXor n w) (lift3_leads xor_xor_1 xor_xor_1_leads (level_of n))
