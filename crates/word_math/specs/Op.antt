-- What the code's operations stand for.
use Rattle.jets.specs.Jet as jet
use Rattle.jets.specs.Jet.{Jet}
use Rattle.word_math.specs.declared.op.Op.{Op}
use Rattle.word_math.specs.declared.op.Op.TheVariants as code

-- the jet that an operation is
abbrev pub jet_of : Op → Jet
jet_of code.Add = jet.Add
jet_of code.All = jet.All
jet_of code.And = jet.And
jet_of code.Ch = jet.Ch
jet_of code.Complement = jet.Complement
jet_of code.Decrement = jet.Decrement
jet_of code.DivMod = jet.DivMod
jet_of code.Divide = jet.Divide
jet_of code.Divides = jet.Divides
jet_of code.Eq = jet.Eq
jet_of code.FullAdd = jet.FullAdd
jet_of code.FullDecrement = jet.FullDecrement
jet_of code.FullIncrement = jet.FullIncrement
jet_of code.FullMultiply = jet.FullMultiply
jet_of code.FullSubtract = jet.FullSubtract
jet_of code.High = jet.High
jet_of code.Increment = jet.Increment
jet_of code.IsOne = jet.IsOne
jet_of code.IsZero = jet.IsZero
jet_of code.Le = jet.Le
jet_of code.LeftExtend = jet.LeftExtend
jet_of code.LeftPadHigh = jet.LeftPadHigh
jet_of code.LeftPadLow = jet.LeftPadLow
jet_of code.LeftRotate = jet.LeftRotate
jet_of code.LeftShift = jet.LeftShift
jet_of code.LeftShiftWith = jet.LeftShiftWith
jet_of code.Leftmost = jet.Leftmost
jet_of code.Low = jet.Low
jet_of code.Lt = jet.Lt
jet_of code.Maj = jet.Maj
jet_of code.Max = jet.Max
jet_of code.Median = jet.Median
jet_of code.Min = jet.Min
jet_of code.Modulo = jet.Modulo
jet_of code.Multiply = jet.Multiply
jet_of code.Negate = jet.Negate
jet_of code.Or = jet.Or
jet_of code.RightExtend = jet.RightExtend
jet_of code.RightPadHigh = jet.RightPadHigh
jet_of code.RightPadLow = jet.RightPadLow
jet_of code.RightRotate = jet.RightRotate
jet_of code.RightShift = jet.RightShift
jet_of code.RightShiftWith = jet.RightShiftWith
jet_of code.Rightmost = jet.Rightmost
jet_of code.Some = jet.Some
jet_of code.Subtract = jet.Subtract
jet_of code.Verify = jet.Verify
jet_of code.Xor = jet.Xor
jet_of code.XorXor = jet.XorXor
