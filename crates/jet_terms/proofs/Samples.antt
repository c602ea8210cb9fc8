-- Rows computed.
use Rattle.std.proofs.Common.{[], ◌∷◌, refl}
use Rattle.jet_terms.specs.Laws.{Gives}
use Rattle.jets.specs.Jet as jet

row_0 : Gives jet.Add 8 8 [] (200 ∷ 100 ∷ [])
row_0 = refl

row_1 : Gives jet.FullAdd 8 8 [] (1 ∷ 200 ∷ 100 ∷ [])
row_1 = refl

row_2 : Gives jet.Subtract 8 8 [] (100 ∷ 200 ∷ [])
row_2 = refl

row_3 : Gives jet.FullSubtract 8 8 [] (1 ∷ 100 ∷ 100 ∷ [])
row_3 = refl

row_4 : Gives jet.Increment 8 8 [] (255 ∷ [])
row_4 = refl

row_5 : Gives jet.Decrement 8 8 [] (0 ∷ [])
row_5 = refl

row_6 : Gives jet.FullIncrement 8 8 [] (1 ∷ 41 ∷ [])
row_6 = refl

row_7 : Gives jet.FullDecrement 8 8 [] (1 ∷ 41 ∷ [])
row_7 = refl

row_8 : Gives jet.Negate 8 8 [] (1 ∷ [])
row_8 = refl

row_9 : Gives jet.Multiply 8 8 [] (200 ∷ 100 ∷ [])
row_9 = refl

row_10 : Gives jet.FullMultiply 8 8 [] (255 ∷ 254 ∷ 253 ∷ 252 ∷ [])
row_10 = refl

row_11 : Gives jet.DivMod 8 8 [] (200 ∷ 7 ∷ [])
row_11 = refl

row_12 : Gives jet.DivMod 8 8 [] (200 ∷ 0 ∷ [])
row_12 = refl

row_13 : Gives jet.Divide 8 8 [] (200 ∷ 9 ∷ [])
row_13 = refl

row_14 : Gives jet.Modulo 8 8 [] (200 ∷ 9 ∷ [])
row_14 = refl

row_15 : Gives jet.Divides 8 8 [] (9 ∷ 198 ∷ [])
row_15 = refl

row_16 : Gives jet.Divides 8 8 [] (9 ∷ 199 ∷ [])
row_16 = refl

row_17 : Gives jet.IsZero 8 8 [] (0 ∷ [])
row_17 = refl

row_18 : Gives jet.IsOne 8 8 [] (1 ∷ [])
row_18 = refl

row_19 : Gives jet.IsOne 8 8 [] (3 ∷ [])
row_19 = refl

row_20 : Gives jet.Eq 8 8 [] (9 ∷ 9 ∷ [])
row_20 = refl

row_21 : Gives jet.Eq 8 8 [] (9 ∷ 137 ∷ [])
row_21 = refl

row_22 : Gives jet.Lt 8 8 [] (9 ∷ 137 ∷ [])
row_22 = refl

row_23 : Gives jet.Le 8 8 [] (9 ∷ 9 ∷ [])
row_23 = refl

row_24 : Gives jet.Min 8 8 [] (9 ∷ 137 ∷ [])
row_24 = refl

row_25 : Gives jet.Max 8 8 [] (9 ∷ 137 ∷ [])
row_25 = refl

row_26 : Gives jet.Median 8 8 [] (9 ∷ 137 ∷ 20 ∷ [])
row_26 = refl

row_27 : Gives jet.Median 8 8 [] (20 ∷ 9 ∷ 137 ∷ [])
row_27 = refl

row_28 : Gives jet.Low 8 8 [] ([])
row_28 = refl

row_29 : Gives jet.High 8 8 [] ([])
row_29 = refl

row_30 : Gives jet.Complement 8 8 [] (200 ∷ [])
row_30 = refl

row_31 : Gives jet.And 8 8 [] (204 ∷ 170 ∷ [])
row_31 = refl

row_32 : Gives jet.Or 8 8 [] (204 ∷ 170 ∷ [])
row_32 = refl

row_33 : Gives jet.Xor 8 8 [] (204 ∷ 170 ∷ [])
row_33 = refl

row_34 : Gives jet.Maj 8 8 [] (240 ∷ 204 ∷ 170 ∷ [])
row_34 = refl

row_35 : Gives jet.XorXor 8 8 [] (240 ∷ 204 ∷ 170 ∷ [])
row_35 = refl

row_36 : Gives jet.Ch 8 8 [] (240 ∷ 204 ∷ 170 ∷ [])
row_36 = refl

row_37 : Gives jet.Some 8 8 [] (16 ∷ [])
row_37 = refl

row_38 : Gives jet.All 8 8 [] (255 ∷ [])
row_38 = refl

row_39 : Gives jet.All 8 8 [] (127 ∷ [])
row_39 = refl

row_40 : Gives jet.Verify 1 1 [] (0 ∷ [])
row_40 = refl

row_41 : Gives jet.Verify 1 1 [] (1 ∷ [])
row_41 = refl

row_42 : Gives jet.LeftShift 8 8 [] (3 ∷ 201 ∷ [])
row_42 = refl

row_43 : Gives jet.LeftShift 8 8 [] (9 ∷ 201 ∷ [])
row_43 = refl

row_44 : Gives jet.RightShift 8 8 [] (3 ∷ 201 ∷ [])
row_44 = refl

row_45 : Gives jet.LeftShiftWith 8 8 [] (1 ∷ 3 ∷ 201 ∷ [])
row_45 = refl

row_46 : Gives jet.LeftShiftWith 8 8 [] (1 ∷ 8 ∷ 201 ∷ [])
row_46 = refl

row_47 : Gives jet.RightShiftWith 8 8 [] (1 ∷ 3 ∷ 201 ∷ [])
row_47 = refl

row_48 : Gives jet.RightShiftWith 16 16 [] (1 ∷ 13 ∷ 51201 ∷ [])
row_48 = refl

row_49 : Gives jet.RightShiftWith 32 32 [] (1 ∷ 40 ∷ 51201 ∷ [])
row_49 = refl

row_50 : Gives jet.LeftShiftWith 64 64 [] (1 ∷ 133 ∷ 51201 ∷ [])
row_50 = refl

row_51 : Gives jet.LeftRotate 8 8 [] (11 ∷ 201 ∷ [])
row_51 = refl

row_52 : Gives jet.RightRotate 8 8 [] (11 ∷ 201 ∷ [])
row_52 = refl

row_53 : Gives jet.RightRotate 64 64 [] (137 ∷ 201 ∷ [])
row_53 = refl

row_54 : Gives jet.Leftmost 2 8 [] (201 ∷ [])
row_54 = refl

row_55 : Gives jet.Rightmost 2 8 [] (201 ∷ [])
row_55 = refl

row_56 : Gives jet.LeftPadLow 8 32 [] (201 ∷ [])
row_56 = refl

row_57 : Gives jet.LeftPadHigh 8 32 [] (201 ∷ [])
row_57 = refl

row_58 : Gives jet.RightPadLow 8 32 [] (201 ∷ [])
row_58 = refl

row_59 : Gives jet.RightPadHigh 8 32 [] (201 ∷ [])
row_59 = refl

row_60 : Gives jet.LeftExtend 8 32 [] (201 ∷ [])
row_60 = refl

row_61 : Gives jet.LeftExtend 8 32 [] (101 ∷ [])
row_61 = refl

row_62 : Gives jet.RightExtend 8 32 [] (201 ∷ [])
row_62 = refl

row_63 : Gives jet.RightExtend 1 8 [] (0 ∷ [])
row_63 = refl
