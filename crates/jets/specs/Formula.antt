-- What each jet gives, over whole numbers.
use Rattle.std.specs.Prelude.{ℕ, ◌+◌, ◌-◌, ◌*◌, ◌/◌, ◌%◌, ◌^◌, min, max, nat_eq, nat_lt, nat_le, bit_and, bit_or, bit_xor, Bool, if◌then◌else◌, List, [], ◌∷◌, Option, Some, None, option_map}
use Rattle.jets.specs.Unsigned.{Unsigned}
use Rattle.jets.specs.Jet as jet
use Rattle.jets.specs.Jet.{Jet, Kind, width_of, result_kinds}

-- one number, two numbers
abbrev pub one : ℕ → Option (List ℕ)
one x = Some (x ∷ [])

abbrev pub two : ℕ → ℕ → Option (List ℕ)
two x y = Some (x ∷ y ∷ [])

-- a truth value as a number
abbrev pub bit : Bool → ℕ
bit b = if b then 1 else 0

abbrev pub test : Bool → Option (List ℕ)
test b = one (bit b)

-- the greatest number of n bits
abbrev pub ones : ℕ → ℕ
ones n = 2 ^ n - 1

-- a sum as its carry and its last n bits
abbrev pub carry_and_sum : ℕ → ℕ → Option (List ℕ)
carry_and_sum n sum = two (sum / 2 ^ n) (sum % 2 ^ n)

-- a - b as its borrow and its last n bits, where b is at most 2 ^ n
abbrev pub borrow_and_difference : ℕ → ℕ → ℕ → Option (List ℕ)
borrow_and_difference n a b = two (bit (nat_lt a b)) ((2 ^ n + a - b) % 2 ^ n)

-- division, by zero too
abbrev pub quotient : ℕ → ℕ → ℕ
quotient a b = if nat_eq b 0 then 0 else a / b

abbrev pub rest : ℕ → ℕ → ℕ
rest a b = if nat_eq b 0 then a else a % b

-- a shifted by s places, at most all n, with the bit f in each place that falls free
abbrev pub shifted_left : ℕ → ℕ → ℕ → ℕ → ℕ
shifted_left n f s a = let t = min s n in (a * 2 ^ t + f * ones t) % 2 ^ n

abbrev pub shifted_right : ℕ → ℕ → ℕ → ℕ → ℕ
shifted_right n f s a = let t = min s n in a / 2 ^ t + f * (2 ^ n - 2 ^ (n - t))

-- the first t of n bits put behind the others
abbrev pub rotated : ℕ → ℕ → ℕ → ℕ
rotated n t a = a % 2 ^ (n - t) * 2 ^ t + a / 2 ^ (n - t)

-- n bits in front of, and behind, as many zeros or ones as make w bits
abbrev pub zeros_before : ℕ → ℕ → ℕ → ℕ
zeros_before n w a = a

abbrev pub ones_before : ℕ → ℕ → ℕ → ℕ
ones_before n w a = a + 2 ^ w - 2 ^ n

abbrev pub zeros_after : ℕ → ℕ → ℕ → ℕ
zeros_after n w a = a * 2 ^ (w - n)

abbrev pub ones_after : ℕ → ℕ → ℕ → ℕ
ones_after n w a = a * 2 ^ (w - n) + ones (w - n)

-- the results of a jet at its lesser and its greater width; none where it fails. A truth value is 0 or 1
abbrev pub numbers : Jet → ℕ → ℕ → List ℕ → Option (List ℕ)
numbers jet.Add n _ (a ∷ b ∷ []) = carry_and_sum n (a + b)
numbers jet.FullAdd n _ (c ∷ a ∷ b ∷ []) = carry_and_sum n (a + b + c)
numbers jet.Subtract n _ (a ∷ b ∷ []) = borrow_and_difference n a b
numbers jet.FullSubtract n _ (c ∷ a ∷ b ∷ []) = borrow_and_difference n a (b + c)
numbers jet.Increment n _ (a ∷ []) = carry_and_sum n (a + 1)
numbers jet.Decrement n _ (a ∷ []) = borrow_and_difference n a 1
numbers jet.FullIncrement n _ (c ∷ a ∷ []) = carry_and_sum n (a + c)
numbers jet.FullDecrement n _ (c ∷ a ∷ []) = borrow_and_difference n a c
numbers jet.Negate n _ (a ∷ []) = borrow_and_difference n 0 a
numbers jet.Multiply n _ (a ∷ b ∷ []) = one (a * b)
numbers jet.FullMultiply n _ (a ∷ b ∷ c ∷ d ∷ []) = one (a * b + c + d)
numbers jet.DivMod n _ (a ∷ b ∷ []) = two (quotient a b) (rest a b)
numbers jet.Divide n _ (a ∷ b ∷ []) = one (quotient a b)
numbers jet.Modulo n _ (a ∷ b ∷ []) = one (rest a b)
numbers jet.Divides n _ (a ∷ b ∷ []) = test (nat_eq (rest b a) 0)
numbers jet.IsZero n _ (a ∷ []) = test (nat_eq a 0)
numbers jet.IsOne n _ (a ∷ []) = test (nat_eq a 1)
numbers jet.Eq n _ (a ∷ b ∷ []) = test (nat_eq a b)
numbers jet.Lt n _ (a ∷ b ∷ []) = test (nat_lt a b)
numbers jet.Le n _ (a ∷ b ∷ []) = test (nat_le a b)
numbers jet.Min n _ (a ∷ b ∷ []) = one (min a b)
numbers jet.Max n _ (a ∷ b ∷ []) = one (max a b)
numbers jet.Median n _ (a ∷ b ∷ c ∷ []) = one (max (min a b) (min (max a b) c))
numbers jet.Low n _ [] = one 0
numbers jet.High n _ [] = one (ones n)
numbers jet.Complement n _ (a ∷ []) = one (ones n - a)
numbers jet.And n _ (a ∷ b ∷ []) = one (bit_and a b)
numbers jet.Or n _ (a ∷ b ∷ []) = one (bit_or a b)
numbers jet.Xor n _ (a ∷ b ∷ []) = one (bit_xor a b)
numbers jet.Maj n _ (a ∷ b ∷ c ∷ []) = one (bit_or (bit_or (bit_and a b) (bit_and a c)) (bit_and b c))
numbers jet.XorXor n _ (a ∷ b ∷ c ∷ []) = one (bit_xor (bit_xor a b) c)
numbers jet.Ch n _ (a ∷ b ∷ c ∷ []) = one (bit_or (bit_and a b) (bit_and (ones n - a) c))
numbers jet.Some n _ (a ∷ []) = test (nat_lt 0 a)
numbers jet.All n _ (a ∷ []) = test (nat_eq a (ones n))
numbers jet.LeftShift n _ (s ∷ a ∷ []) = one (shifted_left n 0 s a)
numbers jet.RightShift n _ (s ∷ a ∷ []) = one (shifted_right n 0 s a)
numbers jet.LeftShiftWith n _ (f ∷ s ∷ a ∷ []) = one (shifted_left n f s a)
numbers jet.RightShiftWith n _ (f ∷ s ∷ a ∷ []) = one (shifted_right n f s a)
numbers jet.LeftRotate n _ (s ∷ a ∷ []) = one (rotated n (s % n) a)
numbers jet.RightRotate n _ (s ∷ a ∷ []) = one (rotated n (n - s % n) a)
numbers jet.Verify _ _ (a ∷ []) = if nat_eq a 0 then None else Some []
numbers jet.Leftmost n w (a ∷ []) = one (a / 2 ^ (w - n))
numbers jet.Rightmost n w (a ∷ []) = one (a % 2 ^ n)
numbers jet.LeftPadLow n w (a ∷ []) = one (zeros_before n w a)
numbers jet.LeftPadHigh n w (a ∷ []) = one (ones_before n w a)
numbers jet.LeftExtend n w (a ∷ []) = one (if nat_lt a (2 ^ (n - 1)) then zeros_before n w a else ones_before n w a)
numbers jet.RightPadLow n w (a ∷ []) = one (zeros_after n w a)
numbers jet.RightPadHigh n w (a ∷ []) = one (ones_after n w a)
numbers jet.RightExtend n w (a ∷ []) = one (if nat_eq (a % 2) 0 then zeros_after n w a else ones_after n w a)
numbers _ _ _ _ = None

-- each number with the width of its type
abbrev pub typed : List Kind → List ℕ → List Unsigned
typed (k ∷ ks) (x ∷ xs) = record { width = width_of k; number = x } ∷ typed ks xs
typed _ _ = []

-- the results as numbers of their widths; none where the jet fails
abbrev pub outcome : Jet → ℕ → ℕ → List ℕ → Option (List Unsigned)
outcome j n w arguments = option_map (typed (result_kinds j n w)) (numbers j n w arguments)
