-- The jets: their names, and the types of their arguments and results.
use Rattle.std.specs.Prelude.{ℕ, ◌+◌, ◌*◌, ◌/◌, ◌%◌, nat_lt, Bool, nat_eq, ◌&&◌, if◌then◌else◌, List, [], ◌∷◌, ◌++◌, map, codes}
use Rattle.std.specs.List.{flat_map, list_any}

-- what a jet does; with its widths it is one jet. In the order of the names' bytes
pub data Jet : Type 0 where
  Add : Jet
  All : Jet
  And : Jet
  Ch : Jet
  Complement : Jet
  Decrement : Jet
  DivMod : Jet
  Divide : Jet
  Divides : Jet
  Eq : Jet
  FullAdd : Jet
  FullDecrement : Jet
  FullIncrement : Jet
  FullMultiply : Jet
  FullSubtract : Jet
  High : Jet
  Increment : Jet
  IsOne : Jet
  IsZero : Jet
  Le : Jet
  LeftExtend : Jet
  LeftPadHigh : Jet
  LeftPadLow : Jet
  LeftRotate : Jet
  LeftShift : Jet
  LeftShiftWith : Jet
  Leftmost : Jet
  Low : Jet
  Lt : Jet
  Maj : Jet
  Max : Jet
  Median : Jet
  Min : Jet
  Modulo : Jet
  Multiply : Jet
  Negate : Jet
  Or : Jet
  RightExtend : Jet
  RightPadHigh : Jet
  RightPadLow : Jet
  RightRotate : Jet
  RightShift : Jet
  RightShiftWith : Jet
  Rightmost : Jet
  Some : Jet
  Subtract : Jet
  Verify : Jet
  Xor : Jet
  XorXor : Jet

abbrev pub jets : List Jet
jets = Add ∷ All ∷ And ∷ Ch ∷ Complement ∷ Decrement ∷ DivMod ∷ Divide ∷ Divides ∷ Eq ∷ FullAdd ∷ FullDecrement ∷ FullIncrement
    ∷ FullMultiply ∷ FullSubtract ∷ High ∷ Increment ∷ IsOne ∷ IsZero ∷ Le ∷ LeftExtend ∷ LeftPadHigh ∷ LeftPadLow ∷ LeftRotate
    ∷ LeftShift ∷ LeftShiftWith ∷ Leftmost ∷ Low ∷ Lt ∷ Maj ∷ Max ∷ Median ∷ Min ∷ Modulo ∷ Multiply ∷ Negate ∷ Or ∷ RightExtend
    ∷ RightPadHigh ∷ RightPadLow ∷ RightRotate ∷ RightShift ∷ RightShiftWith ∷ Rightmost ∷ Some ∷ Subtract ∷ Verify ∷ Xor ∷ XorXor ∷ []

-- a type of an argument or a result: a truth value, or a number of so many bits
pub data Kind : Type 0 where
  Truth : Kind
  Number : (width : ℕ) → Kind

-- its width; a truth value is a bit
abbrev pub width_of : Kind → ℕ
width_of Truth = 1
width_of (Number n) = n

-- the type of a shift's amount
abbrev pub amount : ℕ → Kind
amount n = Number (if nat_lt n 32 then 4 else 8)

-- the types of the arguments and of the results, at the lesser and the greater width
abbrev pub signature : Jet → ℕ → ℕ → List Kind × List Kind
signature Add n _ = (Number n ∷ Number n ∷ [], Truth ∷ Number n ∷ [])
signature FullAdd n _ = (Truth ∷ Number n ∷ Number n ∷ [], Truth ∷ Number n ∷ [])
signature Subtract n _ = (Number n ∷ Number n ∷ [], Truth ∷ Number n ∷ [])
signature FullSubtract n _ = (Truth ∷ Number n ∷ Number n ∷ [], Truth ∷ Number n ∷ [])
signature Increment n _ = (Number n ∷ [], Truth ∷ Number n ∷ [])
signature Decrement n _ = (Number n ∷ [], Truth ∷ Number n ∷ [])
signature FullIncrement n _ = (Truth ∷ Number n ∷ [], Truth ∷ Number n ∷ [])
signature FullDecrement n _ = (Truth ∷ Number n ∷ [], Truth ∷ Number n ∷ [])
signature Negate n _ = (Number n ∷ [], Truth ∷ Number n ∷ [])
signature Multiply n _ = (Number n ∷ Number n ∷ [], Number (2 * n) ∷ [])
signature FullMultiply n _ = (Number n ∷ Number n ∷ Number n ∷ Number n ∷ [], Number (2 * n) ∷ [])
signature DivMod n _ = (Number n ∷ Number n ∷ [], Number n ∷ Number n ∷ [])
signature Divide n _ = (Number n ∷ Number n ∷ [], Number n ∷ [])
signature Modulo n _ = (Number n ∷ Number n ∷ [], Number n ∷ [])
signature Divides n _ = (Number n ∷ Number n ∷ [], Truth ∷ [])
signature IsZero n _ = (Number n ∷ [], Truth ∷ [])
signature IsOne n _ = (Number n ∷ [], Truth ∷ [])
signature Eq n _ = (Number n ∷ Number n ∷ [], Truth ∷ [])
signature Lt n _ = (Number n ∷ Number n ∷ [], Truth ∷ [])
signature Le n _ = (Number n ∷ Number n ∷ [], Truth ∷ [])
signature Min n _ = (Number n ∷ Number n ∷ [], Number n ∷ [])
signature Max n _ = (Number n ∷ Number n ∷ [], Number n ∷ [])
signature Median n _ = (Number n ∷ Number n ∷ Number n ∷ [], Number n ∷ [])
signature Low n _ = ([], Number n ∷ [])
signature High n _ = ([], Number n ∷ [])
signature Complement n _ = (Number n ∷ [], Number n ∷ [])
signature And n _ = (Number n ∷ Number n ∷ [], Number n ∷ [])
signature Or n _ = (Number n ∷ Number n ∷ [], Number n ∷ [])
signature Xor n _ = (Number n ∷ Number n ∷ [], Number n ∷ [])
signature Maj n _ = (Number n ∷ Number n ∷ Number n ∷ [], Number n ∷ [])
signature XorXor n _ = (Number n ∷ Number n ∷ Number n ∷ [], Number n ∷ [])
signature Ch n _ = (Number n ∷ Number n ∷ Number n ∷ [], Number n ∷ [])
signature Some n _ = (Number n ∷ [], Truth ∷ [])
signature All n _ = (Number n ∷ [], Truth ∷ [])
signature LeftShift n _ = (amount n ∷ Number n ∷ [], Number n ∷ [])
signature RightShift n _ = (amount n ∷ Number n ∷ [], Number n ∷ [])
signature LeftShiftWith n _ = (Truth ∷ amount n ∷ Number n ∷ [], Number n ∷ [])
signature RightShiftWith n _ = (Truth ∷ amount n ∷ Number n ∷ [], Number n ∷ [])
signature LeftRotate n _ = (amount n ∷ Number n ∷ [], Number n ∷ [])
signature RightRotate n _ = (amount n ∷ Number n ∷ [], Number n ∷ [])
signature Verify _ _ = (Truth ∷ [], [])
signature Leftmost n w = (Number w ∷ [], Number n ∷ [])
signature Rightmost n w = (Number w ∷ [], Number n ∷ [])
signature LeftPadLow n w = (Number n ∷ [], Number w ∷ [])
signature LeftPadHigh n w = (Number n ∷ [], Number w ∷ [])
signature LeftExtend n w = (Number n ∷ [], Number w ∷ [])
signature RightPadLow n w = (Number n ∷ [], Number w ∷ [])
signature RightPadHigh n w = (Number n ∷ [], Number w ∷ [])
signature RightExtend n w = (Number n ∷ [], Number w ∷ [])

abbrev pub argument_kinds : Jet → ℕ → ℕ → List Kind
argument_kinds j n w = (signature j n w).0

abbrev pub result_kinds : Jet → ℕ → ℕ → List Kind
result_kinds j n w = (signature j n w).1

-- one width in both places
abbrev pub same : ℕ → ℕ × ℕ
same n = (n, n)

-- the lesser and the greater width of a jet that narrows or widens, in the order of their decimals from the lesser, and from the greater
abbrev pub widened : List (ℕ × ℕ)
widened = (16, 32) ∷ (16, 64) ∷ (1, 16) ∷ (1, 32) ∷ (1, 64) ∷ (1, 8) ∷ (32, 64) ∷ (8, 16) ∷ (8, 32) ∷ (8, 64) ∷ []

abbrev pub narrowed : List (ℕ × ℕ)
narrowed = (1, 16) ∷ (2, 16) ∷ (4, 16) ∷ (8, 16) ∷ (1, 32) ∷ (16, 32) ∷ (2, 32) ∷ (4, 32) ∷ (8, 32)
    ∷ (1, 64) ∷ (16, 64) ∷ (2, 64) ∷ (32, 64) ∷ (4, 64) ∷ (8, 64) ∷ (1, 8) ∷ (2, 8) ∷ (4, 8) ∷ []

-- 8, 16, 32 and 64 in the order of their decimals, and 1 before them
abbrev pub usual : List (ℕ × ℕ)
usual = map same (16 ∷ 32 ∷ 64 ∷ 8 ∷ [])

abbrev pub usual_and_one : List (ℕ × ℕ)
usual_and_one = map same (1 ∷ 16 ∷ 32 ∷ 64 ∷ 8 ∷ [])

-- the lesser and the greater width of each jet that does this
abbrev pub sizes : Jet → List (ℕ × ℕ)
sizes Low = usual_and_one
sizes High = usual_and_one
sizes Complement = usual_and_one
sizes And = usual_and_one
sizes Or = usual_and_one
sizes Xor = usual_and_one
sizes Maj = usual_and_one
sizes XorXor = usual_and_one
sizes Ch = usual_and_one
sizes Some = usual_and_one
sizes Eq = map same (1 ∷ 16 ∷ 256 ∷ 32 ∷ 64 ∷ 8 ∷ [])
sizes Verify = same 1 ∷ []
sizes Leftmost = narrowed
sizes Rightmost = narrowed
sizes LeftPadLow = widened
sizes LeftPadHigh = widened
sizes LeftExtend = widened
sizes RightPadLow = widened
sizes RightPadHigh = widened
sizes RightExtend = widened
sizes _ = usual

-- whether there is such a jet
abbrev pub is_jet : Jet → ℕ → ℕ → Bool
is_jet j n w = list_any (λ s. nat_eq s.0 n && nat_eq s.1 w) (sizes j)

-- the decimal of a number below 1000
abbrev pub digit : ℕ → ℕ
digit d = 48 + d

abbrev pub decimal : ℕ → List ℕ
decimal n =
    if nat_lt n 10 then digit n ∷ []
    else if nat_lt n 100 then digit (n / 10) ∷ digit (n % 10) ∷ []
    else digit (n / 100) ∷ digit (n / 10 % 10) ∷ digit (n % 10) ∷ []

-- a number after the word before it
abbrev pub numbered : List ℕ → ℕ → List ℕ
numbered text n = text ++ codes "_" ++ decimal n

-- the name, in ASCII
abbrev pub name : Jet → ℕ → ℕ → List ℕ
name Add n _ = numbered (codes "add") n
name FullAdd n _ = numbered (codes "full_add") n
name Subtract n _ = numbered (codes "subtract") n
name FullSubtract n _ = numbered (codes "full_subtract") n
name Increment n _ = numbered (codes "increment") n
name Decrement n _ = numbered (codes "decrement") n
name FullIncrement n _ = numbered (codes "full_increment") n
name FullDecrement n _ = numbered (codes "full_decrement") n
name Negate n _ = numbered (codes "negate") n
name Multiply n _ = numbered (codes "multiply") n
name FullMultiply n _ = numbered (codes "full_multiply") n
name DivMod n _ = numbered (codes "div_mod") n
name Divide n _ = numbered (codes "divide") n
name Modulo n _ = numbered (codes "modulo") n
name Divides n _ = numbered (codes "divides") n
name IsZero n _ = numbered (codes "is_zero") n
name IsOne n _ = numbered (codes "is_one") n
name Eq n _ = numbered (codes "eq") n
name Lt n _ = numbered (codes "lt") n
name Le n _ = numbered (codes "le") n
name Min n _ = numbered (codes "min") n
name Max n _ = numbered (codes "max") n
name Median n _ = numbered (codes "median") n
name Low n _ = numbered (codes "low") n
name High n _ = numbered (codes "high") n
name Complement n _ = numbered (codes "complement") n
name And n _ = numbered (codes "and") n
name Or n _ = numbered (codes "or") n
name Xor n _ = numbered (codes "xor") n
name Maj n _ = numbered (codes "maj") n
name XorXor n _ = numbered (codes "xor_xor") n
name Ch n _ = numbered (codes "ch") n
name Some n _ = numbered (codes "some") n
name All n _ = numbered (codes "all") n
name LeftShift n _ = numbered (codes "left_shift") n
name RightShift n _ = numbered (codes "right_shift") n
name LeftShiftWith n _ = numbered (codes "left_shift_with") n
name RightShiftWith n _ = numbered (codes "right_shift_with") n
name LeftRotate n _ = numbered (codes "left_rotate") n
name RightRotate n _ = numbered (codes "right_rotate") n
name Verify _ _ = codes "verify"
name Leftmost n w = numbered (numbered (codes "leftmost") w) n
name Rightmost n w = numbered (numbered (codes "rightmost") w) n
name LeftPadLow n w = numbered (numbered (codes "left_pad_low") n) w
name LeftPadHigh n w = numbered (numbered (codes "left_pad_high") n) w
name LeftExtend n w = numbered (numbered (codes "left_extend") n) w
name RightPadLow n w = numbered (numbered (codes "right_pad_low") n) w
name RightPadHigh n w = numbered (numbered (codes "right_pad_high") n) w
name RightExtend n w = numbered (numbered (codes "right_extend") n) w

-- one jet as it stands in a table
pub record Row : Type 0 where
  pub name : List ℕ
  pub jet : Jet
  pub narrow : ℕ
  pub wide : ℕ
  pub arguments : List Kind
  pub results : List Kind

abbrev pub row_at : Jet → ℕ × ℕ → Row
row_at j s = record {
  name = name j s.0 s.1;
  jet = j;
  narrow = s.0;
  wide = s.1;
  arguments = argument_kinds j s.0 s.1;
  results = result_kinds j s.0 s.1;
}

-- the jets that do this, in the order of their names' bytes
abbrev pub family : Jet → List Row
family j = map (row_at j) (sizes j)

-- all jets, in that order
abbrev pub rows : List Row
rows = flat_map family jets

abbrev pub row_name : Row → List ℕ
row_name r = r.name
