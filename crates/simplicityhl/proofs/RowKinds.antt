-- Worked rows: forms of tuples, arrays and lists, bounds and widths, and names of types.
use Rattle.std.proofs.Common.{◌≡◌, refl, [], ◌∷◌, true, false, Some, None}
use Rattle.std.specs.Prelude.{codes}
use Rattle.hl_syntax.specs.declared.kinds.HlType.TheVariants as kind
use Rattle.simplicity.specs.Types.{Kind, One, Sum, Product, word_kind}
use Rattle.simplicity.specs.Tuples.{tuple_kind, copies_kind}
use Rattle.simplicity.specs.Widths.{word_of_width}
use Rattle.simplicityhl.specs.Kinds.{list_kind, bound_level, is_bound, is_width, is_count}
use Rattle.simplicityhl.specs.Written.{named}

module _ (a b c : Kind) where
  tuple_of_none : tuple_kind [] ≡ One
  tuple_of_none = refl

  tuple_of_one : tuple_kind (a ∷ []) ≡ a
  tuple_of_one = refl

  tuple_of_three : tuple_kind (a ∷ b ∷ c ∷ []) ≡ Product a (Product b c)
  tuple_of_three = refl

  tuple_of_five : tuple_kind (a ∷ b ∷ c ∷ a ∷ b ∷ []) ≡ Product (Product a b) (Product c (Product a b))
  tuple_of_five = refl

  six : copies_kind 6 a ≡ Product (Product a (Product a a)) (Product a (Product a a))
  six = refl

  nine : copies_kind 9 a ≡ Product (Product (Product a a) (Product a a)) (Product (Product a a) (Product a (Product a a)))
  nine = refl

  list_of_two : list_kind (bound_level 2) a ≡ Sum One a
  list_of_two = refl

  list_of_four : list_kind (bound_level 4) a ≡ Product (Sum One (Product a a)) (Sum One a)
  list_of_four = refl

  list_of_eight : list_kind (bound_level 8) a ≡ Product (Sum One (Product (Product a a) (Product a a))) (Product (Sum One (Product a a)) (Sum One a))
  list_of_eight = refl

no_bounds : (is_bound 0 ∷ is_bound 1 ∷ is_bound 3 ∷ is_bound 131072 ∷ []) ≡ (false ∷ false ∷ false ∷ false ∷ [])
no_bounds = refl

bounds : (is_bound 2 ∷ is_bound 16 ∷ is_bound 65536 ∷ []) ≡ (true ∷ true ∷ true ∷ [])
bounds = refl

widths : (is_width 1 ∷ is_width 256 ∷ is_width 3 ∷ is_width 512 ∷ is_width 0 ∷ []) ≡ (true ∷ true ∷ false ∷ false ∷ false ∷ [])
widths = refl

counts : (is_count 65536 ∷ is_count 65537 ∷ []) ≡ (true ∷ false ∷ [])
counts = refl

word_of_four : word_of_width 4 ≡ word_kind 2
word_of_four = refl

name_of_numbers : named [] (codes "u16") ≡ Some (kind.UInt 16)
name_of_numbers = refl

name_of_none : named [] (codes "u3") ≡ None
name_of_none = refl

alias : named (record { name = codes "Byte"; kind = kind.UInt 8 } ∷ []) (codes "Byte") ≡ Some (kind.UInt 8)
alias = refl
