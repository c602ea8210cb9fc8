-- The worked programs: their lists, their least typings, and the bytes that spell them.
use Rattle.std.proofs.Common.{ℕ, Option, Some, None, List, [], ◌∷◌}
use Rattle.simplicity.specs.Types.{Kind, One, Sum, Product, word_kind}
use Rattle.simplicity.specs.Nodes as node
use Rattle.simplicity.specs.Nodes.{Node}
use Rattle.simplicity.specs.Typing.{Typing, Arrow, arrow}
use Rattle.simplicity.specs.Machine.{Program}

abbrev pub byte : Kind
byte = word_kind 3

abbrev pub two_bytes : Kind
two_bytes = Product byte byte

abbrev pub shown : Kind → Kind → Option Arrow
shown a b = Some (arrow a b)

-- a program without witnesses
abbrev pub program : List Node → Typing → Program
program ns ts = record { nodes = ns; typing = ts; witness = [] }

-- `fn main() {}`
abbrev pub empty_nodes : List Node
empty_nodes = node.UnitNode ∷ []

abbrev pub empty_typing : Typing
empty_typing = shown One One ∷ []

abbrev pub empty_bytes : List ℕ
empty_bytes = 0x24 ∷ []

-- `fn id(x: u8) -> u8 { x }`
abbrev pub same_nodes : List Node
same_nodes = node.Iden ∷ []

abbrev pub same_typing : Typing
same_typing = shown byte byte ∷ []

abbrev pub same_bytes : List ℕ
same_bytes = 0x20 ∷ []

-- `fn second(x: u8, y: u8) -> u8 { y }`
abbrev pub second_nodes : List Node
second_nodes = node.Iden ∷ node.Drop 0 ∷ []

abbrev pub second_typing : Typing
second_typing = shown byte byte ∷ shown two_bytes byte ∷ []

abbrev pub second_bytes : List ℕ
second_bytes = 0x88 ∷ 0x38 ∷ []

-- `fn swap(x: u8, y: u8) -> (u8, u8) { (y, x) }`
abbrev pub swap_nodes : List Node
swap_nodes = node.Iden ∷ node.Drop 0 ∷ node.Take 0 ∷ node.Pair 1 2 ∷ []

abbrev pub swap_typing : Typing
swap_typing = shown byte byte ∷ shown two_bytes byte ∷ shown two_bytes byte ∷ shown two_bytes two_bytes ∷ []

abbrev pub swap_bytes : List ℕ
swap_bytes = 0xC1 ∷ 0x07 ∷ 0x1A ∷ 0x0A ∷ 0x00 ∷ []

-- `fn five() -> u8 { 5 }`
abbrev pub five_nodes : List Node
five_nodes = node.UnitNode ∷ node.Word 3 5 ∷ node.Comp 0 1 ∷ []

abbrev pub five_typing : Typing
five_typing = shown One One ∷ shown One byte ∷ shown One byte ∷ []

abbrev pub five_bytes : List ℕ
five_bytes = 0xA9 ∷ 0xB0 ∷ 0x05 ∷ 0x04 ∷ 0x00 ∷ []

-- the root of `fail` with zeros
abbrev pub fail_root : List ℕ
fail_root =
    47 ∷ 113 ∷ 104 ∷ 173 ∷ 146 ∷ 210 ∷ 110 ∷ 122 ∷ 12 ∷ 31 ∷ 181 ∷ 177 ∷ 198 ∷ 248 ∷ 6 ∷ 81 ∷
    201 ∷ 9 ∷ 84 ∷ 137 ∷ 235 ∷ 168 ∷ 176 ∷ 193 ∷ 199 ∷ 130 ∷ 144 ∷ 4 ∷ 141 ∷ 180 ∷ 224 ∷ 159 ∷ []

-- `fn main() { assert!(true); }`
abbrev pub assert_nodes : List Node
assert_nodes =
    node.UnitNode ∷ node.Injr 0 ∷ node.Pair 1 0 ∷ node.Hidden fail_root ∷ node.UnitNode ∷ node.Case 3 4 ∷ node.Comp 2 5 ∷
    node.Pair 6 0 ∷ node.Iden ∷ node.Drop 8 ∷ node.Comp 7 9 ∷ []

abbrev pub bit : Kind
bit = Sum One One

abbrev pub assert_typing : Typing
assert_typing =
    shown One One ∷ shown One bit ∷ shown One (Product bit One) ∷ None ∷ shown (Product One One) One ∷
    shown (Product bit One) One ∷ shown One One ∷ shown One (Product One One) ∷ shown One One ∷ shown (Product One One) One ∷
    shown One One ∷ []

abbrev pub assert_bytes : List ℕ
assert_bytes =
    214 ∷ 146 ∷ 132 ∷ 140 ∷ 94 ∷ 226 ∷ 209 ∷ 91 ∷ 37 ∷ 164 ∷ 220 ∷ 244 ∷ 24 ∷ 63 ∷ 107 ∷ 99 ∷ 141 ∷ 240 ∷ 12 ∷ 163 ∷ 146 ∷ 18 ∷
    169 ∷ 19 ∷ 215 ∷ 81 ∷ 97 ∷ 131 ∷ 143 ∷ 5 ∷ 32 ∷ 9 ∷ 27 ∷ 105 ∷ 193 ∷ 62 ∷ 144 ∷ 192 ∷ 48 ∷ 9 ∷ 154 ∷ 14 ∷ 5 ∷ 0 ∷ []

-- a list that needs a type to be a part of itself
abbrev pub endless_nodes : List Node
endless_nodes = node.Iden ∷ node.Take 0 ∷ node.Pair 0 1 ∷ []

abbrev pub endless_bytes : List ℕ
endless_bytes = 0xA8 ∷ 0x30 ∷ 0x50 ∷ []

-- a list whose first node its root doesn't reach
abbrev pub loose_nodes : List Node
loose_nodes = node.Iden ∷ node.UnitNode ∷ []

abbrev pub loose_bytes : List ℕ
loose_bytes = 0x88 ∷ 0x48 ∷ []
