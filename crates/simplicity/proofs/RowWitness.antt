-- Two programs with a witness, as they are built, and the second pruned by either of its witnesses.
use Rattle.std.proofs.Common.{refl, ℕ, None, List, [], ◌∷◌, arith}
use Rattle.simplicity.specs.Types.{Kind, One, Sum, Product, UnitValue, Inl, Inr, Pair, word_kind, word_value}
use Rattle.simplicity.specs.Nodes as node
use Rattle.simplicity.specs.Nodes.{Node}
use Rattle.simplicity.specs.Order.{IsOrdered}
use Rattle.simplicity.specs.Typing as row
use Rattle.simplicity.specs.Typing.{Typing, Arrow, arrow, IsTypingAt}
use Rattle.simplicity.specs.Shared.{IsShared}
use Rattle.simplicity.specs.Spelling.{Spelled}
use Rattle.simplicity.proofs.Rows.{shown, fail_root}
use Rattle.simplicity.proofs.RowBits.{spells}
use Rattle.simplicity.proofs.RowRuns.{Runs, runs, totals}
use Rattle.simplicity.proofs.Sharing.{shared_by, mark_with}

abbrev w0 : Kind
w0 = word_kind 0

abbrev w1 : Kind
w1 = word_kind 1

abbrev w2 : Kind
w2 = word_kind 2

abbrev w3 : Kind
w3 = word_kind 3

abbrev w4 : Kind
w4 = word_kind 4

-- the root of `drop (injr unit)`
abbrev pub drop_true_root : List ℕ
drop_true_root = 205 ∷ 131 ∷ 3 ∷ 61 ∷ 2 ∷ 168 ∷ 3 ∷ 228 ∷ 97 ∷ 198 ∷ 186 ∷ 232 ∷ 102 ∷ 56 ∷ 193 ∷ 221 ∷ 47 ∷ 18 ∷ 238 ∷ 70 ∷ 147 ∷ 53 ∷ 147 ∷ 127 ∷ 54 ∷ 141 ∷ 105 ∷ 139 ∷ 67 ∷ 177 ∷ 62 ∷ 4 ∷ []

-- the root of `injl unit`
abbrev pub false_root : List ℕ
false_root = 60 ∷ 63 ∷ 124 ∷ 2 ∷ 173 ∷ 187 ∷ 169 ∷ 228 ∷ 18 ∷ 12 ∷ 190 ∷ 204 ∷ 157 ∷ 123 ∷ 82 ∷ 117 ∷ 202 ∷ 26 ∷ 166 ∷ 85 ∷ 73 ∷ 155 ∷ 82 ∷ 81 ∷ 226 ∷ 198 ∷ 124 ∷ 152 ∷ 68 ∷ 222 ∷ 24 ∷ 226 ∷ []

-- the roots of the two sides of the match
abbrev pub right_root : List ℕ
right_root = 195 ∷ 248 ∷ 177 ∷ 241 ∷ 242 ∷ 52 ∷ 206 ∷ 64 ∷ 253 ∷ 81 ∷ 185 ∷ 31 ∷ 235 ∷ 221 ∷ 218 ∷ 7 ∷ 117 ∷ 77 ∷ 56 ∷ 117 ∷ 224 ∷ 243 ∷ 166 ∷ 109 ∷ 161 ∷ 158 ∷ 230 ∷ 106 ∷ 104 ∷ 148 ∷ 154 ∷ 160 ∷ []

abbrev pub left_root : List ℕ
left_root = 191 ∷ 236 ∷ 88 ∷ 235 ∷ 113 ∷ 239 ∷ 181 ∷ 93 ∷ 161 ∷ 137 ∷ 23 ∷ 65 ∷ 90 ∷ 145 ∷ 159 ∷ 123 ∷ 106 ∷ 232 ∷ 149 ∷ 185 ∷ 175 ∷ 83 ∷ 191 ∷ 220 ∷ 40 ∷ 135 ∷ 188 ∷ 161 ∷ 162 ∷ 70 ∷ 73 ∷ 21 ∷ []

-- `fn main() { let x: (u8, u16) = witness::X; let (a, b): (u8, u16) = x; assert!(jet::eq_8(a, 7)); }`, whose second part of x isn't used
abbrev pair_witness_nodes : List Node
pair_witness_nodes = node.Witness ∷ node.Iden ∷ node.Pair 0 1 ∷ node.Iden ∷ node.Take 3 ∷ node.Iden ∷ node.Pair 4 5 ∷ node.Iden ∷ node.Take 7 ∷ node.Take 8 ∷ node.UnitNode ∷ node.Word 3 7 ∷ node.Comp 10 11 ∷ node.Pair 9 12 ∷ node.Iden ∷ node.Take 14 ∷ node.Take 15 ∷ node.Drop 15 ∷ node.Pair 16 17 ∷ node.Iden ∷ node.Take 19 ∷ node.Take 20 ∷ node.Drop 20 ∷ node.Pair 21 22 ∷ node.Iden ∷ node.Take 24 ∷ node.Take 25 ∷ node.Drop 25 ∷ node.Pair 26 27 ∷ node.UnitNode ∷ node.Pair 24 29 ∷ node.UnitNode ∷ node.Injr 31 ∷ node.Injl 31 ∷ node.Case 32 33 ∷ node.Comp 30 34 ∷ node.Drop 35 ∷ node.Drop 24 ∷ node.Case 36 37 ∷ node.Comp 28 38 ∷ node.Pair 39 14 ∷ node.UnitNode ∷ node.Injl 41 ∷ node.Drop 42 ∷ node.Drop 24 ∷ node.Take 44 ∷ node.Drop 44 ∷ node.Pair 45 46 ∷ node.Comp 47 38 ∷ node.Drop 48 ∷ node.Case 43 49 ∷ node.Comp 40 50 ∷ node.Comp 23 51 ∷ node.Pair 52 7 ∷ node.UnitNode ∷ node.Injl 54 ∷ node.Drop 55 ∷ node.Drop 19 ∷ node.Take 57 ∷ node.Drop 57 ∷ node.Pair 58 59 ∷ node.Comp 60 51 ∷ node.Drop 61 ∷ node.Case 56 62 ∷ node.Comp 53 63 ∷ node.Comp 18 64 ∷ node.Iden ∷ node.Pair 65 66 ∷ node.UnitNode ∷ node.Injl 68 ∷ node.Drop 69 ∷ node.Drop 14 ∷ node.Take 71 ∷ node.Drop 71 ∷ node.Pair 72 73 ∷ node.Comp 74 64 ∷ node.Drop 75 ∷ node.Case 70 76 ∷ node.Comp 67 77 ∷ node.Comp 13 78 ∷ node.Pair 79 10 ∷ node.Hidden fail_root ∷ node.Case 81 31 ∷ node.Comp 80 82 ∷ node.Pair 83 10 ∷ node.Drop 1 ∷ node.Comp 84 85 ∷ node.Comp 6 86 ∷ node.Comp 2 87 ∷ []

abbrev pair_witness_typing : Typing
pair_witness_typing = shown One (Product w3 One) ∷ shown One One ∷ shown One (Product (Product w3 One) One) ∷ shown (Product w3 One) (Product w3 One) ∷ shown (Product (Product w3 One) One) (Product w3 One) ∷ shown (Product (Product w3 One) One) (Product (Product w3 One) One) ∷ shown (Product (Product w3 One) One) (Product (Product w3 One) (Product (Product w3 One) One)) ∷ shown w3 w3 ∷ shown (Product w3 One) w3 ∷ shown (Product (Product w3 One) (Product (Product w3 One) One)) w3 ∷ shown (Product (Product w3 One) (Product (Product w3 One) One)) One ∷ shown One w3 ∷ shown (Product (Product w3 One) (Product (Product w3 One) One)) w3 ∷ shown (Product (Product w3 One) (Product (Product w3 One) One)) w4 ∷ shown w2 w2 ∷ shown w3 w2 ∷ shown w4 w2 ∷ shown w4 w2 ∷ shown w4 w3 ∷ shown w1 w1 ∷ shown w2 w1 ∷ shown w3 w1 ∷ shown w3 w1 ∷ shown w3 w2 ∷ shown w0 w0 ∷ shown w1 w0 ∷ shown w2 w0 ∷ shown w2 w0 ∷ shown w2 w1 ∷ shown w0 One ∷ shown w0 (Product w0 One) ∷ shown (Product One One) One ∷ shown (Product One One) w0 ∷ shown (Product One One) w0 ∷ shown (Product w0 One) w0 ∷ shown w0 w0 ∷ shown (Product One w0) w0 ∷ shown (Product One w0) w0 ∷ shown w1 w0 ∷ shown w2 w0 ∷ shown w2 (Product w0 w2) ∷ shown w2 One ∷ shown w2 w0 ∷ shown (Product One w2) w0 ∷ shown w1 w0 ∷ shown w2 w0 ∷ shown w2 w0 ∷ shown w2 w1 ∷ shown w2 w0 ∷ shown (Product One w2) w0 ∷ shown (Product w0 w2) w0 ∷ shown w2 w0 ∷ shown w3 w0 ∷ shown w3 (Product w0 w3) ∷ shown w3 One ∷ shown w3 w0 ∷ shown (Product One w3) w0 ∷ shown w2 w1 ∷ shown w3 w1 ∷ shown w3 w1 ∷ shown w3 w2 ∷ shown w3 w0 ∷ shown (Product One w3) w0 ∷ shown (Product w0 w3) w0 ∷ shown w3 w0 ∷ shown w4 w0 ∷ shown w4 w4 ∷ shown w4 (Product w0 w4) ∷ shown w4 One ∷ shown w4 w0 ∷ shown (Product One w4) w0 ∷ shown w3 w2 ∷ shown w4 w2 ∷ shown w4 w2 ∷ shown w4 w3 ∷ shown w4 w0 ∷ shown (Product One w4) w0 ∷ shown (Product w0 w4) w0 ∷ shown w4 w0 ∷ shown (Product (Product w3 One) (Product (Product w3 One) One)) w0 ∷ shown (Product (Product w3 One) (Product (Product w3 One) One)) (Product w0 One) ∷ None ∷ shown (Product w0 One) One ∷ shown (Product (Product w3 One) (Product (Product w3 One) One)) One ∷ shown (Product (Product w3 One) (Product (Product w3 One) One)) (Product One One) ∷ shown (Product One One) One ∷ shown (Product (Product w3 One) (Product (Product w3 One) One)) One ∷ shown (Product (Product w3 One) One) One ∷ shown One One ∷ []

abbrev pair_witness_bytes : List ℕ
pair_witness_bytes = 228 ∷ 203 ∷ 160 ∷ 80 ∷ 131 ∷ 16 ∷ 40 ∷ 65 ∷ 134 ∷ 38 ∷ 192 ∷ 28 ∷ 16 ∷ 44 ∷ 8 ∷ 48 ∷ 195 ∷ 193 ∷ 66 ∷ 12 ∷ 48 ∷ 240 ∷ 80 ∷ 131 ∷ 12 ∷ 60 ∷ 20 ∷ 36 ∷ 89 ∷ 18 ∷ 81 ∷ 32 ∷ 96 ∷ 24 ∷ 142 ∷ 62 ∷ 208 ∷ 192 ∷ 53 ∷ 132 ∷ 225 ∷ 73 ∷ 32 ∷ 227 ∷ 240 ∷ 67 ∷ 15 ∷ 5 ∷ 0 ∷ 106 ∷ 56 ∷ 57 ∷ 129 ∷ 172 ∷ 14 ∷ 26 ∷ 19 ∷ 139 ∷ 146 ∷ 65 ∷ 199 ∷ 226 ∷ 99 ∷ 15 ∷ 5 ∷ 0 ∷ 106 ∷ 56 ∷ 57 ∷ 129 ∷ 172 ∷ 14 ∷ 47 ∷ 32 ∷ 80 ∷ 146 ∷ 14 ∷ 63 ∷ 28 ∷ 152 ∷ 120 ∷ 40 ∷ 3 ∷ 89 ∷ 193 ∷ 204 ∷ 13 ∷ 96 ∷ 114 ∷ 8 ∷ 39 ∷ 33 ∷ 152 ∷ 189 ∷ 197 ∷ 162 ∷ 182 ∷ 75 ∷ 73 ∷ 185 ∷ 232 ∷ 48 ∷ 126 ∷ 214 ∷ 199 ∷ 27 ∷ 224 ∷ 25 ∷ 71 ∷ 36 ∷ 37 ∷ 82 ∷ 39 ∷ 174 ∷ 162 ∷ 195 ∷ 7 ∷ 30 ∷ 10 ∷ 64 ∷ 18 ∷ 54 ∷ 211 ∷ 130 ∷ 124 ∷ 46 ∷ 51 ∷ 5 ∷ 9 ∷ 200 ∷ 163 ∷ 242 ∷ 80 ∷ 16 ∷ 14 ∷ 72 ∷ 129 ∷ 201 ∷ 96 ∷ []

pair_witness_spelled : Spelled pair_witness_bytes pair_witness_nodes
pair_witness_spelled = spells pair_witness_bytes pair_witness_nodes 3 (tt, (tt, ((tt, tt), (tt, (tt, (tt, ((tt, tt), (tt, (tt, (tt, (tt, (tt, ((tt, tt), ((tt, tt), (tt, (tt, (tt, (tt, ((tt, tt), (tt, (tt, (tt, (tt, ((tt, tt), (tt, (tt, (tt, (tt, ((tt, tt), (tt, ((tt, tt), (tt, (tt, (tt, (tt, ((tt, tt), (tt, (tt, (tt, ((tt, tt), ((tt, tt), (tt, (tt, (tt, (tt, (tt, (tt, ((tt, tt), ((tt, tt), (tt, (tt, ((tt, tt), ((tt, tt), ((tt, tt), (tt, (tt, (tt, (tt, (tt, (tt, ((tt, tt), ((tt, tt), (tt, (tt, ((tt, tt), ((tt, tt), (tt, ((tt, tt), (tt, (tt, (tt, (tt, (tt, (tt, ((tt, tt), ((tt, tt), (tt, (tt, ((tt, tt), ((tt, tt), ((tt, tt), (tt, (tt, ((tt, tt), ((tt, tt), (tt, ((tt, tt), ((tt, tt), ((tt, tt), tt))))))))))))))))))))))))))))))))))))))))))))))))))))))))))))))))))))))))))))))))))))))))) (tt, omega arith) (omega arith) refl refl

pair_witness_ordered : IsOrdered pair_witness_nodes
pair_witness_ordered = refl

pair_witness_typed : IsTypingAt pair_witness_nodes (arrow One One) pair_witness_typing
pair_witness_typed = record { typed = (row.Witness One (Product w3 One), (row.Iden One, (row.Pair 0 1 One (Product w3 One) One refl refl, (row.Iden (Product w3 One), (row.Take 3 (Product w3 One) One (Product w3 One) refl, (row.Iden (Product (Product w3 One) One), (row.Pair 4 5 (Product (Product w3 One) One) (Product w3 One) (Product (Product w3 One) One) refl refl, (row.Iden w3, (row.Take 7 w3 One w3 refl, (row.Take 8 (Product w3 One) (Product (Product w3 One) One) w3 refl, (row.UnitNode (Product (Product w3 One) (Product (Product w3 One) One)), (row.Word 3 7, (row.Comp 10 11 (Product (Product w3 One) (Product (Product w3 One) One)) One w3 refl refl, (row.Pair 9 12 (Product (Product w3 One) (Product (Product w3 One) One)) w3 w3 refl refl, (row.Iden w2, (row.Take 14 w2 w2 w2 refl, (row.Take 15 w3 w3 w2 refl, (row.Drop 15 w3 w3 w2 refl, (row.Pair 16 17 w4 w2 w2 refl refl, (row.Iden w1, (row.Take 19 w1 w1 w1 refl, (row.Take 20 w2 w2 w1 refl, (row.Drop 20 w2 w2 w1 refl, (row.Pair 21 22 w3 w1 w1 refl refl, (row.Iden w0, (row.Take 24 w0 w0 w0 refl, (row.Take 25 w1 w1 w0 refl, (row.Drop 25 w1 w1 w0 refl, (row.Pair 26 27 w2 w0 w0 refl refl, (row.UnitNode w0, (row.Pair 24 29 w0 w0 One refl refl, (row.UnitNode (Product One One), (row.Injr 31 (Product One One) One One refl, (row.Injl 31 (Product One One) One One refl, (row.Case 32 33 One One One w0 refl refl, (row.Comp 30 34 w0 (Product w0 One) w0 refl refl, (row.Drop 35 One w0 w0 refl, (row.Drop 24 One w0 w0 refl, (row.Case 36 37 One One w0 w0 refl refl, (row.Comp 28 38 w2 w1 w0 refl refl, (row.Pair 39 14 w2 w0 w2 refl refl, (row.UnitNode w2, (row.Injl 41 w2 One One refl, (row.Drop 42 One w2 w0 refl, (row.Drop 24 w0 w0 w0 refl, (row.Take 44 w1 w1 w0 refl, (row.Drop 44 w1 w1 w0 refl, (row.Pair 45 46 w2 w0 w0 refl refl, (row.Comp 47 38 w2 w1 w0 refl refl, (row.Drop 48 One w2 w0 refl, (row.Case 43 49 One One w2 w0 refl refl, (row.Comp 40 50 w2 (Product w0 w2) w0 refl refl, (row.Comp 23 51 w3 w2 w0 refl refl, (row.Pair 52 7 w3 w0 w3 refl refl, (row.UnitNode w3, (row.Injl 54 w3 One One refl, (row.Drop 55 One w3 w0 refl, (row.Drop 19 w1 w1 w1 refl, (row.Take 57 w2 w2 w1 refl, (row.Drop 57 w2 w2 w1 refl, (row.Pair 58 59 w3 w1 w1 refl refl, (row.Comp 60 51 w3 w2 w0 refl refl, (row.Drop 61 One w3 w0 refl, (row.Case 56 62 One One w3 w0 refl refl, (row.Comp 53 63 w3 (Product w0 w3) w0 refl refl, (row.Comp 18 64 w4 w3 w0 refl refl, (row.Iden w4, (row.Pair 65 66 w4 w0 w4 refl refl, (row.UnitNode w4, (row.Injl 68 w4 One One refl, (row.Drop 69 One w4 w0 refl, (row.Drop 14 w2 w2 w2 refl, (row.Take 71 w3 w3 w2 refl, (row.Drop 71 w3 w3 w2 refl, (row.Pair 72 73 w4 w2 w2 refl refl, (row.Comp 74 64 w4 w3 w0 refl refl, (row.Drop 75 One w4 w0 refl, (row.Case 70 76 One One w4 w0 refl refl, (row.Comp 67 77 w4 (Product w0 w4) w0 refl refl, (row.Comp 13 78 (Product (Product w3 One) (Product (Product w3 One) One)) w4 w0 refl refl, (row.Pair 79 10 (Product (Product w3 One) (Product (Product w3 One) One)) w0 One refl refl, (tt, (row.AssertR 81 31 One One One One refl refl, (row.Comp 80 82 (Product (Product w3 One) (Product (Product w3 One) One)) (Product w0 One) One refl refl, (row.Pair 83 10 (Product (Product w3 One) (Product (Product w3 One) One)) One One refl refl, (row.Drop 1 One One One refl, (row.Comp 84 85 (Product (Product w3 One) (Product (Product w3 One) One)) (Product One One) One refl refl, (row.Comp 6 86 (Product (Product w3 One) One) (Product (Product w3 One) (Product (Product w3 One) One)) One refl refl, (row.Comp 2 87 One (Product (Product w3 One) One) One refl refl, tt))))))))))))))))))))))))))))))))))))))))))))))))))))))))))))))))))))))))))))))))))))))))); rooted = refl }

pair_witness_shared : IsShared pair_witness_nodes pair_witness_typing
pair_witness_shared = shared_by mark_with pair_witness_nodes pair_witness_typing refl

pair_witness_run : Runs (record { nodes = pair_witness_nodes; typing = pair_witness_typing; witness = Pair (word_value 3 7) UnitValue ∷ [] }) UnitValue One UnitValue (totals 351 628 87 14)
pair_witness_run = runs 1053 (record { nodes = pair_witness_nodes; typing = pair_witness_typing; witness = Pair (word_value 3 7) UnitValue ∷ [] }) UnitValue One UnitValue (totals 351 628 87 14) refl refl refl

-- `fn main() { match witness::P { Left(x: u8) => assert!(jet::is_zero_8(x)), Right(y: u16) => assert!(jet::is_zero_16(y)), } }`
abbrev pub either_witness_nodes : List Node
either_witness_nodes = node.Witness ∷ node.Iden ∷ node.Pair 0 1 ∷ node.Iden ∷ node.Take 3 ∷ node.Iden ∷ node.Take 5 ∷ node.Iden ∷ node.Pair 6 7 ∷ node.Drop 5 ∷ node.Drop 9 ∷ node.UnitNode ∷ node.Injr 11 ∷ node.Drop 12 ∷ node.Case 10 13 ∷ node.Comp 8 14 ∷ node.Take 15 ∷ node.Iden ∷ node.Pair 16 17 ∷ node.Drop 15 ∷ node.Drop 19 ∷ node.UnitNode ∷ node.Injr 21 ∷ node.Drop 22 ∷ node.Case 20 23 ∷ node.Comp 18 24 ∷ node.Take 25 ∷ node.Pair 26 3 ∷ node.Drop 25 ∷ node.Drop 28 ∷ node.UnitNode ∷ node.Injr 30 ∷ node.Drop 31 ∷ node.Case 29 32 ∷ node.Comp 27 33 ∷ node.UnitNode ∷ node.Pair 5 35 ∷ node.UnitNode ∷ node.Injr 37 ∷ node.Injl 37 ∷ node.Case 38 39 ∷ node.Comp 36 40 ∷ node.Comp 34 41 ∷ node.Comp 4 42 ∷ node.UnitNode ∷ node.Pair 43 44 ∷ node.Hidden fail_root ∷ node.Case 46 37 ∷ node.Comp 45 47 ∷ node.Iden ∷ node.Take 49 ∷ node.Take 34 ∷ node.Pair 51 49 ∷ node.Drop 34 ∷ node.Drop 53 ∷ node.UnitNode ∷ node.Injr 55 ∷ node.Drop 56 ∷ node.Case 54 57 ∷ node.Comp 52 58 ∷ node.Comp 59 41 ∷ node.Comp 50 60 ∷ node.UnitNode ∷ node.Pair 61 62 ∷ node.Comp 63 47 ∷ node.Case 48 64 ∷ node.Comp 2 65 ∷ []

abbrev either_witness_typing : Typing
either_witness_typing = shown One (Sum w3 w4) ∷ shown One One ∷ shown One (Product (Sum w3 w4) One) ∷ shown w3 w3 ∷ shown (Product w3 One) w3 ∷ shown w0 w0 ∷ shown w1 w0 ∷ shown w1 w1 ∷ shown w1 (Product w0 w1) ∷ shown w1 w0 ∷ shown (Product One w1) w0 ∷ shown w1 One ∷ shown w1 w0 ∷ shown (Product One w1) w0 ∷ shown (Product w0 w1) w0 ∷ shown w1 w0 ∷ shown w2 w0 ∷ shown w2 w2 ∷ shown w2 (Product w0 w2) ∷ shown w2 w0 ∷ shown (Product One w2) w0 ∷ shown w2 One ∷ shown w2 w0 ∷ shown (Product One w2) w0 ∷ shown (Product w0 w2) w0 ∷ shown w2 w0 ∷ shown w3 w0 ∷ shown w3 (Product w0 w3) ∷ shown w3 w0 ∷ shown (Product One w3) w0 ∷ shown w3 One ∷ shown w3 w0 ∷ shown (Product One w3) w0 ∷ shown (Product w0 w3) w0 ∷ shown w3 w0 ∷ shown w0 One ∷ shown w0 (Product w0 One) ∷ shown (Product One One) One ∷ shown (Product One One) w0 ∷ shown (Product One One) w0 ∷ shown (Product w0 One) w0 ∷ shown w0 w0 ∷ shown w3 w0 ∷ shown (Product w3 One) w0 ∷ shown (Product w3 One) One ∷ shown (Product w3 One) (Product w0 One) ∷ None ∷ shown (Product w0 One) One ∷ shown (Product w3 One) One ∷ shown w4 w4 ∷ shown (Product w4 One) w4 ∷ shown w4 w0 ∷ shown w4 (Product w0 w4) ∷ shown w4 w0 ∷ shown (Product One w4) w0 ∷ shown w4 One ∷ shown w4 w0 ∷ shown (Product One w4) w0 ∷ shown (Product w0 w4) w0 ∷ shown w4 w0 ∷ shown w4 w0 ∷ shown (Product w4 One) w0 ∷ shown (Product w4 One) One ∷ shown (Product w4 One) (Product w0 One) ∷ shown (Product w4 One) One ∷ shown (Product (Sum w3 w4) One) One ∷ shown One One ∷ []

abbrev either_witness_bytes : List ℕ
either_witness_bytes = 228 ∷ 27 ∷ 160 ∷ 80 ∷ 131 ∷ 16 ∷ 98 ∷ 5 ∷ 7 ∷ 192 ∷ 228 ∷ 148 ∷ 112 ∷ 112 ∷ 3 ∷ 49 ∷ 136 ∷ 20 ∷ 31 ∷ 3 ∷ 146 ∷ 81 ∷ 193 ∷ 192 ∷ 12 ∷ 198 ∷ 9 ∷ 194 ∷ 15 ∷ 78 ∷ 73 ∷ 71 ∷ 7 ∷ 0 ∷ 51 ∷ 36 ∷ 92 ∷ 60 ∷ 146 ∷ 137 ∷ 3 ∷ 0 ∷ 196 ∷ 13 ∷ 0 ∷ 113 ∷ 57 ∷ 34 ∷ 134 ∷ 47 ∷ 113 ∷ 104 ∷ 173 ∷ 146 ∷ 210 ∷ 110 ∷ 122 ∷ 12 ∷ 31 ∷ 181 ∷ 177 ∷ 198 ∷ 248 ∷ 6 ∷ 81 ∷ 201 ∷ 9 ∷ 84 ∷ 137 ∷ 235 ∷ 168 ∷ 176 ∷ 193 ∷ 199 ∷ 130 ∷ 144 ∷ 4 ∷ 141 ∷ 180 ∷ 224 ∷ 159 ∷ 11 ∷ 80 ∷ 41 ∷ 6 ∷ 27 ∷ 128 ∷ 137 ∷ 79 ∷ 192 ∷ 206 ∷ 73 ∷ 71 ∷ 7 ∷ 0 ∷ 51 ∷ 1 ∷ 192 ∷ 193 ∷ 172 ∷ 145 ∷ 64 ∷ 28 ∷ 4 ∷ 60 ∷ 4 ∷ 14 ∷ 64 ∷ 0 ∷ []

either_witness_spelled : Spelled either_witness_bytes either_witness_nodes
either_witness_spelled = spells either_witness_bytes either_witness_nodes 6 (tt, (tt, ((tt, tt), (tt, (tt, (tt, (tt, (tt, ((tt, tt), (tt, (tt, (tt, (tt, (tt, (tt, ((tt, tt), (tt, (tt, ((tt, tt), (tt, (tt, (tt, (tt, (tt, (tt, ((tt, tt), (tt, ((tt, tt), (tt, (tt, (tt, (tt, (tt, (tt, ((tt, tt), (tt, ((tt, tt), (tt, (tt, (tt, (tt, ((tt, tt), ((tt, tt), ((tt, tt), (tt, ((tt, tt), (tt, (tt, ((tt, tt), (tt, (tt, (tt, ((tt, tt), (tt, (tt, (tt, (tt, (tt, (tt, ((tt, tt), ((tt, tt), ((tt, tt), (tt, ((tt, tt), ((tt, tt), (tt, ((tt, tt), tt))))))))))))))))))))))))))))))))))))))))))))))))))))))))))))))))))) (tt, omega arith) (omega arith) refl refl

either_witness_ordered : IsOrdered either_witness_nodes
either_witness_ordered = refl

either_witness_typed : IsTypingAt either_witness_nodes (arrow One One) either_witness_typing
either_witness_typed = record { typed = (row.Witness One (Sum w3 w4), (row.Iden One, (row.Pair 0 1 One (Sum w3 w4) One refl refl, (row.Iden w3, (row.Take 3 w3 One w3 refl, (row.Iden w0, (row.Take 5 w0 w0 w0 refl, (row.Iden w1, (row.Pair 6 7 w1 w0 w1 refl refl, (row.Drop 5 w0 w0 w0 refl, (row.Drop 9 One w1 w0 refl, (row.UnitNode w1, (row.Injr 11 w1 One One refl, (row.Drop 12 One w1 w0 refl, (row.Case 10 13 One One w1 w0 refl refl, (row.Comp 8 14 w1 (Product w0 w1) w0 refl refl, (row.Take 15 w1 w1 w0 refl, (row.Iden w2, (row.Pair 16 17 w2 w0 w2 refl refl, (row.Drop 15 w1 w1 w0 refl, (row.Drop 19 One w2 w0 refl, (row.UnitNode w2, (row.Injr 21 w2 One One refl, (row.Drop 22 One w2 w0 refl, (row.Case 20 23 One One w2 w0 refl refl, (row.Comp 18 24 w2 (Product w0 w2) w0 refl refl, (row.Take 25 w2 w2 w0 refl, (row.Pair 26 3 w3 w0 w3 refl refl, (row.Drop 25 w2 w2 w0 refl, (row.Drop 28 One w3 w0 refl, (row.UnitNode w3, (row.Injr 30 w3 One One refl, (row.Drop 31 One w3 w0 refl, (row.Case 29 32 One One w3 w0 refl refl, (row.Comp 27 33 w3 (Product w0 w3) w0 refl refl, (row.UnitNode w0, (row.Pair 5 35 w0 w0 One refl refl, (row.UnitNode (Product One One), (row.Injr 37 (Product One One) One One refl, (row.Injl 37 (Product One One) One One refl, (row.Case 38 39 One One One w0 refl refl, (row.Comp 36 40 w0 (Product w0 One) w0 refl refl, (row.Comp 34 41 w3 w0 w0 refl refl, (row.Comp 4 42 (Product w3 One) w3 w0 refl refl, (row.UnitNode (Product w3 One), (row.Pair 43 44 (Product w3 One) w0 One refl refl, (tt, (row.AssertR 46 37 One One One One refl refl, (row.Comp 45 47 (Product w3 One) (Product w0 One) One refl refl, (row.Iden w4, (row.Take 49 w4 One w4 refl, (row.Take 34 w3 w3 w0 refl, (row.Pair 51 49 w4 w0 w4 refl refl, (row.Drop 34 w3 w3 w0 refl, (row.Drop 53 One w4 w0 refl, (row.UnitNode w4, (row.Injr 55 w4 One One refl, (row.Drop 56 One w4 w0 refl, (row.Case 54 57 One One w4 w0 refl refl, (row.Comp 52 58 w4 (Product w0 w4) w0 refl refl, (row.Comp 59 41 w4 w0 w0 refl refl, (row.Comp 50 60 (Product w4 One) w4 w0 refl refl, (row.UnitNode (Product w4 One), (row.Pair 61 62 (Product w4 One) w0 One refl refl, (row.Comp 63 47 (Product w4 One) (Product w0 One) One refl refl, (row.Case 48 64 w3 w4 One One refl refl, (row.Comp 2 65 One (Product (Sum w3 w4) One) One refl refl, tt))))))))))))))))))))))))))))))))))))))))))))))))))))))))))))))))))); rooted = refl }

either_witness_shared : IsShared either_witness_nodes either_witness_typing
either_witness_shared = shared_by mark_with either_witness_nodes either_witness_typing refl

either_witness_run : Runs (record { nodes = either_witness_nodes; typing = either_witness_typing; witness = Inl (word_value 3 0) ∷ [] }) UnitValue One UnitValue (totals 136 244 44 9)
either_witness_run = runs 408 (record { nodes = either_witness_nodes; typing = either_witness_typing; witness = Inl (word_value 3 0) ∷ [] }) UnitValue One UnitValue (totals 136 244 44 9) refl refl refl

either_witness_run_other : Runs (record { nodes = either_witness_nodes; typing = either_witness_typing; witness = Inr (word_value 4 0) ∷ [] }) UnitValue One UnitValue (totals 248 460 69 10)
either_witness_run_other = runs 744 (record { nodes = either_witness_nodes; typing = either_witness_typing; witness = Inr (word_value 4 0) ∷ [] }) UnitValue One UnitValue (totals 248 460 69 10) refl refl refl

-- the same pruned by its left zero
abbrev left_pruned_nodes : List Node
left_pruned_nodes = node.Witness ∷ node.Iden ∷ node.Pair 0 1 ∷ node.Iden ∷ node.Take 3 ∷ node.Iden ∷ node.Take 5 ∷ node.Iden ∷ node.Pair 6 7 ∷ node.Drop 5 ∷ node.Drop 9 ∷ node.Hidden drop_true_root ∷ node.Case 10 11 ∷ node.Comp 8 12 ∷ node.Take 13 ∷ node.Iden ∷ node.Pair 14 15 ∷ node.Drop 13 ∷ node.Drop 17 ∷ node.Case 18 11 ∷ node.Comp 16 19 ∷ node.Take 20 ∷ node.Pair 21 3 ∷ node.Drop 20 ∷ node.Drop 23 ∷ node.Case 24 11 ∷ node.Comp 22 25 ∷ node.UnitNode ∷ node.Pair 5 27 ∷ node.UnitNode ∷ node.Injr 29 ∷ node.Hidden false_root ∷ node.Case 30 31 ∷ node.Comp 28 32 ∷ node.Comp 26 33 ∷ node.Comp 4 34 ∷ node.UnitNode ∷ node.Pair 35 36 ∷ node.Hidden fail_root ∷ node.Case 38 29 ∷ node.Comp 37 39 ∷ node.Hidden right_root ∷ node.Case 40 41 ∷ node.Comp 2 42 ∷ []

abbrev left_pruned_typing : Typing
left_pruned_typing = shown One (Sum w3 One) ∷ shown One One ∷ shown One (Product (Sum w3 One) One) ∷ shown w3 w3 ∷ shown (Product w3 One) w3 ∷ shown w0 w0 ∷ shown w1 w0 ∷ shown w1 w1 ∷ shown w1 (Product w0 w1) ∷ shown w1 w0 ∷ shown (Product One w1) w0 ∷ None ∷ shown (Product w0 w1) w0 ∷ shown w1 w0 ∷ shown w2 w0 ∷ shown w2 w2 ∷ shown w2 (Product w0 w2) ∷ shown w2 w0 ∷ shown (Product One w2) w0 ∷ shown (Product w0 w2) w0 ∷ shown w2 w0 ∷ shown w3 w0 ∷ shown w3 (Product w0 w3) ∷ shown w3 w0 ∷ shown (Product One w3) w0 ∷ shown (Product w0 w3) w0 ∷ shown w3 w0 ∷ shown w0 One ∷ shown w0 (Product w0 One) ∷ shown (Product One One) One ∷ shown (Product One One) w0 ∷ None ∷ shown (Product w0 One) w0 ∷ shown w0 w0 ∷ shown w3 w0 ∷ shown (Product w3 One) w0 ∷ shown (Product w3 One) One ∷ shown (Product w3 One) (Product w0 One) ∷ None ∷ shown (Product w0 One) One ∷ shown (Product w3 One) One ∷ None ∷ shown (Product (Sum w3 One) One) One ∷ shown One One ∷ []

abbrev left_pruned_bytes : List ℕ
left_pruned_bytes = 226 ∷ 199 ∷ 64 ∷ 161 ∷ 6 ∷ 32 ∷ 196 ∷ 10 ∷ 15 ∷ 129 ∷ 205 ∷ 155 ∷ 6 ∷ 6 ∷ 122 ∷ 5 ∷ 80 ∷ 7 ∷ 200 ∷ 195 ∷ 141 ∷ 117 ∷ 208 ∷ 204 ∷ 113 ∷ 131 ∷ 186 ∷ 94 ∷ 37 ∷ 220 ∷ 141 ∷ 38 ∷ 107 ∷ 38 ∷ 254 ∷ 109 ∷ 26 ∷ 211 ∷ 22 ∷ 135 ∷ 98 ∷ 124 ∷ 8 ∷ 24 ∷ 6 ∷ 35 ∷ 16 ∷ 40 ∷ 62 ∷ 7 ∷ 5 ∷ 160 ∷ 24 ∷ 12 ∷ 19 ∷ 129 ∷ 158 ∷ 156 ∷ 22 ∷ 224 ∷ 96 ∷ 72 ∷ 184 ∷ 57 ∷ 37 ∷ 49 ∷ 225 ∷ 251 ∷ 224 ∷ 21 ∷ 109 ∷ 221 ∷ 79 ∷ 32 ∷ 144 ∷ 101 ∷ 246 ∷ 100 ∷ 235 ∷ 218 ∷ 147 ∷ 174 ∷ 80 ∷ 213 ∷ 50 ∷ 170 ∷ 76 ∷ 218 ∷ 146 ∷ 143 ∷ 22 ∷ 51 ∷ 228 ∷ 194 ∷ 38 ∷ 240 ∷ 199 ∷ 16 ∷ 96 ∷ 24 ∷ 129 ∷ 160 ∷ 14 ∷ 30 ∷ 72 ∷ 161 ∷ 139 ∷ 220 ∷ 90 ∷ 43 ∷ 100 ∷ 180 ∷ 155 ∷ 158 ∷ 131 ∷ 7 ∷ 237 ∷ 108 ∷ 113 ∷ 190 ∷ 1 ∷ 148 ∷ 114 ∷ 66 ∷ 85 ∷ 34 ∷ 122 ∷ 234 ∷ 44 ∷ 48 ∷ 113 ∷ 224 ∷ 164 ∷ 1 ∷ 35 ∷ 109 ∷ 56 ∷ 39 ∷ 194 ∷ 212 ∷ 10 ∷ 108 ∷ 63 ∷ 139 ∷ 31 ∷ 31 ∷ 35 ∷ 76 ∷ 228 ∷ 15 ∷ 213 ∷ 27 ∷ 145 ∷ 254 ∷ 189 ∷ 221 ∷ 160 ∷ 119 ∷ 84 ∷ 211 ∷ 135 ∷ 94 ∷ 15 ∷ 58 ∷ 102 ∷ 218 ∷ 25 ∷ 238 ∷ 102 ∷ 166 ∷ 137 ∷ 73 ∷ 170 ∷ 0 ∷ 192 ∷ 56 ∷ 164 ∷ []

left_pruned_spelled : Spelled left_pruned_bytes left_pruned_nodes
left_pruned_spelled = spells left_pruned_bytes left_pruned_nodes 1 (tt, (tt, ((tt, tt), (tt, (tt, (tt, (tt, (tt, ((tt, tt), (tt, (tt, (tt, (tt, ((tt, tt), (tt, (tt, ((tt, tt), (tt, (tt, (tt, ((tt, tt), (tt, ((tt, tt), (tt, (tt, (tt, ((tt, tt), (tt, ((tt, tt), (tt, (tt, (tt, (tt, ((tt, tt), ((tt, tt), ((tt, tt), (tt, ((tt, tt), (tt, (tt, ((tt, tt), (tt, (tt, ((tt, tt), tt)))))))))))))))))))))))))))))))))))))))))))) (tt, omega arith) (omega arith) refl refl

left_pruned_ordered : IsOrdered left_pruned_nodes
left_pruned_ordered = refl

left_pruned_typed : IsTypingAt left_pruned_nodes (arrow One One) left_pruned_typing
left_pruned_typed = record { typed = (row.Witness One (Sum w3 One), (row.Iden One, (row.Pair 0 1 One (Sum w3 One) One refl refl, (row.Iden w3, (row.Take 3 w3 One w3 refl, (row.Iden w0, (row.Take 5 w0 w0 w0 refl, (row.Iden w1, (row.Pair 6 7 w1 w0 w1 refl refl, (row.Drop 5 w0 w0 w0 refl, (row.Drop 9 One w1 w0 refl, (tt, (row.AssertL 10 11 One One w1 w0 refl refl, (row.Comp 8 12 w1 (Product w0 w1) w0 refl refl, (row.Take 13 w1 w1 w0 refl, (row.Iden w2, (row.Pair 14 15 w2 w0 w2 refl refl, (row.Drop 13 w1 w1 w0 refl, (row.Drop 17 One w2 w0 refl, (row.AssertL 18 11 One One w2 w0 refl refl, (row.Comp 16 19 w2 (Product w0 w2) w0 refl refl, (row.Take 20 w2 w2 w0 refl, (row.Pair 21 3 w3 w0 w3 refl refl, (row.Drop 20 w2 w2 w0 refl, (row.Drop 23 One w3 w0 refl, (row.AssertL 24 11 One One w3 w0 refl refl, (row.Comp 22 25 w3 (Product w0 w3) w0 refl refl, (row.UnitNode w0, (row.Pair 5 27 w0 w0 One refl refl, (row.UnitNode (Product One One), (row.Injr 29 (Product One One) One One refl, (tt, (row.AssertL 30 31 One One One w0 refl refl, (row.Comp 28 32 w0 (Product w0 One) w0 refl refl, (row.Comp 26 33 w3 w0 w0 refl refl, (row.Comp 4 34 (Product w3 One) w3 w0 refl refl, (row.UnitNode (Product w3 One), (row.Pair 35 36 (Product w3 One) w0 One refl refl, (tt, (row.AssertR 38 29 One One One One refl refl, (row.Comp 37 39 (Product w3 One) (Product w0 One) One refl refl, (tt, (row.AssertL 40 41 w3 One One One refl refl, (row.Comp 2 42 One (Product (Sum w3 One) One) One refl refl, tt)))))))))))))))))))))))))))))))))))))))))))); rooted = refl }

left_pruned_shared : IsShared left_pruned_nodes left_pruned_typing
left_pruned_shared = shared_by mark_with left_pruned_nodes left_pruned_typing refl

left_pruned_run : Runs (record { nodes = left_pruned_nodes; typing = left_pruned_typing; witness = Inl (word_value 3 0) ∷ [] }) UnitValue One UnitValue (totals 136 228 36 9)
left_pruned_run = runs 408 (record { nodes = left_pruned_nodes; typing = left_pruned_typing; witness = Inl (word_value 3 0) ∷ [] }) UnitValue One UnitValue (totals 136 228 36 9) refl refl refl

-- and by its right zero
abbrev right_pruned_nodes : List Node
right_pruned_nodes = node.Witness ∷ node.Iden ∷ node.Pair 0 1 ∷ node.Hidden left_root ∷ node.Iden ∷ node.Take 4 ∷ node.Iden ∷ node.Take 6 ∷ node.Iden ∷ node.Pair 7 8 ∷ node.Drop 6 ∷ node.Drop 10 ∷ node.Hidden drop_true_root ∷ node.Case 11 12 ∷ node.Comp 9 13 ∷ node.Take 14 ∷ node.Iden ∷ node.Pair 15 16 ∷ node.Drop 14 ∷ node.Drop 18 ∷ node.Case 19 12 ∷ node.Comp 17 20 ∷ node.Take 21 ∷ node.Iden ∷ node.Pair 22 23 ∷ node.Drop 21 ∷ node.Drop 25 ∷ node.Case 26 12 ∷ node.Comp 24 27 ∷ node.Take 28 ∷ node.Pair 29 4 ∷ node.Drop 28 ∷ node.Drop 31 ∷ node.Case 32 12 ∷ node.Comp 30 33 ∷ node.UnitNode ∷ node.Pair 6 35 ∷ node.UnitNode ∷ node.Injr 37 ∷ node.Hidden false_root ∷ node.Case 38 39 ∷ node.Comp 36 40 ∷ node.Comp 34 41 ∷ node.Comp 5 42 ∷ node.UnitNode ∷ node.Pair 43 44 ∷ node.Hidden fail_root ∷ node.Case 46 37 ∷ node.Comp 45 47 ∷ node.Case 3 48 ∷ node.Comp 2 49 ∷ []

abbrev right_pruned_typing : Typing
right_pruned_typing = shown One (Sum One w4) ∷ shown One One ∷ shown One (Product (Sum One w4) One) ∷ None ∷ shown w4 w4 ∷ shown (Product w4 One) w4 ∷ shown w0 w0 ∷ shown w1 w0 ∷ shown w1 w1 ∷ shown w1 (Product w0 w1) ∷ shown w1 w0 ∷ shown (Product One w1) w0 ∷ None ∷ shown (Product w0 w1) w0 ∷ shown w1 w0 ∷ shown w2 w0 ∷ shown w2 w2 ∷ shown w2 (Product w0 w2) ∷ shown w2 w0 ∷ shown (Product One w2) w0 ∷ shown (Product w0 w2) w0 ∷ shown w2 w0 ∷ shown w3 w0 ∷ shown w3 w3 ∷ shown w3 (Product w0 w3) ∷ shown w3 w0 ∷ shown (Product One w3) w0 ∷ shown (Product w0 w3) w0 ∷ shown w3 w0 ∷ shown w4 w0 ∷ shown w4 (Product w0 w4) ∷ shown w4 w0 ∷ shown (Product One w4) w0 ∷ shown (Product w0 w4) w0 ∷ shown w4 w0 ∷ shown w0 One ∷ shown w0 (Product w0 One) ∷ shown (Product One One) One ∷ shown (Product One One) w0 ∷ None ∷ shown (Product w0 One) w0 ∷ shown w0 w0 ∷ shown w4 w0 ∷ shown (Product w4 One) w0 ∷ shown (Product w4 One) One ∷ shown (Product w4 One) (Product w0 One) ∷ None ∷ shown (Product w0 One) One ∷ shown (Product w4 One) One ∷ shown (Product (Sum One w4) One) One ∷ shown One One ∷ []

abbrev right_pruned_bytes : List ℕ
right_pruned_bytes = 227 ∷ 55 ∷ 64 ∷ 161 ∷ 175 ∷ 251 ∷ 22 ∷ 58 ∷ 220 ∷ 123 ∷ 237 ∷ 87 ∷ 104 ∷ 98 ∷ 69 ∷ 208 ∷ 86 ∷ 164 ∷ 103 ∷ 222 ∷ 218 ∷ 186 ∷ 37 ∷ 110 ∷ 107 ∷ 212 ∷ 239 ∷ 247 ∷ 10 ∷ 33 ∷ 239 ∷ 40 ∷ 104 ∷ 145 ∷ 146 ∷ 69 ∷ 80 ∷ 98 ∷ 12 ∷ 64 ∷ 160 ∷ 248 ∷ 28 ∷ 217 ∷ 176 ∷ 96 ∷ 103 ∷ 160 ∷ 85 ∷ 0 ∷ 124 ∷ 140 ∷ 56 ∷ 215 ∷ 93 ∷ 12 ∷ 199 ∷ 24 ∷ 59 ∷ 165 ∷ 226 ∷ 93 ∷ 200 ∷ 210 ∷ 102 ∷ 178 ∷ 111 ∷ 230 ∷ 209 ∷ 173 ∷ 49 ∷ 104 ∷ 118 ∷ 39 ∷ 192 ∷ 129 ∷ 128 ∷ 98 ∷ 49 ∷ 2 ∷ 131 ∷ 224 ∷ 112 ∷ 90 ∷ 1 ∷ 128 ∷ 196 ∷ 10 ∷ 15 ∷ 129 ∷ 193 ∷ 111 ∷ 6 ∷ 3 ∷ 4 ∷ 225 ∷ 71 ∷ 167 ∷ 5 ∷ 193 ∷ 65 ∷ 129 ∷ 34 ∷ 225 ∷ 196 ∷ 148 ∷ 199 ∷ 135 ∷ 239 ∷ 128 ∷ 85 ∷ 183 ∷ 117 ∷ 60 ∷ 130 ∷ 65 ∷ 151 ∷ 217 ∷ 147 ∷ 175 ∷ 106 ∷ 78 ∷ 185 ∷ 67 ∷ 84 ∷ 202 ∷ 169 ∷ 51 ∷ 106 ∷ 74 ∷ 60 ∷ 88 ∷ 207 ∷ 147 ∷ 8 ∷ 155 ∷ 195 ∷ 28 ∷ 65 ∷ 128 ∷ 98 ∷ 6 ∷ 128 ∷ 56 ∷ 152 ∷ 145 ∷ 67 ∷ 23 ∷ 184 ∷ 180 ∷ 86 ∷ 201 ∷ 105 ∷ 55 ∷ 61 ∷ 6 ∷ 15 ∷ 218 ∷ 216 ∷ 227 ∷ 124 ∷ 3 ∷ 40 ∷ 228 ∷ 132 ∷ 170 ∷ 68 ∷ 245 ∷ 212 ∷ 88 ∷ 96 ∷ 227 ∷ 193 ∷ 72 ∷ 2 ∷ 70 ∷ 218 ∷ 112 ∷ 79 ∷ 133 ∷ 168 ∷ 20 ∷ 30 ∷ 46 ∷ 3 ∷ 140 ∷ 0 ∷ []

right_pruned_spelled : Spelled right_pruned_bytes right_pruned_nodes
right_pruned_spelled = spells right_pruned_bytes right_pruned_nodes 5 (tt, (tt, ((tt, tt), (tt, (tt, (tt, (tt, (tt, (tt, ((tt, tt), (tt, (tt, (tt, (tt, ((tt, tt), (tt, (tt, ((tt, tt), (tt, (tt, (tt, ((tt, tt), (tt, (tt, ((tt, tt), (tt, (tt, (tt, ((tt, tt), (tt, ((tt, tt), (tt, (tt, (tt, ((tt, tt), (tt, ((tt, tt), (tt, (tt, (tt, (tt, ((tt, tt), ((tt, tt), ((tt, tt), (tt, ((tt, tt), (tt, (tt, ((tt, tt), (tt, ((tt, tt), tt))))))))))))))))))))))))))))))))))))))))))))))))))) (tt, omega arith) (omega arith) refl refl

right_pruned_ordered : IsOrdered right_pruned_nodes
right_pruned_ordered = refl

right_pruned_typed : IsTypingAt right_pruned_nodes (arrow One One) right_pruned_typing
right_pruned_typed = record { typed = (row.Witness One (Sum One w4), (row.Iden One, (row.Pair 0 1 One (Sum One w4) One refl refl, (tt, (row.Iden w4, (row.Take 4 w4 One w4 refl, (row.Iden w0, (row.Take 6 w0 w0 w0 refl, (row.Iden w1, (row.Pair 7 8 w1 w0 w1 refl refl, (row.Drop 6 w0 w0 w0 refl, (row.Drop 10 One w1 w0 refl, (tt, (row.AssertL 11 12 One One w1 w0 refl refl, (row.Comp 9 13 w1 (Product w0 w1) w0 refl refl, (row.Take 14 w1 w1 w0 refl, (row.Iden w2, (row.Pair 15 16 w2 w0 w2 refl refl, (row.Drop 14 w1 w1 w0 refl, (row.Drop 18 One w2 w0 refl, (row.AssertL 19 12 One One w2 w0 refl refl, (row.Comp 17 20 w2 (Product w0 w2) w0 refl refl, (row.Take 21 w2 w2 w0 refl, (row.Iden w3, (row.Pair 22 23 w3 w0 w3 refl refl, (row.Drop 21 w2 w2 w0 refl, (row.Drop 25 One w3 w0 refl, (row.AssertL 26 12 One One w3 w0 refl refl, (row.Comp 24 27 w3 (Product w0 w3) w0 refl refl, (row.Take 28 w3 w3 w0 refl, (row.Pair 29 4 w4 w0 w4 refl refl, (row.Drop 28 w3 w3 w0 refl, (row.Drop 31 One w4 w0 refl, (row.AssertL 32 12 One One w4 w0 refl refl, (row.Comp 30 33 w4 (Product w0 w4) w0 refl refl, (row.UnitNode w0, (row.Pair 6 35 w0 w0 One refl refl, (row.UnitNode (Product One One), (row.Injr 37 (Product One One) One One refl, (tt, (row.AssertL 38 39 One One One w0 refl refl, (row.Comp 36 40 w0 (Product w0 One) w0 refl refl, (row.Comp 34 41 w4 w0 w0 refl refl, (row.Comp 5 42 (Product w4 One) w4 w0 refl refl, (row.UnitNode (Product w4 One), (row.Pair 43 44 (Product w4 One) w0 One refl refl, (tt, (row.AssertR 46 37 One One One One refl refl, (row.Comp 45 47 (Product w4 One) (Product w0 One) One refl refl, (row.AssertR 3 48 One w4 One One refl refl, (row.Comp 2 49 One (Product (Sum One w4) One) One refl refl, tt))))))))))))))))))))))))))))))))))))))))))))))))))); rooted = refl }

right_pruned_shared : IsShared right_pruned_nodes right_pruned_typing
right_pruned_shared = shared_by mark_with right_pruned_nodes right_pruned_typing refl

right_pruned_run : Runs (record { nodes = right_pruned_nodes; typing = right_pruned_typing; witness = Inr (word_value 4 0) ∷ [] }) UnitValue One UnitValue (totals 248 460 69 10)
right_pruned_run = runs 744 (record { nodes = right_pruned_nodes; typing = right_pruned_typing; witness = Inr (word_value 4 0) ∷ [] }) UnitValue One UnitValue (totals 248 460 69 10) refl refl refl
